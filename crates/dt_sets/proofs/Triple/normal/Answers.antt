use Rattle.std.proofs.Common.{◌&&◌, sym, ap, ◌∙◌, subst}
use Rattle.dt_sets.specs.declared.Triple.{Triple}
use Rattle.dt_sets.specs.Sets.{sets_holds}
use Rattle.dt_sets.specs.Triple.{IsTriple, reduced, triple_holds}
use Rattle.dt_sets.specs.TripleLaws.Reduced.{reduced_is, reduced_width, reduced_holds, empty_holds, none_empty, canonical}
use Rattle.dt_sets.proofs.Triple.normal.Goals as goal

pub normal-requires : goal.normal-requires
normal-requires c = c.requires.parts

pub reduced-requires : goal.reduced-requires
reduced-requires c = (record { pair = c.normal.ensures.valid; sets = c.requires.sets; widths = c.normal.ensures.width ∙ c.requires.widths })

pub returns-clause-is : goal.returns-clause-is
returns-clause-is c = c.reduced.ensures ∙ ap (λ p. reduced p c.args.sets.now) c.normal.ensures.is

pub returns-clause-valid : goal.returns-clause-valid
returns-clause-valid c = subst IsTriple (sym c.reduced.ensures) (reduced_is c.normal.result c.args.sets.now (record { pair = c.normal.ensures.valid; sets = c.requires.sets; widths = c.normal.ensures.width ∙ c.requires.widths }))

pub returns-clause-width : goal.returns-clause-width
returns-clause-width c = ap (λ (t : Triple). t.known.width) c.reduced.ensures ∙ reduced_width c.normal.result c.args.sets.now (record { pair = c.normal.ensures.valid; sets = c.requires.sets; widths = c.normal.ensures.width ∙ c.requires.widths }) ∙ c.normal.ensures.width

pub returns-clause-held : goal.returns-clause-held
returns-clause-held c = λ x. ap (λ t. triple_holds t x) c.reduced.ensures ∙ reduced_holds c.normal.result c.args.sets.now x (record { pair = c.normal.ensures.valid; sets = c.requires.sets; widths = c.normal.ensures.width ∙ c.requires.widths })
    ∙ ap (λ b. b && sets_holds c.args.sets.now x) (c.normal.ensures.held x)

pub returns-clause-empty : goal.returns-clause-empty
returns-clause-empty c = (λ e x. empty_holds c.reduced.result x (returns-clause-valid c) e, λ h. none_empty c.reduced.result (returns-clause-valid c) h)

pub returns-clause-canonical : goal.returns-clause-canonical
returns-clause-canonical c = canonical c.reduced.result (returns-clause-valid c)
