use Rattle.std.proofs.Common.{◌≡◌, ℕ, ◌<◌, List, length, set, sym, ap, ◌∙◌, subst, arith, MatchOption}
use Rattle.std.proofs.lemmas.List.{get_or_read}
use Rattle.dt_bits.specs.Bits.{width}
use Rattle.dt_terms.specs.Terms.{AreTerms}
use Rattle.dt_box.specs.declared.step.Step.TheVariants.{Forward, Backward}
use Rattle.dt_box.specs.Cells.{cell_at, AreCells}
use Rattle.dt_box.specs.Steps.{IsStep, target, narrowed}
use Rattle.dt_box.specs.Trails.{IsKept}
use Rattle.dt_box.proofs.Steps.{step_cells}
use Rattle.dt_box.proofs.Narrowing.{put_met}
use Rattle.dt_box.proofs.Trails.{kept_put, are_put}
use Rattle.dt_box.proofs.cells.Cells.apply_kept.Goals as goal

pub returns-in-Forward-clause-kept : goal.returns-in-Forward-clause-kept
returns-in-Forward-clause-kept g c =
    let D = g.row.D.Denot in
    let ops = g.D.Domain.ops in
    let cells = c.self.inside.cells.items in
    let terms = c.args.problem.now.terms in
    let s = Forward c.in-Forward.term in
    let t = c.target-at.result in
    let new = c.put_kept.new.cell in
    let longer = c.put_kept.new.changes.items in
    let read : c.as_slice-terms.result.now ≡ terms = c.as_slice-terms.ensures ∙ ap (λ p. p.terms) c.problem.view_is in
    let lent : c.deref.result.now ≡ cells = c.deref.ensures.value in
    let at : t ≡ target terms s = c.target-at.ensures ∙ ap (target c.as_slice-terms.result.now) c.in-Forward.is ∙ ap (λ ts. target ts s) read in
    let within : t < length cells = omega (arith, c.narrowed_forward.ensures.within, ap length lent, at, ap (λ ts. target ts s) read) in
    let old : c.index_mut.result.now ≡ cell_at ops cells t = get_or_read cells t _ within c.index_mut.ensures.value _ in
    let k = kept_put ops cells c.trail.inside.changes.items longer t new c.index_mut.result.now (ops.full (width 1)) c.put_kept.result within old
    c.put_kept.ensures.change c.put_kept.ensures.changes c.put_kept.ensures.err in
    subst (λ (ds : List D). IsKept ds c.args.trail.now (set cells t new) longer) c.self.view_is
    (subst (λ (xs : List (ℕ × D)). IsKept cells xs (set cells t new) longer) c.trail.view_is k)

pub returns-in-Forward-clause-are : goal.returns-in-Forward-clause-are
returns-in-Forward-clause-are g c =
    let D = g.row.D.Denot in
    let ops = g.D.Domain.ops in
    let cells = c.self.inside.cells.items in
    let terms = c.args.problem.now.terms in
    let s = Forward c.in-Forward.term in
    let t = c.target-at.result in
    let new = c.put_kept.new.cell in
    let longer = c.put_kept.new.changes.items in
    let read : c.as_slice-terms.result.now ≡ terms = c.as_slice-terms.ensures ∙ ap (λ p. p.terms) c.problem.view_is in
    let lent : c.deref.result.now ≡ cells = c.deref.ensures.value in
    let at : t ≡ target terms s = c.target-at.ensures ∙ ap (target c.as_slice-terms.result.now) c.in-Forward.is ∙ ap (λ ts. target ts s) read in
    let within : t < length cells = omega (arith, c.narrowed_forward.ensures.within, ap length lent, at, ap (λ ts. target ts s) read) in
    let old : c.index_mut.result.now ≡ cell_at ops cells t = get_or_read cells t _ within c.index_mut.ensures.value _ in
    let right : AreTerms terms = subst (λ p. AreTerms p.terms) c.problem.view_is c.problem.invariant.0.terms in
    let now : AreCells ops terms cells = subst (AreCells ops terms) (sym c.self.view_is) c.requires.cells in
    let made = narrowed ops terms s cells in
    let after : AreCells ops terms (set cells t made) =
    subst (λ u. AreCells ops terms (set cells u made)) (sym at) (step_cells D ops g.met.D.Domain.laws terms right s cells now (subst (IsStep terms) c.in-Forward.is c.requires.step)) in
    are_put ops (AreCells ops terms) (MatchOption c.narrowed_forward.result (new ≡ c.index_mut.result.now) (λ n. new ≡ n)) (longer ≡ c.trail.inside.changes.items) cells t new c.index_mut.result.now made (ops.full (width 1))
    c.put_kept.result within old c.put_kept.ensures.cell c.put_kept.ensures.err
    (put_met D ops c.as_slice-terms.result.now terms c.deref.result.now cells s c.index_mut.result.now new c.narrowed_forward.result read lent (old ∙ ap (cell_at ops cells) at) c.narrowed_forward.ensures.value)
    now after

pub returns-in-Backward-clause-kept : goal.returns-in-Backward-clause-kept
returns-in-Backward-clause-kept g c =
    let D = g.row.D.Denot in
    let ops = g.D.Domain.ops in
    let cells = c.self.inside.cells.items in
    let terms = c.args.problem.now.terms in
    let s = Backward c.in-Backward.parent c.in-Backward.place in
    let t = c.target-at.result in
    let new = c.put_kept-in-Backward.new.cell in
    let longer = c.put_kept-in-Backward.new.changes.items in
    let read : c.as_slice-terms.result.now ≡ terms = c.as_slice-terms.ensures ∙ ap (λ p. p.terms) c.problem.view_is in
    let lent : c.deref-in-Backward.result.now ≡ cells = c.deref-in-Backward.ensures.value in
    let at : t ≡ target terms s = c.target-at.ensures ∙ ap (target c.as_slice-terms.result.now) c.in-Backward.is ∙ ap (λ ts. target ts s) read in
    let within : t < length cells = omega (arith, c.narrowed_backward.ensures.within, ap length lent, at, ap (λ ts. target ts s) read) in
    let old : c.index_mut-in-Backward.result.now ≡ cell_at ops cells t = get_or_read cells t _ within c.index_mut-in-Backward.ensures.value _ in
    let k = kept_put ops cells c.trail.inside.changes.items longer t new c.index_mut-in-Backward.result.now (ops.full (width 1)) c.put_kept-in-Backward.result within old
    c.put_kept-in-Backward.ensures.change c.put_kept-in-Backward.ensures.changes c.put_kept-in-Backward.ensures.err in
    subst (λ (ds : List D). IsKept ds c.args.trail.now (set cells t new) longer) c.self.view_is
    (subst (λ (xs : List (ℕ × D)). IsKept cells xs (set cells t new) longer) c.trail.view_is k)

pub returns-in-Backward-clause-are : goal.returns-in-Backward-clause-are
returns-in-Backward-clause-are g c =
    let D = g.row.D.Denot in
    let ops = g.D.Domain.ops in
    let cells = c.self.inside.cells.items in
    let terms = c.args.problem.now.terms in
    let s = Backward c.in-Backward.parent c.in-Backward.place in
    let t = c.target-at.result in
    let new = c.put_kept-in-Backward.new.cell in
    let longer = c.put_kept-in-Backward.new.changes.items in
    let read : c.as_slice-terms.result.now ≡ terms = c.as_slice-terms.ensures ∙ ap (λ p. p.terms) c.problem.view_is in
    let lent : c.deref-in-Backward.result.now ≡ cells = c.deref-in-Backward.ensures.value in
    let at : t ≡ target terms s = c.target-at.ensures ∙ ap (target c.as_slice-terms.result.now) c.in-Backward.is ∙ ap (λ ts. target ts s) read in
    let within : t < length cells = omega (arith, c.narrowed_backward.ensures.within, ap length lent, at, ap (λ ts. target ts s) read) in
    let old : c.index_mut-in-Backward.result.now ≡ cell_at ops cells t = get_or_read cells t _ within c.index_mut-in-Backward.ensures.value _ in
    let right : AreTerms terms = subst (λ p. AreTerms p.terms) c.problem.view_is c.problem.invariant.0.terms in
    let now : AreCells ops terms cells = subst (AreCells ops terms) (sym c.self.view_is) c.requires.cells in
    let made = narrowed ops terms s cells in
    let after : AreCells ops terms (set cells t made) =
    subst (λ u. AreCells ops terms (set cells u made)) (sym at) (step_cells D ops g.met.D.Domain.laws terms right s cells now (subst (IsStep terms) c.in-Backward.is c.requires.step)) in
    are_put ops (AreCells ops terms) (MatchOption c.narrowed_backward.result (new ≡ c.index_mut-in-Backward.result.now) (λ n. new ≡ n)) (longer ≡ c.trail.inside.changes.items) cells t new c.index_mut-in-Backward.result.now made (ops.full (width 1))
    c.put_kept-in-Backward.result within old c.put_kept-in-Backward.ensures.cell c.put_kept-in-Backward.ensures.err
    (put_met D ops c.as_slice-terms.result.now terms c.deref-in-Backward.result.now cells s c.index_mut-in-Backward.result.now new c.narrowed_backward.result read lent (old ∙ ap (cell_at ops cells) at) c.narrowed_backward.ensures.value)
    now after
