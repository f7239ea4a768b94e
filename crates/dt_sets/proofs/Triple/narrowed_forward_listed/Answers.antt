use Rattle.std.proofs.Common.{sym, ap, ◌∙◌, subst}
use Rattle.dt_sets.specs.declared.Triple.{Triple}
use Rattle.dt_sets.specs.Triple.{IsTriple}
use Rattle.dt_sets.specs.TripleLaws.Calls.{forward_is}
use Rattle.dt_sets.proofs.Triple.narrowed_forward_listed.Goals as goal

pub narrowed_to-requires-clause-other_is : goal.narrowed_to-requires-clause-other_is
narrowed_to-requires-clause-other_is c = subst IsTriple (sym c.forward.ensures) (forward_is c.args.op c.args.a.now c.args.b.now c.args.c.now c.requires.fitting).0

pub narrowed_to-requires-clause-widths : goal.narrowed_to-requires-clause-widths
narrowed_to-requires-clause-widths c =
    c.requires.width ∙ sym (ap (λ (t : Triple). t.known.width) c.forward.ensures ∙ (forward_is c.args.op c.args.a.now c.args.b.now c.args.c.now c.requires.fitting).1)
