use Rattle.std.proofs.Common.{sym, ◌∙◌}
use Rattle.dt_lemmas.proofs.Equalities.{two}
use Rattle.dt_sets.specs.Triple.{beside}
use Rattle.dt_sets.proofs.OneBits.{full_beside}
use Rattle.dt_sets.proofs.triple_domain.TripleDomain.full.Goals as goal

pub returns : goal.returns
returns c = two beside c.full.ensures c.full-2.ensures ∙ sym (full_beside c.args.width c.requires)
