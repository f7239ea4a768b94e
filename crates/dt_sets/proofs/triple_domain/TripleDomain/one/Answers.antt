use Rattle.std.proofs.Common.{◌∙◌}
use Rattle.dt_lemmas.proofs.Equalities.{two}
use Rattle.dt_pair.specs.Pair.{pair_one}
use Rattle.dt_sets.specs.Sets.{sets_one}
use Rattle.dt_sets.specs.Triple.{reduced}
use Rattle.dt_sets.specs.TripleLaws.Calls.{one_red}
use Rattle.dt_sets.proofs.Triples.{same_red}
use Rattle.dt_sets.proofs.triple_domain.TripleDomain.one.Goals as goal

pub reduced-requires : goal.reduced-requires
reduced-requires c = same_red c.one-pair.result (pair_one c.args.value) c.one-sets.result (sets_one c.args.value) c.one-pair.ensures c.one-sets.ensures (one_red c.args.value c.requires)

pub returns : goal.returns
returns c = c.reduced.ensures ∙ two reduced c.one-pair.ensures c.one-sets.ensures
