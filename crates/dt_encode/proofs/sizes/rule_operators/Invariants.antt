use Rattle.std.proofs.Common.{◌≡◌, take}
use Rattle.std.specs.Prelude.{sum_by}
use Rattle.dt_model.specs.ModelData.{tree_of}
use Rattle.dt_model.specs.Widths.{operators}
use Rattle.dt_encode.proofs.sizes.rule_operators.Given as goal

abbrev pub invariant-loop-rule : goal.invariant-loop-rule
invariant-loop-rule l = l.total ≡ sum_by (λ e. operators (tree_of e)) (take l.rule-index l.rules)
