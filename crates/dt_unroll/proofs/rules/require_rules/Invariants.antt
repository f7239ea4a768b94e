use Rattle.std.proofs.Common.{◌≡◌, [], map, drop}
use Rattle.dt_model.specs.ModelData.{tree_of}
use Rattle.dt_table.specs.Expressions.{form_of}
use Rattle.dt_build.specs.Building.{demanded}
use Rattle.dt_unroll.specs.Fronts.{named_of}
use Rattle.dt_unroll.proofs.rules.require_rules.Given as goal

abbrev pub invariant-loop-rule : goal.invariant-loop-rule
invariant-loop-rule l =
    demanded l.builder (map (λ e. form_of (named_of l.places []) (tree_of e)) (drop l.rule-index l.rules)) ≡ demanded l.initial.builder (map (λ e. form_of (named_of l.places []) (tree_of e)) l.rules)
