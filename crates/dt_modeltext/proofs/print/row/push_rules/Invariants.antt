use Rattle.std.proofs.Common.{◌≡◌, ◌++◌, take}
use Rattle.std.specs.Prelude.{map}
use Rattle.dt_lex.specs.Printing.{text_of}
use Rattle.dt_model.specs.ModelData.{tree_of, data_of}
use Rattle.dt_model.specs.Faults.{node_scope}
use Rattle.dt_modeltext.specs.Print.{rule_row}
use Rattle.dt_modeltext.proofs.print.row.push_rules.Given as goal

abbrev pub invariant-loop-rule : goal.invariant-loop-rule
invariant-loop-rule l = l.out.items ≡ l.fn.out.items ++ text_of (map (λ e. rule_row l.kind (node_scope (data_of l.model)) (tree_of e)) (take l.rule-index l.rules))
