use Rattle.std.proofs.Common.{◌≡◌, ◌+◌, ◌≤◌, ◌++◌, List, length}
use Rattle.dt_lex.specs.declared.name.Name.{Name}
use Rattle.dt_lex.specs.Text.{lines_of}
use Rattle.dt_modeltext.specs.Line.{node_names}
use Rattle.dt_model.specs.NameTable.{Finds}
use Rattle.dt_modeltext.proofs.nodes.node_table.Given as goal

abbrev pub invariant-loop-line : goal.invariant-loop-line
invariant-loop-line l = record {
  few : l.count + length (lines_of l.rest) ≤ length (lines_of l.text);
  so_far : (names : List Name) × (names ++ node_names (lines_of l.rest) ≡ node_names (lines_of l.text)) × (length names ≡ l.count) × Finds l.table names;
}

abbrev pub decreases-loop-line : goal.decreases-loop-line
decreases-loop-line l = length (lines_of l.rest)
