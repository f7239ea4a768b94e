-- How many read nodes, done nodes and operators a model has, seen by its nodes and rules themselves.
use Rattle.std.proofs.Common.{◌≡◌, ℕ, ◌+◌, ◌-◌, Bool, List, map, arith}
use Rattle.std.specs.Prelude.{count_by, sum_by, if◌then◌else◌}
use Rattle.std.proofs.lemmas.List.Folds.{fold-map}
use Rattle.dt_model.specs.declared.expr.Expr.{Expr}
use Rattle.dt_model.specs.declared.model.Node.{Node}
use Rattle.dt_model.specs.ModelData.{Tree, ActData, NodeData, tree_of, act_of, node_of}
use Rattle.dt_model.specs.Widths.{operators}
use Rattle.dt_model.specs.Faults.{count_of, step_operators, rule_operators, node_operators}

-- ---- by the code's own rules and nodes

pub rules_seen : (rules : List Expr) → rule_operators (map tree_of rules) ≡ sum_by (λ e. operators (tree_of e)) rules
rules_seen rules = fold-map (λ (a : ℕ) (t : Tree). a + operators t) tree_of 0 rules

pub nodes_seen : (nodes : List Node) → node_operators (map node_of nodes) ≡ sum_by (λ n. step_operators (act_of n.act)) nodes
nodes_seen nodes = fold-map (λ (a : ℕ) (n : NodeData). a + step_operators n.step) node_of 0 nodes

pub count_seen : (test : ActData → Bool) (nodes : List Node) → count_of test (map node_of nodes) ≡ count_by (λ n. test (act_of n.act)) nodes
count_seen test nodes = fold-map (λ (a : ℕ) (n : NodeData). a + (if test n.step then 1 else 0)) node_of 0 nodes
