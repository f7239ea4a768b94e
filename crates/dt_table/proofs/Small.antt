-- How many read nodes, done nodes and operators an accepted model has at most.
use Rattle.std.proofs.Common.{◌≡◌, ◌+◌, ◌-◌, ◌≤◌, List, length, take, subst, arith}
use Rattle.std.proofs.lemmas.Bool.{or_parts, ltb-false, false_from_ne_true}
use Rattle.std.proofs.lemmas.List.{take_all}
use Rattle.dt_lemmas.proofs.Lists.{element}
use Rattle.dt_model.specs.declared.refusal.ModelRefusal.TheVariants.{TooMany}
use Rattle.dt_model.specs.ModelData.{ModelData, NodeData}
use Rattle.dt_model.specs.Faults.{IsAccepted, is_read, is_done, count_of, rule_operators, node_operators, operators_to}
use Rattle.dt_model.proofs.Accepting.{some_nodes}
use Rattle.dt_walk.proofs.Sound.{fine}
use Rattle.dt_request.specs.Choices.{read_nodes}
use Rattle.dt_table.specs.Sizes.{done_nodes, model_operators}

pub record IsSmall (d : ModelData) : Type 0 where
  pub reads : read_nodes d ≤ 64
  pub dones : done_nodes d ≤ 16
  pub operators : model_operators d ≤ 8192

-- an accepted model is within its limits at its last node
pub small_is : (d : ModelData) → IsAccepted d → IsSmall d
small_is d a =
    let pos = some_nodes d a in
    let i = length d.nodes - 1 in
    let n = element d.nodes i (omega (arith, pos)) in
    let none = false_from_ne_true _ (fine d i n.0 a n.1 TooMany) in
    let last = or_parts _ _ none in
    let own = or_parts _ _ last.0 in
    let dones = or_parts _ _ own.0 in
    let reads = or_parts _ _ dones.0 in
    let all : take (i + 1) d.nodes ≡ d.nodes = take_all (i + 1) d.nodes (omega (arith, pos)) in
    record {
      reads = subst (λ (l : List NodeData). count_of is_read l ≤ 64) all (ltb-false 64 (count_of is_read (take (i + 1) d.nodes)) reads.1);
      dones = subst (λ (l : List NodeData). count_of is_done l ≤ 16) all (ltb-false 16 (count_of is_done (take (i + 1) d.nodes)) dones.1);
      operators = subst (λ (l : List NodeData). rule_operators d.legal_context + rule_operators d.legal_access + node_operators l ≤ 8192) all (ltb-false 8192 (operators_to d (i + 1)) last.1);
    }
