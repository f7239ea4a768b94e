use Rattle.std.proofs.Common.{◌≡◌, List, sym, ap, ◌∙◌, arith}
use Rattle.std.specs.Prelude.{sum_by}
use Rattle.dt_model.specs.declared.expr.Expr.{Expr}
use Rattle.dt_model.specs.declared.model.Model.{Model}
use Rattle.dt_model.specs.declared.model.Node.{Node}
use Rattle.dt_model.specs.ModelData.{ModelData, tree_of, act_of, data_of}
use Rattle.dt_model.specs.Accepted.{accepted_data}
use Rattle.dt_model.specs.Widths.{operators}
use Rattle.dt_model.specs.Faults.{step_operators, rule_operators, node_operators}
use Rattle.dt_table.proofs.Small.{small_is}
use Rattle.dt_encode.proofs.Small.{rules_seen, nodes_seen}
use Rattle.dt_encode.proofs.sizes.model_operators.Goals as goal

-- the sums that the code makes are those of the model
contexts : (m : Model) (d : ModelData) (rules : List Expr) → rules ≡ m.legal_context → data_of m ≡ d → sum_by (λ e. operators (tree_of e)) rules ≡ rule_operators d.legal_context
contexts m d rules e same = ap (λ (l : List Expr). sum_by (λ (t : Expr). operators (tree_of t)) l) e ∙ sym (rules_seen m.legal_context) ∙ ap (λ (n : ModelData). rule_operators n.legal_context) same

accesses : (m : Model) (d : ModelData) (rules : List Expr) → rules ≡ m.legal_access → data_of m ≡ d → sum_by (λ e. operators (tree_of e)) rules ≡ rule_operators d.legal_access
accesses m d rules e same = ap (λ (l : List Expr). sum_by (λ (t : Expr). operators (tree_of t)) l) e ∙ sym (rules_seen m.legal_access) ∙ ap (λ (n : ModelData). rule_operators n.legal_access) same

nodes : (m : Model) (d : ModelData) (ns : List Node) → ns ≡ m.nodes → data_of m ≡ d → sum_by (λ n. step_operators (act_of n.act)) ns ≡ node_operators d.nodes
nodes m d ns e same = ap (λ (l : List Node). sum_by (λ (n : Node). step_operators (act_of n.act)) l) e ∙ sym (nodes_seen m.nodes) ∙ ap (λ (n : ModelData). node_operators n.nodes) same

pub rule_operators-requires : goal.rule_operators-requires
rule_operators-requires c =
    let d = accepted_data c.args.model.now in
    let few = (small_is d c.model-m.ensures.accepted).operators in
    let seen = contexts c.model-m.result.now d c.as_slice.result.now c.as_slice.ensures c.model-m.ensures.same in
    omega (arith, few, seen)

pub rule_operators-requires-2 : goal.rule_operators-requires-2
rule_operators-requires-2 c =
    let d = accepted_data c.args.model.now in
    let few = (small_is d c.model-m.ensures.accepted).operators in
    let seen = accesses c.model-m.result.now d c.as_slice-2.result.now c.as_slice-2.ensures c.model-m.ensures.same in
    omega (arith, few, seen)

pub overflow_add-result : goal.overflow_add-result
overflow_add-result c =
    let d = accepted_data c.args.model.now in
    let few = (small_is d c.model-m.ensures.accepted).operators in
    let first = c.rule_operators.ensures ∙ contexts c.model-m.result.now d c.as_slice.result.now c.as_slice.ensures c.model-m.ensures.same in
    let second = c.rule_operators-2.ensures ∙ accesses c.model-m.result.now d c.as_slice-2.result.now c.as_slice-2.ensures c.model-m.ensures.same in
    omega (arith, few, first, second)

pub node_operators-requires : goal.node_operators-requires
node_operators-requires c =
    let d = accepted_data c.args.model.now in
    let few = (small_is d c.model-m.ensures.accepted).operators in
    let seen = nodes c.model-m.result.now d c.as_slice-3.result.now c.as_slice-3.ensures c.model-m.ensures.same in
    omega (arith, few, seen)

pub overflow_add-result-2 : goal.overflow_add-result-2
overflow_add-result-2 c =
    let d = accepted_data c.args.model.now in
    let few = (small_is d c.model-m.ensures.accepted).operators in
    let first = c.rule_operators.ensures ∙ contexts c.model-m.result.now d c.as_slice.result.now c.as_slice.ensures c.model-m.ensures.same in
    let second = c.rule_operators-2.ensures ∙ accesses c.model-m.result.now d c.as_slice-2.result.now c.as_slice-2.ensures c.model-m.ensures.same in
    let third = c.node_operators.ensures ∙ nodes c.model-m.result.now d c.as_slice-3.result.now c.as_slice-3.ensures c.model-m.ensures.same in
    omega (arith, few, first, second, third)

pub returns-clause-few : goal.returns-clause-few
returns-clause-few c =
    let d = accepted_data c.args.model.now in
    let few = (small_is d c.model-m.ensures.accepted).operators in
    let first = c.rule_operators.ensures ∙ contexts c.model-m.result.now d c.as_slice.result.now c.as_slice.ensures c.model-m.ensures.same in
    let second = c.rule_operators-2.ensures ∙ accesses c.model-m.result.now d c.as_slice-2.result.now c.as_slice-2.ensures c.model-m.ensures.same in
    let third = c.node_operators.ensures ∙ nodes c.model-m.result.now d c.as_slice-3.result.now c.as_slice-3.ensures c.model-m.ensures.same in
    omega (arith, few, first, second, third)
