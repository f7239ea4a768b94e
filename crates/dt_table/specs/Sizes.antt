-- How large a list may be, so that its problem has room.
use Rattle.std.specs.Prelude.{ℕ, ◌+◌, ◌*◌, ◌≤◌, length}
use Rattle.dt_model.specs.ModelData.{ModelData}
use Rattle.dt_model.specs.Faults.{is_done, count_of, rule_operators, node_operators}
use Rattle.dt_request.specs.declared.list.Requests.{Requests}
use Rattle.dt_request.specs.Choices.{read_nodes}

abbrev pub done_nodes : ModelData → ℕ
done_nodes d = count_of is_done d.nodes

-- the operators of all rules and nodes
abbrev pub model_operators : ModelData → ℕ
model_operators d = rule_operators d.legal_context + rule_operators d.legal_access + node_operators d.nodes

-- the three products that are bounded: accesses by read nodes, by done nodes, and by nodes and operators
abbrev pub read_product : ModelData → Requests → ℕ
read_product d r = length r.accesses * read_nodes d

abbrev pub done_product : ModelData → Requests → ℕ
done_product d r = length r.accesses * done_nodes d

abbrev pub term_product : ModelData → Requests → ℕ
term_product d r = length r.accesses * (length d.nodes + model_operators d)

abbrev pub most_read_product : ℕ
most_read_product = 256

abbrev pub most_done_product : ℕ
most_done_product = 512

abbrev pub most_term_product : ℕ
most_term_product = 200000

-- no product is too large
pub record IsWithin (d : ModelData) (r : Requests) : Type 0 where
  pub reads : read_product d r ≤ most_read_product
  pub dones : done_product d r ≤ most_done_product
  pub terms : term_product d r ≤ most_term_product
