-- How much a list leaves open: the registers of each context, the inputs of each access, and for each access a word for each read node.
use Rattle.std.specs.Prelude.{ℕ, ◌+◌, ◌*◌, List, length, sum_by}
use Rattle.dt_model.specs.declared.model.Named.{Named}
use Rattle.dt_model.specs.ModelData.{ModelData}
use Rattle.dt_model.specs.Faults.{is_read, count_of}
use Rattle.dt_request.specs.declared.list.Requests.{Requests}

abbrev pub read_nodes : ModelData → ℕ
read_nodes d = count_of is_read d.nodes

abbrev pub widths_of : List Named → ℕ
widths_of names = sum_by (λ n. n.width) names

-- how many choices there are
abbrev pub choice_count : ModelData → Requests → ℕ
choice_count d r = length r.contexts * length d.regs + length r.accesses * (length d.inputs + read_nodes d)

-- how many bits they have
abbrev pub choice_bits : ModelData → Requests → ℕ
choice_bits d r = length r.contexts * widths_of d.regs + length r.accesses * (widths_of d.inputs + read_nodes d * d.word)
