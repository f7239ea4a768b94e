-- The widths of a list's choices, in order.
use Rattle.std.specs.Prelude.{List, ◌++◌, map, replicate}
use Rattle.std.specs.List.{flat_map}
use Rattle.dt_bits.specs.Bits.{width}
use Rattle.dt_bits.specs.declared.value.Width.{Width}
use Rattle.dt_model.specs.declared.model.Named.{Named}
use Rattle.dt_model.specs.ModelData.{ModelData}
use Rattle.dt_request.specs.declared.list.Requests.{Requests}
use Rattle.dt_request.specs.Choices.{read_nodes}

abbrev pub name_widths : List Named → List Width
name_widths ns = map (λ n. width n.width) ns

-- an access's inputs, and a word for each read node
abbrev pub access_widths : ModelData → List Width
access_widths d = name_widths d.inputs ++ replicate (read_nodes d) (width d.word)

-- for each context its registers, and then what each access has
abbrev pub choice_widths : ModelData → Requests → List Width
choice_widths d r = flat_map (λ _. name_widths d.regs) r.contexts ++ flat_map (λ _. access_widths d) r.accesses
