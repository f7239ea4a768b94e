-- How many choices a list has.
use Rattle.std.proofs.Common.{◌≡◌, ℕ, ◌+◌, ◌*◌, length, ap, ◌∙◌, length-append}
use Rattle.std.specs.List.{flat_map}
use Rattle.dt_lemmas.proofs.Equalities.{two}
use Rattle.dt_model.specs.ModelData.{ModelData}
use Rattle.dt_request.specs.declared.list.Requests.{Requests}
use Rattle.dt_request.specs.Choices.{read_nodes}
use Rattle.dt_table.specs.Table.{names_chosen, access_chosen, choices}
use Rattle.dt_table.proofs.Ready.{access_length}
use Rattle.dt_table.proofs.Stand.{names_length, repeated_length}

pub choices_length : (d : ModelData) (r : Requests) → length (choices d r) ≡ length r.contexts * length d.regs + length r.accesses * (length d.inputs + read_nodes d)
choices_length d r =
    length-append (flat_map (λ _. names_chosen d.regs) r.contexts) (flat_map (λ _. access_chosen d) r.accesses)
    ∙ two (λ (m n : ℕ). m + n) (repeated_length (names_chosen d.regs) r.contexts ∙ ap (λ (n : ℕ). length r.contexts * n) (names_length d.regs)) (repeated_length (access_chosen d) r.accesses ∙ ap (λ (n : ℕ). length r.accesses * n) (access_length d))
