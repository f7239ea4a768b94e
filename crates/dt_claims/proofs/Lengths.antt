-- How many choices a list has.
use Rattle.std.proofs.Common.{◌≡◌, ℕ, ◌+◌, ◌*◌, length, length-append, ap, ◌∙◌}
use Rattle.std.specs.List.{flat_map}
use Rattle.dt_model.specs.ModelData.{ModelData}
use Rattle.dt_request.specs.declared.list.Requests.{Requests}
use Rattle.dt_table.specs.Table.{names_chosen, access_chosen, choices, inputs_at}
use Rattle.dt_table.proofs.Stand.{names_length, repeated_length}
use Rattle.dt_table.proofs.Ready.{access_length}

-- the inputs past those of the last access are the end of the choices
pub choices_length : (d : ModelData) (r : Requests) → length (choices d r) ≡ inputs_at d r (length r.accesses)
choices_length d r =
    let regs = repeated_length (names_chosen d.regs) r.contexts ∙ ap (λ (n : ℕ). length r.contexts * n) (names_length d.regs) in
    let accesses = repeated_length (access_chosen d) r.accesses ∙ ap (λ (n : ℕ). length r.accesses * n) (access_length d) in
    length-append (flat_map (λ _. names_chosen d.regs) r.contexts) (flat_map (λ _. access_chosen d) r.accesses)
    ∙ ap (λ (n : ℕ). n + length (flat_map (λ _. access_chosen d) r.accesses)) regs
    ∙ ap (λ (n : ℕ). length r.contexts * length d.regs + n) accesses
