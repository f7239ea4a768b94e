use Rattle.std.proofs.Common.{◌≡◌, ℕ, ◌+◌, ◌*◌, length, sym, ap, ◌∙◌, arith}
use Rattle.dt_model.specs.ModelData.{data_of}
use Rattle.dt_table.specs.Table.{choices, regs_at, inputs_at}
use Rattle.dt_claims.proofs.Lengths.{choices_length}
use Rattle.dt_claims.proofs.places.places_of.Goals as goal

pub returns : goal.returns
returns c =
    let d = data_of c.args.model.now in
    let r = c.args.requests.now in
    let regs : c.in_ok-behind.field-0 ≡ regs_at d c.args.context = let m = ap (λ (n : ℕ). c.args.context * n) c.len-2.ensures in let e = c.in_ok-behind.ensures in omega (arith, e, m) in
    let zero : c.in_ok-zero.zero ≡ length (choices d r) = c.in_ok-zero.ensures ∙ ap (λ (n : ℕ). inputs_at d r n) c.len.ensures ∙ sym (choices_length d r) in
    let one : c.in_ok-behind-2.field-0 ≡ length (choices d r) + 1 = c.in_ok-behind-2.ensures ∙ ap (λ (n : ℕ). n + 1) zero in
    λ i. record { address = d.address; regs = regs i; inputs = c.in_ok-inputs_at.ensures i; zero = zero i; one = one i }
