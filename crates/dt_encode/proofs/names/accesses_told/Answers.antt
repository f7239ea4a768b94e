use Rattle.std.proofs.Common.{◌≡◌, ◌+◌, ◌*◌, ◌<◌, ◌≤◌, ◌++◌, List, ℕ, length, drop, get_or, ap, ◌∙◌, sym, subst, arith}
use Rattle.std.proofs.Math.Nat.{mul-le-mul}
use Rattle.dt_model.specs.ModelData.{ModelData}
use Rattle.dt_model.specs.Accepted.{accepted_data}
use Rattle.dt_model.proofs.Accepting.{few_inputs}
use Rattle.dt_request.specs.declared.list.AccessWish.{AccessWish}
use Rattle.dt_image.specs.declared.image.ImageAccess.{ImageAccess}
use Rattle.dt_table.specs.Table.{inputs_at}
use Rattle.dt_table.specs.Images.{bits_from, accesses_told}
use Rattle.dt_encode.specs.Telling.{valued}
use Rattle.dt_encode.proofs.Valued.{accesses_more}
use Rattle.dt_encode.proofs.names.accesses_told.Goals as goal

most : (k size count : ℕ) → k < count → count ≤ 64 → size ≤ 80 → k * size ≤ 64 * 80
most k size count l few small = mul-le-mul (let z : k ≤ 64 = omega (arith, l, few) in z) small

pub overflow_mul-k : goal.overflow_mul-k
overflow_mul-k c =
    let few = c.requires.few_accesses in
    let count = ap length c.as_slice-wishes.ensures in
    let m = most c.loop-k.k c.access_size-size.result (length c.as_slice-wishes.result.now) c.loop-k-test.true (omega (arith, few, count)) c.access_size-size.ensures.few in
    omega (arith, m)

pub overflow_add-first : goal.overflow_add-first
overflow_add-first c =
    let few = c.requires.few_accesses in
    let count = ap length c.as_slice-wishes.ensures in
    let m = most c.loop-k.k c.access_size-size.result (length c.as_slice-wishes.result.now) c.loop-k-test.true (omega (arith, few, count)) c.access_size-size.ensures.few in
    let first = c.first_access-first.ensures.few in
    omega (arith, m, first)

pub name_values-requires : goal.name_values-requires
name_values-requires c =
    let few = c.requires.few_accesses in
    let count = ap length c.as_slice-wishes.ensures in
    let m = most c.loop-k.k c.access_size-size.result (length c.as_slice-wishes.result.now) c.loop-k-test.true (omega (arith, few, count)) c.access_size-size.ensures.few in
    let first = c.first_access-first.ensures.few in
    let inputs = few_inputs (accepted_data c.args.model.now) c.model.ensures.accepted in
    let same = ap length c.as_slice-inputs.ensures in
    let own = ap (λ (d : ModelData). length d.inputs) c.model.ensures.same in
    omega (arith, m, first, inputs, same, own)

pub loop-k-preserved : goal.loop-k-preserved
loop-k-preserved c =
    let v = valued c.args.values.now in
    let d = accepted_data c.args.model.now in
    let r = c.args.requests.now in
    let k = c.loop-k.k in
    let a = c.index-wishes-k.result in
    let here : k < length r.accesses = subst (λ (ws : List AccessWish). k < length ws) c.as_slice-wishes.ensures c.loop-k-test.true in
    let wish : a ≡ get_or r.accesses k a = c.index-wishes-k.is ∙ ap (λ (ws : List AccessWish). get_or ws k a) c.as_slice-wishes.ensures in
    let at : c.first_access-first.result + k * c.access_size-size.result ≡ inputs_at d r k =
    ap (λ (n : ℕ). n + k * c.access_size-size.result) c.first_access-first.ensures.at ∙ ap (λ (n : ℕ). length r.contexts * length d.regs + k * n) c.access_size-size.ensures.size in
    let names : c.as_slice-inputs.result.now ≡ d.inputs = c.as_slice-inputs.ensures ∙ ap (λ (m : ModelData). m.inputs) c.model.ensures.same in
    let inputs : c.in_ok-name_values.field-0 ≡ bits_from v (inputs_at d r k) d.inputs =
    c.in_ok-name_values.ensures ∙ ap (λ (n : ℕ). bits_from v n c.as_slice-inputs.result.now) at ∙ ap (bits_from v (inputs_at d r k)) names in
    c.loop-k.invariant
    ∙ accesses_more v d r k r.accesses c.loop-k.accesses a c.in_ok-name_values.field-0 here wish inputs
    ∙ ap (λ (l : List ImageAccess). l ++ accesses_told v d r (k + 1) (drop (k + 1) r.accesses)) (sym c.in_ok-push.ensures.ok)
