use Rattle.std.proofs.Common.{◌*◌, ◌≤◌, length, ap, arith}
use Rattle.std.proofs.Math.Nat.{mul-le-mul}
use Rattle.dt_model.specs.ModelData.{ModelData}
use Rattle.dt_model.specs.Accepted.{accepted_data}
use Rattle.dt_model.proofs.Accepting.{few_regs}
use Rattle.dt_encode.proofs.names.first_access.Goals as goal

pub overflow_mul-result : goal.overflow_mul-result
overflow_mul-result c =
    let regs = few_regs (accepted_data c.args.model.now) c.model.ensures.accepted in
    let same = ap (λ (d : ModelData). length d.regs) c.model.ensures.same in
    let contexts : c.len.result ≤ 16 = (let few = c.requires.few_contexts in let e = c.len.ensures in omega (arith, few, e)) in
    let few : c.len-2.result ≤ 32 = (let e = c.len-2.ensures in omega (arith, regs, same, e)) in
    let most : c.len.result * c.len-2.result ≤ 16 * 32 = mul-le-mul contexts few in
    omega (arith, most)

pub returns-clause-few : goal.returns-clause-few
returns-clause-few c =
    let regs = few_regs (accepted_data c.args.model.now) c.model.ensures.accepted in
    let same = ap (λ (d : ModelData). length d.regs) c.model.ensures.same in
    let contexts : c.len.result ≤ 16 = (let few = c.requires.few_contexts in let e = c.len.ensures in omega (arith, few, e)) in
    let few : c.len-2.result ≤ 32 = (let e = c.len-2.ensures in omega (arith, regs, same, e)) in
    let most : c.len.result * c.len-2.result ≤ 16 * 32 = mul-le-mul contexts few in
    omega (arith, most)
