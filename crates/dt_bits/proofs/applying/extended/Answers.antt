use Rattle.std.proofs.Common.{◌^◌, ◌≤◌, arith, lit<}
use Rattle.std.proofs.Math.Nat.{pow-le-pow_right}
use Rattle.dt_bits.proofs.applying.extended.Goals as goal

pub overflow_sub-result : goal.overflow_sub-result
overflow_sub-result c =
    let m : 2 ^ c.args.value.width.0 ≤ 2 ^ c.args.to.0 = pow-le-pow_right (lit< tt) c.requires.order in
    omega (arith, c.ones.ensures, c.ones-then-value.ensures)

pub returns-then-value-clause-range : goal.returns-then-value-clause-range
returns-then-value-clause-range c =
    let m : 2 ^ c.args.value.width.0 ≤ 2 ^ c.args.to.0 = pow-le-pow_right (lit< tt) c.requires.order in
    (c.requires.to, omega (arith, c.requires.value.1, c.ones.ensures, c.ones-then-value.ensures))

pub returns-else-value-clause-range : goal.returns-else-value-clause-range
returns-else-value-clause-range c =
    let m : 2 ^ c.args.value.width.0 ≤ 2 ^ c.args.to.0 = pow-le-pow_right (lit< tt) c.requires.order in
    (c.requires.to, omega (arith, c.requires.value.1))
