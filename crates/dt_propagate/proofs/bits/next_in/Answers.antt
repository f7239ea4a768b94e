use Rattle.std.proofs.Common.{◌≡◌, ◌≢◌, ℕ, ◌+◌, ◌/◌, ◌^◌, ◌<◌, ◌≤◌, refl, sym, ap, arith}
use Rattle.std.proofs.Math.Nat.{div-le_self}
use Rattle.dt_propagate.proofs.Marking.{next_none, next_some}
use Rattle.dt_propagate.proofs.bits.next_in.Goals as goal

pub returns-then-rest-eq0 : goal.returns-then-rest-eq0
returns-then-rest-eq0 c = λ i l m. next_none c.args.word c.args.k (c.args.word / 2 ^ c.args.k) refl c.if-rest-eq0.true i l

pub returns : goal.returns
returns c =
    let w = c.ranges.word in
    let l = div-le_self c.args.word (2 ^ c.args.k) in
    next_some c.args.word c.args.k (c.args.word / 2 ^ c.args.k) _ (omega arith) (omega arith) refl c.if-rest-eq0.false refl
