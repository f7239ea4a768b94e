use Rattle.std.proofs.Common.{◌≡◌, sym, ap, arith}
use Rattle.dt_bits.proofs.Operators.{arity_most}
use Rattle.dt_domain.specs.Domain.{operand}
use Rattle.dt_sets.proofs.sets_domain.SetsDomain.backward.Goals as goal

pub backward_to-requires-clause-target : goal.backward_to-requires-clause-target
backward_to-requires-clause-target c = ap (λ k. operand k c.args.a.now c.args.b.now c.args.c.now) (sym c.in-0.is)

pub backward_to-requires-in-1-clause-target : goal.backward_to-requires-in-1-clause-target
backward_to-requires-in-1-clause-target c = ap (λ k. operand k c.args.a.now c.args.b.now c.args.c.now) (sym c.in-1.is)

pub backward_to-requires-in_default-clause-target : goal.backward_to-requires-in_default-clause-target
backward_to-requires-in_default-clause-target c =
    let m = arity_most c.args.op in
    let e : 2 ≡ c.args.place = omega (arith, m, c.requires.place) in
    ap (λ k. operand k c.args.a.now c.args.b.now c.args.c.now) e

pub backward_to-requires-clause-fitting : goal.backward_to-requires-clause-fitting
backward_to-requires-clause-fitting c = c.requires

pub returns-in-0 : goal.returns-in-0
returns-in-0 c = c.backward_to.ensures

pub backward_to-requires-in-1-clause-fitting : goal.backward_to-requires-in-1-clause-fitting
backward_to-requires-in-1-clause-fitting c = c.requires

pub returns-in-1 : goal.returns-in-1
returns-in-1 c = c.backward_to-in-1.ensures

pub backward_to-requires-in_default-clause-fitting : goal.backward_to-requires-in_default-clause-fitting
backward_to-requires-in_default-clause-fitting c = c.requires

pub returns-in_default : goal.returns-in_default
returns-in_default c = c.backward_to-in_default.ensures
