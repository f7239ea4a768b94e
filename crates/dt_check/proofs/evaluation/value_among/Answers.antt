use Rattle.std.proofs.Common.{◌≡◌, ◌<◌, ◌^◌, ap, ◌∙◌, subst}
use Rattle.dt_bits.specs.Ops.{width_of}
use Rattle.dt_terms.specs.Terms.{bits_at}
use Rattle.dt_terms.proofs.Placed.{fits_parts}
use Rattle.dt_terms.proofs.Valued.{node_there, node_bits, bv_is}
use Rattle.dt_check.proofs.evaluation.value_among.Goals as goal

pub value_at-first-requires-clause-term : goal.value_at-first-requires-clause-term
value_at-first-requires-clause-term c = (node_there _ _ _ _ _ _ _ _ c.requires.terms c.requires.term c.in-Node.is).a_in

pub value_at-second-requires-clause-term : goal.value_at-second-requires-clause-term
value_at-second-requires-clause-term c = (node_there _ _ _ _ _ _ _ _ c.requires.terms c.requires.term c.in-Node.is).b_in

pub value_at-third-requires-clause-term : goal.value_at-third-requires-clause-term
value_at-third-requires-clause-term c = (node_there _ _ _ _ _ _ _ _ c.requires.terms c.requires.term c.in-Node.is).c_in

pub apply-requires-clause-op : goal.apply-requires-clause-op
apply-requires-clause-op c = (node_there _ _ _ _ _ _ _ _ c.requires.terms c.requires.term c.in-Node.is).op_is

pub apply-requires-clause-a : goal.apply-requires-clause-a
apply-requires-clause-a c =
    let p = node_there _ _ _ _ _ _ _ _ c.requires.terms c.requires.term c.in-Node.is in
    rw c.value_at-first.ensures (bv_is c.args.terms.now c.args.values.now c.in-Node.a c.requires.terms c.requires.fit p.a_in)

pub apply-requires-clause-b : goal.apply-requires-clause-b
apply-requires-clause-b c =
    let p = node_there _ _ _ _ _ _ _ _ c.requires.terms c.requires.term c.in-Node.is in
    rw c.value_at-second.ensures (bv_is c.args.terms.now c.args.values.now c.in-Node.b c.requires.terms c.requires.fit p.b_in)

pub apply-requires-clause-c : goal.apply-requires-clause-c
apply-requires-clause-c c =
    let p = node_there _ _ _ _ _ _ _ _ c.requires.terms c.requires.term c.in-Node.is in
    rw c.value_at-third.ensures (bv_is c.args.terms.now c.args.values.now c.in-Node.c c.requires.terms c.requires.fit p.c_in)

pub apply-requires-clause-fits : goal.apply-requires-clause-fits
apply-requires-clause-fits c =
    let p = node_there _ _ _ _ _ _ _ _ c.requires.terms c.requires.term c.in-Node.is in
    rw (c.value_at-first.ensures, c.value_at-second.ensures, c.value_at-third.ensures) (fits_parts c.in-Node.op _ _ _ _ p.fits).0

pub returns-in-Node-clause-fit : goal.returns-in-Node-clause-fit
returns-in-Node-clause-fit c =
    let e = node_bits _ _ _ _ _ _ _ _ c.requires.terms c.requires.term c.in-Node.is in
    let f : c.apply.result.width.0 ≡ width_of c.in-Node.op c.value_at-first.result.width.0 c.value_at-second.result.width.0 c.value_at-third.result.width.0 =
    ap (λ v. v.width.0) c.apply.ensures.value in
    let g : width_of c.in-Node.op c.value_at-first.result.width.0 c.value_at-second.result.width.0 c.value_at-third.result.width.0 ≡ bits_at c.args.terms.now c.args.term =
    rw (c.value_at-first.ensures, c.value_at-second.ensures, c.value_at-third.ensures) e in
    subst (λ n. c.apply.result.bits < 2 ^ n) (f ∙ g) c.apply.ensures.range.1
