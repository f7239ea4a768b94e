use Rattle.std.proofs.Common.{ap, bit_xor, arith}
use Rattle.dt_lemmas.proofs.Powers.{wide}
use Rattle.dt_known.proofs.TestWords.{only_none, only_lowest, only_more, only_fits, lowest_below}
use Rattle.dt_known.proofs.undo_tests.only_unknown.Goals as goal

pub returns-then-unknown-eq0-clause-bits : goal.returns-then-unknown-eq0-clause-bits
returns-then-unknown-eq0-clause-bits c = λ i l. only_none c.args.a.now i _ l (ap (λ k. bit_xor k c.args.a.now.mask) c.ones.ensures) c.if-unknown-eq0.true

pub overflow_shl-lowest : goal.overflow_shl-lowest
overflow_shl-lowest c =
    let fits = only_fits c.args.a.now _ c.requires (ap (λ k. bit_xor k c.args.a.now.mask) c.ones.ensures) in
    lowest_below _ (omega arith) (wide c.args.a.now.width.0 _ c.requires.width.1 fits)

pub returns-then-unknown-lowest-clause-fits : goal.returns-then-unknown-lowest-clause-fits
returns-then-unknown-lowest-clause-fits c = only_fits c.args.a.now _ c.requires (ap (λ k. bit_xor k c.args.a.now.mask) c.ones.ensures)

pub returns-then-unknown-lowest-clause-bits : goal.returns-then-unknown-lowest-clause-bits
returns-then-unknown-lowest-clause-bits c = λ i l.
    let e = ap (λ k. bit_xor k c.args.a.now.mask) c.ones.ensures in
    let fits = only_fits c.args.a.now _ c.requires e in
    let below = lowest_below _ (omega arith) (wide c.args.a.now.width.0 _ c.requires.width.1 fits) in
    only_lowest c.args.a.now i _ _ l below e c.if-unknown-lowest.true

pub returns-else-unknown-lowest-clause-bits : goal.returns-else-unknown-lowest-clause-bits
returns-else-unknown-lowest-clause-bits c = λ i l. only_more c.args.a.now i _ c.requires l (ap (λ k. bit_xor k c.args.a.now.mask) c.ones.ensures) c.if-unknown-lowest.false
