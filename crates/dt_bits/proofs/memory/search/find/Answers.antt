use Rattle.std.proofs.Common.{◌<◌, ◌≤◌, arith, sym, ⊎_elim}
use Rattle.std.proofs.lemmas.Bool.{cases_lt}
use Rattle.dt_bits.proofs.Listed.{listed_none, listed_at, below_all, not_below}
use Rattle.dt_bits.proofs.memory.search.find.Goals as goal

pub returns-then-word-address : goal.returns-then-word-address
returns-then-word-address c = sym (listed_at _ _ _ _ c.requires (omega arith) c.if-word-address.true)

pub loop-low-preserved-then-word-address-2 : goal.loop-low-preserved-then-word-address-2
loop-low-preserved-then-word-address-2 c = (omega arith, omega arith, below_all _ _ _ _ c.requires (omega arith) c.if-word-address-2.true, c.loop-low.invariant.3)

pub loop-low-preserved : goal.loop-low-preserved
loop-low-preserved c = (omega arith, omega arith, c.loop-low.invariant.2, not_below _ _ _ _ c.requires (omega arith) c.if-word-address.false c.if-word-address-2.false)

pub returns : goal.returns
returns c = sym (listed_none _ _ (λ k d l e.
    ⊎_elim
    (λ (b : k < c.loop-low.low). let h = c.loop-low.invariant.2 k d b in omega arith)
    (λ (b : c.loop-low.low ≤ k). let h = c.loop-low.invariant.3 k d (omega arith) l in omega arith)
    (cases_lt k c.loop-low.low)))
