-- Further known bits, by words.
use Rattle.std.proofs.Common.{◌≡◌, ℕ, ◌-◌, ◌^◌, ◌<◌, false, not, ◌&&◌, ◌||◌, eqb, bit_and, ap, ◌∙◌, arith}
use Rattle.std.proofs.Math.Bool.{or-false, and-not_self}
use Rattle.std.proofs.lemmas.Nat.{and_le_l}
use Rattle.dt_bits.specs.Bits.{bit, some_below}
use Rattle.dt_bits.proofs.Below.{none_below_from}
use Rattle.dt_bits.proofs.BitLemmas.{bit_of_and, bit_of_complement, word_tells}
use Rattle.dt_domain.specs.Domain.{DomainOps}
use Rattle.dt_box.specs.Changes.{knows_more, has_news}

-- some bit is 1 in m and 0 in n exactly where the word of these bits isn't 0
pub more_words : (m n : ℕ) → m < 2 ^ 128 → n < 2 ^ 128
    → not (eqb (bit_and m (2 ^ 128 - 1 - n)) 0) ≡ some_below 128 (λ i. bit m i && not (bit n i))
more_words m n h k =
    word_tells 128 (bit_and m (2 ^ 128 - 1 - n)) (λ i. bit m i && not (bit n i)) (omega (arith, and_le_l m (2 ^ 128 - 1 - n)))
    (λ i l. bit_of_and m (2 ^ 128 - 1 - n) i ∙ ap (λ b. bit m i && b) (bit_of_complement 128 n i k l))

-- a domain that stays is news only where it is empty
pub stays : (D : Type 0) (ops : DomainOps D) (old new : D) → new ≡ old → has_news ops old new ≡ ops.is_empty old
stays D ops old new e =
    let none : knows_more ops old old ≡ false = none_below_from 128 _ (λ i _. and-not_self (bit (ops.known_mask old) i)) in
    ap (has_news ops old) e ∙ ap (λ b. ops.is_empty old || b) none ∙ or-false (ops.is_empty old)
