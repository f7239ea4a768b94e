-- Where a meet is the first Known itself, and that Knowns are equal where they know the same.
use Rattle.std.proofs.Common.{◌≡◌, ℕ, ◌^◌, ◌<◌, Bool, true, false, ◌&&◌, ◌||◌, bit_and, Some, None, is_some, refl, sym, ap, ◌∙◌, subst, arith}
use Rattle.std.proofs.lemmas.Bool.{cond-false, or_from, false≢true}
use Rattle.std.proofs.lemmas.Nat.{and_le_l}
use Rattle.dt_bits.specs.Bits.{bit}
use Rattle.dt_bits.specs.declared.value.Width.{Width}
use Rattle.dt_bits.proofs.BitLemmas.{same_bits, bit_of_and}
use Rattle.dt_bits.proofs.Below.{none_below_from}
use Rattle.dt_domain.specs.Domain.{KnowsBit}
use Rattle.dt_known.specs.declared.Known.{Known}
use Rattle.dt_known.specs.Known.{IsKnown, KnowsAllOf, is_one, known_bit, from_bits, nothing, known_meet, either, clash, are_apart}
use Rattle.dt_known.specs.Laws.Bits.{from_words, value_fits, bit_from_bits, mask_bit, value_bit}
use Rattle.dt_known.specs.Laws.Meets.{met_is, knows_bit}
use Rattle.dt_known.specs.Ops.{known_ops}
use Rattle.dt_known.proofs.Words.{known_of, within_bit, mask_below, value_below}

same_clash : (m v n u : Bool) → (v && n) ≡ u → clash (known_of m v) (known_of n u) ≡ false
same_clash m v n u h = grind arith

same_mask : (m v n u : Bool) → (m && n) ≡ n → m ≡ is_some (either (known_of m v) (known_of n u))
same_mask m v n u h = grind arith

same_value : (m v n u : Bool) → (m && n) ≡ n → (v && m) ≡ v → v ≡ is_one (either (known_of m v) (known_of n u))
same_value m v n u h k = grind arith

pub known_within : (a b : Known) → IsKnown a → a.empty ≡ false → b.empty ≡ false → KnowsAllOf a b → known_meet a b ≡ a
known_within a b p e f k =
    let mask : (i : ℕ) → (bit a.mask i && bit b.mask i) ≡ bit b.mask i = λ i. sym (bit_of_and a.mask b.mask i) ∙ ap (λ n. bit n i) k.mask in
    let value : (i : ℕ) → (bit a.value i && bit b.mask i) ≡ bit b.value i = λ i. sym (bit_of_and a.value b.mask i) ∙ ap (λ n. bit n i) k.value in
    let apart : are_apart a b ≡ false = none_below_from a.width.0 (λ i. clash (known_bit a i) (known_bit b i)) (λ i l. same_clash (bit a.mask i) (bit a.value i) (bit b.mask i) (bit b.value i) (value i)) in
    let g : Bool → Known = λ e. record { mask = a.mask; value = a.value; width = a.width; empty = e } in
    cond-false (a.empty || (b.empty || are_apart a b)) (nothing a.width) (from_bits a.width (λ i. either (known_bit a i) (known_bit b i))) (or_from a.empty _ e (or_from b.empty _ f apart))
    ∙ sym (from_words a.width a.mask a.value (λ i. either (known_bit a i) (known_bit b i)) p.mask_fits (value_fits a p)
    (λ i l. same_mask (bit a.mask i) (bit a.value i) (bit b.mask i) (bit b.value i) (mask i))
    (λ i l. same_value (bit a.mask i) (bit a.value i) (bit b.mask i) (bit b.value i) (mask i) (within_bit a i p)))
    ∙ ap g (sym e)

either_mask : (m v n u : Bool) → known_of m v ≡ either (known_of m v) (known_of n u) → (m && n) ≡ n
either_mask m v n u h = grind arith

either_value : (m v n u : Bool) → known_of m v ≡ either (known_of m v) (known_of n u) → clash (known_of m v) (known_of n u) ≡ false → (u && n) ≡ u → (v && n) ≡ u
either_value m v n u h e k = grind arith

pub within_known : (a b : Known) → IsKnown a → IsKnown b → a.width ≡ b.width → a.empty ≡ false → known_meet a b ≡ a → KnowsAllOf a b
within_known a b p q w e h =
    let m = met_is a b (ap (λ (k : Known). k.empty) h ∙ e) in
    let f = λ (i : ℕ). either (known_bit a i) (known_bit b i) in
    let s : (i : ℕ) → i < a.width.0 → known_bit a i ≡ either (known_bit a i) (known_bit b i) = λ i l. ap (λ k. known_bit k i) (sym h ∙ m.is) ∙ bit_from_bits a.width f i l in
    record {
      mask = same_bits a.width.0 (bit_and a.mask b.mask) b.mask (omega (arith, and_le_l a.mask b.mask, p.mask_fits)) (mask_below a b q w)
          (λ i l. bit_of_and a.mask b.mask i ∙ either_mask (bit a.mask i) (bit a.value i) (bit b.mask i) (bit b.value i) (s i l));
      value = same_bits a.width.0 (bit_and a.value b.mask) b.value (omega (arith, and_le_l a.value b.mask, value_fits a p)) (value_below a b q w)
          (λ i l. bit_of_and a.value b.mask i ∙ either_value (bit a.mask i) (bit a.value i) (bit b.mask i) (bit b.value i) (s i l) (m.apart i l) (within_bit b i q));
    }

-- ---- Knowns that know the same

-- each bit that k knows, l knows so
abbrev pub KnowsOn : Known → Known → Type 0
KnowsOn k l = (i : ℕ) (v : Bool) → KnowsBit known_ops k i v → KnowsBit known_ops l i v

knows_same : (k l : Known) (i : ℕ) → KnowsOn k l → KnowsOn l k → known_bit k i ≡ known_bit l i
knows_same k l i h g = at (bit k.mask i) (bit l.mask i) refl refl
  where
    at : (m n : Bool) → bit k.mask i ≡ m → bit l.mask i ≡ n → known_bit k i ≡ known_bit l i
    at true n e d = let t : KnowsBit known_ops k i (bit k.value i) = (e, refl) in knows_bit k i (bit k.value i) t ∙ sym (knows_bit l i (bit k.value i) (h i (bit k.value i) t))
    at false true e d = let t : KnowsBit known_ops l i (bit l.value i) = (d, refl) in absurd (false≢true (sym e ∙ (g i (bit l.value i) t).0))
    at false false e d = cond-false (bit k.mask i) (Some (bit k.value i)) None e ∙ sym (cond-false (bit l.mask i) (Some (bit l.value i)) None d)

pub same_known : (k l : Known) → IsKnown k → IsKnown l → k.width ≡ l.width → k.empty ≡ l.empty → KnowsOn k l → KnowsOn l k → k ≡ l
same_known k l p q w e h g =
    let mask : l.mask < 2 ^ k.width.0 = subst (λ (v : Width). l.mask < 2 ^ v.0) (sym w) q.mask_fits in
    let value : l.value < 2 ^ k.width.0 = subst (λ (v : Width). l.value < 2 ^ v.0) (sym w) (value_fits l q) in
    let m : k.mask ≡ l.mask = same_bits k.width.0 k.mask l.mask p.mask_fits mask (λ i s. mask_bit k i ∙ ap is_some (knows_same k l i h g) ∙ sym (mask_bit l i)) in
    let v : k.value ≡ l.value = same_bits k.width.0 k.value l.value (value_fits k p) value (λ i s. value_bit k i p ∙ ap is_one (knows_same k l i h g) ∙ sym (value_bit l i q)) in
    let f : ℕ → ℕ → Width → Bool → Known = λ m v w e. record { mask = m; value = v; width = w; empty = e } in
    ap (λ m. f m k.value k.width k.empty) m ∙ ap (λ v. f l.mask v k.width k.empty) v ∙ ap (λ w. f l.mask l.value w k.empty) w ∙ ap (f l.mask l.value l.width) e
