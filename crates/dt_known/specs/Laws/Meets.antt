-- What a meet holds and knows, and the Known of one bit.
use Rattle.std.proofs.Common.{◌≡◌, ℕ, ◌^◌, ◌<◌, ◌≤◌, Bool, true, false, ◌&&◌, ◌||◌, bit_and, cond, eqb, Option, Some, None, is_some, refl, sym, ap, ◌∙◌, subst, inl, inr, ◌⊎◌, ⊎_elim, arith}
use Rattle.std.specs.Cmp.{both_ways}
use Rattle.std.proofs.lemmas.Nat.{and_le_l}
use Rattle.std.proofs.lemmas.Bool.{and_parts, and_from, cases_lt, cond_both, cond-false, cond-true, or_parts, or_from, or_left, or_right, eq-eqb, eqb-true, false≢true, cases_Bool, false_from_ne_true}
use Rattle.dt_bits.specs.Bits.{IsWidth, bit}
use Rattle.dt_bits.specs.declared.value.Width.{Width}
use Rattle.dt_bits.proofs.BitLemmas.{bit_above, same_bits, bit_of_and}
use Rattle.dt_bits.proofs.Below.{none_below, none_below_from}
use Rattle.dt_domain.specs.Domain.{AreAlike, KnowsBit}
use Rattle.dt_known.specs.declared.Known.{Known}
use Rattle.dt_known.specs.Known.{IsKnown, known_holds, is_one, known_bit, from_bits, nothing, known_meet, single_bit, clash, either, are_apart}
use Rattle.dt_known.specs.Ops.{known_ops}
use Rattle.dt_known.specs.Laws.Bits.{Agrees, agree_masked, value_fits, held_is, held, holds_from_bits, known_is_from_bits, known_is_nothing, mask_bit, value_bit, bit_from_bits}
use Rattle.dt_known.specs.Laws.Agreement.{agree_either, no_clash}

pub meet_is : (a b : Known) → AreAlike known_ops a b → IsKnown (known_meet a b) × ((known_meet a b).width ≡ a.width)
meet_is a b g =
    cond_both (a.empty || (b.empty || are_apart a b)) (nothing a.width) (from_bits a.width (λ i. either (known_bit a i) (known_bit b i)))
    (λ k. IsKnown k × (k.width ≡ a.width)) (λ _. (known_is_nothing _ g.a_is.width, refl)) (λ _. (known_is_from_bits _ _ g.a_is.width, refl))

pub meet_holds : (a b : Known) (x : ℕ) → AreAlike known_ops a b → known_holds a x ≡ true → known_holds b x ≡ true → known_holds (known_meet a b) x ≡ true
meet_holds a b x g s t =
    let h = held a x g.a_is s in
    let k = held b x g.b_is t in
    let e = or_from a.empty _ h.full (or_from b.empty _ k.full (none_below_from a.width.0 (λ i. clash (known_bit a i) (known_bit b i)) (λ i l. no_clash (known_bit a i) (known_bit b i) (bit x i) (h.agrees i) (k.agrees i)))) in
    subst (λ m. known_holds m x ≡ true) (sym (cond-false _ (nothing a.width) (from_bits a.width (λ i. either (known_bit a i) (known_bit b i))) e))
    (holds_from_bits a.width _ x h.fits (λ i l. agree_either (known_bit a i) (known_bit b i) (bit x i) (h.agrees i) (k.agrees i)))

pub meet_empty : (a b : Known) → AreAlike known_ops a b → (a.empty ≡ true) ⊎ (b.empty ≡ true) → (known_meet a b).empty ≡ true
meet_empty a b g s =
    ap (λ (k : Known). k.empty) (cond-true _ (nothing a.width) (from_bits a.width (λ i. either (known_bit a i) (known_bit b i)))
    (⊎_elim (λ (t : a.empty ≡ true). or_left a.empty _ t) (λ (t : b.empty ≡ true). or_right a.empty _ (or_left b.empty _ t)) s))

pub knows_bit : (a : Known) (i : ℕ) (v : Bool) → KnowsBit known_ops a i v → known_bit a i ≡ Some v
knows_bit a i v h = ap (λ b. cond b (Some (bit a.value i)) None) h.0 ∙ ap Some h.1

pub bit_knows : (a : Known) (i : ℕ) (v : Bool) → IsKnown a → known_bit a i ≡ Some v → KnowsBit known_ops a i v
bit_knows a i v p h = (mask_bit a i ∙ ap is_some h, value_bit a i p ∙ ap is_one h)

-- a bit that is known lies below the width
known_below : (a : Known) (i : ℕ) (v : Bool) → IsKnown a → KnowsBit known_ops a i v → i < a.width.0
known_below a i v p h = ⊎_elim (λ (l : i < a.width.0). l) (λ (l : a.width.0 ≤ i). absurd (false≢true (sym (bit_above a.mask a.width.0 i p.mask_fits l) ∙ h.0))) (cases_lt i a.width.0)

either_keeps : (o u : Option Bool) (v : Bool) → clash o u ≡ false → (o ≡ Some v) ⊎ (u ≡ Some v) → either o u ≡ Some v
either_keeps o u v h s = grind arith

-- a meet that isn't empty
pub record Met (a b : Known) : Type 0 where
  pub is : known_meet a b ≡ from_bits a.width (λ i. either (known_bit a i) (known_bit b i))
  pub apart : (i : ℕ) → i < a.width.0 → clash (known_bit a i) (known_bit b i) ≡ false

pub met_is : (a b : Known) → (known_meet a b).empty ≡ false → Met a b
met_is a b h = ⊎_elim
    (λ (t : (a.empty || (b.empty || are_apart a b)) ≡ true).
    absurd (false≢true (sym h ∙ ap (λ (k : Known). k.empty) (cond-true _ (nothing a.width) (from_bits a.width (λ i. either (known_bit a i) (known_bit b i))) t))))
    (λ (t : (a.empty || (b.empty || are_apart a b)) ≡ false). record {
      is = cond-false _ (nothing a.width) (from_bits a.width (λ i. either (known_bit a i) (known_bit b i))) t;
      apart = λ i l. none_below a.width.0 (λ i. clash (known_bit a i) (known_bit b i)) i (or_parts b.empty _ (or_parts a.empty _ t).1).1 l;
    })
    (cases_Bool _)

pub meet_knows : (a b : Known) (i : ℕ) (v : Bool) → AreAlike known_ops a b → (known_meet a b).empty ≡ false
    → KnowsBit known_ops a i v ⊎ KnowsBit known_ops b i v → KnowsBit known_ops (known_meet a b) i v
meet_knows a b i v g h s =
    let m = met_is a b h in
    let l : i < a.width.0 = ⊎_elim (λ (k : KnowsBit known_ops a i v). known_below a i v g.a_is k) (λ (k : KnowsBit known_ops b i v). subst (λ n. i < n) (sym (ap (λ (v : Width). v.0) g.widths)) (known_below b i v g.b_is k)) s in
    let e : either (known_bit a i) (known_bit b i) ≡ Some v = either_keeps (known_bit a i) (known_bit b i) v (m.apart i l)
    (⊎_elim (λ (k : KnowsBit known_ops a i v). inl (knows_bit a i v k)) (λ (k : KnowsBit known_ops b i v). inr (knows_bit b i v k)) s) in
    subst (λ k. KnowsBit known_ops k i v) (sym m.is)
    (bit_knows (from_bits a.width (λ i. either (known_bit a i) (known_bit b i))) i v (known_is_from_bits _ _ g.a_is.width) (bit_from_bits a.width (λ i. either (known_bit a i) (known_bit b i)) i l ∙ e))

-- ---- exactly what both hold

either_first : (o u : Option Bool) (p : Bool) → Agrees (either o u) p → Agrees o p
either_first None u p h = tt
either_first (Some v) u p h = h

either_second : (o u : Option Bool) (p : Bool) → clash o u ≡ false → Agrees (either o u) p → Agrees u p
either_second o u p e h = grind arith

-- a number that agrees with the known bits is held
agreeing_held : (a : Known) (x : ℕ) → IsKnown a → a.empty ≡ false → x < 2 ^ a.width.0 → ((i : ℕ) → i < a.width.0 → Agrees (known_bit a i) (bit x i)) → known_holds a x ≡ true
agreeing_held a x p e h k = held_is a x e h (same_bits a.width.0 (bit_and x a.mask) a.value (omega (arith, and_le_l x a.mask)) (value_fits a p)
    (λ i l. bit_of_and x a.mask i ∙ ap (λ b. bit x i && b) (mask_bit a i) ∙ agree_masked (known_bit a i) (bit x i) (k i l) ∙ sym (value_bit a i p)))

-- what a meet holds, both hold
meet_held : (a b : Known) (x : ℕ) → AreAlike known_ops a b → known_holds (known_meet a b) x ≡ true → (known_holds a x && known_holds b x) ≡ true
meet_held a b x g t =
    let h = held (known_meet a b) x (meet_is a b g).0 t in
    let m = met_is a b h.full in
    let full : (e : (a.empty ≡ true) ⊎ (b.empty ≡ true)) → ⊥ = λ e. false≢true (sym h.full ∙ meet_empty a b g e) in
    let w : (known_meet a b).width.0 ≡ a.width.0 = ap (λ (w : Width). w.0) (meet_is a b g).1 in
    let v : a.width.0 ≡ b.width.0 = ap (λ (w : Width). w.0) g.widths in
    let fits : x < 2 ^ a.width.0 = subst (λ n. x < 2 ^ n) w h.fits in
    let f : ℕ → Option Bool = λ i. either (known_bit a i) (known_bit b i) in
    let s : (i : ℕ) → i < a.width.0 → Agrees (either (known_bit a i) (known_bit b i)) (bit x i) = λ i l.
    subst (λ o. Agrees o (bit x i)) (ap (λ k. known_bit k i) m.is ∙ bit_from_bits a.width f i l) (h.agrees i) in
    and_from (known_holds a x) (known_holds b x)
    (agreeing_held a x g.a_is (false_from_ne_true a.empty (λ e. full (inl e))) fits (λ i l. either_first (known_bit a i) (known_bit b i) (bit x i) (s i l)))
    (agreeing_held b x g.b_is (false_from_ne_true b.empty (λ e. full (inr e))) (subst (λ n. x < 2 ^ n) v fits)
    (λ i l. let k = subst (λ n. i < n) (sym v) l in either_second (known_bit a i) (known_bit b i) (bit x i) (m.apart i k) (s i k)))

-- it holds exactly the numbers that both hold
pub meets : (a b : Known) (x : ℕ) → AreAlike known_ops a b → known_holds (known_meet a b) x ≡ (known_holds a x && known_holds b x)
meets a b x g = both_ways (known_holds (known_meet a b) x) (known_holds a x && known_holds b x)
    (λ t. meet_held a b x g t)
    (λ t. let p = and_parts (known_holds a x) (known_holds b x) t in meet_holds a b x g p.0 p.1)

-- ---- with_bit

pub single_knows : (w : Width) (i : ℕ) (v : Bool) → i < w.0 → known_bit (single_bit w i v) i ≡ Some v
single_knows w i v l = bit_from_bits w _ i l ∙ cond-true (eqb i i) (Some v) None (eq-eqb i i refl)

pub single_holds : (w : Width) (i : ℕ) (v : Bool) (x : ℕ) → x < 2 ^ w.0 → bit x i ≡ v → known_holds (single_bit w i v) x ≡ true
single_holds w i v x h e = holds_from_bits w _ x h (λ j l. agrees (eqb j i) j refl)
  where
    agrees : (t : Bool) (j : ℕ) → eqb j i ≡ t → Agrees (cond t (Some v) None) (bit x j)
    agrees true j s = sym e ∙ ap (bit x) (sym (eqb-true j i s))
    agrees false j s = tt

pub single_is : (w : Width) (i : ℕ) (v : Bool) → IsWidth w.0 → IsKnown (single_bit w i v)
single_is w i v h = known_is_from_bits w _ h
