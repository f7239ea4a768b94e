-- The normal form: it is valid, normalised again it stays, and it keeps the known bits.
use Rattle.std.proofs.Common.{◌≡◌, ℕ, ◌-◌, ◌^◌, ◌<◌, ◌≤◌, ◌⊎◌, inl, inr, Bool, true, false, ◌&&◌, ◌||◌, cond, ltb, bit_and, bit_or, Option, Some, None, refl, sym, ap, ◌∙◌, subst, ⊎_elim, arith}
use Rattle.std.specs.Prelude.{◌↔◌}
use Rattle.std.proofs.lemmas.Bool.{cases_Bool, cond_both, cond-true, cond-false, and_parts, and_from, or_from, or_left, le-ltb, eq-eqb, false≢true, true≢false, false_from_ne_true}
use Rattle.std.proofs.lemmas.Nat.{pow_pos, and_le_r, or_lt}
use Rattle.std.proofs.Math.Nat.{pow-le-pow_right}
use Rattle.dt_bits.specs.Bits.{IsWidth, bit}
use Rattle.dt_bits.specs.declared.value.Width.{Width}
use Rattle.dt_bits.proofs.BitLemmas.{same_bits, bit_of_and, bit_of_or, bit_of_ones}
use Rattle.dt_domain.specs.Domain.{KnowsBit}
use Rattle.dt_known.specs.declared.Known.{Known}
use Rattle.dt_known.specs.Known.{IsKnown, known_holds, nothing}
use Rattle.dt_known.specs.Ops.{known_ops}
use Rattle.dt_known.specs.Laws.Bits.{held, value_fits, known_is_nothing}
use Rattle.dt_range.specs.declared.Range.{Range}
use Rattle.dt_range.specs.Range.{IsRange, range_holds, range_is_empty, no_range, range_mask}
use Rattle.dt_pair.specs.declared.Pair.{Pair}
use Rattle.dt_pair.specs.Ends.{has_bits, least_candidate, greatest_candidate}
use Rattle.dt_pair.specs.Pair.{IsPair, AreParts, both_hold, pair_holds, no_pair, ends, knowing, filled, least_of, greatest_of, with_ends, normal}
use Rattle.dt_pair.specs.Laws.Candidates.{has_bit}
use Rattle.dt_pair.specs.Laws.Normal.{HoldBoth, HoldNone, Found, cases, hold_both, filled_holds, value_bit, mask_bit, value_below, mask_below, mask_fits}

-- ---- width and emptiness

with_ends_width : (k : Known) (r : Range) (a b : Option ℕ) → (with_ends k r a b).known.width ≡ k.width
with_ends_width k r None b = refl
with_ends_width k r (Some lo) None = refl
with_ends_width k r (Some lo) (Some hi) = cond_both (k.empty || (range_is_empty r || ltb r.hi lo)) (no_pair k.width) (filled k lo hi) (λ p. p.known.width ≡ k.width) (λ _. refl) (λ _. refl)

pub normal_width : (k : Known) (r : Range) → (normal k r).known.width ≡ k.width
unfolding normal
normal_width k r = with_ends_width k r (least_of k r) (greatest_of k r)

with_ends_empty : (k : Known) (r : Range) (a b : Option ℕ) → k.empty ≡ true → with_ends k r a b ≡ no_pair k.width
with_ends_empty k r None b e = refl
with_ends_empty k r (Some lo) None e = refl
with_ends_empty k r (Some lo) (Some hi) e = cond-true (k.empty || (range_is_empty r || ltb r.hi lo)) (no_pair k.width) (filled k lo hi) (or_left k.empty _ e)

-- it is empty where the known bits are
pub normal_of_empty : (k : Known) (r : Range) → k.empty ≡ true → normal k r ≡ no_pair k.width
unfolding normal
normal_of_empty k r e = with_ends_empty k r (least_of k r) (greatest_of k r) e

-- where it isn't empty, the known bits aren't
pub full_before : (k : Known) (r : Range) → (normal k r).known.empty ≡ false → k.empty ≡ false
full_before k r h = ⊎_elim (λ (e : k.empty ≡ true). absurd (true≢false (sym (ap (λ (p : Pair). p.known.empty) (normal_of_empty k r e)) ∙ h))) (λ (e : k.empty ≡ false). e) (cases_Bool k.empty)

-- it is empty exactly where the parts hold nothing together
pub normal_none : (k : Known) (r : Range) → AreParts k r → (normal k r).known.empty ≡ true → HoldNone k r
normal_none k r p h = ⊎_elim
    (λ (c : (normal k r ≡ no_pair k.width) × HoldNone k r). c.1)
    (λ (c : (lo : ℕ) × (hi : ℕ) × (normal k r ≡ filled k lo hi) × Found k r lo hi). absurd (true≢false (sym h ∙ ap (λ (p : Pair). p.known.empty) c.2)))
    (cases k r p)

low_held : (k : Known) (r : Range) (lo hi : ℕ) → Found k r lo hi → HoldBoth k r lo
low_held k r lo hi f = hold_both k r lo f.full f.least.fits f.least.has f.least.beyond (omega (arith, f.order, f.greatest.beyond))

-- it is empty exactly where no number is held by both
pub normal_empty : (k : Known) (r : Range) → AreParts k r → ((normal k r).known.empty ≡ true) ↔ ((x : ℕ) → both_hold k r x ≡ false)
normal_empty k r p = (
  λ e x. false_from_ne_true (both_hold k r x) (λ h. let s = and_parts (known_holds k x) (range_holds r x) h in normal_none k r p e x (record { known = s.0; range = s.1 })),
  λ h. ⊎_elim (λ (c : (normal k r ≡ no_pair k.width) × HoldNone k r). ap (λ (p : Pair). p.known.empty) c.0)
      (λ (c : (lo : ℕ) × (hi : ℕ) × (normal k r ≡ filled k lo hi) × Found k r lo hi).
      let l = low_held k r c.0 c.1 c.3 in absurd (true≢false (sym (and_from (known_holds k c.0) (range_holds r c.0) l.known l.range) ∙ h c.0)))
      (cases k r p),
)

high_held : (k : Known) (r : Range) (lo hi : ℕ) → AreParts k r → Found k r lo hi → HoldBoth k r hi
high_held k r lo hi p f = hold_both k r hi f.full
    (omega (arith, f.greatest.beyond, subst (λ (w : Width). r.hi < 2 ^ w.0) (sym p.widths) p.range.hi_fits)) f.greatest.has (omega (arith, f.order, f.least.beyond)) f.greatest.beyond

pub normal_some : (k : Known) (r : Range) (x : ℕ) → AreParts k r → HoldBoth k r x → (normal k r).known.empty ≡ false
normal_some k r x p h = ⊎_elim
    (λ (c : (normal k r ≡ no_pair k.width) × HoldNone k r). absurd (c.1 x h))
    (λ (c : (lo : ℕ) × (hi : ℕ) × (normal k r ≡ filled k lo hi) × Found k r lo hi). ap (λ (p : Pair). p.known.empty) c.2)
    (cases k r p)

-- ---- it is valid

no_range_is : (w : Width) → IsWidth w.0 → IsRange (no_range w)
no_range_is w h = let l : 2 ^ 1 ≤ 2 ^ w.0 = pow-le-pow_right (omega arith) h.0 in
    record { width = h; lo_fits = omega arith; hi_fits = omega arith; empty = λ _. (refl, refl) }

pub no_pair_is : (w : Width) → IsWidth w.0 → IsPair (no_pair w)
no_pair_is w h = record { known = known_is_nothing w h; range = no_range_is w h; widths = refl; normal = normal_of_empty (nothing w) (no_range w) refl }

mixed_within : (v m l e : Bool) → (v && m) ≡ v → ((v || (l && e)) && (m || e)) ≡ (v || (l && e))
mixed_within v m l e h = grind arith

knowing_is : (k : Known) (lo hi : ℕ) → IsKnown k → IsKnown (knowing k (ends k.width lo hi))
knowing_is k lo hi p =
    let q = knowing k (ends k.width lo hi) in
    let e = range_mask (ends k.width lo hi) in
    record {
      width = p.width;
      mask_fits = mask_below k lo hi p;
      within = same_bits k.width.0 (bit_and q.value q.mask) q.value (omega (arith, and_le_r q.value q.mask, mask_below k lo hi p)) (value_below k lo hi p) (λ i l.
          bit_of_and q.value q.mask i
          ∙ ap (λ b. b && bit q.mask i) (value_bit k lo hi i)
          ∙ ap (λ b. (bit k.value i || (bit lo i && bit e i)) && b) (mask_bit k lo hi i)
          ∙ mixed_within (bit k.value i) (bit k.mask i) (bit lo i) (bit e i) (sym (bit_of_and k.value k.mask i) ∙ ap (λ n. bit n i) p.within)
          ∙ sym (value_bit k lo hi i));
      empty = λ e. absurd (false≢true e);
    }

again : (p q : Bool) → ((p || q) || q) ≡ (p || q)
again p q = grind arith

or_again : (w a b : ℕ) → a < 2 ^ w → b < 2 ^ w → bit_or (bit_or a b) b ≡ bit_or a b
or_again w a b h l = same_bits w (bit_or (bit_or a b) b) (bit_or a b) (or_lt w (bit_or a b) b (or_lt w a b h l) l) (or_lt w a b h l)
    (λ i s. bit_of_or (bit_or a b) b i ∙ ap (λ p. p || bit b i) (bit_of_or a b i) ∙ again (bit a i) (bit b i) ∙ sym (bit_of_or a b i))

-- the ends are known already
known_again : (k : Known) (lo hi : ℕ) → IsKnown k → knowing (knowing k (ends k.width lo hi)) (ends k.width lo hi) ≡ knowing k (ends k.width lo hi)
known_again k lo hi p =
    let e = range_mask (ends k.width lo hi) in
    let v = bit_and lo e in
    let f = mask_fits k.width lo hi in
    let d : bit_or (bit_or k.mask e) e ≡ bit_or k.mask e = or_again k.width.0 k.mask e p.mask_fits f in
    let g : bit_or (bit_or k.value v) v ≡ bit_or k.value v = or_again k.width.0 k.value v (value_fits k p) (omega (arith, and_le_r lo e)) in
    let q : ℕ → ℕ → Known = λ m v. record { mask = m; value = v; width = k.width; empty = false } in
    ap (λ m. q m (bit_or (bit_or k.value v) v)) d ∙ ap (q (bit_or k.mask e)) g

-- the ends are found at once
ends_again : (q : Known) (r : Range) (c d : Option ℕ) → q.empty ≡ false → r.lo ≤ r.hi → has_bits q.mask q.value r.lo ≡ true → has_bits q.mask q.value r.hi ≡ true
    → with_ends q r (cond (has_bits q.mask q.value r.lo) (Some r.lo) c) (cond (has_bits q.mask q.value r.hi) (Some r.hi) d) ≡ filled q r.lo r.hi
ends_again q r c d e o h l =
    ap (λ a. with_ends q r a (cond (has_bits q.mask q.value r.hi) (Some r.hi) d)) (cond-true (has_bits q.mask q.value r.lo) (Some r.lo) c h)
    ∙ ap (with_ends q r (Some r.lo)) (cond-true (has_bits q.mask q.value r.hi) (Some r.hi) d l)
    ∙ cond-false (q.empty || (range_is_empty r || ltb r.hi r.lo)) (no_pair q.width) (filled q r.lo r.hi)
    (or_from q.empty _ e (or_from (range_is_empty r) (ltb r.hi r.lo) (le-ltb r.hi r.lo o) (le-ltb r.hi r.lo o)))

pub normal_again : (q : Known) (r : Range) → q.empty ≡ false → r.lo ≤ r.hi → has_bits q.mask q.value r.lo ≡ true → has_bits q.mask q.value r.hi ≡ true → normal q r ≡ filled q r.lo r.hi
unfolding normal
normal_again q r e o h l = ends_again q r (least_candidate q.width.0 q.mask q.value r.lo) (greatest_candidate q.width.0 q.mask q.value r.hi) e o h l

-- a number that a filled Pair holds has its known bits
pub held_bits : (q : Known) (r : Range) (x : ℕ) → IsKnown q → (known_holds q x && range_holds r x) ≡ true → has_bits q.mask q.value x ≡ true
held_bits q r x p h = eq-eqb (bit_and x q.mask) q.value (held q x p (and_parts (known_holds q x) (range_holds r x) h).0).masked

filled_is : (k : Known) (r : Range) (lo hi : ℕ) → AreParts k r → Found k r lo hi → IsPair (filled k lo hi)
filled_is k r lo hi p f =
    let q = knowing k (ends k.width lo hi) in
    let e = ends k.width lo hi in
    let s = knowing_is k lo hi p.known in
    let a = held_bits q e lo s (filled_holds k r lo hi lo p f (low_held k r lo hi f)) in
    let b = held_bits q e hi s (filled_holds k r lo hi hi p f (high_held k r lo hi p f)) in
    let g : Known → Pair = λ q. record { known = q; range = e } in
    record {
      known = s;
      range = record {
        width = p.known.width;
        lo_fits = f.least.fits;
        hi_fits = omega (arith, f.greatest.beyond, subst (λ (w : Width). r.hi < 2 ^ w.0) (sym p.widths) p.range.hi_fits);
        empty = λ h. absurd (omega (arith, f.order));
      };
      widths = refl;
      normal = normal_again q e refl f.order a b ∙ ap g (known_again k lo hi p.known);
    }

-- the normal form is a domain
pub normal_is : (k : Known) (r : Range) → AreParts k r → IsPair (normal k r)
normal_is k r p = ⊎_elim
    (λ (c : (normal k r ≡ no_pair k.width) × HoldNone k r). subst IsPair (sym c.0) (no_pair_is k.width p.known.width))
    (λ (c : (lo : ℕ) × (hi : ℕ) × (normal k r ≡ filled k lo hi) × Found k r lo hi). subst IsPair (sym c.2) (filled_is k r c.0 c.1 p c.3))
    (cases k r p)

-- normalised again, it stays
pub normal_twice : (k : Known) (r : Range) → AreParts k r → normal (normal k r).known (normal k r).range ≡ normal k r
normal_twice k r p = (normal_is k r p).normal

-- ---- known bits

kept_value : (m v l e : Bool) → m ≡ true → (l && m) ≡ v → (v || (l && e)) ≡ v
kept_value m v l e h s = grind arith

-- it keeps each known bit
pub normal_knows : (k : Known) (r : Range) (i : ℕ) (v : Bool) → AreParts k r → (normal k r).known.empty ≡ false → KnowsBit known_ops k i v → KnowsBit known_ops (normal k r).known i v
normal_knows k r i v p h b = ⊎_elim
    (λ (c : (normal k r ≡ no_pair k.width) × HoldNone k r). absurd (true≢false (sym (ap (λ (p : Pair). p.known.empty) c.0) ∙ h)))
    (λ (c : (lo : ℕ) × (hi : ℕ) × (normal k r ≡ filled k lo hi) × Found k r lo hi). subst (λ (p : Pair). KnowsBit known_ops p.known i v) (sym c.2) (
      mask_bit k c.0 c.1 i ∙ or_left (bit k.mask i) _ b.0,
      value_bit k c.0 c.1 i ∙ kept_value (bit k.mask i) (bit k.value i) (bit c.0 i) (bit (range_mask (ends k.width c.0 c.1)) i) b.0 (has_bit k.mask k.value c.0 i c.3.least.has) ∙ b.1,
    ))
    (cases k r p)

-- where all bits were known, they are
pub normal_all : (k : Known) (r : Range) → AreParts k r → (normal k r).known.empty ≡ false → k.mask ≡ 2 ^ k.width.0 - 1 → (normal k r).known.mask ≡ 2 ^ k.width.0 - 1
normal_all k r p h e = ⊎_elim
    (λ (c : (normal k r ≡ no_pair k.width) × HoldNone k r). absurd (true≢false (sym (ap (λ (p : Pair). p.known.empty) c.0) ∙ h)))
    (λ (c : (lo : ℕ) × (hi : ℕ) × (normal k r ≡ filled k lo hi) × Found k r lo hi). ap (λ (p : Pair). p.known.mask) c.2
    ∙ same_bits k.width.0 (knowing k (ends k.width c.0 c.1)).mask (2 ^ k.width.0 - 1) (mask_below k c.0 c.1 p.known) (omega (arith, pow_pos k.width.0))
    (λ i l. mask_bit k c.0 c.1 i ∙ or_left (bit k.mask i) _ (ap (λ n. bit n i) e ∙ bit_of_ones k.width.0 i l) ∙ sym (bit_of_ones k.width.0 i l)))
    (cases k r p)

-- ---- a Pair is empty, or its ends are held

pub record IsFilled (p : Pair) : Type 0 where
  pub full : p.known.empty ≡ false
  pub order : p.range.lo ≤ p.range.hi
  pub low : pair_holds p p.range.lo ≡ true
  pub high : pair_holds p p.range.hi ≡ true

filled_ends : (k : Known) (r : Range) → AreParts k r → (normal k r ≡ no_pair k.width) ⊎ IsFilled (normal k r)
filled_ends k r p = ⊎_elim
    (λ (c : (normal k r ≡ no_pair k.width) × HoldNone k r). inl c.0)
    (λ (c : (lo : ℕ) × (hi : ℕ) × (normal k r ≡ filled k lo hi) × Found k r lo hi). inr (subst IsFilled (sym c.2) (record {
      full = refl;
      order = c.3.order;
      low = filled_holds k r c.0 c.1 c.0 p c.3 (low_held k r c.0 c.1 c.3);
      high = filled_holds k r c.0 c.1 c.1 p c.3 (high_held k r c.0 c.1 p c.3);
    })))
    (cases k r p)

pub parts_of : (p : Pair) → IsPair p → AreParts p.known p.range
parts_of p h = record { known = h.known; range = h.range; widths = h.widths }

pub filled_or_not : (p : Pair) → IsPair p → (p ≡ no_pair p.known.width) ⊎ IsFilled p
filled_or_not p h = subst (λ q. (q ≡ no_pair p.known.width) ⊎ IsFilled q) h.normal (filled_ends p.known p.range (parts_of p h))

pub filled_where : (p : Pair) → IsPair p → p.known.empty ≡ false → IsFilled p
filled_where p h e = ⊎_elim (λ (n : p ≡ no_pair p.known.width). absurd (true≢false (sym (ap (λ (p : Pair). p.known.empty) n) ∙ e))) (λ (f : IsFilled p). f) (filled_or_not p h)
