-- The normal form: it holds what both parts hold, and it is empty exactly where they hold nothing together.
use Rattle.std.proofs.Common.{◌≡◌, ℕ, ◌+◌, ◌/◌, ◌^◌, ◌<◌, ◌≤◌, ◌⊎◌, inl, inr, Bool, true, false, ◌&&◌, ◌||◌, eqb, ltb, leb, bit_and, Option, Some, None, refl, sym, ap, ◌∙◌, subst, ⊎_elim, arith}
use Rattle.std.specs.Cmp.{both_ways}
use Rattle.std.proofs.lemmas.Bool.{cond_both, cond-false, and_parts, and_from, or_parts, or_cases, eqb-true, eq-eqb, leb-true, le-leb, ltb-true, ltb-false, le-ltb, false≢true}
use Rattle.std.proofs.lemmas.Nat.{pow_pos, and_le_l, and_le_r, or_lt}
use Rattle.dt_lemmas.proofs.Powers.{quotient_le}
use Rattle.dt_bits.specs.Bits.{bit, number_of}
use Rattle.dt_bits.specs.declared.value.Width.{Width}
use Rattle.dt_bits.proofs.BitLemmas.{same_bits, bit_of_and, bit_of_or, bit_of_shr, bit_of_number, number_of_below}
use Rattle.dt_known.specs.declared.Known.{Known}
use Rattle.dt_known.specs.Known.{IsKnown, known_holds}
use Rattle.dt_known.specs.Laws.Bits.{held, held_is, value_fits}
use Rattle.dt_range.specs.declared.Range.{Range}
use Rattle.dt_range.specs.Range.{range_holds, range_is_empty, range_mask, shares_from}
use Rattle.dt_pair.specs.declared.Pair.{Pair}
use Rattle.dt_pair.specs.Ends.{has_bits, IsLeast, IsLeastFound, IsGreatest, IsGreatestFound}
use Rattle.dt_pair.specs.Pair.{AreParts, both_hold, pair_holds, no_pair, ends, knowing, filled, least_of, greatest_of, with_ends, normal}
use Rattle.dt_pair.specs.Laws.Candidates.{has_bit}
use Rattle.dt_pair.specs.Laws.Least.{AreWords, least_is}
use Rattle.dt_pair.specs.Laws.Greatest.{greatest_is}

-- both hold x
pub record HoldBoth (k : Known) (r : Range) (x : ℕ) : Type 0 where
  pub known : known_holds k x ≡ true
  pub range : range_holds r x ≡ true

-- both together hold nothing
abbrev pub HoldNone : Known → Range → Type 0
HoldNone k r = (x : ℕ) → HoldBoth k r x → ⊥

-- the ends are found, in order
pub record Found (k : Known) (r : Range) (lo hi : ℕ) : Type 0 where
  pub full : k.empty ≡ false
  pub least : IsLeast k.width.0 k.mask k.value r.lo lo
  pub greatest : IsGreatest k.mask k.value r.hi hi
  pub order : lo ≤ hi

pub words_of : (k : Known) → IsKnown k → AreWords k.width.0 k.mask k.value
words_of k p = record { mask = p.mask_fits; within = p.within }

-- what it means that both hold x
pub record Both (k : Known) (r : Range) (x : ℕ) : Type 0 where
  pub full : k.empty ≡ false
  pub fits : x < 2 ^ k.width.0
  pub has : has_bits k.mask k.value x ≡ true
  pub low : r.lo ≤ x
  pub high : x ≤ r.hi

pub both : (k : Known) (r : Range) (x : ℕ) → IsKnown k → HoldBoth k r x → Both k r x
both k r x p h =
    let s = held k x p h.known in
    let t = and_parts (leb r.lo x) (leb x r.hi) h.range in
    record { full = s.full; fits = s.fits; has = eq-eqb _ _ s.masked; low = leb-true _ _ t.0; high = leb-true _ _ t.1 }

pub hold_both : (k : Known) (r : Range) (x : ℕ) → k.empty ≡ false → x < 2 ^ k.width.0 → has_bits k.mask k.value x ≡ true → r.lo ≤ x → x ≤ r.hi → HoldBoth k r x
hold_both k r x e f h l g = record {
  known = held_is k x e f (eqb-true (bit_and x k.mask) k.value h);
  range = and_from (leb r.lo x) (leb x r.hi) (le-leb _ _ l) (le-leb _ _ g);
}

-- ---- nothing is held, or the ends are found

abbrev pub Cases : Known → Range → Pair → Type 0
Cases k r p = ((p ≡ no_pair k.width) × HoldNone k r) ⊎ ((lo : ℕ) × (hi : ℕ) × (p ≡ filled k lo hi) × Found k r lo hi)

stopped : (k : Known) (r : Range) (lo : ℕ) → IsKnown k → IsLeast k.width.0 k.mask k.value r.lo lo
    → (k.empty || (range_is_empty r || ltb r.hi lo)) ≡ true → HoldNone k r
stopped k r lo p l e x h =
    let b = both k r x p h in
    ⊎_elim (λ (t : k.empty ≡ true). false≢true (sym b.full ∙ t))
    (λ (t : (range_is_empty r || ltb r.hi lo) ≡ true).
    ⊎_elim (λ (s : ltb r.hi r.lo ≡ true). let o : r.hi < r.lo = ltb-true _ _ s in absurd (omega (arith, b.low, b.high)))
    (λ (s : ltb r.hi lo ≡ true). let o : r.hi < lo = ltb-true _ _ s in let m = l.least x b.low b.fits b.has in absurd (omega (arith, b.high, m)))
    (or_cases (range_is_empty r) (ltb r.hi lo) t))
    (or_cases k.empty (range_is_empty r || ltb r.hi lo) e)

cases_at : (k : Known) (r : Range) (a b : Option ℕ) → AreParts k r → IsLeastFound k.width.0 k.mask k.value r.lo a → IsGreatestFound k.mask k.value r.hi b
    → Cases k r (with_ends k r a b)
cases_at k r None b p l g = inl (refl, λ x h. let s = both k r x p.known h in l x s.low s.fits s.has)
cases_at k r (Some lo) None p l g = inl (refl, λ x h. let s = both k r x p.known h in g x s.high s.has)
cases_at k r (Some lo) (Some hi) p l g = cond_both (k.empty || (range_is_empty r || ltb r.hi lo)) (no_pair k.width) (filled k lo hi) (Cases k r)
    (λ e. inl (refl, stopped k r lo p.known l e))
    (λ e.
    let s = or_parts k.empty _ e in
    let t = or_parts (range_is_empty r) (ltb r.hi lo) s.1 in
    let o : lo ≤ r.hi = ltb-false _ _ t.1 in
    inr (lo, hi, refl, record { full = s.0; least = l; greatest = g; order = g.greatest lo o l.has }))

pub hi_fits : (k : Known) (r : Range) → AreParts k r → r.hi < 2 ^ k.width.0
hi_fits k r p = subst (λ (w : Width). r.hi < 2 ^ w.0) (sym p.widths) p.range.hi_fits

pub lo_fits : (k : Known) (r : Range) → AreParts k r → r.lo < 2 ^ k.width.0
lo_fits k r p = subst (λ (w : Width). r.lo < 2 ^ w.0) (sym p.widths) p.range.lo_fits

pub cases : (k : Known) (r : Range) → AreParts k r → Cases k r (normal k r)
unfolding normal
cases k r p = cases_at k r (least_of k r) (greatest_of k r) p
    (least_is k.width.0 k.mask k.value r.lo (words_of k p.known) (lo_fits k r p))
    (greatest_is k.width.0 k.mask k.value r.hi (words_of k p.known) (hi_fits k r p))

-- ---- what the ends know

-- the bits that the ends know
pub end_bit : (w : Width) (lo hi i : ℕ) → lo ≤ hi → i < w.0 → bit (range_mask (ends w lo hi)) i ≡ eqb (lo / 2 ^ i) (hi / 2 ^ i)
end_bit w lo hi i l h = ap (λ n. bit n i) (cond-false (ltb hi lo) 0 (number_of w.0 (shares_from (ends w lo hi))) (le-ltb hi lo l)) ∙ bit_of_number w.0 (shares_from (ends w lo hi)) i h

pub mask_fits : (w : Width) (lo hi : ℕ) → range_mask (ends w lo hi) < 2 ^ w.0
mask_fits w lo hi = cond_both (ltb hi lo) 0 (number_of w.0 (shares_from (ends w lo hi))) (λ n. n < 2 ^ w.0) (λ _. pow_pos w.0) (λ _. number_of_below w.0 (shares_from (ends w lo hi)))

-- all numbers between share it
shared : (lo hi x i : ℕ) → lo ≤ x → x ≤ hi → lo / 2 ^ i ≡ hi / 2 ^ i → bit x i ≡ bit lo i
shared lo hi x i l h e =
    let a = quotient_le lo x i l in
    let b = quotient_le x hi i h in
    let s : x / 2 ^ i ≡ lo / 2 ^ i = omega (arith, a, b, e) in
    let z : i + 0 ≡ i = omega arith in
    ap (bit x) (sym z) ∙ sym (bit_of_shr x i 0) ∙ ap (λ n. bit n 0) s ∙ bit_of_shr lo i 0 ∙ ap (bit lo) z

pub shared_end : (w : Width) (lo hi x i : ℕ) → lo ≤ x → x ≤ hi → i < w.0 → bit (range_mask (ends w lo hi)) i ≡ true → bit x i ≡ bit lo i
shared_end w lo hi x i l h f e = shared lo hi x i l h (eqb-true (lo / 2 ^ i) (hi / 2 ^ i) (sym (end_bit w lo hi i (omega arith) f) ∙ e))

-- ---- the filled Pair

pub value_bit : (k : Known) (lo hi i : ℕ) → bit (knowing k (ends k.width lo hi)).value i ≡ (bit k.value i || (bit lo i && bit (range_mask (ends k.width lo hi)) i))
value_bit k lo hi i = bit_of_or k.value (bit_and lo (range_mask (ends k.width lo hi))) i ∙ ap (λ b. bit k.value i || b) (bit_of_and lo (range_mask (ends k.width lo hi)) i)

pub mask_bit : (k : Known) (lo hi i : ℕ) → bit (knowing k (ends k.width lo hi)).mask i ≡ (bit k.mask i || bit (range_mask (ends k.width lo hi)) i)
mask_bit k lo hi i = bit_of_or k.mask (range_mask (ends k.width lo hi)) i

pub value_below : (k : Known) (lo hi : ℕ) → IsKnown k → (knowing k (ends k.width lo hi)).value < 2 ^ k.width.0
value_below k lo hi p = or_lt k.width.0 k.value _ (value_fits k p) (omega (arith, and_le_r lo (range_mask (ends k.width lo hi)), mask_fits k.width lo hi))

pub mask_below : (k : Known) (lo hi : ℕ) → IsKnown k → (knowing k (ends k.width lo hi)).mask < 2 ^ k.width.0
mask_below k lo hi p = or_lt k.width.0 k.mask _ p.mask_fits (mask_fits k.width lo hi)

into : (x m v l e : Bool) → (x && m) ≡ v → (e ≡ true → x ≡ l) → (x && (m || e)) ≡ (v || (l && e))
into x m v l e h s = grind arith

out_of : (x m v l e : Bool) → (v && m) ≡ v → (l && m) ≡ v → (x && (m || e)) ≡ (v || (l && e)) → (x && m) ≡ v
out_of x m v l e h s t = grind arith

-- it holds each number that both hold
filled_has : (k : Known) (r : Range) (lo hi x : ℕ) → AreParts k r → Found k r lo hi → lo ≤ x → x ≤ hi → x < 2 ^ k.width.0 → has_bits k.mask k.value x ≡ true
    → (let q = knowing k (ends k.width lo hi) in bit_and x q.mask ≡ q.value)
filled_has k r lo hi x p f l h fx e =
    let q = knowing k (ends k.width lo hi) in
    same_bits k.width.0 (bit_and x q.mask) q.value (omega (arith, and_le_l x q.mask)) (value_below k lo hi p.known) (λ i s.
    bit_of_and x q.mask i ∙ ap (λ b. bit x i && b) (mask_bit k lo hi i)
    ∙ into (bit x i) (bit k.mask i) (bit k.value i) (bit lo i) (bit (range_mask (ends k.width lo hi)) i) (has_bit k.mask k.value x i e) (shared_end k.width lo hi x i l h s)
    ∙ sym (value_bit k lo hi i))

pub filled_holds : (k : Known) (r : Range) (lo hi x : ℕ) → AreParts k r → Found k r lo hi → HoldBoth k r x → pair_holds (filled k lo hi) x ≡ true
filled_holds k r lo hi x p f h =
    let b = both k r x p.known h in
    let l = f.least.least x b.low b.fits b.has in
    let g = f.greatest.greatest x b.high b.has in
    and_from (known_holds (knowing k (ends k.width lo hi)) x) (range_holds (ends k.width lo hi) x)
    (held_is (knowing k (ends k.width lo hi)) x refl b.fits (filled_has k r lo hi x p f l g b.fits b.has))
    (and_from (leb lo x) (leb x hi) (le-leb _ _ l) (le-leb _ _ g))

-- and no other
filled_held : (k : Known) (r : Range) (lo hi x : ℕ) → AreParts k r → Found k r lo hi → pair_holds (filled k lo hi) x ≡ true → HoldBoth k r x
filled_held k r lo hi x p f h =
    let q = knowing k (ends k.width lo hi) in
    let t = and_parts (known_holds q x) (range_holds (ends k.width lo hi) x) h in
    let u = and_parts (ltb x (2 ^ k.width.0)) (eqb (bit_and x q.mask) q.value) t.0 in
    let s = and_parts (leb lo x) (leb x hi) t.1 in
    let low : lo ≤ x = leb-true _ _ s.0 in
    let high : x ≤ hi = leb-true _ _ s.1 in
    let fits : x < 2 ^ k.width.0 = ltb-true _ _ u.0 in
    let e : bit_and x q.mask ≡ q.value = eqb-true _ _ u.1 in
    let m : bit_and x k.mask ≡ k.value = same_bits k.width.0 (bit_and x k.mask) k.value (omega (arith, and_le_l x k.mask)) (value_fits k p.known) (λ i s.
    bit_of_and x k.mask i
    ∙ out_of (bit x i) (bit k.mask i) (bit k.value i) (bit lo i) (bit (range_mask (ends k.width lo hi)) i)
    (sym (bit_of_and k.value k.mask i) ∙ ap (λ n. bit n i) p.known.within) (has_bit k.mask k.value lo i f.least.has)
    (ap (λ b. bit x i && b) (sym (mask_bit k lo hi i)) ∙ sym (bit_of_and x q.mask i) ∙ ap (λ n. bit n i) e ∙ value_bit k lo hi i)) in
    hold_both k r x f.full fits (eq-eqb _ _ m) (omega (arith, f.least.beyond)) (omega (arith, f.greatest.beyond))

-- ---- laws of the normal form

-- it holds what both parts hold
pub normal_holds : (k : Known) (r : Range) (x : ℕ) → AreParts k r → HoldBoth k r x → pair_holds (normal k r) x ≡ true
normal_holds k r x p h = ⊎_elim
    (λ (c : (normal k r ≡ no_pair k.width) × HoldNone k r). absurd (c.1 x h))
    (λ (c : (lo : ℕ) × (hi : ℕ) × (normal k r ≡ filled k lo hi) × Found k r lo hi). subst (λ q. pair_holds q x ≡ true) (sym c.2) (filled_holds k r c.0 c.1 x p c.3 h))
    (cases k r p)

pub normal_held : (k : Known) (r : Range) (x : ℕ) → AreParts k r → pair_holds (normal k r) x ≡ true → HoldBoth k r x
normal_held k r x p h = ⊎_elim
    (λ (c : (normal k r ≡ no_pair k.width) × HoldNone k r). absurd (false≢true (subst (λ q. pair_holds q x ≡ true) c.0 h)))
    (λ (c : (lo : ℕ) × (hi : ℕ) × (normal k r ≡ filled k lo hi) × Found k r lo hi). filled_held k r c.0 c.1 x p c.3 (subst (λ q. pair_holds q x ≡ true) c.2 h))
    (cases k r p)

hold_all : (k : Known) (r : Range) (x : ℕ) → both_hold k r x ≡ true → HoldBoth k r x
hold_all k r x h = let p = and_parts (known_holds k x) (range_holds r x) h in record { known = p.0; range = p.1 }

pub normal_same : (k : Known) (r : Range) → AreParts k r → (x : ℕ) → pair_holds (normal k r) x ≡ both_hold k r x
normal_same k r p x = both_ways (pair_holds (normal k r) x) (both_hold k r x)
    (λ e. let h = normal_held k r x p e in and_from (known_holds k x) (range_holds r x) h.known h.range)
    (λ e. normal_holds k r x p (hold_all k r x e))
