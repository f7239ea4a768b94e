-- The Triple that lists given numbers: it is a Pair in normal form beside them, and holds these numbers.
use Rattle.std.proofs.Common.{◌≡◌, ℕ, ◌/◌, ◌^◌, ◌<◌, ◌≤◌, Bool, true, false, ◌&&◌, eqb, leb, List, [], ◌∷◌, bit_and, refl, sym, ap, ◌∙◌, arith}
use Rattle.std.specs.List.{AllByRecursion, filter}
use Rattle.std.proofs.lemmas.Bool.{and_from, cond-true, eqb-true, eq-eqb, le-leb, le-ltb, false≢true, true≢false, or_right}
use Rattle.std.proofs.lemmas.Nat.{and_le_l}
use Rattle.dt_lemmas.proofs.Powers.{quotient_between}
use Rattle.dt_bits.specs.Bits.{IsWidth, bit}
use Rattle.dt_bits.specs.declared.value.Width.{Width}
use Rattle.dt_bits.proofs.BitLemmas.{same_bits, bit_of_and, same_bit}
use Rattle.dt_known.specs.declared.Known.{Known}
use Rattle.dt_known.specs.Known.{IsKnown, known_holds}
use Rattle.dt_known.specs.Laws.Bits.{held_is}
use Rattle.dt_range.specs.Range.{range_holds}
use Rattle.dt_range.specs.Laws.KnownBits.{mask_bit}
use Rattle.dt_pair.specs.declared.Pair.{Pair}
use Rattle.dt_pair.specs.Ends.{has_bits}
use Rattle.dt_pair.specs.Pair.{IsPair, pair_holds, ends}
use Rattle.dt_pair.specs.Laws.Form.{normal_again, no_pair_is}
use Rattle.dt_pair.specs.Laws.Whole.{knowing_still}
use Rattle.dt_sets.specs.Lists.{IsRising, has}
use Rattle.dt_sets.specs.Sets.{listing, agreed_mask, agreed_value}
use Rattle.dt_sets.specs.Triple.{pair_of, triple_holds, last, agreed, of_numbers, no_triple, reduced, IsTriple}
use Rattle.dt_sets.specs.Laws.Lists.{all_has, all_weaker, here}
use Rattle.dt_sets.specs.Laws.Form.{AreListed, listing_of, listing_holds, listed_is, nothing_of}
use Rattle.dt_sets.specs.Laws.KnownBits.{mask_below, all_known, all_from_has, agrees}

-- ---- the last number

last_has : (x : ℕ) (xs : List ℕ) → has (x ∷ xs) (last x xs) ≡ true
last_has x [] = here x []
last_has x (y ∷ ys) = or_right (eqb x (last y ys)) (has (y ∷ ys) (last y ys)) (last_has y ys)

last_above : (x : ℕ) (xs : List ℕ) → IsRising (x ∷ xs) → AllByRecursion (λ y. y ≤ last x xs) (x ∷ xs)
last_above x [] r = (omega arith, tt)
last_above x (y ∷ ys) r =
    let a = last_above y ys r.1 in
    let l = r.0.0 in
    let m : y ≤ last y ys = a.0 in
    (omega (arith, l, m), a)

first_below : (x : ℕ) (xs : List ℕ) → IsRising (x ∷ xs) → AllByRecursion (λ y. x ≤ y) (x ∷ xs)
first_below x xs r = (omega arith, all_weaker (λ y. x < y) (λ y. x ≤ y) (λ y l. omega arith) xs r.0)

-- ---- a number of the list lies in the Pair, and has its bits

record Lies (w : Width) (x : ℕ) (xs : List ℕ) (y : ℕ) : Type 0 where
  fits : y < 2 ^ w.0
  above : x ≤ y
  below : y ≤ last x xs
  masked : bit_and y (agreed_mask w.0 (x ∷ xs)) ≡ agreed_value w.0 (x ∷ xs)

lies : (w : Width) (x : ℕ) (xs : List ℕ) (y : ℕ) → AreListed w (x ∷ xs) → has (x ∷ xs) y ≡ true → Lies w x xs y
lies w x xs y a h = record {
  fits = all_has (λ z. z < 2 ^ w.0) (x ∷ xs) y a.fits h;
  above = all_has (λ z. x ≤ z) (x ∷ xs) y (first_below x xs a.rises) h;
  below = all_has (λ z. z ≤ last x xs) (x ∷ xs) y (last_above x xs a.rises) h;
  masked = agrees w.0 (x ∷ xs) y a.fits h;
}

in_pair : (w : Width) (x : ℕ) (xs : List ℕ) (y : ℕ) → Lies w x xs y → pair_holds (pair_of (of_numbers w (x ∷ xs))) y ≡ true
in_pair w x xs y l = and_from (known_holds (agreed w (x ∷ xs)) y) (range_holds (ends w x (last x xs)) y)
    (held_is (agreed w (x ∷ xs)) y refl l.fits l.masked)
    (and_from (leb x y) (leb y (last x xs)) (le-leb x y l.above) (le-leb y (last x xs) l.below))

-- ---- the Pair is in normal form

agreed_is : (w : Width) (x : ℕ) (xs : List ℕ) → IsWidth w.0 → AreListed w (x ∷ xs) → IsKnown (agreed w (x ∷ xs))
agreed_is w x xs h a =
    let m = agreed_mask w.0 (x ∷ xs) in
    let below : bit_and x m < 2 ^ w.0 = omega (arith, and_le_l x m, a.fits.0) in
    record {
      width = h;
      mask_fits = mask_below w.0 (x ∷ xs);
      within = same_bits w.0 (bit_and (bit_and x m) m) (bit_and x m) (omega (arith, and_le_l (bit_and x m) m)) below (λ i l.
          bit_of_and (bit_and x m) m i ∙ ap (λ b. b && bit m i) (bit_of_and x m i) ∙ twice (bit x i) (bit m i) ∙ sym (bit_of_and x m i));
      empty = λ e. absurd (false≢true e);
    }
  where
    twice : (p q : Bool) → ((p && q) && q) ≡ (p && q)
    twice p q = grind arith

-- a bit that the ends share is shared by all numbers between them
shared : (w : Width) (x : ℕ) (xs : List ℕ) (i : ℕ) → AreListed w (x ∷ xs) → i < w.0 → x / 2 ^ i ≡ last x xs / 2 ^ i → bit (agreed_mask w.0 (x ∷ xs)) i ≡ true
shared w x xs i a l e = (all_known w.0 x xs i (bit x i) l (all_from_has (λ y. bit y i ≡ bit x i) (x ∷ xs) (λ y h.
    let k = lies w x xs y a h in
    same_bit y x i (quotient_between x y (last x xs) i k.above k.below e)))).0

numbers_pair : (w : Width) (x : ℕ) (xs : List ℕ) → IsWidth w.0 → AreListed w (x ∷ xs) → IsPair (pair_of (of_numbers w (x ∷ xs)))
numbers_pair w x xs h a =
    let k = agreed w (x ∷ xs) in
    let r = ends w x (last x xs) in
    let p = agreed_is w x xs h a in
    let lo = lies w x xs x a (here x xs) in
    let hi = lies w x xs (last x xs) a (last_has x xs) in
    let o : x ≤ last x xs = hi.above in
    let b : has_bits k.mask k.value x ≡ true = eq-eqb _ _ lo.masked in
    let c : has_bits k.mask k.value (last x xs) ≡ true = eq-eqb _ _ hi.masked in
    let g : Known → Pair = λ q. record { known = q; range = r } in
    record {
      known = p;
      range = record { width = h; lo_fits = lo.fits; hi_fits = hi.fits; empty = λ n. absurd (omega arith) };
      widths = refl;
      normal = normal_again k r refl o b c
          ∙ ap g (knowing_still k x (last x xs) p refl b (λ i l e.
          shared w x xs i a l (eqb-true _ _ (sym (mask_bit r i (le-ltb (last x xs) x o) l) ∙ e))));
    }

-- ---- what it holds

of_one : (p q : Bool) → (p ≡ true → q ≡ true) → (q && p) ≡ p
of_one p q f = grind arith

pub numbers_hold : (w : Width) (xs : List ℕ) (y : ℕ) → AreListed w xs → triple_holds (of_numbers w xs) y ≡ has xs y
numbers_hold w [] y a = refl
numbers_hold w (x ∷ xs) y a =
    ap (λ b. pair_holds (pair_of (of_numbers w (x ∷ xs))) y && b) (listing_holds w (x ∷ xs) y)
    ∙ of_one (has (x ∷ xs) y) (pair_holds (pair_of (of_numbers w (x ∷ xs))) y) (λ h. in_pair w x xs y (lies w x xs y a h))

pub filter_all : (p : ℕ → Bool) (xs : List ℕ) → AllByRecursion (λ x. p x ≡ true) xs → filter p xs ≡ xs
filter_all p [] a = refl
filter_all p (x ∷ xs) a =
    let f : ℕ → List ℕ → List ℕ = λ x xs. x ∷ xs in
    cond-true (p x) (x ∷ filter p xs) (filter p xs) a.0 ∙ ap (f x) (filter_all p xs a.1)

numbers_normal : (w : Width) (x : ℕ) (xs : List ℕ) → AreListed w (x ∷ xs) → reduced (pair_of (of_numbers w (x ∷ xs))) (listing w (x ∷ xs)) ≡ of_numbers w (x ∷ xs)
unfolding reduced
numbers_normal w x xs a =
    let q = pair_holds (pair_of (of_numbers w (x ∷ xs))) in
    ap (λ ys. of_numbers w (filter q ys)) (listed_is w (x ∷ xs))
    ∙ ap (of_numbers w) (filter_all q (x ∷ xs) (all_from_has (λ y. q y ≡ true) (x ∷ xs) (λ y h. in_pair w x xs y (lies w x xs y a h))))

nothing_normal : (w : Width) → reduced (pair_of (no_triple w)) (listing w []) ≡ no_triple w
unfolding reduced
nothing_normal w = ap (λ ys. of_numbers w (filter (pair_holds (pair_of (no_triple w))) ys)) (listed_is w [])

-- it is valid
pub numbers_is : (w : Width) (xs : List ℕ) → IsWidth w.0 → AreListed w xs → IsTriple (of_numbers w xs)
numbers_is w [] h a = record { pair = no_pair_is w h; sets = (nothing_of w h).0; widths = refl; normal = nothing_normal w }
numbers_is w (x ∷ xs) h a = record {
  pair = numbers_pair w x xs h a;
  sets = (listing_of w (x ∷ xs) h a).0;
  widths = refl;
  normal = numbers_normal w x xs a;
}

pub numbers_width : (w : Width) (xs : List ℕ) → (of_numbers w xs).known.width ≡ w
numbers_width w [] = refl
numbers_width w (x ∷ xs) = refl

-- it isn't empty where it has a number
pub numbers_full : (w : Width) (xs : List ℕ) (y : ℕ) → has xs y ≡ true → (of_numbers w xs).known.empty ≡ false
numbers_full w [] y h = absurd (true≢false (sym h))
numbers_full w (x ∷ xs) y h = refl

pub numbers_some : (w : Width) (xs : List ℕ) → (of_numbers w xs).known.empty ≡ false → (x : ℕ) × (has xs x ≡ true)
numbers_some w [] e = absurd (true≢false e)
numbers_some w (x ∷ xs) e = (x, here x xs)

-- it knows each bit that all its numbers have
pub numbers_know : (w : Width) (xs : List ℕ) (i : ℕ) (v : Bool) → (of_numbers w xs).known.empty ≡ false → i < w.0 → ((x : ℕ) → has xs x ≡ true → bit x i ≡ v)
    → (bit (of_numbers w xs).known.mask i ≡ true) × (bit (of_numbers w xs).known.value i ≡ v)
numbers_know w [] i v e l f = absurd (true≢false e)
numbers_know w (x ∷ xs) i v e l f = all_known w.0 x xs i v l (all_from_has (λ y. bit y i ≡ v) (x ∷ xs) f)
