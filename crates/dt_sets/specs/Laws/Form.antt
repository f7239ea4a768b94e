-- The form of Sets: what is listed, that it is valid, and that it is told by the numbers that are held.
use Rattle.std.proofs.Common.{◌≡◌, ℕ, ◌-◌, ◌^◌, ◌<◌, ◌≤◌, Bool, true, false, not, ltb, leb, ◌&&◌, List, [], ◌∷◌, length, replicate, refl, sym, ap, ◌∙◌, subst, ⊎_elim, arith, length-append}
use Rattle.std.specs.List.{AllByRecursion, filter}
use Rattle.std.proofs.lemmas.Bool.{cond_both, cond-true, cond-false, cases_Bool, leb-true, leb-false, ltb-true, lt-ltb, false≢true}
use Rattle.std.proofs.lemmas.List.{length-replicate}
use Rattle.std.proofs.Math.Seq.{take-append_seam}
use Rattle.std.proofs.Math.Nat.{pow-le-pow_right}
use Rattle.dt_bits.specs.Bits.{IsWidth, IsValue}
use Rattle.dt_bits.specs.declared.value.Bv.{Bv}
use Rattle.dt_bits.specs.declared.value.Width.{Width}
use Rattle.dt_sets.specs.declared.Sets.{Sets}
use Rattle.dt_sets.specs.Lists.{IsRising, has, below}
use Rattle.dt_sets.specs.Sets.{capacity, listing, everything, listed, IsListing, is_narrow, IsSets, sets_holds, HoldSame, IsCanonical, no_sets, sets_full, sets_one, kept, gathered}
use Rattle.dt_sets.specs.Laws.Lists.{all_has, all-filter, rising-filter, has-filter, has-below, all-below, rising-below, length-below, same_list}
use Rattle.std.proofs.lemmas.List.Filters.{length-filter_both}

-- ---- listed numbers

pub same_sets : (s t : Sets) → s.width ≡ t.width → s.many ≡ t.many → s.count ≡ t.count → s.numbers ≡ t.numbers → s ≡ t
same_sets s t e f g h =
    let k : Width → Bool → ℕ → List ℕ → Sets = λ w m c ns. record { width = w; many = m; count = c; numbers = ns } in
    ap (λ w. k w s.many s.count s.numbers) e ∙ ap (λ m. k t.width m s.count s.numbers) f ∙ ap (λ c. k t.width t.many c s.numbers) g ∙ ap (k t.width t.many t.count) h

pub listed_is : (w : Width) (xs : List ℕ) → listed (listing w xs) ≡ xs
listed_is w xs = take-append_seam xs (replicate (capacity - length xs) 0)

pub listing_is : (w : Width) (xs : List ℕ) → length xs ≤ capacity → IsListing (listing w xs)
listing_is w xs h = record {
  is = ap (listing w) (sym (listed_is w xs));
  short = subst (λ ys. length ys ≤ capacity) (sym (listed_is w xs)) h;
}

pub counted : (s : Sets) → IsListing s → s.count ≡ length (listed s)
counted s l = ap (λ (t : Sets). t.count) l.is

pub length-numbers : (s : Sets) → IsListing s → length s.numbers ≡ capacity
length-numbers s l =
    let z : ℕ = 0 in
    let n = capacity - length (listed s) in
    let e = length-append (listed s) (replicate n z) in
    let f = length-replicate n z in
    ap (λ (t : Sets). length t.numbers) l.is ∙ omega (arith, l.short, e, f)

-- ---- validity

abbrev pub IsOf : Width → Sets → Type 0
IsOf w s = IsSets s × (s.width ≡ w)

-- what it takes that numbers can be listed
pub record AreListed (w : Width) (xs : List ℕ) : Type 0 where
  pub short : length xs ≤ capacity
  pub rises : IsRising xs
  pub fits : AllByRecursion (λ x. x < 2 ^ w.0) xs

pub listing_of : (w : Width) (xs : List ℕ) → IsWidth w.0 → AreListed w xs → IsOf w (listing w xs)
listing_of w xs h a =
    let e = sym (listed_is w xs) in (
      record {
        width = h;
        form = ap (listing w) e;
        wide = λ t. absurd (false≢true t);
        short = subst (λ ys. length ys ≤ capacity) e a.short;
        rises = subst IsRising e a.rises;
        fits = subst (AllByRecursion (λ x. x < 2 ^ w.0)) e a.fits;
      },
      refl,
    )

pub nothing_of : (w : Width) → IsWidth w.0 → IsOf w (no_sets w)
nothing_of w h = listing_of w [] h (record { short = omega arith; rises = tt; fits = tt })

pub everything_of : (w : Width) → IsWidth w.0 → is_narrow w ≡ false → IsOf w (everything w)
everything_of w h n = (record { width = h; form = refl; wide = λ _. n; short = omega arith; rises = tt; fits = tt }, refl)

-- a narrow width has no more numbers than can be listed
narrow_short : (w : Width) → is_narrow w ≡ true → 2 ^ w.0 ≤ 2 ^ 3
narrow_short w n = pow-le-pow_right (omega arith) (leb-true w.0 3 n)

pub full_of : (w : Width) → IsWidth w.0 → IsOf w (sets_full w)
full_of w h = cond_both (is_narrow w) (listing w (below (2 ^ w.0))) (everything w) (IsOf w)
    (λ n. listing_of w (below (2 ^ w.0)) h (record {
      short = omega (arith, length-below (2 ^ w.0), narrow_short w n);
      rises = rising-below (2 ^ w.0);
      fits = all-below (2 ^ w.0);
    }))
    (λ n. everything_of w h n)

pub one_of : (v : Bv) → IsValue v → IsOf v.width (sets_one v)
one_of v h = listing_of v.width (v.bits ∷ []) h.0 (record { short = omega arith; rises = (tt, tt); fits = (h.1, tt) })

pub areas : (s : Sets) → IsSets s → AreListed s.width (listed s)
areas s p = record { short = p.short; rises = p.rises; fits = p.fits }

pub filter_listed : (q : ℕ → Bool) (w : Width) (xs : List ℕ) → AreListed w xs → AreListed w (filter q xs)
filter_listed q w xs a = record {
  short = let l = length-filter_both q (λ x. not (q x)) (λ x. refl) xs in omega (arith, a.short);
  rises = rising-filter q xs a.rises;
  fits = all-filter (λ x. x < 2 ^ w.0) q xs a.fits;
}

pub filtered_of : (q : ℕ → Bool) (w : Width) (xs : List ℕ) → IsWidth w.0 → AreListed w xs → IsOf w (listing w (filter q xs))
filtered_of q w xs h a = listing_of w (filter q xs) h (filter_listed q w xs a)

pub kept_of : (q : ℕ → Bool) (s : Sets) → IsSets s → IsOf s.width (kept q s)
kept_of q s p = cond_both s.many s (listing s.width (filter q (listed s))) (IsOf s.width)
    (λ _. (p, refl)) (λ _. filtered_of q s.width (listed s) p.width (areas s p))

pub gathered_of : (w : Width) (xs : List ℕ) → IsWidth w.0 → IsRising xs → AllByRecursion (λ x. x < 2 ^ w.0) xs → IsOf w (gathered w xs)
gathered_of w xs h r f = cond_both (leb (length xs) capacity) (listing w xs) (sets_full w) (IsOf w)
    (λ l. listing_of w xs h (record { short = leb-true (length xs) capacity l; rises = r; fits = f }))
    (λ _. full_of w h)

-- ---- the two forms

pub many_is : (s : Sets) → IsSets s → s.many ≡ true → s ≡ everything s.width
many_is s p m = p.form ∙ cond-true s.many (everything s.width) (listing s.width (listed s)) m

pub few_is : (s : Sets) → IsSets s → s.many ≡ false → IsListing s
few_is s p m = record { is = p.form ∙ cond-false s.many (everything s.width) (listing s.width (listed s)) m; short = p.short }

pub many_lists : (s : Sets) → IsSets s → s.many ≡ true → listed s ≡ []
many_lists s p m = ap listed (many_is s p m)

-- ---- what is held

pub listing_holds : (w : Width) (xs : List ℕ) (x : ℕ) → sets_holds (listing w xs) x ≡ has xs x
listing_holds w xs x = ap (λ ys. has ys x) (listed_is w xs)

pub few_holds : (s : Sets) (x : ℕ) → s.many ≡ false → sets_holds s x ≡ has (listed s) x
few_holds s x m = cond-false s.many (ltb x (2 ^ s.width.0)) (has (listed s) x) m

pub many_holds : (s : Sets) (x : ℕ) → s.many ≡ true → sets_holds s x ≡ ltb x (2 ^ s.width.0)
many_holds s x m = cond-true s.many (ltb x (2 ^ s.width.0)) (has (listed s) x) m

pub full_is : (w : Width) (x : ℕ) → sets_holds (sets_full w) x ≡ ltb x (2 ^ w.0)
full_is w x = cond_both (is_narrow w) (listing w (below (2 ^ w.0))) (everything w) (λ s. sets_holds s x ≡ ltb x (2 ^ w.0))
    (λ _. listing_holds w (below (2 ^ w.0)) x ∙ has-below (2 ^ w.0) x) (λ _. refl)

pub full_holds : (w : Width) (x : ℕ) → x < 2 ^ w.0 → sets_holds (sets_full w) x ≡ true
full_holds w x l = full_is w x ∙ lt-ltb x (2 ^ w.0) l

pub held_fits : (s : Sets) (x : ℕ) → IsSets s → sets_holds s x ≡ true → x < 2 ^ s.width.0
held_fits s x p h = ⊎_elim
    (λ (m : s.many ≡ true). ltb-true x (2 ^ s.width.0) (sym (many_holds s x m) ∙ h))
    (λ (m : s.many ≡ false). all_has (λ x. x < 2 ^ s.width.0) (listed s) x p.fits (sym (few_holds s x m) ∙ h))
    (cases_Bool s.many)

pub kept_holds : (q : ℕ → Bool) (s : Sets) (x : ℕ) → s.many ≡ false → sets_holds (kept q s) x ≡ (sets_holds s x && q x)
kept_holds q s x m =
    ap (λ t. sets_holds t x) (cond-false s.many s (listing s.width (filter q (listed s))) m)
    ∙ listing_holds s.width (filter q (listed s)) x ∙ has-filter q (listed s) x ∙ ap (λ b. b && q x) (sym (few_holds s x m))

-- ---- the same numbers

-- at a width where not all numbers can be listed, no list has them all
not_all : (a b : Sets) → IsSets a → IsSets b → a.width ≡ b.width → a.many ≡ true → b.many ≡ false → HoldSame a b → ⊥
not_all a b p q w m n s =
    let e : listed b ≡ below (2 ^ b.width.0) = same_list (listed b) (below (2 ^ b.width.0)) q.rises (rising-below (2 ^ b.width.0)) (λ x.
    sym (few_holds b x n) ∙ sym (s x) ∙ many_holds a x m ∙ ap (λ (w : Width). ltb x (2 ^ w.0)) w ∙ sym (has-below (2 ^ b.width.0) x)) in
    let l : length (listed b) ≡ 2 ^ b.width.0 = ap length e ∙ length-below (2 ^ b.width.0) in
    let g = leb-false a.width.0 3 (p.wide m) in
    let f : a.width.0 ≡ b.width.0 = ap (λ (w : Width). w.0) w in
    let m : 4 ≤ b.width.0 = omega (arith, g, f) in
    let k : 2 ^ 4 ≤ 2 ^ b.width.0 = pow-le-pow_right (omega arith) m in
    omega (arith, q.short, l, k)

pub canonical : (a : Sets) → IsSets a → IsCanonical a
canonical a p b q w s = at a.many b.many refl refl
  where
    at : (m n : Bool) → a.many ≡ m → b.many ≡ n → b ≡ a
    at true true e f = many_is b q f ∙ ap everything w ∙ sym (many_is a p e)
    at true false e f = absurd (not_all a b p q (sym w) e f (λ x. sym (s x)))
    at false true e f = absurd (not_all b a q p w f e s)
    at false false e f =
        (few_is b q f).is ∙ ap (λ w. listing w (listed b)) w
        ∙ ap (listing a.width) (same_list (listed b) (listed a) q.rises p.rises (λ x. sym (few_holds b x f) ∙ s x ∙ few_holds a x e))
        ∙ sym (few_is a p e).is
