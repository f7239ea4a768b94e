-- The bits that Sets know: those on which all listed numbers agree.
use Rattle.std.proofs.Common.{◌≡◌, ℕ, ◌-◌, ◌^◌, ◌<◌, ◌≤◌, Bool, true, false, not, ◌&&◌, ◌||◌, eqb, List, [], ◌∷◌, length, bit_and, refl, sym, ap, ◌∙◌, subst, ⊎_elim, arith}
use Rattle.std.specs.List.{AllByRecursion}
use Rattle.std.proofs.lemmas.Bool.{and_parts, and_from, cases_Bool, cases_lt, eqb-true, false≢true, true≢false, or_right}
use Rattle.std.proofs.lemmas.Nat.{pow_pos, and_le_l}
use Rattle.std.proofs.Math.Nat.{pow-le-pow_right}
use Rattle.dt_lemmas.proofs.Booleans.{and_alike, and_kept}
use Rattle.dt_bits.specs.Bits.{bit, differs}
use Rattle.dt_bits.specs.declared.value.Bv.{Bv}
use Rattle.dt_bits.proofs.BitLemmas.{same_bits, bit_of_and, bit_of_zero, bit_of_ones, bit_above, number_of_below, bit_of_number}
use Rattle.dt_domain.specs.Domain.{KnowsBit, IsAllKnown}
use Rattle.dt_sets.specs.declared.Sets.{Sets}
use Rattle.dt_sets.specs.Lists.{IsRising, has}
use Rattle.dt_sets.specs.Sets.{IsSets, listed, sets_holds, sets_is_empty, agree_at, agreed_mask, agreed_value, sets_mask, sets_one}
use Rattle.dt_sets.specs.Ops.{sets_ops}
use Rattle.dt_sets.specs.Laws.Lists.{all_has, here}
use Rattle.dt_sets.specs.Laws.Form.{counted, few_is, few_holds, many_lists, listed_is}

-- ---- one bit

pub mask_below : (w : ℕ) (xs : List ℕ) → agreed_mask w xs < 2 ^ w
mask_below w [] = pow_pos w
mask_below w (x ∷ xs) = number_of_below w (agree_at x xs)

agree_one : (p q v : Bool) → q ≡ v → not (differs p q) ≡ true → p ≡ v
agree_one true q v e h = grind arith
agree_one false q v e h = grind arith

one_agrees : (p q v : Bool) → q ≡ v → p ≡ v → not (differs p q) ≡ true
one_agrees true true v e f = refl
one_agrees true false v e f = e ∙ sym f
one_agrees false true v e f = sym (e ∙ sym f)
one_agrees false false v e f = refl

agree_all : (x i : ℕ) (v : Bool) (xs : List ℕ) → bit x i ≡ v → agree_at x xs i ≡ true → AllByRecursion (λ y. bit y i ≡ v) xs
agree_all x i v [] e h = tt
agree_all x i v (y ∷ ys) e h =
    let s = and_parts (not (differs (bit y i) (bit x i))) (agree_at x ys i) h in
    (agree_one (bit y i) (bit x i) v e s.0, agree_all x i v ys e s.1)

all_agree : (x i : ℕ) (v : Bool) (xs : List ℕ) → bit x i ≡ v → AllByRecursion (λ y. bit y i ≡ v) xs → agree_at x xs i ≡ true
all_agree x i v [] e a = refl
all_agree x i v (y ∷ ys) e a =
    and_from (not (differs (bit y i) (bit x i))) (agree_at x ys i) (one_agrees (bit y i) (bit x i) v e a.0) (all_agree x i v ys e a.1)

second : (p q v : Bool) → q ≡ true → (p && q) ≡ v → p ≡ v
second p q v e h = grind arith

-- a bit that is known is so in all numbers
pub known_all : (w : ℕ) (xs : List ℕ) (i : ℕ) (v : Bool) → bit (agreed_mask w xs) i ≡ true → bit (agreed_value w xs) i ≡ v
    → (i < w) × AllByRecursion (λ y. bit y i ≡ v) xs
known_all w [] i v m e = absurd (false≢true (sym (bit_of_zero i) ∙ m))
known_all w (x ∷ xs) i v m e =
    let n = agreed_mask w (x ∷ xs) in
    let l : i < w = ⊎_elim (λ (l : i < w). l)
    (λ (g : w ≤ i). absurd (false≢true (sym (bit_above n w i (mask_below w (x ∷ xs)) g) ∙ m)))
    (cases_lt i w) in
    let h : bit x i ≡ v = second (bit x i) (bit n i) v m (sym (bit_of_and x n i) ∙ e) in
    (l, (h, agree_all x i v xs h (sym (bit_of_number w (agree_at x xs) i l) ∙ m)))

-- and a bit that is so in all numbers is known, where there is a number
pub all_known : (w : ℕ) (x : ℕ) (xs : List ℕ) (i : ℕ) (v : Bool) → i < w → AllByRecursion (λ y. bit y i ≡ v) (x ∷ xs)
    → (bit (agreed_mask w (x ∷ xs)) i ≡ true) × (bit (agreed_value w (x ∷ xs)) i ≡ v)
all_known w x xs i v l a =
    let n = agreed_mask w (x ∷ xs) in
    let m : bit n i ≡ true = bit_of_number w (agree_at x xs) i l ∙ all_agree x i v xs a.0 a.1 in
    (m, bit_of_and x n i ∙ both (bit x i) (bit n i) v m a.0)
  where
    both : (p q v : Bool) → q ≡ true → p ≡ v → (p && q) ≡ v
    both p q v e h = grind arith

pub all_from_has : (P : ℕ → Type 0) (xs : List ℕ) → ((x : ℕ) → has xs x ≡ true → P x) → AllByRecursion P xs
all_from_has P [] f = tt
all_from_has P (y ∷ ys) f = (f y (here y ys), all_from_has P ys (λ x h. f x (or_right (eqb y x) (has ys x) h)))

-- ---- numbers that are held

nothing_known : (s : Sets) (i : ℕ) (v : Bool) → listed s ≡ [] → KnowsBit sets_ops s i v → ⊥
nothing_known s i v e k = false≢true (sym (bit_of_zero i) ∙ ap (λ xs. bit (agreed_mask s.width.0 xs) i) (sym e) ∙ k.0)

-- what knows a bit lists its numbers
pub knows_few : (s : Sets) (i : ℕ) (v : Bool) → IsSets s → KnowsBit sets_ops s i v → s.many ≡ false
knows_few s i v p k = ⊎_elim
    (λ (m : s.many ≡ true). absurd (nothing_known s i v (many_lists s p m) k))
    (λ (m : s.many ≡ false). m)
    (cases_Bool s.many)

pub knows_held : (s : Sets) (i : ℕ) (v : Bool) (x : ℕ) → IsSets s → KnowsBit sets_ops s i v → sets_holds s x ≡ true → (i < s.width.0) × (bit x i ≡ v)
knows_held s i v x p k h =
    let a = known_all s.width.0 (listed s) i v k.0 k.1 in
    (a.0, all_has (λ y. bit y i ≡ v) (listed s) x a.1 (sym (few_holds s x (knows_few s i v p k)) ∙ h))

pub record HasFirst (s : Sets) : Type 0 where
  pub number : ℕ
  pub others : List ℕ
  pub is : listed s ≡ number ∷ others

pub first_of : (s : Sets) → IsSets s → s.many ≡ false → sets_is_empty s ≡ false → HasFirst s
first_of s p m e = at (listed s) refl
  where
    at : (xs : List ℕ) → listed s ≡ xs → HasFirst s
    at [] f =
        let c : s.count ≡ 0 = counted s (few_is s p m) ∙ ap length f in
        absurd (true≢false (sym (ap (λ b. not b && eqb s.count 0) m ∙ ap (λ n. eqb n 0) c) ∙ e))
    at (x ∷ xs) f = record { number = x; others = xs; is = f }

pub held_knows : (s : Sets) (i : ℕ) (v : Bool) → IsSets s → s.many ≡ false → sets_is_empty s ≡ false → i < s.width.0
    → ((x : ℕ) → sets_holds s x ≡ true → bit x i ≡ v) → KnowsBit sets_ops s i v
held_knows s i v p m e l f =
    let g = first_of s p m e in
    let a : AllByRecursion (λ y. bit y i ≡ v) (listed s) = all_from_has (λ y. bit y i ≡ v) (listed s) (λ x h. f x (few_holds s x m ∙ h)) in
    let k = all_known s.width.0 g.number g.others i v l (subst (AllByRecursion (λ y. bit y i ≡ v)) g.is a) in
    (ap (λ xs. bit (agreed_mask s.width.0 xs) i) g.is ∙ k.0, ap (λ xs. bit (agreed_value s.width.0 xs) i) g.is ∙ k.1)

-- a number of the list has the bits on which all agree
pub agrees : (w : ℕ) (xs : List ℕ) (x : ℕ) → AllByRecursion (λ y. y < 2 ^ w) xs → has xs x ≡ true → bit_and x (agreed_mask w xs) ≡ agreed_value w xs
agrees w [] x f h = absurd (true≢false (sym h))
agrees w (z ∷ zs) x f h =
    let n = agreed_mask w (z ∷ zs) in
    let l : x < 2 ^ w = all_has (λ y. y < 2 ^ w) (z ∷ zs) x f h in
    same_bits w (bit_and x n) (bit_and z n) (omega (arith, and_le_l x n)) (omega (arith, and_le_l z n, f.0)) (λ i k.
    bit_of_and x n i
    ∙ and_alike (bit n i) (bit x i) (bit z i) (λ m. all_has (λ y. bit y i ≡ bit z i) (z ∷ zs) x
    (known_all w (z ∷ zs) i (bit z i) m (bit_of_and z n i ∙ and_kept (bit z i) (bit n i) m)).1 h)
    ∙ sym (bit_of_and z n i))

-- ---- all bits

-- one number has all its bits known
pub alone : (w x : ℕ) → agreed_mask w (x ∷ []) ≡ 2 ^ w - 1
alone w x = same_bits w (agreed_mask w (x ∷ [])) (2 ^ w - 1) (mask_below w (x ∷ [])) (omega (arith, pow_pos w))
    (λ i l. bit_of_number w (agree_at x []) i l ∙ sym (bit_of_ones w i l))

not_none : (w : ℕ) → 1 ≤ w → 0 ≡ 2 ^ w - 1 → ⊥
not_none w h e = let l : 2 ^ 1 ≤ 2 ^ w = pow-le-pow_right (omega arith) h in omega arith

-- two numbers differ somewhere
not_two : (w x y : ℕ) (ys : List ℕ) → x < 2 ^ w → y < 2 ^ w → x < y → agreed_mask w (x ∷ y ∷ ys) ≡ 2 ^ w - 1 → ⊥
not_two w x y ys f g l e =
    let same : x ≡ y = same_bits w x y f g (λ i k.
    let m : bit (agreed_mask w (x ∷ y ∷ ys)) i ≡ true = ap (λ n. bit n i) e ∙ bit_of_ones w i k in
    let a = known_all w (x ∷ y ∷ ys) i (bit x i) m (bit_of_and x (agreed_mask w (x ∷ y ∷ ys)) i ∙ and_kept (bit x i) (bit (agreed_mask w (x ∷ y ∷ ys)) i) m) in
    sym a.1.1.0) in
    omega arith

single_list : (w : ℕ) (xs : List ℕ) → 1 ≤ w → IsRising xs → AllByRecursion (λ x. x < 2 ^ w) xs → agreed_mask w xs ≡ 2 ^ w - 1 → (x : ℕ) × (xs ≡ x ∷ [])
single_list w [] h r f e = absurd (not_none w h e)
single_list w (x ∷ []) h r f e = (x, refl)
single_list w (x ∷ y ∷ ys) h r f e = absurd (not_two w x y ys f.0 f.1.0 r.0.0 e)

-- where all bits are known, one number is listed
pub single : (s : Sets) → IsSets s → sets_mask s ≡ 2 ^ s.width.0 - 1 → (x : ℕ) × (listed s ≡ x ∷ [])
single s p e = single_list s.width.0 (listed s) p.width.0 p.rises p.fits e

pub lists_few : (s : Sets) (x : ℕ) (xs : List ℕ) → IsSets s → listed s ≡ x ∷ xs → s.many ≡ false
lists_few s x xs p e = ⊎_elim
    (λ (m : s.many ≡ true). absurd (true≢false (sym (here x xs) ∙ ap (λ ys. has ys x) (sym e ∙ many_lists s p m))))
    (λ (m : s.many ≡ false). m)
    (cases_Bool s.many)

pub single_held : (s : Sets) (x y : ℕ) → IsSets s → listed s ≡ x ∷ [] → sets_holds s y ≡ true → x ≡ y
single_held s x y p e h =
    let t : (eqb x y || false) ≡ true = ap (λ ys. has ys y) (sym e) ∙ sym (few_holds s y (lists_few s x [] p e)) ∙ h in
    eqb-true x y (first_one (eqb x y) t)
  where
    first_one : (p : Bool) → (p || false) ≡ true → p ≡ true
    first_one p h = grind arith

pub one_known : (v : Bv) → IsAllKnown sets_ops (sets_one v)
one_known v = (refl, ap (agreed_mask v.width.0) (listed_is v.width (v.bits ∷ [])) ∙ alone v.width.0 v.bits)
