-- All numbers of a width, and the bits on which numbers agree.
use Rattle.std.proofs.Common.{◌≡◌, ℕ, ◌+◌, ◌-◌, ◌^◌, ◌<◌, ◌≤◌, Bool, true, false, not, ◌&&◌, ◌||◌, cond, ltb, leb, Some, List, [], ◌∷◌, length, get_or, take, bit_and, bit_or, bit_xor, refl, sym, ap, ◌∙◌, subst, ⊎_elim, arith}
use Rattle.std.specs.List.{list_any, list_all}
use Rattle.std.proofs.lemmas.Bool.{cond-false, cases_Bool, lt-leb}
use mathlib.Core.Bool.{beq}
use Rattle.std.proofs.lemmas.Nat.{pow_pos, or_lt, xor_lt}
use Rattle.std.proofs.lemmas.List.{take_all}
use Rattle.std.proofs.lemmas.List.Folds.{list_any_more}
use Rattle.dt_bits.specs.Bits.{bit, differs, number_of}
use Rattle.dt_bits.specs.declared.value.Width.{Width}
use Rattle.dt_bits.proofs.BitLemmas.{same_bits, bit_of_or, bit_of_xor, bit_of_number, number_of_below, bit_of_complement}
use Rattle.dt_sets.specs.declared.Sets.{Sets}
use Rattle.dt_sets.specs.Lists.{below}
use Rattle.dt_sets.specs.Sets.{IsSets, listed, listing, everything, agree_at, agreed_mask, agreed_value, first, sets_full}
use Rattle.dt_sets.specs.Laws.Form.{many_is}

-- ---- all numbers

pub full_one : (w : Width) → w.0 ≡ 1 → listing w (0 ∷ 1 ∷ []) ≡ sets_full w
unfolding below
full_one w e = subst (λ n. listing w (0 ∷ 1 ∷ []) ≡ cond (leb n 3) (listing w (below (2 ^ n))) (everything w)) (sym e) refl

pub full_two : (w : Width) → w.0 ≡ 2 → listing w (0 ∷ 1 ∷ 2 ∷ 3 ∷ []) ≡ sets_full w
unfolding below
full_two w e = subst (λ n. listing w (0 ∷ 1 ∷ 2 ∷ 3 ∷ []) ≡ cond (leb n 3) (listing w (below (2 ^ n))) (everything w)) (sym e) refl

pub full_three : (w : Width) → w.0 ≡ 3 → listing w (0 ∷ 1 ∷ 2 ∷ 3 ∷ 4 ∷ 5 ∷ 6 ∷ 7 ∷ []) ≡ sets_full w
unfolding below
full_three w e = subst (λ n. listing w (0 ∷ 1 ∷ 2 ∷ 3 ∷ 4 ∷ 5 ∷ 6 ∷ 7 ∷ []) ≡ cond (leb n 3) (listing w (below (2 ^ n))) (everything w)) (sym e) refl

pub full_wide : (w : Width) → 3 < w.0 → everything w ≡ sets_full w
full_wide w l = sym (cond-false (leb w.0 3) (listing w (below (2 ^ w.0))) (everything w) (lt-leb w.0 3 l))

-- ---- agreement

not_any : (p : ℕ → Bool) (xs : List ℕ) → not (list_any p xs) ≡ list_all (λ x. not (p x)) xs
not_any p [] = refl
not_any p (x ∷ xs) = turned (p x) (list_any p xs) ∙ ap (λ b. not (p x) && b) (not_any p xs)
  where
    turned : (a b : Bool) → not (a || b) ≡ (not a && not b)
    turned a b = grind arith

itself : (v : Bool) → differs v v ≡ false
itself true = refl
itself false = refl

-- the numbers so far, and one more
pub differ_next : (w : ℕ) (xs : List ℕ) (i x d e first : ℕ) → i < length xs → x ≡ get_or xs i 0 → e ≡ bit_or d (bit_xor x first)
    → ((j : ℕ) → bit d j ≡ list_any (λ y. differs (bit y j) (bit first j)) (take i xs))
    → ((j : ℕ) → bit e j ≡ list_any (λ y. differs (bit y j) (bit first j)) (take (i + 1) xs))
differ_next w xs i x d e first l f g h = λ j.
    let p : ℕ → Bool = λ y. differs (bit y j) (bit first j) in
    ap (λ n. bit n j) g ∙ bit_of_or d (bit_xor x first) j ∙ ap (λ b. bit d j || b) (bit_of_xor x first j) ∙ ap (λ b. b || p x) (h j)
    ∙ ap (λ n. list_any p (take i xs) || p n) f ∙ sym (list_any_more p xs i 0 l)

pub differ_fits : (w x d first : ℕ) → d < 2 ^ w → x < 2 ^ w → first < 2 ^ w → bit_or d (bit_xor x first) < 2 ^ w
differ_fits w x d first h k l = or_lt w d (bit_xor x first) h (xor_lt w x first k l)

pub differ_all : (w : ℕ) (xs : List ℕ) (i d first : ℕ) → 0 < length xs → length xs ≤ i → first ≡ get_or xs 0 0 → d < 2 ^ w
    → ((j : ℕ) → bit d j ≡ list_any (λ y. differs (bit y j) (bit first j)) (take i xs)) → 2 ^ w - 1 - d ≡ agreed_mask w xs
differ_all w [] i d first n l f g h = absurd (omega arith)
differ_all w (x ∷ xs) i d first n l f g h =
    same_bits w (2 ^ w - 1 - d) (number_of w (agree_at x xs)) (omega (arith, pow_pos w)) (number_of_below w (agree_at x xs)) (λ j k.
    let p : ℕ → Bool = λ y. differs (bit y j) (bit x j) in
    bit_of_complement w d j g k
    ∙ ap not (h j ∙ ap (list_any (λ y. differs (bit y j) (bit first j))) (take_all i (x ∷ xs) l) ∙ ap (λ m. list_any (λ y. differs (bit y j) (bit m j)) (x ∷ xs)) f
    ∙ ap (λ b. b || list_any p xs) (itself (bit x j)))
    ∙ not_any p xs
    ∙ sym (bit_of_number w (agree_at x xs) j k))

-- ---- the first number

pub top_test : (v n : ℕ) → 0 < n → leb v (n - 1) ≡ ltb v n
top_test v n h = grind arith

pub first_is : (xs : List ℕ) → 0 < length xs → Some (get_or xs 0 0) ≡ first xs
first_is [] l = absurd (omega arith)
first_is (x ∷ xs) l = refl

pub value_is : (w : ℕ) (xs : List ℕ) → 0 < length xs → bit_and (get_or xs 0 0) (agreed_mask w xs) ≡ agreed_value w xs
value_is w [] l = absurd (omega arith)
value_is w (x ∷ xs) l = refl

-- what counts a number lists its numbers
pub counted_few : (s : Sets) → IsSets s → 0 < s.count → s.many ≡ false
counted_few s p l = ⊎_elim
    (λ (m : s.many ≡ true). let e : s.count ≡ 0 = ap (λ (t : Sets). t.count) (many_is s p m) in absurd (omega (arith, e, l)))
    (λ (m : s.many ≡ false). m)
    (cases_Bool s.many)

pub none_listed : (s : Sets) → s.count ≡ 0 → listed s ≡ []
none_listed s e = ap (λ n. take n s.numbers) e

pub flag_is : (p q v : Bool) → p ≡ q → beq p v ≡ not (differs q v)
flag_is true q true e = ap (λ b. not (differs b true)) e
flag_is true q false e = ap (λ b. not (differs b false)) e
flag_is false q true e = ap (λ b. not (differs b true)) e
flag_is false q false e = ap (λ b. not (differs b false)) e
