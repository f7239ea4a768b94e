-- Where the choices stand.
use Rattle.std.proofs.Common.{◌≡◌, ℕ, zero, suc, ◌+◌, ◌<◌, ◌≤◌, Bool, true, false, cond, List, [], ◌∷◌, ◌++◌, length, take, drop, get_or, Option, Some, None, refl, sym, ap, ◌∙◌, subst, arith, length-append}
use Rattle.std.proofs.lemmas.List.{take_more, length-take-le, take-append-drop, append-nil, get_or_default}
use Rattle.std.specs.Prelude.{IfSome, slice_get}
use Rattle.std.proofs.lemmas.Option.{slice_get_within, get_or_from_slice_get}
use Rattle.std.proofs.Math.Seq.{get_or-append_seam, drop-cons}
use Rattle.dt_bits.specs.Bits.{width}
use Rattle.dt_bits.specs.declared.value.Width.{Width}
use Rattle.dt_terms.specs.declared.term.Term.{Term}
use Rattle.dt_terms.specs.declared.term.Term.TheVariants.{Choice}
use Rattle.dt_terms.specs.Terms.{width_of_term, bits_at, is_choice, term_at, choices_from, choices_of, choice_at}

-- the choices of a list are those of its parts
pub choices_from-append : (n : ℕ) (xs ys : List Term) → choices_from n (xs ++ ys) ≡ choices_from n xs ++ choices_from (n + length xs) ys
unfolding choices_from
choices_from-append n [] ys = let e : n + 0 ≡ n = omega arith in rw e refl
choices_from-append n (x ∷ xs) ys =
    let e : n + 1 + length xs ≡ n + suc (length xs) = omega arith in
    let ih = choices_from-append (n + 1) xs ys in
    by_choice (is_choice x) (rw (← e) ih)
  where
    by_choice : (b : Bool) → choices_from (n + 1) (xs ++ ys) ≡ choices_from (n + 1) xs ++ choices_from (n + suc (length xs)) ys
        → cond b (n ∷ choices_from (n + 1) (xs ++ ys)) (choices_from (n + 1) (xs ++ ys))
        ≡ cond b (n ∷ choices_from (n + 1) xs) (choices_from (n + 1) xs) ++ choices_from (n + suc (length xs)) ys
    by_choice true e = ap (λ l. n ∷ l) e
    by_choice false e = e

pub length-choices_from : (n : ℕ) (xs : List Term) → length (choices_from n xs) ≤ length xs
unfolding choices_from
length-choices_from n [] = omega arith
length-choices_from n (x ∷ xs) = by_choice (is_choice x) (length-choices_from (n + 1) xs)
  where
    by_choice : (b : Bool) → length (choices_from (n + 1) xs) ≤ length xs
        → length (cond b (n ∷ choices_from (n + 1) xs) (choices_from (n + 1) xs)) ≤ suc (length xs)
    by_choice true h = omega arith
    by_choice false h = omega arith

pub choices_of-none : choices_of [] ≡ []
unfolding choices_from
choices_of-none = refl

-- the choices with one more term
pub choices_of-push : (xs : List Term) (x : Term) → choices_of (xs ++ x ∷ []) ≡ choices_of xs ++ cond (is_choice x) (length xs ∷ []) []
unfolding choices_from
choices_of-push xs x =
    let e : 0 + length xs ≡ length xs = omega arith in
    rw (choices_from-append 0 xs (x ∷ []), e) refl

-- one more term was seen
pub choice_at-next : (xs : List Term) (t : ℕ) → t < length xs → choice_at xs (t + 1) ≡ choice_at xs t + cond (is_choice (term_at xs t)) 1 0
choice_at-next xs t l =
    ap (λ ys. length (choices_of ys)) (take_more xs t (Choice (width 1)) l)
    ∙ ap length (choices_of-push (take t xs) (term_at xs t))
    ∙ length-append (choices_of (take t xs)) _
    ∙ by_choice (is_choice (term_at xs t))
  where
    by_choice : (b : Bool) → length (choices_of (take t xs)) + length (cond b (length (take t xs) ∷ []) []) ≡ length (choices_of (take t xs)) + cond b 1 0
    by_choice true = refl
    by_choice false = refl

-- the choices from the one at position t on stand after those before it
choices_split : (xs : List Term) (t : ℕ) → t < length xs → is_choice (term_at xs t) ≡ true
    → choices_of xs ≡ choices_of (take t xs) ++ t ∷ choices_from (t + 1) (drop (suc t) xs)
unfolding choices_from
choices_split xs t l e =
    let n : 0 + length (take t xs) ≡ t = omega (arith, length-take-le t xs (omega arith)) in
    ap choices_of (sym (take-append-drop t xs))
    ∙ choices_from-append 0 (take t xs) (drop t xs)
    ∙ ap (λ m. choices_of (take t xs) ++ choices_from m (drop t xs)) n
    ∙ ap (λ ys. choices_of (take t xs) ++ choices_from t ys) (drop-cons xs t (Choice (width 1)) l)
    ∙ ap (λ b. choices_of (take t xs) ++ cond b (t ∷ choices_from (t + 1) (drop (suc t) xs)) (choices_from (t + 1) (drop (suc t) xs))) e

-- the choice at position t is one of the choices, and stands at t
pub choice_there : (xs : List Term) (t : ℕ) → t < length xs → is_choice (term_at xs t) ≡ true
    → (choice_at xs t < length (choices_of xs)) × (get_or (choices_of xs) (choice_at xs t) 0 ≡ t)
choice_there xs t l e =
    let s = choices_split xs t l e in
    let m = ap length s ∙ length-append (choices_of (take t xs)) (t ∷ choices_from (t + 1) (drop (suc t) xs)) in
    (omega arith, ap (λ ys. get_or ys (choice_at xs t) 0) s ∙ get_or-append_seam (choices_of (take t xs)) t _ 0)

pub choice_at_bound : (xs : List Term) (t : ℕ) → t ≤ length xs → choice_at xs t ≤ t
choice_at_bound xs t l = omega (arith, length-choices_from 0 (take t xs), length-take-le t xs l)

-- a node is no choice
pub choices_of-node : (xs : List Term) (x : Term) → is_choice x ≡ false → choices_of (xs ++ x ∷ []) ≡ choices_of xs
choices_of-node xs x e =
    choices_of-push xs x ∙ ap (λ b. choices_of xs ++ cond b (length xs ∷ []) []) e ∙ append-nil (choices_of xs)

pub choices_of-choice : (xs : List Term) (x : Term) → is_choice x ≡ true → choices_of (xs ++ x ∷ []) ≡ choices_of xs ++ length xs ∷ []
choices_of-choice xs x e = choices_of-push xs x ∙ ap (λ b. choices_of xs ++ cond b (length xs ∷ []) []) e

-- where choice number k stands, among terms that begin at position n
pub record Stands (n : ℕ) (xs : List Term) (k : ℕ) : Type 0 where
  pub at : ℕ
  pub within : at < length xs
  pub position : get_or (choices_from n xs) k 0 ≡ n + at
  pub choice : is_choice (term_at xs at) ≡ true
  pub number : length (choices_from n (take at xs)) ≡ k

pub stands : (n : ℕ) (xs : List Term) (k : ℕ) → k < length (choices_from n xs) → Stands n xs k
unfolding choices_from
stands n [] k l = absurd (omega arith)
stands n (x ∷ xs) k l = by_choice (is_choice x) refl k l (stands (n + 1) xs)
  where
    by_choice : (b : Bool) → is_choice x ≡ b → (j : ℕ) → j < length (cond (is_choice x) (n ∷ choices_from (n + 1) xs) (choices_from (n + 1) xs))
        → ((i : ℕ) → i < length (choices_from (n + 1) xs) → Stands (n + 1) xs i) → Stands n (x ∷ xs) j
    by_choice true e zero m ih = record {
      at = 0;
      within = omega arith;
      position = ap (λ b. get_or (cond b (n ∷ choices_from (n + 1) xs) (choices_from (n + 1) xs)) 0 0) e ∙ omega arith;
      choice = e;
      number = refl;
    }
    by_choice true e (suc j) m ih =
        let s = ih j (omega (arith, ap (λ b. length (cond b (n ∷ choices_from (n + 1) xs) (choices_from (n + 1) xs))) e)) in
        record {
          at = suc s.at;
          within = omega (arith, s.within);
          position = ap (λ b. get_or (cond b (n ∷ choices_from (n + 1) xs) (choices_from (n + 1) xs)) (suc j) 0) e ∙ s.position ∙ omega arith;
          choice = s.choice;
          number = ap (λ b. length (cond b (n ∷ choices_from (n + 1) (take s.at xs)) (choices_from (n + 1) (take s.at xs)))) e ∙ ap suc s.number;
        }
    by_choice false e j m ih =
        let s = ih j (omega (arith, ap (λ b. length (cond b (n ∷ choices_from (n + 1) xs) (choices_from (n + 1) xs))) e)) in
        record {
          at = suc s.at;
          within = omega (arith, s.within);
          position = ap (λ b. get_or (cond b (n ∷ choices_from (n + 1) xs) (choices_from (n + 1) xs)) j 0) e ∙ s.position ∙ omega arith;
          choice = s.choice;
          number = ap (λ b. length (cond b (n ∷ choices_from (n + 1) (take s.at xs)) (choices_from (n + 1) (take s.at xs)))) e ∙ s.number;
        }

-- choice number k stands at a choice, and k choices stand before it
pub choice_stands : (xs : List Term) (k : ℕ) → k < length (choices_of xs)
    → (get_or (choices_of xs) k 0 < length xs) × (is_choice (term_at xs (get_or (choices_of xs) k 0)) ≡ true) × (choice_at xs (get_or (choices_of xs) k 0) ≡ k)
choice_stands xs k l =
    let s = stands 0 xs k l in
    let e : get_or (choices_of xs) k 0 ≡ s.at = s.position ∙ omega arith in (
      omega (arith, s.within),
      ap (λ t. is_choice (term_at xs t)) e ∙ s.choice,
      ap (choice_at xs) e ∙ s.number,
    )

-- what the k-th choice's position, where there is one, has
pub choice_got : (xs : List Term) (k : ℕ) (o : Option ℕ) → o ≡ slice_get (choices_of xs) k → IfSome o (λ t. (t < length xs) × (is_choice (term_at xs t) ≡ true))
choice_got xs k None e = tt
choice_got xs k (Some t) e =
    let l = slice_get_within (choices_of xs) k t (sym e) in
    let r = get_or_from_slice_get (choices_of xs) k t 0 (sym e) in
    let s = choice_stands xs k l in
    (subst (λ u. u < length xs) r s.0, ap (λ u. is_choice (term_at xs u)) (sym r) ∙ s.1)

-- how many bits choice number k has
pub choice_bits : (terms : List Term) (choices : List ℕ) (k : ℕ) (d : Term) (w : Width) → choices ≡ choices_of terms → k < length choices
    → w ≡ width_of_term (get_or terms (get_or choices k 0) d) → (get_or choices k 0 < length terms) × (w.0 ≡ bits_at terms (get_or (choices_of terms) k 0))
choice_bits terms choices k d w e l f =
    let m : k < length (choices_of terms) = omega (arith, ap length e) in
    let s = (choice_stands terms k m).0 in
    let r : get_or choices k 0 ≡ get_or (choices_of terms) k 0 = ap (λ xs. get_or xs k 0) e in
    let t : get_or choices k 0 < length terms = omega (arith, r) in
    (t, ap (λ v. v.0) f ∙ ap (λ x. (width_of_term x).0) (get_or_default terms (get_or choices k 0) d (Choice (width 1)) t) ∙ ap (bits_at terms) r)
