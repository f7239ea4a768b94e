-- Where the first element stands that passes a test.
use Rattle.std.proofs.Common.{◌≡◌, ℕ, zero, suc, ◌+◌, ◌<◌, ◌≤◌, Bool, true, false, not, cond, eqb, ltb, List, [], ◌∷◌, ◌++◌, length, take, drop, drop-cons, get_or, Some, None, refl, sym, ap, ◌∙◌, arith, inl, inr}
use Rattle.std.specs.Prelude.{map, slice_get}
use Rattle.std.specs.List.{list_any, position, position_from, position_or_len, before_first, after_first}
use Rattle.std.specs.Map.{lookup}
use Rattle.std.proofs.Math.ListN.{drop_of_length-le}
use Rattle.std.proofs.lemmas.Bool.{cases_Bool, cond-true, cond-false, or_parts, eq-eqb, ne_eqb, lt-ltb, le-ltb, ltb-true, ltb-false}
use Rattle.std.proofs.lemmas.List.{drop_all, take_all, length_push, length-map}
use Rattle.std.proofs.lemmas.List.Folds.{position_or_len_push}
use Rattle.std.proofs.lemmas.List.Sums.{prefix_len-le-length}
use Rattle.std.proofs.lemmas.Option.{slice_get_within}

module _ {X : Type 0} (p : X → Bool) (xs : List X) where
  opened : (i : ℕ) (d : X) → i < length xs
      → position_from p i (drop i xs) ≡ cond (p (get_or xs i d)) (Some i) (position_from p (i + 1) (drop (suc i) xs))
  opened i d l = ap (position_from p i) (drop-cons xs i d l)

  pub first_here : (i : ℕ) (d : X) → i < length xs → p (get_or xs i d) ≡ true → position_from p i (drop i xs) ≡ Some i
  first_here i d l e = opened i d l ∙ ap (λ b. cond b (Some i) (position_from p (i + 1) (drop (suc i) xs))) e

  pub first_later : (i : ℕ) (d : X) → i < length xs → p (get_or xs i d) ≡ false → position_from p i (drop i xs) ≡ position_from p (i + 1) (drop (i + 1) xs)
  first_later i d l e =
      let n : suc i ≡ i + 1 = omega arith in
      opened i d l ∙ ap (λ b. cond b (Some i) (position_from p (i + 1) (drop (suc i) xs))) e ∙ ap (λ m. position_from p (i + 1) (drop m xs)) n

  pub first_none : (i : ℕ) → length xs ≤ i → position_from p i (drop i xs) ≡ None
  first_none i l = ap (position_from p i) (drop_of_length-le xs l)

-- ---- a position, and the number of elements before it

abbrev at : {X : Type 0} → (X → Bool) → List X → ℕ
at p xs = position_or_len p xs

pub found : {X : Type 0} (p : X → Bool) (xs : List X) (i : ℕ) → position p xs ≡ Some i → (at p xs ≡ i) × (i < length xs)
found p xs i e =
    elim (cases_Bool (ltb (at p xs) (length xs))) [
      | inl is ↦
          let same : Some (at p xs) ≡ Some i = rw is at e in
          let eq : at p xs ≡ i = cc in
          (eq, omega (arith, ltb-true (at p xs) (length xs) is))
      | inr isnt ↦ let bad : Some i ≡ None = sym (rw isnt at e) in absurd cc
    ]

pub missing : {X : Type 0} (p : X → Bool) (xs : List X) → position p xs ≡ None → length xs ≤ at p xs
missing p xs e =
    elim (cases_Bool (ltb (at p xs) (length xs))) [
      | inl is ↦ let bad : Some (at p xs) ≡ None = rw is at e in absurd cc
      | inr isnt ↦ omega (arith, ltb-false (at p xs) (length xs) isnt)
    ]

pub position_below : {X : Type 0} (p : X → Bool) (xs : List X) (i : ℕ) → position p xs ≡ Some i → i < length xs
position_below p xs i e = (found p xs i e).1

pub position_is : {X : Type 0} (p : X → Bool) (xs : List X) (k : ℕ) → position_or_len p xs ≡ k → k < length xs → position p xs ≡ Some k
position_is p xs k e lt =
    let below : ltb (at p xs) (length xs) ≡ true = lt-ltb (at p xs) (length xs) (omega (arith, e)) in
    cond-true (ltb (at p xs) (length xs)) (Some (at p xs)) None below ∙ ap (λ (n : ℕ). Some n) e

pub position_past : {X : Type 0} (p : X → Bool) (xs : List X) → length xs ≤ position_or_len p xs → position p xs ≡ None
position_past p xs le = cond-false (ltb (at p xs) (length xs)) (Some (at p xs)) None (le-ltb (at p xs) (length xs) le)

-- ---- the parts before and after it

pub before_none : {X : Type 0} (p : X → Bool) (xs : List X) → position p xs ≡ None → xs ≡ before_first p xs
before_none p xs e = sym (take_all (at p xs) xs (missing p xs e))

pub before_some : {X : Type 0} (p : X → Bool) (xs : List X) (i : ℕ) → position p xs ≡ Some i → take i xs ≡ before_first p xs
before_some {X = X} p xs i e = ap (λ (k : ℕ). take k xs) (sym (found p xs i e).0)

pub after_none : {X : Type 0} (p : X → Bool) (xs : List X) → position p xs ≡ None → [] ≡ after_first p xs
after_none p xs e = sym (drop_all (at p xs + 1) xs (omega (arith, missing p xs e)))

pub after_some : {X : Type 0} (p : X → Bool) (xs : List X) (i : ℕ) → position p xs ≡ Some i → drop (i + 1) xs ≡ after_first p xs
after_some {X = X} p xs i e = ap (λ (k : ℕ). drop (k + 1) xs) (sym (found p xs i e).0)

-- ---- one more element at the end

pub position_push_some : {X : Type 0} (p : X → Bool) (xs : List X) (y : X) (i : ℕ) → position p xs ≡ Some i → position p (xs ++ y ∷ []) ≡ Some i
position_push_some p xs y i h =
    let f = found p xs i h in
    let k = position_or_len p xs in
    let other : eqb k (length xs) ≡ false = ne_eqb k (length xs) (λ e. omega (arith, f.0, f.1)) in
    let same : position_or_len p (xs ++ y ∷ []) ≡ i = position_or_len_push p xs y ∙ cond-false (eqb k (length xs)) (length xs + cond (p y) 0 1) k other ∙ f.0 in
    position_is p (xs ++ y ∷ []) i same (omega (arith, f.1, length_push xs y))

push_none : {X : Type 0} (p : X → Bool) (xs : List X) (y : X) → position p xs ≡ None → position_or_len p (xs ++ y ∷ []) ≡ length xs + cond (p y) 0 1
push_none p xs y h =
    let k = position_or_len p xs in
    let last : k ≡ length xs = omega (arith, missing p xs h, prefix_len-le-length (λ x. not (p x)) xs) in
    position_or_len_push p xs y ∙ cond-true (eqb k (length xs)) (length xs + cond (p y) 0 1) k (eq-eqb k (length xs) last)

pub position_push_here : {X : Type 0} (p : X → Bool) (xs : List X) (y : X) → position p xs ≡ None → p y ≡ true → position p (xs ++ y ∷ []) ≡ Some (length xs)
position_push_here p xs y h is =
    let at : position_or_len p (xs ++ y ∷ []) ≡ length xs = push_none p xs y h ∙ ap (λ (b : Bool). length xs + cond b 0 1) is ∙ omega arith in
    position_is p (xs ++ y ∷ []) (length xs) at (omega (arith, length_push xs y))

pub position_push_none : {X : Type 0} (p : X → Bool) (xs : List X) (y : X) → position p xs ≡ None → p y ≡ false → position p (xs ++ y ∷ []) ≡ None
position_push_none p xs y h isnt =
    let at : position_or_len p (xs ++ y ∷ []) ≡ length xs + 1 = push_none p xs y h ∙ ap (λ (b : Bool). length xs + cond b 0 1) isnt in
    position_past p (xs ++ y ∷ []) (omega (arith, at, length_push xs y))

-- ---- where it stands among others

pub stops_here : {K : Type 0} (p : K → Bool) (k : K) (ks : List K) → p k ≡ true → position_or_len p (k ∷ ks) ≡ 0
stops_here p k ks h = cond-false (not (p k)) (1 + position_or_len p ks) 0 (ap not h)

pub goes_by : {K : Type 0} (p : K → Bool) (k : K) (ks : List K) → p k ≡ false → position_or_len p (k ∷ ks) ≡ 1 + position_or_len p ks
goes_by p k ks h = cond-true (not (p k)) (1 + position_or_len p ks) 0 (ap not h)

first_at : {X K : Type 0} (f : X → K) (p : K → Bool) (xs : List X) (i : ℕ) (x : X) → slice_get xs i ≡ Some x → list_any p (map f (take i xs)) ≡ false → p (f x) ≡ true → position_or_len p (map f xs) ≡ i
first_at f p [] i x at none is = absurd cc
first_at f p (y ∷ ys) zero x at none is =
    let same : y ≡ x = cc in
    stops_here p (f y) (map f ys) (ap (λ z. p (f z)) same ∙ is)
first_at f p (y ∷ ys) (suc i) x at none is =
    let q = or_parts (p (f y)) (list_any p (map f (take i ys))) none in
    goes_by p (f y) (map f ys) q.0 ∙ (let e = first_at f p ys i x at q.1 is in omega (arith, e))

-- the first that passes stands where none before it does
pub position_at : {X K : Type 0} (f : X → K) (p : K → Bool) (xs : List X) (i : ℕ) (x : X) → slice_get xs i ≡ Some x → list_any p (map f (take i xs)) ≡ false → p (f x) ≡ true → position p (map f xs) ≡ Some i
position_at f p xs i x at none is =
    let within : i < length xs = slice_get_within xs i x at in
    position_is p (map f xs) i (first_at f p xs i x at none is) (omega (arith, length-map xs f))

past_all : {K : Type 0} (p : K → Bool) (ks : List K) → list_any p ks ≡ false → position_or_len p ks ≡ length ks
past_all p [] none = refl
past_all p (k ∷ ks) none =
    let q = or_parts (p k) (list_any p ks) none in
    goes_by p k ks q.0 ∙ (let e = past_all p ks q.1 in omega (arith, e))

pub position_none : {K : Type 0} (p : K → Bool) (ks : List K) → list_any p ks ≡ false → position p ks ≡ None
position_none p ks none = position_past p ks (let e = past_all p ks none in omega (arith, e))

-- ---- entries by their keys, with one more

pub lookup_push_some : {K X : Type 0} (test : K → Bool) (es : List (K × X)) (e : K × X) (w : X) → lookup test es ≡ Some w → lookup test (es ++ e ∷ []) ≡ Some w
lookup_push_some test [] e w h = absurd cc
lookup_push_some test (d ∷ es) e w h =
    elim (cases_Bool (test d.0)) [
      | inl is ↦ cond-true (test d.0) (Some d.1) (lookup test (es ++ e ∷ [])) is ∙ sym (cond-true (test d.0) (Some d.1) (lookup test es) is) ∙ h
      | inr isnt ↦ cond-false (test d.0) (Some d.1) (lookup test (es ++ e ∷ [])) isnt ∙ lookup_push_some test es e w (sym (cond-false (test d.0) (Some d.1) (lookup test es) isnt) ∙ h)
    ]

pub lookup_push_none : {K X : Type 0} (test : K → Bool) (es : List (K × X)) (e : K × X) → lookup test es ≡ None → lookup test (es ++ e ∷ []) ≡ cond (test e.0) (Some e.1) None
lookup_push_none test [] e h = refl
lookup_push_none test (d ∷ es) e h =
    elim (cases_Bool (test d.0)) [
      | inl is ↦ let bad : Some d.1 ≡ None = sym (cond-true (test d.0) (Some d.1) (lookup test es) is) ∙ h in absurd cc
      | inr isnt ↦ cond-false (test d.0) (Some d.1) (lookup test (es ++ e ∷ [])) isnt ∙ lookup_push_none test es e (sym (cond-false (test d.0) (Some d.1) (lookup test es) isnt) ∙ h)
    ]
