-- What the tests tell.
use Rattle.std.proofs.Common.{◌≡◌, ℕ, zero, suc, ◌+◌, ◌<◌, Bool, true, false, not, ◌&&◌, ltb, List, [], ◌∷◌, length, get_or, refl, sym, ap, ◌∙◌, subst, arith}
use Rattle.std.specs.List.{list_all, range_with_len, AllByRecursion}
use Rattle.std.proofs.lemmas.Bool.{and_parts, and_from, ltb-true, lt-ltb, false≢true, not-true}
use Rattle.std.proofs.lemmas.List.FromFn.{get_or-range_with_len, length-range_with_len}
use Rattle.dt_bits.specs.Bits.{width}
use Rattle.dt_domain.specs.Domain.{DomainOps}
use Rattle.dt_terms.specs.declared.term.Term.{Term}
use Rattle.dt_terms.specs.declared.term.Term.TheVariants.{Choice, Node}
use Rattle.dt_terms.specs.Terms.{term_at, choices_of}
use Rattle.dt_box.specs.declared.step.Step.{Step}
use Rattle.dt_box.specs.declared.step.Step.TheVariants.{Forward, Backward}
use Rattle.dt_box.specs.Steps.{IsStep, IsNodeTerm, HasPlace}
use Rattle.dt_box.specs.Stillness.{IsSettled, tells}
use Rattle.dt_check.specs.Trials.{IsTry}
use Rattle.dt_check.specs.Tests.{is_node, arity_at, is_step, is_still_at, is_settled, is_try}

node_is : (term : Term) → is_node term ≡ true → IsNodeTerm term
node_is (Choice w) e = absurd (false≢true e)
node_is (Node op a b c w) e = tt

node_test : (term : Term) → IsNodeTerm term → is_node term ≡ true
node_test (Choice w) h = absurd h
node_test (Node op a b c w) h = refl

place_is : (term : Term) (k : ℕ) → k < arity_at term → HasPlace term k
place_is (Choice w) k l = absurd (omega arith)
place_is (Node op a b c w) k l = l

place_test : (term : Term) (k : ℕ) → HasPlace term k → k < arity_at term
place_test (Choice w) k h = absurd h
place_test (Node op a b c w) k h = h

pub step_is : (terms : List Term) (s : Step) → is_step terms s ≡ true → IsStep terms s
step_is terms (Forward t) e = let p = and_parts (ltb t (length terms)) _ e in (ltb-true _ _ p.0, node_is (term_at terms t) p.1)
step_is terms (Backward u k) e = let p = and_parts (ltb u (length terms)) _ e in (ltb-true _ _ p.0, place_is (term_at terms u) k (ltb-true _ _ p.1))

pub step_test : (terms : List Term) (s : Step) → IsStep terms s → is_step terms s ≡ true
step_test terms (Forward t) h = and_from (ltb t (length terms)) _ (lt-ltb _ _ h.0) (node_test (term_at terms t) h.1)
step_test terms (Backward u k) h = and_from (ltb u (length terms)) _ (lt-ltb _ _ h.0) (lt-ltb _ _ (place_test (term_at terms u) k h.1))

module _ {X : Type 0} (f : X → Bool) where
  pub all_at : (xs : List X) (k : ℕ) (d : X) → list_all f xs ≡ true → k < length xs → f (get_or xs k d) ≡ true
  all_at [] k d e l = absurd (omega arith)
  all_at (x ∷ xs) zero d e l = (and_parts (f x) _ e).0
  all_at (x ∷ xs) (suc k) d e l = all_at xs k d (and_parts (f x) _ e).1 (omega arith)

  pub all_from : (xs : List X) (d : X) → ((k : ℕ) → k < length xs → f (get_or xs k d) ≡ true) → list_all f xs ≡ true
  all_from [] d h = refl
  all_from (x ∷ xs) d h = and_from (f x) _ (h zero (omega arith)) (all_from xs d (λ k l. h (suc k) (omega arith)))

  pub each_from : (P : X → Type 0) → ((x : X) → f x ≡ true → P x) → (xs : List X) → list_all f xs ≡ true → AllByRecursion P xs
  each_from P h [] e = tt
  each_from P h (x ∷ xs) e = let p = and_parts (f x) _ e in (h x p.0, each_from P h xs p.1)

  pub each_test : (P : X → Type 0) → ((x : X) → P x → f x ≡ true) → (xs : List X) → AllByRecursion P xs → list_all f xs ≡ true
  each_test P h [] a = refl
  each_test P h (x ∷ xs) a = and_from (f x) _ (h x a.0) (each_test P h xs a.1)

-- a test of each number below n
pub range_all : (f : ℕ → Bool) (n i : ℕ) → list_all f (range_with_len 0 n) ≡ true → i < n → f i ≡ true
range_all f n i e l =
    let z : 0 + i ≡ i = omega arith in
    subst (λ m. f m ≡ true) (get_or-range_with_len 0 n i 0 l ∙ z) (all_at f (range_with_len 0 n) i 0 e (omega (arith, length-range_with_len 0 n)))

pub range_from : (f : ℕ → Bool) (n : ℕ) → ((i : ℕ) → i < n → f i ≡ true) → list_all f (range_with_len 0 n) ≡ true
range_from f n h =
    all_from f (range_with_len 0 n) 0 (λ k l.
    let m : k < n = omega (arith, length-range_with_len 0 n) in
    let z : 0 + k ≡ k = omega arith in
    subst (λ j. f j ≡ true) (sym (get_or-range_with_len 0 n k 0 m ∙ z)) (h k m))

module _ (D : Type 0) (ops : DomainOps D) where
  pub try_is : (terms : List Term) (cells : List D) (try : ℕ × ℕ) → is_try ops terms cells try ≡ true → IsTry ops terms cells try
  try_is terms cells try e = let p = and_parts (ltb try.0 (length (choices_of terms))) _ e in (ltb-true _ _ p.0, p.1)

  pub try_test : (terms : List Term) (cells : List D) (try : ℕ × ℕ) → IsTry ops terms cells try → is_try ops terms cells try ≡ true
  try_test terms cells try h = and_from (ltb try.0 (length (choices_of terms))) _ (lt-ltb _ _ h.0) h.1

  not_both : (a b : Bool) → not (a && b) ≡ true → a ≡ true → b ≡ false
  not_both true true e f = absurd (false≢true e)
  not_both true false e f = refl
  not_both false b e f = absurd (false≢true f)

  not_both_from : (a b : Bool) → (a ≡ true → b ≡ false) → not (a && b) ≡ true
  not_both_from true b h = ap not (h refl)
  not_both_from false b h = refl

  -- the test whether cells are settled
  pub settled_is : (terms : List Term) (cells : List D) → length cells ≡ length terms → is_settled ops terms cells ≡ true → IsSettled ops terms cells
  unfolding is_settled
  settled_is terms cells n e =
      let p = and_parts (list_all (λ d. not (ops.is_empty d)) cells) _ e in
      record {
        held = λ t l. not-true _ (all_at (λ d. not (ops.is_empty d)) cells t (ops.full (width 1)) p.0 l);
        still = λ s i. still_step terms cells s i p.1;
      }
    where
      still_step : (terms : List Term) (cells : List D) (s : Step) → IsStep terms s → list_all (is_still_at ops terms cells) (range_with_len 0 (length terms)) ≡ true → tells ops terms s cells ≡ false
      still_step terms cells (Forward t) i e =
          let p = and_parts (not (is_node (term_at terms t) && tells ops terms (Forward t) cells)) _ (range_all (is_still_at ops terms cells) (length terms) t e i.0) in
          not_both (is_node (term_at terms t)) _ p.0 (node_test (term_at terms t) i.1)
      still_step terms cells (Backward u k) i e =
          let p = and_parts (not (is_node (term_at terms u) && tells ops terms (Forward u) cells)) _ (range_all (is_still_at ops terms cells) (length terms) u e i.0) in
          not-true _ (range_all (λ k. not (tells ops terms (Backward u k) cells)) (arity_at (term_at terms u)) k p.1 (place_test (term_at terms u) k i.1))

  pub settled_test : (terms : List Term) (cells : List D) → length cells ≡ length terms → IsSettled ops terms cells → is_settled ops terms cells ≡ true
  unfolding is_settled
  settled_test terms cells n h =
      and_from (list_all (λ d. not (ops.is_empty d)) cells) _
      (all_from (λ d. not (ops.is_empty d)) cells (ops.full (width 1)) (λ k l. ap not (h.held k l)))
      (range_from (is_still_at ops terms cells) (length terms) (λ t l.
      and_from (not (is_node (term_at terms t) && tells ops terms (Forward t) cells)) _
      (not_both_from (is_node (term_at terms t)) _ (λ e. h.still (Forward t) (l, node_is (term_at terms t) e)))
      (range_from (λ k. not (tells ops terms (Backward t k) cells)) (arity_at (term_at terms t)) (λ k m. ap not (h.still (Backward t k) (l, place_is (term_at terms t) k m))))))
