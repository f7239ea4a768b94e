-- Tests, and choices by them.
use Rattle.std.proofs.Common.{◌≡◌, ℕ, zero, suc, ◌≤◌, Bool, true, false, cond, arith, refl, ◌↔◌, not, sym, ◌∙◌, ◌&&◌, ◌||◌, ap, eqb, ◌<◌, ◌⊎◌, inl, inr}
use Rattle.std.specs.Bool.{OnFalse}
use Rattle.std.specs.Prelude.{IsTrue}
use Rattle.std.proofs.lemmas.Bool.{false≢true, cond_both, eqb-true, eqb-false}
use mathlib.Core.Bool.{beq}

-- ---- a chain of choices

pub third : {X : Type 0} (p q r : Bool) (x y z w : X) → p ≡ false → q ≡ false → r ≡ true → cond p x (cond q y (cond r z w)) ≡ z
third p q r x y z w hp hq hr = rw (hp, hq, hr) refl

pub fourth : {X : Type 0} (p q r : Bool) (x y z w : X) → p ≡ false → q ≡ false → r ≡ false → cond p x (cond q y (cond r z w)) ≡ w
fourth p q r x y z w hp hq hr = rw (hp, hq, hr) refl

pub on_false : {P : Type 0} (b : Bool) → P → OnFalse b P
on_false true h = tt
on_false false h = h

-- ---- a test of numbers that fails at 0 and at 1

pub two_on : (test : ℕ → Bool) → test 0 ≡ false → test 1 ≡ false → (k : ℕ) → test k ≡ true → 2 ≤ k
two_on test none one zero h = absurd cc
two_on test none one (suc zero) h = absurd cc
two_on test none one (suc (suc k)) h = omega arith

-- a test and its negation don't both pass
pub not_both : (b : Bool) → not b ≡ true → b ≡ true → ⊥
not_both true e h = false≢true e
not_both false e h = false≢true h

-- what holds of both, each where it is chosen
pub chosen : {X : Type 0} (P : X → Type 0) (b : Bool) (x y : X) → (b ≡ true → P x) → (b ≡ false → P y) → P (cond b x y)
chosen P true x y h k = h refl
chosen P false x y h k = k refl

-- tests that are one pass together
pub same_tests : (a b : Bool) → a ≡ b → IsTrue a ↔ IsTrue b
same_tests a b e = (λ h. sym e ∙ h, λ h. e ∙ h)

pub and_where : (t e : Bool) → (t ≡ true → e ≡ false) → (t && e) ≡ false
and_where true e h = h refl
and_where false e h = refl

pub not_or_where : (t s : Bool) → (t ≡ true → s ≡ true) → (not t || s) ≡ true
not_or_where true s h = h refl
not_or_where false s h = refl

pub not_or_then : (t s : Bool) → (not t || s) ≡ true → t ≡ true → s ≡ true
not_or_then true s h e = h
not_or_then false s h e = absurd (false≢true e)

pub and_turn : (p q : Bool) → (p && q) ≡ (q && p)
and_turn p q = grind arith

pub or_turn : (p q : Bool) → (p || q) ≡ (q || p)
or_turn p q = grind arith

pub same_flags : (p q : Bool) → beq p q ≡ true → p ≡ q
same_flags p q e = grind arith

pub flag_same : (p : Bool) → beq p p ≡ true
flag_same p = grind arith

pub and_alike : (f p q : Bool) → (f ≡ true → p ≡ q) → (p && f) ≡ (q && f)
and_alike true p q h = ap (λ b. b && true) (h refl)
and_alike false true true h = refl
and_alike false true false h = refl
and_alike false false true h = refl
and_alike false false false h = refl

pub from_cond : (n : ℕ) (b : Bool) → n ≡ cond b 1 0 → eqb n 1 ≡ b
from_cond n true e = ap (λ m. eqb m 1) e
from_cond n false e = ap (λ m. eqb m 1) e

pub small_is : (x : ℕ) → x < 2 → cond (eqb x 1) 1 0 ≡ x
small_is x h = cond_both (eqb x 1) 1 0 (λ n. n ≡ x) (λ e. sym (eqb-true _ _ e)) (λ e. let n = eqb-false _ _ e in let t : x ≡ 1 → ⊥ = n in small x h t)
  where
    small : (x : ℕ) → x < 2 → (x ≡ 1 → ⊥) → 0 ≡ x
    small x h n = grind arith

-- which of two was chosen
pub chosen_cases : {X : Type 0} (b : Bool) (x y z : X) → cond b x y ≡ z → ((b ≡ true) × (x ≡ z)) ⊎ ((b ≡ false) × (y ≡ z))
chosen_cases true x y z e = inl (refl, e)
chosen_cases false x y z e = inr (refl, e)

-- two tests, each of which passes where the other does, are the same
pub same_test : (p q : Bool) → (p ≡ true → q ≡ true) → (q ≡ true → p ≡ true) → p ≡ q
same_test true q h k = sym (h refl)
same_test false true h k = k refl
same_test false false h k = refl

-- a test beside one that passes
pub and_kept : (p q : Bool) → q ≡ true → (p && q) ≡ p
and_kept p q e = grind arith

-- the second of two that one or the other chooses
pub or_chosen : (a b c d : Bool) → cond a c d ≡ true → (d ≡ true → b ≡ true) → (a || b) ≡ true
or_chosen true b c d e g = refl
or_chosen false b c d e g = g e
