-- Tests of each index below a number.
use Rattle.std.proofs.Common.{◌≡◌, ℕ, zero, suc, ◌<◌, ◌≤◌, Bool, true, false, ◌||◌, refl, ap, ◌∙◌, subst, ⊎_elim, arith}
use Rattle.std.proofs.lemmas.Bool.{cases_lt, or_parts, or_from, or_cases, false≢true}
use Rattle.dt_bits.specs.Bits.{some_below}

pub none_below : (w : ℕ) (f : ℕ → Bool) (i : ℕ) → some_below w f ≡ false → i < w → f i ≡ false
unfolding some_below
none_below zero f i e h = absurd (omega arith)
none_below (suc w) f i e h =
    let p = or_parts (f w) (some_below w f) e in
    ⊎_elim (λ (l : i < w). none_below w f i p.1 l) (λ (l : w ≤ i). let s : w ≡ i = omega arith in subst (λ k. f k ≡ false) s p.0) (cases_lt i w)

pub none_below_from : (w : ℕ) (f : ℕ → Bool) → ((i : ℕ) → i < w → f i ≡ false) → some_below w f ≡ false
unfolding some_below
none_below_from zero f h = refl
none_below_from (suc w) f h = or_from (f w) (some_below w f) (h w (omega arith)) (none_below_from w f (λ i l. h i (omega arith)))

pub found_below : (w : ℕ) (f : ℕ → Bool) → some_below w f ≡ true → (i : ℕ) × (i < w) × (f i ≡ true)
unfolding some_below
found_below zero f e = absurd (false≢true e)
found_below (suc w) f e =
    ⊎_elim (λ (l : f w ≡ true). (w, omega arith, l)) (λ (l : some_below w f ≡ true). let r = found_below w f l in (r.0, omega (arith, r.1), r.2)) (or_cases (f w) (some_below w f) e)

-- tests that agree below w
pub some_below_same : (w : ℕ) (f g : ℕ → Bool) → ((i : ℕ) → i < w → f i ≡ g i) → some_below w f ≡ some_below w g
unfolding some_below
some_below_same zero f g h = refl
some_below_same (suc w) f g h = ap (λ b. b || some_below w f) (h w (omega arith)) ∙ ap (λ b. g w || b) (some_below_same w f g (λ i l. h i (omega arith)))
