-- The value of a name.
use Rattle.std.proofs.Common.{◌≡◌, ℕ, zero, suc, ◌<◌, ◌^◌, List, [], ◌∷◌, length, get_or, Some, refl, sym, ap, arith, set, subst, ◌∙◌, cond, eqb, ⊎_elim}
use mathlib.Core.Path.{fun_ext}
use Rattle.std.proofs.lemmas.List.{get_or-set_same, get_or-set_other}
use Rattle.std.specs.Prelude.{IsSome, slice_index}
use Rattle.std.proofs.lemmas.Bool.{false≢true, cases_eq, eq-eqb, ne_eqb, cond-true, cond-false}
use Rattle.dt_bits.specs.Bits.{IsWidth}
use Rattle.dt_model.specs.declared.model.Named.{Named}
use Rattle.dt_model.specs.Widths.{width_at}
use Rattle.dt_walk.specs.Meaning.{valued, bound}
use Rattle.dt_walk.specs.Sound.{AreValues}

-- the name at i, with its value; d is what stands for a name past the end
pub record IsNamed (ns : List Named) (vs : List ℕ) (i : ℕ) : Type 0 where
  pub within : i < length vs
  pub width : (d : Named) → width_at ns i ≡ Some (get_or ns i d).width
  pub is_width : (d : Named) → IsWidth (get_or ns i d).width
  pub fits : (d : Named) → get_or vs i 0 < 2 ^ (get_or ns i d).width

pub named_at : (ns : List Named) (vs : List ℕ) (i : ℕ) → AreValues ns vs → IsSome (width_at ns i) → IsNamed ns vs i
named_at [] vs i a s = absurd (false≢true s)
named_at (n ∷ ns) [] i a s = absurd a
named_at (n ∷ ns) (v ∷ vs) zero a s = record { within = omega arith; width = λ d. refl; is_width = λ d. a.0; fits = λ d. a.1 }
named_at (n ∷ ns) (v ∷ vs) (suc i) a s =
    let r = named_at ns vs i a.2 s in
    record { within = omega (arith, r.within); width = r.width; is_width = r.is_width; fits = r.fits }

pub value_of_name : (ns : List Named) (vs : List ℕ) (i : ℕ) (d : Named) → IsNamed ns vs i → record { width = record { 0 = (get_or ns i d).width }; bits = get_or vs i 0 } ≡ valued (width_at ns i) (slice_index vs i)
value_of_name ns vs i d r = ap (λ w. valued w (get_or vs i 0)) (sym (r.width d))

pub set_value : (ns : List Named) (vs : List ℕ) (i w n : ℕ) → AreValues ns vs → width_at ns i ≡ Some w → n < 2 ^ w → AreValues ns (set vs i n)
set_value [] [] i w n a e h = tt
set_value [] (v ∷ vs) i w n a e h = absurd a
set_value (m ∷ ns) [] i w n a e h = absurd a
set_value (m ∷ ns) (v ∷ vs) zero w n a e h = let s : m.width ≡ w = cc in (a.0, subst (λ k. n < 2 ^ k) (sym s) h, a.2)
set_value (m ∷ ns) (v ∷ vs) (suc i) w n a e h = (a.0, a.1, set_value ns vs i w n a.2 e h)

pub set_bound : (vs : List ℕ) (x n : ℕ) → x < length vs → slice_index (set vs x n) ≡ bound (slice_index vs) x n
set_bound vs x n l = fun_ext (λ (y : ℕ).
    ⊎_elim
    (λ (e : y ≡ x). subst (λ k. get_or (set vs x n) k 0 ≡ cond (eqb k x) n (get_or vs k 0)) (sym e) (get_or-set_same vs x n 0 l ∙ sym (cond-true (eqb x x) n (get_or vs x 0) (eq-eqb x x refl))))
    (λ (e : y ≡ x → ⊥). get_or-set_other vs x y n 0 e ∙ sym (cond-false (eqb y x) n (get_or vs y 0) (ne_eqb y x e)))
    (cases_eq y x))
