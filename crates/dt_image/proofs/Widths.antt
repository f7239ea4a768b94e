-- Values against the widths of their names, and bounds against the model's addresses.
use Rattle.std.proofs.Common.{◌≡◌, ℕ, ◌+◌, ◌/◌, ◌^◌, ◌<◌, ◌≤◌, true, false, eqb, ltb, leb, List, [], ◌∷◌, length, drop, get_or, refl, sym, ap, ◌∙◌, arith, inl, inr}
use Rattle.std.proofs.Math.Pow.{pow_mono}
use Rattle.std.proofs.Math.Nat.{div-eq_of_lt}
use Rattle.std.proofs.lemmas.Bool.{cases_lt, le-leb, lt-ltb, le-ltb, eq-eqb, ne_eqb}
use Rattle.std.proofs.lemmas.Nat.{le-div, pow_pos}
use Rattle.std.proofs.lemmas.List.{drop_more, drop_all}
use Rattle.dt_model.specs.declared.model.Named.{Named}
use Rattle.dt_image.specs.Entry.{all_fit}

pub wide_fits : (w v : ℕ) → 128 ≤ w → v < 2 ^ 128 → leb 128 w ≡ ltb v (2 ^ w)
wide_fits w v h lt =
    let m : 2 ^ 128 ≤ 2 ^ w = pow_mono h in
    le-leb 128 w h ∙ sym (lt-ltb v (2 ^ w) (omega (arith, m)))

pub quotient_fits : (w v : ℕ) → eqb (v / 2 ^ w) 0 ≡ ltb v (2 ^ w)
quotient_fits w v =
    elim (cases_lt v (2 ^ w)) [
      | inl lt ↦ eq-eqb (v / 2 ^ w) 0 (div-eq_of_lt lt) ∙ sym (lt-ltb v (2 ^ w) lt)
      | inr le ↦
          let some : 1 ≤ v / 2 ^ w = le-div 1 v (2 ^ w) (pow_pos w) (omega arith) in
          ne_eqb (v / 2 ^ w) 0 (omega arith) ∙ sym (le-ltb v (2 ^ w) le)
    ]

pub fit_stop : (ns : List Named) (vs : List ℕ) (i : ℕ) (n : Named) → i < length ns → length ns ≡ length vs → ltb (get_or vs i 0) (2 ^ (get_or ns i n).width) ≡ false → all_fit (drop i ns) (drop i vs) ≡ false
fit_stop ns vs i n lt same h =
    rw (drop_more ns i n lt, drop_more vs i 0 (omega arith), h) refl

pub fit_more : (ns : List Named) (vs : List ℕ) (i : ℕ) (n : Named) → i < length ns → length ns ≡ length vs → ltb (get_or vs i 0) (2 ^ (get_or ns i n).width) ≡ true → all_fit (drop i ns) (drop i vs) ≡ all_fit (drop (i + 1) ns) (drop (i + 1) vs)
fit_more ns vs i n lt same h =
    let e : all_fit (get_or ns i n ∷ drop (i + 1) ns) (get_or vs i 0 ∷ drop (i + 1) vs) ≡ all_fit (drop (i + 1) ns) (drop (i + 1) vs) = rw h refl in
    ap (λ (xs : List Named). all_fit xs (drop i vs)) (drop_more ns i n lt) ∙ ap (λ (ys : List ℕ). all_fit (get_or ns i n ∷ drop (i + 1) ns) ys) (drop_more vs i 0 (omega arith)) ∙ e

fit_none : (vs : List ℕ) → all_fit [] vs ≡ true
fit_none [] = refl
fit_none (v ∷ vs) = refl

pub fit_end : (ns : List Named) (vs : List ℕ) (i : ℕ) → length ns ≤ i → all_fit (drop i ns) (drop i vs) ≡ true
fit_end ns vs i past = ap (λ (xs : List Named). all_fit xs (drop i vs)) (drop_all i ns past) ∙ fit_none (drop i vs)
