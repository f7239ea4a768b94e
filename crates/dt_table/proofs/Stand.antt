-- The choices of a list stand where the arithmetic of positions says, with their widths.
use Rattle.std.proofs.Common.{◌≡◌, ℕ, zero, suc, ◌+◌, ◌*◌, ◌<◌, ◌^◌, List, [], ◌∷◌, ◌++◌, length, replicate, sym, ap, ◌∙◌, subst, arith, length-append}
use Rattle.std.specs.Prelude.{IsSome, slice_index}
use Rattle.std.specs.List.{flat_map}
use Rattle.std.proofs.lemmas.Bool.{false≢true}
use Rattle.std.proofs.lemmas.List.{length-map}
use Rattle.dt_bits.specs.declared.value.Width.{Width}
use Rattle.dt_model.specs.declared.model.Named.{Named as NamedWidth}
use Rattle.dt_model.specs.Widths.{width_at}
use Rattle.dt_model.specs.Values.{FitNames}
use Rattle.dt_terms.specs.declared.term.Term.{Term}
use Rattle.dt_terms.specs.declared.term.Term.TheVariants.{Choice}
use Rattle.dt_terms.specs.Terms.{term_at}
use Rattle.dt_walk.specs.Meaning.{valued}
use Rattle.dt_forms.specs.Meaning.{Valuation, HasValue, IsLawful}
use Rattle.dt_forms.proofs.Fine.{mul_more}
use Rattle.dt_table.specs.Table.{names_chosen}
use Rattle.dt_table.specs.Images.{bits_from}

-- these terms stand from a position on
abbrev pub Stand : Valuation → ℕ → List Term → Type 0
Stand v at [] = Unit {0}
Stand v at (x ∷ xs) = HasValue v x (v at) × Stand v (at + 1) xs

stand_from : (v : Valuation) (xs : List Term) (at : ℕ) → ((t : ℕ) → t < length xs → HasValue v (term_at xs t) (v (at + t))) → Stand v at xs
stand_from v [] at h = tt
stand_from v (x ∷ xs) at h = (
  let z : at + 0 ≡ at = omega arith in subst (λ (j : ℕ). HasValue v x (v j)) z (h 0 (omega arith)),
  stand_from v xs (at + 1) (λ t l. let z : at + suc t ≡ at + 1 + t = omega arith in subst (λ (j : ℕ). HasValue v (term_at xs t) (v j)) z (h (suc t) (omega (arith, l)))),
)

pub lawful_stand : (v : Valuation) (xs : List Term) → IsLawful v xs → Stand v 0 xs
lawful_stand v xs h = stand_from v xs 0 (λ t l. let z : t ≡ 0 + t = omega arith in subst (λ (j : ℕ). HasValue v (term_at xs t) (v j)) z (h t l))

pub stand_split : (v : Valuation) (xs ys : List Term) (at : ℕ) → Stand v at (xs ++ ys) → Stand v at xs × Stand v (at + length xs) ys
stand_split v [] ys at h = (tt, let z : at ≡ at + 0 = omega arith in subst (λ (j : ℕ). Stand v j ys) z h)
stand_split v (x ∷ xs) ys at h =
    let r = stand_split v xs ys (at + 1) h.1 in
    ((h.0, r.0), let z : at + 1 + length xs ≡ at + suc (length xs) = omega arith in subst (λ (j : ℕ). Stand v j ys) z r.1)

-- the same terms again and again
pub repeated_stand : {A : Type 0} (v : Valuation) (xs : List Term) (cs : List A) (at : ℕ) → Stand v at (flat_map (λ (_ : A). xs) cs) → (c : ℕ) → c < length cs → Stand v (at + c * length xs) xs
repeated_stand v xs [] at h c l = absurd (omega (arith, l))
repeated_stand v xs (x ∷ cs) at h zero l =
    let z : at ≡ at + 0 * length xs = omega arith in
    subst (λ (j : ℕ). Stand v j xs) z (stand_split v xs _ at h).0
repeated_stand v xs (x ∷ cs) at h (suc c) l =
    let z : at + length xs + c * length xs ≡ at + suc c * length xs = omega (arith, mul_more c (length xs)) in
    subst (λ (j : ℕ). Stand v j xs) z (repeated_stand v xs cs (at + length xs) (stand_split v xs _ at h).1 c (omega (arith, l)))

pub repeated_length : {A : Type 0} (xs : List Term) (cs : List A) → length (flat_map (λ (_ : A). xs) cs) ≡ length cs * length xs
repeated_length xs [] = omega arith
repeated_length {A} xs (x ∷ cs) = length-append xs (flat_map (λ (_ : A). xs) cs) ∙ ap (λ (n : ℕ). length xs + n) (repeated_length xs cs) ∙ sym (mul_more (length cs) (length xs))

-- ---- names

pub names_length : (ns : List NamedWidth) → length (names_chosen ns) ≡ length ns
names_length ns = length-map ns _

pub name_value : (v : Valuation) (ns : List NamedWidth) (at i : ℕ) → Stand v at (names_chosen ns) → IsSome (width_at ns i) → v (at + i) ≡ valued (width_at ns i) (slice_index (bits_from v at ns) i)
name_value v [] at i h s = absurd (false≢true s)
name_value v (n ∷ ns) at zero h s =
    let z : at + 0 ≡ at = omega arith in
    ap v z ∙ ap (λ (w : Width). record { width = w; bits = (v at).bits }) h.0
name_value v (n ∷ ns) at (suc i) h s =
    let z : at + suc i ≡ at + 1 + i = omega arith in
    ap v z ∙ name_value v ns (at + 1) i h.1 s

pub names_fit : (v : Valuation) (ns : List NamedWidth) (at : ℕ) → ((t : ℕ) → (v t).bits < 2 ^ (v t).width.0) → Stand v at (names_chosen ns) → FitNames ns (bits_from v at ns)
names_fit v [] at g h = tt
names_fit v (n ∷ ns) at g h = (subst (λ (w : Width). (v at).bits < 2 ^ w.0) h.0 (g at), names_fit v ns (at + 1) g h.1)

-- ---- words

pub replicated_stand : (v : Valuation) (n : ℕ) (w : Width) (at j : ℕ) → Stand v at (replicate n (Choice w)) → j < n → (v (at + j)).width ≡ w
replicated_stand v zero w at j h l = absurd (omega (arith, l))
replicated_stand v (suc n) w at zero h l = let z : at + 0 ≡ at = omega arith in ap (λ (t : ℕ). (v t).width) z ∙ h.0
replicated_stand v (suc n) w at (suc j) h l = let z : at + suc j ≡ at + 1 + j = omega arith in ap (λ (t : ℕ). (v t).width) z ∙ replicated_stand v n w (at + 1) j h.1 (omega (arith, l))
