-- The values of a problem's terms are lawful.
use Rattle.dt_forms.specs.Meaning.{values}
use Rattle.std.proofs.Common.{◌≡◌, ℕ, ◌<◌, ◌≤◌, ◌^◌, List, length, take, ⊎_elim, refl, sym, ap, ◌∙◌, subst}
use Rattle.std.proofs.lemmas.List.{get_or-take, get_or_past}
use Rattle.std.proofs.lemmas.Bool.{cases_lt}
use Rattle.std.proofs.lemmas.Nat.{pow_pos}
use Rattle.dt_bits.specs.Ops.{value_of}
use Rattle.dt_bits.proofs.Operators.{value_used}
use Rattle.dt_bits.specs.declared.value.Width.{Width}
use Rattle.dt_terms.specs.declared.term.Term.{Term}
use Rattle.dt_terms.specs.declared.term.Term.TheVariants.{Choice, Node}
use Rattle.dt_terms.specs.Terms.{AreTerms, term_at, bits_at, width_of_term}
use Rattle.dt_terms.specs.Values.{IsAssignment, values_of, bv_at, value_of_term}
use Rattle.dt_terms.proofs.Valued.{value_is, values_fit}
use Rattle.dt_terms.proofs.Placed.{placed, fits_parts}
use Rattle.dt_forms.specs.Meaning.{HasValue, IsLawful, AreValues}

pub lawful_values : (terms : List Term) (numbers : List ℕ) → AreTerms terms → IsLawful (values terms numbers) terms
lawful_values terms numbers h t l = by_term (term_at terms t) refl
  where
    same_at : (a : ℕ) → a < t → bv_at terms (take t (values_of terms numbers)) a ≡ bv_at terms (values_of terms numbers) a
    same_at a m = ap (λ (n : ℕ). record { width = width_of_term (term_at terms a); bits = n }) (get_or-take t (values_of terms numbers) a 0 m)

    by_term : (x : Term) → term_at terms t ≡ x → HasValue (values terms numbers) x (values terms numbers t)
    by_term (Choice w) e = ap width_of_term e
    by_term (Node op a b c w) e =
        let p = placed terms t op a b c w h l e in
        let f = fits_parts op _ _ _ w p.fits in
        ap (λ (n : ℕ). record { width = width_of_term (term_at terms t); bits = n })
        (value_is terms numbers t l ∙ ap (value_of_term terms numbers (take t (values_of terms numbers)) t) e
        ∙ value_used op _ _ _ _ _ _ (λ m. same_at a (p.a_before m)) (λ m. same_at b (p.b_before m)) (λ m. same_at c (p.c_before m)))
        ∙ ap (λ (w2 : Width). record { width = w2; bits = value_of op (bv_at terms (values_of terms numbers) a) (bv_at terms (values_of terms numbers) b) (bv_at terms (values_of terms numbers) c) }) (ap width_of_term e ∙ sym f.1)

pub values_range : (terms : List Term) (numbers : List ℕ) → AreTerms terms → IsAssignment terms numbers → (t : ℕ) → (values terms numbers t).bits < 2 ^ (values terms numbers t).width.0
values_range terms numbers h i t = ⊎_elim
    (λ (l : t < length (values_of terms numbers)). values_fit terms numbers h i t l)
    (λ (l : length (values_of terms numbers) ≤ t). subst (λ (n : ℕ). n < 2 ^ bits_at terms t) (sym (get_or_past (values_of terms numbers) t 0 l)) (pow_pos (bits_at terms t)))
    (cases_lt t (length (values_of terms numbers)))

-- an assignment's values
pub assigned_values : (terms : List Term) (numbers : List ℕ) → AreTerms terms → IsAssignment terms numbers → AreValues (values terms numbers) terms
assigned_values terms numbers h i = record { lawful = lawful_values terms numbers h; wide = λ t l. refl; ranged = values_range terms numbers h i }
