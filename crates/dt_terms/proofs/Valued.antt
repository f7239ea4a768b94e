-- The values of terms, as far as they are found.
use Rattle.std.proofs.Common.{◌≡◌, ℕ, zero, suc, ◌+◌, ◌^◌, ◌<◌, ◌≤◌, true, List, [], ◌∷◌, ◌++◌, length, take, get_or, set, refl, sym, ap, ◌-◌, ◌∙◌, subst, ◌⊎◌, inl, inr, arith, length-append}
use Rattle.std.proofs.lemmas.Bool.{cases_lt}
use Rattle.std.proofs.lemmas.Nat.{pow_pos}
use Rattle.std.proofs.lemmas.List.{get_or_past, get_or_default, take_more_set, length-take-le, get_or-take, take-append-le}
use Rattle.std.proofs.Math.ListN.{get_or-append}
use Rattle.std.proofs.Math.Seq.{get_or-append_seam, take-length}
use Rattle.dt_bits.specs.Bits.{IsValue, width}
use Rattle.dt_bits.specs.Ops.{width_of}
use Rattle.dt_bits.specs.declared.op.Op.{Op}
use Rattle.dt_bits.specs.declared.value.Width.{Width}
use Rattle.dt_terms.specs.declared.term.Term.{Term}
use Rattle.dt_terms.specs.declared.term.Term.TheVariants.{Choice, Node}
use Rattle.dt_terms.specs.Terms.{width_of_term, is_choice, term_at, bits_at, AreTerms, choice_at}
use Rattle.dt_terms.specs.Values.{IsAssignment, AreFit, bv_at, value_of_term, first_values, values_of}
use Rattle.dt_terms.proofs.Choices.{choice_there}
use Rattle.dt_bits.proofs.Operators.{value_fits}
use Rattle.dt_terms.proofs.Placed.{IsPlaced, placed, fits_parts}

-- a value of its term's width is one, and so is the 0 in place of one that isn't found yet
pub bv_is : (terms : List Term) (earlier : List ℕ) (t : ℕ) → AreTerms terms → AreFit terms earlier → t < length terms → IsValue (bv_at terms earlier t)
bv_is terms earlier t h f l = ((h t l).width_is, by_place (cases_lt t (length earlier)))
  where
    by_place : (t < length earlier) ⊎ (length earlier ≤ t) → get_or earlier t 0 < 2 ^ bits_at terms t
    by_place (inl m) = f t m
    by_place (inr m) = rw (get_or_past earlier t 0 m) (pow_pos (bits_at terms t))

pub fit_more : (terms : List Term) (values : List ℕ) (v : ℕ) → AreFit terms values → v < 2 ^ bits_at terms (length values) → AreFit terms (values ++ v ∷ [])
fit_more terms values v f h t l = by_place (cases_lt t (length values))
  where
    by_place : (t < length values) ⊎ (length values ≤ t) → get_or (values ++ v ∷ []) t 0 < 2 ^ bits_at terms t
    by_place (inl m) = rw (get_or-append values (v ∷ []) 0 t m) (f t m)
    by_place (inr m) =
        let e : t ≡ length values = omega (arith, length-append values (v ∷ [])) in
        rw (e, get_or-append_seam values v [] 0) h

-- the number of a choice
pub number_is : (terms : List Term) (numbers : List ℕ) (t : ℕ) → IsAssignment terms numbers → t < length terms → is_choice (term_at terms t) ≡ true
    → (choice_at terms t < length numbers) × (get_or numbers (choice_at terms t) 0 < 2 ^ bits_at terms t)
number_is terms numbers t h l e =
    let p = choice_there terms t l e in
    let m : choice_at terms t < length numbers = omega (arith, h.count, p.0) in
    (m, subst (λ u. get_or numbers (choice_at terms t) 0 < 2 ^ bits_at terms u) p.1 (h.fit (choice_at terms t) m))

pub first_values-none : (terms : List Term) (numbers : List ℕ) → first_values terms numbers 0 ≡ []
unfolding first_values
first_values-none terms numbers = refl

pub first_values-next : (terms : List Term) (numbers : List ℕ) (n : ℕ)
    → first_values terms numbers (suc n) ≡ first_values terms numbers n ++ value_of_term terms numbers (first_values terms numbers n) n (term_at terms n) ∷ []
unfolding first_values
first_values-next terms numbers n = refl

-- the numbers of a choice, read at another default
pub choice_number : (terms : List Term) (numbers : List ℕ) (n : ℕ) (d : Term) (w : Width) → IsAssignment terms numbers → n < length terms → get_or terms n d ≡ Choice w
    → (choice_at terms n < length numbers) × (get_or numbers (choice_at terms n) 0 < 2 ^ bits_at terms n)
choice_number terms numbers n d w h l e =
    number_is terms numbers n h l (ap is_choice (get_or_default terms n (Choice (width 1)) d l ∙ e))

-- a node, read at another default
pub node_there : (terms : List Term) (n : ℕ) (d : Term) (op : Op) (a b c : ℕ) (w : Width) → AreTerms terms → n < length terms → get_or terms n d ≡ Node op a b c w
    → IsPlaced terms n op a b c w
node_there terms n d op a b c w h l e = placed terms n op a b c w h l (get_or_default terms n (Choice (width 1)) d l ∙ e)

-- the width of a node is that of its operator's value
pub node_bits : (terms : List Term) (n : ℕ) (d : Term) (op : Op) (a b c : ℕ) (w : Width) → AreTerms terms → n < length terms → get_or terms n d ≡ Node op a b c w
    → width_of op (bits_at terms a) (bits_at terms b) (bits_at terms c) ≡ bits_at terms n
node_bits terms n d op a b c w h l e =
    let p = node_there terms n d op a b c w h l e in
    let q = fits_parts op _ _ _ w p.fits in
    ap (λ x. x.0) q.1 ∙ sym (ap (λ x. (width_of_term x).0) (get_or_default terms n (Choice (width 1)) d l ∙ e))

-- one more value is written
pub values_more : (terms : List Term) (numbers out : List ℕ) (n v : ℕ) → n < length out → take n out ≡ first_values terms numbers n
    → v ≡ value_of_term terms numbers (take n out) n (term_at terms n)
    → take (n + 1) (set out n v) ≡ first_values terms numbers (n + 1)
values_more terms numbers out n v l h e =
    let m : n + 1 ≡ suc n = omega arith in
    take_more_set out n v l
    ∙ ap (λ x. take n out ++ x ∷ []) e
    ∙ ap (λ earlier. earlier ++ value_of_term terms numbers earlier n (term_at terms n) ∷ []) h
    ∙ sym (first_values-next terms numbers n)
    ∙ ap (first_values terms numbers) (sym m)

pub fit_next : (terms : List Term) (out : List ℕ) (n v : ℕ) → n < length out → AreFit terms (take n out) → v < 2 ^ bits_at terms n → AreFit terms (take (n + 1) (set out n v))
fit_next terms out n v l h b =
    let e : length (take n out) ≡ n = length-take-le n out (omega arith) in
    subst (AreFit terms) (sym (take_more_set out n v l)) (fit_more terms (take n out) v h (rw e b))

-- the value of the next term has its width
next_fits : (terms : List Term) (numbers earlier : List ℕ) (n : ℕ) (term : Term) → AreTerms terms → IsAssignment terms numbers → AreFit terms earlier → n < length terms
    → term_at terms n ≡ term → value_of_term terms numbers earlier n term < 2 ^ (width_of_term term).0
next_fits terms numbers earlier n (Choice w) h i f l e =
    subst (λ x. get_or numbers (choice_at terms n) 0 < 2 ^ (width_of_term x).0) e (number_is terms numbers n i l (ap is_choice e)).1
next_fits terms numbers earlier n (Node op a b c w) h i f l e =
    let p = placed terms n op a b c w h l e in
    let q = fits_parts op _ _ _ w p.fits in
    subst (λ x. value_of_term terms numbers earlier n (Node op a b c w) < 2 ^ x) (ap (λ x. x.0) q.1)
    (value_fits op (bv_at terms earlier a) (bv_at terms earlier b) (bv_at terms earlier c) p.op_is
    (bv_is terms earlier a h f p.a_in) (bv_is terms earlier b h f p.b_in) (bv_is terms earlier c h f p.c_in) q.0)

pub length-first_values : (terms : List Term) (numbers : List ℕ) (n : ℕ) → length (first_values terms numbers n) ≡ n
length-first_values terms numbers zero = ap length (first_values-none terms numbers)
length-first_values terms numbers (suc n) =
    ap length (first_values-next terms numbers n)
    ∙ omega (arith, length-append (first_values terms numbers n) (value_of_term terms numbers (first_values terms numbers n) n (term_at terms n) ∷ []), length-first_values terms numbers n)

first_fit : (terms : List Term) (numbers : List ℕ) (n : ℕ) → AreTerms terms → IsAssignment terms numbers → n ≤ length terms → AreFit terms (first_values terms numbers n)
first_fit terms numbers zero h i l = subst (AreFit terms) (sym (first_values-none terms numbers)) (λ t m. absurd (omega arith))
first_fit terms numbers (suc n) h i l =
    let f = first_fit terms numbers n h i (omega arith) in
    let e = length-first_values terms numbers n in
    subst (AreFit terms) (sym (first_values-next terms numbers n))
    (fit_more terms (first_values terms numbers n) (value_of_term terms numbers (first_values terms numbers n) n (term_at terms n)) f
    (rw e (next_fits terms numbers (first_values terms numbers n) n (term_at terms n) h i f (omega arith) refl)))

-- each term's value has its width
pub values_fit : (terms : List Term) (numbers : List ℕ) → AreTerms terms → IsAssignment terms numbers → AreFit terms (values_of terms numbers)
values_fit terms numbers h i = first_fit terms numbers (length terms) h i (omega arith)

pub length-values_of : (terms : List Term) (numbers : List ℕ) → length (values_of terms numbers) ≡ length terms
length-values_of terms numbers = length-first_values terms numbers (length terms)

-- the values of fewer terms stand at the front
first_front : (terms : List Term) (numbers : List ℕ) (k n : ℕ) → take n (first_values terms numbers (n + k)) ≡ first_values terms numbers n
first_front terms numbers zero n =
    let e : n + 0 ≡ n = omega arith in
    rw e (subst (λ m. take m (first_values terms numbers n) ≡ first_values terms numbers n) (length-first_values terms numbers n) (take-length (first_values terms numbers n)))
first_front terms numbers (suc k) n =
    let e : n + suc k ≡ suc (n + k) = omega arith in
    ap (λ m. take n (first_values terms numbers m)) e
    ∙ ap (take n) (first_values-next terms numbers (n + k))
    ∙ take-append-le n (first_values terms numbers (n + k)) _ (omega (arith, length-first_values terms numbers (n + k)))
    ∙ first_front terms numbers k n

pub take-values_of : (terms : List Term) (numbers : List ℕ) (n : ℕ) → n ≤ length terms → take n (values_of terms numbers) ≡ first_values terms numbers n
take-values_of terms numbers n l =
    let e : n + (length terms - n) ≡ length terms = omega arith in
    ap (λ m. take n (first_values terms numbers m)) (sym e) ∙ first_front terms numbers (length terms - n) n

-- the value of a term, of those of the terms before it
pub value_is : (terms : List Term) (numbers : List ℕ) (t : ℕ) → t < length terms
    → get_or (values_of terms numbers) t 0 ≡ value_of_term terms numbers (take t (values_of terms numbers)) t (term_at terms t)
value_is terms numbers t l =
    let values = values_of terms numbers in
    let earlier = first_values terms numbers t in
    let e : t + 1 ≡ suc t = omega arith in
    sym (get_or-take (t + 1) values t 0 (omega arith))
    ∙ ap (λ xs. get_or xs t 0) (take-values_of terms numbers (t + 1) (omega arith) ∙ ap (first_values terms numbers) e ∙ first_values-next terms numbers t)
    ∙ ap (λ n. get_or (earlier ++ value_of_term terms numbers earlier t (term_at terms t) ∷ []) n 0) (sym (length-first_values terms numbers t))
    ∙ get_or-append_seam earlier (value_of_term terms numbers earlier t (term_at terms t)) [] 0
    ∙ ap (λ xs. value_of_term terms numbers xs t (term_at terms t)) (sym (take-values_of terms numbers t (omega arith)))
