-- A solving assignment tells an image that satisfies the list, and the numbers of a satisfying image are a solving assignment.
use Rattle.std.proofs.Common.{◌≡◌, ℕ, zero, suc, ◌+◌, ◌<◌, ◌≤◌, Bool, true, cond, eqb, ◌&&◌, List, [], ◌∷◌, ◌++◌, length, take, get_or, refl, sym, ap, ◌∙◌, subst, arith, length-append}
use Rattle.std.specs.List.{list_all}
use Rattle.std.proofs.lemmas.Bool.{false≢true, and_parts}
use Rattle.dt_model.specs.ModelData.{ModelData}
use Rattle.dt_request.specs.declared.list.Requests.{Requests}
use Rattle.dt_request.specs.Lists.{IsList}
use Rattle.dt_terms.specs.declared.term.Term.{Term}
use Rattle.dt_terms.specs.declared.term.Term.TheVariants.{Choice, Node}
use Rattle.dt_terms.specs.Terms.{AreTerms, term_at, is_choice, choice_at}
use Rattle.dt_terms.specs.Values.{IsAssignment, values_of, value_of_term, solves}
use Rattle.dt_terms.proofs.Choices.{choices_of-none, choice_at-next}
use Rattle.dt_terms.proofs.Valued.{value_is}
use Rattle.dt_image.specs.declared.image.Image.{Image}
use Rattle.dt_satisfy.specs.Satisfies.{Satisfies}
use Rattle.dt_forms.specs.Meaning.{Valuation}
use Rattle.dt_table.specs.Table.{built, table, choices}
use Rattle.dt_table.specs.Images.{image_told}
use Rattle.dt_table.specs.Numbers.{numbers_of}
use Rattle.dt_forms.specs.Claims.{AreOnes}
use Rattle.dt_forms.proofs.Real.{assigned_values}
use Rattle.dt_forms.specs.Meaning.{values}
use Rattle.dt_table.proofs.Ready.{IsReady}
use Rattle.dt_table.proofs.Satisfying.{told_satisfies}
use Rattle.dt_table.proofs.Numbers.{HaveBits}
use Rattle.dt_table.proofs.Solving.{image_solved}
use Rattle.dt_table.proofs.Extends.{AreChoices, are_choices, table_extends}

pub ones_of : (terms : List Term) (numbers ts : List ℕ) → list_all (λ t. eqb (get_or (values_of terms numbers) t 0) 1) ts ≡ true → AreOnes (values terms numbers) ts
ones_of terms numbers [] h = tt
ones_of terms numbers (t ∷ ts) h = let p = and_parts _ _ h in (p.0, ones_of terms numbers ts p.1)

of_ones : (terms : List Term) (numbers ts : List ℕ) → AreOnes (values terms numbers) ts → list_all (λ t. eqb (get_or (values_of terms numbers) t 0) 1) ts ≡ true
of_ones terms numbers [] h = refl
of_ones terms numbers (t ∷ ts) h = ap (λ (b : Bool). b && list_all (λ t. eqb (get_or (values_of terms numbers) t 0) 1) ts) h.0 ∙ of_ones terms numbers ts h.1

-- from an assignment to an image
pub table_satisfies : (d : ModelData) (r : Requests) (numbers : List ℕ) → IsReady d → IsList d r → AreTerms (table d r).terms → IsAssignment (table d r).terms numbers → solves (table d r) numbers ≡ true
    → Satisfies d r (image_told (values (table d r).terms numbers) d r)
table_satisfies d r numbers ready list h i s =
    let terms = (table d r).terms in
    told_satisfies (values terms numbers) d r ready list (assigned_values terms numbers h i) (ones_of terms numbers (table d r).required s)

-- ---- choices have their numbers

at_choice : (xs more : List Term) (t : ℕ) → AreChoices xs → t < length xs → is_choice (term_at (xs ++ more) t) ≡ true
at_choice [] more t h l = absurd (omega (arith, l))
at_choice (x ∷ xs) more zero h l = h.0
at_choice (x ∷ xs) more (suc t) h l = at_choice xs more t h.1 (omega (arith, l))

pub choice_place : (xs more : List Term) (t : ℕ) → AreChoices xs → t ≤ length xs → choice_at (xs ++ more) t ≡ t
choice_place xs more zero h l = ap length choices_of-none
choice_place xs more (suc t) h l =
    let n : suc t ≡ t + 1 = omega arith in
    let m : t < length (xs ++ more) = (let e = length-append xs more in omega (arith, e, l)) in
    ap (choice_at (xs ++ more)) n ∙ choice_at-next (xs ++ more) t m ∙ ap (λ (b : Bool). choice_at (xs ++ more) t + cond b 1 0) (at_choice xs more t h (omega (arith, l)))
    ∙ ap (λ (j : ℕ). j + 1) (choice_place xs more t h (omega (arith, l))) ∙ sym n

choice_value : (terms : List Term) (numbers earlier : List ℕ) (t : ℕ) (x : Term) → is_choice x ≡ true → value_of_term terms numbers earlier t x ≡ get_or numbers (choice_at terms t) 0
choice_value terms numbers earlier t (Choice w) e = refl
choice_value terms numbers earlier t (Node op a b c w) e = absurd (false≢true e)

bits_from_all : (v : Valuation) (xs : List ℕ) (at : ℕ) → ((t : ℕ) → t < length xs → (v (at + t)).bits ≡ get_or xs t 0) → HaveBits v at xs
bits_from_all v [] at h = tt
bits_from_all v (x ∷ xs) at h = (
  let z : at + 0 ≡ at = omega arith in subst (λ (j : ℕ). (v j).bits ≡ x) z (h 0 (omega arith)),
  bits_from_all v xs (at + 1) (λ t l. let z : at + suc t ≡ at + 1 + t = omega arith in subst (λ (j : ℕ). (v j).bits ≡ get_or xs t 0) z (h (suc t) (omega (arith, l)))),
)

-- the values of choices that come first are the numbers
pub first_bits : (xs more : List Term) (numbers : List ℕ) → AreChoices xs → length numbers ≡ length xs → HaveBits (values (xs ++ more) numbers) 0 numbers
first_bits xs more numbers h e =
    let terms = xs ++ more in
    bits_from_all (values terms numbers) numbers 0 (λ t l.
    let z : 0 + t ≡ t = omega arith in
    let m : t < length terms = (let q = length-append xs more in omega (arith, q, l, e)) in
    ap (λ (j : ℕ). (values terms numbers j).bits) z ∙ value_is terms numbers t m ∙ choice_value terms numbers (take t (values_of terms numbers)) t (term_at terms t) (at_choice xs more t h (omega (arith, l, e)))
    ∙ ap (λ (j : ℕ). get_or numbers j 0) (choice_place xs more t h (omega (arith, l, e))))

-- from an image to an assignment
pub image_solves : (d : ModelData) (r : Requests) (i : Image) → IsReady d → IsList d r → AreTerms (built d r).terms → AreTerms (table d r).terms → IsAssignment (table d r).terms (numbers_of d i) → length (numbers_of d i) ≡ length (choices d r) → Satisfies d r i
    → solves (table d r) (numbers_of d i) ≡ true
image_solves d r i ready list t h a n sat =
    let terms = (table d r).terms in
    let numbers = numbers_of d i in
    let x = table_extends d r in
    let bits : HaveBits (values terms numbers) 0 numbers = subst (λ (l : List Term). HaveBits (values l numbers) 0 numbers) (sym x.1) (first_bits (choices d r) x.0 numbers (are_choices d r) n) in
    of_ones terms numbers (table d r).required (image_solved (values terms numbers) d r i ready list t (assigned_values terms numbers h a) bits sat)
