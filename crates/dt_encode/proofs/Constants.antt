-- Behind choices the two constants of one bit are put in turn, since neither stands already.
use Rattle.std.proofs.Common.{◌≡◌, ℕ, false, List, [], ◌∷◌, ◌++◌, Option, None, refl, ap, ◌∙◌, append_assoc}
use Rattle.std.specs.Prelude.{position}
use Rattle.std.specs.List.{list_any}
use Rattle.dt_lemmas.proofs.Positions.{position_none, position_push_none}
use Rattle.dt_terms.specs.declared.term.Term.{Term}
use Rattle.dt_terms.specs.declared.term.Term.TheVariants.{Choice, Node}
use Rattle.dt_forms.specs.Same.{same_term}
use Rattle.dt_forms.specs.Placing.{shared, place_const}
use Rattle.dt_table.specs.Table.{bit_node}
use Rattle.dt_table.proofs.Extends.{AreChoices}
use Rattle.std.proofs.lemmas.Bool.{false≢true}

no_bit : (n : ℕ) (xs : List Term) → AreChoices xs → list_any (same_term (bit_node n)) xs ≡ false
no_bit n [] h = refl
no_bit n (Choice w ∷ xs) h = no_bit n xs h.1
no_bit n (Node op a b c w ∷ xs) h = absurd (false≢true h.0)

not_there : (n : ℕ) (xs : List Term) → AreChoices xs → position (same_term (bit_node n)) xs ≡ None
not_there n xs h = position_none (same_term (bit_node n)) xs (no_bit n xs h)

pub zero_placed : (xs : List Term) → AreChoices xs → (place_const xs 1 0).terms ≡ xs ++ bit_node 0 ∷ []
zero_placed xs h = ap (λ (o : Option ℕ). (shared xs (bit_node 0) o).terms) (not_there 0 xs h)

-- behind the zero the one is put
pub one_placed : (xs : List Term) → AreChoices xs → (place_const (xs ++ bit_node 0 ∷ []) 1 1).terms ≡ xs ++ bit_node 0 ∷ bit_node 1 ∷ []
one_placed xs h =
    ap (λ (o : Option ℕ). (shared (xs ++ bit_node 0 ∷ []) (bit_node 1) o).terms) (position_push_none (same_term (bit_node 1)) xs (bit_node 0) (not_there 1 xs h) refl)
    ∙ append_assoc xs (bit_node 0 ∷ []) (bit_node 1 ∷ [])
