-- Tests that the checker makes, as functions into Bool.
use Rattle.std.specs.Prelude.{ℕ, Bool, true, false, not, ◌&&◌, nat_lt, List, length}
use Rattle.std.specs.List.{list_all, range_with_len}
use Rattle.dt_bits.specs.Ops.{arity_of}
use Rattle.dt_domain.specs.Domain.{DomainOps}
use Rattle.dt_terms.specs.declared.term.Term.{Term}
use Rattle.dt_terms.specs.declared.term.Term.TheVariants.{Choice, Node}
use Rattle.dt_terms.specs.Terms.{term_at, choices_of}
use Rattle.dt_box.specs.declared.step.Step.{Step}
use Rattle.dt_box.specs.declared.step.Step.TheVariants.{Forward, Backward}
use Rattle.dt_box.specs.Stillness.{tells}
use Rattle.dt_check.specs.Trials.{choice_cell}

abbrev pub is_node : Term → Bool
is_node (Choice w) = false
is_node (Node op a b c w) = true

abbrev pub arity_at : Term → ℕ
arity_at (Choice w) = 0
arity_at (Node op a b c w) = arity_of op

-- it is a step of the problem
abbrev pub is_step : List Term → Step → Bool
is_step terms (Forward t) = nat_lt t (length terms) && is_node (term_at terms t)
is_step terms (Backward p k) = nat_lt p (length terms) && nat_lt k (arity_at (term_at terms p))

-- no step of the node at position n tells something new
abbrev pub is_still_at : {D : Type 0} → DomainOps D → List Term → List D → ℕ → Bool
is_still_at ops terms cells n =
    not (is_node (term_at terms n) && tells ops terms (Forward n) cells)
    && list_all (λ k. not (tells ops terms (Backward n k) cells)) (range_with_len 0 (arity_at (term_at terms n)))

-- the cells are settled
unfoldable pub is_settled : {D : Type 0} → DomainOps D → List Term → List D → Bool
is_settled ops terms cells =
    list_all (λ d. not (ops.is_empty d)) cells && list_all (is_still_at ops terms cells) (range_with_len 0 (length terms))

-- a pair names a choice, and a number that its cell holds
abbrev pub is_try : {D : Type 0} → DomainOps D → List Term → List D → ℕ × ℕ → Bool
is_try ops terms cells try =
    nat_lt try.0 (length (choices_of terms)) && ops.holds (choice_cell ops terms cells try.0) try.1
