-- A problem that a tree refutes has no solving assignment.
use Rattle.std.proofs.Common.{◌≡◌, ℕ, true, false, List, get_or, sym, ◌∙◌, inl, inr, ◌⊎◌}
use Rattle.std.proofs.lemmas.Bool.{cases_Bool, true≢false, or_parts}
use Rattle.dt_bits.specs.Bits.{bit}
use Rattle.dt_domain.specs.Domain.{DomainOps, DomainLaws}
use Rattle.dt_terms.specs.declared.term.Term.{Term}
use Rattle.dt_terms.specs.Terms.{AreTerms}
use Rattle.dt_terms.specs.Problem.{ProblemData, IsProblem}
use Rattle.dt_terms.specs.Values.{IsAssignment, values_of, solves}
use Rattle.dt_box.specs.declared.step.Step.TheVariants.{Forward, Backward}
use Rattle.dt_box.specs.Cells.{AreCells, HoldAssignment, root_cells}
use Rattle.dt_box.specs.Steps.{after_step, after_bit}
use Rattle.dt_box.proofs.Steps.{step_cells, bit_cells}
use Rattle.dt_box.proofs.Assignments.{root_holds, step_holds, bit_holds, held_not_empty}
use Rattle.dt_box.proofs.Roots.{root_cells_are}
use Rattle.dt_log.specs.Trees.{Tree, forward, backward, close, split, loose, unvisited, is_open}
use Rattle.dt_check.specs.Sound.{IsSound, Refutes}

module _ (D : Type 0) (ops : DomainOps D) (laws : DomainLaws ops) where
  module _ (terms : List Term) (right : AreTerms terms) (numbers : List ℕ) where
    -- a tree without an open end leaves no assignment that the cells hold
    unheld : (tree : Tree) (cells : List D) → AreCells ops terms cells → IsSound ops terms tree cells → is_open tree ≡ false → HoldAssignment ops terms cells numbers → ⊥
    unfolding IsSound is_open
    unheld (forward t rest) cells h s o all =
        unheld rest (after_step ops terms (Forward t) cells) (step_cells D ops laws terms right (Forward t) cells h s.0) s.1 o (step_holds D ops laws terms right numbers (Forward t) cells h s.0 all)
    unheld (backward p k rest) cells h s o all =
        unheld rest (after_step ops terms (Backward p k) cells) (step_cells D ops laws terms right (Backward p k) cells h s.0) s.1 o (step_holds D ops laws terms right numbers (Backward p k) cells h s.0 all)
    unheld (close t) cells h s o all = true≢false (sym s.1 ∙ held_not_empty D ops laws terms right numbers t cells h s.0 all)
    unheld (loose tries) cells h s o all = true≢false o
    unheld unvisited cells h s o all = true≢false o
    unheld (split tries t i zeros ones) cells h s o all =
        let p = or_parts (is_open zeros) (is_open ones) o in
        by_bit (unheld zeros (after_bit ops t i false cells) (bit_cells D ops laws terms right t i false cells h s.0.term s.0.within) s.1 p.0)
        (unheld ones (after_bit ops t i true cells) (bit_cells D ops laws terms right t i true cells h s.0.term s.0.within) s.2 p.1)
        (cases_Bool (bit (get_or (values_of terms numbers) t 0) i))
      where
        by_bit : (HoldAssignment ops terms (after_bit ops t i false cells) numbers → ⊥) → (HoldAssignment ops terms (after_bit ops t i true cells) numbers → ⊥)
            → (bit (get_or (values_of terms numbers) t 0) i ≡ true) ⊎ (bit (get_or (values_of terms numbers) t 0) i ≡ false) → ⊥
        by_bit zero one (inl e) = one (bit_holds D ops laws terms right numbers t i true cells h s.0.term s.0.within e all)
        by_bit zero one (inr e) = zero (bit_holds D ops laws terms right numbers t i false cells h s.0.term s.0.within e all)

  pub none_solves : (p : ProblemData) (tree : Tree) (numbers : List ℕ) → IsProblem p → Refutes ops p tree → IsAssignment p.terms numbers → solves p numbers ≡ true → ⊥
  none_solves p tree numbers h r i s =
      unheld p.terms h.terms numbers tree (root_cells ops p) (root_cells_are D ops laws p h) r.0 r.1 (root_holds D ops laws p numbers h i s)
