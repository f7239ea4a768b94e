-- Steps forget nothing: a known bit stays known, and an empty cell stays empty.
use Rattle.std.proofs.Common.{◌≡◌, ℕ, ◌<◌, Bool, true, false, List, length, refl, sym, ap, ◌∙◌, subst, inl, inr, ◌⊎◌, arith}
use Rattle.std.proofs.lemmas.Bool.{false≢true}
use Rattle.dt_domain.specs.Domain.{DomainOps, DomainLaws, DecidingLaws, KnowsBit, bits_of}
use Rattle.dt_terms.specs.declared.term.Term.{Term}
use Rattle.dt_terms.specs.Terms.{bits_at, AreTerms}
use Rattle.dt_box.specs.declared.step.Step.{Step}
use Rattle.dt_box.specs.Cells.{cell_at, AreCells}
use Rattle.dt_box.specs.Steps.{IsStep, target, propagated, narrowed, after_step, after_bit}
use Rattle.dt_box.proofs.Steps.{step_alike, step_narrows, at_set}

module _ (D : Type 0) (ops : DomainOps D) (laws : DomainLaws ops) (terms : List Term) (right : AreTerms terms) where
  -- where the target's cell isn't empty after the step, each bit that a cell knew it knows
  pub step_keeps : (s : Step) (cells : List D) (t i : ℕ) (v : Bool) → AreCells ops terms cells → IsStep terms s → ops.is_empty (narrowed ops terms s cells) ≡ false
      → KnowsBit ops (cell_at ops cells t) i v → KnowsBit ops (cell_at ops (after_step ops terms s cells) t) i v
  step_keeps s cells t i v h m e k =
      let n = step_narrows D ops laws terms right s cells h m in
      let a = step_alike D ops laws terms right s cells h m in
      at_set D ops laws terms right cells (target terms s) t (narrowed ops terms s cells) (λ d. KnowsBit ops d i v) (omega (arith, h.count, n.within))
      (λ f. laws.meet_knows (cell_at ops cells (target terms s)) (propagated ops terms s cells) i v a e (inl (subst (λ u. KnowsBit ops (cell_at ops cells u) i v) f k)))
      (λ _. k)

  -- an empty cell is empty after a step
  pub step_empty : (s : Step) (cells : List D) (t : ℕ) → AreCells ops terms cells → IsStep terms s → ops.is_empty (cell_at ops cells t) ≡ true
      → ops.is_empty (cell_at ops (after_step ops terms s cells) t) ≡ true
  step_empty s cells t h m e =
      let n = step_narrows D ops laws terms right s cells h m in
      let a = step_alike D ops laws terms right s cells h m in
      at_set D ops laws terms right cells (target terms s) t (narrowed ops terms s cells) (λ d. ops.is_empty d ≡ true) (omega (arith, h.count, n.within))
      (λ f. laws.meet_empty (cell_at ops cells (target terms s)) (propagated ops terms s cells) a (inl (subst (λ u. ops.is_empty (cell_at ops cells u) ≡ true) f e)))
      (λ _. e)

  -- over a deciding domain, a bit that was set is known, and each bit that a cell knew, unless the
  -- cell is empty
  pub bit_decides : (decides : DecidingLaws ops) (t i : ℕ) (v : Bool) (cells : List D) → AreCells ops terms cells → t < length terms → i < bits_at terms t
      → ops.is_empty (ops.with_bit (cell_at ops cells t) i v) ≡ false
      → KnowsBit ops (cell_at ops (after_bit ops t i v cells) t) i v
      × ((u j : ℕ) (w : Bool) → KnowsBit ops (cell_at ops cells u) j w → KnowsBit ops (cell_at ops (after_bit ops t i v cells) u) j w)
  bit_decides decides t i v cells h l m e =
      let b : i < bits_of ops (cell_at ops cells t) = omega (arith, ap (λ w. w.0) (h.widths t l)) in
      let d = decided (decides.with_bit_decides (cell_at ops cells t) i v (h.domains t l) b) in
      let n : t < length cells = omega (arith, h.count) in (
        at_set D ops laws terms right cells t t (ops.with_bit (cell_at ops cells t) i v) (λ c. KnowsBit ops c i v) n (λ _. d.0) (λ f. absurd (f refl)),
        λ u j w k.
            at_set D ops laws terms right cells t u (ops.with_bit (cell_at ops cells t) i v) (λ c. KnowsBit ops c j w) n
            (λ f. d.1 j w (subst (λ x. KnowsBit ops (cell_at ops cells x) j w) f k))
            (λ _. k),
      )
    where
      decided : (ops.is_empty (ops.with_bit (cell_at ops cells t) i v) ≡ true)
          ⊎ (KnowsBit ops (ops.with_bit (cell_at ops cells t) i v) i v
          × ((j : ℕ) (u : Bool) → KnowsBit ops (cell_at ops cells t) j u → KnowsBit ops (ops.with_bit (cell_at ops cells t) i v) j u))
          → KnowsBit ops (ops.with_bit (cell_at ops cells t) i v) i v
          × ((j : ℕ) (u : Bool) → KnowsBit ops (cell_at ops cells t) j u → KnowsBit ops (ops.with_bit (cell_at ops cells t) i v) j u)
      decided (inl f) = absurd (false≢true (sym e ∙ f))
      decided (inr k) = k
