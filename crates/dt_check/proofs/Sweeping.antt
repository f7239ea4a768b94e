-- What a sweep finds.
use Rattle.std.proofs.Common.{◌≡◌, ◌<◌, ℕ, Bool, true, false, List, length, sym, ◌∙◌}
use Rattle.std.proofs.lemmas.Bool.{true≢false, false_from_ne_true}
use Rattle.dt_lemmas.proofs.Booleans.{same_test}
use Rattle.dt_domain.specs.Domain.{DomainOps}
use Rattle.dt_terms.specs.declared.term.Term.{Term}
use Rattle.dt_box.specs.declared.step.Step.{Step}
use Rattle.dt_box.specs.Cells.{cell_at}
use Rattle.dt_box.specs.Stillness.{TellsNew, IsSettled}
use Rattle.dt_check.specs.Tests.{is_settled}
use Rattle.dt_check.proofs.Testing.{settled_is, settled_test}

module _ (D : Type 0) (ops : DomainOps D) (terms : List Term) (cells : List D) (n : length cells ≡ length terms) where
  pub some_empty : (t : ℕ) → t < length cells → ops.is_empty (cell_at ops cells t) ≡ true → false ≡ is_settled ops terms cells
  some_empty t l e = sym (false_from_ne_true (is_settled ops terms cells) (λ s. true≢false (sym e ∙ (settled_is D ops terms cells n s).held t l)))

  pub some_step : (s : Step) → TellsNew ops terms s cells → false ≡ is_settled ops terms cells
  some_step s h = sym (false_from_ne_true (is_settled ops terms cells) (λ e. true≢false (sym h.1 ∙ (settled_is D ops terms cells n e).still s h.0)))

  -- a test that passes exactly where the cells are settled
  pub settled_exactly : (b : Bool) → (b ≡ true → IsSettled ops terms cells) → (IsSettled ops terms cells → b ≡ true) → b ≡ is_settled ops terms cells
  settled_exactly b f h = same_test b (is_settled ops terms cells) (λ e. settled_test D ops terms cells n (f e)) (λ e. h (settled_is D ops terms cells n e))
