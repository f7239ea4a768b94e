-- What is kept between the assignments that are tried: the numbers of the choices, and which of them may
-- not be the picks of their cells.
use Rattle.std.specs.Prelude.{◌≡◌, ℕ, ◌<◌, ◌≤◌, Bool, true, false, ◌⊎◌, List, length, slice_index, slice_index_or}
use Rattle.dt_domain.specs.Domain.{DomainOps}
use Rattle.dt_terms.specs.declared.term.Term.{Term}
use Rattle.dt_terms.specs.Terms.{term_at, is_choice}
use Rattle.dt_box.specs.Trails.{back}
use Rattle.dt_box.specs.Watching.{watches_of}
use Rattle.dt_check.specs.Trials.{pick_at}
use Rattle.dt_check.specs.Evaluating.{AreSeenTo, IsEvaluated}
use Rattle.dt_check.specs.Noting.{AreChoices}
use Rattle.dt_check.specs.declared.trial.Trial.{Trial}

-- only choices are marked, and each other choice has the pick of its cell as its value
pub record ArePicked {D : Type 0} (ops : DomainOps D) (terms : List Term) (cells : List D) (marks : List Bool) (values : List ℕ) : Type 0 where
  pub count : length marks ≡ length terms
  pub choices : (t : ℕ) → slice_index_or marks t false ≡ true → is_choice (term_at terms t) ≡ true
  pub each : (t : ℕ) → t < length terms → is_choice (term_at terms t) ≡ true
      → (slice_index_or marks t false ≡ true) ⊎ (slice_index values t ≡ pick_at ops cells t)

-- it was made for these terms, and may get numbers: each choice that isn't marked has the pick of its
-- cell
pub record IsTrying {D : Type 0} (ops : DomainOps D) (terms : List Term) (cells : List D) (trial : Trial) : Type 0 where
  pub watches : trial.watches ≡ watches_of terms
  pub seen_to : AreSeenTo terms trial.evaluation.values.items trial.evaluation.marks.marks.items
  pub picked : ArePicked ops terms cells trial.changed.marks.items trial.evaluation.values.items

-- it was made for these terms, whose values it keeps up, and follows the cells: each choice that isn't
-- marked has the pick of its cell of the time when the trail had as many pairs as it knows of
pub record IsTrial {D : Type 0} (ops : DomainOps D) (terms : List Term) (cells : List D) (trail : List (ℕ × D)) (trial : Trial) : Type 0 where
  pub watches : trial.watches ≡ watches_of terms
  pub evaluated : IsEvaluated terms trial.evaluation
  pub seen : trial.seen ≤ length trail
  pub picked : ArePicked ops terms (back cells trail trial.seen) trial.changed.marks.items trial.evaluation.values.items

-- it was just made for these terms: all choices are marked
pub record IsNew (terms : List Term) (trial : Trial) : Type 0 where
  pub watches : trial.watches ≡ watches_of terms
  pub evaluated : IsEvaluated terms trial.evaluation
  pub seen : trial.seen ≡ 0
  pub marked : AreChoices terms (length terms) trial.changed.marks.items
