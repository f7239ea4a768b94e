-- What is tried at an item of a log: a value for each choice.
use Rattle.std.specs.Prelude.{◌≡◌, ℕ, ◌<◌, false, List, [], ◌∷◌, length, map, slice_index, slice_set, unwrap_or}
use Rattle.std.specs.List.{AllByRecursion}
use Rattle.dt_domain.specs.Domain.{DomainOps, Holds}
use Rattle.dt_terms.specs.declared.term.Term.{Term}
use Rattle.dt_terms.specs.Terms.{choices_of}
use Rattle.dt_terms.specs.Problem.{ProblemData}
use Rattle.dt_terms.specs.Values.{solves}
use Rattle.dt_box.specs.Cells.{cell_at}
use Rattle.dt_box.specs.Stillness.{IsSettled}

-- the cell of a choice, by the choice's number
abbrev pub choice_cell : {D : Type 0} → DomainOps D → List Term → List D → ℕ → D
choice_cell ops terms cells k = cell_at ops cells (slice_index (choices_of terms) k)

-- the number that a choice has where nothing else is tried
abbrev pub pick_at : {D : Type 0} → DomainOps D → List D → ℕ → ℕ
pick_at ops cells t = unwrap_or (ops.pick (cell_at ops cells t)) 0

abbrev pub picks : {D : Type 0} → DomainOps D → List Term → List D → List ℕ
picks ops terms cells = map (pick_at ops cells) (choices_of terms)

-- these numbers, with each tried value in its choice's place; the last one for a choice stands
unfoldable pub with_tries : List ℕ → List (ℕ × ℕ) → List ℕ
with_tries numbers [] = numbers
with_tries numbers (try ∷ tries) = with_tries (slice_set numbers try.0 try.1) tries

-- the assignment that is tried: for each choice the value of the last pair that names it, else the
-- pick of its cell
abbrev pub tried : {D : Type 0} → DomainOps D → List Term → List D → List (ℕ × ℕ) → List ℕ
tried ops terms cells tries = with_tries (picks ops terms cells) tries

-- a pair names a choice, and a number that the choice's cell holds
abbrev pub IsTry : {D : Type 0} → DomainOps D → List Term → List D → ℕ × ℕ → Type 0
IsTry ops terms cells try =
    (try.0 < length (choices_of terms)) × Holds ops (choice_cell ops terms cells try.0) try.1

-- the cells are settled, what is tried is held, and it doesn't solve the problem
pub record IsFailedTrial {D : Type 0} (ops : DomainOps D) (p : ProblemData) (cells : List D) (tries : List (ℕ × ℕ)) : Type 0 where
  pub settled : IsSettled ops p.terms cells
  pub held : AllByRecursion (IsTry ops p.terms cells) tries
  pub fails : solves p (tried ops p.terms cells tries) ≡ false

-- the numbers hold: each the number of a choice that the choice's cell holds
pub record HoldChoices {D : Type 0} (ops : DomainOps D) (terms : List Term) (cells : List D) (numbers : List ℕ) : Type 0 where
  pub count : length numbers ≡ length (choices_of terms)
  pub each : (k : ℕ) → k < length (choices_of terms) → Holds ops (choice_cell ops terms cells k) (slice_index numbers k)
