-- What a search that settles nothing first may find.
use Rattle.std.specs.Prelude.{◌≡◌, ℕ, true, Option, List}
use Rattle.dt_terms.specs.Problem.{ProblemData}
use Rattle.dt_terms.specs.Values.{IsAssignment, solves}
use Rattle.dt_solve.specs.Searching.{AreAim}

-- the numbers solve the problem, and are the aim, where one that solves it is told
pub record IsEarly (p : ProblemData) (aim : Option (List ℕ)) (numbers : List ℕ) : Type 0 where
  pub assignment : IsAssignment p.terms numbers
  pub solves : solves p numbers ≡ true
  pub aimed : AreAim p aim numbers
