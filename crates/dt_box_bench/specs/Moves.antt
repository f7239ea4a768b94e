-- What may be done to the cells of a problem.
use Rattle.std.specs.Prelude.{◌<◌, List, length}
use Rattle.dt_terms.specs.declared.term.Term.{Term}
use Rattle.dt_terms.specs.Terms.{bits_at}
use Rattle.dt_box.specs.Steps.{IsStep}
use Rattle.dt_box_bench.specs.declared.moves.Move.{Move}
use Rattle.dt_box_bench.specs.declared.moves.Move.TheVariants.{Take, Set}

-- a step of the problem with these terms, or a bit that one of them has
abbrev pub IsMove : List Term → Move → Type 0
IsMove terms (Take step) = IsStep terms step
IsMove terms (Set t i v) = (t < length terms) × (i < bits_at terms t)
