-- How a walk is asked to end.
use Rattle.std.specs.Prelude.{Bool}
use Rattle.dt_model.specs.ModelData.{ActData}
use Rattle.dt_ways.specs.Ends.{ends_done, ends_fault, ends_page}
use Rattle.dt_claims.specs.declared.ends.Ending.{Ending}
use Rattle.dt_claims.specs.declared.ends.Ending.TheVariants.{Result, Fault, Page}

-- a step by which the walk may end
abbrev pub passes : Ending → ActData → Bool
passes Result = ends_done
passes (Fault code) = ends_fault code
passes (Page exponent) = ends_page exponent
