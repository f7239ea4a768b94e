use Rattle.std.proofs.Common.{◌≡◌, drop}
use Rattle.dt_build.specs.Building.{claimed}
use Rattle.dt_table.specs.Unlike.{unlike_forms}
use Rattle.dt_claims.specs.Views.{access_of}
use Rattle.dt_claims.proofs.unlike.require_unlikes.Given as goal

abbrev pub invariant-loop-words : goal.invariant-loop-words
invariant-loop-words l = claimed l.builder (unlike_forms (access_of l.places) (drop l.words-index l.found)) ≡ claimed l.initial.builder (unlike_forms (access_of l.places) l.found)
