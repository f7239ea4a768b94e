use Rattle.std.proofs.Common.{◌≡◌, map, drop}
use Rattle.dt_build.specs.Building.{claimed}
use Rattle.dt_table.specs.Demands.{result_form}
use Rattle.dt_claims.specs.Tests.{test_form}
use Rattle.dt_claims.specs.Views.{sized}
use Rattle.dt_claims.proofs.numbers.require_result_tests.Given as goal

abbrev pub invariant-loop-page : goal.invariant-loop-page
invariant-loop-page l = claimed l.builder (map (result_form (test_form l.width l.test)) (map sized (drop l.page-index l.pages))) ≡ claimed l.initial.builder (map (result_form (test_form l.width l.test)) (map sized l.pages))
