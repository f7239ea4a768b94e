use Rattle.std.proofs.lemmas.Result.{on_ok_weaker}
use Rattle.dt_table.specs.Passing.{join}
use Rattle.dt_unroll.proofs.Steps.{goes_then}
use Rattle.dt_unroll.proofs.front.Front.part.Goals as goal

pub returns : goal.returns
returns c = on_ok_weaker c.join-2.result (goes_then (λ s. join s c.args.sides.then_to c.args.edges.by_then) (λ s. join s c.args.sides.other c.args.edges.by_other) _ _ _ _ _ _ c.in_ok-join.ensures) c.join-2.ensures
