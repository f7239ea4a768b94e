use Rattle.std.proofs.Common.{◌≡◌, ◌++◌, map}
use Rattle.dt_model.specs.Flow.{steps_of}
use Rattle.dt_table.specs.Apart.{pages_at}
use Rattle.dt_claims.specs.Views.{sized}
use Rattle.dt_claims.proofs.sized.push_pages_among.Given as goal

abbrev pub invariant-loop-node : goal.invariant-loop-node
invariant-loop-node l = map sized l.pages.items ++ pages_at (steps_of l.node-iterator.a.rest.now) l.node-iterator.b.rest.now ≡ map sized l.initial.pages.items ++ pages_at (steps_of l.nodes) l.outs
