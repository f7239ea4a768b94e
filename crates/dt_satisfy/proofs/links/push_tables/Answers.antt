use Rattle.std.proofs.Common.{map}
use Rattle.dt_lemmas.proofs.Lists.{all_flat}
use Rattle.dt_model.specs.Flow.{steps_of}
use Rattle.dt_walk.specs.Walks.{RunData}
use Rattle.dt_walk.specs.Walkers.{run_data}
use Rattle.dt_satisfy.specs.Links.{table_of}
use Rattle.dt_satisfy.proofs.links.push_tables.Goals as goal

pub returns : goal.returns
returns c = all_flat (λ (r : RunData). map (table_of (steps_of c.args.nodes.now)) r.reads) run_data c.args.tables.now.items c.loop-run.tables.items c.args.runs.now c.loop-run.run-index c.loop-run-test.false c.loop-run.invariant
