use Rattle.std.proofs.Common.{◌≡◌, ◌-◌, ◌<◌, length, drop}
use Rattle.std.specs.Prelude.{slice_index}
use Rattle.dt_model.specs.Flow.{steps_of}
use Rattle.dt_walk.specs.Meaning.{unbound}
use Rattle.dt_walk.specs.Walks.{walk_from, after}
use Rattle.dt_walk.specs.Walkers.{run_data}
use Rattle.dt_walk.specs.Sound.{AreValues}
use Rattle.dt_walk.specs.Env.{env_data}
use Rattle.dt_walk.specs.Room.{HasRoom, IsFilled}
use Rattle.dt_walk.proofs.walking.walk_over.Given as goal

abbrev pub invariant-loop-to : goal.invariant-loop-to
invariant-loop-to l = record {
  within : l.at < length l.nodes;
  values : AreValues l.env.names.vars.now l.vars;
  room : HasRoom (length l.nodes) l.run;
  filled : IsFilled l.at l.run;
  run : after (run_data l.run) (walk_from (env_data l.env) l.memory (drop l.at (steps_of l.nodes)) l.at l.at (slice_index l.vars)) ≡ walk_from (env_data l.env) l.memory (steps_of l.nodes) 0 0 unbound;
}

abbrev pub decreases-loop-to : goal.decreases-loop-to
decreases-loop-to l = length l.nodes - l.at
