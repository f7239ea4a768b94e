use Rattle.std.proofs.Common.{◌≡◌, length, drop}
use Rattle.dt_model.specs.Flow.{steps_of}
use Rattle.dt_table.specs.Passing.{walk_placed}
use Rattle.dt_unroll.specs.Fronts.{access_data, state_of, IsWhole}
use Rattle.dt_unroll.proofs.Walks.{Rest}
use Rattle.dt_unroll.proofs.walking.walk.Given as goal

abbrev pub invariant-loop-at : goal.invariant-loop-at
invariant-loop-at l = record {
  whole : IsWhole l.frame (length l.nodes) l.front;
  required : l.builder.required ≡ l.initial.builder.required;
  rest : Rest (access_data l.frame) (state_of l.builder l.frame.zero l.front) (drop l.at (steps_of l.nodes)) l.at l.outs.items (walk_placed (access_data l.frame) (state_of l.initial.builder l.frame.zero l.initial.front) (steps_of l.nodes) 0);
}
