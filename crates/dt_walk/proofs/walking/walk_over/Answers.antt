use Rattle.std.proofs.Common.{◌+◌, ◌≤◌, drop, get_or, refl, ap, ◌∙◌, sym, arith}
use Rattle.std.specs.Prelude.{slice_index}
use Rattle.dt_model.specs.ModelData.{act_of}
use Rattle.dt_model.specs.Flow.{steps_of}
use Rattle.dt_model.proofs.Nodes.{step_at}
use Rattle.dt_walk.specs.Walks.{RunData, walk_from, after}
use Rattle.dt_walk.specs.Walkers.{run_data}
use Rattle.dt_walk.specs.Env.{env_data}
use Rattle.dt_walk.proofs.Walks.{here, skip, length_steps}
use Rattle.dt_walk.proofs.walking.walk_over.Goals as goal

pub loop-to-preserved : goal.loop-to-preserved
loop-to-preserved c =
    let s = env_data c.args.env.now in
    let m = c.args.memory.now in
    let steps = steps_of c.args.nodes.now in
    let at = c.loop-to.at in
    let node = get_or c.args.nodes.now at c.index-nodes-at.result in
    let to = c.in-Go.to in
    let next : at + 1 ≤ to = omega (arith, c.in-Go.ensures.next.0) in
    record {
      within = c.in-Go.ensures.next.1;
      values = c.in-Go.ensures.vars;
      room = c.in-Go.ensures.room;
      filled = record {
        path = omega (arith, next, c.in-Go.ensures.filled.path);
        sides = omega (arith, next, c.in-Go.ensures.filled.sides);
        reads = omega (arith, next, c.in-Go.ensures.filled.reads);
      };
      run =
          ap (λ (r : RunData). after (run_data c.step.new.run) r) (sym (skip s m steps (at + 1) to (slice_index c.step.new.vars) next (omega (arith, c.in-Go.ensures.next.1, length_steps c.args.nodes.now))))
          ∙ sym (c.in-Go.ensures.value (walk_from s m (drop (at + 1) steps) (at + 1)))
          ∙ ap (after (run_data c.loop-to.run)) (sym (here s m steps at (act_of node.act) (slice_index c.loop-to.vars) (step_at c.args.nodes.now at node c.index-nodes-at.result c.loop-to.invariant.within refl)))
          ∙ c.loop-to.invariant.run;
    }

pub returns-in-End-clause-run : goal.returns-in-End-clause-run
returns-in-End-clause-run c =
    let s = env_data c.args.env.now in
    let m = c.args.memory.now in
    let steps = steps_of c.args.nodes.now in
    let at = c.loop-to.at in
    let node = get_or c.args.nodes.now at c.index-nodes-at.result in
    sym (c.in-End.ensures.value (walk_from s m (drop (at + 1) steps) (at + 1)))
    ∙ ap (after (run_data c.loop-to.run)) (sym (here s m steps at (act_of node.act) (slice_index c.loop-to.vars) (step_at c.args.nodes.now at node c.index-nodes-at.result c.loop-to.invariant.within refl)))
    ∙ c.loop-to.invariant.run
