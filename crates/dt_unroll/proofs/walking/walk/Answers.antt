use Rattle.std.proofs.Common.{◌+◌, drop, sym, subst, ◌∙◌}
use Rattle.dt_table.specs.Passing.{walk_placed}
use Rattle.dt_model.specs.Flow.{steps_of}
use Rattle.dt_unroll.specs.Fronts.{access_data, state_of}
use Rattle.dt_unroll.proofs.Walks.{Rest, rest_more}
use Rattle.dt_unroll.proofs.walking.walk.Goals as goal

pub loop-at-preserved : goal.loop-at-preserved
loop-at-preserved c =
    let a = access_data c.args.frame.now in
    let zero = c.args.frame.now.zero in
    let p = c.in_ok-out.ensures in
    record {
      whole = record {
        vars = p.goes.vars ∙ c.in_ok-note.ensures.vars ∙ c.loop-at.invariant.whole.vars;
        come = p.goes.come ∙ c.in_ok-note.ensures.come ∙ c.loop-at.invariant.whole.come;
      };
      required = p.goes.required ∙ c.in_ok-note.ensures.required ∙ c.loop-at.invariant.required;
      rest = subst (λ outs. Rest a (state_of c.pass.new.builder zero c.pass.new.front) (drop (c.loop-at.at + 1) (steps_of c.args.nodes.now)) (c.loop-at.at + 1) outs (walk_placed a (state_of c.args.builder.now zero c.args.front) (steps_of c.args.nodes.now) 0)) (sym c.in_ok-push.ensures.items)
          (rest_more a (state_of c.loop-at.builder zero c.loop-at.front) (state_of c.note.new.builder zero c.note.new.self) (state_of c.pass.new.builder zero c.pass.new.front) c.args.nodes.now c.loop-at.at c.index-nodes-at.result c.loop-at.outs.items c.in_ok-out.out _ c.loop-at-test.true c.index-nodes-at.is (c.in_ok-note.ensures.state zero) (p.goes.state zero) p.out c.loop-at.invariant.rest);
    }
