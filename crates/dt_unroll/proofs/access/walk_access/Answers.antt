use Rattle.std.proofs.Common.{◌+◌, ap, ◌∙◌, sym, subst, arith}
use Rattle.dt_model.specs.Accepted.{accepted_data}
use Rattle.dt_model.specs.ModelData.{ModelData}
use Rattle.dt_model.specs.Widths.{AreWidths}
use Rattle.dt_model.proofs.Accepting.{some_nodes, accepted_address, var_widths}
use Rattle.dt_walk.proofs.Views.{stands, view_sound}
use Rattle.dt_table.specs.Passing.{Walked}
use Rattle.dt_unroll.specs.Building.{walk_at}
use Rattle.dt_unroll.proofs.Whole.{access_same, walk_same, ok_is}
use Rattle.dt_unroll.proofs.access.walk_access.Goals as goal

pub new-requires : goal.new-requires
new-requires c =
    let d = accepted_data c.args.model.now in
    let s = stands c.model-m.result.now d _ _ _ _ c.model-m.ensures.same c.as_slice.ensures c.as_slice-2.ensures c.as_slice-3.ensures c.as_slice-nodes.ensures in
    omega (arith, some_nodes d c.model-m.ensures.accepted, s.count)

pub walk-requires-clause-frame : goal.walk-requires-clause-frame
walk-requires-clause-frame c =
    let d = accepted_data c.args.model.now in
    let a = accepted_address d c.model-m.ensures.accepted in
    let e = ap (λ (x : ModelData). x.address) c.model-m.ensures.same in
    record {
      some_address = omega (arith, a.0, e);
      address = omega (arith, a.1, e);
      widths = subst AreWidths (sym (c.as_slice-3.ensures ∙ ap (λ (x : ModelData). x.vars) c.model-m.ensures.same)) (var_widths d c.model-m.ensures.accepted);
    }

pub walk-requires-clause-sound : goal.walk-requires-clause-sound
walk-requires-clause-sound c =
    let d = accepted_data c.args.model.now in
    let s = stands c.model-m.result.now d _ _ _ _ c.model-m.ensures.same c.as_slice.ensures c.as_slice-2.ensures c.as_slice-3.ensures c.as_slice-nodes.ensures in
    view_sound d _ _ _ _ _ s (sym (ap (λ (x : ModelData). x.word) c.model-m.ensures.same)) c.model-m.ensures.accepted c.model-m.ensures.arities

pub returns-clause-outs : goal.returns-clause-outs
returns-clause-outs c =
    let d = accepted_data c.args.model.now in
    let same = c.model-m.ensures.same in
    let s = stands c.model-m.result.now d _ _ _ _ same c.as_slice.ensures c.as_slice-2.ensures c.as_slice-3.ensures c.as_slice-nodes.ensures in
    let a = access_same d c.args.requests.now _ _ _ c.args.regs c.args.inputs _ _ s.scope (ap (λ (x : ModelData). x.word) same) (ap (λ (x : ModelData). x.address) same) c.requires.zero_term c.requires.one_term in
    let w = walk_same d c.args.requests.now _ _ c.args.builder.now.terms _ _ c.args.regs c.args.inputs a (c.in_ok-front.ensures.state c.args.builder.now) (c.in_ok-word.ensures.value ∙ ap (λ n. c.args.inputs + n) c.requires.inputs) s.steps in
    ok_is c.walk.result (λ v. v.items) _ (walk_at d c.args.requests.now c.args.regs c.args.inputs c.args.builder.now.terms).outs (ap (λ (x : Walked). x.outs) w) c.walk.ensures.outs

pub returns-clause-terms : goal.returns-clause-terms
returns-clause-terms c =
    let d = accepted_data c.args.model.now in
    let same = c.model-m.ensures.same in
    let s = stands c.model-m.result.now d _ _ _ _ same c.as_slice.ensures c.as_slice-2.ensures c.as_slice-3.ensures c.as_slice-nodes.ensures in
    let a = access_same d c.args.requests.now _ _ _ c.args.regs c.args.inputs _ _ s.scope (ap (λ (x : ModelData). x.word) same) (ap (λ (x : ModelData). x.address) same) c.requires.zero_term c.requires.one_term in
    let w = walk_same d c.args.requests.now _ _ c.args.builder.now.terms _ _ c.args.regs c.args.inputs a (c.in_ok-front.ensures.state c.args.builder.now) (c.in_ok-word.ensures.value ∙ ap (λ n. c.args.inputs + n) c.requires.inputs) s.steps in
    ok_is c.walk.result (λ _. c.walk.new.builder.terms) _ (walk_at d c.args.requests.now c.args.regs c.args.inputs c.args.builder.now.terms).terms (ap (λ (x : Walked). x.terms) w) c.walk.ensures.terms
