use Rattle.std.proofs.Common.{◌≡◌, length, ap, sym, ◌∙◌, arith, subst}
use Rattle.std.specs.Prelude.{List}
use Rattle.dt_model.specs.declared.model.Named.{Named}
use Rattle.dt_model.specs.Accepted.{accepted_data}
use Rattle.dt_model.specs.ModelData.{ModelData}
use Rattle.dt_model.specs.Widths.{AreWidths}
use Rattle.dt_walk.specs.Sound.{AreValues}
use Rattle.dt_walk.proofs.Views.{Stands, stands, view_sound, view_walk}
use Rattle.dt_model.proofs.Accepting.{some_nodes, few_nodes, reg_widths, input_widths, var_widths}
use Rattle.dt_walk.proofs.Sound.{values_from, zero_values}
use Rattle.dt_walk.proofs.walker.Walker.fill.Goals as goal

holds : (c : goal.After-walk_over-arg-1) → Stands (accepted_data c.args.self.now.model.now) c.as_slice.result.now c.as_slice-2.result.now c.as_slice-3.result.now c.as_slice-4.result.now
holds c = stands c.model-m.result.now (accepted_data c.args.self.now.model.now) _ _ _ _ c.model-m.ensures.same c.as_slice.ensures c.as_slice-2.ensures c.as_slice-3.ensures c.as_slice-4.ensures

pub walk_over-requires-clause-sound : goal.walk_over-requires-clause-sound
walk_over-requires-clause-sound c = view_sound (accepted_data c.args.self.now.model.now) _ _ _ _ _ (holds c) c.requires.memory c.model-m.ensures.accepted c.model-m.ensures.arities

pub walk_over-requires-clause-some : goal.walk_over-requires-clause-some
walk_over-requires-clause-some c = omega (arith, some_nodes (accepted_data c.args.self.now.model.now) c.model-m.ensures.accepted, (holds c).count)

pub walk_over-requires-clause-few : goal.walk_over-requires-clause-few
walk_over-requires-clause-few c = omega (arith, few_nodes (accepted_data c.args.self.now.model.now) c.model-m.ensures.accepted, (holds c).count)

pub walk_over-requires-clause-regs : goal.walk_over-requires-clause-regs
walk_over-requires-clause-regs c =
    let d = accepted_data c.args.self.now.model.now in
    let e : c.as_slice.result.now ≡ d.regs = c.as_slice.ensures ∙ ap (λ (x : ModelData). x.regs) c.model-m.ensures.same in
    subst (λ (ns : List Named). AreValues ns c.args.regs.now) (sym e) (values_from d.regs c.args.regs.now (reg_widths d c.model-m.ensures.accepted) c.requires.regs)

pub walk_over-requires-clause-inputs : goal.walk_over-requires-clause-inputs
walk_over-requires-clause-inputs c =
    let d = accepted_data c.args.self.now.model.now in
    let e : c.as_slice-2.result.now ≡ d.inputs = c.as_slice-2.ensures ∙ ap (λ (x : ModelData). x.inputs) c.model-m.ensures.same in
    subst (λ (ns : List Named). AreValues ns c.args.inputs.now) (sym e) (values_from d.inputs c.args.inputs.now (input_widths d c.model-m.ensures.accepted) c.requires.inputs)

pub walk_over-requires-clause-vars : goal.walk_over-requires-clause-vars
walk_over-requires-clause-vars c =
    let d = accepted_data c.args.self.now.model.now in
    let e : c.as_slice-3.result.now ≡ d.vars = c.as_slice-3.ensures ∙ ap (λ (x : ModelData). x.vars) c.model-m.ensures.same in
    zero_values c.as_slice-3.result.now c.unbind.new.vars (subst AreWidths (sym e) (var_widths d c.model-m.ensures.accepted))
    (c.unbind.auto.vars ∙ ap length c.as_mut_slice-vars.ensures.value ∙ c.args.self.now.vars_len ∙ sym (ap length e))
    c.unbind.ensures

pub returns-clause-run : goal.returns-clause-run
returns-clause-run c =
    c.walk_over.ensures.run
    ∙ view_walk (accepted_data c.args.self.now.model.now) _ _ _ _ _ _ _ (stands c.model-m.result.now (accepted_data c.args.self.now.model.now) _ _ _ _ c.model-m.ensures.same c.as_slice.ensures c.as_slice-2.ensures c.as_slice-3.ensures c.as_slice-4.ensures)
