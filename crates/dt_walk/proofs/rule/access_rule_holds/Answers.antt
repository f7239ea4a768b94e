use Rattle.std.proofs.Common.{eqb, ap, ◌∙◌}
use Rattle.std.specs.Prelude.{[], IsSome}
use Rattle.dt_model.specs.Widths.{tree_width}
use Rattle.dt_bits.specs.declared.value.Bv.{Bv}
use Rattle.dt_model.specs.Accepted.{accepted_data}
use Rattle.dt_model.specs.ModelData.{ModelData, tree_of}
use Rattle.dt_model.proofs.Accepting.{reg_widths, input_widths}
use Rattle.dt_walk.proofs.Sound.{access_rule}
use Rattle.dt_walk.proofs.Rules.{values_at, access_width, access_value}
use Rattle.dt_walk.proofs.rule.access_rule_holds.Goals as goal

pub value-truth-requires-clause-arities : goal.value-truth-requires-clause-arities
value-truth-requires-clause-arities c = (access_rule (accepted_data c.args.model.now) (tree_of c.args.rule.now) c.model-m.ensures.accepted c.model-m.ensures.arities c.requires.rule).arities

pub value-truth-requires-clause-width : goal.value-truth-requires-clause-width
value-truth-requires-clause-width c =
    let d = accepted_data c.args.model.now in
    (access_width d (tree_of c.args.rule.now) c.as_slice.result.now c.as_slice-2.result.now (c.as_slice.ensures ∙ ap (λ (x : ModelData). x.regs) c.model-m.ensures.same) (c.as_slice-2.ensures ∙ ap (λ (x : ModelData). x.inputs) c.model-m.ensures.same) (access_rule d (tree_of c.args.rule.now) c.model-m.ensures.accepted c.model-m.ensures.arities c.requires.rule)).width

pub value-truth-requires-clause-regs : goal.value-truth-requires-clause-regs
value-truth-requires-clause-regs c =
    let d = accepted_data c.args.model.now in
    values_at c.as_slice.result.now d.regs c.args.regs.now (c.as_slice.ensures ∙ ap (λ (x : ModelData). x.regs) c.model-m.ensures.same) (reg_widths d c.model-m.ensures.accepted) c.requires.regs

pub value-truth-requires-clause-inputs : goal.value-truth-requires-clause-inputs
value-truth-requires-clause-inputs c =
    let d = accepted_data c.args.model.now in
    values_at c.as_slice-2.result.now d.inputs c.args.inputs.now (c.as_slice-2.ensures ∙ ap (λ (x : ModelData). x.inputs) c.model-m.ensures.same) (input_widths d c.model-m.ensures.accepted) c.requires.inputs

width : (c : goal.After-struct_known-1) → IsSome (tree_width (record { regs = c.as_slice.result.now; inputs = c.as_slice-2.result.now; vars = [] }) (tree_of c.args.rule.now))
width c =
    let d = accepted_data c.args.model.now in
    (access_width d (tree_of c.args.rule.now) c.as_slice.result.now c.as_slice-2.result.now (c.as_slice.ensures ∙ ap (λ (x : ModelData). x.regs) c.model-m.ensures.same) (c.as_slice-2.ensures ∙ ap (λ (x : ModelData). x.inputs) c.model-m.ensures.same) (access_rule d (tree_of c.args.rule.now) c.model-m.ensures.accepted c.model-m.ensures.arities c.requires.rule)).width

pub returns : goal.returns
returns c =
    ap (λ (v : Bv). eqb v.bits 1) c.value-truth.ensures.value
    ∙ access_value (accepted_data c.args.model.now) (tree_of c.args.rule.now) c.as_slice.result.now c.as_slice-2.result.now c.args.regs.now c.args.inputs.now (c.as_slice.ensures ∙ ap (λ (x : ModelData). x.regs) c.model-m.ensures.same) (c.as_slice-2.ensures ∙ ap (λ (x : ModelData). x.inputs) c.model-m.ensures.same) (width c)
