use Rattle.std.proofs.Common.{eqb, ap, ◌∙◌}
use Rattle.std.specs.Prelude.{[], IsSome}
use Rattle.dt_model.specs.Widths.{tree_width}
use Rattle.dt_bits.specs.declared.value.Bv.{Bv}
use Rattle.dt_model.specs.Accepted.{accepted_data}
use Rattle.dt_model.specs.ModelData.{ModelData, tree_of}
use Rattle.dt_model.proofs.Accepting.{reg_widths}
use Rattle.dt_walk.proofs.Sound.{context_rule}
use Rattle.dt_walk.proofs.Rules.{values_at, context_width, context_value}
use Rattle.dt_walk.proofs.rule.context_rule_holds.Goals as goal

pub value-v-requires-clause-arities : goal.value-v-requires-clause-arities
value-v-requires-clause-arities c = (context_rule (accepted_data c.args.model.now) (tree_of c.args.rule.now) c.model-m.ensures.accepted c.model-m.ensures.arities c.requires.rule).arities

pub value-v-requires-clause-width : goal.value-v-requires-clause-width
value-v-requires-clause-width c =
    let d = accepted_data c.args.model.now in
    (context_width d (tree_of c.args.rule.now) c.as_slice.result.now (c.as_slice.ensures ∙ ap (λ (x : ModelData). x.regs) c.model-m.ensures.same) (context_rule d (tree_of c.args.rule.now) c.model-m.ensures.accepted c.model-m.ensures.arities c.requires.rule)).width

pub value-v-requires-clause-regs : goal.value-v-requires-clause-regs
value-v-requires-clause-regs c =
    let d = accepted_data c.args.model.now in
    values_at c.as_slice.result.now d.regs c.args.regs.now (c.as_slice.ensures ∙ ap (λ (x : ModelData). x.regs) c.model-m.ensures.same) (reg_widths d c.model-m.ensures.accepted) c.requires.regs

width : (c : goal.After-struct_known-1) → IsSome (tree_width (record { regs = c.as_slice.result.now; inputs = []; vars = [] }) (tree_of c.args.rule.now))
width c =
    let d = accepted_data c.args.model.now in
    (context_width d (tree_of c.args.rule.now) c.as_slice.result.now (c.as_slice.ensures ∙ ap (λ (x : ModelData). x.regs) c.model-m.ensures.same) (context_rule d (tree_of c.args.rule.now) c.model-m.ensures.accepted c.model-m.ensures.arities c.requires.rule)).width

pub returns : goal.returns
returns c =
    ap (λ (v : Bv). eqb v.bits 1) c.value-v.ensures.value
    ∙ context_value (accepted_data c.args.model.now) (tree_of c.args.rule.now) c.as_slice.result.now c.args.regs.now (c.as_slice.ensures ∙ ap (λ (x : ModelData). x.regs) c.model-m.ensures.same) (width c)
