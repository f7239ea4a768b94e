use Rattle.std.proofs.Common.{◌≡◌, ◌++◌, List, ap, ◌∙◌}
use Rattle.dt_model.specs.declared.model.Named.{Named}
use Rattle.dt_model.specs.ModelData.{ModelData}
use Rattle.dt_model.specs.Accepted.{accepted_data}
use Rattle.dt_encode.specs.Widths.{name_widths}
use Rattle.dt_encode.proofs.Widths.{repeated_pushed}
use Rattle.dt_encode.proofs.choices.push_contexts.Goals as goal

pub loop-context-preserved : goal.loop-context-preserved
loop-context-preserved c =
    let regs : c.as_slice-regs.result.now ≡ (accepted_data c.args.model.now).regs = c.as_slice-regs.ensures ∙ ap (λ (d : ModelData). d.regs) c.model.ensures.same in
    let pushed : c.push_names.new.widths.items ≡ c.loop-context.widths.items ++ name_widths (accepted_data c.args.model.now).regs = c.in_ok-push_names.ensures ∙ ap (λ (ns : List Named). c.loop-context.widths.items ++ name_widths ns) regs in
    repeated_pushed (name_widths (accepted_data c.args.model.now).regs) c.args.widths.now.items c.loop-context.widths.items c.push_names.new.widths.items c.args.contexts.now c.loop-context._context-index c.loop-context-test.true c.loop-context.invariant pushed
