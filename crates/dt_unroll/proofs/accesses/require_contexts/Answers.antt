use Rattle.std.proofs.Common.{◌*◌, ap, ◌∙◌}
use Rattle.dt_model.specs.Accepted.{accepted_data}
use Rattle.dt_unroll.proofs.Whole.{contexts_more}
use Rattle.dt_unroll.proofs.accesses.require_contexts.Goals as goal

pub loop-context-preserved : goal.loop-context-preserved
loop-context-preserved c =
    contexts_more (accepted_data c.args.model.now) c.loop-context.builder c.require_context.new.builder c.args.contexts c.loop-context.context c.in_ok-regs.regs _ c.loop-context-test.true c.in_ok-require_context.ensures
    (c.in_ok-regs.ensures.value ∙ ap (λ n. c.loop-context.context * n) c.requires) c.loop-context.invariant
