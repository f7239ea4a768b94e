use Rattle.std.proofs.Common.{ap, ◌∙◌}
use Rattle.std.proofs.lemmas.Result.{on_ok_weaker}
use Rattle.dt_model.specs.Accepted.{accepted_data}
use Rattle.dt_build.specs.Building.{demanded}
use Rattle.dt_unroll.proofs.Ruled.{context_rules_are, context_forms}
use Rattle.dt_unroll.proofs.rules.require_context.Goals as goal

pub require_rules-requires-clause-rules : goal.require_rules-requires-clause-rules
require_rules-requires-clause-rules c = context_rules_are (accepted_data c.args.model.now) c.model-m.result.now c.as_slice.result.now c.as_slice-2.result.now c.model-m.ensures.same c.model-m.ensures.accepted c.model-m.ensures.arities c.as_slice.ensures c.as_slice-2.ensures

pub returns : goal.returns
returns c =
    on_ok_weaker c.require_rules.result (λ h. h ∙ ap (demanded c.args.builder.now) (context_forms (accepted_data c.args.model.now) c.model-m.result.now c.as_slice.result.now c.as_slice-2.result.now c.args.regs c.model-m.ensures.same c.as_slice.ensures c.as_slice-2.ensures)) c.require_rules.ensures
