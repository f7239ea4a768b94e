use Rattle.std.proofs.Common.{[], ap, ◌∙◌, map}
use Rattle.dt_lemmas.proofs.Lists.{all_pushed}
use Rattle.dt_model.specs.Accepted.{accepted_data}
use Rattle.dt_model.specs.ModelData.{ModelData, tree_of}
use Rattle.dt_walk.specs.Meaning.{rule_holds}
use Rattle.dt_satisfy.proofs.rules.push_context.Goals as goal

pub returns : goal.returns
returns c =
    let d = accepted_data c.args.model.now in
    all_pushed (rule_holds d c.args.regs.now []) tree_of _ _ c.as_slice-rules.result.now d.legal_context c.loop-rule.rule-index c.loop-rule-test.false
    (ap (map tree_of) c.as_slice-rules.ensures ∙ ap (λ (x : ModelData). x.legal_context) c.model.ensures.same)
    c.loop-rule.invariant
