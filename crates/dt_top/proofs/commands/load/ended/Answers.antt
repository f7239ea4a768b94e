use Rattle.std.proofs.Common.{rules, subst, sym}
use Rattle.dt_model.specs.Accepted.{accepted_data}
use Rattle.dt_top.proofs.Loaded.{fails_for_memory}
use Rattle.dt_top.proofs.commands.load.ended.Goals as goal

pub returns-in_err-encoded-clause-cause : goal.returns-in_err-encoded-clause-cause
returns-in_err-encoded-clause-cause c =
    let k = fails_for_memory (accepted_data c.in_ok-model.model) c.args.n c.in_ok-list.list c.in_err-encoded.field-0.0 c.in_ok-model.ensures.same c.in_ok-list.ensures.list c.requires c.in_err-encoded.ensures.cause in
    search (k, rules)
