use Rattle.std.proofs.Common.{◌≡◌, arith, append_assoc}
use Rattle.dt_log.specs.Print.{printed}
use Rattle.dt_log.proofs.Printed.{printed_is}
use Rattle.dt_log.proofs.RoundTrip.{reads_back}
use Rattle.dt_log.proofs.print.print_log.Goals as goal

pub returns-clause-reads_back : goal.returns-clause-reads_back
returns-clause-reads_back c =
    let log = c.args.log.now in
    let text : c.push_row.new.out.items ≡ printed (log.claim, log.lines) = grind (arith, printed_is, append_assoc) in
    rw text (reads_back log.claim log.lines c.push_claim.ensures.small c.in_ok-push_lines.ensures.small log.tree)
