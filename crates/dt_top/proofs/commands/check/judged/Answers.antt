use Rattle.dt_top.proofs.Commanded.{replies_closed, replies_open}
use Rattle.dt_top.proofs.commands.check.judged.Goals as goal

pub returns-in_ok-text-in-Closed : goal.returns-in_ok-text-in-Closed
returns-in_ok-text-in-Closed c =
    let log = c.args.log.now in
    let n = c.in-Closed.splits in
    let exact = c.in_ok-splits.ensures.closed n in
    replies_closed c.args.problem.now (log.claim, log.lines) n c.in_ok-text-in-Closed.text.items c.made.result (exact.0 c.in-Closed.is) c.in_ok-text-in-Closed.ensures c.made.ensures.status c.made.ensures.text

pub returns-in_ok-text-in-Unfinished : goal.returns-in_ok-text-in-Unfinished
returns-in_ok-text-in-Unfinished c =
    let log = c.args.log.now in
    let n = c.in-Unfinished.splits in
    let exact = c.in_ok-splits.ensures.unfinished n in
    replies_open c.args.problem.now (log.claim, log.lines) n c.in_ok-text-in-Unfinished.text.items c.made-in-Unfinished.result (exact.0 c.in-Unfinished.is) c.in_ok-text-in-Unfinished.ensures c.made-in-Unfinished.ensures.status c.made-in-Unfinished.ensures.text
