use Rattle.std.proofs.Common.{subst}
use Rattle.dt_terms.specs.Problem.{IsProblem}
use Rattle.dt_check.proofs.Loop.{closed_is, is_closed, unfinished_is, is_unfinished, refuted_has_none}
use Rattle.dt_check.proofs.check.check_log.Goals as goal

pub returns-in-Ok-clause-closed : goal.returns-in-Ok-clause-closed
returns-in-Ok-clause-closed g c =
    let D = g.row.D.Denot in
    let ops = g.D.Domain.ops in
    let p = c.args.problem.now in
    let log = c.args.log.now in
    λ s. (closed_is D ops p log.claim log.lines c.in-Ok.verdict s log.tree c.in-Ok.ensures, is_closed D ops p log.claim log.lines c.in-Ok.verdict s c.in-Ok.ensures)

pub returns-in-Ok-clause-unfinished : goal.returns-in-Ok-clause-unfinished
returns-in-Ok-clause-unfinished g c =
    let D = g.row.D.Denot in
    let ops = g.D.Domain.ops in
    let p = c.args.problem.now in
    let log = c.args.log.now in
    λ n. (unfinished_is D ops p log.claim log.lines c.in-Ok.verdict n log.tree c.in-Ok.ensures, is_unfinished D ops p log.claim log.lines c.in-Ok.verdict n c.in-Ok.ensures)

pub returns-in-Ok-clause-sound : goal.returns-in-Ok-clause-sound
returns-in-Ok-clause-sound g c =
    let D = g.row.D.Denot in
    let ops = g.D.Domain.ops in
    let p = c.args.problem.now in
    let log = c.args.log.now in
    let problem = subst IsProblem c.problem.view_is c.problem.invariant.0 in
    λ s e numbers i solved. refuted_has_none D ops p g.met.D.Domain.laws problem log.claim log.lines s numbers (closed_is D ops p log.claim log.lines c.in-Ok.verdict s log.tree c.in-Ok.ensures e) i solved
