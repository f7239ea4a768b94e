use Rattle.std.proofs.Common.{length, arith}
use Rattle.dt_terms.specs.Terms.{choices_of}
use Rattle.dt_check.specs.Records.{aimed}
use Rattle.dt_solve.proofs.Numbers.{map_range}
use Rattle.dt_solve.proofs.tried.hold_all.Goals as goal

pub returns : goal.returns
returns g c =
    let end = c.choice_count-choice-end.ensures in
    let past = c.loop-choice-test.false in
    map_range (aimed g.D.Domain.ops c.args.problem.now.terms c.args.cells.now c.args.out.now) (length (choices_of c.args.problem.now.terms)) c.loop-choice.out c.loop-choice.invariant.count (λ k l. c.loop-choice.invariant.held k (omega arith))
