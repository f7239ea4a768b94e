use Rattle.std.proofs.Common.{ℕ, ◌+◌, sym, subst, Option}
use Rattle.dt_log.specs.declared.line.Line.TheVariants.{Split}
use Rattle.dt_check.specs.declared.pending.Pending.{Pending}
use Rattle.dt_check.specs.declared.checker.Finding.TheVariants.{Passed}
use Rattle.dt_check.specs.Checking.{state_of, state, IsFound}
use Rattle.dt_check.proofs.Checking.{split_found}
use Rattle.dt_check.proofs.Trying.{trial_kept}
use Rattle.dt_check.proofs.checker.Checker.read_split.Goals as goal

pub returns-in_ok-set_bit_kept-in-None-clause-found : goal.returns-in_ok-set_bit_kept-in-None-clause-found
returns-in_ok-set_bit_kept-in-None-clause-found g c =
    let D = g.row.D.Denot in
    let ops = g.D.Domain.ops in
    let p = c.args.problem.now in
    let s = state_of {D = D} c.args.self.now in
    let q : Pending = record { length = c.len.result; term = c.args.term; bit = c.args.bit } in
    let new = c.set_bit_kept.new.self in
    let longer = c.set_bit_kept.new.trail in
    let items = c.push.new.self.items in
    subst (λ (o : Option ℕ). IsFound ops p c.args.claim (Split c.args.term c.args.bit) c.args.tries.now s Passed (state new longer items (s.splits + 1) s.opened o)) (sym c.settled_at-self.ensures)
    (split_found D ops p c.args.claim q c.args.tries.now s items new longer c.requires.state (sym c.in-None.ensures.cause) c.len.ensures c.in_ok-push-in-None.ensures.items
    c.in_ok-set_bit_kept-in-None.ensures.cells c.set_bit_kept.ensures.are c.set_bit_kept.ensures.kept)

pub returns-in_ok-set_bit_kept-in-None-clause-trial : goal.returns-in_ok-set_bit_kept-in-None-clause-trial
returns-in_ok-set_bit_kept-in-None-clause-trial g c =
    trial_kept g.row.D.Denot g.D.Domain.ops c.args.problem.now.terms c.args.self.now.cells c.set_bit_kept.new.self c.args.self.now.trail c.set_bit_kept.new.trail c.split_cause.new.trial
    c.set_bit_kept.ensures.kept c.split_cause.ensures.trial
