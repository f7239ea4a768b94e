use Rattle.std.proofs.Common.{ℕ, sym, subst, reverse, Option}
use Rattle.std.specs.Prelude.{IfSome}
use Rattle.dt_check.specs.declared.pending.Pending.{Pending}
use Rattle.dt_check.specs.Waiting.{IsNext, IsBegun}
use Rattle.dt_check.specs.Checking.{state_of, state, IsTreeEnded}
use Rattle.dt_check.specs.declared.checker.Finding.TheVariants.{Passed}
use Rattle.dt_check.proofs.Checking.{next_found}
use Rattle.dt_check.proofs.checker.Checker.end_tree.Goals as goal

pub returns-in-Some-clause-ended : goal.returns-in-Some-clause-ended
returns-in-Some-clause-ended g c =
    let D = g.row.D.Denot in
    let ops = g.D.Domain.ops in
    let p = c.args.problem.now in
    let s = state_of {D = D} c.args.self.now in
    let new = c.next_tree.new.cells in
    let longer = c.next_tree.new.trail in
    let rest = c.next_tree.new.pending.items in
    let q = c.in-Some.split in
    let pending = reverse s.pending in
    let next = subst (IsNext ops s.cells s.trail pending new longer (reverse rest)) c.in-Some.is c.in_ok-next_tree.ensures.next in
    let begun = subst (λ (o : Option Pending). IfSome o (IsBegun ops s.cells s.trail pending new longer (reverse rest))) c.in-Some.is c.in_ok-next_tree.ensures.begun in
    subst (λ (o : Option ℕ). IsTreeEnded ops p.terms c.args.claim s Passed (state new longer rest s.splits s.opened o)) (sym c.settled_at-self.ensures)
    (next_found D ops p c.args.claim s new longer rest q c.requires.state c.in_ok-next_tree.ensures.are next begun)
