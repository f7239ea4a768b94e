use Rattle.std.proofs.Common.{◌≡◌, length}
use Rattle.dt_terms.specs.Terms.{choices_of}
use Rattle.dt_solve.specs.Searching.{IsAt, left}
use Rattle.dt_solve.proofs.searching.attempt.Given as goal

abbrev pub invariant-loop-search : goal.invariant-loop-search
invariant-loop-search g l = record {
  at : IsAt g.D.Domain.ops l.problem l.limit (g.P.Proposer.aim l.fn.proposer) l.search;
  aim : g.P.Proposer.aim l.proposer ≡ g.P.Proposer.aim l.fn.proposer;
  numbers : length l.tried.numbers.items ≡ length (choices_of l.problem.terms);
}

abbrev pub decreases-loop-search : goal.decreases-loop-search
decreases-loop-search g l = left l.limit l.search.splits l.search.pending.items
