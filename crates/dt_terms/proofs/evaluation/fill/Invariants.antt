use Rattle.std.proofs.Common.{◌≡◌, length, take}
use Rattle.dt_terms.specs.Terms.{choice_at}
use Rattle.dt_terms.specs.Values.{AreFit, first_values}
use Rattle.dt_terms.proofs.evaluation.fill.Given as goal

-- the values up to here are written
abbrev pub invariant-loop-n : goal.invariant-loop-n
invariant-loop-n l = record {
  values : take l.n l.out ≡ first_values l.terms l.numbers l.n;
  fit : AreFit l.terms (take l.n l.out);
  len : length l.out ≡ length l.terms;
  choice : l.choice ≡ choice_at l.terms l.n;
}
