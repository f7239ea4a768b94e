use Rattle.dt_lemmas.proofs.Powers.{top_fits}
use Rattle.std.proofs.lemmas.Bool.{false≢true}
use Rattle.dt_lemmas.proofs.Numbers.{and_twice}
use Rattle.dt_domain_bench.proofs.made.known_with.Goals as goal

pub returns-clause-is : goal.returns-clause-is
returns-clause-is c = record {
  width = c.requires;
  mask_fits = c.number_of-mask.ensures;
  within = and_twice _ _;
  empty = λ e. absurd (false≢true e);
}
