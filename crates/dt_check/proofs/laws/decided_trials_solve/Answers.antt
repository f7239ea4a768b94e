use Rattle.dt_check.proofs.Bound.{root_required, decided_trial}
use Rattle.dt_check.proofs.laws.decided_trials_solve.Goals as goal

pub returns-clause-root : goal.returns-clause-root
returns-clause-root g c = λ p h. root_required g.row.D.Denot g.D.Domain.ops g.met.D.Domain.laws p h

pub returns-clause-solves : goal.returns-clause-solves
returns-clause-solves g c = λ p cells tries q h r s e a. decided_trial g.row.D.Denot g.D.Domain.ops g.met.D.Domain.laws p q cells tries h r s e a
