use Rattle.dt_box.proofs.Assignments.{root_holds, step_holds, bit_holds}
use Rattle.dt_box.proofs.laws.keeps_assignments.Goals as goal

pub returns-clause-roots : goal.returns-clause-roots
returns-clause-roots g c = λ p numbers h i s. root_holds g.row.D.Denot g.D.Domain.ops g.met.D.Domain.laws p numbers h i s

pub returns-clause-steps : goal.returns-clause-steps
returns-clause-steps g c = λ terms numbers s cells right h i all. step_holds g.row.D.Denot g.D.Domain.ops g.met.D.Domain.laws terms right numbers s cells h i all

pub returns-clause-bits : goal.returns-clause-bits
returns-clause-bits g c = λ terms numbers t i v cells right h l m e all. bit_holds g.row.D.Denot g.D.Domain.ops g.met.D.Domain.laws terms right numbers t i v cells h l m e all
