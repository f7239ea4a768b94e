use Rattle.dt_box.proofs.Neighbours.{step_same}
use Rattle.dt_box.proofs.laws.steps_are_local.Goals as goal

pub returns : goal.returns
returns g c = λ terms step cells others i h. step_same g.row.D.Denot g.D.Domain.ops cells others terms step i h
