use Rattle.dt_sv39x4.proofs.Legal.{legal_as_manual}
use Rattle.dt_sv39x4.proofs.Walks.{walks_as_manual}
use Rattle.dt_sv39x4.proofs.shipped.sv39x4_model.Goals as goal

pub returns-clause-walks : goal.returns-clause-walks
returns-clause-walks c = walks_as_manual _ c.accepted.ensures c.in_ok-model.ensures.v c.in_ok-model.ensures.a c.in_ok-model.ensures.b c.in_ok-model.ensures.c c.in_ok-model.ensures.g

pub returns-clause-legal : goal.returns-clause-legal
returns-clause-legal c = legal_as_manual _ c.accepted.ensures
