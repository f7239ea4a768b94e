use Rattle.dt_sv39.proofs.Legal.{legal_as_manual}
use Rattle.dt_sv39.proofs.Walks.{walks_as_manual}
use Rattle.dt_sv39.proofs.shipped.sv39_model.Goals as goal

pub returns-clause-walks : goal.returns-clause-walks
returns-clause-walks c = walks_as_manual _ c.accepted.ensures c.in_ok-model.ensures.walks

pub returns-clause-legal : goal.returns-clause-legal
returns-clause-legal c = legal_as_manual _ c.accepted.ensures
