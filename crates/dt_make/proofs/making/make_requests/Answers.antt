use Rattle.std.proofs.Common.{sym, subst, arith}
use Rattle.dt_model.specs.Accepted.{accepted_data}
use Rattle.dt_request.specs.declared.list.Requests.{Requests}
use Rattle.dt_request.specs.Lists.{IsList}
use Rattle.dt_make.proofs.Listed.{list_of}
use Rattle.dt_make.proofs.making.make_requests.Goals as goal

pub returns-clause-of_model : goal.returns-clause-of_model
returns-clause-of_model c =
    let d = accepted_data c.args.model.now in
    subst (λ (r : Requests). IsList d r) (sym c.in_ok-requests.ensures) (list_of d c.args.n c.requires (omega arith) (omega arith))
