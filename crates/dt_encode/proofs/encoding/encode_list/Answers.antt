use Rattle.std.proofs.Common.{sym, subst}
use Rattle.dt_model.specs.Accepted.{accepted_data}
use Rattle.dt_table.proofs.Whole.{to_image, from_image}
use Rattle.dt_encode.specs.Encoding.{TellsImages, TakesImages, HasChoices}
use Rattle.dt_encode.proofs.Chosen.{table_choices}
use Rattle.dt_encode.proofs.encoding.encode_list.Goals as goal

pub returns-clause-tells : goal.returns-clause-tells
returns-clause-tells c =
    let d = accepted_data c.args.model.now in
    let r = c.args.requests.now in
    subst (TellsImages d r) (sym c.in_ok-encoded.ensures.problem) (λ numbers i s. to_image d r numbers c.args.model.now.accepted c.args.model.now.arities c.requires i s)

pub returns-clause-takes : goal.returns-clause-takes
returns-clause-takes c =
    let d = accepted_data c.args.model.now in
    let r = c.args.requests.now in
    subst (TakesImages d r) (sym c.in_ok-encoded.ensures.problem) (λ i f s. from_image d r i c.args.model.now.accepted c.args.model.now.arities c.requires f s)

pub returns-clause-choices : goal.returns-clause-choices
returns-clause-choices c =
    let d = accepted_data c.args.model.now in
    let r = c.args.requests.now in
    subst (HasChoices d r) (sym c.in_ok-encoded.ensures.problem) (table_choices d r)
