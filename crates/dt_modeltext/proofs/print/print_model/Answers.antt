use Rattle.std.proofs.Common.{◌≡◌, rules}
use Rattle.dt_model.specs.Accepted.{accepted_data}
use Rattle.dt_modeltext.specs.Print.{printed}
use Rattle.dt_modeltext.proofs.AcceptedModels.{reads_back, lines_short, text_short}
use Rattle.dt_modeltext.proofs.print.print_model.Goals as goal

pub returns : goal.returns
returns c =
    let d = accepted_data c.args.model.now in
    let text : c.push_model.new.out.items ≡ printed d = search rules in
    let back = reads_back d c.args.model.now.accepted c.args.model.now.arities c.args.model.now.names in
    let short = lines_short d c.args.model.now.accepted c.args.model.now.arities c.args.model.now.names in
    let few = text_short d c.args.model.now.accepted c.args.model.now.arities c.args.model.now.names in
    record { printed = text; reads_back = rw text back; few_bytes = rw text few; short = rw text short }
