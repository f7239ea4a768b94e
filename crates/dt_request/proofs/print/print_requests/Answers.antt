use Rattle.std.proofs.Common.{◌≡◌, rules}
use Rattle.dt_model.specs.Accepted.{accepted_data}
use Rattle.dt_request.specs.Print.{printed}
use Rattle.dt_request.proofs.PrintedLists.{reads_back, printed_short}
use Rattle.dt_request.proofs.print.print_requests.Goals as goal

pub returns : goal.returns
returns c =
    let d = accepted_data c.args.model.now in
    let r = c.args.requests.now in
    let text : c.push_list.new.out.items ≡ printed d r = search rules in
    let back = reads_back d r c.args.model.now.accepted c.args.model.now.names c.requires in
    let few = printed_short d r c.args.model.now.accepted c.args.model.now.names c.requires in
    record { printed = text; reads_back = rw text back; few_bytes = rw text few }
