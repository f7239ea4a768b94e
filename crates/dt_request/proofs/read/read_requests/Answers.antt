use Rattle.std.proofs.Common.{ℕ, List, Result, Ok, Err, sym, subst}
use Rattle.std.specs.Prelude.{IfOk}
use Rattle.dt_lex.specs.Reading.{Gives}
use Rattle.dt_lex.proofs.Loop.{gives_along}
use Rattle.dt_model.specs.declared.accepted.Accepted.{Accepted}
use Rattle.dt_model.specs.Accepted.{accepted_data}
use Rattle.dt_model.specs.ModelData.{ModelData}
use Rattle.dt_request.specs.declared.list.Requests.{Requests}
use Rattle.dt_request.specs.Fault.{is_memory}
use Rattle.dt_request.specs.declared.fault.RequestFault.{RequestFault}
use Rattle.dt_request.specs.Lists.{IsList}
use Rattle.dt_request.specs.Read.{reading}
use Rattle.dt_request.specs.Spelling.{IsListText}
use Rattle.dt_request.proofs.OnlyLists.{read_is_text}
use Rattle.dt_request.proofs.ReadLists.{spelled_read}
use Rattle.dt_request.proofs.read.read_requests.Goals as goal

pub returns-clause-spelled : goal.returns-clause-spelled
unfolding reading
returns-clause-spelled c list h =
    let d = accepted_data c.args.model.now in
    let read : Gives is_memory (λ (r : Requests). r) c.read_text.result (reading d c.args.bytes.now) = subst (λ (m : Accepted). Gives is_memory (λ (r : Requests). r) c.read_text.result (reading (accepted_data m) c.args.bytes.now)) c.in_ok-known.ensures c.read_text.ensures.value in
    gives_along is_memory (λ (r : Requests). r) c.read_text.result (Ok list) (reading d c.args.bytes.now) (sym (spelled_read d c.args.bytes.now list c.args.model.now.accepted h)) read

text_of_list : (d : ModelData) (bytes : List ℕ) (result : Result Requests RequestFault) → Gives is_memory (λ (r : Requests). r) result (reading d bytes) → IfOk result (IsList d) → IfOk result (IsListText d bytes)
text_of_list d bytes (Ok list) read is = read_is_text d bytes list read is
text_of_list d bytes (Err fault) read is = tt

pub returns-clause-text : goal.returns-clause-text
unfolding reading
returns-clause-text c =
    let d = accepted_data c.args.model.now in
    let read : Gives is_memory (λ (r : Requests). r) c.read_text.result (reading d c.args.bytes.now) = subst (λ (m : Accepted). Gives is_memory (λ (r : Requests). r) c.read_text.result (reading (accepted_data m) c.args.bytes.now)) c.in_ok-known.ensures c.read_text.ensures.value in
    text_of_list d c.args.bytes.now c.read_text.result read (subst (λ (m : Accepted). IfOk c.read_text.result (IsList (accepted_data m))) c.in_ok-known.ensures c.read_text.ensures.sound)
