-- What the stages of a command come to.
use Rattle.std.proofs.Common.{◌≡◌, ℕ, ◌+◌, inl, inr, false, not, List, [], ◌∷◌, ◌++◌, Option, Some, None, Ok, Err, refl, sym, ap, subst, ◌∙◌, append_assoc}
use Rattle.std.specs.Prelude.{position, codes}
use Rattle.dt_edge.specs.Told.{Told, Asks}
use Rattle.dt_model.specs.ModelData.{ModelData}
use Rattle.dt_modeltext.specs.declared.fault.ModelFault.{ModelFault}
use Rattle.dt_modeltext.specs.declared.fault.ModelFault.TheVariants as model
use Rattle.dt_modeltext.specs.Read.{IsModelText, RefusesText}
use Rattle.dt_modeltext.specs.Fault.{is_memory}
use Rattle.dt_request.specs.declared.fault.RequestFault.{RequestFault}
use Rattle.dt_request.specs.declared.fault.RequestFault.TheVariants as list
use Rattle.dt_request.specs.declared.list.Requests.{Requests}
use Rattle.dt_request.specs.Fault.{is_memory as list_memory, line_of as list_line, word_of as list_word}
use Rattle.dt_request.specs.Read.{reading as list_in}
use Rattle.dt_image.specs.declared.fault.ImageFault.{ImageFault}
use Rattle.dt_image.specs.declared.fault.ImageFault.TheVariants as image
use Rattle.dt_image.specs.declared.image.Image.{Image}
use Rattle.dt_image.specs.Read.{reading}
use Rattle.dt_image.specs.Fault.{is_memory as image_memory}
use Rattle.std.specs.Bool.{OnFalse}
use Rattle.dt_satisfy.specs.Claims.{claims}
use Rattle.dt_satisfy.specs.Satisfies.{Matches, verdict_of}
use Rattle.dt_satisfy.specs.declared.verdict.Judged.TheVariants as judged
use Rattle.dt_top.specs.Course.{FileRead, Outcome, Answered, OnFile, Never}
use Rattle.dt_modeltext.specs.Fault.{line_of as model_line, word_of as model_word}
use Rattle.dt_image.specs.Fault.{line_of as image_line, word_of as image_word}
use Rattle.dt_top.specs.Answers.{IsRefutedBy, IsRecordedBy, IsStimulus, IsRefutation, IsRecord}
use Rattle.dt_top.specs.Lines.{breaks_line, bad_line, tree_line, too_large_line, closed_line, open_line, item_line}
use Rattle.dt_top.specs.Replies.{bytes_of, IsWant, IsReplyOrWant, IsRefusedLine}
use Rattle.dt_top.specs.Seen.{seen, StaysShelf, Took, TookModel, TookBoth, names_of}
use Rattle.dt_top.specs.Stages.{IsRefusedModel, OnModel, IsRequests, IsRefusedList, OnRequests, IsBadImage, OnModelImage, IsMatching, OnImage, HasProblem, OnProblem, OnLog}
use Rattle.dt_top.specs.Models.{ModelAsked, shipped, of_file, shipped_data, model_files, OnModelWord, IsModelOf, OnModelAndList}
use Rattle.dt_top.specs.declared.models.Shipped.{Shipped}
use Rattle.dt_table.specs.Table.{table}
use Rattle.dt_top.specs.Table.{Outside, Ends, in_call, no_reads, Replies}
use Rattle.dt_terms.specs.Problem.{ProblemData}
use Rattle.dt_log.specs.declared.fault.LogFault.{LogFault}
use Rattle.dt_log.specs.declared.fault.LogFault.TheVariants as log
use Rattle.dt_log.specs.Fault.{line_of as log_line, item_of as log_item, word_of as log_word, is_memory as log_memory}
use Rattle.dt_log.specs.Read.{LogData, reading as log_in}
use Rattle.dt_check.specs.declared.verdict.Cause.{Cause}
use Rattle.dt_encode.specs.declared.fault.Quantity3.{Quantity3}
use Rattle.dt_encode.specs.declared.fault.EncodeFault.TheVariants.{TooLarge}
use Rattle.dt_encode.specs.SizeFault.{size_fault}
use Rattle.dt_top.specs.commands.Solve.{Answering}
use Rattle.dt_top.specs.commands.Check.{IsRefusedItem, JudgingLog, CheckingBytes, CheckingList}
use Rattle.dt_top.specs.commands.Replay.{Judging}
use Rattle.dt_top.specs.commands.Walk.{WalkingBytes}
use Rattle.dt_top.specs.commands.Model.{Printing}
use Rattle.dt_top.specs.commands.Make.{made_text, Making}
use Rattle.dt_modeltext.specs.Print.{printed}
use Rattle.dt_walktext.specs.Printed.{walks_text}
use Rattle.dt_top.specs.declared.file.File.{File}
use Rattle.dt_top.specs.declared.file.File.TheVariants as file
use Rattle.dt_top.specs.declared.reply.Reply.{Reply}
use Rattle.dt_top.specs.declared.status.Status.{Status}
use Rattle.dt_top.specs.declared.status.Status.TheVariants as status
use Rattle.dt_top.proofs.Ended.{ends_on, ends_as, ends_more, on_file, ends_after, ends_still, asks_none, asks_more, has_more, names_more}

-- ---- calls over bytes

-- memory ran out
pub replies_want : (c : List FileRead → Outcome → Type 0) (reply : Reply) → IsWant reply → Replies c reply.status (bytes_of reply.text)
replies_want c reply w = ends_as no_reads c status.Memory reply.status [] (bytes_of reply.text) w.0 w.1 (tt, refl)

-- a model's text that is refused
refused_model : (bytes : List ℕ) (fault : ModelFault) (n : ℕ) → RefusesText bytes fault → (is_memory fault ≡ false → (d : ModelData) → IsModelText bytes d → ⊥)
    → model_line fault ≡ Some n → IsRefusedModel bytes (bad_line (codes "model") n (model_word fault))
refused_model bytes model.Memory n r none e = absurd cc
refused_model bytes (model.Lex l) n r none e = record { none = none refl; fault = model.Lex l; number = n; refused = r; place = e; line = refl }
refused_model bytes (model.Form m) n r none e = record { none = none refl; fault = model.Form m; number = n; refused = r; place = e; line = refl }
refused_model bytes (model.Refused by m) n r none e = record { none = none refl; fault = model.Refused by m; number = n; refused = r; place = e; line = refl }

pub replies_model : (bytes : List ℕ) (fault : ModelFault) (reply : Reply) → RefusesText bytes fault → (is_memory fault ≡ false → (d : ModelData) → IsModelText bytes d → ⊥)
    → IsRefusedLine file.Model (model_line fault) (model_word fault) reply → Replies (OnModel bytes (λ d. Never)) reply.status (bytes_of reply.text)
replies_model bytes fault reply r none (inl w) = replies_want (OnModel bytes (λ d. Never)) reply w
replies_model bytes fault reply r none (inr h) =
    ends_as no_reads (OnModel bytes (λ d. Never)) status.ModelRefused reply.status (bad_line (codes "model") h.0 (model_word fault)) (bytes_of reply.text) h.2 h.3
    ([], inl (bad_line (codes "model") h.0 (model_word fault), refused_model bytes fault h.0 r none h.1, refl), refl)

-- a list's text that is refused
refused_list : (d : ModelData) (bytes : List ℕ) (fault : RequestFault) (n : ℕ) → OnFalse (list_memory fault) (list_in d bytes ≡ Err fault) → list_line fault ≡ Some n → IsRefusedList d bytes (bad_line (codes "requests") n (list_word fault))
refused_list d bytes list.Memory n r e = absurd cc
refused_list d bytes (list.Lex l) n r e = record { fault = list.Lex l; number = n; refused = r; place = e; line = refl }
refused_list d bytes (list.Form m) n r e = record { fault = list.Form m; number = n; refused = r; place = e; line = refl }
refused_list d bytes (list.TooMany m) n r e = record { fault = list.TooMany m; number = n; refused = r; place = e; line = refl }
refused_list d bytes (list.Unknown m) n r e = record { fault = list.Unknown m; number = n; refused = r; place = e; line = refl }
refused_list d bytes (list.Twice m) n r e = record { fault = list.Twice m; number = n; refused = r; place = e; line = refl }
refused_list d bytes (list.OutOfRange m) n r e = record { fault = list.OutOfRange m; number = n; refused = r; place = e; line = refl }

pub replies_list : (d : ModelData) (bytes : List ℕ) (fault : RequestFault) (reply : Reply) → OnFalse (list_memory fault) (list_in d bytes ≡ Err fault)
    → IsRefusedLine file.Requests (list_line fault) (list_word fault) reply → Replies (OnRequests d bytes (λ list. Never)) reply.status (bytes_of reply.text)
replies_list d bytes fault reply r (inl w) = replies_want (OnRequests d bytes (λ list. Never)) reply w
replies_list d bytes fault reply r (inr h) =
    ends_as no_reads (OnRequests d bytes (λ list. Never)) status.RequestsRefused reply.status (bad_line (codes "requests") h.0 (list_word fault)) (bytes_of reply.text) h.2 h.3
    ([], inl (bad_line (codes "requests") h.0 (list_word fault), refused_list d bytes fault h.0 r h.1, refl), refl)

image_known : (R : Type 0) (fault : ImageFault) (n : ℕ) → image_line fault ≡ Some n → OnFalse (image_memory fault) R → R
image_known R image.Memory n e h = absurd cc
image_known R (image.Lex l) n e h = h
image_known R (image.Form m) n e h = h
image_known R (image.Shape m) n e h = h
image_known R (image.OutOfRange m) n e h = h
image_known R (image.Order m) n e h = h

-- an image's text that is refused
bad_image : (d : ModelData) (bytes : List ℕ) (fault : ImageFault) (n : ℕ) → OnFalse (image_memory fault) (reading d bytes ≡ Err fault) → image_line fault ≡ Some n → IsBadImage d bytes (bad_line (codes "image") n (image_word fault))
bad_image d bytes fault n r e = record { fault = fault; number = n; refused = image_known (reading d bytes ≡ Err fault) fault n e r; place = e; line = refl }

pub replies_image : (d : ModelData) (list : Requests) (bytes : List ℕ) (fault : ImageFault) (reply : Reply) → OnFalse (image_memory fault) (reading d bytes ≡ Err fault)
    → IsRefusedLine file.Image (image_line fault) (image_word fault) reply → Replies (OnImage d list bytes (λ i. Never)) reply.status (bytes_of reply.text)
replies_image d list bytes fault reply r (inl w) = replies_want (OnImage d list bytes (λ i. Never)) reply w
replies_image d list bytes fault reply r (inr h) =
    ends_as no_reads (OnImage d list bytes (λ i. Never)) status.InputRefused reply.status (bad_line (codes "image") h.0 (image_word fault)) (bytes_of reply.text) h.2 h.3
    ([], inl (bad_line (codes "image") h.0 (image_word fault), inl (bad_image d bytes fault h.0 r h.1), refl), refl)

pub replies_model_image : (d : ModelData) (bytes : List ℕ) (fault : ImageFault) (reply : Reply) → OnFalse (image_memory fault) (reading d bytes ≡ Err fault)
    → IsRefusedLine file.Image (image_line fault) (image_word fault) reply → Replies (OnModelImage d bytes (λ i. Never)) reply.status (bytes_of reply.text)
replies_model_image d bytes fault reply r (inl w) = replies_want (OnModelImage d bytes (λ i. Never)) reply w
replies_model_image d bytes fault reply r (inr h) =
    ends_as no_reads (OnModelImage d bytes (λ i. Never)) status.InputRefused reply.status (bad_line (codes "image") h.0 (image_word fault)) (bytes_of reply.text) h.2 h.3
    ([], inl (bad_line (codes "image") h.0 (image_word fault), bad_image d bytes fault h.0 r h.1, refl), refl)

-- an image that doesn't match
pub replies_mismatch : (d : ModelData) (list : Requests) (bytes : List ℕ) (i : Image) (reply : Reply) → reading d bytes ≡ Ok i → (Matches list i → ⊥)
    → reply.status ≡ status.InputRefused → bytes_of reply.text ≡ codes "refused image shape\n" → Replies (OnImage d list bytes (λ i. Never)) reply.status (bytes_of reply.text)
replies_mismatch d list bytes i reply e none s t =
    ends_as no_reads (OnImage d list bytes (λ i. Never)) status.InputRefused reply.status (codes "refused image shape\n") (bytes_of reply.text) s t
    ([], inl (codes "refused image shape\n", inr (i, e, none, refl), refl), refl)

-- ---- the problem of a list

-- memory ran out, or a reply of a status that a course can answer
replies_or_want : (c : List FileRead → Outcome → Type 0) (due : Status) (want : List ℕ) (reply : Reply) → (Replies c due want) → IsReplyOrWant due want reply → Replies c reply.status (bytes_of reply.text)
replies_or_want c due want reply h (inl w) = replies_want c reply w
replies_or_want c due want reply h (inr r) = ends_as no_reads c due reply.status want (bytes_of reply.text) r.0 r.1 h

pub replies_too_large : (d : ModelData) (list : Requests) (what : Quantity3) (number : ℕ) (reply : Reply) → size_fault d list ≡ Some (TooLarge what number)
    → IsReplyOrWant status.TooLarge (too_large_line what number) reply → Replies (OnProblem d list Never) reply.status (bytes_of reply.text)
replies_too_large d list what number reply e h =
    replies_or_want (OnProblem d list Never) status.TooLarge (too_large_line what number) reply
    ([], inl (too_large_line what number, record { what = what; number = number; product = e; line = refl }, refl), refl) h

-- ---- the text of a log

log_known : (R : Type 0) (fault : LogFault) (n : ℕ) → log_line fault ≡ Some n → OnFalse (log_memory fault) R → R
log_known R log.Memory n e h = absurd cc
log_known R (log.Lex l) n e h = h
log_known R (log.Form m) n e h = h
log_known R (log.NotATree m) n e h = absurd cc

tree_known : (R : Type 0) (fault : LogFault) (n : ℕ) → log_item fault ≡ Some n → OnFalse (log_memory fault) R → R
tree_known R log.Memory n e h = absurd cc
tree_known R (log.Lex l) n e h = absurd cc
tree_known R (log.Form m) n e h = absurd cc
tree_known R (log.NotATree m) n e h = h

pub replies_log : (bytes : List ℕ) (fault : LogFault) (reply : Reply) → OnFalse (log_memory fault) (log_in bytes ≡ Err fault)
    → IsRefusedLine file.Log (log_line fault) (log_word fault) reply → Replies (OnLog bytes (λ log. Never)) reply.status (bytes_of reply.text)
replies_log bytes fault reply r (inl w) = replies_want (OnLog bytes (λ log. Never)) reply w
replies_log bytes fault reply r (inr h) =
    let text = bad_line (codes "log") h.0 (log_word fault) in
    ends_as no_reads (OnLog bytes (λ log. Never)) status.InputRefused reply.status text (bytes_of reply.text) h.2 h.3
    ([], inl (text, record { fault = fault; number = h.0; refused = log_known (log_in bytes ≡ Err fault) fault h.0 h.1 r; line = inl (h.1, refl) }, refl), refl)

pub replies_no_tree : (bytes : List ℕ) (fault : LogFault) (item : ℕ) (reply : Reply) → OnFalse (log_memory fault) (log_in bytes ≡ Err fault) → log_item fault ≡ Some item
    → IsReplyOrWant status.InputRefused (tree_line item) reply → Replies (OnLog bytes (λ log. Never)) reply.status (bytes_of reply.text)
replies_no_tree bytes fault item reply r e h =
    replies_or_want (OnLog bytes (λ log. Never)) status.InputRefused (tree_line item) reply
    ([], inl (tree_line item, record { fault = fault; number = item; refused = tree_known (log_in bytes ≡ Err fault) fault item e r; line = inr (e, refl) }, refl), refl) h

-- ---- the answers of a search

pub replies_stimulus : (d : ModelData) (list : Requests) (splits : ℕ) (text : List ℕ) (reply : Reply) → IsStimulus d list text
    → reply.status ≡ status.Good → bytes_of reply.text ≡ text → Replies (Answering d list splits) reply.status (bytes_of reply.text)
replies_stimulus d list splits text reply h s t = ends_as no_reads (Answering d list splits) status.Good reply.status text (bytes_of reply.text) s t ([], inl (text, h, refl), refl)

pub replies_refutation : (d : ModelData) (list : Requests) (splits : ℕ) (text : List ℕ) (reply : Reply) → IsRefutation d list text
    → reply.status ≡ status.No → bytes_of reply.text ≡ text → Replies (Answering d list splits) reply.status (bytes_of reply.text)
replies_refutation d list splits text reply h s t = ends_as no_reads (Answering d list splits) status.No reply.status text (bytes_of reply.text) s t ([], inr (inl (text, h, refl)), refl)

pub replies_record : (d : ModelData) (list : Requests) (splits : ℕ) (text : List ℕ) (reply : Reply) → IsRecord d list splits text
    → reply.status ≡ status.Spent → bytes_of reply.text ≡ text → Replies (Answering d list splits) reply.status (bytes_of reply.text)
replies_record d list splits text reply h s t = ends_as no_reads (Answering d list splits) status.Spent reply.status text (bytes_of reply.text) s t ([], inr (inr (text, h, refl)), refl)

-- ---- the checker's verdict

pub replies_closed : (p : ProblemData) (log : LogData) (splits : ℕ) (text : List ℕ) (reply : Reply) → IsRefutedBy p log splits → text ≡ closed_line splits
    → reply.status ≡ status.Good → bytes_of reply.text ≡ text → Replies (JudgingLog p log) reply.status (bytes_of reply.text)
replies_closed p log splits text reply h e s t = ends_as no_reads (JudgingLog p log) status.Good reply.status (closed_line splits) (bytes_of reply.text) s (t ∙ e) ([], inl (splits, h, refl), refl)

pub replies_open : (p : ProblemData) (log : LogData) (splits : ℕ) (text : List ℕ) (reply : Reply) → IsRecordedBy p log splits → text ≡ open_line splits
    → reply.status ≡ status.Spent → bytes_of reply.text ≡ text → Replies (JudgingLog p log) reply.status (bytes_of reply.text)
replies_open p log splits text reply h e s t = ends_as no_reads (JudgingLog p log) status.Spent reply.status (open_line splits) (bytes_of reply.text) s (t ∙ e) ([], inr (inl (splits, h, refl)), refl)

pub replies_item : (p : ProblemData) (log : LogData) (item : ℕ) (cause : Cause) (text : List ℕ) (reply : Reply) → IsRefusedItem p log item cause → text ≡ item_line item cause
    → reply.status ≡ status.No → bytes_of reply.text ≡ text → Replies (JudgingLog p log) reply.status (bytes_of reply.text)
replies_item p log item cause text reply h e s t = ends_as no_reads (JudgingLog p log) status.No reply.status (item_line item cause) (bytes_of reply.text) s (t ∙ e) ([], inr (inr (item, cause, h, refl)), refl)

-- ---- the judge's verdict

broken_at : (first : Option ℕ) (n : ℕ) → verdict_of first ≡ judged.Breaks n → (k : ℕ) × (first ≡ Some k) × (k + 1 ≡ n)
broken_at None n e = absurd cc
broken_at (Some k) n e = (k, refl, cc)

pub replies_broken : (d : ModelData) (list : Requests) (i : Image) (n : ℕ) (reply : Reply) (text : List ℕ) → judged.Breaks n ≡ verdict_of (position not (claims d list i)) → text ≡ breaks_line n
    → reply.status ≡ status.No → bytes_of reply.text ≡ text → Replies (Judging d list i) reply.status (bytes_of reply.text)
replies_broken d list i n reply text v e s t =
    let b = broken_at (position not (claims d list i)) n (sym v) in
    ends_as no_reads (Judging d list i) status.No reply.status (breaks_line (b.0 + 1)) (bytes_of reply.text) s (t ∙ e ∙ ap breaks_line (sym b.2))
    ([], inr (b.0, b.1, refl), refl)

-- ---- stages that lead nowhere

pub never_file : (kind : File) (name : List ℕ) (next : List ℕ → List FileRead → Outcome → Type 0) (files : List FileRead) (outcome : Outcome)
    → OnFile kind name (λ bytes. Never) files outcome → OnFile kind name next files outcome
never_file kind name next [] outcome h = h
never_file kind name next (f ∷ files) outcome h = absurd h.2

pub never_model : (bytes : List ℕ) (next : ModelData → List FileRead → Outcome → Type 0) (files : List FileRead) (outcome : Outcome)
    → OnModel bytes (λ d. Never) files outcome → OnModel bytes next files outcome
never_model bytes next files outcome (inl h) = inl h
never_model bytes next files outcome (inr h) = absurd h.2

pub never_list : (d : ModelData) (bytes : List ℕ) (next : Requests → List FileRead → Outcome → Type 0) (files : List FileRead) (outcome : Outcome)
    → OnRequests d bytes (λ list. Never) files outcome → OnRequests d bytes next files outcome
never_list d bytes next files outcome (inl h) = inl h
never_list d bytes next files outcome (inr h) = absurd h.2

pub never_image : (d : ModelData) (list : Requests) (bytes : List ℕ) (next : Image → List FileRead → Outcome → Type 0) (files : List FileRead) (outcome : Outcome)
    → OnImage d list bytes (λ i. Never) files outcome → OnImage d list bytes next files outcome
never_image d list bytes next files outcome (inl h) = inl h
never_image d list bytes next files outcome (inr h) = absurd h.2

pub never_problem : (d : ModelData) (list : Requests) (next : List FileRead → Outcome → Type 0) (files : List FileRead) (outcome : Outcome)
    → OnProblem d list Never files outcome → OnProblem d list next files outcome
never_problem d list next files outcome (inl h) = inl h
never_problem d list next files outcome (inr h) = absurd h.1

pub never_log : (bytes : List ℕ) (next : LogData → List FileRead → Outcome → Type 0) (files : List FileRead) (outcome : Outcome)
    → OnLog bytes (λ log. Never) files outcome → OnLog bytes next files outcome
never_log bytes next files outcome (inl h) = inl h
never_log bytes next files outcome (inr h) = absurd h.2

pub never_model_image : (d : ModelData) (bytes : List ℕ) (next : Image → List FileRead → Outcome → Type 0) (files : List FileRead) (outcome : Outcome)
    → OnModelImage d bytes (λ i. Never) files outcome → OnModelImage d bytes next files outcome
never_model_image d bytes next files outcome (inl h) = inl h
never_model_image d bytes next files outcome (inr h) = absurd h.2

on_model : (bytes : List ℕ) (next then : ModelData → List FileRead → Outcome → Type 0)
    → ((d : ModelData) (files : List FileRead) (outcome : Outcome) → next d files outcome → then d files outcome)
    → (files : List FileRead) (outcome : Outcome) → OnModel bytes next files outcome → OnModel bytes then files outcome
on_model bytes next then along files outcome (inl h) = inl h
on_model bytes next then along files outcome (inr h) = inr (h.0, h.1, along h.0 files outcome h.2)

-- the course of a word for a model, by how it goes on
pub on_word : (m : ModelAsked) (next then : ModelData → List FileRead → Outcome → Type 0)
    → ((d : ModelData) (files : List FileRead) (outcome : Outcome) → next d files outcome → then d files outcome)
    → (files : List FileRead) (outcome : Outcome) → OnModelWord m next files outcome → OnModelWord m then files outcome
on_word (shipped s) next then along files outcome h = along (shipped_data s) files outcome h
on_word (of_file name) next then along files outcome h = on_file file.Model name (λ bytes. OnModel bytes next) (λ bytes. OnModel bytes then) (λ bytes. on_model bytes next then along) files outcome h

pub never_word : (m : ModelAsked) (next : ModelData → List FileRead → Outcome → Type 0) (files : List FileRead) (outcome : Outcome)
    → OnModelWord m (λ d. Never) files outcome → OnModelWord m next files outcome
never_word m next files outcome h = on_word m (λ d. Never) next (λ d f o n. absurd n) files outcome h

pub never_both : (m : ModelAsked) (r : List ℕ) (next : ModelData → Requests → List FileRead → Outcome → Type 0) (files : List FileRead) (outcome : Outcome)
    → OnModelAndList m r (λ d list. Never) files outcome → OnModelAndList m r next files outcome
never_both m r next files outcome h =
    on_word m (λ d. OnFile file.Requests r (λ text. OnRequests d text (λ list. Never))) (λ d. OnFile file.Requests r (λ text. OnRequests d text (next d)))
    (λ d more out k. on_file file.Requests r (λ text. OnRequests d text (λ list. Never)) (λ text. OnRequests d text (next d)) (λ text. never_list d text (next d)) more out k) files outcome h

-- ---- the files of a model

-- after these files the command goes on
pub found_on : (m : ModelAsked) (given : List FileRead) (d : ModelData) (next : ModelData → List FileRead → Outcome → Type 0) → IsModelOf m given d
    → (files : List FileRead) (outcome : Outcome) → next d files outcome → OnModelWord m next (given ++ files) outcome
found_on (shipped s) [] d next is files outcome h = subst (λ (e : ModelData). next e files outcome) is h
found_on (shipped s) (f ∷ more) d next is files outcome h = absurd is
found_on (of_file name) [] d next is files outcome h = absurd is
found_on (of_file name) (f ∷ []) d next is files outcome h = (is.0, is.1, inr (d, is.2, h))
found_on (of_file name) (f ∷ g ∷ more) d next is files outcome h = absurd is

-- they have these names
pub found_names : (m : ModelAsked) (given : List FileRead) (d : ModelData) → IsModelOf m given d → names_of given ≡ model_files m
found_names (shipped s) [] d is = refl
found_names (shipped s) (f ∷ more) d is = absurd is
found_names (of_file name) [] d is = absurd is
found_names (of_file name) (f ∷ []) d is = ap (λ (n : List ℕ). n ∷ []) is.0
found_names (of_file name) (f ∷ g ∷ more) d is = absurd is

-- ---- parts of a call

module _ {S : Type 0} (told : S → Told) (faults taken : S → ℕ) (asked : S → Option (List (List ℕ))) (steady : S → Type 0) where
  -- a file was read, and its bytes decide
  pub ends_read : (old mid new : S) → StaysShelf told faults taken steady old mid → (kind : File) (name bytes : List ℕ) → Took (seen told faults taken asked old mid) kind name bytes
      → (rest : List (List ℕ)) (next : List ℕ → List FileRead → Outcome → Type 0) (came : Status) (text : List ℕ)
      → Ends (in_call (seen told faults taken asked mid new) rest) (next bytes) came text
      → Ends (in_call (seen told faults taken asked old new) (name ∷ rest)) (OnFile kind name next) came text
  ends_read old mid new stays kind name bytes took rest next came text h =
      ends_after told faults taken asked steady old mid new stays (record { name = name; bytes = bytes } ∷ []) (took.has, tt) took.asks took.quiet
      rest (next bytes) (OnFile kind name next) (λ files outcome c. (refl, took.within, c)) came text h

  -- a file was read, and its bytes have the reply
  pub ends_reply : (old new : S) → StaysShelf told faults taken steady old new → (kind : File) (name bytes : List ℕ) → Took (seen told faults taken asked old new) kind name bytes
      → (next : List ℕ → List FileRead → Outcome → Type 0) (came : Status) (text : List ℕ) → Replies (next bytes) came text
      → Ends (in_call (seen told faults taken asked old new) (name ∷ [])) (OnFile kind name next) came text
  ends_reply old new stays kind name bytes took next came text h =
      ends_read old new new stays kind name bytes took [] next came text (ends_still told faults taken asked steady new [] (next bytes) came text h)

  -- a file that gave nothing ends the command
  pub ends_file : (old new : S) (kind : File) (name : List ℕ) (next : List ℕ → List FileRead → Outcome → Type 0) (came : Status) (text : List ℕ)
      → Ends (in_call (seen told faults taken asked old new) (name ∷ [])) (OnFile kind name (λ bytes. Never)) came text
      → Ends (in_call (seen told faults taken asked old new) (name ∷ [])) (OnFile kind name next) came text
  ends_file old new kind name next came text h = ends_on _ (OnFile kind name (λ bytes. Never)) (OnFile kind name next) (never_file kind name next) came text h

  -- memory ran out before a file was read
  pub ends_want : (old : S) (names : List (List ℕ)) (course : List FileRead → Outcome → Type 0) (reply : Reply) → IsWant reply
      → Ends (in_call (seen told faults taken asked old old) names) course reply.status (bytes_of reply.text)
  ends_want old names course reply w = ends_still told faults taken asked steady old names course reply.status (bytes_of reply.text) (replies_want course reply w)

  -- a shipped model, for which no file is read
  pub took_shipped : (old : S) (s : Shipped) (d : ModelData) → d ≡ shipped_data s → TookModel (seen told faults taken asked old old) (shipped s) d
  took_shipped old s d is = record { given = []; has = tt; asks = asks_none (asked old); quiet = refl; found = is }

  -- the model of a file
  pub took_file : (old new : S) (name : List ℕ) (d : ModelData) → (bytes : List ℕ) × Took (seen told faults taken asked old new) file.Model name bytes × IsModelText bytes d
      → TookModel (seen told faults taken asked old new) (of_file name) d
  took_file old new name d h = let t = h.1 in record { given = record { name = name; bytes = h.0 } ∷ []; has = (t.has, tt); asks = t.asks; quiet = t.quiet; found = (refl, t.within, h.2) }

  -- where no model was found the command ends
  pub ends_model : (old new : S) (m : ModelAsked) (r : List ℕ) (came : Status) (text : List ℕ)
      → Ends (in_call (seen told faults taken asked old new) (model_files m)) (OnModelWord m (λ d. Never)) came text
      → Ends (in_call (seen told faults taken asked old new) (model_files m ++ r ∷ [])) (OnModelAndList m r (λ d list. Never)) came text
  ends_model old new m r came text h =
      ends_more (seen told faults taken asked old new) (model_files m) (r ∷ []) (OnModelAndList m r (λ d list. Never)) came text
      (ends_on _ (OnModelWord m (λ d. Never)) (OnModelAndList m r (λ d list. Never)) (never_word m (λ d. OnFile file.Requests r (λ text. OnRequests d text (λ list. Never)))) came text h)

  -- after a model was found, the rest of a call decides
  ends_found : (old mid new : S) → StaysShelf told faults taken steady old mid → (m : ModelAsked) (d : ModelData) → TookModel (seen told faults taken asked old mid) m d
      → (rest : List (List ℕ)) (next : ModelData → List FileRead → Outcome → Type 0) (came : Status) (text : List ℕ)
      → Ends (in_call (seen told faults taken asked mid new) rest) (next d) came text
      → Ends (in_call (seen told faults taken asked old new) (model_files m ++ rest)) (OnModelWord m next) came text
  ends_found old mid new stays m d took rest next came text h =
      subst (λ (names : List (List ℕ)). Ends (in_call (seen told faults taken asked old new) (names ++ rest)) (OnModelWord m next) came text) (found_names m took.given d took.found)
      (ends_after told faults taken asked steady old mid new stays took.given took.has took.asks took.quiet rest (next d) (OnModelWord m next) (found_on m took.given d next took.found) came text h)

  -- a list's file that gave no list ends the command, after a model
  pub ends_list : (old mid new : S) → StaysShelf told faults taken steady old mid → (m : ModelAsked) (r : List ℕ) (d : ModelData) → TookModel (seen told faults taken asked old mid) m d
      → (came : Status) (text : List ℕ) → Ends (in_call (seen told faults taken asked mid new) (r ∷ [])) (OnFile file.Requests r (λ b. OnRequests d b (λ list. Never))) came text
      → Ends (in_call (seen told faults taken asked old new) (model_files m ++ r ∷ [])) (OnModelAndList m r (λ d list. Never)) came text
  ends_list old mid new stays m r d took came text h = ends_found old mid new stays m d took (r ∷ []) (λ d. OnFile file.Requests r (λ text. OnRequests d text (λ list. Never))) came text h

  -- both were found, and the rest of the command decides
  pub ends_both : (old mid new : S) → StaysShelf told faults taken steady old mid → (m : ModelAsked) (r : List ℕ) (d : ModelData) (list : Requests) → TookBoth (seen told faults taken asked old mid) m r d list
      → (rest : List (List ℕ)) (next : ModelData → Requests → List FileRead → Outcome → Type 0) (came : Status) (text : List ℕ)
      → Ends (in_call (seen told faults taken asked mid new) rest) (next d list) came text
      → Ends (in_call (seen told faults taken asked old new) (model_files m ++ r ∷ rest)) (OnModelAndList m r next) came text
  ends_both old mid new stays m r d list took rest next came text h =
      let listed : FileRead = record { name = r; bytes = took.text } in
      let names : names_of (took.given ++ listed ∷ []) ≡ names_of took.given ++ r ∷ [] = names_more took.given (listed ∷ []) in
      subst (λ (n : List (List ℕ)). Ends (in_call (seen told faults taken asked old new) n) (OnModelAndList m r next) came text)
      (ap (λ (n : List (List ℕ)). n ++ rest) names ∙ append_assoc (names_of took.given) (r ∷ []) rest ∙ ap (λ (n : List (List ℕ)). n ++ r ∷ rest) (found_names m took.given d took.found))
      (ends_after told faults taken asked steady old mid new stays (took.given ++ listed ∷ []) took.has (subst (λ (n : List (List ℕ)). Asks (asked old) (asked mid) n) (sym names) took.asks) took.quiet
      rest (next d list) (OnModelAndList m r next)
      (λ files outcome c. subst (λ (fs : List FileRead). OnModelAndList m r next fs outcome) (sym (append_assoc took.given (listed ∷ []) files))
      (found_on m took.given d (λ d. OnFile file.Requests r (λ text. OnRequests d text (next d))) took.found (listed ∷ files) outcome (refl, took.within, inr (list, took.spelled, c)))) came text h)

  -- a command whose model and list weren't both found
  pub ends_neither : (old new : S) (m : ModelAsked) (r : List ℕ) (rest : List (List ℕ)) (next : ModelData → Requests → List FileRead → Outcome → Type 0) (came : Status) (text : List ℕ)
      → Ends (in_call (seen told faults taken asked old new) (model_files m ++ r ∷ [])) (OnModelAndList m r (λ d list. Never)) came text
      → Ends (in_call (seen told faults taken asked old new) (model_files m ++ r ∷ rest)) (OnModelAndList m r next) came text
  ends_neither old new m r rest next came text h =
      subst (λ (n : List (List ℕ)). Ends (in_call (seen told faults taken asked old new) n) (OnModelAndList m r next) came text) (append_assoc (model_files m) (r ∷ []) rest)
      (ends_more (seen told faults taken asked old new) (model_files m ++ r ∷ []) rest (OnModelAndList m r next) came text
      (ends_on _ (OnModelAndList m r (λ d list. Never)) (OnModelAndList m r next) (never_both m r next) came text h))

  pub took_both : (old mid new : S) → StaysShelf told faults taken steady old mid → (m : ModelAsked) (r text : List ℕ) (d : ModelData) (list : Requests)
      → TookModel (seen told faults taken asked old mid) m d
      → Took (seen told faults taken asked mid new) file.Requests r text → IsRequests d text list → TookBoth (seen told faults taken asked old new) m r d list
  took_both old mid new stays m r text d list one two spelled = record {
    given = one.given;
    text = text;
    has = has_more (told old) (told mid) one.given (record { name = r; bytes = text } ∷ []) stays.told one.has (two.has, tt);
    within = two.within;
    asks = asks_more (asked old) (asked mid) (asked new) (names_of one.given) (r ∷ []) one.asks two.asks;
    quiet = two.quiet ∙ one.quiet;
    found = one.found;
    spelled = spelled;
  }

-- an image that matches, and what is said of it
pub replies_matching : (d : ModelData) (list : Requests) (bytes : List ℕ) (i : Image) → IsMatching d list bytes i → (came : Status) (text : List ℕ)
    → Replies (Judging d list i) came text → Replies (OnImage d list bytes (Judging d list)) came text
replies_matching d list bytes i m came text h = ends_on no_reads (Judging d list i) (OnImage d list bytes (Judging d list)) (λ files outcome k. inr (i, m, k)) came text h

-- a list within the limits, and what is said of its problem
pub replies_within : (d : ModelData) (list : Requests) (next : List FileRead → Outcome → Type 0) → HasProblem d list → (came : Status) (text : List ℕ) → Replies next came text → Replies (OnProblem d list next) came text
replies_within d list next has came text h = ends_on no_reads next (OnProblem d list next) (λ files outcome k. inr (has, k)) came text h

-- a log, and what is said of it
pub replies_log_read : (p : ProblemData) (bytes : List ℕ) (found : LogData) → log_in bytes ≡ Ok found → (came : Status) (text : List ℕ)
    → Replies (JudgingLog p found) came text → Replies (CheckingBytes p bytes) came text
replies_log_read p bytes found reads came text h = ends_on no_reads (JudgingLog p found) (CheckingBytes p bytes) (λ files outcome k. inr (found, reads, k)) came text h

-- the problem of a list, and what is said of a log's file
pub ends_within : (o : Outside) (name : List ℕ) (d : ModelData) (list : Requests) (p : ProblemData) → HasProblem d list → p ≡ table d list → (came : Status) (text : List ℕ)
    → Ends o (OnFile file.Log name (CheckingBytes p)) came text → Ends o (CheckingList name d list) came text
ends_within o name d list p has is came text h =
    ends_on o (OnFile file.Log name (CheckingBytes p)) (CheckingList name d list) (λ files outcome k. inr (has, subst (λ (q : ProblemData). OnFile file.Log name (CheckingBytes q) files outcome) is k)) came text h

-- a list without a problem
pub replies_no_problem : (name : List ℕ) (d : ModelData) (list : Requests) (came : Status) (text : List ℕ) → Replies (OnProblem d list Never) came text → Replies (CheckingList name d list) came text
replies_no_problem name d list came text h = ends_on no_reads (OnProblem d list Never) (CheckingList name d list) (never_problem d list (OnFile file.Log name (CheckingBytes (table d list)))) came text h

-- the walks of an image
pub replies_walks : (d : ModelData) (bytes : List ℕ) (i : Image) (reply : Reply) (text : List ℕ) → reading d bytes ≡ Ok i → text ≡ walks_text d i
    → reply.status ≡ status.Good → bytes_of reply.text ≡ text → Replies (WalkingBytes d bytes) reply.status (bytes_of reply.text)
replies_walks d bytes i reply text r e s t = ends_as no_reads (WalkingBytes d bytes) status.Good reply.status (walks_text d i) (bytes_of reply.text) s (t ∙ e) ([], inr (i, r, refl), refl)

pub replies_no_walks : (d : ModelData) (bytes : List ℕ) (came : Status) (text : List ℕ) → Replies (OnModelImage d bytes (λ i. Never)) came text → Replies (WalkingBytes d bytes) came text
replies_no_walks d bytes came text h = ends_on no_reads (OnModelImage d bytes (λ i. Never)) (WalkingBytes d bytes) (never_model_image d bytes (λ i. Answered status.Good (walks_text d i))) came text h

-- the text of a model
pub replies_printed : (m : Shipped) (reply : Reply) (text : List ℕ) → text ≡ printed (shipped_data m) → reply.status ≡ status.Good → bytes_of reply.text ≡ text
    → Replies (Printing (record { model = m })) reply.status (bytes_of reply.text)
replies_printed m reply text e s t = ends_as no_reads (Printing (record { model = m })) status.Good reply.status (printed (shipped_data m)) (bytes_of reply.text) s (t ∙ e) ([], refl, refl)

pub replies_made : (n : ℕ) (reply : Reply) (text : List ℕ) → text ≡ made_text n → reply.status ≡ status.Good → bytes_of reply.text ≡ text
    → Replies (Making (record { n = n })) reply.status (bytes_of reply.text)
replies_made n reply text e s t = ends_as no_reads (Making (record { n = n })) status.Good reply.status (made_text n) (bytes_of reply.text) s (t ∙ e) ([], refl, refl)
