-- Over files that are told, a course comes to one outcome, but for a search, which may come to any of its answers.
use Rattle.std.proofs.Common.{◌≡◌, ℕ, ◌+◌, ◌⊎◌, inl, inr, Bool, true, not, List, [], ◌∷◌, Some, Ok, Err, refl, sym, ap, subst, ◌∙◌}
use Rattle.std.specs.Prelude.{All, IsTrue, position, codes}
use Rattle.std.proofs.lemmas.List.Quantifiers.{position-Some}
use Rattle.dt_model.specs.ModelData.{ModelData}
use Rattle.dt_request.specs.declared.list.Requests.{Requests}
use Rattle.dt_image.specs.declared.fault.ImageFault.{ImageFault}
use Rattle.dt_image.specs.declared.image.Image.{Image}
use Rattle.dt_image.specs.Fault.{line_of as image_line, word_of as image_word}
use Rattle.dt_image.specs.Read.{reading}
use Rattle.dt_satisfy.specs.Claims.{claims}
use Rattle.dt_satisfy.specs.Satisfies.{Matches}
use Rattle.dt_terms.specs.Problem.{ProblemData}
use Rattle.dt_sets.specs.declared.Triple.{Triple}
use Rattle.dt_sets.specs.TripleOps.{triple_ops}
use Rattle.dt_log.specs.declared.fault.LogFault.{LogFault}
use Rattle.dt_log.specs.declared.fault.LogFault.TheVariants as faults
use Rattle.dt_log.specs.Fault.{line_of as log_line, item_of as log_item, word_of as log_word}
use Rattle.dt_log.specs.Read.{LogData, reading as log_in}
use Rattle.dt_check.specs.declared.verdict.Verdict.{Verdict}
use Rattle.dt_check.specs.declared.verdict.Verdict.TheVariants.{Closed, Unfinished, Refused}
use Rattle.dt_check.specs.Reading.{verdict_of}
use Rattle.dt_check.proofs.Loop.{is_closed, is_unfinished}
use Rattle.dt_table.specs.Table.{table}
use Rattle.dt_walktext.specs.Printed.{walks_text}
use Rattle.dt_modeltext.specs.Print.{printed}
use Rattle.dt_lemmas.proofs.Options.{some_is}
use Rattle.dt_top.specs.Answers.{IsRefutedBy, IsRecordedBy}
use Rattle.dt_top.specs.Course.{FileRead, Outcome, answers, needs, Answered, OnFile}
use Rattle.dt_top.specs.Lines.{bad_line, tree_line, breaks_line, closed_line, open_line, item_line}
use Rattle.dt_top.specs.Stages.{IsBadImage, OnModelImage, IsMatching, IsRefusedImage, OnImage, IsRefusedLog, OnLog}
use Rattle.dt_top.specs.Models.{ModelAsked, shipped_data, OnModelAndList}
use Rattle.dt_top.specs.Table.{Files, IsSearched}
use Rattle.dt_top.specs.commands.Jobs.{Job, solve, check, replay, walk, model, make, load, Doing}
use Rattle.dt_top.specs.commands.Solve.{Solve, Answering, SolvingList, Solving}
use Rattle.dt_top.specs.commands.Check.{JudgingLog, CheckingBytes, CheckingList}
use Rattle.dt_top.specs.commands.Replay.{Judging, JudgingBytes}
use Rattle.dt_top.specs.commands.Walk.{WalkingBytes}
use Rattle.dt_top.specs.commands.Make.{made_text}
use Rattle.dt_top.specs.commands.Load.{Load, end_status, load_text, Loading}
use Rattle.dt_top.specs.declared.commands.load.LoadEnd.{LoadEnd}
use Rattle.dt_top.specs.declared.commands.load.LoadEnd.TheVariants as ends
use Rattle.dt_top.specs.declared.file.File.{File}
use Rattle.dt_top.specs.declared.file.File.TheVariants as file
use Rattle.dt_top.specs.declared.status.Status.{Status}
use Rattle.dt_top.specs.declared.status.Status.TheVariants as status
use Rattle.dt_top.proofs.Alike.{AreAlike, alike_answered, alike_file, alike_both, alike_problem}

-- two ways to stop are the same
abbrev pub Same : Outcome → Outcome → Type 0
Same out end = out ≡ end

same_is : (out end : Outcome) → out ≡ end → Same out end
same_is out end e = e

abbrev pub IsSingle : Files → (List FileRead → Outcome → Type 0) → Type 0
IsSingle files course = AreAlike files Same course course

single_answered : (files : Files) (came : Status) (text : List ℕ) → IsSingle files (Answered came text)
single_answered files came text = alike_answered files Same same_is came text

single_file : (files : Files) (kind : File) (name : List ℕ) (next : List ℕ → List FileRead → Outcome → Type 0) → ((bytes : List ℕ) → IsSingle files (next bytes)) → IsSingle files (OnFile kind name next)
single_file files kind name next one = alike_file files Same same_is kind name next next one

single_both : (files : Files) (m : ModelAsked) (r : List ℕ) (next : ModelData → Requests → List FileRead → Outcome → Type 0) → ((d : ModelData) (list : Requests) → IsSingle files (next d list)) → IsSingle files (OnModelAndList m r next)
single_both files m r next one = alike_both files Same same_is m r next next one

-- ---- images

one_image : (d : ModelData) (bytes : List ℕ) (i j : Image) → reading d bytes ≡ Ok i → reading d bytes ≡ Ok j → i ≡ j
one_image d bytes i j p q = let e : Ok i ≡ Ok j = sym p ∙ q in cc

image_fault : (d : ModelData) (bytes : List ℕ) (e f : ImageFault) → reading d bytes ≡ Err e → reading d bytes ≡ Err f → e ≡ f
image_fault d bytes e f p q = let k = sym p ∙ q in cc

no_image : (d : ModelData) (bytes : List ℕ) (e : ImageFault) (i : Image) → reading d bytes ≡ Err e → reading d bytes ≡ Ok i → ⊥
no_image d bytes e i p q = let k : Err e ≡ Ok i = sym p ∙ q in cc

bad_image_one : (d : ModelData) (bytes text line : List ℕ) → IsBadImage d bytes text → IsBadImage d bytes line → text ≡ line
bad_image_one d bytes text line a b =
    let same = image_fault d bytes a.fault b.fault a.refused b.refused in
    let n = some_is a.number b.number (sym a.place ∙ ap image_line same ∙ b.place) in
    a.line ∙ ap (λ k. bad_line (codes "image") k (image_word a.fault)) n ∙ ap (λ f. bad_line (codes "image") b.number (image_word f)) same ∙ sym b.line

refused_image_one : (d : ModelData) (list : Requests) (bytes text line : List ℕ) → IsRefusedImage d list bytes text → IsRefusedImage d list bytes line → text ≡ line
refused_image_one d list bytes text line (inl a) (inl b) = bad_image_one d bytes text line a b
refused_image_one d list bytes text line (inl a) (inr b) = absurd (no_image d bytes a.fault b.0 a.refused b.1)
refused_image_one d list bytes text line (inr a) (inl b) = absurd (no_image d bytes b.fault a.0 b.refused a.1)
refused_image_one d list bytes text line (inr a) (inr b) = a.3 ∙ sym b.3

single_model_image : (files : Files) (d : ModelData) (bytes : List ℕ) (next : Image → List FileRead → Outcome → Type 0) → ((i : Image) → IsSingle files (next i)) → IsSingle files (OnModelImage d bytes next)
single_model_image files d bytes next one given other out end hg ho sg so (inl p) (inl q) =
    single_answered files status.InputRefused p.0 given other out end hg ho sg so p.2 (subst (λ t. Answered status.InputRefused t other end) (bad_image_one d bytes q.0 p.0 q.1 p.1) q.2)
single_model_image files d bytes next one given other out end hg ho sg so (inl p) (inr q) = let r = p.1 in absurd (no_image d bytes r.fault q.0 r.refused q.1)
single_model_image files d bytes next one given other out end hg ho sg so (inr p) (inl q) = let r = q.1 in absurd (no_image d bytes r.fault p.0 r.refused p.1)
single_model_image files d bytes next one given other out end hg ho sg so (inr p) (inr q) =
    one p.0 given other out end hg ho sg so p.2 (subst (λ i. next i other end) (one_image d bytes q.0 p.0 q.1 p.1) q.2)

not_matching : (d : ModelData) (list : Requests) (bytes text : List ℕ) (i : Image) → IsRefusedImage d list bytes text → IsMatching d list bytes i → ⊥
not_matching d list bytes text i (inl a) m = no_image d bytes a.fault i a.refused m.spelled
not_matching d list bytes text i (inr a) m = a.2 (subst (λ j. Matches list j) (one_image d bytes i a.0 m.spelled a.1) m.matches)

single_image : (files : Files) (d : ModelData) (list : Requests) (bytes : List ℕ) (next : Image → List FileRead → Outcome → Type 0) → ((i : Image) → IsSingle files (next i)) → IsSingle files (OnImage d list bytes next)
single_image files d list bytes next one given other out end hg ho sg so (inl p) (inl q) =
    single_answered files status.InputRefused p.0 given other out end hg ho sg so p.2 (subst (λ t. Answered status.InputRefused t other end) (refused_image_one d list bytes q.0 p.0 q.1 p.1) q.2)
single_image files d list bytes next one given other out end hg ho sg so (inl p) (inr q) = absurd (not_matching d list bytes p.0 q.0 p.1 q.1)
single_image files d list bytes next one given other out end hg ho sg so (inr p) (inl q) = absurd (not_matching d list bytes q.0 p.0 q.1 p.1)
single_image files d list bytes next one given other out end hg ho sg so (inr p) (inr q) =
    let mp = p.1 in let mq = q.1 in
    one p.0 given other out end hg ho sg so p.2 (subst (λ i. next i other end) (one_image d bytes q.0 p.0 mq.spelled mp.spelled) q.2)

-- ---- the judge

-- where a claim is broken, not all hold
pub one_broken : (held : List Bool) (k : ℕ) → position not held ≡ Some k → All IsTrue held → ⊥
one_broken held k e h =
    let p = position-Some not held k true e in
    let broken : not true ≡ true = subst (λ b. not b ≡ true) (h k true p.0) p.1 in
    absurd cc

single_judging : (files : Files) (d : ModelData) (list : Requests) (i : Image) → IsSingle files (Judging d list i)
single_judging files d list i given other out end hg ho sg so (inl p) (inl q) = single_answered files status.Good _ given other out end hg ho sg so p.1 q.1
single_judging files d list i given other out end hg ho sg so (inl p) (inr q) = let s = p.0 in absurd (one_broken (claims d list i) q.0 q.1 s.claims)
single_judging files d list i given other out end hg ho sg so (inr p) (inl q) = let s = q.0 in absurd (one_broken (claims d list i) p.0 p.1 s.claims)
single_judging files d list i given other out end hg ho sg so (inr p) (inr q) =
    single_answered files status.No (breaks_line (p.0 + 1)) given other out end hg ho sg so p.2
    (subst (λ k. Answered status.No (breaks_line (k + 1)) other end) (some_is q.0 p.0 (sym q.1 ∙ p.1)) q.2)

-- ---- logs

one_log : (bytes : List ℕ) (a b : LogData) → log_in bytes ≡ Ok a → log_in bytes ≡ Ok b → a ≡ b
one_log bytes a b p q = let e : Ok a ≡ Ok b = sym p ∙ q in cc

no_log : (bytes : List ℕ) (e : LogFault) (a : LogData) → log_in bytes ≡ Err e → log_in bytes ≡ Ok a → ⊥
no_log bytes e a p q = let k : Err e ≡ Ok a = sym p ∙ q in cc

log_fault : (bytes : List ℕ) (e f : LogFault) → log_in bytes ≡ Err e → log_in bytes ≡ Err f → e ≡ f
log_fault bytes e f p q = let k = sym p ∙ q in cc

-- a fault names a line or an item, not both
line_or_item : (f : LogFault) (n m : ℕ) → log_line f ≡ Some n → log_item f ≡ Some m → ⊥
line_or_item faults.Memory n m p q = cc
line_or_item (faults.Lex l) n m p q = cc
line_or_item (faults.Form k) n m p q = cc
line_or_item (faults.NotATree k) n m p q = cc

-- what is said of a fault
abbrev Says : LogFault → ℕ → List ℕ → Type 0
Says f n text = ((log_line f ≡ Some n) × (text ≡ bad_line (codes "log") n (log_word f))) ⊎ ((log_item f ≡ Some n) × (text ≡ tree_line n))

says_one : (f : LogFault) (n m : ℕ) (text line : List ℕ) → Says f n text → Says f m line → text ≡ line
says_one f n m text line (inl p) (inl q) = p.1 ∙ ap (λ k. bad_line (codes "log") k (log_word f)) (some_is n m (sym p.0 ∙ q.0)) ∙ sym q.1
says_one f n m text line (inl p) (inr q) = absurd (line_or_item f n m p.0 q.0)
says_one f n m text line (inr p) (inl q) = absurd (line_or_item f m n q.0 p.0)
says_one f n m text line (inr p) (inr q) = p.1 ∙ ap tree_line (some_is n m (sym p.0 ∙ q.0)) ∙ sym q.1

refused_log_one : (bytes text line : List ℕ) → IsRefusedLog bytes text → IsRefusedLog bytes line → text ≡ line
refused_log_one bytes text line a b =
    let same = log_fault bytes a.fault b.fault a.refused b.refused in
    says_one b.fault a.number b.number text line (subst (λ f. Says f a.number text) same a.line) b.line

single_log : (files : Files) (bytes : List ℕ) (next : LogData → List FileRead → Outcome → Type 0) → ((log : LogData) → IsSingle files (next log)) → IsSingle files (OnLog bytes next)
single_log files bytes next one given other out end hg ho sg so (inl p) (inl q) =
    single_answered files status.InputRefused p.0 given other out end hg ho sg so p.2 (subst (λ t. Answered status.InputRefused t other end) (refused_log_one bytes q.0 p.0 q.1 p.1) q.2)
single_log files bytes next one given other out end hg ho sg so (inl p) (inr q) = let r = p.1 in absurd (no_log bytes r.fault q.0 r.refused q.1)
single_log files bytes next one given other out end hg ho sg so (inr p) (inl q) = let r = q.1 in absurd (no_log bytes r.fault p.0 r.refused p.1)
single_log files bytes next one given other out end hg ho sg so (inr p) (inr q) =
    one p.0 given other out end hg ho sg so p.2 (subst (λ l. next l other end) (one_log bytes q.0 p.0 q.1 p.1) q.2)

-- ---- the checker's verdict

-- the status and the line of a verdict
abbrev pub verdict_status : Verdict → Status
verdict_status (Closed s) = status.Good
verdict_status (Unfinished n) = status.Spent
verdict_status (Refused item cause) = status.No

abbrev pub verdict_line : Verdict → List ℕ
verdict_line (Closed s) = closed_line s
verdict_line (Unfinished n) = open_line n
verdict_line (Refused item cause) = item_line item cause

abbrev pub verdict_on : ProblemData → LogData → Verdict
verdict_on p log = verdict_of triple_ops p log.0 log.1

pub closed_on : (p : ProblemData) (log : LogData) (s : ℕ) → IsRefutedBy p log s → verdict_on p log ≡ Closed s
closed_on p log s r = is_closed Triple triple_ops p log.0 log.1 (verdict_on p log) s refl r

pub unfinished_on : (p : ProblemData) (log : LogData) (n : ℕ) → IsRecordedBy p log n → verdict_on p log ≡ Unfinished n
unfinished_on p log n r = is_unfinished Triple triple_ops p log.0 log.1 (verdict_on p log) n refl r

judged_so : (p : ProblemData) (log : LogData) (files : List FileRead) (out : Outcome) → JudgingLog p log files out → Answered (verdict_status (verdict_on p log)) (verdict_line (verdict_on p log)) files out
judged_so p log files out (inl h) = subst (λ v. Answered (verdict_status v) (verdict_line v) files out) (sym (closed_on p log h.0 h.1)) h.2
judged_so p log files out (inr (inl h)) = subst (λ v. Answered (verdict_status v) (verdict_line v) files out) (sym (unfinished_on p log h.0 h.1)) h.2
judged_so p log files out (inr (inr h)) = subst (λ v. Answered (verdict_status v) (verdict_line v) files out) (sym h.2) h.3

single_judging_log : (files : Files) (p : ProblemData) (log : LogData) → IsSingle files (JudgingLog p log)
single_judging_log files p log given other out end hg ho sg so a b =
    single_answered files (verdict_status (verdict_on p log)) (verdict_line (verdict_on p log)) given other out end hg ho sg so (judged_so p log given out a) (judged_so p log other end b)

single_checking : (files : Files) (name : List ℕ) (d : ModelData) (list : Requests) → IsSingle files (CheckingList name d list)
single_checking files name d list =
    let p = table d list in
    alike_problem files Same same_is d list (OnFile file.Log name (CheckingBytes p)) (OnFile file.Log name (CheckingBytes p))
    (single_file files file.Log name (CheckingBytes p) (λ bytes. single_log files bytes (JudgingLog p) (λ log. single_judging_log files p log)))

-- ---- a search

-- it answered as a search does
abbrev pub IsSearchedOut : Outcome → Type 0
IsSearchedOut (answers came text) = IsSearched came
IsSearchedOut (needs kind name) = ⊥

-- the same, or answers of a search both
abbrev pub Agree : Outcome → Outcome → Type 0
Agree out end = (out ≡ end) ⊎ (IsSearchedOut out × IsSearchedOut end)

agree_is : (out end : Outcome) → out ≡ end → Agree out end
agree_is out end e = inl e

searched_out : (due : Status) (want : List ℕ) (files : List FileRead) (out : Outcome) → IsSearched due → Answered due want files out → IsSearchedOut out
searched_out due want [] out s h = subst IsSearchedOut (sym h) s
searched_out due want (f ∷ files) out s h = absurd h

answering_out : (d : ModelData) (list : Requests) (splits : ℕ) (files : List FileRead) (out : Outcome) → Answering d list splits files out → IsSearchedOut out
answering_out d list splits files out (inl h) = searched_out status.Good h.0 files out tt h.2
answering_out d list splits files out (inr (inl h)) = searched_out status.No h.0 files out tt h.2
answering_out d list splits files out (inr (inr h)) = searched_out status.Spent h.0 files out tt h.2

-- ways to stop of `solve` agree
pub agree_solving : (files : Files) (job : Solve) → AreAlike files Agree (Solving job) (Solving job)
agree_solving files job =
    alike_both files Agree agree_is job.model job.requests (SolvingList job.splits) (SolvingList job.splits)
    (λ d list. alike_problem files Agree agree_is d list (Answering d list job.splits) (Answering d list job.splits)
    (λ given other out end hg ho sg so p q. inr (answering_out d list job.splits given out p, answering_out d list job.splits other end q)))

-- an end of a search is an answer of one
end_searched : (end : LoadEnd) → IsSearched (end_status end)
end_searched (ends.Image words) = tt
end_searched ends.Impossible = tt
end_searched ends.Budget = tt

loading_out : (job : Load) (files : List FileRead) (out : Outcome) → Loading job files out → IsSearchedOut out
loading_out job files out h = searched_out (end_status h.0) (load_text job.n h.0) files out (end_searched h.0) h.2

-- ways to stop of `load` agree
pub agree_loading : (files : Files) (job : Load) → AreAlike files Agree (Loading job) (Loading job)
agree_loading files job given other out end hg ho sg so p q = inr (loading_out job given out p, loading_out job other end q)

-- ---- the commands

-- a command that doesn't search
abbrev pub IsPlain : Job → Type 0
IsPlain (solve job) = ⊥
IsPlain (load job) = ⊥
IsPlain _ = Unit {0}

pub single_doing : (files : Files) (job : Job) → IsPlain job → IsSingle files (Doing job)
single_doing files (solve job) plain = absurd plain
single_doing files (check job) plain = single_both files job.model job.requests (CheckingList job.log) (single_checking files job.log)
single_doing files (replay job) plain =
    single_both files job.model job.requests (λ d list. OnFile file.Image job.image (JudgingBytes d list))
    (λ d list. single_file files file.Image job.image (JudgingBytes d list) (λ bytes. single_image files d list bytes (Judging d list) (single_judging files d list)))
single_doing files (walk job) plain =
    single_file files file.Image job.image (WalkingBytes (shipped_data job.model))
    (λ bytes. single_model_image files (shipped_data job.model) bytes (λ i. Answered status.Good (walks_text (shipped_data job.model) i)) (λ i. single_answered files status.Good (walks_text (shipped_data job.model) i)))
single_doing files (model job) plain = single_answered files status.Good (printed (shipped_data job.model))
single_doing files (make job) plain = single_answered files status.Good (made_text job.n)
single_doing files (load job) plain = absurd plain
