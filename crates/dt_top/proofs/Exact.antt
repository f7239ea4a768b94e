-- Over files that are told, where no read failed, a call comes to what words and files have.
use Rattle.std.proofs.Common.{◌≡◌, ◌≢◌, ℕ, ◌+◌, ◌^◌, ◌≤◌, ◌⊎◌, true, inl, inr, not, List, [], ◌∷◌, ◌++◌, length, Option, Some, None, Ok, refl, sym, ap, subst, ◌∙◌, arith}
use Rattle.std.specs.Prelude.{Bool, IsTrue, All, position, codes}
use Rattle.dt_edge.specs.Causes.{Rose}
use Rattle.dt_edge.specs.Told.{IsAbsent, IsLong, after}
use Rattle.dt_model.specs.ModelData.{ModelData}
use Rattle.dt_request.specs.Choices.{choice_bits}
use Rattle.dt_request.specs.declared.list.Requests.{Requests}
use Rattle.dt_image.specs.declared.image.Image.{Image}
use Rattle.dt_satisfy.specs.Claims.{claims}
use Rattle.std.proofs.lemmas.Bool.{le-ltb}
use Rattle.dt_image.proofs.ReadImages.{reads_image}
use Rattle.dt_satisfy.specs.Satisfies.{Satisfies, verdict_of}
use Rattle.dt_satisfy.specs.declared.verdict.Judged.TheVariants as judged
use Rattle.dt_satisfy.proofs.Verdicts.{satisfies_all}
use Rattle.dt_top.specs.Course.{FileRead, Outcome, answers, needs, Answered, OnFile}
use Rattle.dt_top.specs.Files.{limit_of}
use Rattle.dt_terms.specs.Problem.{ProblemData}
use Rattle.dt_sets.specs.declared.Triple.{Triple}
use Rattle.dt_sets.specs.TripleOps.{triple_ops}
use Rattle.dt_log.specs.Read.{LogData, reading as log_in}
use Rattle.dt_log.specs.Shapes.{is_tree}
use Rattle.dt_check.specs.declared.verdict.Cause.{Cause}
use Rattle.dt_check.specs.declared.verdict.Verdict.{Verdict}
use Rattle.dt_check.specs.declared.verdict.Verdict.TheVariants.{Closed, Unfinished, Refused}
use Rattle.dt_check.proofs.Loop.{closed_is, unfinished_is}
use Rattle.dt_table.specs.Sizes.{read_product, done_product, term_product, most_read_product, most_done_product, most_term_product, IsWithin}
use Rattle.dt_table.specs.Table.{table}
use Rattle.dt_top.specs.Answers.{IsRefutedBy, IsRecordedBy}
use Rattle.dt_top.specs.Headline.{HasModel, AskedFor, IsAnswer, IsDecision, AskedToCheck, IsChecked, IsAgreed, AskedToJudge, AskedToWalk, AskedToPrint, AskedToMake, AskedToLoad, IsLoaded}
use Rattle.dt_top.specs.Lines.{read_fault_line, too_long_line, breaks_line, closed_line, open_line, item_line}
use Rattle.dt_top.specs.Models.{ModelAsked, shipped, of_file, shipped_data, IsModelOf, OnModelAndList}
use Rattle.dt_top.specs.Seen.{Seen, IsQuiet, HasAll}
use Rattle.dt_modeltext.specs.Print.{printed as text_of_model}
use Rattle.dt_walktext.specs.Printed.{walks_text}
use Rattle.dt_top.specs.Table.{Outside, Ends, JobEnds, in_call, in_files, Row, Files, Expected, IsSearched, IsFixed, IsMemoryOrWriteFault, Comes, ComesAmong, Writes}
use Rattle.dt_top.specs.commands.Jobs.{Job, solve, check, replay, walk as walk_job, model as print_job, make as make_job, load as load_job, job_of, files_of, Doing}
use Rattle.dt_top.specs.commands.Make.{made_text}
use Rattle.dt_top.specs.declared.commands.load.LoadEnd.{LoadEnd}
use Rattle.dt_make.specs.Made.{made}
use Rattle.dt_top.specs.commands.Load.{IsLoadEnd, end_status, load_text, Loading}
use Rattle.dt_top.specs.Stages.{IsRequests, OnRequests, IsTooLarge, HasProblem}
use Rattle.dt_top.specs.commands.Replay.{JudgingBytes}
use Rattle.dt_top.specs.commands.Solve.{Solve, Answering, SolvingList, Solving}
use Rattle.dt_top.specs.commands.Check.{IsRefusedItem, JudgingLog, CheckingList, Checking}
use Rattle.dt_top.specs.declared.file.File.{File}
use Rattle.dt_top.specs.declared.file.File.TheVariants as file
use Rattle.dt_top.specs.declared.models.Shipped.{Shipped}
use Rattle.dt_top.specs.declared.models.Shipped.TheVariants.{Sv39, Sv39x4}
use Rattle.dt_top.specs.declared.status.Status.{Status}
use Rattle.dt_top.specs.declared.status.Status.TheVariants as status
use Rattle.dt_model.specs.Faults.{IsAccepted}
use Rattle.dt_model.proofs.Certified.{certified_is}
use Rattle.dt_sv39.specs.Shipped.{sv39_data}
use Rattle.dt_sv39.proofs.Acceptance.{sv39_certified}
use Rattle.dt_sv39x4.specs.Shipped.{sv39x4_data}
use Rattle.dt_sv39x4.proofs.Acceptance.{sv39x4_certified}
use Rattle.dt_top.proofs.Commanded.{found_on}
use Rattle.dt_top.proofs.Ended.{ends_along, has_more}
use Rattle.dt_top.proofs.Alike.{Stops, AreAlike, alike_both, not_within}
use Rattle.dt_top.proofs.ReadLogs.{read_is}
use Rattle.dt_top.proofs.Single.{IsSingle, single_doing, verdict_on, IsSearchedOut, Agree, agree_solving, agree_loading}

-- ---- what is expected is one status and one text

-- the status and the text of an outcome
abbrev Says : Files → Outcome → Status → List ℕ → Type 0
Says files (answers came text) other line = (came ≡ other) × (text ≡ line)
Says files (needs kind name) other line =
    ((files name ≡ None) × (other ≡ status.ReadFault) × (line ≡ read_fault_line kind))
    ⊎ (IsLong (Some files) name (limit_of kind) × (other ≡ status.TooLong) × (line ≡ too_long_line kind))

record Stopped (files : Files) (course : List FileRead → Outcome → Type 0) (came : Status) (text : List ℕ) : Type 0 where
  given : List FileRead
  out : Outcome
  goes : course given out
  has : HasAll (Some files) given
  stops : Stops files out
  says : Says files out came text

answered : (files : Files) (course : List FileRead → Outcome → Type 0) (came : Status) (text : List ℕ) (given : List FileRead) → course given (answers came text) → HasAll (Some files) given → Stopped files course came text
answered files course came text given c h = record { given = given; out = answers came text; goes = c; has = h; stops = tt; says = (refl, refl) }

stopped : (files : Files) (course : List FileRead → Outcome → Type 0) (came : Status) (text : List ℕ) → Ends (in_files ⊥ files) course came text → Stopped files course came text
stopped files course status.ReadFault text h = let f = h.4 in record { given = h.0; out = needs h.1 h.2; goes = h.3; has = f.0; stops = inl f.1; says = inl (f.1, refl, h.5) }
stopped files course status.TooLong text h = let f = h.4 in record { given = h.0; out = needs h.1 h.2; goes = h.3; has = f.0; stops = inr f.1; says = inr (f.1, refl, h.5) }
stopped files course status.Memory text h = absurd h.0
stopped files course status.Words text h = absurd h
stopped files course status.WriteFault text h = absurd h
stopped files course status.Good text h = answered files course status.Good text h.0 h.1 h.2
stopped files course status.No text h = answered files course status.No text h.0 h.1 h.2
stopped files course status.Spent text h = answered files course status.Spent text h.0 h.1 h.2
stopped files course status.ModelRefused text h = answered files course status.ModelRefused text h.0 h.1 h.2
stopped files course status.RequestsRefused text h = answered files course status.RequestsRefused text h.0 h.1 h.2
stopped files course status.InputRefused text h = answered files course status.InputRefused text h.0 h.1 h.2
stopped files course status.TooLarge text h = answered files course status.TooLarge text h.0 h.1 h.2

absent_long : (files : Files) (name : List ℕ) (n : ℕ) → files name ≡ None → IsLong (Some files) name n → ⊥
absent_long files name n e l = let k : None ≡ Some l.0 = sym e ∙ l.1 in cc

says_one : (files : Files) (out : Outcome) (a b : Status) (x y : List ℕ) → Says files out a x → Says files out b y → (a ≡ b) × (x ≡ y)
says_one files (answers came text) a b x y p q = (sym p.0 ∙ q.0, sym p.1 ∙ q.1)
says_one files (needs kind name) a b x y (inl p) (inl q) = (p.1 ∙ sym q.1, p.2 ∙ sym q.2)
says_one files (needs kind name) a b x y (inl p) (inr q) = absurd (absent_long files name (limit_of kind) p.0 q.0)
says_one files (needs kind name) a b x y (inr p) (inl q) = absurd (absent_long files name (limit_of kind) q.0 p.0)
says_one files (needs kind name) a b x y (inr p) (inr q) = (p.1 ∙ sym q.1, p.2 ∙ sym q.2)

-- as two ways to stop say
stopped_one : (files : Files) (course : List FileRead → Outcome → Type 0) (a b : Status) (x y : List ℕ) → (s : Stopped files course a x) (t : Stopped files course b y) → s.out ≡ t.out → (a ≡ b) × (x ≡ y)
stopped_one files course a b x y s t e = says_one files s.out a b x y s.says (subst (λ o. Says files o b y) (sym e) t.says)

ends_one : (files : Files) (course : List FileRead → Outcome → Type 0) → IsSingle files course → (a b : Status) (x y : List ℕ)
    → Ends (in_files ⊥ files) course a x → Ends (in_files ⊥ files) course b y → (a ≡ b) × (x ≡ y)
ends_one files course one a b x y p q =
    let s = stopped files course a x p in
    let t = stopped files course b y q in
    stopped_one files course a b x y s t (one s.given t.given s.out t.out s.has t.has s.stops t.stops s.goes t.goes)

-- what was said of an answer of a search is an answer of a search
said_searched : (files : Files) (out : Outcome) (came : Status) (text : List ℕ) → Says files out came text → IsSearchedOut out → IsSearched came
said_searched files (answers due want) came text h s = subst IsSearched h.0 s
said_searched files (needs kind name) came text h s = absurd s

search_one : (files : Files) (course : List FileRead → Outcome → Type 0) → AreAlike files Agree course course → (a b : Status) (x y : List ℕ) → (IsSearched b → ⊥)
    → Ends (in_files ⊥ files) course a x → Ends (in_files ⊥ files) course b y → (a ≡ b) × (x ≡ y)
search_one files course agree a b x y fixed p q =
    let s = stopped files course a x p in
    let t = stopped files course b y q in
    elim (agree s.given t.given s.out t.out s.has t.has s.stops t.stops s.goes t.goes) [
      | inl e ↦ stopped_one files course a b x y s t e
      | inr both ↦ absurd (fixed (said_searched files t.out b y t.says both.1))
    ]

job_one : (files : Files) (job : Option Job) (a b : Status) (x y : List ℕ) → IsFixed job b → JobEnds (λ names. in_files ⊥ files) job a x → JobEnds (λ names. in_files ⊥ files) job b y → (a ≡ b) × (x ≡ y)
job_one files None a b x y fixed p q = (p.0 ∙ sym q.0, p.1 ∙ sym q.1)
job_one files (Some (solve job)) a b x y fixed p q = search_one files (Solving job) (agree_solving files job) a b x y fixed p q
job_one files (Some (load_job job)) a b x y fixed p q = search_one files (Loading job) (agree_loading files job) a b x y fixed p q
job_one files (Some (check job)) a b x y fixed p q = ends_one files (Doing (check job)) (single_doing files (check job) tt) a b x y p q
job_one files (Some (replay job)) a b x y fixed p q = ends_one files (Doing (replay job)) (single_doing files (replay job) tt) a b x y p q
job_one files (Some (walk_job job)) a b x y fixed p q = ends_one files (Doing (walk_job job)) (single_doing files (walk_job job) tt) a b x y p q
job_one files (Some (print_job job)) a b x y fixed p q = ends_one files (Doing (print_job job)) (single_doing files (print_job job) tt) a b x y p q
job_one files (Some (make_job job)) a b x y fixed p q = ends_one files (Doing (make_job job)) (single_doing files (make_job job) tt) a b x y p q

-- ---- what a call comes to is expected

no_want : (w : Type 0) (files : Files) (course : List FileRead → Outcome → Type 0) (came : Status) (text : List ℕ) → (came ≡ status.Memory → ⊥)
    → Ends (in_files w files) course came text → Ends (in_files ⊥ files) course came text
no_want w files course status.Memory text not h = absurd (not refl)
no_want w files course status.ReadFault text not h = h
no_want w files course status.TooLong text not h = h
no_want w files course status.Words text not h = h
no_want w files course status.WriteFault text not h = h
no_want w files course status.Good text not h = h
no_want w files course status.No text not h = h
no_want w files course status.Spent text not h = h
no_want w files course status.ModelRefused text not h = h
no_want w files course status.RequestsRefused text not h = h
no_want w files course status.InputRefused text not h = h
no_want w files course status.TooLarge text not h = h

-- memory ran out, or a write failed, or neither
mishap_or : (came : Status) → IsMemoryOrWriteFault came ⊎ ((came ≡ status.Memory → ⊥) × (came ≡ status.WriteFault → ⊥))
mishap_or status.Memory = inl (inl refl)
mishap_or status.WriteFault = inl (inr refl)
mishap_or status.Good = inr ((λ e. cc e), (λ e. cc e))
mishap_or status.No = inr ((λ e. cc e), (λ e. cc e))
mishap_or status.Spent = inr ((λ e. cc e), (λ e. cc e))
mishap_or status.Words = inr ((λ e. cc e), (λ e. cc e))
mishap_or status.ModelRefused = inr ((λ e. cc e), (λ e. cc e))
mishap_or status.RequestsRefused = inr ((λ e. cc e), (λ e. cc e))
mishap_or status.InputRefused = inr ((λ e. cc e), (λ e. cc e))
mishap_or status.ReadFault = inr ((λ e. cc e), (λ e. cc e))
mishap_or status.TooLong = inr ((λ e. cc e), (λ e. cc e))
mishap_or status.TooLarge = inr ((λ e. cc e), (λ e. cc e))

module _ (s : Seen) (files : Files) (told : s.told ≡ Some files) (quiet : Rose s.faults s.faults_after → ⊥) where
  has : (given : List FileRead) → HasAll s.told given → HasAll (Some files) given
  has given h = subst (λ t. HasAll t given) told h

  job_expected : (job : Option Job) (came : Status) (text : List ℕ) → (came ≡ status.Memory → ⊥) → JobEnds (in_call s) job came text → JobEnds (λ names. in_files ⊥ files) job came text
  job_expected None came text not h = (h.0, h.1, tt)
  job_expected (Some job) came text not h =
      no_want (Unit {0}) files (Doing job) came text not
      (ends_along (in_call s (files_of job)) (in_files (Unit {0}) files) (Doing job) (Doing job) (λ given. given) (λ given out g. g)
      (λ given g. has given g.0)
      (λ given name g. (has given g.0, elim g.2 [ inl rose ↦ absurd (quiet rose) | inr none ↦ subst (λ t. IsAbsent t name) told none ]))
      (λ given file name g. let l = g.2 in (has given g.0, subst (λ t. IsLong t name (limit_of file)) told l.0))
      (λ g. tt) came text h)

  came_exactly : (words : List (List ℕ)) (came due : Status) (text want : List ℕ) → (came ≡ status.Memory → ⊥) → Row s words came text → IsFixed (job_of words) due → Expected words files due want → (came ≡ due) × (text ≡ want)
  came_exactly words came due text want not row fixed d = job_one files (job_of words) came due text want fixed (job_expected (job_of words) came text not row) d

  pub comes_exactly : (words : List (List ℕ)) (came : Status) (old new : Option (List ℕ)) (sent sent_after : Option (List (List ℕ)))
      → (came ≢ status.WriteFault → Writes (Row s words came) old new sent sent_after) → (due : Status) (want : List ℕ) → IsFixed (job_of words) due → Expected words files due want → Comes due want came old new
  comes_exactly words came old new sent sent_after writes due want fixed d =
      elim (mishap_or came) [
        | inl m ↦ inr m
        | inr not ↦
            let w = writes not.1 in
            let e = came_exactly words came due w.0 want not.0 w.1 fixed d in
            inl (e.0, w.2 ∙ ap (after old) e.1)
      ]

  pub comes_among : (words : List (List ℕ)) (came : Status) (old new : Option (List ℕ)) (sent sent_after : Option (List (List ℕ)))
      → (came ≢ status.WriteFault → Writes (Row s words came) old new sent sent_after) → ComesAmong (Expected words files) came old new
  comes_among words came old new sent sent_after writes =
      elim (mishap_or came) [
        | inl m ↦ inr m
        | inr not ↦ let w = writes not.1 in inl (w.0, job_expected (job_of words) came w.0 not.0 w.1, w.2)
      ]

-- ---- the headlines

-- the files of a model that words name
model_given : (files : Files) (model : ModelAsked) (d : ModelData) → HasModel files model d → (given : List FileRead) × HasAll (Some files) given × IsModelOf model given d
model_given files (shipped s) d h = ([], tt, h)
model_given files (of_file name) d h = (record { name = name; bytes = h.0 } ∷ [], (h.1, tt), (refl, h.2, h.3))

shipped_accepted : (s : Shipped) → IsAccepted (shipped_data s)
shipped_accepted Sv39 = certified_is sv39_data sv39_certified
shipped_accepted Sv39x4 = certified_is sv39x4_data sv39x4_certified

model_accepted : (files : Files) (model : ModelAsked) (d : ModelData) → HasModel files model d → IsAccepted d
model_accepted files (shipped s) d h = subst IsAccepted (sym h) (shipped_accepted s)
model_accepted files (of_file name) d h = let text = h.3 in text.accepted

-- the files of a model and a list, before others, and what a command says of them
both_given : (files : Files) (model : ModelAsked) (requests text : List ℕ) (d : ModelData) (list : Requests) (next : ModelData → Requests → List FileRead → Outcome → Type 0) (more : List FileRead) (outcome : Outcome)
    → HasModel files model d → files requests ≡ Some text → length text ≤ limit_of file.Requests → IsRequests d text list → HasAll (Some files) more → next d list more outcome
    → (given : List FileRead) × OnModelAndList model requests next given outcome × HasAll (Some files) given
both_given files model requests text d list next more outcome h has within spelled others goes =
    let m = model_given files model d h in
    let listed : FileRead = record { name = requests; bytes = text } in
    (m.0 ++ listed ∷ more, found_on model m.0 d (λ d. OnFile file.Requests requests (λ t. OnRequests d t (next d))) m.2 (listed ∷ more) outcome (refl, within, inr (list, spelled, goes)), has_more (Some files) (Some files) m.0 (listed ∷ more) refl m.1 (has, others))

-- ---- the headline

-- an outcome that comes only after this model and this list
Found : ModelData → Requests → ModelData → Requests → List FileRead → Outcome → Type 0
Found d list e other files outcome = (e ≡ d) × (other ≡ list) × (outcome ≡ answers status.WriteFault [])

-- the same, or an answer of the search on this list
abbrev Answered_or : ModelData → Requests → ℕ → Outcome → Outcome → Type 0
Answered_or d list splits out end = (out ≡ end) ⊎ ((files : List FileRead) × Answering d list splits files out)

within_has : (d : ModelData) (list : Requests) → IsWithin d list → HasProblem d list
within_has d list w =
    let a = le-ltb most_read_product (read_product d list) w.reads in
    let b = le-ltb most_done_product (done_product d list) w.dones in
    let c = le-ltb most_term_product (term_product d list) w.terms in
    rw (a, b, c) refl

solving_found : (files : Files) (d e : ModelData) (list other : Requests) (splits : ℕ) → HasProblem d list
    → AreAlike files (Answered_or d list splits) (SolvingList splits e other) (Found d list e other)
unfolding Found
solving_found files d e list other splits has given rest out end hg ho sg so (inl p) q =
    let t = subst (λ l. IsTooLarge d l p.0) q.1 (subst (λ m. IsTooLarge m other p.0) q.0 p.1) in
    absurd (not_within d list p.0 t has)
solving_found files d e list other splits has given rest out end hg ho sg so (inr p) q =
    inr (given, subst (λ l. Answering d l splits given out) q.1 (subst (λ m. Answering m other splits given out) q.0 p.1))

said_so : (files : Files) (due came : Status) (want text : List ℕ) (given : List FileRead) (out : Outcome) → Answered due want given out → Says files out came text → (due ≡ came) × (want ≡ text)
said_so files due came want text [] out h s = subst (λ o. Says files o came text) h s
said_so files due came want text (f ∷ given) out h s = absurd h

-- what the written text of an answer is
answer_said : (files : Files) (d : ModelData) (list : Requests) (splits : ℕ) (came : Status) (text : List ℕ) (old new : Option (List ℕ)) (given : List FileRead) (out : Outcome)
    → Answering d list splits given out → Says files out came text → new ≡ after old text → IsAnswer d list splits came old new
answer_said files d list splits came text old new given out (inl h) s n =
    let e = said_so files status.Good came h.0 text given out h.2 s in subst (λ c. IsAnswer d list splits c old new) e.0 (h.0, h.1, n ∙ ap (after old) (sym e.1))
answer_said files d list splits came text old new given out (inr (inl h)) s n =
    let e = said_so files status.No came h.0 text given out h.2 s in subst (λ c. IsAnswer d list splits c old new) e.0 (h.0, h.1, n ∙ ap (after old) (sym e.1))
answer_said files d list splits came text old new given out (inr (inr h)) s n =
    let e = said_so files status.Spent came h.0 text given out h.2 s in subst (λ c. IsAnswer d list splits c old new) e.0 (h.0, h.1, n ∙ ap (after old) (sym e.1))

answer_mishap : (d : ModelData) (list : Requests) (splits : ℕ) (came : Status) (old new : Option (List ℕ)) → IsMemoryOrWriteFault came → IsAnswer d list splits came old new
answer_mishap d list splits came old new (inl e) = subst (λ c. IsAnswer d list splits c old new) (sym e) tt
answer_mishap d list splits came old new (inr e) = subst (λ c. IsAnswer d list splits c old new) (sym e) tt

-- what `solve` comes to among what words and files have
solve_answers : (words : List (List ℕ)) (files : Files) (d : ModelData) (list : Requests) (splits : ℕ) → AskedFor words files d list splits → (came : Status) (text : List ℕ) (old new : Option (List ℕ))
    → Expected words files came text → new ≡ after old text → IsAnswer d list splits came old new
unfolding Found
solve_answers words files d list splits a came text old new expected n =
    let job = a.job in
    let r = a.requests in
    let h : Ends (in_files ⊥ files) (Solving job) came text = subst (λ j. JobEnds (λ names. in_files ⊥ files) j came text) a.form expected in
    let s = stopped files (Solving job) came text h in
    let marked = both_given files job.model job.requests r.0 d list (Found d list) [] (answers status.WriteFault []) a.model r.1 r.2 r.3 tt (refl, refl, refl) in
    let alike = alike_both files (Answered_or d list job.splits) (λ out end e. inl e) job.model job.requests (SolvingList job.splits) (Found d list) (λ e other. solving_found files d e list other job.splits (within_has d list a.within)) in
    subst (λ k. IsAnswer d list k came old new) a.limit
    (elim (alike s.given marked.0 s.out (answers status.WriteFault []) s.has marked.2 s.stops tt s.goes marked.1) [
      | inl e ↦ let w = subst (λ o. Says files o came text) e s.says in subst (λ c. IsAnswer d list job.splits c old new) w.0 tt
      | inr found ↦ answer_said files d list job.splits came text old new found.0 s.out found.1 s.says n
    ])

pub answers_well : (words : List (List ℕ)) (files : Files) (d : ModelData) (list : Requests) (splits : ℕ) → AskedFor words files d list splits → (came : Status) (old new : Option (List ℕ))
    → ComesAmong (Expected words files) came old new → IsAnswer d list splits came old new
answers_well words files d list splits a came old new (inl h) = solve_answers words files d list splits a came h.0 old new h.1 h.2
answers_well words files d list splits a came old new (inr m) = answer_mishap d list splits came old new m

-- ---- the decision

never_two : (n k : ℕ) → n + 2 ≤ k → k ≤ n + 1 → ⊥
never_two n k a b = absurd (omega arith)

pub decides : (d : ModelData) (list : Requests) (splits : ℕ) (came : Status) (old new : Option (List ℕ)) → 2 ^ choice_bits d list ≤ splits + 1
    → IsAnswer d list splits came old new → IsDecision d list came
decides d list splits status.Good old new enough h = let s = h.1 in record {
  never_spent = λ e. cc e;
  good = λ i m. inl refl;
  only_good = λ e. (s.image, s.meets);
  no = λ none. absurd (none s.image s.meets);
  only_no = λ e. absurd (cc e);
}
decides d list splits status.No old new enough h = let r = h.1 in record {
  never_spent = λ e. cc e;
  good = λ i m. absurd (r.none i m);
  only_good = λ e. absurd (cc e);
  no = λ none. inl refl;
  only_no = λ e. r.none;
}
decides d list splits status.Spent old new enough h = let r = h.1 in absurd (never_two splits (2 ^ choice_bits d list) r.few enough)
decides d list splits status.Memory old new enough h = record { never_spent = λ e. cc e; good = λ i m. inr (inl refl); only_good = λ e. absurd (cc e); no = λ none. inr (inl refl); only_no = λ e. absurd (cc e) }
decides d list splits status.WriteFault old new enough h = record { never_spent = λ e. cc e; good = λ i m. inr (inr refl); only_good = λ e. absurd (cc e); no = λ none. inr (inr refl); only_no = λ e. absurd (cc e) }
decides d list splits status.Words old new enough h = absurd h
decides d list splits status.ModelRefused old new enough h = absurd h
decides d list splits status.RequestsRefused old new enough h = absurd h
decides d list splits status.InputRefused old new enough h = absurd h
decides d list splits status.ReadFault old new enough h = absurd h
decides d list splits status.TooLong old new enough h = absurd h
decides d list splits status.TooLarge old new enough h = absurd h

-- ---- what the checker says

expected_check : (words : List (List ℕ)) (files : Files) (d : ModelData) (list : Requests) (text : List ℕ) → (a : AskedToCheck words files d list text) → (came : Status) (line : List ℕ)
    → JobEnds (λ names. in_files ⊥ files) (Some (check a.job)) came line → Expected words files came line
expected_check words files d list text a came line h = subst (λ j. JobEnds (λ names. in_files ⊥ files) j came line) (sym a.form) h

check_given : (words : List (List ℕ)) (files : Files) (d : ModelData) (list : Requests) (text : List ℕ) (log : LogData) → (a : AskedToCheck words files d list text) → log_in text ≡ Ok log
    → (came : Status) (line : List ℕ) → JudgingLog (table d list) log [] (answers came line) → (given : List FileRead) × Checking a.job given (answers came line) × HasAll (Some files) given
check_given words files d list text log a reads came line j =
    let r = a.requests in let f = a.log in
    let spelled : log_in f.0 ≡ Ok log = ap log_in f.3 ∙ reads in
    both_given files a.job.model a.job.requests r.0 d list (CheckingList a.job.log) (record { name = a.job.log; bytes = f.0 } ∷ []) (answers came line) a.model r.1 r.2 r.3 (f.1, tt)
    (inr (within_has d list a.within, (refl, f.2, inr (log, spelled, j))))

expected_closed : (words : List (List ℕ)) (files : Files) (d : ModelData) (list : Requests) (text : List ℕ) (log : LogData) → AskedToCheck words files d list text → log_in text ≡ Ok log
    → (splits : ℕ) → IsRefutedBy (table d list) log splits → Expected words files status.Good (closed_line splits)
expected_closed words files d list text log a reads n h =
    expected_check words files d list text a status.Good (closed_line n) (check_given words files d list text log a reads status.Good (closed_line n) (inl (n, h, refl)))

expected_open : (words : List (List ℕ)) (files : Files) (d : ModelData) (list : Requests) (text : List ℕ) (log : LogData) → AskedToCheck words files d list text → log_in text ≡ Ok log
    → (splits : ℕ) → IsRecordedBy (table d list) log splits → Expected words files status.Spent (open_line splits)
expected_open words files d list text log a reads n h =
    expected_check words files d list text a status.Spent (open_line n) (check_given words files d list text log a reads status.Spent (open_line n) (inr (inl (n, h, refl))))

expected_item : (words : List (List ℕ)) (files : Files) (d : ModelData) (list : Requests) (text : List ℕ) (log : LogData) → AskedToCheck words files d list text → log_in text ≡ Ok log
    → (item : ℕ) (cause : Cause) → IsRefusedItem (table d list) log item cause → Expected words files status.No (item_line item cause)
expected_item words files d list text log a reads k cause h =
    expected_check words files d list text a status.No (item_line k cause) (check_given words files d list text log a reads status.No (item_line k cause) (inr (inr (k, cause, h, refl))))

-- a log that neither refutes nor records has an item with a cause
refused_verdict : (p : ProblemData) (log : LogData) → is_tree log.1 ≡ true → ((n : ℕ) → IsRefutedBy p log n → ⊥) → ((n : ℕ) → IsRecordedBy p log n → ⊥) → (v : Verdict) → v ≡ verdict_on p log
    → (item : ℕ) × (cause : Cause) × IsRefusedItem p log item cause
refused_verdict p log t nr nn (Closed n) e = absurd (nr n (closed_is Triple triple_ops p log.0 log.1 (Closed n) n t e refl))
refused_verdict p log t nr nn (Unfinished n) e = absurd (nn n (unfinished_is Triple triple_ops p log.0 log.1 (Unfinished n) n t e refl))
refused_verdict p log t nr nn (Refused item cause) e = (item, cause, sym e)

pub checked_well : (words : List (List ℕ)) (files : Files) (d : ModelData) (list : Requests) (text : List ℕ) (log : LogData) → AskedToCheck words files d list text → log_in text ≡ Ok log
    → (came : Status) (old new : Option (List ℕ)) → ((due : Status) (want : List ℕ) → IsFixed (job_of words) due → Expected words files due want → Comes due want came old new) → IsChecked d list log came old new
checked_well words files d list text log a reads came old new comes =
    let p = table d list in
    let fixed = λ (due : Status). subst (λ j. IsFixed j due) (sym a.form) tt in
    record {
      closed = λ n h. comes status.Good (closed_line n) (fixed status.Good) (expected_closed words files d list text log a reads n h);
      left_open = λ n h. comes status.Spent (open_line n) (fixed status.Spent) (expected_open words files d list text log a reads n h);
      refused = λ nr nn.
          let v = refused_verdict p log (read_is text log reads).tree nr nn (verdict_on p log) refl in
          (v.0, v.1, v.2, comes status.No (item_line v.0 v.1) (fixed status.No) (expected_item words files d list text log a reads v.0 v.1 v.2));
    }

-- what `solve` prints, `check` closes, or finds open after as many splits
pub agrees_well : (words : List (List ℕ)) (files : Files) (d : ModelData) (list : Requests) (text : List ℕ) → AskedToCheck words files d list text
    → (came : Status) (old new : Option (List ℕ)) → ((due : Status) (want : List ℕ) → IsFixed (job_of words) due → Expected words files due want → Comes due want came old new) → IsAgreed d list text came old new
agrees_well words files d list text a came old new comes =
    let fixed = λ (due : Status). subst (λ j. IsFixed j due) (sym a.form) tt in
    record {
      refutation = λ r. let t = r.text_is in comes status.Good (closed_line r.splits) (fixed status.Good) (expected_closed words files d list text r.log a t.reads_back r.splits r.refutes);
      recorded = λ n r. let t = r.text_is in let s = r.spent in comes status.Spent (open_line n) (fixed status.Spent) (expected_open words files d list text r.log a t.reads_back n s.record_is);
    }

-- ---- the judge

expected_judgement : (words : List (List ℕ)) (files : Files) (d : ModelData) (list : Requests) (i : Image) → (a : AskedToJudge words files d list i) → (came : Status) (text : List ℕ)
    → JobEnds (λ names. in_files ⊥ files) (Some (replay a.job)) came text → Expected words files came text
expected_judgement words files d list i a came text h = subst (λ j. JobEnds (λ names. in_files ⊥ files) j came text) (sym a.form) h

pub expected_yes : (words : List (List ℕ)) (files : Files) (d : ModelData) (list : Requests) (i : Image) → AskedToJudge words files d list i → Satisfies d list i → Expected words files status.Good (codes "satisfies\n")
expected_yes words files d list i a z =
    let r = a.requests in let f = a.image in
    expected_judgement words files d list i a status.Good (codes "satisfies\n")
    (both_given files a.job.model a.job.requests r.0 d list (λ d list. OnFile file.Image a.job.image (JudgingBytes d list)) (record { name = a.job.image; bytes = f.0 } ∷ []) (answers status.Good (codes "satisfies\n")) a.model r.1 r.2 r.3 (f.1, tt)
    (refl, f.2, inr (i, f.3, inl (z, refl))))

expected_no : (words : List (List ℕ)) (files : Files) (d : ModelData) (list : Requests) (i : Image) → AskedToJudge words files d list i → (k : ℕ) → position not (claims d list i) ≡ Some k → Expected words files status.No (breaks_line (k + 1))
expected_no words files d list i a k z =
    let r = a.requests in let f = a.image in
    expected_judgement words files d list i a status.No (breaks_line (k + 1))
    (both_given files a.job.model a.job.requests r.0 d list (λ d list. OnFile file.Image a.job.image (JudgingBytes d list)) (record { name = a.job.image; bytes = f.0 } ∷ []) (answers status.No (breaks_line (k + 1))) a.model r.1 r.2 r.3 (f.1, tt)
    (refl, f.2, inr (i, f.3, inr (k, z, refl))))

first_broken : (o : Option ℕ) (xs : List Bool) → position not xs ≡ o → (All IsTrue xs → ⊥) → (k : ℕ) × (position not xs ≡ Some k)
first_broken None xs e h = absurd (h (satisfies_all xs judged.Satisfies (sym (ap verdict_of e)) refl))
first_broken (Some k) xs e h = (k, e)

pub expected_unmet : (words : List (List ℕ)) (files : Files) (d : ModelData) (list : Requests) (i : Image) → AskedToJudge words files d list i → (Satisfies d list i → ⊥)
    → (k : ℕ) × (position not (claims d list i) ≡ Some k) × Expected words files status.No (breaks_line (k + 1))
expected_unmet words files d list i a n =
    let f = a.image in
    let matching = f.3 in
    let image = reads_image d f.0 i (model_accepted files a.job.model d a.model) matching.spelled in
    let k = first_broken (position not (claims d list i)) (claims d list i) refl (λ c. n (record { image = image; matches = matching.matches; claims = c })) in
    (k.0, k.1, expected_no words files d list i a k.0 k.1)

-- ---- walks

pub expected_walks : (words : List (List ℕ)) (files : Files) (s : Shipped) (i : Image) → AskedToWalk words files s i → Expected words files status.Good (walks_text (shipped_data s) i)
expected_walks words files s i a =
    let f = a.image in
    subst (λ j. JobEnds (λ names. in_files ⊥ files) j status.Good (walks_text (shipped_data s) i)) (sym a.form)
    (record { name = a.name; bytes = f.0 } ∷ [], (refl, f.2, inr (i, f.3, refl)), (f.1, tt))

-- ---- what is fixed

pub judge_fixed : (words : List (List ℕ)) (files : Files) (d : ModelData) (list : Requests) (i : Image) → AskedToJudge words files d list i → (due : Status) → IsFixed (job_of words) due
judge_fixed words files d list i a due = subst (λ j. IsFixed j due) (sym a.form) tt

pub walk_fixed : (words : List (List ℕ)) (files : Files) (s : Shipped) (i : Image) → AskedToWalk words files s i → (due : Status) → IsFixed (job_of words) due
walk_fixed words files s i a due = subst (λ j. IsFixed j due) (sym a.form) tt

-- ---- a command that reads no file

answer_is : (due came : Status) (want text : List ℕ) (files : List FileRead) → Answered due want files (answers came text) → (came ≡ due) × (text ≡ want)
answer_is due came want text [] h = (cc, cc)
answer_is due came want text (f ∷ files) h = absurd h

answer_needs : (due : Status) (want : List ℕ) (files : List FileRead) (kind : File) (name : List ℕ) → Answered due want files (needs kind name) → ⊥
answer_needs due want [] kind name h = cc
answer_needs due want (f ∷ files) kind name h = h

only_answer : (o : Outside) (due : Status) (want : List ℕ) (came : Status) (text : List ℕ) → (came ≡ status.Memory → ⊥) → Ends o (Answered due want) came text → (came ≡ due) × (text ≡ want)
only_answer o due want status.ReadFault text not h = absurd (answer_needs due want h.0 h.1 h.2 h.3)
only_answer o due want status.TooLong text not h = absurd (answer_needs due want h.0 h.1 h.2 h.3)
only_answer o due want status.Memory text not h = absurd (not refl)
only_answer o due want status.Words text not h = absurd h
only_answer o due want status.WriteFault text not h = absurd h
only_answer o due want status.Good text not h = answer_is due status.Good want text h.0 h.1
only_answer o due want status.No text not h = answer_is due status.No want text h.0 h.1
only_answer o due want status.Spent text not h = answer_is due status.Spent want text h.0 h.1
only_answer o due want status.ModelRefused text not h = answer_is due status.ModelRefused want text h.0 h.1
only_answer o due want status.RequestsRefused text not h = answer_is due status.RequestsRefused want text h.0 h.1
only_answer o due want status.InputRefused text not h = answer_is due status.InputRefused want text h.0 h.1
only_answer o due want status.TooLarge text not h = answer_is due status.TooLarge want text h.0 h.1

-- where a row has one text alone, that text comes
answer_comes : (s : Seen) (words : List (List ℕ)) (want : List ℕ) → ((came : Status) (text : List ℕ) → Row s words came text → Ends (in_call s []) (Answered status.Good want) came text)
    → (came : Status) (old new : Option (List ℕ)) (sent sent_after : Option (List (List ℕ)))
    → (came ≢ status.WriteFault → Writes (Row s words came) old new sent sent_after) → Comes status.Good want came old new
answer_comes s words want alone came old new sent sent_after writes =
    elim (mishap_or came) [
      | inl e ↦ inr e
      | inr not ↦
          let w = writes not.1 in
          let e = only_answer (in_call s []) status.Good want came w.0 not.0 (alone came w.0 w.1) in
          inl (e.0, w.2 ∙ ap (after old) e.1)
    ]

pub prints_exactly : (s : Seen) (words : List (List ℕ)) (m : Shipped) → AskedToPrint words m → (came : Status) (old new : Option (List ℕ)) (sent sent_after : Option (List (List ℕ)))
    → (came ≢ status.WriteFault → Writes (Row s words came) old new sent sent_after) → Comes status.Good (text_of_model (shipped_data m)) came old new
prints_exactly s words m asked = answer_comes s words (text_of_model (shipped_data m)) (λ came text h. subst (λ j. JobEnds (in_call s) j came text) asked h)

pub makes_exactly : (s : Seen) (words : List (List ℕ)) (n : ℕ) → AskedToMake words n → (came : Status) (old new : Option (List ℕ)) (sent sent_after : Option (List (List ℕ)))
    → (came ≢ status.WriteFault → Writes (Row s words came) old new sent sent_after) → Comes status.Good (made_text n) came old new
makes_exactly s words n asked = answer_comes s words (made_text n) (λ came text h. subst (λ j. JobEnds (in_call s) j came text) asked h)

ended_so : (n : ℕ) (came : Status) (text : List ℕ) (files : List FileRead) → Loading (record { n = n }) files (answers came text)
    → (end : LoadEnd) × IsLoadEnd sv39_data (made n) end × (came ≡ end_status end) × (text ≡ load_text n end)
ended_so n came text files h = let e = answer_is (end_status h.0) came (load_text n h.0) text files h.2 in (h.0, h.1, e.0, e.1)

-- how the search of a generated list ended
loading_ends : (o : Outside) (n : ℕ) (came : Status) (text : List ℕ) → (came ≡ status.Memory → ⊥) → Ends o (Loading (record { n = n })) came text
    → (end : LoadEnd) × IsLoadEnd sv39_data (made n) end × (came ≡ end_status end) × (text ≡ load_text n end)
loading_ends o n status.ReadFault text not h = let c = h.3 in absurd (answer_needs (end_status c.0) (load_text n c.0) h.0 h.1 h.2 c.2)
loading_ends o n status.TooLong text not h = let c = h.3 in absurd (answer_needs (end_status c.0) (load_text n c.0) h.0 h.1 h.2 c.2)
loading_ends o n status.Memory text not h = absurd (not refl)
loading_ends o n status.Words text not h = absurd h
loading_ends o n status.WriteFault text not h = absurd h
loading_ends o n status.Good text not h = ended_so n status.Good text h.0 h.1
loading_ends o n status.No text not h = ended_so n status.No text h.0 h.1
loading_ends o n status.Spent text not h = ended_so n status.Spent text h.0 h.1
loading_ends o n status.ModelRefused text not h = ended_so n status.ModelRefused text h.0 h.1
loading_ends o n status.RequestsRefused text not h = ended_so n status.RequestsRefused text h.0 h.1
loading_ends o n status.InputRefused text not h = ended_so n status.InputRefused text h.0 h.1
loading_ends o n status.TooLarge text not h = ended_so n status.TooLarge text h.0 h.1

pub loads_well : (s : Seen) (words : List (List ℕ)) (n : ℕ) → AskedToLoad words n → (came : Status) (old new : Option (List ℕ)) (sent sent_after : Option (List (List ℕ)))
    → (came ≢ status.WriteFault → Writes (Row s words came) old new sent sent_after) → IsLoaded n came old new
loads_well s words n asked came old new sent sent_after writes =
    elim (mishap_or came) [
      | inl e ↦ inr e
      | inr not ↦
          let w = writes not.1 in
          let e = loading_ends (in_call s []) n came w.0 not.0 (subst (λ j. JobEnds (in_call s) j came w.0) asked w.1) in
          inl (e.0, e.1, e.2, w.2 ∙ ap (after old) e.3)
    ]

-- ---- what else a row says

-- memory ran out only with no text
pub row_memory : (s : Seen) (job : Option Job) (came : Status) (text : List ℕ) → came ≡ status.Memory → JobEnds (in_call s) job came text → text ≡ []
row_memory s None came text e h = let k : status.Memory ≡ status.Words = sym e ∙ h.0 in absurd cc
row_memory s (Some job) came text e h = let k = subst (λ c. Ends (in_call s (files_of job)) (Doing job) c text) e h in k.1

-- the words have a form where they aren't refused, and none where they are
pub row_words : (s : Seen) (job : Option Job) (came : Status) (text : List ℕ) → job ≡ None → JobEnds (in_call s) job came text → came ≡ status.Words
row_words s None came text e h = h.0
row_words s (Some job) came text e h = absurd (cc e)

pub row_words_only : (s : Seen) (job : Option Job) (came : Status) (text : List ℕ) → came ≡ status.Words → JobEnds (in_call s) job came text → job ≡ None
row_words_only s None came text e h = refl
row_words_only s (Some job) came text e h = absurd (subst (λ c. Ends (in_call s (files_of job)) (Doing job) c text) e h)

-- a row has no text of a failed write
pub row_unwritten : (s : Seen) (job : Option Job) (came : Status) (text : List ℕ) → came ≡ status.WriteFault → JobEnds (in_call s) job came text → ⊥
row_unwritten s None came text e h = let k : status.WriteFault ≡ status.Words = sym e ∙ h.0 in cc
row_unwritten s (Some job) came text e h = subst (λ c. Ends (in_call s (files_of job)) (Doing job) c text) e h

quiet_ends : (s : Seen) (names : List (List ℕ)) (course : List FileRead → Outcome → Type 0) (came : Status) (text : List ℕ) → came ≢ status.ReadFault → Ends (in_call s names) course came text → IsQuiet s
quiet_ends s names course status.ReadFault text not h = absurd (not refl)
quiet_ends s names course status.TooLong text not h = let f = h.4 in f.3
quiet_ends s names course status.Memory text not h = let f = h.0 in f.1
quiet_ends s names course status.Words text not h = absurd h
quiet_ends s names course status.WriteFault text not h = absurd h
quiet_ends s names course status.Good text not h = let f = h.2 in f.2
quiet_ends s names course status.No text not h = let f = h.2 in f.2
quiet_ends s names course status.Spent text not h = let f = h.2 in f.2
quiet_ends s names course status.ModelRefused text not h = let f = h.2 in f.2
quiet_ends s names course status.RequestsRefused text not h = let f = h.2 in f.2
quiet_ends s names course status.InputRefused text not h = let f = h.2 in f.2
quiet_ends s names course status.TooLarge text not h = let f = h.2 in f.2

-- a read that failed has its status
pub row_quiet : (s : Seen) (job : Option Job) (came : Status) (text : List ℕ) → came ≢ status.ReadFault → JobEnds (in_call s) job came text → IsQuiet s
row_quiet s None came text not h = let f = h.2 in f.2
row_quiet s (Some job) came text not h = quiet_ends s (files_of job) (Doing job) came text not h

-- no row has the status of a failed write
pub row_written : (s : Seen) (job : Option Job) (text : List ℕ) → JobEnds (in_call s) job status.WriteFault text → ⊥
row_written s None text h = let k = h.0 in cc k
row_written s (Some job) text h = h
