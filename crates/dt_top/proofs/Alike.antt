-- Over files that are told, two courses that go on alike come to like outcomes.
use Rattle.std.proofs.Common.{◌≡◌, ℕ, ◌≤◌, ◌<◌, ◌⊎◌, inl, inr, List, [], ◌∷◌, length, Some, None, Ok, Err, sym, ap, subst, ◌∙◌, arith}
use Rattle.std.specs.Prelude.{codes}
use Rattle.dt_edge.specs.Told.{IsLong}
use Rattle.dt_model.specs.ModelData.{ModelData}
use Rattle.dt_modeltext.specs.Read.{IsModelText}
use Rattle.dt_modeltext.specs.Fault.{line_of as model_line, word_of as model_word}
use Rattle.dt_modeltext.proofs.OneFault.{one_fault}
use Rattle.dt_request.specs.declared.fault.RequestFault.{RequestFault}
use Rattle.dt_request.specs.declared.list.Requests.{Requests}
use Rattle.dt_request.specs.Fault.{line_of as list_line, word_of as list_word}
use Rattle.dt_request.specs.Read.{reading as list_in}
use Rattle.dt_encode.specs.declared.fault.EncodeFault.TheVariants.{TooLarge}
use Rattle.dt_lemmas.proofs.Options.{some_is}
use Rattle.dt_top.specs.Course.{FileRead, Outcome, answers, needs, Answered, OnFile}
use Rattle.dt_top.specs.Files.{limit_of}
use Rattle.dt_top.specs.Lines.{bad_line, too_large_line}
use Rattle.dt_top.specs.Seen.{HasAll}
use Rattle.dt_top.specs.Stages.{IsRefusedModel, OnModel, IsRequests, IsRefusedList, OnRequests, IsTooLarge, HasProblem, OnProblem}
use Rattle.dt_top.specs.Models.{ModelAsked, shipped, of_file, shipped_data, OnModelWord, OnModelAndList}
use Rattle.dt_top.specs.Table.{Files}
use Rattle.dt_top.specs.declared.file.File.{File}
use Rattle.dt_top.specs.declared.file.File.TheVariants as file
use Rattle.dt_top.specs.declared.status.Status.{Status}
use Rattle.dt_top.specs.declared.status.Status.TheVariants as status

-- it answered, or the file that it needs is absent or too long
abbrev pub Stops : Files → Outcome → Type 0
Stops files (answers came text) = Unit {0}
Stops files (needs kind name) = (files name ≡ None) ⊎ IsLong (Some files) name (limit_of kind)

-- ways to stop of two courses are alike
abbrev pub AreAlike : Files → (Outcome → Outcome → Type 0) → (List FileRead → Outcome → Type 0) → (List FileRead → Outcome → Type 0) → Type 0
AreAlike files same course rival = (given other : List FileRead) (out end : Outcome) → HasAll (Some files) given → HasAll (Some files) other
    → Stops files out → Stops files end → course given out → rival other end → same out end

-- ---- facts on texts

none_is : (a : List ℕ) → None ≡ Some a → ⊥
none_is a e = cc

-- a file that is absent or too long isn't read
not_both : (files : Files) (kind : File) (name : List ℕ) (f : FileRead) → Stops files (needs kind name) → files f.name ≡ Some f.bytes → f.name ≡ name → length f.bytes ≤ limit_of kind → ⊥
not_both files kind name f (inl none) has named le = none_is f.bytes (sym none ∙ subst (λ n. files n ≡ Some f.bytes) named has)
not_both files kind name f (inr long) has named le =
    let same = some_is long.0 f.bytes (sym long.1 ∙ subst (λ n. files n ≡ Some f.bytes) named has) in
    let over = subst (λ (b : List ℕ). limit_of kind < length b) same long.2 in absurd (omega arith)

one_model : (bytes : List ℕ) (c d : ModelData) → IsModelText bytes c → IsModelText bytes d → c ≡ d
one_model bytes c d p q = let e : Ok c ≡ Ok d = sym p.spelled ∙ q.spelled in cc

refused_one : (bytes text line : List ℕ) → IsRefusedModel bytes text → IsRefusedModel bytes line → text ≡ line
refused_one bytes text line a b =
    let same = one_fault bytes a.fault b.fault a.number b.number a.place b.place a.refused b.refused in
    let n = some_is a.number b.number (sym a.place ∙ ap model_line same ∙ b.place) in
    a.line ∙ ap (λ k. bad_line (codes "model") k (model_word a.fault)) n ∙ ap (λ f. bad_line (codes "model") b.number (model_word f)) same ∙ sym b.line

one_list : (d : ModelData) (bytes : List ℕ) (k l : Requests) → IsRequests d bytes k → IsRequests d bytes l → k ≡ l
one_list d bytes k l p q = let e : Ok k ≡ Ok l = sym p ∙ q in cc

no_list : (d : ModelData) (bytes : List ℕ) (e : RequestFault) (l : Requests) → list_in d bytes ≡ Err e → IsRequests d bytes l → ⊥
no_list d bytes e l p q = let k : Err e ≡ Ok l = sym p ∙ q in cc

list_fault : (d : ModelData) (bytes : List ℕ) (e f : RequestFault) → list_in d bytes ≡ Err e → list_in d bytes ≡ Err f → e ≡ f
list_fault d bytes e f p q = let k = sym p ∙ q in cc

refused_list_one : (d : ModelData) (bytes text line : List ℕ) → IsRefusedList d bytes text → IsRefusedList d bytes line → text ≡ line
refused_list_one d bytes text line a b =
    let same = list_fault d bytes a.fault b.fault a.refused b.refused in
    let n = some_is a.number b.number (sym a.place ∙ ap list_line same ∙ b.place) in
    a.line ∙ ap (λ k. bad_line (codes "requests") k (list_word a.fault)) n ∙ ap (λ f. bad_line (codes "requests") b.number (list_word f)) same ∙ sym b.line

too_large_one : (d : ModelData) (list : Requests) (text line : List ℕ) → IsTooLarge d list text → IsTooLarge d list line → text ≡ line
too_large_one d list text line a b =
    let same : TooLarge a.what a.number ≡ TooLarge b.what b.number = some_is (TooLarge a.what a.number) (TooLarge b.what b.number) (sym a.product ∙ b.product) in
    a.line ∙ (let k : too_large_line a.what a.number ≡ too_large_line b.what b.number = cc in k) ∙ sym b.line

pub not_within : (d : ModelData) (list : Requests) (text : List ℕ) → IsTooLarge d list text → HasProblem d list → ⊥
not_within d list text a b = let e : Some (TooLarge a.what a.number) ≡ None = sym a.product ∙ b in cc

-- ---- courses

module _ (files : Files) (same : Outcome → Outcome → Type 0) (alike : (out end : Outcome) → out ≡ end → same out end) where
  abbrev Alike : (List FileRead → Outcome → Type 0) → (List FileRead → Outcome → Type 0) → Type 0
  Alike course rival = AreAlike files same course rival

  pub alike_answered : (came : Status) (text : List ℕ) → Alike (Answered came text) (Answered came text)
  alike_answered came text [] [] out end hg ho sg so p q = alike out end (p ∙ sym q)
  alike_answered came text [] (g ∷ other) out end hg ho sg so p q = absurd q
  alike_answered came text (f ∷ given) other out end hg ho sg so p q = absurd p

  pub alike_file : (kind : File) (name : List ℕ) (next then : List ℕ → List FileRead → Outcome → Type 0) → ((bytes : List ℕ) → Alike (next bytes) (then bytes)) → Alike (OnFile kind name next) (OnFile kind name then)
  alike_file kind name next then one [] [] out end hg ho sg so p q = alike out end (p ∙ sym q)
  alike_file kind name next then one [] (g ∷ other) out end hg ho sg so p q = absurd (not_both files kind name g (subst (Stops files) p sg) ho.0 q.0 q.1)
  alike_file kind name next then one (f ∷ given) [] out end hg ho sg so p q = absurd (not_both files kind name f (subst (Stops files) q so) hg.0 p.0 p.1)
  alike_file kind name next then one (f ∷ given) (g ∷ other) out end hg ho sg so p q =
      let bytes = some_is g.bytes f.bytes (sym ho.0 ∙ ap files (q.0 ∙ sym p.0) ∙ hg.0) in
      one f.bytes given other out end hg.1 ho.1 sg so p.2 (subst (λ b. then b other end) bytes q.2)

  pub alike_model : (bytes : List ℕ) (next then : ModelData → List FileRead → Outcome → Type 0) → ((d : ModelData) → Alike (next d) (then d)) → Alike (OnModel bytes next) (OnModel bytes then)
  alike_model bytes next then one given other out end hg ho sg so (inl p) (inl q) =
      alike_answered status.ModelRefused p.0 given other out end hg ho sg so p.2 (subst (λ t. Answered status.ModelRefused t other end) (refused_one bytes q.0 p.0 q.1 p.1) q.2)
  alike_model bytes next then one given other out end hg ho sg so (inl p) (inr q) = let r = p.1 in absurd (r.none q.0 q.1)
  alike_model bytes next then one given other out end hg ho sg so (inr p) (inl q) = let r = q.1 in absurd (r.none p.0 p.1)
  alike_model bytes next then one given other out end hg ho sg so (inr p) (inr q) =
      one p.0 given other out end hg ho sg so p.2 (subst (λ d. then d other end) (one_model bytes q.0 p.0 q.1 p.1) q.2)

  pub alike_list : (d : ModelData) (bytes : List ℕ) (next then : Requests → List FileRead → Outcome → Type 0) → ((list : Requests) → Alike (next list) (then list)) → Alike (OnRequests d bytes next) (OnRequests d bytes then)
  alike_list d bytes next then one given other out end hg ho sg so (inl p) (inl q) =
      alike_answered status.RequestsRefused p.0 given other out end hg ho sg so p.2 (subst (λ t. Answered status.RequestsRefused t other end) (refused_list_one d bytes q.0 p.0 q.1 p.1) q.2)
  alike_list d bytes next then one given other out end hg ho sg so (inl p) (inr q) = let r = p.1 in absurd (no_list d bytes r.fault q.0 r.refused q.1)
  alike_list d bytes next then one given other out end hg ho sg so (inr p) (inl q) = let r = q.1 in absurd (no_list d bytes r.fault p.0 r.refused p.1)
  alike_list d bytes next then one given other out end hg ho sg so (inr p) (inr q) =
      one p.0 given other out end hg ho sg so p.2 (subst (λ l. then l other end) (one_list d bytes q.0 p.0 q.1 p.1) q.2)

  pub alike_word : (model : ModelAsked) (next then : ModelData → List FileRead → Outcome → Type 0) → ((d : ModelData) → Alike (next d) (then d)) → Alike (OnModelWord model next) (OnModelWord model then)
  alike_word (shipped s) next then one = one (shipped_data s)
  alike_word (of_file name) next then one = alike_file file.Model name (λ bytes. OnModel bytes next) (λ bytes. OnModel bytes then) (λ bytes. alike_model bytes next then one)

  pub alike_both : (m : ModelAsked) (r : List ℕ) (next then : ModelData → Requests → List FileRead → Outcome → Type 0) → ((d : ModelData) (list : Requests) → Alike (next d list) (then d list)) → Alike (OnModelAndList m r next) (OnModelAndList m r then)
  alike_both m r next then one =
      alike_word m (λ d. OnFile file.Requests r (λ text. OnRequests d text (next d))) (λ d. OnFile file.Requests r (λ text. OnRequests d text (then d)))
      (λ d. alike_file file.Requests r (λ text. OnRequests d text (next d)) (λ text. OnRequests d text (then d)) (λ text. alike_list d text (next d) (then d) (one d)))

  pub alike_problem : (d : ModelData) (list : Requests) (next then : List FileRead → Outcome → Type 0) → Alike next then → Alike (OnProblem d list next) (OnProblem d list then)
  alike_problem d list next then one given other out end hg ho sg so (inl p) (inl q) =
      alike_answered status.TooLarge p.0 given other out end hg ho sg so p.2 (subst (λ t. Answered status.TooLarge t other end) (too_large_one d list q.0 p.0 q.1 p.1) q.2)
  alike_problem d list next then one given other out end hg ho sg so (inl p) (inr q) = absurd (not_within d list p.0 p.1 q.0)
  alike_problem d list next then one given other out end hg ho sg so (inr p) (inl q) = absurd (not_within d list q.0 q.1 p.0)
  alike_problem d list next then one given other out end hg ho sg so (inr p) (inr q) = one given other out end hg ho sg so p.1 q.1
