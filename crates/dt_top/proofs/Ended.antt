-- How a course ends, from how its parts do.
use Rattle.std.proofs.Common.{◌≡◌, ℕ, ◌+◌, ◌≤◌, inl, inr, List, [], ◌∷◌, ◌++◌, Option, Some, None, Result, Ok, Err, refl, sym, ap, subst, ◌∙◌, append_assoc, append-nil, arith}
use Rattle.std.specs.Prelude.{IfOk, IfErr}
use Rattle.dt_edge.specs.declared.edge.ShelfFault.{ShelfFault}
use Rattle.dt_edge.specs.declared.edge.ShelfFault.TheVariants.{TooLong, Failed}
use Rattle.dt_edge.specs.Causes.{Rose, RoseBy}
use Rattle.dt_edge.specs.Told.{Told, IsAbsent, IsLong, Asks}
use Rattle.dt_top.specs.Course.{FileRead, Outcome, answers, needs, OnFile}
use Rattle.dt_top.specs.Files.{limit_of}
use Rattle.dt_top.specs.Seen.{Seen, seen, StaysShelf, HasAll, names_of}
use Rattle.dt_top.specs.Table.{Outside, Ends, in_call, no_reads}
use Rattle.dt_top.specs.declared.file.File.{File}
use Rattle.dt_top.specs.declared.status.Status.{Status}
use Rattle.dt_top.specs.declared.status.Status.TheVariants as status

-- ---- any course

-- a course that goes on as another does, after some files more
pub ends_along : (o p : Outside) (c e : List FileRead → Outcome → Type 0) (step : List FileRead → List FileRead)
    → ((files : List FileRead) (outcome : Outcome) → c files outcome → e (step files) outcome)
    → ((files : List FileRead) → o.gave files → p.gave (step files))
    → ((files : List FileRead) (name : List ℕ) → o.failed files name → p.failed (step files) name)
    → ((files : List FileRead) (file : File) (name : List ℕ) → o.long files file name → p.long (step files) file name)
    → (o.wanted → p.wanted) → (came : Status) (text : List ℕ) → Ends o c came text → Ends p e came text
ends_along o p c e step along gave failed long wanted status.ReadFault text h =
    (step h.0, h.1, h.2, along h.0 (needs h.1 h.2) h.3, failed h.0 h.2 h.4, h.5)
ends_along o p c e step along gave failed long wanted status.TooLong text h =
    (step h.0, h.1, h.2, along h.0 (needs h.1 h.2) h.3, long h.0 h.1 h.2 h.4, h.5)
ends_along o p c e step along gave failed long wanted status.Memory text h = (wanted h.0, h.1)
ends_along o p c e step along gave failed long wanted status.Words text h = h
ends_along o p c e step along gave failed long wanted status.WriteFault text h = h
ends_along o p c e step along gave failed long wanted status.Good text h = (step h.0, along h.0 (answers status.Good text) h.1, gave h.0 h.2)
ends_along o p c e step along gave failed long wanted status.No text h = (step h.0, along h.0 (answers status.No text) h.1, gave h.0 h.2)
ends_along o p c e step along gave failed long wanted status.Spent text h = (step h.0, along h.0 (answers status.Spent text) h.1, gave h.0 h.2)
ends_along o p c e step along gave failed long wanted status.ModelRefused text h = (step h.0, along h.0 (answers status.ModelRefused text) h.1, gave h.0 h.2)
ends_along o p c e step along gave failed long wanted status.RequestsRefused text h = (step h.0, along h.0 (answers status.RequestsRefused text) h.1, gave h.0 h.2)
ends_along o p c e step along gave failed long wanted status.InputRefused text h = (step h.0, along h.0 (answers status.InputRefused text) h.1, gave h.0 h.2)
ends_along o p c e step along gave failed long wanted status.TooLarge text h = (step h.0, along h.0 (answers status.TooLarge text) h.1, gave h.0 h.2)

-- a course that holds at least where another does
pub ends_on : (o : Outside) (c e : List FileRead → Outcome → Type 0) → ((files : List FileRead) (outcome : Outcome) → c files outcome → e files outcome)
    → (came : Status) (text : List ℕ) → Ends o c came text → Ends o e came text
ends_on o c e along came text h = ends_along o o c e (λ files. files) along (λ files g. g) (λ files name g. g) (λ files file name g. g) (λ g. g) came text h

-- the same status and text under other names
pub ends_as : (o : Outside) (c : List FileRead → Outcome → Type 0) (came other : Status) (text line : List ℕ)
    → other ≡ came → line ≡ text → Ends o c came text → Ends o c other line
ends_as o c came other text line e l h = subst (λ s. Ends o c s line) (sym e) (subst (Ends o c came) (sym l) h)

-- a command that may read further files
pub ends_more : (s : Seen) (names rest : List (List ℕ)) (c : List FileRead → Outcome → Type 0) (came : Status) (text : List ℕ)
    → Ends (in_call s names) c came text → Ends (in_call s (names ++ rest)) c came text
ends_more s names rest c came text h =
    ends_along (in_call s names) (in_call s (names ++ rest)) c c (λ files. files) (λ files outcome g. g) (λ files g. g) (λ files name g. g) (λ files file name g. g)
    (λ g. let f = g.0 in ((f.0, f.1 ++ rest, ap (λ l. l ++ rest) f.2 ∙ append_assoc f.0 f.1 rest, f.3), g.1)) came text h

-- ---- files

-- a file's course, by how it goes on
pub on_file : (kind : File) (name : List ℕ) (next then : List ℕ → List FileRead → Outcome → Type 0)
    → ((bytes : List ℕ) (files : List FileRead) (outcome : Outcome) → next bytes files outcome → then bytes files outcome)
    → (files : List FileRead) (outcome : Outcome) → OnFile kind name next files outcome → OnFile kind name then files outcome
on_file kind name next then along [] outcome h = h
on_file kind name next then along (file ∷ files) outcome h = (h.0, h.1, along file.bytes files outcome h.2)

-- ---- names that were asked for

pub asks_none : (names : Option (List (List ℕ))) → Asks names names []
asks_none None = tt
asks_none (Some names) = sym (append-nil names)

pub asks_more : (a b c : Option (List (List ℕ))) (xs ys : List (List ℕ)) → Asks a b xs → Asks b c ys → Asks a c (xs ++ ys)
asks_more None None None xs ys p q = tt
asks_more None (Some b) None xs ys p q = tt
asks_more (Some a) None None xs ys p q = tt
asks_more (Some a) (Some b) None xs ys p q = tt
asks_more None None (Some c) xs ys p q = absurd q
asks_more (Some a) None (Some c) xs ys p q = absurd q
asks_more None (Some b) (Some c) xs ys p q = absurd p
asks_more (Some a) (Some b) (Some c) xs ys p q = q ∙ ap (λ l. l ++ ys) p ∙ append_assoc a xs ys

-- ---- one part of a call after another

pub has_more : (told mid : Told) (first files : List FileRead) → mid ≡ told → HasAll told first → HasAll mid files → HasAll told (first ++ files)
has_more told mid [] files e h k = subst (λ t. HasAll t files) e k
has_more told mid (file ∷ first) files e h k = (h.0, has_more told mid first files e h.1 k)

pub names_more : (first files : List FileRead) → names_of (first ++ files) ≡ names_of first ++ names_of files
names_more [] files = refl
names_more (file ∷ first) files = ap (λ l. file.name ∷ l) (names_more first files)

le_more : (a b c : ℕ) → a ≤ b → b ≤ c → a ≤ c
le_more a b c p q = omega arith

rose_since : (by old mid new : ℕ) → old ≤ mid → RoseBy by mid new → RoseBy by old new
rose_since by old mid new h k = omega arith

module _ {S : Type 0} (told : S → Told) (faults taken : S → ℕ) (asked : S → Option (List (List ℕ))) (steady : S → Type 0) where
  -- after some files were read, the rest of a call decides
  pub ends_after : (old mid new : S) → StaysShelf told faults taken steady old mid → (first : List FileRead)
      → HasAll (told old) first → Asks (asked old) (asked mid) (names_of first) → faults mid ≡ faults old
      → (rest : List (List ℕ)) (c e : List FileRead → Outcome → Type 0) → ((files : List FileRead) (outcome : Outcome) → c files outcome → e (first ++ files) outcome)
      → (came : Status) (text : List ℕ) → Ends (in_call (seen told faults taken asked mid new) rest) c came text
      → Ends (in_call (seen told faults taken asked old new) (names_of first ++ rest)) e came text
  ends_after old mid new stays first has asks quiet rest c e along came text h =
      let grown = λ (names : List (List ℕ)) (k : Asks (asked mid) (asked new) names). asks_more (asked old) (asked mid) (asked new) (names_of first) names asks k in
      let named = λ (files : List FileRead) (k : Asks (asked mid) (asked new) (names_of files)).
      subst (λ names. Asks (asked old) (asked new) names) (sym (names_more first files)) (grown (names_of files) k) in
      let asking = λ (files : List FileRead) (name : List ℕ) (k : Asks (asked mid) (asked new) (names_of files ++ name ∷ [])).
      subst (λ names. Asks (asked old) (asked new) names)
      (sym (ap (λ l. l ++ name ∷ []) (names_more first files) ∙ append_assoc (names_of first) (names_of files) (name ∷ []))) (grown (names_of files ++ name ∷ []) k) in
      ends_along (in_call (seen told faults taken asked mid new) rest) (in_call (seen told faults taken asked old new) (names_of first ++ rest)) c e (λ files. first ++ files) along
      (λ files g. (has_more (told old) (told mid) first files stays.told has g.0, named files g.1, g.2 ∙ quiet))
      (λ files name g. (
        has_more (told old) (told mid) first files stays.told has g.0,
        asking files name g.1,
        elim g.2 [
          | inl rose ↦ inl (subst (λ n. Rose n (faults new)) quiet rose)
          | inr none ↦ inr (subst (λ t. IsAbsent t name) stays.told none)
        ],
      ))
      (λ files file name g. (
        has_more (told old) (told mid) first files stays.told has g.0,
        asking files name g.1,
        (subst (λ t. IsLong t name (limit_of file)) stays.told g.2.0, rose_since (limit_of file + 1) (taken old) (taken mid) (taken new) stays.taken g.2.1),
        g.3 ∙ quiet,
      ))
      (λ g. let f = g.0 in
      ((names_of first ++ f.0, f.1, ap (λ l. names_of first ++ l) f.2 ∙ sym (append_assoc (names_of first) f.0 f.1), grown f.0 f.3), g.1 ∙ quiet))
      came text h

  -- what takes no read, as part of a call
  pub ends_still : (old : S) (names : List (List ℕ)) (c : List FileRead → Outcome → Type 0) (came : Status) (text : List ℕ)
      → Ends no_reads c came text → Ends (in_call (seen told faults taken asked old old) names) c came text
  ends_still old names c came text h =
      ends_along no_reads (in_call (seen told faults taken asked old old) names) c c (λ files. files) (λ files outcome g. g)
      (λ files e. subst (λ l. (in_call (seen told faults taken asked old old) names).gave l) (sym e) (tt, asks_none (asked old), refl))
      (λ files name g. absurd g) (λ files file name g. absurd g)
      (λ g. (([], names, refl, asks_none (asked old)), refl)) came text h

-- ---- what stays of a shelf

pub stays_more : {S : Type 0} (told : S → Told) (faults taken : S → ℕ) (steady : S → Type 0) (old mid new : S)
    → StaysShelf told faults taken steady old mid → StaysShelf told faults taken steady mid new → StaysShelf told faults taken steady old new
stays_more told faults taken steady old mid new a b = record {
  told = b.told ∙ a.told;
  faults = le_more (faults old) (faults mid) (faults new) a.faults b.faults;
  taken = le_more (taken old) (taken mid) (taken new) a.taken b.taken;
  steady = λ k. b.steady (a.steady k);
  unfailing = λ k. b.unfailing (a.steady k) ∙ a.unfailing k;
}

-- ---- one outcome of a call

pub if_ok : {X E : Type 0} {P Q : X → Type 0} (r : Result X E) → ((x : X) → P x → Q x) → IfOk r P → IfOk r Q
if_ok (Ok x) f h = f x h
if_ok (Err e) f h = h

pub if_err : {X E : Type 0} {P Q : E → Type 0} (r : Result X E) → ((e : E) → P e → Q e) → IfErr r P → IfErr r Q
if_err (Ok x) f h = h
if_err (Err e) f h = f e h

-- a file that is too long wasn't one that couldn't be read
pub not_failed : {X : Type 0} (r : Result X ShelfFault) → r ≡ Err TooLong → r ≡ Err Failed → ⊥
not_failed r a b = let k = sym a ∙ b in cc
