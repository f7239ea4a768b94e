-- What holds of the entries of a text that is read, and of the fault of one that is not.
use Rattle.std.proofs.Common.{◌≡◌, ℕ, ◌+◌, Bool, true, false, cond, ltb, List, [], ◌∷◌, ◌++◌, length, Option, Some, None, Result, Ok, Err, refl, sym, ap, ◌∙◌, append_assoc}
use Rattle.std.specs.Prelude.{IfOk, IfErr}
use Rattle.std.specs.List.{flat_map, AllByRecursion}
use Rattle.std.specs.Option.{option_to_list}
use Rattle.std.proofs.lemmas.List.{append-nil}
use Rattle.std.proofs.lemmas.List.Concat.{flat_map-append, flat_map-cons}
use Rattle.dt_lemmas.proofs.Lists.{AllByRecursion-append}
use Rattle.dt_lemmas.proofs.Options.{at_ok}
use Rattle.dt_lex.specs.declared.fault.LexFault.{LexFault}
use Rattle.dt_lex.specs.declared.fault.LexFault.TheVariants.{LineTooLong, BadByte}
use Rattle.dt_lex.specs.Text.{lines_of, tokens_of, has_bad_byte, fault_of}
use Rattle.dt_lex.specs.Reading.{Grammar, ◌>>=◌, with_place, unless_faulty, row_entry, line_entry, entries_from, reading_of}

-- ---- one step after another

pub then_ok : {A B F : Type 0} (P : B → Type 0) (r : Result A F) (f : A → Result B F) → ((a : A) → r ≡ Ok a → IfOk (f a) P) → IfOk (r >>= f) P
then_ok P (Ok a) f h = h a refl
then_ok P (Err e) f h = tt

then_err : {A B F : Type 0} (P : F → Type 0) (r : Result A F) (f : A → Result B F) → IfErr r P → ((a : A) → IfErr (f a) P) → IfErr (r >>= f) P
then_err P (Ok a) f h k = k a
then_err P (Err e) f h k = h

placed_ok : {E C F : Type 0} (P : E → Type 0) (at : C → F) (r : Result E C) → IfOk r P → IfOk (with_place at r) P
placed_ok P at (Ok e) h = h
placed_ok P at (Err c) h = tt

placed_err : {E C F : Type 0} (P : F → Type 0) (at : C → F) → ((c : C) → P (at c)) → (r : Result E C) → IfErr (with_place at r) P
placed_err P at h (Ok e) = tt
placed_err P at h (Err c) = h c

unless_ok : {X F : Type 0} (P : X → Type 0) (lexical : LexFault → F) (o : Option LexFault) (r : Result X F) → IfOk r P → IfOk (unless_faulty lexical o r) P
unless_ok P lexical None r h = h
unless_ok P lexical (Some f) r h = tt

-- ---- what holds of each entry

module _ {E D C F : Type 0} (g : Grammar E D C F) (P : E → Type 0) (each : (n : ℕ) (d : D) (t : List ℕ) (ts : List (List ℕ)) → IfOk (g.entry n d t ts) P) where
  abbrev HoldOf : List E → Type 0
  HoldOf es = AllByRecursion P es

  row_holds : (n : ℕ) (d : D) (ts : List (List ℕ)) → IfOk (row_entry g n d ts) (λ o. HoldOf (option_to_list o))
  row_holds n d [] = tt
  row_holds n d (t ∷ ts) =
      let r = with_place (g.at n) (g.entry n d t ts) in
      then_ok (λ o. HoldOf (option_to_list o)) r (λ e. Ok (Some e)) (λ e is. (at_ok P r e (placed_ok P (g.at n) (g.entry n d t ts) (each n d t ts)) is, tt))

  line_holds : (n : ℕ) (d : D) (line : List ℕ) → IfOk (line_entry g n d line) (λ o. HoldOf (option_to_list o))
  unfolding line_entry
  line_holds n d line = unless_ok (λ o. HoldOf (option_to_list o)) g.lexical (fault_of n line) (row_entry g n d (tokens_of line)) (row_holds n d (tokens_of line))

  entries_hold : (n : ℕ) (before : List E) (lines : List (List ℕ)) → HoldOf before → IfOk (entries_from g n before lines) HoldOf
  unfolding entries_from
  entries_hold n before [] h = h
  entries_hold n before (line ∷ lines) h =
      then_ok HoldOf (line_entry g n (g.declared before) line) _ (λ o is. entries_hold (n + 1) (before ++ option_to_list o) lines (AllByRecursion-append P before (option_to_list o) h (at_ok (λ p. HoldOf (option_to_list p)) (line_entry g n (g.declared before) line) o (line_holds n (g.declared before) line) is)))

  -- what holds of each entry that a line may be holds of those of a text
  pub reading_holds : {V : Type 0} (finish : ℕ → D → Result V F) (Q : V → Type 0) → ((n : ℕ) (es : List E) → AllByRecursion P es → IfOk (finish n (g.declared es)) Q) → (text : List ℕ) → IfOk (reading_of g finish text) Q
  unfolding reading_of
  reading_holds finish Q ends text =
      then_ok Q (entries_from g 1 [] (lines_of text)) _ (λ es is. ends (length (lines_of text) + 1) es (at_ok HoldOf (entries_from g 1 [] (lines_of text)) es (entries_hold 1 [] (lines_of text) tt) is))

-- ---- parts of entries that are seen in the tokens of their lines

module _ {E D C F A : Type 0} (g : Grammar E D C F) (of_entry : E → List A) (of_tokens : List (List ℕ) → List A) (none : of_tokens [] ≡ []) (each : (n : ℕ) (d : D) (t : List ℕ) (ts : List (List ℕ)) → IfOk (g.entry n d t ts) (λ e. of_entry e ≡ of_tokens (t ∷ ts))) where
  abbrev in_lines : List (List ℕ) → List A
  in_lines lines = flat_map (λ line. of_tokens (tokens_of line)) lines

  abbrev Seen : List (List ℕ) → Option E → Type 0
  Seen ts o = flat_map of_entry (option_to_list o) ≡ of_tokens ts

  row_seen : (n : ℕ) (d : D) (ts : List (List ℕ)) → IfOk (row_entry g n d ts) (Seen ts)
  row_seen n d [] = sym none
  row_seen n d (t ∷ ts) =
      let r = with_place (g.at n) (g.entry n d t ts) in
      then_ok (Seen (t ∷ ts)) r (λ e. Ok (Some e)) (λ e is. append-nil (of_entry e) ∙ at_ok (λ x. of_entry x ≡ of_tokens (t ∷ ts)) r e (placed_ok (λ x. of_entry x ≡ of_tokens (t ∷ ts)) (g.at n) (g.entry n d t ts) (each n d t ts)) is)

  line_seen : (n : ℕ) (d : D) (line : List ℕ) → IfOk (line_entry g n d line) (Seen (tokens_of line))
  unfolding line_entry
  line_seen n d line = unless_ok (Seen (tokens_of line)) g.lexical (fault_of n line) (row_entry g n d (tokens_of line)) (row_seen n d (tokens_of line))

  abbrev AreSeen : List E → List (List ℕ) → List E → Type 0
  AreSeen before lines es = flat_map of_entry es ≡ flat_map of_entry before ++ in_lines lines

  moved : (next before : List E) (lines all : List (List ℕ)) (r : Result (List E) F) → flat_map of_entry next ++ in_lines lines ≡ flat_map of_entry before ++ in_lines all → IfOk r (AreSeen next lines) → IfOk r (AreSeen before all)
  moved next before lines all (Ok es) e h = h ∙ e
  moved next before lines all (Err f) e h = tt

  entries_seen : (n : ℕ) (before : List E) (lines : List (List ℕ)) → IfOk (entries_from g n before lines) (AreSeen before lines)
  unfolding entries_from
  entries_seen n before [] = sym (append-nil (flat_map of_entry before))
  entries_seen n before (line ∷ lines) =
      then_ok (AreSeen before (line ∷ lines)) (line_entry g n (g.declared before) line) _ (λ o is.
      let own = at_ok (Seen (tokens_of line)) (line_entry g n (g.declared before) line) o (line_seen n (g.declared before) line) is in
      let next = before ++ option_to_list o in
      let more : flat_map of_entry next ++ in_lines lines ≡ flat_map of_entry before ++ in_lines (line ∷ lines) =
      ap (λ (xs : List A). xs ++ in_lines lines) (flat_map-append of_entry before (option_to_list o) ∙ ap (λ (xs : List A). flat_map of_entry before ++ xs) own)
      ∙ append_assoc (flat_map of_entry before) (of_tokens (tokens_of line)) (in_lines lines)
      ∙ ap (λ (xs : List A). flat_map of_entry before ++ xs) (sym (flat_map-cons (λ (l : List ℕ). of_tokens (tokens_of l)) line lines)) in
      moved next before lines (line ∷ lines) (entries_from g (n + 1) next lines) more (entries_seen (n + 1) next lines))

  -- the parts of a text's entries are those that its lines' tokens show
  pub reading_seen : {V : Type 0} (finish : ℕ → D → Result V F) (Q : V → Type 0) (text : List ℕ) → ((n : ℕ) (es : List E) → flat_map of_entry es ≡ flat_map (λ line. of_tokens (tokens_of line)) (lines_of text) → IfOk (finish n (g.declared es)) Q) → IfOk (reading_of g finish text) Q
  unfolding reading_of
  reading_seen finish Q text ends =
      then_ok Q (entries_from g 1 [] (lines_of text)) _ (λ es is. ends (length (lines_of text) + 1) es (at_ok (AreSeen [] (lines_of text)) (entries_from g 1 [] (lines_of text)) es (entries_seen 1 [] (lines_of text)) is))

-- ---- what holds of each fault

module _ {E D C F : Type 0} (g : Grammar E D C F) (P : F → Type 0) (long : (n : ℕ) → P (g.lexical (LineTooLong n))) (byte : (n : ℕ) → P (g.lexical (BadByte n))) (each : (n : ℕ) (c : C) → P (g.at n c)) where
  row_faulty : (n : ℕ) (d : D) (ts : List (List ℕ)) → IfErr (row_entry g n d ts) P
  row_faulty n d [] = tt
  row_faulty n d (t ∷ ts) = then_err P (with_place (g.at n) (g.entry n d t ts)) (λ e. Ok (Some e)) (placed_err P (g.at n) (each n) (g.entry n d t ts)) (λ e. tt)

  bytes_faulty : (b c : Bool) (n : ℕ) (r : Result (Option E) F) → IfErr r P → IfErr (unless_faulty g.lexical (cond b (Some (LineTooLong n)) (cond c (Some (BadByte n)) None)) r) P
  bytes_faulty true c n r h = long n
  bytes_faulty false true n r h = byte n
  bytes_faulty false false n r h = h

  line_faulty : (n : ℕ) (d : D) (line : List ℕ) → IfErr (line_entry g n d line) P
  unfolding line_entry
  line_faulty n d line = bytes_faulty (ltb 16384 (length line)) (has_bad_byte line) n (row_entry g n d (tokens_of line)) (row_faulty n d (tokens_of line))

  entries_faulty : (n : ℕ) (before : List E) (lines : List (List ℕ)) → IfErr (entries_from g n before lines) P
  unfolding entries_from
  entries_faulty n before [] = tt
  entries_faulty n before (line ∷ lines) = then_err P (line_entry g n (g.declared before) line) _ (line_faulty n (g.declared before) line) (λ o. entries_faulty (n + 1) (before ++ option_to_list o) lines)

  -- the fault of a text is one of a line, or of its end
  pub reading_faulty : {V : Type 0} (finish : ℕ → D → Result V F) → ((n : ℕ) (d : D) → IfErr (finish n d) P) → (text : List ℕ) → IfErr (reading_of g finish text) P
  unfolding reading_of
  reading_faulty finish ends text =
      then_err P (entries_from g 1 [] (lines_of text)) _ (entries_faulty 1 [] (lines_of text)) (λ es. ends (length (lines_of text) + 1) (g.declared es))
