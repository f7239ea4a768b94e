-- Reading a text line by line: what a line is, given what stands before it.
use Rattle.std.specs.Prelude.{◌≡◌, Bool, ℕ, ◌+◌, List, [], ◌∷◌, ◌++◌, length, Option, Some, None, Result, Ok, Err}
use Rattle.std.specs.Bool.{OnFalse}
use Rattle.std.specs.Option.{option_to_list}
use Rattle.dt_lex.specs.declared.fault.LexFault.{LexFault}
use Rattle.dt_lex.specs.Text.{lines_of, tokens_of, fault_of}

infixl 10 ◌>>=◌
abbrev pub ◌>>=◌ : {A B F : Type 0} → Result A F → (A → Result B F) → Result B F
(Ok x) >>= f = f x
(Err e) >>= f = Err e

-- the last of a list, or d where it has none
abbrev pub last_of : {X : Type 0} → X → List X → X
last_of d [] = d
last_of d (x ∷ xs) = last_of x xs

-- A kind of text: its entries E, what they declare D, what may be wrong with a line C, and its faults F.
pub record Grammar (E D C F : Type 0) : Type 0 where
  -- the fault of a line's bytes
  pub lexical : LexFault → F
  -- the fault of the line of this number, for this cause
  pub at : ℕ → C → F
  -- what the entries before have declared
  pub declared : List E → D
  -- the entry that the n-th line is, by its first token and those behind it, after entries that declared d
  pub entry : ℕ → D → List ℕ → List (List ℕ) → Result E C

abbrev pub with_place : {E C F : Type 0} → (C → F) → Result E C → Result E F
with_place at (Ok e) = Ok e
with_place at (Err cause) = Err (at cause)

-- a line without tokens is no entry
abbrev pub row_entry : {E D C F : Type 0} → Grammar E D C F → ℕ → D → List (List ℕ) → Result (Option E) F
row_entry g n d [] = Ok None
row_entry g n d (t ∷ ts) = with_place (g.at n) (g.entry n d t ts) >>= λ e. Ok (Some e)

abbrev pub unless_faulty : {X F : Type 0} → (LexFault → F) → Option LexFault → Result X F → Result X F
unless_faulty lexical None r = r
unless_faulty lexical (Some f) r = Err (lexical f)

-- the bytes of a line are judged first
unfoldable pub line_entry : {E D C F : Type 0} → Grammar E D C F → ℕ → D → List ℕ → Result (Option E) F
line_entry g n d line = unless_faulty g.lexical (fault_of n line) (row_entry g n d (tokens_of line))

-- the entries of all lines, the first of which is the n-th and stands after the entries before; else the first fault
unfoldable pub entries_from : {E D C F : Type 0} → Grammar E D C F → ℕ → List E → List (List ℕ) → Result (List E) F
entries_from g n before [] = Ok before
entries_from g n before (line ∷ lines) = line_entry g n (g.declared before) line >>= λ e. entries_from g (n + 1) (before ++ option_to_list e) lines

abbrev pub entries_of : {E D C F : Type 0} → Grammar E D C F → List ℕ → Result (List E) F
entries_of g text = entries_from g 1 [] (lines_of text)

-- the value of a whole text: `finish` makes it of what all lines declare, and is told the number of the line that would come next
unfoldable pub reading_of : {E D C V F : Type 0} → Grammar E D C F → (ℕ → D → Result V F) → List ℕ → Result V F
reading_of g finish text = entries_of g text >>= λ es. finish (length (lines_of text) + 1) (g.declared es)

-- what is declared after a line that may have an entry
abbrev pub grow : {E D : Type 0} → (D → E → D) → D → Option E → D
grow add d None = d
grow add d (Some e) = add d e

-- what is declared after a line, where add says what an entry adds
abbrev pub line_added : {E D C F : Type 0} → Grammar E D C F → (D → E → D) → ℕ → D → List ℕ → Result D F
line_added g add n d line = line_entry g n d line >>= λ o. Ok (grow add d o)

-- what is declared after a line of these tokens
abbrev pub row_added : {E D C F : Type 0} → Grammar E D C F → (D → E → D) → ℕ → D → List ℕ → List (List ℕ) → Result D F
row_added g add n d t ts = with_place (g.at n) (g.entry n d t ts) >>= λ e. Ok (add d e)

-- what entries declare is found by adding them one by one
abbrev pub AddsUp : {E D C F : Type 0} → Grammar E D C F → (D → E → D) → Type 0
AddsUp {E = E} g add = (es : List E) (e : E) → g.declared (es ++ e ∷ []) ≡ add (g.declared es) e

-- What a function returned, seen by view, is what reading gives, unless memory ran out.
abbrev pub Gives : {X Y F : Type 0} → (F → Bool) → (X → Y) → Result X F → Result Y F → Type 0
Gives memory view (Ok x) read = read ≡ Ok (view x)
Gives memory view (Err e) read = OnFalse (memory e) (read ≡ Err e)
