-- A log that a text spells is one tree, and has no more items than the text has bytes.
use Rattle.std.proofs.Common.{◌≡◌, ℕ, ◌+◌, ◌<◌, ◌≤◌, Bool, true, false, cond, eqb, List, [], ◌∷◌, ◌++◌, length, length-append, Option, Some, None, Result, Ok, Err, refl, ap, arith}
use Rattle.std.specs.Prelude.{IfOk}
use Rattle.std.specs.Option.{option_to_list}
use Rattle.dt_lemmas.proofs.Lists.{length_flat}
use Rattle.dt_lemmas.proofs.Options.{at_ok}
use Rattle.dt_lex.specs.Text.{lines_of}
use Rattle.dt_lex.specs.Reading.{line_entry, entries_from, reading_of}
use Rattle.dt_lex.proofs.Cuts.{length-lines_of-le}
use Rattle.dt_lex.proofs.Entries.{then_ok}
use Rattle.dt_log.specs.declared.entry.Entry.{Entry}
use Rattle.dt_log.specs.declared.entry.Entry.TheVariants.{Claim, Item, End}
use Rattle.dt_log.specs.declared.fault.LogFault.{LogFault}
use Rattle.dt_log.specs.declared.line.Line.{Line}
use Rattle.dt_log.specs.declared.written.Written.{Written}
use Rattle.dt_log.specs.Entry.{sections}
use Rattle.dt_log.specs.Shapes.{is_tree, goes, shape}
use Rattle.dt_log.specs.Written.{items_in, declared}
use Rattle.dt_log.specs.Read.{LogData, grammar, unless_wrong, finished, reading}
use Rattle.dt_top.proofs.Ended.{if_ok}

-- ---- one tree

-- what is said of a log whose items are these
record IsOf (lines : List Line) (log : LogData) : Type 0 where
  pub tree : is_tree log.1 ≡ true
  pub same : log.1 ≡ lines

tree_or_wrong : (b : Bool) (k : ℕ) (log : LogData) → is_tree log.1 ≡ b → IfOk (unless_wrong (cond b None (Some k)) log) (IsOf log.1)
tree_or_wrong true k log e = record { tree = e; same = refl }
tree_or_wrong false k log e = tt

ended_or : (b : Bool) (r : Result LogData LogFault) (f : LogFault) (P : LogData → Type 0) → IfOk r P → IfOk (cond b r (Err f)) P
ended_or true r f P h = h
ended_or false r f P h = tt

finished_is : (n : ℕ) (w : Written) → IfOk (finished n w) (IsOf w.lines)
finished_is n w = ended_or (eqb w.place (length sections)) _ _ (IsOf w.lines) (tree_or_wrong (is_tree w.lines) (goes (shape 1 false) w.lines + 1) (w.claim, w.lines) refl)

-- ---- no more items than lines

few_in : (o : Option Entry) → length (option_to_list o) ≤ 1
few_in None = omega arith
few_in (Some e) = omega arith

entries_few : (n : ℕ) (before : List Entry) (lines : List (List ℕ)) → IfOk (entries_from grammar n before lines) (λ es. length es ≤ length before + length lines)
unfolding entries_from
entries_few n before [] = omega arith
entries_few n before (line ∷ lines) =
    then_ok (λ es. length es ≤ length before + length (line ∷ lines)) (line_entry grammar n (declared before) line) _
    (λ o is. if_ok (entries_from grammar (n + 1) (before ++ option_to_list o) lines)
    (λ es h. omega (arith, h, length-append before (option_to_list o), few_in o))
    (entries_few (n + 1) (before ++ option_to_list o) lines))

one_item : (e : Entry) → length (items_in e) ≤ 1
one_item (Claim c) = omega arith
one_item (Item l) = omega arith
one_item End = omega arith

declared_few : (es : List Entry) → length (declared es).lines ≤ length es
unfolding declared
declared_few es = let h = length_flat items_in 1 one_item es in omega (arith, h)

-- ---- both

pub record IsRead (text : List ℕ) (log : LogData) : Type 0 where
  pub tree : is_tree log.1 ≡ true
  pub few : length log.1 ≤ length text

pub reads_tree : (text : List ℕ) → IfOk (reading text) (IsRead text)
unfolding reading_of
reads_tree text =
    then_ok (IsRead text) (entries_from grammar 1 [] (lines_of text)) _
    (λ es is. if_ok (finished (length (lines_of text) + 1) (declared es))
    (λ log h.
    let count = at_ok (λ (xs : List Entry). length xs ≤ length {A = Entry} [] + length (lines_of text)) (entries_from grammar 1 [] (lines_of text)) es (entries_few 1 [] (lines_of text)) is in
    record { tree = h.tree; few = omega (arith, count, ap length h.same, declared_few es, length-lines_of-le text) })
    (finished_is (length (lines_of text) + 1) (declared es)))

pub read_is : (text : List ℕ) (log : LogData) → reading text ≡ Ok log → IsRead text log
read_is text log e = at_ok (IsRead text) (reading text) log (reads_tree text) e

-- the items of a log in a file can be counted
pub few_read : (text : List ℕ) (log : LogData) → reading text ≡ Ok log → length text ≤ 67108864 → length log.1 < 4294967296
few_read text log e h = let r = read_is text log e in omega (arith, r.few)
