-- A text that is read as a list is a text of the list.
use Rattle.std.proofs.Common.{◌≡◌, ℕ, ◌+◌, Bool, true, false, cond, eqb, ltb, List, [], ◌∷◌, length, Option, Some, None, Result, Ok, Err, refl, sym, subst, ◌∙◌}
use Rattle.std.specs.List.{AllByRecursion}
use Rattle.std.proofs.lemmas.Bool.{eqb-true}
use Rattle.dt_lemmas.proofs.Lists.{all_of}
use Rattle.dt_lemmas.proofs.Options.{ok_is}
use Rattle.dt_lex.specs.declared.fault.LexFault.{LexFault}
use Rattle.dt_lex.specs.declared.fault.LexFault.TheVariants.{LineTooLong, BadByte}
use Rattle.dt_lex.specs.Text.{lines_of, tokens_of, has_bad_byte, fault_of}
use Rattle.dt_lex.specs.Reading.{◌>>=◌, with_place, unless_faulty, row_entry, line_entry, grow}
use Rattle.dt_lex.proofs.Loop.{run_from, reading_run}
use Rattle.dt_model.specs.ModelData.{ModelData}
use Rattle.dt_request.specs.declared.fault.RequestFault.{RequestFault}
use Rattle.dt_request.specs.declared.fault.RequestFault.TheVariants as faults
use Rattle.dt_request.specs.declared.fault.Cause.{Cause}
use Rattle.dt_request.specs.declared.list.Requests.{Requests}
use Rattle.dt_request.specs.declared.entry.Entry.{Entry}
use Rattle.dt_request.specs.Fault.{at_line}
use Rattle.dt_request.specs.Lists.{IsList}
use Rattle.dt_request.specs.Line.{spelled}
use Rattle.dt_request.specs.Entry.{Declared, meaning}
use Rattle.dt_request.specs.Draft.{declared, nothing, added}
use Rattle.dt_request.specs.Read.{grammar, finished, reading}
use Rattle.dt_request.specs.Laws.{adds_up}
use Rattle.dt_request.specs.Spelling.{Row, with_row, rows_in, IsFaultless, Spell, IsListText}
use Rattle.dt_request.proofs.SpelledLists.{AreRead}
use Rattle.dt_request.proofs.OnlySpelled.{read_spells}

-- ---- lines

chosen_fault : (n m : ℕ) (line : List ℕ) (long bad : Bool) → cond long (Some (LineTooLong n)) (cond bad (Some (BadByte n)) None) ≡ None → cond long (Some (LineTooLong m)) (cond bad (Some (BadByte m)) None) ≡ None
chosen_fault n m line true bad e = absurd cc
chosen_fault n m line false true e = absurd cc
chosen_fault n m line false false e = refl

faultless : (n : ℕ) (line : List ℕ) → fault_of n line ≡ None → IsFaultless line
faultless n line e m = chosen_fault n m line (ltb 16384 (length line)) (has_bad_byte line) e

-- the lines are faultless and are read so
abbrev IsRun : ModelData → Declared → Declared → List (List ℕ) → Type 0
IsRun d so to lines = AllByRecursion IsFaultless lines × AreRead d so (rows_in lines) to

abbrev Next : ModelData → ℕ → Declared → List (List ℕ) → Option Entry → Result Declared RequestFault
Next d n so lines o = run_from (grammar d) added (n + 1) (grow added so o) lines

-- a row, and the lines after it
row_run : (d : ModelData) (n : ℕ) (so to : Declared) (lines : List (List ℕ)) (row : Row) → ((x : Declared) → run_from (grammar d) added (n + 1) x lines ≡ Ok to → IsRun d x to lines) → (row_entry (grammar d) n so row >>= Next d n so lines) ≡ Ok to → AllByRecursion IsFaultless lines × AreRead d so (with_row row (rows_in lines)) to
row_run d n so to lines [] more e = more so e
row_run d n so to lines (t ∷ ts) more e = meant (meaning d so (spelled t ts)) refl e
  where
    meant : (r : Result Entry Cause) → meaning d so (spelled t ts) ≡ r → ((with_place (at_line n) r >>= λ x. Ok (Some x)) >>= Next d n so lines) ≡ Ok to → AllByRecursion IsFaultless lines × AreRead d so ((t ∷ ts) ∷ rows_in lines) to
    meant (Ok x) is f = let rest = more (added so x) f in (rest.0, (x, is, rest.1))
    meant (Err c) is f = absurd cc

line_run : (d : ModelData) (n : ℕ) (so to : Declared) (line : List ℕ) (lines : List (List ℕ)) → ((x : Declared) → run_from (grammar d) added (n + 1) x lines ≡ Ok to → IsRun d x to lines) → (line_entry (grammar d) n so line >>= Next d n so lines) ≡ Ok to → IsFaultless line × (AllByRecursion IsFaultless lines × AreRead d so (with_row (tokens_of line) (rows_in lines)) to)
unfolding line_entry
line_run d n so to line lines more e = judged (fault_of n line) refl e
  where
    judged : (o : Option LexFault) → fault_of n line ≡ o → (unless_faulty (λ f. faults.Lex f) o (row_entry (grammar d) n so (tokens_of line)) >>= Next d n so lines) ≡ Ok to → IsFaultless line × (AllByRecursion IsFaultless lines × AreRead d so (with_row (tokens_of line) (rows_in lines)) to)
    judged None is f = (faultless n line is, row_run d n so to lines (tokens_of line) more f)
    judged (Some fault) is f = absurd cc

lines_read : (d : ModelData) (n : ℕ) (so to : Declared) (lines : List (List ℕ)) → run_from (grammar d) added n so lines ≡ Ok to → IsRun d so to lines
unfolding run_from rows_in
lines_read d n so to [] e = (tt, ok_is so to e)
lines_read d n so to (line ∷ lines) e =
    let h = line_run d n so to line lines (λ x f. lines_read d (n + 1) x to lines f) e in
    ((h.0, h.1.0), h.1.1)

-- ---- the text

ended : (n : ℕ) (so : Declared) (r : Requests) (b : Bool) → eqb so.place 7 ≡ b → cond b (Ok so.list) (Err (faults.Form n)) ≡ Ok r → (so.place ≡ 7) × (so.list ≡ r)
ended n so r true is e = (eqb-true so.place 7 is, ok_is so.list r e)
ended n so r false is e = absurd cc

spelt : (d : ModelData) (text : List ℕ) (n : ℕ) (r : Requests) (run : Result Declared RequestFault) → run_from (grammar d) added 1 nothing (lines_of text) ≡ run → (run >>= finished n) ≡ Ok r → IsList d r → IsListText d text r
spelt d text n r (Err f) is e list = absurd cc
spelt d text n r (Ok to) is e list =
    let lines = lines_read d 1 nothing to (lines_of text) is in
    let end = ended n to r (eqb to.place 7) refl e in
    record {
      faultless = all_of IsFaultless (lines_of text) lines.0;
      spelled = subst (λ (x : Requests). Spell d x (rows_in (lines_of text))) end.1 (read_spells d to (rows_in (lines_of text)) end.0 lines.1);
      list = list;
    }

pub read_is_text : (d : ModelData) (text : List ℕ) (r : Requests) → reading d text ≡ Ok r → IsList d r → IsListText d text r
unfolding reading declared
read_is_text d text r e list =
    spelt d text (length (lines_of text) + 1) r (run_from (grammar d) added 1 nothing (lines_of text)) refl (sym (reading_run (grammar d) added finished text adds_up) ∙ e) list
