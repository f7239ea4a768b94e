-- A text of a list of the model is read as the list.
use Rattle.std.proofs.Common.{◌≡◌, ℕ, ◌+◌, List, [], ◌∷◌, length, Option, Some, Result, Ok, Err, ap, ◌∙◌}
use Rattle.std.specs.Prelude.{All}
use Rattle.std.proofs.lemmas.List.Elements.{All-head, All-tail}
use Rattle.dt_lex.specs.declared.fault.LexFault.{LexFault}
use Rattle.dt_lex.specs.Text.{lines_of, tokens_of}
use Rattle.dt_lex.specs.Reading.{◌>>=◌, with_place, unless_faulty, row_entry, line_entry, grow}
use Rattle.dt_lex.proofs.Loop.{run_from, reading_run}
use Rattle.dt_lex.proofs.Printed.{run_rows}
use Rattle.dt_model.specs.ModelData.{ModelData}
use Rattle.dt_model.specs.Faults.{IsAccepted}
use Rattle.dt_request.specs.declared.fault.RequestFault.{RequestFault}
use Rattle.dt_request.specs.declared.fault.Cause.{Cause}
use Rattle.dt_request.specs.declared.fault.Cause.TheVariants.{Form}
use Rattle.dt_request.specs.declared.list.Requests.{Requests}
use Rattle.dt_request.specs.declared.entry.Entry.{Entry}
use Rattle.dt_request.specs.Fault.{at_line}
use Rattle.dt_request.specs.Line.{spelled}
use Rattle.dt_request.specs.Entry.{Declared, meaning}
use Rattle.dt_request.specs.Draft.{declared, nothing, added}
use Rattle.dt_request.specs.Read.{grammar, finished, reading}
use Rattle.dt_request.specs.Laws.{adds_up}
use Rattle.dt_request.specs.Spelling.{Row, with_row, rows_in, IsFaultless, IsListText}
use Rattle.dt_request.proofs.SpelledLists.{AreRead, state, list_read}

-- ---- rows

one_row : (d : ModelData) (n : ℕ) (so : Declared) (t : List ℕ) (ts : Row) (e : Entry) → meaning d so (spelled t ts) ≡ Ok e → row_entry (grammar d) n so (t ∷ ts) ≡ Ok (Some e)
one_row d n so t ts e is = ap (λ (r : Result Entry Cause). with_place (at_line n) r >>= λ x. Ok (Some x)) is

pub rows_run : (d : ModelData) (n : ℕ) (so to : Declared) (rows : List Row) → AreRead d so rows to → run_rows (grammar d) added n so rows ≡ Ok to
unfolding run_rows
rows_run d n so to [] h = ap (λ (x : Declared). Ok x) h
rows_run d n so to ([] ∷ rows) h = absurd (let bad : Err Form ≡ Ok h.0 = h.1 in cc)
rows_run d n so to ((t ∷ ts) ∷ rows) h =
    ap (λ (r : Result (Option Entry) RequestFault). r >>= λ o. run_rows (grammar d) added (n + 1) (grow added so o) rows) (one_row d n so t ts h.0 h.1)
    ∙ rows_run d (n + 1) (added so h.0) to rows h.2

-- ---- lines

line_is : (d : ModelData) (n : ℕ) (so : Declared) (line : List ℕ) → IsFaultless line → line_entry (grammar d) n so line ≡ row_entry (grammar d) n so (tokens_of line)
unfolding line_entry
line_is d n so line good = ap (λ (o : Option LexFault). unless_faulty (grammar d).lexical o (row_entry (grammar d) n so (tokens_of line))) (good n)

after_row : (d : ModelData) (n : ℕ) (so to : Declared) (lines : List (List ℕ)) (row : Row) → ((x : Declared) → AreRead d x (rows_in lines) to → run_from (grammar d) added (n + 1) x lines ≡ Ok to) → AreRead d so (with_row row (rows_in lines)) to → (row_entry (grammar d) n so row >>= λ o. run_from (grammar d) added (n + 1) (grow added so o) lines) ≡ Ok to
after_row d n so to lines [] more h = more so h
after_row d n so to lines (t ∷ ts) more h =
    ap (λ (r : Result (Option Entry) RequestFault). r >>= λ o. run_from (grammar d) added (n + 1) (grow added so o) lines) (one_row d n so t ts h.0 h.1) ∙ more (added so h.0) h.2

lines_run : (d : ModelData) (n : ℕ) (so to : Declared) (lines : List (List ℕ)) → All IsFaultless lines → AreRead d so (rows_in lines) to → run_from (grammar d) added n so lines ≡ Ok to
unfolding run_from rows_in
lines_run d n so to [] good h = ap (λ (x : Declared). Ok x) h
lines_run d n so to (line ∷ lines) good h =
    ap (λ (r : Result (Option Entry) RequestFault). r >>= λ o. run_from (grammar d) added (n + 1) (grow added so o) lines) (line_is d n so line (All-head IsFaultless line lines good))
    ∙ after_row d n so to lines (tokens_of line) (λ x k. lines_run d (n + 1) x to lines (All-tail IsFaultless line lines good) k) h

pub spelled_read : (d : ModelData) (text : List ℕ) (r : Requests) → IsAccepted d → IsListText d text r → reading d text ≡ Ok r
unfolding reading declared
spelled_read d text r a h =
    let to = list_read d r (rows_in (lines_of text)) a h.list h.spelled in
    reading_run (grammar d) added finished text adds_up
    ∙ ap (λ (x : Result Declared RequestFault). x >>= finished (length (lines_of text) + 1)) (lines_run d 1 nothing (state 7 to.0 r) (lines_of text) h.faultless to.1)
