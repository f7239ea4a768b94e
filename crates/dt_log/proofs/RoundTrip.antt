-- A printed log reads back.
use Rattle.std.proofs.Common.{◌≡◌, ℕ, ◌+◌, ◌≤◌, true, List, [], ◌∷◌, ◌++◌, Some, None, Ok, Option, refl, sym, ap, ◌∙◌, append_assoc, arith}
use Rattle.std.specs.Prelude.{map}
use Rattle.std.specs.List.{AllByRecursion}
use Rattle.std.proofs.lemmas.Bool.{cond-true}
use Rattle.std.proofs.lemmas.List.{append-nil}
use Rattle.dt_lemmas.proofs.Lists.{AllByRecursion-append}
use Rattle.dt_lemmas.proofs.Numbers.{passes_at}
use Rattle.dt_lex.specs.declared.section.Standing.TheVariants.{In}
use Rattle.dt_lex.specs.Sections.{may_follow}
use Rattle.dt_lex.specs.Printing.{IsRow}
use Rattle.dt_lex.proofs.Blocks.{place_after}
use Rattle.dt_lex.proofs.Printed.{run_rows, reading_printed}
use Rattle.dt_log.specs.declared.line.Line.{Line}
use Rattle.dt_log.specs.declared.line.Claim.{Claim as LogClaim}
use Rattle.dt_log.specs.declared.entry.Entry.{Entry}
use Rattle.dt_log.specs.declared.entry.Entry.TheVariants.{Claim, Item, End}
use Rattle.dt_log.specs.declared.written.Written.{Written}
use Rattle.dt_log.specs.Shapes.{is_tree}
use Rattle.dt_log.specs.Entry.{sections, standing, meaning}
use Rattle.dt_log.specs.Written.{declared, nothing, added}
use Rattle.dt_log.specs.Read.{grammar, unless_wrong, finished, reading}
use Rattle.dt_log.specs.Print.{row_of, entries_in, printed}
use Rattle.dt_log.specs.Small.{IsSmall, AreSmall}
use Rattle.dt_log.specs.Laws.{adds_up}
use Rattle.dt_log.proofs.Awaiting.{wrong_none}
use Rattle.dt_log.proofs.Printed.{item_entries}
use Rattle.dt_log.proofs.Rows.{row_again, row_ok}

rows_are : (es : List Entry) → AreSmall es → AllByRecursion IsRow (map row_of es)
rows_are [] h = tt
rows_are (e ∷ es) h = (row_ok e h.0, rows_are es h.1)

stands : (place : ℕ) (e : Entry) → may_follow sections place (standing e) ≡ true → meaning place (Some e) ≡ Some e
stands place e h = cond-true (may_follow sections place (standing e)) (Some e) None h

-- an item, or the end, behind the claim or an item
follows_1 : (place : ℕ) → 1 ≤ place → place ≤ 2 → may_follow sections place (In 1) ≡ true
follows_1 place low high = passes_at (λ p. may_follow sections p (In 1)) 1 2 place refl low (omega arith)

follows_2 : (place : ℕ) → 1 ≤ place → place ≤ 2 → may_follow sections place (In 2) ≡ true
follows_2 place low high = passes_at (λ p. may_follow sections p (In 2)) 1 2 place refl low (omega arith)

-- what is declared behind these items
abbrev after_items : Written → List Line → Written
after_items w ls = record w { place = place_after w.place 2 ls; lines = w.lines ++ ls }

items_again : (n : ℕ) (w : Written) (ls : List Line) → 1 ≤ w.place → w.place ≤ 2 → AreSmall (item_entries ls) → run_rows grammar added n w (map row_of (item_entries ls ++ End ∷ [])) ≡ Ok (added (after_items w ls) End)
unfolding run_rows
items_again n w [] low high h =
    rw (row_again n w End tt (stands w.place End (follows_2 w.place low high))) (λ i. Ok (record w { place = 3; lines = sym (append-nil w.lines) i }))
items_again n w (l ∷ ls) low high h =
    rw (row_again n w (Item l) h.0 (stands w.place (Item l) (follows_1 w.place low high)))
    (items_again (n + 1) (added w (Item l)) ls (omega arith) (omega arith) h.1 ∙ (λ i. Ok (record w { place = 3; lines = append_assoc w.lines (l ∷ []) ls i })))

whole_again : (claim : LogClaim) (ls : List Line) → IsSmall (Claim claim) → AreSmall (item_entries ls) → run_rows grammar added 1 nothing (map row_of (entries_in (claim, ls))) ≡ Ok (record { place = 3; claim = claim; lines = ls })
unfolding run_rows
whole_again claim ls h k =
    rw (row_again 1 nothing (Claim claim) h (stands 0 (Claim claim) refl)) (items_again 2 (added nothing (Claim claim)) ls (omega arith) (omega arith) k)

pub reads_back : (claim : LogClaim) (ls : List Line) → IsSmall (Claim claim) → AreSmall (item_entries ls) → is_tree ls ≡ true → reading (printed (claim, ls)) ≡ Ok (claim, ls)
unfolding printed declared
reads_back claim ls h k tree =
    let small : AreSmall (entries_in (claim, ls)) = (h, AllByRecursion-append IsSmall (item_entries ls) (End ∷ []) k (tt, tt)) in
    reading_printed grammar added finished (map row_of (entries_in (claim, ls))) (record { place = 3; claim = claim; lines = ls }) adds_up (rows_are (entries_in (claim, ls)) small) (whole_again claim ls h k)
    ∙ ap (λ (o : Option ℕ). unless_wrong o (claim, ls)) (sym (wrong_none ls tree))
