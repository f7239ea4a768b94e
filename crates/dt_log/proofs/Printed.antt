-- Lines printed one after the other.
use Rattle.std.proofs.Common.{◌≡◌, ℕ, ◌+◌, ◌<◌, List, [], ◌∷◌, ◌++◌, length, take, get_or, sym, ap, subst, ◌∙◌}
use Rattle.std.specs.Prelude.{map}
use Rattle.std.proofs.lemmas.List.{map-append, map_push, append-nil, take_more}
use Rattle.std.proofs.lemmas.List.Concat.{flat_map-append}
use Rattle.dt_lemmas.proofs.Lists.{AllByRecursion-append}
use Rattle.dt_lex.specs.Printing.{row_text, text_of}
use Rattle.dt_log.specs.declared.line.Line.{Line}
use Rattle.dt_log.specs.declared.entry.Entry.{Entry}
use Rattle.dt_log.specs.declared.entry.Entry.TheVariants.{Claim, Item, End}
use Rattle.dt_log.specs.Read.{LogData}
use Rattle.dt_log.specs.Print.{row_of, text_of_entries, printed}
use Rattle.dt_log.specs.Small.{IsSmall, AreSmall}

text_of-append : (xs ys : List Entry) → text_of_entries (xs ++ ys) ≡ text_of_entries xs ++ text_of_entries ys
text_of-append xs ys = ap text_of (map-append row_of xs ys) ∙ flat_map-append row_text (map row_of xs) (map row_of ys)

text_of_push : (xs : List Entry) (e : Entry) → text_of_entries (xs ++ e ∷ []) ≡ text_of_entries xs ++ row_text (row_of e)
text_of_push xs e = text_of-append xs (e ∷ []) ∙ ap (λ (t : List ℕ). text_of_entries xs ++ t) (append-nil (row_text (row_of e)))

abbrev pub item_entries : List Line → List Entry
item_entries ls = map (λ (l : Line). Item l) ls

item_entries_more : (ls : List Line) (i : ℕ) (d : Line) → i < length ls → item_entries (take (i + 1) ls) ≡ item_entries (take i ls) ++ Item (get_or ls i d) ∷ []
item_entries_more ls i d lt = ap item_entries (take_more ls i d lt) ∙ map_push (λ (l : Line). Item l) (take i ls) (get_or ls i d)

-- the text of one more item
pub lines_more : (ls : List Line) (i : ℕ) (d : Line) → i < length ls → text_of_entries (item_entries (take (i + 1) ls)) ≡ text_of_entries (item_entries (take i ls)) ++ row_text (row_of (Item (get_or ls i d)))
lines_more ls i d lt = ap text_of_entries (item_entries_more ls i d lt) ∙ text_of_push (item_entries (take i ls)) (Item (get_or ls i d))

pub small_more : (ls : List Line) (i : ℕ) (l : Line) → i < length ls → l ≡ get_or ls i l → AreSmall (item_entries (take i ls)) → IsSmall (Item l) → AreSmall (item_entries (take (i + 1) ls))
small_more ls i l lt at h one =
    subst AreSmall (sym (item_entries_more ls i l lt ∙ ap (λ (x : Line). item_entries (take i ls) ++ Item x ∷ []) (sym at))) (AllByRecursion-append IsSmall (item_entries (take i ls)) (Item l ∷ []) h (one, tt))

pub printed_is : (log : LogData) → printed log ≡ row_text (row_of (Claim log.0)) ++ (text_of_entries (item_entries log.1) ++ row_text (row_of End))
unfolding printed
printed_is log = ap (λ (t : List ℕ). row_text (row_of (Claim log.0)) ++ t) (text_of_push (item_entries log.1) End)
