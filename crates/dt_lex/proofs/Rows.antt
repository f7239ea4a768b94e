-- Rows as text, one behind the other.
use Rattle.std.proofs.Common.{◌≡◌, ℕ, ◌+◌, ◌<◌, List, [], ◌∷◌, ◌++◌, length, take, get_or, sym, ap, ◌∙◌}
use Rattle.std.specs.Prelude.{map}
use Rattle.std.specs.List.{flat_map}
use Rattle.std.proofs.lemmas.List.{append-nil, take_more, map_push}
use Rattle.std.proofs.lemmas.List.Concat.{flat_map-append}
use Rattle.dt_lex.specs.Printing.{row_text, text_of}

pub rows-append : (xs ys : List (List (List ℕ))) → text_of (xs ++ ys) ≡ text_of xs ++ text_of ys
rows-append xs ys = flat_map-append row_text xs ys

-- the row of one more element
pub rows_more : {X : Type 0} (row : X → List (List ℕ)) (xs : List X) (i : ℕ) (d : X) → i < length xs → text_of (map row (take (i + 1) xs)) ≡ text_of (map row (take i xs)) ++ row_text (row (get_or xs i d))
rows_more {X = X} row xs i d lt =
    ap (λ (ys : List X). text_of (map row ys)) (take_more xs i d lt)
    ∙ ap text_of (map_push row (take i xs) (get_or xs i d))
    ∙ rows-append (map row (take i xs)) (row (get_or xs i d) ∷ [])
    ∙ ap (λ (t : List ℕ). text_of (map row (take i xs)) ++ t) (append-nil (row_text (row (get_or xs i d))))
