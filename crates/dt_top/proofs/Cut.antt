-- The pieces of a text, one after another.
use Rattle.std.proofs.Common.{◌≡◌, ℕ, suc, zero, ◌<◌, ◌≤◌, List, [], ◌∷◌, length, take, drop, min, Option, Some, None, refl, sym, ap, ◌∙◌, append_assoc, append-nil, length-drop, arith}
use Rattle.std.proofs.lemmas.List.{take_min, drop_min}
use Rattle.dt_edge.specs.Told.{with_pieces}
use Rattle.dt_top.specs.Pieces.{pieces_up_to, pieces_of}

up_to_same : (n m : ℕ) (text : List ℕ) → length text ≤ n → length text ≤ m → pieces_up_to n text ≡ pieces_up_to m text
up_to_same zero zero text h k = refl
up_to_same zero (suc m) [] h k = refl
up_to_same zero (suc m) (b ∷ bytes) h k = absurd (omega arith)
up_to_same (suc n) zero [] h k = refl
up_to_same (suc n) zero (b ∷ bytes) h k = absurd (omega arith)
up_to_same (suc n) (suc m) [] h k = refl
up_to_same (suc n) (suc m) (b ∷ bytes) h k =
    let l = length-drop 4096 (b ∷ bytes) in
    ap (λ rest. take 4096 (b ∷ bytes) ∷ rest) (up_to_same n m (drop 4096 (b ∷ bytes)) (omega arith) (omega arith))

pub pieces-front : (text : List ℕ) → 0 < length text → pieces_of text ≡ take 4096 text ∷ pieces_of (drop 4096 text)
unfolding pieces_of
pieces-front [] h = absurd (omega arith)
pieces-front (b ∷ bytes) h =
    let l = length-drop 4096 (b ∷ bytes) in
    ap (λ rest. take 4096 (b ∷ bytes) ∷ rest) (up_to_same (length bytes) (length (drop 4096 (b ∷ bytes))) (drop 4096 (b ∷ bytes)) (omega arith) (omega arith))

pub pieces-none : pieces_of [] ≡ []
unfolding pieces_of
pieces-none = refl

pub with_pieces-front : (old : Option (List (List ℕ))) (piece : List ℕ) (pieces : List (List ℕ)) → with_pieces (with_pieces old (piece ∷ [])) pieces ≡ with_pieces old (piece ∷ pieces)
with_pieces-front None piece pieces = refl
with_pieces-front (Some old) piece pieces = ap Some (append_assoc old (piece ∷ []) pieces)

pub with_pieces-none : (old : Option (List (List ℕ))) → with_pieces old [] ≡ old
with_pieces-none None = refl
with_pieces-none (Some old) = ap Some (append-nil old)

-- one more piece
pub piece_more : (first mid new : Option (List (List ℕ))) (text rest piece more : List ℕ) → 0 < length rest
    → with_pieces mid (pieces_of rest) ≡ with_pieces first (pieces_of text) → piece ≡ take (min 4096 (length rest)) rest → more ≡ drop (min 4096 (length rest)) rest
    → new ≡ with_pieces mid (piece ∷ []) → with_pieces new (pieces_of more) ≡ with_pieces first (pieces_of text)
piece_more first mid new text rest piece more h i f b n =
    ap (λ o. with_pieces o (pieces_of more)) n ∙ with_pieces-front mid piece (pieces_of more)
    ∙ ap (λ p. with_pieces mid (p ∷ pieces_of more)) (f ∙ take_min 4096 rest)
    ∙ ap (λ q. with_pieces mid (take 4096 rest ∷ pieces_of q)) (b ∙ drop_min 4096 rest)
    ∙ ap (with_pieces mid) (sym (pieces-front rest h)) ∙ i

pub pieces_all : (first new : Option (List (List ℕ))) (text rest : List ℕ) → length rest ≡ 0
    → with_pieces new (pieces_of rest) ≡ with_pieces first (pieces_of text) → new ≡ with_pieces first (pieces_of text)
pieces_all first new text [] h i = sym (with_pieces-none new) ∙ ap (with_pieces new) (sym pieces-none) ∙ i
pieces_all first new text (b ∷ bytes) h i = absurd (omega arith)

pub no_pieces : (old : Option (List (List ℕ))) → old ≡ with_pieces old (pieces_of [])
no_pieces old = sym (with_pieces-none old) ∙ ap (with_pieces old) (sym pieces-none)
