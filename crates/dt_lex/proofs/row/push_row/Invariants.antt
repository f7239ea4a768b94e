use Rattle.std.proofs.Common.{◌≡◌, ◌++◌, ◌∷◌, take}
use Rattle.std.specs.List.{flat_map}
use Rattle.dt_lex.specs.Printing.{piece_tokens, body_of}
use Rattle.dt_lex.proofs.row.push_row.Given as goal

abbrev pub invariant-loop-piece : goal.invariant-loop-piece
invariant-loop-piece l = l.out.items ≡ l.fn.out.items ++ body_of (l.word ∷ flat_map piece_tokens (take l.piece-index l.pieces))
