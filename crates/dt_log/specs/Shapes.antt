-- Lines read one by one: how many trees are still awaited, and whether Try lines came last.
use Rattle.std.specs.Prelude.{ℕ, zero, suc, Bool, true, false, Option, Some, None, List, [], ◌∷◌, option_and_then, ◌+◌, if◌then◌else◌}
use Rattle.std.specs.Option.{option_map_or}
use Rattle.dt_log.specs.declared.line.Line.{Line}
use Rattle.dt_log.specs.declared.line.Line.TheVariants.{Forward, Backward, Try, Split, Close, Loose, Unvisited}

-- how many trees are still to come, and whether Try lines came last
pub record Shape : Type 0 where
  pub trees : ℕ
  pub trying : Bool

abbrev pub shape : ℕ → Bool → Shape
shape n trying = record { trees = n; trying = trying }

-- a line that may not follow Try lines
abbrev pub plain : Bool → ℕ → Option Shape
plain true n = None
plain false n = Some (shape n false)

-- where suc n trees are awaited: what is, after a line that can stand there
abbrev pub after_awaited : ℕ → Bool → Line → Option Shape
after_awaited n trying (Forward t) = plain trying (suc n)
after_awaited n trying (Backward p k) = plain trying (suc n)
after_awaited n trying (Try c v) = Some (shape (suc n) true)
after_awaited n trying (Split t i) = Some (shape (suc (suc n)) false)
after_awaited n trying (Close t) = plain trying n
after_awaited n trying Loose = Some (shape n false)
after_awaited n trying Unvisited = plain trying n

abbrev pub after_at : ℕ → Bool → Line → Option Shape
after_at zero trying line = None
after_at (suc n) trying line = after_awaited n trying line

-- nothing where no tree can go on with the line
abbrev pub after_line : Shape → Line → Option Shape
after_line s line = after_at s.trees s.trying line

unfoldable pub after_lines : Shape → List Line → Option Shape
after_lines s [] = Some s
after_lines s (line ∷ lines) = option_and_then (λ more. after_lines more lines) (after_line s line)

abbrev pub is_done : Option Shape → Bool
is_done None = false
is_done (Some s) = is_none_left s.trees
  where
    is_none_left : ℕ → Bool
    is_none_left zero = true
    is_none_left (suc n) = false

-- the lines are one tree
abbrev pub is_tree : List Line → Bool
is_tree lines = is_done (after_lines (shape 1 false) lines)

-- how many of the lines a tree can go on with
unfoldable pub goes : Shape → List Line → ℕ
goes s [] = 0
goes s (line ∷ lines) = option_map_or (λ more. 1 + goes more lines) (after_line s line) 0

-- the position, from 1, of the first line where no tree can go on, or one past the last where the tree isn't ended; nothing where the lines are one tree
abbrev pub first_wrong : List Line → Option ℕ
first_wrong lines = if is_tree lines then None else Some (goes (shape 1 false) lines + 1)
