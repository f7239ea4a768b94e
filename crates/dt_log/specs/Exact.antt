-- What it means of trees that lines are one, and which line is the first wrong one.
use Rattle.std.specs.Prelude.{◌≡◌, ℕ, ◌+◌, ◌-◌, ◌≤◌, true, List, ◌++◌, length, take, Some}
use Rattle.dt_log.specs.declared.line.Line.{Line}
use Rattle.dt_log.specs.Trees.{Tree, StandsFor, lines_of}
use Rattle.dt_log.specs.Shapes.{is_tree, first_wrong}

-- the items of some tree begin with these lines
abbrev pub BeginATree : List Line → Type 0
BeginATree lines = (tree : Tree) × (more : List Line) × (lines_of tree ≡ lines ++ more)

-- the lines before the k-th begin a tree, and with the k-th they don't; where no tree is ended, k is one past the last
pub record IsFirstWrong (lines : List Line) (k : ℕ) : Type 0 where
  pub from : 1 ≤ k
  pub to : k ≤ length lines + 1
  pub before : BeginATree (take (k - 1) lines)
  pub wrong : k ≤ length lines → BeginATree (take k lines) → ⊥
  pub unended : (tree : Tree) → StandsFor lines tree → ⊥

pub record TreesAreRead : Type 0 where
  -- the items of a tree are a tree
  pub trees : (tree : Tree) → is_tree (lines_of tree) ≡ true
  -- lines that are a tree stand for one
  pub stand : (lines : List Line) → is_tree lines ≡ true → (tree : Tree) × StandsFor lines tree
  -- and for no other
  pub once : (tree other : Tree) → lines_of tree ≡ lines_of other → tree ≡ other
  -- the line that is named is the first where no tree can go on
  pub first : (lines : List Line) (k : ℕ) → first_wrong lines ≡ Some k → IsFirstWrong lines k
