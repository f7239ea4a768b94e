-- Lines are one tree exactly where they are read as one, and they stand for no other tree.
use Rattle.std.proofs.Common.{◌≡◌, ℕ, zero, suc, Bool, true, false, List, [], ◌∷◌, ◌++◌, length, map, refl, sym, ap, ◌∙◌, arith, append_assoc}
use Rattle.std.proofs.lemmas.List.{append-nil}
use Rattle.std.proofs.lemmas.Bool.{false≢true}
use Rattle.dt_log.specs.declared.line.Line.{Line}
use Rattle.dt_log.specs.declared.line.Line.TheVariants.{Forward, Backward, Try, Split, Close, Loose, Unvisited}
use Rattle.dt_log.specs.Trees.{Tree, forward, backward, close, split, loose, unvisited, lines_of, try_line}
use Rattle.dt_log.specs.Shapes.{shape, after_lines, is_done, is_tree}

-- Try lines before a split, or before an end that was left
split_tries : (n : ℕ) (b : Bool) (tries : List (ℕ × ℕ)) (t i : ℕ) (rest : List Line) → after_lines (shape (suc n) b) (map try_line tries ++ Split t i ∷ rest) ≡ after_lines (shape (suc (suc n)) false) rest
unfolding after_lines
split_tries n b [] t i rest = refl
split_tries n b (try ∷ tries) t i rest = split_tries n true tries t i rest

loose_tries : (n : ℕ) (b : Bool) (tries : List (ℕ × ℕ)) (rest : List Line) → after_lines (shape (suc n) b) (map try_line tries ++ Loose ∷ rest) ≡ after_lines (shape n false) rest
unfolding after_lines
loose_tries n b [] rest = refl
loose_tries n b (try ∷ tries) rest = loose_tries n true tries rest

-- after a tree one fewer is awaited
pub shape_tree : (tree : Tree) (n : ℕ) (rest : List Line) → after_lines (shape (suc n) false) (lines_of tree ++ rest) ≡ after_lines (shape n false) rest
unfolding after_lines lines_of
shape_tree (forward t more) n rest = shape_tree more n rest
shape_tree (backward p k more) n rest = shape_tree more n rest
shape_tree (close t) n rest = refl
shape_tree unvisited n rest = refl
shape_tree (loose tries) n rest =
    ap (after_lines (shape (suc n) false)) (append_assoc (map try_line tries) (Loose ∷ []) rest) ∙ loose_tries n false tries rest
shape_tree (split tries t i zeros ones) n rest =
    ap (after_lines (shape (suc n) false)) (append_assoc (map try_line tries) (Split t i ∷ (lines_of zeros ++ lines_of ones)) rest)
    ∙ split_tries n false tries t i ((lines_of zeros ++ lines_of ones) ++ rest)
    ∙ ap (after_lines (shape (suc (suc n)) false)) (append_assoc (lines_of zeros) (lines_of ones) rest)
    ∙ shape_tree zeros (suc n) (lines_of ones ++ rest)
    ∙ shape_tree ones n rest

-- the lines of a tree are a tree
pub tree_is : (tree : Tree) → is_tree (lines_of tree) ≡ true
unfolding after_lines
tree_is tree = ap (λ lines. is_done (after_lines (shape 1 false) lines)) (sym (append-nil (lines_of tree))) ∙ ap is_done (shape_tree tree 0 [])

unfoldable pub all_lines : List Tree → List Line
all_lines [] = []
all_lines (tree ∷ trees) = lines_of tree ++ all_lines trees

abbrev IsTriable : Tree → Type 0
IsTriable (forward t rest) = ⊥
IsTriable (backward p k rest) = ⊥
IsTriable (close t) = ⊥
IsTriable (split tries t i zeros ones) = Unit {0}
IsTriable (loose tries) = Unit {0}
IsTriable unvisited = ⊥

abbrev FirstTriable : List Tree → Type 0
FirstTriable [] = ⊥
FirstTriable (tree ∷ trees) = IsTriable tree

-- as many trees as are awaited, of which the first one may follow Try lines where such came last
record Forest (n : ℕ) (b : Bool) (lines : List Line) : Type 0 where
  pub trees : List Tree
  pub count : length trees ≡ n
  pub lines_are : all_lines trees ≡ lines
  pub triable : b ≡ true → FirstTriable trees

grow : (f : Tree → Tree) (line : Line) (n : ℕ) (lines : List Line) → ((tree : Tree) → lines_of (f tree) ≡ line ∷ lines_of tree) → Forest (suc n) false lines → Forest (suc n) false (line ∷ lines)
unfolding all_lines
grow f line n lines e h = by_trees h.trees h.count h.lines_are
  where
    by_trees : (trees : List Tree) → length trees ≡ suc n → all_lines trees ≡ lines → Forest (suc n) false (line ∷ lines)
    by_trees [] c l = absurd (omega arith)
    by_trees (tree ∷ trees) c l = record { trees = f tree ∷ trees; count = c; lines_are = ap (λ ls. ls ++ all_lines trees) (e tree) ∙ ap (λ ls. line ∷ ls) l; triable = λ z. absurd (false≢true z) }

add_try : ℕ × ℕ → Tree → Tree
add_try try (forward t rest) = forward t rest
add_try try (backward p k rest) = backward p k rest
add_try try (close t) = close t
add_try try (split tries t i zeros ones) = split (try ∷ tries) t i zeros ones
add_try try (loose tries) = loose (try ∷ tries)
add_try try unvisited = unvisited

tried_lines : (c v : ℕ) (tree : Tree) → IsTriable tree → (lines_of (add_try (c, v) tree) ≡ Try c v ∷ lines_of tree) × IsTriable (add_try (c, v) tree)
unfolding lines_of add_try
tried_lines c v (forward t rest) h = absurd h
tried_lines c v (backward p k rest) h = absurd h
tried_lines c v (close t) h = absurd h
tried_lines c v (split tries t i zeros ones) h = (refl, tt)
tried_lines c v (loose tries) h = (refl, tt)
tried_lines c v unvisited h = absurd h

grow_try : (c v n : ℕ) (b : Bool) (lines : List Line) → Forest (suc n) true lines → Forest (suc n) b (Try c v ∷ lines)
unfolding all_lines
grow_try c v n b lines h = by_trees h.trees h.count h.lines_are (h.triable refl)
  where
    by_trees : (trees : List Tree) → length trees ≡ suc n → all_lines trees ≡ lines → FirstTriable trees → Forest (suc n) b (Try c v ∷ lines)
    by_trees [] k l t = absurd t
    by_trees (tree ∷ trees) k l t =
        let e = tried_lines c v tree t in
        record { trees = add_try (c, v) tree ∷ trees; count = k; lines_are = ap (λ ls. ls ++ all_lines trees) e.0 ∙ ap (λ ls. Try c v ∷ ls) l; triable = λ z. e.1 }

grow_split : (t i n : ℕ) (b : Bool) (lines : List Line) → Forest (suc (suc n)) false lines → Forest (suc n) b (Split t i ∷ lines)
unfolding all_lines lines_of
grow_split t i n b lines h = by_trees h.trees h.count h.lines_are
  where
    by_trees : (trees : List Tree) → length trees ≡ suc (suc n) → all_lines trees ≡ lines → Forest (suc n) b (Split t i ∷ lines)
    by_trees [] k l = absurd (omega arith)
    by_trees (zeros ∷ []) k l = absurd (omega arith)
    by_trees (zeros ∷ (ones ∷ trees)) k l = record {
      trees = split [] t i zeros ones ∷ trees;
      count = omega arith;
      lines_are = ap (λ ls. Split t i ∷ ls) (append_assoc (lines_of zeros) (lines_of ones) (all_lines trees) ∙ l);
      triable = λ z. tt;
    }

grow_end : (tree : Tree) (line : Line) (n : ℕ) (b : Bool) (lines : List Line) → lines_of tree ≡ line ∷ [] → (b ≡ true → IsTriable tree) → Forest n false lines → Forest (suc n) b (line ∷ lines)
unfolding all_lines
grow_end tree line n b lines e f h = record { trees = tree ∷ h.trees; count = ap suc h.count; lines_are = ap (λ ls. ls ++ all_lines h.trees) e ∙ ap (λ ls. line ∷ ls) h.lines_are; triable = f }

lines_forward : (t : ℕ) (tree : Tree) → lines_of (forward t tree) ≡ Forward t ∷ lines_of tree
unfolding lines_of
lines_forward t tree = refl

lines_backward : (p k : ℕ) (tree : Tree) → lines_of (backward p k tree) ≡ Backward p k ∷ lines_of tree
unfolding lines_of
lines_backward p k tree = refl

lines_close : (t : ℕ) → lines_of (close t) ≡ Close t ∷ []
unfolding lines_of
lines_close t = refl

lines_loose : lines_of (loose []) ≡ Loose ∷ []
unfolding lines_of
lines_loose = refl

lines_unvisited : lines_of unvisited ≡ Unvisited ∷ []
unfolding lines_of
lines_unvisited = refl

-- what is read as trees are trees
built : (lines : List Line) (n : ℕ) (b : Bool) → is_done (after_lines (shape n b) lines) ≡ true → (b ≡ true → n ≡ 0 → ⊥) → Forest n b lines
unfolding after_lines all_lines
built [] zero true e p = absurd (p refl refl)
built [] zero false e p = record { trees = []; count = refl; lines_are = refl; triable = λ z. absurd (false≢true z) }
built [] (suc n) b e p = absurd (false≢true e)
built (line ∷ lines) zero b e p = absurd (false≢true e)
built (Forward t ∷ lines) (suc n) true e p = absurd (false≢true e)
built (Forward t ∷ lines) (suc n) false e p = grow (forward t) (Forward t) n lines (lines_forward t) (built lines (suc n) false e (λ z. absurd (false≢true z)))
built (Backward u k ∷ lines) (suc n) true e p = absurd (false≢true e)
built (Backward u k ∷ lines) (suc n) false e p = grow (backward u k) (Backward u k) n lines (lines_backward u k) (built lines (suc n) false e (λ z. absurd (false≢true z)))
built (Try c v ∷ lines) (suc n) b e p = grow_try c v n b lines (built lines (suc n) true e (λ z f. cc))
built (Split t i ∷ lines) (suc n) b e p = grow_split t i n b lines (built lines (suc (suc n)) false e (λ z. absurd (false≢true z)))
built (Close t ∷ lines) (suc n) true e p = absurd (false≢true e)
built (Close t ∷ lines) (suc n) false e p = grow_end (close t) (Close t) n false lines (lines_close t) (λ z. absurd (false≢true z)) (built lines n false e (λ z. absurd (false≢true z)))
built (Loose ∷ lines) (suc n) b e p = grow_end (loose []) Loose n b lines lines_loose (λ z. tt) (built lines n false e (λ z. absurd (false≢true z)))
built (Unvisited ∷ lines) (suc n) true e p = absurd (false≢true e)
built (Unvisited ∷ lines) (suc n) false e p = grow_end unvisited Unvisited n false lines lines_unvisited (λ z. absurd (false≢true z)) (built lines n false e (λ z. absurd (false≢true z)))

-- the tree that lines stand for
pub tree_of : (lines : List Line) → is_tree lines ≡ true → (tree : Tree) × (lines_of tree ≡ lines)
unfolding all_lines
tree_of lines e = let f = built lines 1 false e (λ z. absurd (false≢true z)) in the_one f.trees f.count f.lines_are
  where
    the_one : (trees : List Tree) → length trees ≡ 1 → all_lines trees ≡ lines → (tree : Tree) × (lines_of tree ≡ lines)
    the_one [] c l = absurd (omega arith)
    the_one (tree ∷ []) c l = (tree, sym (append-nil (lines_of tree)) ∙ l)
    the_one (tree ∷ (other ∷ trees)) c l = absurd (omega arith)

-- ---- one tree at most
on_first : (Tree → Tree) → List Tree → List Tree
on_first f [] = []
on_first f (tree ∷ trees) = f tree ∷ trees

join_two : ℕ → ℕ → List Tree → List Tree
join_two t i [] = []
join_two t i (tree ∷ []) = []
join_two t i (zeros ∷ (ones ∷ trees)) = split [] t i zeros ones ∷ trees

-- the trees that lines stand for
parsed : List Line → List Tree
parsed [] = []
parsed (Forward t ∷ lines) = on_first (forward t) (parsed lines)
parsed (Backward p k ∷ lines) = on_first (backward p k) (parsed lines)
parsed (Try c v ∷ lines) = on_first (add_try (c, v)) (parsed lines)
parsed (Split t i ∷ lines) = join_two t i (parsed lines)
parsed (Close t ∷ lines) = close t ∷ parsed lines
parsed (Loose ∷ lines) = loose [] ∷ parsed lines
parsed (Unvisited ∷ lines) = unvisited ∷ parsed lines

parsed_split : (tries : List (ℕ × ℕ)) (t i : ℕ) (zeros ones : Tree) (trees : List Tree) (lines : List Line) → parsed lines ≡ split [] t i zeros ones ∷ trees → parsed (map try_line tries ++ lines) ≡ split tries t i zeros ones ∷ trees
unfolding parsed on_first add_try
parsed_split [] t i zeros ones trees lines e = e
parsed_split (try ∷ tries) t i zeros ones trees lines e = ap (on_first (add_try (try.0, try.1))) (parsed_split tries t i zeros ones trees lines e)

parsed_loose : (tries : List (ℕ × ℕ)) (trees : List Tree) (lines : List Line) → parsed lines ≡ loose [] ∷ trees → parsed (map try_line tries ++ lines) ≡ loose tries ∷ trees
unfolding parsed on_first add_try
parsed_loose [] trees lines e = e
parsed_loose (try ∷ tries) trees lines e = ap (on_first (add_try (try.0, try.1))) (parsed_loose tries trees lines e)

parsed_tree : (tree : Tree) (rest : List Line) → parsed (lines_of tree ++ rest) ≡ tree ∷ parsed rest
unfolding parsed on_first join_two lines_of
parsed_tree (forward t more) rest = ap (on_first (forward t)) (parsed_tree more rest)
parsed_tree (backward p k more) rest = ap (on_first (backward p k)) (parsed_tree more rest)
parsed_tree (close t) rest = refl
parsed_tree unvisited rest = refl
parsed_tree (loose tries) rest = ap parsed (append_assoc (map try_line tries) (Loose ∷ []) rest) ∙ parsed_loose tries (parsed rest) (Loose ∷ rest) refl
parsed_tree (split tries t i zeros ones) rest =
    ap parsed (append_assoc (map try_line tries) (Split t i ∷ (lines_of zeros ++ lines_of ones)) rest)
    ∙ parsed_split tries t i zeros ones (parsed rest) (Split t i ∷ ((lines_of zeros ++ lines_of ones) ++ rest))
    (ap (λ ls. join_two t i (parsed ls)) (append_assoc (lines_of zeros) (lines_of ones) rest) ∙ ap (join_two t i) (parsed_tree zeros (lines_of ones ++ rest) ∙ ap (λ trees. zeros ∷ trees) (parsed_tree ones rest)))

-- lines stand for at most one tree
pub same_tree : (tree other : Tree) → lines_of tree ≡ lines_of other → tree ≡ other
unfolding parsed
same_tree tree other e =
    let a = parsed_tree tree [] in
    let b = parsed_tree other [] in
    let f = ap (λ ls. parsed (ls ++ [])) e in
    cc
