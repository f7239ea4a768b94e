-- The first wrong line is the first where no tree can go on.
use Rattle.std.proofs.Common.{◌≡◌, ℕ, zero, suc, ◌+◌, ◌-◌, ◌<◌, ◌≤◌, Bool, true, false, cond, List, [], ◌∷◌, ◌++◌, length, take, Option, Some, None, refl, sym, ap, ◌∙◌, subst, arith}
use Rattle.std.specs.Prelude.{option_and_then, IfSome}
use Rattle.std.specs.Option.{option_map_or}
use Rattle.std.proofs.lemmas.Bool.{false≢true}
use Rattle.dt_lemmas.proofs.Options.{at_some, some_is}
use Rattle.dt_log.specs.declared.line.Line.{Line}
use Rattle.dt_log.specs.declared.line.Line.TheVariants.{Forward, Backward, Try, Split, Close, Loose, Unvisited}
use Rattle.dt_log.specs.Shapes.{Shape, shape, plain, after_awaited, after_at, after_line, after_lines, is_done, is_tree, goes, first_wrong}
use Rattle.dt_log.specs.Exact.{BeginATree, IsFirstWrong}
use Rattle.dt_log.proofs.Forests.{tree_is, tree_of}

-- ---- lines one after the other

after_append : (s : Shape) (xs ys : List Line) → after_lines s (xs ++ ys) ≡ option_and_then (λ more. after_lines more ys) (after_lines s xs)
unfolding after_lines
after_append s [] ys = refl
after_append s (x ∷ xs) ys = after (λ more. after_append more xs ys) (after_line s x)
  where
    after : ((more : Shape) → after_lines more (xs ++ ys) ≡ option_and_then (λ m. after_lines m ys) (after_lines more xs)) → (o : Option Shape) → option_and_then (λ more. after_lines more (xs ++ ys)) o ≡ option_and_then (λ more. after_lines more ys) (option_and_then (λ more. after_lines more xs) o)
    after again None = refl
    after again (Some more) = again more

-- so many lines go on
goes_on : (s : Shape) (lines : List Line) → (t : Shape) × (after_lines s (take (goes s lines) lines) ≡ Some t)
unfolding after_lines goes
goes_on s [] = (s, refl)
goes_on s (line ∷ lines) = after (λ more. goes_on more lines) (after_line s line) refl
  where
    after : ((more : Shape) → (t : Shape) × (after_lines more (take (goes more lines) lines) ≡ Some t)) → (o : Option Shape) → after_line s line ≡ o → (t : Shape) × (after_lines s (take (option_map_or (λ more. 1 + goes more lines) o 0) (line ∷ lines)) ≡ Some t)
    after again None e = (s, refl)
    after again (Some more) e =
        let h = again more in
        let n : 1 + goes more lines ≡ suc (goes more lines) = omega arith in
        (h.0, ap (λ (k : ℕ). after_lines s (take k (line ∷ lines))) n ∙ ap (option_and_then (λ m. after_lines m (take (goes more lines) lines))) e ∙ h.1)

goes_le : (s : Shape) (lines : List Line) → goes s lines ≤ length lines
unfolding goes
goes_le s [] = omega arith
goes_le s (line ∷ lines) = after (λ more. goes_le more lines) (after_line s line)
  where
    after : ((more : Shape) → goes more lines ≤ length lines) → (o : Option Shape) → option_map_or (λ more. 1 + goes more lines) o 0 ≤ length (line ∷ lines)
    after again None = omega arith
    after again (Some more) = omega (arith, again more)

-- with one more they don't
stops : (s : Shape) (lines : List Line) → goes s lines < length lines → after_lines s (take (goes s lines + 1) lines) ≡ None
unfolding after_lines goes
stops s [] lt = absurd (omega arith)
stops s (line ∷ lines) lt = after (λ more lt. stops more lines lt) (after_line s line) refl lt
  where
    after : ((more : Shape) → goes more lines < length lines → after_lines more (take (goes more lines + 1) lines) ≡ None) → (o : Option Shape) → after_line s line ≡ o → option_map_or (λ more. 1 + goes more lines) o 0 < length (line ∷ lines) → after_lines s (take (option_map_or (λ more. 1 + goes more lines) o 0 + 1) (line ∷ lines)) ≡ None
    after again None e lt = ap (option_and_then (λ m. after_lines m (take zero lines))) e
    after again (Some more) e lt =
        let n : 1 + goes more lines + 1 ≡ suc (goes more lines + 1) = omega arith in
        ap (λ (k : ℕ). after_lines s (take k (line ∷ lines))) n ∙ ap (option_and_then (λ m. after_lines m (take (goes more lines + 1) lines))) e ∙ again more (omega arith)

-- ---- what is awaited can come

-- Try lines came last only where a tree is awaited
IsOpen : Shape → Type 0
IsOpen s = s.trying ≡ true → (n : ℕ) × (s.trees ≡ suc n)

plain_open : (b : Bool) (n : ℕ) → IfSome (plain b n) IsOpen
unfolding IsOpen
plain_open true n = tt
plain_open false n = λ e. absurd (false≢true e)

awaited_open : (n : ℕ) (b : Bool) (line : Line) → IfSome (after_awaited n b line) IsOpen
unfolding IsOpen
awaited_open n b (Forward t) = plain_open b (suc n)
awaited_open n b (Backward p k) = plain_open b (suc n)
awaited_open n b (Try c v) = λ e. (n, refl)
awaited_open n b (Split t i) = λ e. absurd (false≢true e)
awaited_open n b (Close t) = plain_open b n
awaited_open n b Loose = λ e. absurd (false≢true e)
awaited_open n b Unvisited = plain_open b n

line_open : (n : ℕ) (b : Bool) (line : Line) → IfSome (after_at n b line) IsOpen
line_open zero b line = tt
line_open (suc n) b line = awaited_open n b line

lines_open : (s : Shape) (lines : List Line) → IsOpen s → IfSome (after_lines s lines) IsOpen
unfolding after_lines
lines_open s [] h = h
lines_open s (line ∷ lines) h = after (λ more h. lines_open more lines h) (after_line s line) (line_open s.trees s.trying line)
  where
    after : ((more : Shape) → IsOpen more → IfSome (after_lines more lines) IsOpen) → (o : Option Shape) → IfSome o IsOpen → IfSome (option_and_then (λ more. after_lines more lines) o) IsOpen
    after again None h = tt
    after again (Some more) h = again more h

unvisited_all : ℕ → List Line
unvisited_all zero = []
unvisited_all (suc n) = Unvisited ∷ unvisited_all n

all_unvisited : (n : ℕ) → is_done (after_lines (shape n false) (unvisited_all n)) ≡ true
unfolding after_lines unvisited_all
all_unvisited zero = refl
all_unvisited (suc n) = all_unvisited n

ends : (n : ℕ) (b : Bool) → IsOpen (shape n b) → (more : List Line) × (is_done (after_lines (shape n b) more) ≡ true)
unfolding after_lines IsOpen
ends n false h = (unvisited_all n, all_unvisited n)
ends zero true h = absurd (let w = h refl in let n = w.0 in let e : zero ≡ suc n = w.1 in omega arith)
ends (suc n) true h = (Loose ∷ unvisited_all n, all_unvisited n)

-- ---- the first wrong line

first_is : (lines : List Line) (k : ℕ) (b : Bool) → is_tree lines ≡ b → cond b None (Some (goes (shape 1 false) lines + 1)) ≡ Some k → (is_tree lines ≡ false) × (k ≡ goes (shape 1 false) lines + 1)
first_is lines k true e h = absurd cc
first_is lines k false e h = (e, sym (some_is (goes (shape 1 false) lines + 1) k h))

begin_open : IsOpen (shape 1 false)
unfolding IsOpen
begin_open = λ e. absurd (false≢true e)

goes_begin : (lines : List Line) → BeginATree (take (goes (shape 1 false) lines) lines)
goes_begin lines =
    let xs = take (goes (shape 1 false) lines) lines in
    let t = goes_on (shape 1 false) lines in
    let open_t : IsOpen t.0 = at_some IsOpen (after_lines (shape 1 false) xs) t.0 (lines_open (shape 1 false) xs begin_open) t.1 in
    let more = ends t.0.trees t.0.trying open_t in
    let whole : is_tree (xs ++ more.0) ≡ true = ap is_done (after_append (shape 1 false) xs more.0) ∙ ap (λ (o : Option Shape). is_done (option_and_then (λ m. after_lines m more.0) o)) t.1 ∙ more.1 in
    let tree = tree_of (xs ++ more.0) whole in
    (tree.0, more.0, tree.1)

no_begin : (xs : List Line) → after_lines (shape 1 false) xs ≡ None → BeginATree xs → ⊥
no_begin xs none begin =
    let whole : is_tree (xs ++ begin.1) ≡ false = ap is_done (after_append (shape 1 false) xs begin.1) ∙ ap (λ (o : Option Shape). is_done (option_and_then (λ m. after_lines m begin.1) o)) none in
    false≢true (sym whole ∙ ap is_tree (sym begin.2) ∙ tree_is begin.0)

pub first_wrong_is : (lines : List Line) (k : ℕ) → first_wrong lines ≡ Some k → IsFirstWrong lines k
first_wrong_is lines k e =
    let h = first_is lines k (is_tree lines) refl e in
    let n = goes (shape 1 false) lines in
    let at : k ≡ n + 1 = h.1 in
    let before : k - 1 ≡ n = omega arith in
    record {
      from = omega arith;
      to = omega (arith, goes_le (shape 1 false) lines);
      before = subst (λ (i : ℕ). BeginATree (take i lines)) (sym before) (goes_begin lines);
      wrong = λ le begin. no_begin (take k lines) (ap (λ (i : ℕ). after_lines (shape 1 false) (take i lines)) at ∙ stops (shape 1 false) lines (omega arith)) begin;
      unended = λ tree stands. false≢true (sym h.0 ∙ ap is_tree (sym stands) ∙ tree_is tree);
    }
