-- A log without its Try items stands for the tree in which nothing was tried.
use Rattle.std.proofs.Common.{◌≡◌, ℕ, suc, ◌+◌, ◌<◌, ◌≤◌, Bool, true, false, cond, ◌||◌, List, [], ◌∷◌, ◌++◌, length, map, drop, drop-cons, get_or, refl, sym, ap, ◌∙◌, arith, append_assoc}
use Rattle.std.proofs.Math.ListN.{drop_of_length-le}
use Rattle.std.proofs.lemmas.List.{append-nil}
use Rattle.dt_lemmas.proofs.Equalities.{two}
use Rattle.dt_domain.specs.Domain.{DomainOps}
use Rattle.dt_terms.specs.Problem.{ProblemData}
use Rattle.dt_terms.specs.declared.term.Term.{Term}
use Rattle.dt_box.specs.declared.step.Step.TheVariants as steps
use Rattle.dt_box.specs.Steps.{after_step, after_bit}
use Rattle.dt_log.specs.declared.line.Line.{Line}
use Rattle.dt_log.specs.declared.line.Line.TheVariants.{Forward, Backward, Split, Loose}
use Rattle.dt_log.specs.Trees.{Tree, forward, backward, close, split, loose, unvisited, try_line, lines_of, is_open}
use Rattle.dt_log.specs.Shapes.{is_tree}
use Rattle.dt_log.proofs.Forests.{tree_of, tree_is}
use Rattle.dt_check.specs.Sound.{IsSound, Refutes}
use Rattle.dt_solve.specs.Untried.{is_try_item, AreUntried, without_tries}

-- the tree in which nothing was tried
unfoldable pub bare : Tree → Tree
bare (forward t rest) = forward t (bare rest)
bare (backward p k rest) = backward p k (bare rest)
bare (close t) = close t
bare (split tries t i zeros ones) = split [] t i (bare zeros) (bare ones)
bare (loose tries) = loose []
bare unvisited = unvisited

pub without-append : (xs ys : List Line) → without_tries (xs ++ ys) ≡ without_tries xs ++ without_tries ys
unfolding without_tries
without-append [] ys = refl
without-append (x ∷ xs) ys = either (is_try_item x) (without-append xs ys)
  where
    either : (b : Bool) → without_tries (xs ++ ys) ≡ without_tries xs ++ without_tries ys
        → cond b (without_tries (xs ++ ys)) (x ∷ without_tries (xs ++ ys)) ≡ cond b (without_tries xs) (x ∷ without_tries xs) ++ without_tries ys
    either true e = e
    either false e = ap (λ l. x ∷ l) e

tries_gone : (tries : List (ℕ × ℕ)) (rest : List Line) → without_tries (map try_line tries ++ rest) ≡ without_tries rest
unfolding without_tries
tries_gone [] rest = refl
tries_gone (try ∷ tries) rest = tries_gone tries rest

pub lines_bare : (tree : Tree) → lines_of (bare tree) ≡ without_tries (lines_of tree)
unfolding bare lines_of without_tries
lines_bare (forward t rest) = ap (λ l. Forward t ∷ l) (lines_bare rest)
lines_bare (backward p k rest) = ap (λ l. Backward p k ∷ l) (lines_bare rest)
lines_bare (close t) = refl
lines_bare (split tries t i zeros ones) =
    ap (λ l. Split t i ∷ l) (two (λ x y. x ++ y) (lines_bare zeros) (lines_bare ones) ∙ sym (without-append (lines_of zeros) (lines_of ones)))
    ∙ sym (tries_gone tries (Split t i ∷ (lines_of zeros ++ lines_of ones)))
lines_bare (loose tries) = sym (tries_gone tries (Loose ∷ []))
lines_bare unvisited = refl

pub open_bare : (tree : Tree) → is_open (bare tree) ≡ is_open tree
unfolding bare is_open
open_bare (forward t rest) = open_bare rest
open_bare (backward p k rest) = open_bare rest
open_bare (close t) = refl
open_bare (split tries t i zeros ones) = two (λ x y. x || y) (open_bare zeros) (open_bare ones)
open_bare (loose tries) = refl
open_bare unvisited = refl

pub sound_bare : (D : Type 0) (ops : DomainOps D) (terms : List Term) (tree : Tree) (cells : List D) → IsSound ops terms tree cells → IsSound ops terms (bare tree) cells
unfolding bare IsSound
sound_bare D ops terms (forward t rest) cells h = (h.0, sound_bare D ops terms rest (after_step ops terms (steps.Forward t) cells) h.1)
sound_bare D ops terms (backward p k rest) cells h = (h.0, sound_bare D ops terms rest (after_step ops terms (steps.Backward p k) cells) h.1)
sound_bare D ops terms (close t) cells h = h
sound_bare D ops terms (split tries t i zeros ones) cells h =
    (h.0, sound_bare D ops terms zeros (after_bit ops t i false cells) h.1, sound_bare D ops terms ones (after_bit ops t i true cells) h.2)
sound_bare D ops terms (loose tries) cells h = h
sound_bare D ops terms unvisited cells h = h

pub refutes_bare : (D : Type 0) (ops : DomainOps D) (p : ProblemData) (tree : Tree) → Refutes ops p tree → Refutes ops p (bare tree)
refutes_bare D ops p tree h = (sound_bare D ops p.terms tree _ h.0, open_bare tree ∙ h.1)

-- and the items are its items
pub bare_is_tree : (lines : List Line) → is_tree lines ≡ true → is_tree (without_tries lines) ≡ true
bare_is_tree lines h =
    let t = tree_of lines h in
    ap is_tree (sym (lines_bare t.0 ∙ ap without_tries t.1)) ∙ tree_is (bare t.0)

pub are_untried : (lines : List Line) → AreUntried (without_tries lines)
unfolding without_tries
are_untried [] = tt
are_untried (line ∷ lines) = either (is_try_item line) refl (are_untried lines)
  where
    either : (b : Bool) → is_try_item line ≡ b → AreUntried (without_tries lines) → AreUntried (cond b (without_tries lines) (line ∷ without_tries lines))
    either true e h = h
    either false e h = (e, h)

-- ---- item by item
without-cons : (line : Line) (lines : List Line) → without_tries (line ∷ lines) ≡ cond (is_try_item line) [] (line ∷ []) ++ without_tries lines
unfolding without_tries
without-cons line lines = either (is_try_item line)
  where
    either : (b : Bool) → cond b (without_tries lines) (line ∷ without_tries lines) ≡ cond b [] (line ∷ []) ++ without_tries lines
    either true = refl
    either false = refl

-- one more item
pub without_next : (lines : List Line) (k : ℕ) (old new : List Line) (line : Line) → k < length lines → line ≡ get_or lines k line → new ≡ old ++ cond (is_try_item line) [] (line ∷ [])
    → new ++ without_tries (drop (k + 1) lines) ≡ old ++ without_tries (drop k lines)
without_next lines k old new line l f e =
    let n : k + 1 ≡ suc k = omega arith in
    let rest = without_tries (drop (suc k) lines) in
    ap (λ j. new ++ without_tries (drop j lines)) n
    ∙ ap (λ x. x ++ rest) e
    ∙ append_assoc old (cond (is_try_item line) [] (line ∷ [])) rest
    ∙ ap (λ x. old ++ x) (sym (without-cons line (drop (suc k) lines)) ∙ ap without_tries (ap (λ x. x ∷ drop (suc k) lines) f ∙ sym (drop-cons lines k line l)))

-- and the last one
pub without_end : (lines : List Line) (k : ℕ) (new : List Line) → length lines ≤ k → new ++ without_tries (drop k lines) ≡ new
unfolding without_tries
without_end lines k new l = ap (λ x. new ++ without_tries x) (drop_of_length-le lines l) ∙ append-nil new
