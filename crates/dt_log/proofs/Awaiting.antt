-- What is awaited, line by line.
use Rattle.std.proofs.Common.{◌≡◌, ℕ, zero, suc, ◌+◌, ◌<◌, ◌≤◌, Bool, true, false, cond, not, is_some, eqb, List, length, get_or, drop, drop-cons, Some, None, refl, sym, ap, ◌∙◌, arith, ⊎_elim}
use Rattle.std.proofs.lemmas.Bool.{cases_Bool, eqb-true, cond-true, cond-false}
use Rattle.std.specs.Prelude.{option_and_then}
use Rattle.std.specs.Option.{option_map_or}
use Rattle.std.proofs.Math.ListN.{drop_of_length-le}
use Rattle.dt_log.specs.declared.line.Line.{Line}
use Rattle.dt_log.specs.Shapes.{Shape, shape, after_line, after_lines, is_done, is_tree, goes, first_wrong}

pub opened : (s : Shape) (lines : List Line) (k : ℕ) (line d : Line) → k < length lines → get_or lines k d ≡ line
    → is_done (after_lines s (drop k lines)) ≡ is_done (option_and_then (λ more. after_lines more (drop (k + 1) lines)) (after_line s line))
unfolding after_lines
opened s lines k line d l e =
    let n : suc k ≡ k + 1 = omega arith in
    ap (λ ls. is_done (after_lines s ls)) (drop-cons lines k d l)
    ∙ ap (λ x. is_done (option_and_then (λ more. after_lines more (drop (suc k) lines)) (after_line s x))) e
    ∙ ap (λ m. is_done (option_and_then (λ more. after_lines more (drop m lines)) (after_line s line))) n

pub opened_none : (s : Shape) (lines : List Line) (k : ℕ) (line d : Line) → k < length lines → get_or lines k d ≡ line → after_line s line ≡ None
    → is_done (after_lines s (drop k lines)) ≡ false
opened_none s lines k line d l e f = opened s lines k line d l e ∙ ap (λ o. is_done (option_and_then (λ more. after_lines more (drop (k + 1) lines)) o)) f

pub opened_some : (s t : Shape) (lines : List Line) (k : ℕ) (line d : Line) → k < length lines → get_or lines k d ≡ line → after_line s line ≡ Some t
    → is_done (after_lines s (drop k lines)) ≡ is_done (after_lines t (drop (k + 1) lines))
opened_some s t lines k line d l e f = opened s lines k line d l e ∙ ap (λ o. is_done (option_and_then (λ more. after_lines more (drop (k + 1) lines)) o)) f

pub ended : (n : ℕ) (b : Bool) (lines : List Line) (k : ℕ) → length lines ≤ k → is_done (after_lines (shape n b) (drop k lines)) ≡ eqb n 0
unfolding after_lines
ended n b lines k l = ap (λ ls. is_done (after_lines (shape n b) ls)) (drop_of_length-le lines l) ∙ by_number n
  where
    nonzero : (n : ℕ) → suc n ≡ 0 → ⊥
    nonzero n e = omega arith

    by_number : (n : ℕ) → is_done (Some (shape n b)) ≡ eqb n 0
    by_number zero = refl
    by_number (suc n) = ⊎_elim (λ (e : eqb (suc n) 0 ≡ true). absurd (nonzero n (eqb-true (suc n) 0 e))) (λ (e : eqb (suc n) 0 ≡ false). sym e) (cases_Bool (eqb (suc n) 0))

-- ---- how many lines a tree can go on with

went : (s : Shape) (lines : List Line) (k : ℕ) (line d : Line) → k < length lines → get_or lines k d ≡ line
    → goes s (drop k lines) ≡ option_map_or (λ more. 1 + goes more (drop (k + 1) lines)) (after_line s line) 0
unfolding goes
went s lines k line d l e =
    let n : suc k ≡ k + 1 = omega arith in
    ap (goes s) (drop-cons lines k d l)
    ∙ ap (λ x. option_map_or (λ more. 1 + goes more (drop (suc k) lines)) (after_line s x) 0) e
    ∙ ap (λ m. option_map_or (λ more. 1 + goes more (drop m lines)) (after_line s line) 0) n

pub went_none : (s : Shape) (lines : List Line) (k : ℕ) (line d : Line) → k < length lines → get_or lines k d ≡ line → after_line s line ≡ None
    → goes s (drop k lines) ≡ 0
went_none s lines k line d l e f = went s lines k line d l e ∙ ap (λ o. option_map_or (λ more. 1 + goes more (drop (k + 1) lines)) o 0) f

pub went_some : (s t : Shape) (lines : List Line) (k : ℕ) (line d : Line) → k < length lines → get_or lines k d ≡ line → after_line s line ≡ Some t
    → goes s (drop k lines) ≡ 1 + goes t (drop (k + 1) lines)
went_some s t lines k line d l e f = went s lines k line d l e ∙ ap (λ o. option_map_or (λ more. 1 + goes more (drop (k + 1) lines)) o 0) f

pub went_all : (s : Shape) (lines : List Line) (k : ℕ) → length lines ≤ k → goes s (drop k lines) ≡ 0
unfolding goes
went_all s lines k l = ap (goes s) (drop_of_length-le lines l)

-- ---- the first wrong line

pub wrong_at : (lines : List Line) (n : ℕ) → is_tree lines ≡ false → goes (shape 1 false) lines ≡ n → Some (n + 1) ≡ first_wrong lines
wrong_at lines n not_tree e = sym (cond-false (is_tree lines) None (Some (goes (shape 1 false) lines + 1)) not_tree ∙ ap (λ k. Some (k + 1)) e)

pub wrong_none : (lines : List Line) → is_tree lines ≡ true → None ≡ first_wrong lines
wrong_none lines is = sym (cond-true (is_tree lines) None (Some (goes (shape 1 false) lines + 1)) is)

-- no wrong line, or one
pub wrong_is : (lines : List Line) → (b : Bool) → is_some (first_wrong lines) ≡ b → is_tree lines ≡ not b
wrong_is lines b e = by_tree (is_tree lines) b e
  where
    by_tree : (t b : Bool) → is_some (cond t None (Some (goes (shape 1 false) lines + 1))) ≡ b → t ≡ not b
    by_tree true b e = ap not e
    by_tree false b e = ap not e
