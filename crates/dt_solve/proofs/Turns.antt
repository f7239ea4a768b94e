-- What lines add to a draft that is read.
use Rattle.std.proofs.Common.{◌≡◌, ℕ, suc, ◌+◌, Bool, true, false, ◌||◌, List, [], ◌∷◌, ◌++◌, length, map, replicate, Option, Some, None, refl, sym, ap, ◌∙◌, subst, arith, append_assoc}
use Rattle.std.specs.Prelude.{option_and_then}
use Rattle.std.specs.List.{AllByRecursion}
use Rattle.dt_domain.specs.Domain.{DomainOps}
use Rattle.dt_lemmas.proofs.Lists.{AllByRecursion-append}
use Rattle.dt_terms.specs.Problem.{ProblemData}
use Rattle.dt_box.specs.Steps.{after_bit}
use Rattle.dt_box.specs.Unknown.{IsUnknownBit}
use Rattle.dt_log.specs.declared.line.Line.{Line}
use Rattle.dt_log.specs.declared.line.Line.TheVariants.{Split, Close, Loose, Unvisited}
use Rattle.dt_log.specs.declared.line.Claim.TheVariants.{Budget}
use Rattle.dt_log.specs.Trees.{Tree, close, loose, unvisited, lines_of, splits_of, is_open, try_line}
use Rattle.dt_log.specs.Shapes.{Shape, shape, after_line}
use Rattle.dt_log.specs.Shapes as shapes
use Rattle.dt_log.proofs.Forests.{shape_tree}
use Rattle.dt_check.specs.Trials.{IsFailedTrial}
use Rattle.dt_check.specs.Records.{trials}
use Rattle.dt_check.specs.Sound.{IsEmptyAt}
use Rattle.dt_check.specs.Accepting.{Accepts}
use Rattle.dt_check.specs.Reading.{reading, at_first, after_lines, Passes}
use Rattle.dt_check.specs.Along.{trials_along}
use Rattle.dt_check.proofs.Along.{along-append, along_tree, along_tries}
use Rattle.dt_check.proofs.Passing.{passes-append, after-append, passes_tries, after_tries, after_tree, passes_tree, split_passes, trial_passes}
use Rattle.dt_solve.specs.Searching.{FollowsAt, AllFollow, IsRead}

pub shape_append : (xs ys : List Line) (s : Shape) → shapes.after_lines s (xs ++ ys) ≡ option_and_then (λ t. shapes.after_lines t ys) (shapes.after_lines s xs)
unfolding shapes.after_lines
shape_append [] ys s = refl
shape_append (x ∷ xs) ys s = by_step (after_line s x) (λ t. shape_append xs ys t)
  where
    by_step : (o : Option Shape) → ((t : Shape) → shapes.after_lines t (xs ++ ys) ≡ option_and_then (λ u. shapes.after_lines u ys) (shapes.after_lines t xs)) → option_and_then (λ t. shapes.after_lines t (xs ++ ys)) o ≡ option_and_then (λ t. shapes.after_lines t ys) (option_and_then (λ t. shapes.after_lines t xs) o)
    by_step None f = refl
    by_step (Some t) f = f t

split_shape : (n : ℕ) (b : Bool) (tries : List (ℕ × ℕ)) (t i : ℕ) → shapes.after_lines (shape (suc n) b) (map try_line tries ++ Split t i ∷ []) ≡ Some (shape (suc (suc n)) false)
unfolding shapes.after_lines
split_shape n b [] t i = refl
split_shape n b (try ∷ tries) t i = split_shape n true tries t i

shape_none : (s : Shape) → shapes.after_lines s [] ≡ Some s
unfolding shapes.after_lines
shape_none s = refl

tree_shape : (tree : Tree) (n : ℕ) → shapes.after_lines (shape (suc n) false) (lines_of tree) ≡ Some (shape n false)
tree_shape tree n = none (lines_of tree) (shape_tree tree n [])
  where
    empty_lines : shapes.after_lines (shape n false) [] ≡ Some (shape n false)
    empty_lines = shape_none (shape n false)

    nothing : (lines : List Line) → lines ++ [] ≡ lines
    nothing [] = refl
    nothing (l ∷ ls) = ap (λ x. l ∷ x) (nothing ls)

    none : (lines : List Line) → shapes.after_lines (shape (suc n) false) (lines ++ []) ≡ shapes.after_lines (shape n false) [] → shapes.after_lines (shape (suc n) false) lines ≡ Some (shape n false)
    none lines e = ap (shapes.after_lines (shape (suc n) false)) (sym (nothing lines)) ∙ e ∙ empty_lines

along_split : {D : Type 0} (ops : DomainOps D) (p : ProblemData) (tries : List (ℕ × ℕ)) (cells : List D) (W : List (List D)) (n t i : ℕ) → trials_along ops p.terms (Split t i ∷ []) (reading (cells ∷ W) tries n false) ≡ (cells, tries) ∷ []
unfolding trials_along
along_split ops p tries cells W n t i = refl

module _ (D : Type 0) (ops : DomainOps D) (p : ProblemData) (limit : ℕ) (aim : Option (List ℕ)) where
  -- further lines
  pub read_more : (lines more : List Line) (old new : List (List D)) (n m : ℕ) (o q : Bool) → IsRead ops p limit aim lines old n o
      → Passes ops p (Budget limit) more (reading old [] n o) → after_lines ops p.terms more (reading old [] n o) ≡ reading new [] m q
      → shapes.after_lines (shape (length old) false) more ≡ Some (shape (length new) false) → AllFollow ops p.terms aim (trials_along ops p.terms more (reading old [] n o))
      → IsRead ops p limit aim (lines ++ more) new m q
  read_more lines more old new n m o q h a b c d = record {
    passes = passes-append D ops p (Budget limit) lines more (at_first ops p) h.passes (subst (Passes ops p (Budget limit) more) (sym h.after) a);
    after = after-append D ops p lines more (at_first ops p) ∙ ap (after_lines ops p.terms more) h.after ∙ b;
    shape = shape_append lines more (shape 1 false) ∙ ap (option_and_then (λ s. shapes.after_lines s more)) h.shape ∙ c;
    follow = λ numbers e l.
        subst (AllByRecursion (FollowsAt ops p.terms numbers))
        (sym (along-append D ops p lines more (at_first ops p) ∙ ap (λ r. trials_along ops p.terms lines (at_first ops p) ++ trials_along ops p.terms more r) h.after))
        (AllByRecursion-append (FollowsAt ops p.terms numbers) (trials_along ops p.terms lines (at_first ops p)) (trials_along ops p.terms more (reading old [] n o)) (h.follow numbers e l) (d numbers e l));
  }

  -- a whole tree
  pub read_tree : (tree : Tree) (lines : List Line) (cells : List D) (W : List (List D)) (n : ℕ) (o : Bool) → length cells ≡ length p.terms → IsRead ops p limit aim lines (cells ∷ W) n o
      → Accepts ops p (Budget limit) tree cells o → AllFollow ops p.terms aim (trials ops p.terms tree cells o) → IsRead ops p limit aim (lines ++ lines_of tree) W (n + splits_of tree) (o || is_open tree)
  read_tree tree lines cells W n o e h a f =
      read_more lines (lines_of tree) (cells ∷ W) W n (n + splits_of tree) o (o || is_open tree) h
      (passes_tree D ops p (Budget limit) tree cells W n o e a) (after_tree D ops p tree cells W n o) (tree_shape tree (length W))
      (λ numbers k l. subst (AllByRecursion (FollowsAt ops p.terms numbers)) (sym (along_tree D ops p tree cells W n o)) (f numbers k l))

  -- a tree whose cell is empty
  pub read_close : (t : ℕ) (lines : List Line) (cells : List D) (W : List (List D)) (n : ℕ) → length cells ≡ length p.terms → IsRead ops p limit aim lines (cells ∷ W) n false → IsEmptyAt ops p.terms cells t
      → IsRead ops p limit aim (lines ++ Close t ∷ []) W n false
  unfolding lines_of splits_of is_open Accepts trials
  read_close t lines cells W n e h a =
      let z : n + 0 ≡ n = omega arith in
      subst (λ m. IsRead ops p limit aim (lines ++ Close t ∷ []) W m false) z (read_tree (close t) lines cells W n false e h a (λ numbers k l. tt))

  -- a tree that is left
  pub read_loose : (tries : List (ℕ × ℕ)) (lines : List Line) (cells : List D) (W : List (List D)) (n : ℕ) → length cells ≡ length p.terms → IsRead ops p limit aim lines (cells ∷ W) n false
      → IsFailedTrial ops p cells tries → AllFollow ops p.terms aim ((cells, tries) ∷ []) → IsRead ops p limit aim (lines ++ (map try_line tries ++ Loose ∷ [])) W n true
  unfolding lines_of splits_of is_open Accepts trials
  read_loose tries lines cells W n e h a f =
      let z : n + 0 ≡ n = omega arith in
      subst (λ m. IsRead ops p limit aim (lines ++ (map try_line tries ++ Loose ∷ [])) W m true) z (read_tree (loose tries) lines cells W n false e h a f)

  abbrev pub AreLong : List (List D) → Type 0
  AreLong stack = AllByRecursion (λ cells. length cells ≡ length p.terms) stack

  read_unvisited : (lines : List Line) (cells : List D) (W : List (List D)) (n : ℕ) → length cells ≡ length p.terms → IsRead ops p limit aim lines (cells ∷ W) n true → IsRead ops p limit aim (lines ++ Unvisited ∷ []) W n true
  unfolding lines_of splits_of is_open Accepts trials
  read_unvisited lines cells W n e h =
      let z : n + 0 ≡ n = omega arith in
      subst (λ m. IsRead ops p limit aim (lines ++ Unvisited ∷ []) W m true) z (read_tree unvisited lines cells W n true e h refl (λ numbers k l. tt))

  -- trees that were never begun
  pub read_rest : (W : List (List D)) (lines : List Line) (n : ℕ) → AreLong W → IsRead ops p limit aim lines W n true → IsRead ops p limit aim (lines ++ replicate (length W) Unvisited) [] n true
  read_rest [] lines n a h = subst (λ ls. IsRead ops p limit aim ls [] n true) (sym (nothing lines)) h
    where
      nothing : (lines : List Line) → lines ++ [] ≡ lines
      nothing [] = refl
      nothing (l ∷ ls) = ap (λ x. l ∷ x) (nothing ls)
  read_rest (cells ∷ W) lines n a h =
      subst (λ ls. IsRead ops p limit aim ls [] n true) (append_assoc lines (Unvisited ∷ []) (replicate (length W) Unvisited))
      (read_rest W (lines ++ Unvisited ∷ []) n a.1 (read_unvisited lines cells W n a.0 h))

  -- a split
  pub read_split : (tries : List (ℕ × ℕ)) (t i : ℕ) (lines : List Line) (cells : List D) (W : List (List D)) (n : ℕ) → length cells ≡ length p.terms → IsRead ops p limit aim lines (cells ∷ W) n false
      → IsUnknownBit ops p.terms cells t i → IsFailedTrial ops p cells tries → AllFollow ops p.terms aim ((cells, tries) ∷ [])
      → IsRead ops p limit aim (lines ++ (map try_line tries ++ Split t i ∷ [])) (after_bit ops t i false cells ∷ after_bit ops t i true cells ∷ W) (n + 1) false
  unfolding Passes after_lines
  read_split tries t i lines cells W n e h u f a =
      let r = reading (cells ∷ W) [] n false in
      let s = reading (cells ∷ W) tries n false in
      let at = after_tries D ops p tries [] (cells ∷ W) n false in
      read_more lines (map try_line tries ++ Split t i ∷ []) (cells ∷ W) (after_bit ops t i false cells ∷ after_bit ops t i true cells ∷ W) n (n + 1) false false h
      (passes-append D ops p (Budget limit) (map try_line tries) (Split t i ∷ []) r (passes_tries D ops p (Budget limit) tries [] (cells ∷ W) n false)
      (subst (Passes ops p (Budget limit) (Split t i ∷ [])) (sym at) (split_passes D ops p t i cells _ u (trial_passes D ops p cells tries e f), tt)))
      (after-append D ops p (map try_line tries) (Split t i ∷ []) r ∙ ap (after_lines ops p.terms (Split t i ∷ [])) at)
      (split_shape (length W) false tries t i)
      (λ numbers k l. subst (AllByRecursion (FollowsAt ops p.terms numbers))
      (sym (along-append D ops p (map try_line tries) (Split t i ∷ []) r
      ∙ ap (λ x. x ++ trials_along ops p.terms (Split t i ∷ []) (after_lines ops p.terms (map try_line tries) r)) (along_tries D ops p tries [] (cells ∷ W) n false)
      ∙ ap (trials_along ops p.terms (Split t i ∷ [])) at ∙ along_split ops p tries cells W n t i)) (a numbers k l))
