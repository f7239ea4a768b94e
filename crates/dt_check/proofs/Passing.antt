-- The items of a tree pass exactly where the checker accepts the tree.
use Rattle.std.proofs.Common.{◌≡◌, ℕ, ◌+◌, Bool, true, false, not, ◌||◌, cond, ltb, List, [], ◌∷◌, ◌++◌, length, map, Option, Some, None, refl, sym, ap, ◌∙◌, subst, arith, append_assoc, length-set}
use Rattle.std.specs.List.{list_all}
use Rattle.std.proofs.lemmas.Bool.{ltb-true, lt-ltb, false≢true, not-true}
use Rattle.std.proofs.lemmas.List.{append-nil}
use Rattle.dt_lemmas.proofs.Equalities.{two}
use Rattle.dt_bits.specs.Bits.{bit}
use Rattle.dt_domain.specs.Domain.{DomainOps}
use Rattle.dt_terms.specs.Terms.{term_at, bits_at, is_choice}
use Rattle.dt_terms.specs.Problem.{ProblemData}
use Rattle.dt_terms.specs.Values.{solves}
use Rattle.dt_box.specs.declared.step.Step.{Step}
use Rattle.dt_box.specs.declared.step.Step.TheVariants as steps
use Rattle.dt_box.specs.Cells.{cell_at}
use Rattle.dt_box.specs.Steps.{IsStep, target, narrowed, after_step, after_bit}
use Rattle.dt_log.specs.declared.line.Line.{Line}
use Rattle.dt_log.specs.declared.line.Line.TheVariants.{Split, Loose}
use Rattle.dt_log.specs.declared.line.Claim.{Claim}
use Rattle.dt_log.specs.declared.line.Claim.TheVariants.{Impossible, Budget}
use Rattle.dt_log.specs.Trees.{Tree, forward, backward, close, split, loose, unvisited, is_open, splits_of, lines_of, try_line}
use Rattle.dt_check.specs.declared.verdict.Cause.{Cause}
use Rattle.dt_check.specs.Trials.{tried, IsTry, IsFailedTrial}
use Rattle.dt_box.specs.Unknown.{IsUnknownBit}
use Rattle.dt_check.specs.Sound.{IsEmptyAt}
use Rattle.dt_check.specs.Tests.{is_step, is_settled, is_try}
use Rattle.dt_check.specs.Reading.{Reading, reading, after_line, after_lines, cause_of, step_cause, close_cause, split_cause, trial_cause, split_trial, loose_cause, unvisited_cause, Passes}
use Rattle.dt_check.specs.Accepting.{SplitTrial, LooseTrial, MayBeUnvisited, Accepts}
use Rattle.dt_check.proofs.Testing.{step_is, step_test, each_from, each_test, try_is, try_test, settled_is, settled_test}

unless_parts : (cause : Cause) (b : Bool) (o : Option Cause) → cond b o (Some cause) ≡ None → (b ≡ true) × (o ≡ None)
unless_parts cause true o e = (refl, e)
unless_parts cause false o e = absurd (cc)

unless_from : (cause : Cause) (b : Bool) (o : Option Cause) → b ≡ true → o ≡ None → cond b o (Some cause) ≡ None
unless_from cause true o e f = f
unless_from cause false o e f = absurd (false≢true e)

or_false : (b : Bool) → (b || false) ≡ b
or_false true = refl
or_false false = refl

or_true : (b : Bool) → (b || true) ≡ true
or_true true = refl
or_true false = refl

or_assoc : (a b c : Bool) → ((a || b) || c) ≡ (a || (b || c))
or_assoc true b c = refl
or_assoc false b c = refl

module _ (D : Type 0) (ops : DomainOps D) (p : ProblemData) where
  -- what lines pass one after the other
  pub passes-append : (claim : Claim) (xs ys : List Line) (r : Reading D) → Passes ops p claim xs r → Passes ops p claim ys (after_lines ops p.terms xs r) → Passes ops p claim (xs ++ ys) r
  unfolding Passes after_lines
  passes-append claim [] ys r h k = k
  passes-append claim (x ∷ xs) ys r h k = (h.0, passes-append claim xs ys (after_line ops p.terms x r) h.1 k)

  pub passes-parts : (claim : Claim) (xs ys : List Line) (r : Reading D) → Passes ops p claim (xs ++ ys) r → Passes ops p claim xs r × Passes ops p claim ys (after_lines ops p.terms xs r)
  unfolding Passes after_lines
  passes-parts claim [] ys r h = (tt, h)
  passes-parts claim (x ∷ xs) ys r h = let q = passes-parts claim xs ys (after_line ops p.terms x r) h.1 in ((h.0, q.0), q.1)

  pub after-append : (xs ys : List Line) (r : Reading D) → after_lines ops p.terms (xs ++ ys) r ≡ after_lines ops p.terms ys (after_lines ops p.terms xs r)
  unfolding after_lines
  after-append [] ys r = refl
  after-append (x ∷ xs) ys r = after-append xs ys (after_line ops p.terms x r)

  pub after-one : (line : Line) (r : Reading D) → after_lines ops p.terms (line ∷ []) r ≡ after_line ops p.terms line r
  unfolding after_lines
  after-one line r = refl

  pub passes-one : (claim : Claim) (line : Line) (r : Reading D) → cause_of ops p claim line r ≡ None → Passes ops p claim (line ∷ []) r
  unfolding Passes
  passes-one claim line r e = (e, tt)

  -- Try items
  pub passes_tries : (claim : Claim) (tries early : List (ℕ × ℕ)) (stack : List (List D)) (n : ℕ) (o : Bool) → Passes ops p claim (map try_line tries) (reading stack early n o)
  unfolding Passes
  passes_tries claim [] early stack n o = tt
  passes_tries claim (try ∷ tries) early stack n o = (refl, passes_tries claim tries (early ++ (try.0, try.1) ∷ []) stack n o)

  pub after_tries : (tries early : List (ℕ × ℕ)) (stack : List (List D)) (n : ℕ) (o : Bool) → after_lines ops p.terms (map try_line tries) (reading stack early n o) ≡ reading stack (early ++ tries) n o
  unfolding after_lines
  after_tries [] early stack n o = ap (λ t. reading stack t n o) (sym (append-nil early))
  after_tries (try ∷ tries) early stack n o = after_tries tries (early ++ try ∷ []) stack n o ∙ ap (λ t. reading stack t n o) (append_assoc early (try ∷ []) tries)

  -- ---- causes
  pub step_passes : (s : Step) → IsStep p.terms s → step_cause p.terms s ≡ None
  step_passes s h = unless_from _ (is_step p.terms s) None (step_test p.terms s h) refl

  pub step_passed : (s : Step) → step_cause p.terms s ≡ None → IsStep p.terms s
  step_passed s e = step_is p.terms s (unless_parts _ (is_step p.terms s) None e).0

  close_passes : (t : ℕ) (cells : List D) → IsEmptyAt ops p.terms cells t → close_cause ops p.terms cells t ≡ None
  close_passes t cells h = unless_from _ (ltb t (length p.terms)) _ (lt-ltb _ _ h.0) (unless_from _ (ops.is_empty (cell_at ops cells t)) None h.1 refl)

  close_passed : (t : ℕ) (cells : List D) → close_cause ops p.terms cells t ≡ None → IsEmptyAt ops p.terms cells t
  close_passed t cells e =
      let a = unless_parts _ (ltb t (length p.terms)) _ e in
      (ltb-true _ _ a.0, (unless_parts _ (ops.is_empty (cell_at ops cells t)) None a.1).0)

  pub split_passes : (t i : ℕ) (cells : List D) (o : Option Cause) → IsUnknownBit ops p.terms cells t i → o ≡ None → split_cause ops p.terms cells t i o ≡ None
  split_passes t i cells o h e =
      unless_from _ (ltb t (length p.terms)) _ (lt-ltb _ _ h.term)
      (unless_from _ (is_choice (term_at p.terms t)) _ h.choice
      (unless_from _ (ltb i (bits_at p.terms t)) _ (lt-ltb _ _ h.within)
      (unless_from _ (not (bit (ops.known_mask (cell_at ops cells t)) i)) o (ap not h.unknown) e)))

  pub split_passed : (t i : ℕ) (cells : List D) (o : Option Cause) → split_cause ops p.terms cells t i o ≡ None → IsUnknownBit ops p.terms cells t i × (o ≡ None)
  split_passed t i cells o e =
      let a = unless_parts _ (ltb t (length p.terms)) _ e in
      let b = unless_parts _ (is_choice (term_at p.terms t)) _ a.1 in
      let c = unless_parts _ (ltb i (bits_at p.terms t)) _ b.1 in
      let d = unless_parts _ (not (bit (ops.known_mask (cell_at ops cells t)) i)) o c.1 in
      (record { term = ltb-true _ _ a.0; choice = b.0; within = ltb-true _ _ c.0; unknown = not-true _ d.0 }, d.1)

  pub trial_passes : (cells : List D) (tries : List (ℕ × ℕ)) → length cells ≡ length p.terms → IsFailedTrial ops p cells tries → trial_cause ops p cells tries ≡ None
  trial_passes cells tries n h =
      unless_from _ (is_settled ops p.terms cells) _ (settled_test D ops p.terms cells n h.settled)
      (unless_from _ (list_all (is_try ops p.terms cells) tries) _ (each_test (is_try ops p.terms cells) (IsTry ops p.terms cells) (try_test D ops p.terms cells) tries h.held)
      (unless_from _ (not (solves p (tried ops p.terms cells tries))) None (ap not h.fails) refl))

  pub trial_passed : (cells : List D) (tries : List (ℕ × ℕ)) → length cells ≡ length p.terms → trial_cause ops p cells tries ≡ None → IsFailedTrial ops p cells tries
  trial_passed cells tries n e =
      let a = unless_parts _ (is_settled ops p.terms cells) _ e in
      let b = unless_parts _ (list_all (is_try ops p.terms cells) tries) _ a.1 in
      let c = unless_parts _ (not (solves p (tried ops p.terms cells tries))) None b.1 in
      record {
        settled = settled_is D ops p.terms cells n a.0;
        held = each_from (is_try ops p.terms cells) (IsTry ops p.terms cells) (try_is D ops p.terms cells) tries b.0;
        fails = not-true _ c.0;
      }

  split_trial_passes : (claim : Claim) (cells : List D) (tries : List (ℕ × ℕ)) → length cells ≡ length p.terms → SplitTrial ops p claim cells tries → split_trial ops p claim cells tries ≡ None
  split_trial_passes Impossible cells tries n h = refl
  split_trial_passes (Budget m) cells tries n h = trial_passes cells tries n h

  pub split_trial_passed : (claim : Claim) (cells : List D) (tries : List (ℕ × ℕ)) → length cells ≡ length p.terms → split_trial ops p claim cells tries ≡ None → SplitTrial ops p claim cells tries
  split_trial_passed Impossible cells tries n h = tt
  split_trial_passed (Budget m) cells tries n h = trial_passed cells tries n h

  loose_passes : (claim : Claim) (o : Bool) (cells : List D) (tries : List (ℕ × ℕ)) → length cells ≡ length p.terms → LooseTrial ops p claim o cells tries → loose_cause ops p claim o cells tries ≡ None
  loose_passes Impossible o cells tries n h = absurd h
  loose_passes (Budget m) true cells tries n h = refl
  loose_passes (Budget m) false cells tries n h = trial_passes cells tries n h

  loose_passed : (claim : Claim) (o : Bool) (cells : List D) (tries : List (ℕ × ℕ)) → length cells ≡ length p.terms → loose_cause ops p claim o cells tries ≡ None → LooseTrial ops p claim o cells tries
  loose_passed Impossible o cells tries n e = absurd (cc)
  loose_passed (Budget m) true cells tries n e = tt
  loose_passed (Budget m) false cells tries n e = trial_passed cells tries n e

  unvisited_passes : (claim : Claim) (o : Bool) → MayBeUnvisited claim o → unvisited_cause claim o ≡ None
  unvisited_passes Impossible o h = absurd h
  unvisited_passes (Budget m) o h = unless_from _ o None h refl

  unvisited_passed : (claim : Claim) (o : Bool) → unvisited_cause claim o ≡ None → MayBeUnvisited claim o
  unvisited_passed Impossible o e = absurd (cc)
  unvisited_passed (Budget m) o e = (unless_parts _ o None e).0

  -- ---- trees
  -- after a tree
  pub after_tree : (tree : Tree) (cells : List D) (stack : List (List D)) (n : ℕ) (o : Bool)
      → after_lines ops p.terms (lines_of tree) (reading (cells ∷ stack) [] n o) ≡ reading stack [] (n + splits_of tree) (o || is_open tree)
  unfolding after_lines lines_of splits_of is_open
  after_tree (forward t rest) cells stack n o = after_tree rest (after_step ops p.terms (steps.Forward t) cells) stack n o
  after_tree (backward u k rest) cells stack n o = after_tree rest (after_step ops p.terms (steps.Backward u k) cells) stack n o
  after_tree (close t) cells stack n o = let e : n ≡ n + 0 = omega arith in two (λ m b. reading stack [] m b) e (sym (or_false o))
  after_tree unvisited cells stack n o = let e : n ≡ n + 0 = omega arith in two (λ m b. reading stack [] m b) e (sym (or_true o))
  after_tree (loose tries) cells stack n o =
      let e : n ≡ n + 0 = omega arith in
      after-append (map try_line tries) (Loose ∷ []) (reading (cells ∷ stack) [] n o)
      ∙ ap (after_lines ops p.terms (Loose ∷ [])) (after_tries tries [] (cells ∷ stack) n o)
      ∙ two (λ m b. reading stack [] m b) e (sym (or_true o))
  after_tree (split tries t i zeros ones) cells stack n o =
      let e : (n + 1) + splits_of zeros + splits_of ones ≡ n + (1 + (splits_of zeros + splits_of ones)) = omega arith in
      after-append (map try_line tries) (Split t i ∷ (lines_of zeros ++ lines_of ones)) (reading (cells ∷ stack) [] n o)
      ∙ ap (after_lines ops p.terms (Split t i ∷ (lines_of zeros ++ lines_of ones))) (after_tries tries [] (cells ∷ stack) n o)
      ∙ after-append (lines_of zeros) (lines_of ones) (reading (after_bit ops t i false cells ∷ after_bit ops t i true cells ∷ stack) [] (n + 1) o)
      ∙ ap (after_lines ops p.terms (lines_of ones)) (after_tree zeros (after_bit ops t i false cells) (after_bit ops t i true cells ∷ stack) (n + 1) o)
      ∙ after_tree ones (after_bit ops t i true cells) stack (n + 1 + splits_of zeros) (o || is_open zeros)
      ∙ two (λ m b. reading stack [] m b) e (or_assoc o (is_open zeros) (is_open ones))

  step_length : (s : Step) (cells : List D) → length cells ≡ length p.terms → length (after_step ops p.terms s cells) ≡ length p.terms
  step_length s cells e = length-set cells (target p.terms s) (narrowed ops p.terms s cells) ∙ e

  bit_length : (t i : ℕ) (v : Bool) (cells : List D) → length cells ≡ length p.terms → length (after_bit ops t i v cells) ≡ length p.terms
  bit_length t i v cells e = length-set cells t (ops.with_bit (cell_at ops cells t) i v) ∙ e

  -- the items of a tree pass where it is accepted
  pub passes_tree : (claim : Claim) (tree : Tree) (cells : List D) (stack : List (List D)) (n : ℕ) (o : Bool) → length cells ≡ length p.terms
      → Accepts ops p claim tree cells o → Passes ops p claim (lines_of tree) (reading (cells ∷ stack) [] n o)
  unfolding Passes lines_of Accepts
  passes_tree claim (forward t rest) cells stack n o e h = (step_passes (steps.Forward t) h.0, passes_tree claim rest (after_step ops p.terms (steps.Forward t) cells) stack n o (step_length (steps.Forward t) cells e) h.1)
  passes_tree claim (backward u k rest) cells stack n o e h = (step_passes (steps.Backward u k) h.0, passes_tree claim rest (after_step ops p.terms (steps.Backward u k) cells) stack n o (step_length (steps.Backward u k) cells e) h.1)
  passes_tree claim (close t) cells stack n o e h = (close_passes t cells h, tt)
  passes_tree claim unvisited cells stack n o e h = (unvisited_passes claim o h, tt)
  passes_tree claim (loose tries) cells stack n o e h =
      passes-append claim (map try_line tries) (Loose ∷ []) (reading (cells ∷ stack) [] n o) (passes_tries claim tries [] (cells ∷ stack) n o)
      (subst (Passes ops p claim (Loose ∷ [])) (sym (after_tries tries [] (cells ∷ stack) n o)) (loose_passes claim o cells tries e h, tt))
  passes_tree claim (split tries t i zeros ones) cells stack n o e h =
      let zero = after_bit ops t i false cells in
      let one = after_bit ops t i true cells in
      passes-append claim (map try_line tries) (Split t i ∷ (lines_of zeros ++ lines_of ones)) (reading (cells ∷ stack) [] n o) (passes_tries claim tries [] (cells ∷ stack) n o)
      (subst (Passes ops p claim (Split t i ∷ (lines_of zeros ++ lines_of ones))) (sym (after_tries tries [] (cells ∷ stack) n o)) (
        split_passes t i cells _ h.0 (split_trial_passes claim cells tries e h.1),
        passes-append claim (lines_of zeros) (lines_of ones) (reading (zero ∷ one ∷ stack) [] (n + 1) o)
            (passes_tree claim zeros zero (one ∷ stack) (n + 1) o (bit_length t i false cells e) h.2)
            (subst (Passes ops p claim (lines_of ones)) (sym (after_tree zeros zero (one ∷ stack) (n + 1) o))
            (passes_tree claim ones one stack (n + 1 + splits_of zeros) (o || is_open zeros) (bit_length t i true cells e) h.3)),
      ))

  -- and only there
  pub passed_tree : (claim : Claim) (tree : Tree) (cells : List D) (stack : List (List D)) (n : ℕ) (o : Bool) → length cells ≡ length p.terms
      → Passes ops p claim (lines_of tree) (reading (cells ∷ stack) [] n o) → Accepts ops p claim tree cells o
  unfolding Passes lines_of Accepts
  passed_tree claim (forward t rest) cells stack n o e h = (step_passed (steps.Forward t) h.0, passed_tree claim rest (after_step ops p.terms (steps.Forward t) cells) stack n o (step_length (steps.Forward t) cells e) h.1)
  passed_tree claim (backward u k rest) cells stack n o e h = (step_passed (steps.Backward u k) h.0, passed_tree claim rest (after_step ops p.terms (steps.Backward u k) cells) stack n o (step_length (steps.Backward u k) cells e) h.1)
  passed_tree claim (close t) cells stack n o e h = close_passed t cells h.0
  passed_tree claim unvisited cells stack n o e h = unvisited_passed claim o h.0
  passed_tree claim (loose tries) cells stack n o e h =
      let q = passes-parts claim (map try_line tries) (Loose ∷ []) (reading (cells ∷ stack) [] n o) h in
      let s = subst (Passes ops p claim (Loose ∷ [])) (after_tries tries [] (cells ∷ stack) n o) q.1 in
      loose_passed claim o cells tries e s.0
  passed_tree claim (split tries t i zeros ones) cells stack n o e h =
      let zero = after_bit ops t i false cells in
      let one = after_bit ops t i true cells in
      let q = passes-parts claim (map try_line tries) (Split t i ∷ (lines_of zeros ++ lines_of ones)) (reading (cells ∷ stack) [] n o) h in
      let s = subst (Passes ops p claim (Split t i ∷ (lines_of zeros ++ lines_of ones))) (after_tries tries [] (cells ∷ stack) n o) q.1 in
      let a = split_passed t i cells _ s.0 in
      let b = passes-parts claim (lines_of zeros) (lines_of ones) (reading (zero ∷ one ∷ stack) [] (n + 1) o) s.1 in (
        a.0,
        split_trial_passed claim cells tries e a.1,
        passed_tree claim zeros zero (one ∷ stack) (n + 1) o (bit_length t i false cells e) b.0,
        passed_tree claim ones one stack (n + 1 + splits_of zeros) (o || is_open zeros) (bit_length t i true cells e)
            (subst (Passes ops p claim (lines_of ones)) (after_tree zeros zero (one ∷ stack) (n + 1) o) b.1),
      )
