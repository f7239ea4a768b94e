-- The checker's loop: what the items that are left say.
use Rattle.std.proofs.Common.{◌≡◌, ℕ, suc, ◌+◌, ◌<◌, ◌≤◌, Bool, true, false, ◌&&◌, cond, eqb, List, [], ◌∷◌, length, get_or, drop, drop-cons, Option, Some, None, refl, sym, ap, ◌∙◌, subst, arith}
use Rattle.std.proofs.lemmas.Bool.{false≢true}
use Rattle.std.proofs.Math.ListN.{drop_of_length-le}
use Rattle.dt_lemmas.proofs.Equalities.{two}
use Rattle.dt_domain.specs.Domain.{DomainOps, DomainLaws}
use Rattle.dt_terms.specs.declared.term.Term.{Term}
use Rattle.dt_terms.specs.Problem.{ProblemData, IsProblem}
use Rattle.dt_terms.specs.Values.{IsAssignment, solves}
use Rattle.dt_log.specs.declared.line.Line.{Line}
use Rattle.dt_log.specs.declared.line.Line.TheVariants.{Forward, Backward, Try, Split, Close, Loose, Unvisited}
use Rattle.dt_log.specs.declared.line.Claim.{Claim}
use Rattle.dt_log.specs.declared.line.Claim.TheVariants.{Impossible, Budget}
use Rattle.dt_log.specs.Trees.{lines_of}
use Rattle.dt_log.specs.Shapes.{shape, is_done, is_tree}
use Rattle.dt_log.specs.Shapes as shapes
use Rattle.dt_log.proofs.Forests.{tree_of}
use Rattle.dt_check.specs.declared.verdict.Cause.{Cause}
use Rattle.dt_check.specs.declared.verdict.Cause.TheVariants as causes
use Rattle.dt_check.specs.declared.verdict.Verdict.{Verdict}
use Rattle.dt_check.specs.declared.verdict.Verdict.TheVariants.{Closed, Unfinished, Refused}
use Rattle.dt_check.specs.Reading.{Reading, after_line, cause_of, end_verdict, refused_or, verdict_from, verdict_of, at_first}
use Rattle.dt_check.specs.Laws.{Refutation, Record}
use Rattle.dt_check.proofs.Refuted.{none_solves}
use Rattle.dt_check.proofs.Verdicts.{closed_refutes, refutes_closed, unfinished_record, record_unfinished}

-- the lines that are left are as many trees
abbrev pub Owed : ℕ → List Line → Type 0
Owed n lines = (b : Bool) × (is_done (shapes.after_lines (shape n b) lines) ≡ true)

pub owed_none : (lines : List Line) → Owed 0 lines → lines ≡ []
unfolding shapes.after_lines
owed_none [] h = refl
owed_none (line ∷ lines) h = absurd (false≢true h.1)

pub owed_some : (n : ℕ) → Owed (suc n) [] → ⊥
unfolding shapes.after_lines
owed_some n h = false≢true h.1

module _ (D : Type 0) (ops : DomainOps D) (terms : List Term) where
  -- after a line as many trees are left as there are cells for
  owed_after : (line : Line) (lines : List Line) (b : Bool) (cells : List D) (rest : List (List D)) (tries : List (ℕ × ℕ)) (n : ℕ) (o : Bool)
      → is_done (shapes.after_lines (shape (suc (length rest)) b) (line ∷ lines)) ≡ true
      → Owed (length (after_line ops terms line (record { stack = cells ∷ rest; tries = tries; splits = n; opened = o })).stack) lines
  unfolding shapes.after_lines
  owed_after (Forward t) lines true cells rest tries n o e = absurd (false≢true e)
  owed_after (Forward t) lines false cells rest tries n o e = (false, e)
  owed_after (Backward u k) lines true cells rest tries n o e = absurd (false≢true e)
  owed_after (Backward u k) lines false cells rest tries n o e = (false, e)
  owed_after (Try c v) lines b cells rest tries n o e = (true, e)
  owed_after (Split t i) lines b cells rest tries n o e = (false, e)
  owed_after (Close t) lines true cells rest tries n o e = absurd (false≢true e)
  owed_after (Close t) lines false cells rest tries n o e = (false, e)
  owed_after Loose lines b cells rest tries n o e = (false, e)
  owed_after Unvisited lines true cells rest tries n o e = absurd (false≢true e)
  owed_after Unvisited lines false cells rest tries n o e = (false, e)

  pub owed_next : (lines : List Line) (at : ℕ) (line : Line) (cells : List D) (rest : List (List D)) (tries : List (ℕ × ℕ)) (n : ℕ) (o : Bool)
      → at < length lines → line ≡ get_or lines at line → Owed (suc (length rest)) (drop at lines)
      → Owed (length (after_line ops terms line (record { stack = cells ∷ rest; tries = tries; splits = n; opened = o })).stack) (drop (at + 1) lines)
  owed_next lines at line cells rest tries n o l e h =
      let m : suc at ≡ at + 1 = omega arith in
      let d : drop at lines ≡ line ∷ drop (at + 1) lines = drop-cons lines at line l ∙ two (λ x k. x ∷ drop k lines) (sym e) m in
      owed_after line (drop (at + 1) lines) h.0 cells rest tries n o (subst (λ ls. is_done (shapes.after_lines (shape (suc (length rest)) h.0) ls) ≡ true) d h.1)

module _ (D : Type 0) (ops : DomainOps D) (p : ProblemData) (claim : Claim) where
  at_line : (lines : List Line) (at : ℕ) (line : Line) (r : Reading D) → at < length lines → line ≡ get_or lines at line
      → verdict_from ops p claim at (drop at lines) r ≡ refused_or (at + 1) (cause_of ops p claim line r) (verdict_from ops p claim (at + 1) (drop (at + 1) lines) (after_line ops p.terms line r))
  unfolding verdict_from
  at_line lines at line r l e =
      let m : suc at ≡ at + 1 = omega arith in
      let d : drop at lines ≡ line ∷ drop (at + 1) lines = drop-cons lines at line l ∙ two (λ x k. x ∷ drop k lines) (sym e) m in
      ap (λ ls. verdict_from ops p claim at ls r) d

  pub line_passed : (lines : List Line) (at : ℕ) (line : Line) (r s : Reading D) (v : Verdict) → at < length lines → line ≡ get_or lines at line → verdict_from ops p claim at (drop at lines) r ≡ v
      → cause_of ops p claim line r ≡ None → s ≡ after_line ops p.terms line r → verdict_from ops p claim (at + 1) (drop (at + 1) lines) s ≡ v
  line_passed lines at line r s v l e h c a =
      ap (verdict_from ops p claim (at + 1) (drop (at + 1) lines)) a
      ∙ sym (ap (λ o. refused_or (at + 1) o (verdict_from ops p claim (at + 1) (drop (at + 1) lines) (after_line ops p.terms line r))) c)
      ∙ sym (at_line lines at line r l e) ∙ h

  pub line_refused : (lines : List Line) (at : ℕ) (line : Line) (r : Reading D) (v : Verdict) (cause : Cause) → at < length lines → line ≡ get_or lines at line
      → verdict_from ops p claim at (drop at lines) r ≡ v → cause_of ops p claim line r ≡ Some cause → Refused (at + 1) cause ≡ v
  line_refused lines at line r v cause l e h c =
      sym (ap (λ o. refused_or (at + 1) o (verdict_from ops p claim (at + 1) (drop (at + 1) lines) (after_line ops p.terms line r))) c) ∙ sym (at_line lines at line r l e) ∙ h

  pub line_ended : (lines : List Line) (at : ℕ) (line : Line) (r : Reading D) (v : Verdict) → at < length lines → line ≡ get_or lines at line → verdict_from ops p claim at (drop at lines) r ≡ v
      → cause_of ops p claim line r ≡ None → drop (at + 1) lines ≡ [] → end_verdict claim (at + 1) (after_line ops p.terms line r).splits (after_line ops p.terms line r).opened ≡ v
  unfolding verdict_from
  line_ended lines at line r v l e h c d =
      sym (ap (λ ls. verdict_from ops p claim (at + 1) ls (after_line ops p.terms line r)) d) ∙ line_passed lines at line r (after_line ops p.terms line r) v l e h c refl

  -- before the first line
  pub verdict_begun : (lines : List Line) (r : Reading D) → r ≡ at_first ops p → verdict_from ops p claim 0 lines r ≡ verdict_of ops p claim lines
  verdict_begun lines r e = ap (verdict_from ops p claim 0 lines) e

  pub owed_begun : (lines : List Line) (r : Reading D) → r ≡ at_first ops p → is_tree lines ≡ true → Owed (length r.stack) lines
  owed_begun lines r e t = subst (λ (s : Reading D). Owed (length s.stack) lines) (sym e) (false, t)

-- after the last line a tree is left
pub owed_past : (n : ℕ) (lines : List Line) (at : ℕ) → length lines ≤ at → Owed (suc n) (drop at lines) → ⊥
owed_past n lines at l h = owed_some n (subst (Owed (suc n)) (drop_of_length-le lines l) h)

-- ---- which verdicts a claim has
module _ (D : Type 0) (ops : DomainOps D) (p : ProblemData) where
  -- it may be given where the log claims to refute
  abbrev pub MayRefute : Verdict → Type 0
  MayRefute (Closed s) = Unit {0}
  MayRefute (Unfinished n) = ⊥
  MayRefute (Refused n cause) = Unit {0}

  -- it may be given where the log claims to be a record with this many splits
  abbrev pub MayRecord : ℕ → Verdict → Type 0
  MayRecord limit (Closed s) = ⊥
  MayRecord limit (Unfinished n) = limit ≡ n
  MayRecord limit (Refused n cause) = Unit {0}

  may_refute_or : (n : ℕ) (o : Option Cause) (v : Verdict) → MayRefute v → MayRefute (refused_or n o v)
  may_refute_or n None v h = h
  may_refute_or n (Some cause) v h = tt

  may_refute : (n : ℕ) (lines : List Line) (r : Reading D) → MayRefute (verdict_from ops p Impossible n lines r)
  unfolding verdict_from
  may_refute n [] r = tt
  may_refute n (line ∷ lines) r = may_refute_or (n + 1) (cause_of ops p Impossible line r) _ (may_refute (n + 1) lines (after_line ops p.terms line r))

  may_record_or : (limit n : ℕ) (o : Option Cause) (v : Verdict) → MayRecord limit v → MayRecord limit (refused_or n o v)
  may_record_or limit n None v h = h
  may_record_or limit n (Some cause) v h = tt

  may_record_end : (limit n splits : ℕ) (opened : Bool) → MayRecord limit (end_verdict (Budget limit) n splits opened)
  may_record_end limit n splits opened = by_test (opened && eqb splits limit)
    where
      by_test : (b : Bool) → MayRecord limit (cond b (Unfinished limit) (Refused n causes.WrongClaim))
      by_test true = refl
      by_test false = tt

  may_record : (limit n : ℕ) (lines : List Line) (r : Reading D) → MayRecord limit (verdict_from ops p (Budget limit) n lines r)
  unfolding verdict_from
  may_record limit n [] r = may_record_end limit n r.splits r.opened
  may_record limit n (line ∷ lines) r = may_record_or limit (n + 1) (cause_of ops p (Budget limit) line r) _ (may_record limit (n + 1) lines (after_line ops p.terms line r))

  -- Closed comes exactly for refutations
  pub closed_is : (claim : Claim) (lines : List Line) (v : Verdict) (s : ℕ) → is_tree lines ≡ true → v ≡ verdict_of ops p claim lines → v ≡ Closed s → Refutation ops p claim lines s
  closed_is Impossible lines v s t e c =
      let tree = tree_of lines t in
      let r = closed_refutes D ops p tree.0 s (ap (verdict_of ops p Impossible) tree.1 ∙ sym e ∙ c) in
      record { claims = refl; tree = tree.0; stands = tree.1; refutes = r.0; splits = r.1 }
  closed_is (Budget limit) lines v s t e c = absurd (subst (MayRecord limit) (sym e ∙ c) (may_record limit 0 lines _))

  pub is_closed : (claim : Claim) (lines : List Line) (v : Verdict) (s : ℕ) → v ≡ verdict_of ops p claim lines → Refutation ops p claim lines s → v ≡ Closed s
  is_closed claim lines v s e r =
      e ∙ ap (λ c. verdict_of ops p c lines) r.claims ∙ sym (ap (verdict_of ops p Impossible) r.stands) ∙ refutes_closed D ops p r.tree r.refutes ∙ ap Closed r.splits

  -- Unfinished comes exactly for records
  pub unfinished_is : (claim : Claim) (lines : List Line) (v : Verdict) (n : ℕ) → is_tree lines ≡ true → v ≡ verdict_of ops p claim lines → v ≡ Unfinished n → Record ops p claim lines n
  unfinished_is Impossible lines v n t e c = absurd (subst MayRefute (sym e ∙ c) (may_refute 0 lines _))
  unfinished_is (Budget limit) lines v n t e c =
      let tree = tree_of lines t in
      let same : limit ≡ n = subst (MayRecord limit) (sym e ∙ c) (may_record limit 0 lines _) in
      let u : verdict_of ops p (Budget n) (lines_of tree.0) ≡ Unfinished n =
      subst (λ m. verdict_of ops p (Budget m) (lines_of tree.0) ≡ Unfinished n) same (ap (verdict_of ops p (Budget limit)) tree.1 ∙ sym e ∙ c) in
      record { claims = ap Budget same; tree = tree.0; stands = tree.1; recorded = unfinished_record D ops p tree.0 n u }

  pub is_unfinished : (claim : Claim) (lines : List Line) (v : Verdict) (n : ℕ) → v ≡ verdict_of ops p claim lines → Record ops p claim lines n → v ≡ Unfinished n
  is_unfinished claim lines v n e r =
      e ∙ ap (λ c. verdict_of ops p c lines) r.claims ∙ sym (ap (verdict_of ops p (Budget n)) r.stands) ∙ record_unfinished D ops p r.tree n r.recorded

  -- a refuted problem has no solving assignment
  pub refuted_has_none : DomainLaws ops → IsProblem p → (claim : Claim) (lines : List Line) (s : ℕ) (numbers : List ℕ) → Refutation ops p claim lines s → IsAssignment p.terms numbers → solves p numbers ≡ true → ⊥
  refuted_has_none laws h claim lines s numbers r i e = none_solves D ops laws p r.tree numbers h r.refutes i e
