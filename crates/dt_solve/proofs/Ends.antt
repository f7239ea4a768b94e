-- How a search begins, and what its answers say.
use Rattle.std.proofs.Common.{◌≡◌, ℕ, ◌<◌, true, false, Bool, List, [], ◌∷◌, length, Option, Some, refl, sym, ap, ◌∙◌, subst, arith}
use Rattle.std.specs.List.{AllByRecursion}
use Rattle.std.proofs.lemmas.List.Elements.{All-nil}
use Rattle.dt_domain.specs.Domain.{DomainOps, DomainLaws, DecidingLaws}
use Rattle.dt_terms.specs.Terms.{choices_of}
use Rattle.dt_terms.specs.Problem.{ProblemData, IsProblem}
use Rattle.dt_box.specs.Cells.{AreCells, root_cells}
use Rattle.dt_box.proofs.Roots.{root_cells_are}
use Rattle.dt_box.proofs.Assignments.{root_holds}
use Rattle.dt_log.specs.declared.line.Line.{Line}
use Rattle.dt_log.specs.declared.line.Claim.{Claim}
use Rattle.dt_log.specs.declared.line.Claim.TheVariants.{Impossible, Budget}
use Rattle.dt_log.specs.Trees.{Tree, StandsFor, splits_of}
use Rattle.dt_log.specs.Shapes.{is_done, is_tree}
use Rattle.dt_log.specs.Shapes as shapes
use Rattle.dt_log.proofs.Forests.{tree_of}
use Rattle.dt_check.specs.declared.pending.Pending.{Pending}
use Rattle.dt_check.specs.Records.{Follows}
use Rattle.dt_check.specs.Reading.{at_first, after_lines, Passes}
use Rattle.dt_check.specs.Along.{trials_along}
use Rattle.dt_check.specs.Waiting.{Stacked}
use Rattle.dt_check.proofs.Along.{along_tree}
use Rattle.dt_check.proofs.Drafts.{draft_refutes, draft_records}
use Rattle.dt_check.proofs.Bound.{root_required, record_bound, record_bound_all}
use Rattle.dt_propagate.specs.Settling.{IsLogged}
use Rattle.dt_propagate.proofs.Progress.{leads_hold}
use Rattle.dt_solve.specs.Searching.{FollowsAt, IsRead, IsSearching, IsTurned, left}
use Rattle.dt_solve.specs.declared.turning.Search.{Search}
use Rattle.dt_solve.specs.declared.turning.Turned.{Turned}
use Rattle.dt_solve.specs.declared.turning.Turned.TheVariants.{More, Found, Refuted, Spent}
use Rattle.dt_solve.specs.Outcomes.{IsRefuted, IsSpent}
use Rattle.dt_solve.specs.Untried.{AreUntried, without_tries}
use Rattle.dt_solve.proofs.Untried.{bare, lines_bare, refutes_bare, bare_is_tree, are_untried}
use Rattle.dt_solve.proofs.Moves.{required_leads, read_leads}

module _ (D : Type 0) (ops : DomainOps D) (p : ProblemData) (limit : ℕ) (aim : Option (List ℕ)) where
  first_read : IsRead ops p limit aim [] (root_cells ops p ∷ []) 0 false
  unfolding Passes after_lines shapes.after_lines trials_along
  first_read = record { passes = tt; after = refl; shape = refl; follow = λ numbers e l. tt }

  module _ (laws : DomainLaws ops) (problem : IsProblem p) (decides : DecidingLaws ops) where
    -- after steps from the root cells
    first_state : (cells : List D) (lines : List Line) → AreCells ops p.terms cells → IsLogged ops p.terms (root_cells ops p) [] cells lines → IsSearching ops p limit aim cells [] [] lines 0
    unfolding Stacked
    first_state cells lines h g =
        let root = root_cells_are D ops laws p problem in
        record {
          cells_are = h;
          within = All-nil (λ (change : ℕ × D). change.0 < length cells);
          stacked = tt;
          turns = tt;
          read = read_leads D ops p laws problem decides limit aim [] lines (root_cells ops p) cells [] 0 g first_read;
          required = required_leads D ops p laws problem decides g.added (root_cells ops p) cells root g.leads (λ _. root_required D ops laws p problem);
          aimed = λ a e i s. leads_hold D ops p.terms laws problem.terms g.added (root_cells ops p) cells a root g.leads (root_holds D ops laws p a problem i s);
          most = omega arith;
        }

    -- a search before its first turn
    pub first : (cells : List D) (trail : List (ℕ × D)) (pending : List Pending) (lines : List Line) → AreCells ops p.terms cells → IsLogged ops p.terms (root_cells ops p) [] cells lines
        → trail ≡ [] → pending ≡ [] → IsSearching ops p limit aim cells trail pending lines 0
    first cells trail pending lines h g b c =
        subst (λ (t : List (ℕ × D)). IsSearching ops p limit aim cells t pending lines 0) (sym b)
        (subst (λ x. IsSearching ops p limit aim cells [] x lines 0) (sym c) (first_state cells lines h g))

    pub spent_log : (lines log : List Line) (claim : Claim) → log ≡ lines → claim ≡ Budget limit → IsRead ops p limit aim lines [] limit true → IsSpent ops p limit claim log
    spent_log lines log claim e c h =
        let t = tree_of lines (ap is_done h.shape) in
        let r = draft_records D ops p limit t.0 (subst (λ ls. Passes ops p (Budget limit) ls (at_first ops p)) (sym t.1) h.passes) (ap (λ ls. after_lines ops p.terms ls (at_first ops p)) t.1 ∙ h.after) in
        record {
          record_is = record { claims = c; tree = t.0; stands = t.1 ∙ sym e; recorded = r };
          few = record_bound D ops laws p problem decides t.0 limit r;
          few_in_all = record_bound_all D ops laws p problem decides t.0 limit r;
        }

  pub refuted_log : (lines bared log : List Line) (claim : Claim) (n : ℕ) → bared ≡ without_tries lines → log ≡ bared → claim ≡ Impossible → IsRead ops p limit aim lines [] n false → IsRefuted ops p claim log
  refuted_log lines bared log claim n b e c h =
      let t = tree_of lines (ap is_done h.shape) in
      let r = draft_refutes D ops p limit n t.0 (subst (λ ls. Passes ops p (Budget limit) ls (at_first ops p)) (sym t.1) h.passes) (ap (λ ls. after_lines ops p.terms ls (at_first ops p)) t.1 ∙ h.after) in
      let same : without_tries lines ≡ log = sym b ∙ sym e in
      record {
        splits = splits_of (bare t.0);
        refutes = record {
          claims = c;
          tree = bare t.0;
          stands = lines_bare t.0 ∙ ap without_tries t.1 ∙ same;
          refutes = refutes_bare D ops p t.0 r;
          splits = refl;
        };
        untried = subst AreUntried same (are_untried lines);
      }

  -- what is read to its end is a tree, without its Try items too
  pub bared_is_tree : (lines bared : List Line) (n : ℕ) (o : Bool) → bared ≡ without_tries lines → IsRead ops p limit aim lines [] n o → is_tree bared ≡ true
  bared_is_tree lines bared n o b h = ap is_tree b ∙ bare_is_tree lines (ap is_done h.shape)

  pub follows_log : (lines log : List Line) (n : ℕ) (o : Bool) → log ≡ lines → IsRead ops p limit aim lines [] n o
      → (numbers : List ℕ) → aim ≡ Some numbers → length numbers ≡ length (choices_of p.terms) → (tree : Tree) → StandsFor log tree → Follows ops p numbers tree
  follows_log lines log n o e h numbers a l tree s =
      subst (AllByRecursion (FollowsAt ops p.terms numbers)) (ap (λ ls. trials_along ops p.terms ls (at_first ops p)) (sym e ∙ sym s) ∙ along_tree D ops p tree (root_cells ops p) [] 0 false) (h.follow numbers a l)

-- what a turn leads to goes by how much was left to do
pub turned_from : (D : Type 0) (ops : DomainOps D) (p : ProblemData) (limit : ℕ) (aim : Option (List ℕ)) (turned : Turned) (old older new : Search D) (numbers : List ℕ)
    → left limit old.splits old.pending.items ≡ left limit older.splits older.pending.items → IsTurned ops p limit aim old turned new numbers → IsTurned ops p limit aim older turned new numbers
turned_from D ops p limit aim More old older new numbers e h = (h.0, subst (λ n. left limit new.splits new.pending.items < n) e h.1)
turned_from D ops p limit aim Found old older new numbers e h = h
turned_from D ops p limit aim Refuted old older new numbers e h = h
turned_from D ops p limit aim Spent old older new numbers e h = h
