-- The state of the checker, item by item.
use Rattle.std.proofs.Common.{◌≡◌, ℕ, ◌+◌, ◌<◌, ◌≤◌, Bool, true, false, refl, List, [], ◌∷◌, ◌++◌, length, take, reverse, Option, Some, None, sym, ap, ◌∙◌, subst, arith}
use Rattle.std.specs.Prelude.{All}
use Rattle.std.proofs.lemmas.List.{length-take-le}
use Rattle.std.proofs.lemmas.List.Elements.{All-take, All-nil}
use Rattle.dt_lemmas.proofs.Equalities.{two}
use Rattle.dt_domain.specs.Domain.{DomainOps}
use Rattle.dt_terms.specs.declared.term.Term.{Term}
use Rattle.dt_terms.specs.Problem.{ProblemData}
use Rattle.dt_box.specs.declared.step.Step.{Step}
use Rattle.dt_box.specs.declared.step.Step.TheVariants as steps
use Rattle.dt_box.specs.Cells.{AreCells}
use Rattle.dt_box.specs.Steps.{after_step, after_bit}
use Rattle.dt_box.specs.Stillness.{IsSettled}
use Rattle.dt_box.specs.Trails.{back, IsKept}
use Rattle.dt_box.proofs.Trails.{kept_none, kept_back, back_twice, back_whole}
use Rattle.dt_log.specs.declared.line.Line.TheVariants.{Split, Close, Loose, Unvisited}
use Rattle.dt_log.specs.declared.line.Claim.{Claim}
use Rattle.dt_log.specs.declared.line.Claim.TheVariants.{Impossible, Budget}
use Rattle.dt_check.specs.declared.pending.Pending.{Pending}
use Rattle.dt_check.specs.declared.checker.Finding.{Finding}
use Rattle.dt_check.specs.declared.checker.Finding.TheVariants.{Passed, Ended, Refused}
use Rattle.dt_check.specs.Accepting.{SplitTrial}
use Rattle.dt_check.specs.Reading.{reading, close_cause, split_cause, split_trial, loose_cause, unvisited_cause, step_cause}
use Rattle.dt_check.specs.Waiting.{waiting, Stacked, CanBegin, AtSplits, IsNext, IsBegun}
use Rattle.dt_check.specs.Checking.{State, state, left, WasSettled, IsKeptAt, settled_at, UnderBudget, IsSplitAt, IsState, IsTreeEnded, IsFound, step_line}
use Rattle.dt_check.proofs.Passing.{split_passed, split_trial_passed}
use Rattle.dt_check.proofs.Waiting.{stacked_more, waiting_kept, turned}

-- where nothing changes, nothing is kept
pub kept_same : {D : Type 0} (cells : List D) (trail : List (ℕ × D)) (first : Bool) → IsKeptAt first cells trail cells trail
kept_same cells trail true = refl
kept_same cells trail false = kept_none cells trail

module _ (D : Type 0) (ops : DomainOps D) where
  splits_same : (P : List D → Pending → Type 0) (c d : List D) (s t : List (ℕ × D)) (n : ℕ) (qs : List Pending) → Stacked n qs → ((m : ℕ) → m ≤ n → back c s m ≡ back d t m)
      → AtSplits P d t qs → AtSplits P c s qs
  unfolding Stacked
  splits_same P c d s t n [] h e a = tt
  splits_same P c d s t n (q ∷ qs) h e a =
      (subst (λ x. P x q) (sym (e q.length h.0)) a.0, splits_same P c d s t q.length qs h.1 (λ m l. e m (omega (arith, h.0))) a.1)

  pub splits_each : (P Q : List D → Pending → Type 0) → ((c : List D) (q : Pending) → P c q → Q c q) → (cells : List D) (trail : List (ℕ × D)) (qs : List Pending)
      → AtSplits P cells trail qs → AtSplits Q cells trail qs
  splits_each P Q f cells trail [] a = tt
  splits_each P Q f cells trail (q ∷ qs) a = (f (back cells trail q.length) q a.0, splits_each P Q f cells trail qs a.1)

  pub splits_begin : (terms : List Term) (claim : Claim) (cells : List D) (trail : List (ℕ × D)) (qs : List Pending)
      → AtSplits (IsSplitAt ops terms claim) cells trail qs → AtSplits (CanBegin ops terms) cells trail qs
  splits_begin terms claim = splits_each (IsSplitAt ops terms claim) (CanBegin ops terms) (λ c q a. a.begin)

  was_same : (terms : List Term) (c d : List D) (s t : List (ℕ × D)) → length t ≤ length s → ((m : ℕ) → m ≤ length t → back c s m ≡ back d t m)
      → (o : Option ℕ) → WasSettled ops terms d t o → WasSettled ops terms c s o
  was_same terms c d s t l e None h = tt
  was_same terms c d s t l e (Some n) h = (omega (arith, h.0, l), subst (IsSettled ops terms) (sym (e n h.0)) h.1)

  -- at the splits the cells were settled, where that is known
  was_at : (terms : List Term) (claim : Claim) (cells : List D) (trail : List (ℕ × D)) (n : ℕ) → n ≤ length trail → UnderBudget claim (IsSettled ops terms (back cells trail n))
      → WasSettled ops terms cells trail (settled_at claim n)
  was_at terms Impossible cells trail n l h = tt
  was_at terms (Budget limit) cells trail n l h = (l, h)

  -- after changes that were kept
  pub state_kept : (terms : List Term) (claim : Claim) (s : State D) (new : List D) (longer : List (ℕ × D)) → IsState ops terms claim s → AreCells ops terms new → IsKept s.cells s.trail new longer
      → IsState ops terms claim (state new longer s.pending s.splits s.opened s.settled)
  state_kept terms claim s new longer h a k = record {
    cells_are = a;
    within = subst (λ n. All (λ (change : ℕ × D). change.0 < n) longer) (h.cells_are.count ∙ sym a.count) (k.terms h.within);
    stacked = stacked_more (length s.trail) (length longer) (reverse s.pending) k.within h.stacked;
    splits_at = splits_same (IsSplitAt ops terms claim) new s.cells longer s.trail (length s.trail) (reverse s.pending) h.stacked (λ m l. kept_back s.cells s.trail new longer m k l) h.splits_at;
    settled = was_same terms new s.cells longer s.trail k.within (λ m l. kept_back s.cells s.trail new longer m k l) s.settled h.settled;
  }

  -- at first
  pub state_begun : (terms : List Term) (claim : Claim) (cells : List D) (trail : List (ℕ × D)) (pending : List Pending) → AreCells ops terms cells → trail ≡ [] → pending ≡ []
      → IsState ops terms claim (state cells trail pending 0 false None)
  unfolding Stacked
  state_begun terms claim cells trail pending a e f = record {
    cells_are = a;
    within = subst (λ (changes : List (ℕ × D)). All (λ (change : ℕ × D). change.0 < length cells) changes) (sym e) (All-nil (λ (change : ℕ × D). change.0 < length cells));
    stacked = subst (λ qs. Stacked (length trail) (reverse qs)) (sym f) tt;
    splits_at = subst (λ qs. AtSplits (IsSplitAt ops terms claim) cells trail (reverse qs)) (sym f) tt;
    settled = tt;
  }

  module _ (p : ProblemData) (claim : Claim) where
    -- a step
    pub step_found : (step : Step) (s : State D) (new : List D) (longer : List (ℕ × D)) → IsState ops p.terms claim s → step_cause p.terms step ≡ None
        → new ≡ after_step ops p.terms step s.cells → AreCells ops p.terms new → IsKept s.cells s.trail new longer
        → IsFound ops p claim (step_line step) [] s Passed (state new longer s.pending s.splits s.opened s.settled)
    step_found (steps.Forward t) s new longer h c e a k =
        (c, two (λ x y. reading (x ∷ y) [] s.splits s.opened) e (waiting_kept D ops s.cells s.trail new longer (reverse s.pending) k h.stacked), state_kept p.terms claim s new longer h a k)
    step_found (steps.Backward u i) s new longer h c e a k =
        (c, two (λ x y. reading (x ∷ y) [] s.splits s.opened) e (waiting_kept D ops s.cells s.trail new longer (reverse s.pending) k h.stacked), state_kept p.terms claim s new longer h a k)

    trial_settled : (claim : Claim) (cells : List D) (tries : List (ℕ × ℕ)) → SplitTrial ops p claim cells tries → UnderBudget claim (IsSettled ops p.terms cells)
    trial_settled Impossible cells tries h = tt
    trial_settled (Budget n) cells tries h = h.settled

    -- a split
    pub split_found : (q : Pending) (tries : List (ℕ × ℕ)) (s : State D) (items : List Pending) (new : List D) (longer : List (ℕ × D)) → IsState ops p.terms claim s
        → split_cause ops p.terms s.cells q.term q.bit (split_trial ops p claim s.cells tries) ≡ None
        → q.length ≡ length s.trail → items ≡ s.pending ++ q ∷ []
        → new ≡ after_bit ops q.term q.bit false s.cells → AreCells ops p.terms new → IsKept s.cells s.trail new longer
        → IsFound ops p claim (Split q.term q.bit) tries s Passed (state new longer items (s.splits + 1) s.opened (settled_at claim q.length))
    unfolding Stacked
    split_found q tries s items new longer h c n i e a k =
        let c2 = split_passed D ops p q.term q.bit s.cells (split_trial ops p claim s.cells tries) c in
        let quiet : UnderBudget claim (IsSettled ops p.terms s.cells) = trial_settled claim s.cells tries (split_trial_passed D ops p claim s.cells tries h.cells_are.count c2.1) in
        let qs = reverse s.pending in
        let r : reverse items ≡ q ∷ qs = turned items s.pending q i in
        let at : back new longer q.length ≡ s.cells = kept_back s.cells s.trail new longer q.length k (omega (arith, n)) ∙ ap (back s.cells s.trail) n ∙ back_whole s.cells s.trail in
        let kept = state_kept p.terms claim s new longer h a k in
        let here : IsSplitAt ops p.terms claim s.cells q = record { begin = record { cells_are = h.cells_are; term = c2.0.term; bit = c2.0.within }; settled = quiet } in
        let still : UnderBudget claim (IsSettled ops p.terms (back new longer q.length)) = subst (λ x. UnderBudget claim (IsSettled ops p.terms x)) (sym at) quiet in (
          c,
          two (λ x y. reading (x ∷ y) [] (s.splits + 1) s.opened) e
              (ap (waiting ops new longer) r
              ∙ two (λ x y. x ∷ y) (ap (after_bit ops q.term q.bit true) at) (waiting_kept D ops s.cells s.trail new longer qs k h.stacked)),
          record {
            cells_are = a;
            within = kept.within;
            stacked = subst (Stacked (length longer)) (sym r) (omega (arith, n, k.within), subst (λ m. Stacked m qs) (sym n) h.stacked);
            splits_at = subst (AtSplits (IsSplitAt ops p.terms claim) new longer) (sym r) (subst (λ x. IsSplitAt ops p.terms claim x q) (sym at) here, kept.splits_at);
            settled = was_at p.terms claim new longer q.length (omega (arith, n, k.within)) still;
          },
        )

    -- the next tree
    pub next_found : (s : State D) (new : List D) (longer : List (ℕ × D)) (rest : List Pending) (q : Pending) → IsState ops p.terms claim s
        → AreCells ops p.terms new → IsNext ops s.cells s.trail (reverse s.pending) new longer (reverse rest) (Some q) → IsBegun ops s.cells s.trail (reverse s.pending) new longer (reverse rest) q
        → IsTreeEnded ops p.terms claim s Passed (state new longer rest s.splits s.opened (settled_at claim q.length))
    unfolding Stacked
    next_found s new longer rest q h is e b =
        let qs = reverse rest in
        let cells = s.cells in
        let trail = s.trail in
        let mid = back cells trail q.length in
        let st : Stacked (length trail) (q ∷ qs) = subst (Stacked (length trail)) b.first h.stacked in
        let sp : AtSplits (IsSplitAt ops p.terms claim) cells trail (q ∷ qs) = subst (AtSplits (IsSplitAt ops p.terms claim) cells trail) b.first h.splits_at in
        let can = sp.0 in
        let size : length (take q.length trail) ≡ q.length = length-take-le q.length trail st.0 in
        let same : length mid ≡ length cells = can.begin.cells_are.count ∙ sym h.cells_are.count in
        let count : length mid ≡ length new = can.begin.cells_are.count ∙ sym is.count in
        let far : (m : ℕ) → m ≤ q.length → back new longer m ≡ back cells trail m =
        λ m l. kept_back mid (take q.length trail) new longer m b.kept (omega (arith, size)) ∙ back_twice cells trail m q.length l st.0 in
        let l : q.length ≤ length longer = omega (arith, b.kept.within, size) in (
          ap (λ x. reading x [] s.splits s.opened) e,
          record {
            cells_are = is;
            within = subst (λ k. All (λ (change : ℕ × D). change.0 < k) longer) count
                (b.kept.terms (subst (λ k. All (λ (change : ℕ × D). change.0 < k) (take q.length trail)) (sym same) (All-take (λ (change : ℕ × D). change.0 < length cells) q.length trail h.within)));
            stacked = stacked_more q.length (length longer) qs l st.1;
            splits_at = splits_same (IsSplitAt ops p.terms claim) new cells longer trail q.length qs st.1 far sp.1;
            settled = was_at p.terms claim new longer q.length l (subst (λ x. UnderBudget claim (IsSettled ops p.terms x)) (sym (far q.length (omega arith))) can.settled);
          },
        )

    -- a close
    pub close_found : (t : ℕ) (s : State D) (f : Finding) (new : State D) → close_cause ops p.terms s.cells t ≡ None → IsTreeEnded ops p.terms claim s f new → IsFound ops p claim (Close t) [] s f new
    close_found t s Passed new c h = (c, h.0, h.1)
    close_found t s Ended new c h = (c, ap (λ qs. waiting ops s.cells s.trail (reverse qs)) h.0, h.1, h.2)
    close_found t s (Refused cause) new c h = absurd h

    -- an end that was left
    pub loose_found : (tries : List (ℕ × ℕ)) (s : State D) (f : Finding) (new : State D) → loose_cause ops p claim s.opened s.cells tries ≡ None → IsTreeEnded ops p.terms claim (left s) f new
        → IsFound ops p claim Loose tries s f new
    loose_found tries s Passed new c h = (c, h.0, h.1)
    loose_found tries s Ended new c h = (c, ap (λ qs. waiting ops s.cells s.trail (reverse qs)) h.0, h.1, h.2)
    loose_found tries s (Refused cause) new c h = absurd h

    pub unvisited_found : (s : State D) (f : Finding) (new : State D) → unvisited_cause claim s.opened ≡ None → IsTreeEnded ops p.terms claim (left s) f new → IsFound ops p claim Unvisited [] s f new
    unvisited_found s Passed new c h = (c, h.0, h.1)
    unvisited_found s Ended new c h = (c, ap (λ qs. waiting ops s.cells s.trail (reverse qs)) h.0, h.1, h.2)
    unvisited_found s (Refused cause) new c h = absurd h
