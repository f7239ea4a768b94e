-- What a step does to the cells, to what was logged, and to the bits that aren't known.
use Rattle.std.proofs.Common.{◌≡◌, ◌≢◌, ℕ, zero, suc, ◌+◌, ◌*◌, ◌^◌, ◌<◌, ◌≤◌, Bool, true, false, not, ◌&&◌, ◌||◌, cond, eqb, List, [], ◌∷◌, ◌++◌, length, get_or, set, refl, sym, ap, ◌∙◌, subst, inl, inr, ◌⊎◌, ⊎_elim, take, arith, length-append, length-set, append_assoc, get_or-set_same, get_or-set_other}
use Rattle.std.specs.Prelude.{All, filter}
use Rattle.std.specs.List.{list_any, range_with_len}
use Rattle.std.proofs.lemmas.Bool.{cases_Bool, cases_lt, cases_eq, and_parts, or_cases, or_left, or_right, or_parts, eq-eqb, eqb-true, false≢true, true≢false, not-true}
use Rattle.std.proofs.lemmas.List.{append-nil, take_more}
use Rattle.std.proofs.lemmas.List.FromFn.{get_or-range_with_len, length-range_with_len, length-map-range_with_len}
use Rattle.std.proofs.lemmas.List.Elements.{All-append, All-cons, All-filter}
use Rattle.std.proofs.Math.Nat.{mul-le-mul_left, mul-suc}
use Rattle.dt_bits.specs.Bits.{bit, width}
use Rattle.dt_bits.proofs.BitLemmas.{bit_above}
use Rattle.dt_bits.proofs.Below.{found_below}
use Rattle.dt_domain.specs.Domain.{DomainOps, DomainLaws, bits_of}
use Rattle.dt_terms.specs.declared.term.Term.{Term}
use Rattle.dt_terms.specs.Terms.{term_at, bits_at, AreTerms}
use Rattle.dt_box.specs.declared.step.Step.{Step}
use Rattle.dt_box.specs.declared.step.Step.TheVariants as steps
use Rattle.dt_box.specs.Cells.{cell_at, AreCells, HoldAssignment}
use Rattle.dt_box.specs.Changes.{knows_more}
use Rattle.dt_box.specs.Steps.{IsStep, target, narrowed, after_step}
use Rattle.dt_box.specs.Stillness.{HasNoEmpty, IsSettled, IsStill, IsStillAt, tells, origin}
use Rattle.dt_box.specs.Neighbours.{uses, is_near}
use Rattle.dt_box.specs.Watching.{users_of, watches_of, Covers}
use Rattle.dt_box.proofs.Steps.{step_cells, step_narrows, step_alike, at_set}
use Rattle.dt_box.proofs.Knowledge.{step_keeps}
use Rattle.dt_box.proofs.Assignments.{step_holds, held_not_empty}
use Rattle.dt_box.proofs.Trails.{kept_none, kept_more}
use Rattle.dt_box.proofs.Watching.{far_tells, users_at_term}
use Rattle.dt_log.specs.declared.line.Line.{Line}
use Rattle.dt_box.specs.Unknown.{unknown_of}
use Rattle.dt_box.proofs.Unknown.{Keeps, unknown_le, unknown_lt}
use Rattle.dt_propagate.specs.declared.settling.Settled.TheVariants.{Empty}
use Rattle.dt_propagate.specs.declared.taking.Keep.{Keep}
use Rattle.dt_propagate.specs.declared.taking.Keep.TheVariants.{Changes, Nothing}
use Rattle.dt_propagate.specs.Keeping.{IsKeptIf, IsCourse}
use Rattle.dt_propagate.specs.Settling.{step_line, Leads, IsLogged, IsProgress, KeepsHeld, HoldsNone}

module _ (D : Type 0) (ops : DomainOps D) (terms : List Term) where
  leads_step : (lines : List Line) (old mid : List D) (s : Step) → Leads ops terms lines old mid → IsStep terms s → Leads ops terms (lines ++ step_line s ∷ []) old (after_step ops terms s mid)
  unfolding Leads
  leads_step [] old mid s h i = (s, refl, i, ap (after_step ops terms s) h)
  leads_step (line ∷ lines) old mid s h i = (h.0, h.1, h.2, leads_step lines (after_step ops terms h.0 old) mid s h.3 i)

  leads_more : (xs ys : List Line) (a b c : List D) → Leads ops terms xs a b → Leads ops terms ys b c → Leads ops terms (xs ++ ys) a c
  unfolding Leads
  leads_more [] ys a b c h k = subst (λ d. Leads ops terms ys d c) (sym h) k
  leads_more (x ∷ xs) ys a b c h k = (h.0, h.1, h.2, leads_more xs ys (after_step ops terms h.0 a) b c h.3 k)

  leads_none : (cells : List D) → Leads ops terms [] cells cells
  unfolding Leads
  leads_none cells = refl

  logged_none : (cells : List D) (lines : List Line) → IsLogged ops terms cells lines cells lines
  logged_none cells lines = record { added = []; lines_are = sym (append-nil lines); leads = leads_none cells }

  pub progress_none : (cells : List D) (trail : List (ℕ × D)) (lines : List Line) → AreCells ops terms cells → IsProgress ops terms cells trail lines cells trail lines
  progress_none cells trail lines h = record {
    cells = h;
    kept = kept_none cells trail;
    logged = logged_none cells lines;
  }

  kept_if_none : (keep : Keep) (cells : List D) (trail : List (ℕ × D)) → IsKeptIf keep cells trail cells trail
  kept_if_none Changes cells trail = kept_none cells trail
  kept_if_none Nothing cells trail = refl

  kept_if_more : (keep : Keep) (a : List D) (s : List (ℕ × D)) (b : List D) (t : List (ℕ × D)) (c : List D) (u : List (ℕ × D)) → length b ≡ length a → IsKeptIf keep a s b t → IsKeptIf keep b t c u → IsKeptIf keep a s c u
  kept_if_more Changes a s b t c u n h k = kept_more a s b t c u n h k
  kept_if_more Nothing a s b t c u n h k = k ∙ h

  pub course_none : (keep : Keep) (cells : List D) (trail : List (ℕ × D)) (lines : List Line) → AreCells ops terms cells → IsCourse keep ops terms cells trail lines cells trail lines
  course_none keep cells trail lines h = record {
    cells = h;
    kept = kept_if_none keep cells trail;
    logged = logged_none cells lines;
  }

  pub course_more : (keep : Keep) (a : List D) (s : List (ℕ × D)) (x : List Line) (b : List D) (t : List (ℕ × D)) (y : List Line) (c : List D) (u : List (ℕ × D)) (z : List Line)
      → AreCells ops terms a → IsCourse keep ops terms a s x b t y → IsCourse keep ops terms b t y c u z → IsCourse keep ops terms a s x c u z
  course_more keep a s x b t y c u z g h k = record {
    cells = k.cells;
    kept = kept_if_more keep a s b t c u (h.cells.count ∙ sym g.count) h.kept k.kept;
    logged = record {
      added = h.logged.added ++ k.logged.added;
      lines_are = k.logged.lines_are ∙ ap (λ l. l ++ k.logged.added) h.logged.lines_are ∙ append_assoc x h.logged.added k.logged.added;
      leads = leads_more h.logged.added k.logged.added a b c h.logged.leads k.logged.leads;
    };
  }

  -- no step was taken
  pub course_same : (keep : Keep) (a : List D) (s : List (ℕ × D)) (x : List Line) (b : List D) (t : List (ℕ × D)) (y : List Line) → AreCells ops terms b → b ≡ a → IsKeptIf keep a s b t → y ≡ x → IsCourse keep ops terms a s x b t y
  course_same keep a s x b t y h e k f = record {
    cells = h;
    kept = k;
    logged = subst (λ l. IsLogged ops terms a x b l) (sym f) (subst (λ c. IsLogged ops terms a x c x) (sym e) (logged_none a x));
  }

  -- one step was
  pub course_one : (keep : Keep) (a : List D) (s : List (ℕ × D)) (x : List Line) (step : Step) (c : List D) (u : List (ℕ × D)) (z : List Line)
      → IsStep terms step → AreCells ops terms c → IsKeptIf keep a s c u → c ≡ after_step ops terms step a → z ≡ x ++ step_line step ∷ []
      → IsCourse keep ops terms a s x c u z
  course_one keep a s x step c u z i n k e f = record {
    cells = n;
    kept = k;
    logged = record {
      added = step_line step ∷ [];
      lines_are = f;
      leads = subst (Leads ops terms (step_line step ∷ []) a) (sym e) (leads_step [] a a step (leads_none a) i);
    };
  }

  -- where changes are kept, the course is progress
  pub kept_course : (a : List D) (s : List (ℕ × D)) (x : List Line) (b : List D) (t : List (ℕ × D)) (y : List Line) → IsCourse Changes ops terms a s x b t y → IsProgress ops terms a s x b t y
  kept_course a s x b t y h = record { cells = h.cells; kept = h.kept; logged = h.logged }

  module _ (laws : DomainLaws ops) (right : AreTerms terms) where
    keeps_step : (s : Step) (cells : List D) → AreCells ops terms cells → IsStep terms s → ops.is_empty (narrowed ops terms s cells) ≡ false → Keeps D ops terms cells (after_step ops terms s cells)
    keeps_step s cells h i n = record {
      each = λ u j k. (step_keeps D ops laws terms right s cells u j (bit (ops.known_value (cell_at ops cells u)) j) h i n (k, refl)).0;
    }

    -- a step that empties no cell forgets no bit
    pub unknown_keep : (s : Step) (cells : List D) → AreCells ops terms cells → IsStep terms s → ops.is_empty (narrowed ops terms s cells) ≡ false
        → unknown_of ops terms (after_step ops terms s cells) (range_with_len 0 (length terms)) ≤ unknown_of ops terms cells (range_with_len 0 (length terms))
    unknown_keep s cells h i n = unknown_le D ops terms cells (after_step ops terms s cells) (keeps_step s cells h i n) (range_with_len 0 (length terms))

    -- a step that tells something new and empties no cell makes a bit known
    pub unknown_step : (s : Step) (cells : List D) → AreCells ops terms cells → IsStep terms s → tells ops terms s cells ≡ true → ops.is_empty (narrowed ops terms s cells) ≡ false
        → suc (unknown_of ops terms (after_step ops terms s cells) (range_with_len 0 (length terms))) ≤ unknown_of ops terms cells (range_with_len 0 (length terms))
    unknown_step s cells h i e n =
        let t = target terms s in
        let m = narrowed ops terms s cells in
        let l = (step_narrows D ops laws terms right s cells h i).within in
        let a = step_alike D ops laws terms right s cells h i in
        let is = laws.meet_is _ _ a in
        let more : knows_more ops (cell_at ops cells t) m ≡ true = ⊎_elim (λ (f : ops.is_empty m ≡ true). absurd (true≢false (sym f ∙ n))) (λ (f : knows_more ops (cell_at ops cells t) m ≡ true). f) (or_cases (ops.is_empty m) _ e) in
        let f = found_below 128 (λ j. bit (ops.known_mask m) j && not (bit (ops.known_mask (cell_at ops cells t)) j)) more in
        let p = and_parts (bit (ops.known_mask m) f.0) _ f.2 in
        let w : bits_of ops m ≡ bits_at terms t = ap (λ v. v.0) (is.1 ∙ h.widths t l) in
        let fits : ops.known_mask m < 2 ^ bits_at terms t = subst (λ k. ops.known_mask m < 2 ^ k) w (laws.mask_fits m is.0) in
        let within : f.0 < bits_at terms t = ⊎_elim (λ (k : f.0 < bits_at terms t). k) (λ (k : bits_at terms t ≤ f.0). absurd (true≢false (sym p.0 ∙ bit_above (ops.known_mask m) (bits_at terms t) f.0 fits k))) (cases_lt f.0 (bits_at terms t)) in
        let z : 0 + t ≡ t = omega arith in
        unknown_lt D ops terms cells (after_step ops terms s cells) (keeps_step s cells h i n) t f.0 within (not-true _ p.1)
        (ap (λ d. bit (ops.known_mask d) f.0) (get_or-set_same cells t m (ops.full (width 1)) (omega (arith, h.count))) ∙ p.0)
        (range_with_len 0 (length terms)) t (omega (arith, length-range_with_len 0 (length terms))) (get_or-range_with_len 0 (length terms) t 0 l ∙ z)

    -- where a step leaves its target, no cell is empty
    pub held_step : (s : Step) (cells new : List D) → AreCells ops terms cells → IsStep terms s → HasNoEmpty ops cells → ops.is_empty (narrowed ops terms s cells) ≡ false → new ≡ after_step ops terms s cells → HasNoEmpty ops new
    held_step s cells new h i n e f =
        let l = (step_narrows D ops laws terms right s cells h i).within in
        subst (HasNoEmpty ops) (sym f) (λ t m.
        at_set D ops laws terms right cells (target terms s) t (narrowed ops terms s cells) (λ d. ops.is_empty d ≡ false) (omega (arith, h.count)) (λ _. e)
        (λ _. n t (omega (arith, length-set cells (target terms s) (narrowed ops terms s cells)))))

    -- where it doesn't, the target's cell is empty
    pub empty_step : (s : Step) (cells new : List D) → AreCells ops terms cells → IsStep terms s → ops.is_empty (narrowed ops terms s cells) ≡ true → new ≡ after_step ops terms s cells → (target terms s < length terms) × (ops.is_empty (cell_at ops new (target terms s)) ≡ true)
    empty_step s cells new h i e f =
        let l = (step_narrows D ops laws terms right s cells h i).within in
        (l, ap (λ c. ops.is_empty (cell_at ops c (target terms s))) f ∙ ap ops.is_empty (get_or-set_same cells (target terms s) (narrowed ops terms s cells) (ops.full (width 1)) (omega (arith, h.count))) ∙ e)

    pub target_in : (s : Step) (cells : List D) → AreCells ops terms cells → IsStep terms s → target terms s < length terms
    target_in s cells h i = (step_narrows D ops laws terms right s cells h i).within

    -- what was held before steps is held after them
    pub leads_hold : (lines : List Line) (old new : List D) (numbers : List ℕ) → AreCells ops terms old → Leads ops terms lines old new → HoldAssignment ops terms old numbers → HoldAssignment ops terms new numbers
    unfolding Leads
    leads_hold [] old new numbers h l a = subst (λ c. HoldAssignment ops terms c numbers) l a
    leads_hold (line ∷ lines) old new numbers h l a =
        leads_hold lines (after_step ops terms l.0 old) new numbers (step_cells D ops laws terms right l.0 old h l.2) l.3 (step_holds D ops laws terms right numbers l.0 old h l.2 a)

    -- so with what was logged
    pub keeps_held : (old : List D) (lines : List Line) (new : List D) (more : List Line) → AreCells ops terms old → IsLogged ops terms old lines new more
        → KeepsHeld ops terms old new
    keeps_held old lines new more h g numbers a = leads_hold g.added old new numbers h g.leads a

    -- and where a cell is empty then, nothing was held
    pub holds_none : (old : List D) (lines : List Line) (new : List D) (more : List Line) (t : ℕ) → AreCells ops terms old → AreCells ops terms new → IsLogged ops terms old lines new more
        → t < length terms → ops.is_empty (cell_at ops new t) ≡ true → HoldsNone ops terms (Empty t) old
    holds_none old lines new more t h n g l e numbers a =
        true≢false (sym e ∙ held_not_empty D ops laws terms right numbers t new n l (keeps_held old lines new more h g numbers a))
