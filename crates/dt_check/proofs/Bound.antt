-- A record over a deciding domain has few splits.
use Rattle.std.proofs.Common.{◌≡◌, ◌≢◌, ℕ, zero, suc, ◌+◌, ◌-◌, ◌^◌, ◌<◌, ◌≤◌, Bool, true, false, ◌||◌, cond, List, [], ◌∷◌, ◌++◌, length, get_or, set, unwrap_or, Option, Some, None, refl, sym, ap, ◌∙◌, subst, inl, inr, ◌⊎◌, ⊎_elim, arith, length-set, get_or-set_same, get_or-set_other}
use Rattle.std.specs.Prelude.{MatchOption}
use Rattle.std.specs.List.{AllByRecursion}
use Rattle.std.proofs.lemmas.List.{length-map, get_or-map}
use Rattle.std.proofs.lemmas.Bool.{cases_Bool, cases_lt, cases_eq, true≢false, false≢true}
use Rattle.std.proofs.lemmas.Nat.{pow_pos}
use Rattle.std.proofs.Math.Nat.{pow-suc}
use Rattle.dt_lemmas.proofs.Booleans.{or_chosen}
use Rattle.dt_lemmas.proofs.Lists.{AllByRecursion-split}
use Rattle.dt_lemmas.proofs.Powers.{wider}
use Rattle.dt_bits.specs.Bits.{bit, width, IsValue}
use Rattle.dt_bits.specs.declared.value.Bv.{Bv}
use Rattle.dt_bits.proofs.BitLemmas.{bit_of_small, bit_of_ones}
use Rattle.dt_domain.specs.Domain.{DomainOps, DomainLaws, DecidingLaws, KnowsBit, Holds}
use Rattle.dt_terms.specs.declared.term.Term.{Term}
use Rattle.dt_terms.specs.Terms.{term_at, width_of_term, is_choice, AreTerms, choices_of, choice_at}
use Rattle.dt_terms.specs.Problem.{ProblemData, IsProblem}
use Rattle.dt_terms.specs.Values.{IsAssignment, solves}
use Rattle.dt_terms.proofs.Choices.{choice_there, choice_stands}
use Rattle.dt_box.specs.declared.step.Step.{Step}
use Rattle.dt_box.specs.declared.step.Step.TheVariants.{Forward, Backward}
use Rattle.dt_box.specs.Cells.{cell_at, AreCells, root_cells, certain}
use Rattle.dt_box.specs.Steps.{IsStep, target, narrowed, after_step, after_bit}
use Rattle.dt_box.specs.Stillness.{HasNoEmpty, IsSettled}
use Rattle.dt_box.specs.Unknown.{IsUnknownBit, unknown_bits, bits_of_choices, AreRequiredKnown}
use Rattle.dt_box.proofs.Unknown.{unknown_le, unknown_some, unknown_most, some_unknown, step_held, step_keeps_all, bit_held, bit_fewer}
use Rattle.dt_box.proofs.Steps.{step_cells, bit_cells}
use Rattle.dt_box.proofs.Knowledge.{step_keeps, step_empty, bit_decides}
use Rattle.dt_box.proofs.Roots.{root_cells_are, root_cell_at}
use Rattle.dt_log.specs.Trees.{Tree, forward, backward, close, split, loose, unvisited, splits_of, is_open, is_loose_first}
use Rattle.dt_check.specs.Trials.{choice_cell, pick_at, picks, with_tries, tried, IsTry, IsFailedTrial, HoldChoices}
use Rattle.dt_check.specs.Sound.{IsSound}
use Rattle.dt_check.specs.Records.{trials, IsRecord, unknown_first}
use Rattle.dt_check.proofs.Decided.{AreChoicesKnown, decided_solves, held_bit}

-- where the first end that was left is Loose, an end was left
pub loose_opens : (tree : Tree) → is_loose_first tree ≡ true → is_open tree ≡ true
unfolding is_open is_loose_first
loose_opens (forward t rest) f = loose_opens rest f
loose_opens (backward u k rest) f = loose_opens rest f
loose_opens (close t) f = absurd (false≢true f)
loose_opens (loose tries) f = refl
loose_opens unvisited f = absurd (false≢true f)
loose_opens (split tries t i zeros ones) f = or_chosen (is_open zeros) (is_open ones) (is_loose_first zeros) (is_loose_first ones) f (loose_opens ones)

-- what two halves give
halves : (u x y : ℕ) → 1 ≤ u → x + 1 ≤ 2 ^ (u - 1) → y + 1 ≤ 2 ^ (u - 1) → (1 + (x + y)) + 1 ≤ 2 ^ u
halves u x y l h k =
    let e : u ≡ suc (u - 1) = omega arith in
    let p = pow-suc 2 (u - 1) in
    subst (λ n. (1 + (x + y)) + 1 ≤ 2 ^ n) (sym e) (omega arith)

halves_less : (u x y : ℕ) → 1 ≤ u → x + 2 ≤ 2 ^ (u - 1) → y + 1 ≤ 2 ^ (u - 1) → (1 + (x + y)) + 2 ≤ 2 ^ u
halves_less u x y l h k =
    let e : u ≡ suc (u - 1) = omega arith in
    let p = pow-suc 2 (u - 1) in
    subst (λ n. (1 + (x + y)) + 2 ≤ 2 ^ n) (sym e) (omega arith)

module _ (D : Type 0) (ops : DomainOps D) (laws : DomainLaws ops) where
  -- some cell is empty
  pub record HasEmpty (cells : List D) : Type 0 where
    pub at : ℕ
    pub within : at < length cells
    pub empty : ops.is_empty (cell_at ops cells at) ≡ true

  cases_below : (cells : List D) (n : ℕ) → n ≤ length cells → ((t : ℕ) → t < n → ops.is_empty (cell_at ops cells t) ≡ false) ⊎ HasEmpty cells
  cases_below cells zero l = inl (λ t m. absurd (omega arith))
  cases_below cells (suc n) l =
      let h : n < length cells = omega arith in
      ⊎_elim
      (λ (f : (t : ℕ) → t < n → ops.is_empty (cell_at ops cells t) ≡ false).
      ⊎_elim
      (λ (e : ops.is_empty (cell_at ops cells n) ≡ true). inr (record { at = n; within = h; empty = e }))
      (λ (e : ops.is_empty (cell_at ops cells n) ≡ false). inl (λ t m.
      ⊎_elim
      (λ (k : t < n). f t k)
      (λ (k : n ≤ t). let s : n ≡ t = omega arith in subst (λ u. ops.is_empty (cell_at ops cells u) ≡ false) s e)
      (cases_lt t n)))
      (cases_Bool (ops.is_empty (cell_at ops cells n))))
      (λ (e : HasEmpty cells). inr e)
      (cases_below cells n (omega arith))

  pub cases_empty : (cells : List D) → HasNoEmpty ops cells ⊎ HasEmpty cells
  cases_empty cells = cases_below cells (length cells) (omega arith)

  pub pick_held : (d : D) → ops.IsDomain d → ops.is_empty d ≡ false → Holds ops d (unwrap_or (ops.pick d) 0)
  pick_held d i e = by_pick (ops.pick d) (laws.pick_held d i)
    where
      by_pick : (o : Option ℕ) → MatchOption o (ops.is_empty d ≡ true) (λ x. Holds ops d x) → Holds ops d (unwrap_or o 0)
      by_pick None h = absurd (true≢false (sym h ∙ e))
      by_pick (Some x) h = h

  module _ (terms : List Term) (right : AreTerms terms) where
    choices_there : (k : ℕ) → k < length (choices_of terms) → (get_or (choices_of terms) k 0 < length terms) × (is_choice (term_at terms (get_or (choices_of terms) k 0)) ≡ true)
    choices_there k l = let p = choice_stands terms k l in (p.0, p.1)

    -- picks and tries that are held are a held number for each choice
    tries_hold : (cells : List D) (numbers : List ℕ) (tries : List (ℕ × ℕ)) → HoldChoices ops terms cells numbers → AllByRecursion (IsTry ops terms cells) tries → HoldChoices ops terms cells (with_tries numbers tries)
    unfolding with_tries
    tries_hold cells numbers [] h a = h
    tries_hold cells numbers (try ∷ tries) h a = tries_hold cells (set numbers try.0 try.1) tries (record {
      count = length-set numbers try.0 try.1 ∙ h.count;
      each = λ k l.
          ⊎_elim
          (λ (e : k ≡ try.0). subst (λ n. Holds ops (choice_cell ops terms cells n) (get_or (set numbers try.0 try.1) n 0)) (sym e)
          (subst (Holds ops (choice_cell ops terms cells try.0)) (sym (get_or-set_same numbers try.0 try.1 0 (omega (arith, h.count, a.0.0)))) a.0.1))
          (λ (n : k ≢ try.0). subst (Holds ops (choice_cell ops terms cells k)) (sym (get_or-set_other numbers try.0 k try.1 0 n)) (h.each k l))
          (cases_eq k try.0);
    }) a.1

    pub tried_holds : (cells : List D) (tries : List (ℕ × ℕ)) → AreCells ops terms cells → HasNoEmpty ops cells → AllByRecursion (IsTry ops terms cells) tries → HoldChoices ops terms cells (tried ops terms cells tries)
    tried_holds cells tries h n a = tries_hold cells (picks ops terms cells) tries (record {
      count = length-map (choices_of terms) (pick_at ops cells);
      each = λ k l.
          let c = choices_there k l in
          subst (Holds ops (choice_cell ops terms cells k)) (sym (get_or-map (pick_at ops cells) (choices_of terms) k 0 0 l))
          (pick_held (choice_cell ops terms cells k) (h.domains _ c.0) (n _ (omega (arith, h.count, c.0))));
    }) a

    -- they are an assignment
    pub held_assignment : (cells : List D) (numbers : List ℕ) → AreCells ops terms cells → HoldChoices ops terms cells numbers → IsAssignment terms numbers
    held_assignment cells numbers h c = record {
      count = c.count;
      fit = λ k l.
          let m : k < length (choices_of terms) = omega (arith, c.count) in
          let t = choices_there k m in
          subst (λ n. get_or numbers k 0 < 2 ^ n) (ap (λ w. w.0) (h.widths _ t.0)) (laws.held_fits (choice_cell ops terms cells k) (get_or numbers k 0) (h.domains _ t.0) (c.each k m));
    }

    -- where no unknown bit of a choice is counted, all are known
    pub none_unknown : (cells : List D) → unknown_bits ops terms cells ≡ 0 → AreChoicesKnown D ops laws terms cells
    none_unknown cells e = record {
      each = λ t i l c m.
          ⊎_elim
          (λ (f : bit (ops.known_mask (cell_at ops cells t)) i ≡ true). f)
          (λ (f : bit (ops.known_mask (cell_at ops cells t)) i ≡ false).
          let p = choice_there terms t l c in
          let q = unknown_some D ops terms cells t i m f (choices_of terms) (choice_at terms t) p.0 p.1 in
          absurd (omega arith))
          (cases_Bool (bit (ops.known_mask (cell_at ops cells t)) i));
    }

    step_still_empty : (s : Step) (cells : List D) → AreCells ops terms cells → IsStep terms s → HasEmpty cells → HasEmpty (after_step ops terms s cells)
    step_still_empty s cells h i e = record {
      at = e.at;
      within = omega (arith, e.within, length-set cells (target terms s) (narrowed ops terms s cells));
      empty = step_empty D ops laws terms right s cells e.at h i e.empty;
    }

  module _ (p : ProblemData) (problem : IsProblem p) where
    abbrev AreFailed : List (List D × List (ℕ × ℕ)) → Type 0
    AreFailed = AllByRecursion (λ trial. IsFailedTrial ops p trial.0 trial.1)

    held_not : {X : Type 0} (cells : List D) → HasEmpty cells → HasNoEmpty ops cells → X
    held_not cells e n = absurd (true≢false (sym e.empty ∙ n e.at e.within))

    -- where a cell is empty there is no split
    empty_splits : (tree : Tree) (cells : List D) (o : Bool) → AreCells ops p.terms cells → HasEmpty cells → IsSound ops p.terms tree cells → AreFailed (trials ops p.terms tree cells o) → splits_of tree ≡ 0
    unfolding IsSound trials splits_of
    empty_splits (forward t rest) cells o h e s a =
        empty_splits rest (after_step ops p.terms (Forward t) cells) o (step_cells D ops laws p.terms problem.terms (Forward t) cells h s.0) (step_still_empty p.terms problem.terms (Forward t) cells h s.0 e) s.1 a
    empty_splits (backward u k rest) cells o h e s a =
        empty_splits rest (after_step ops p.terms (Backward u k) cells) o (step_cells D ops laws p.terms problem.terms (Backward u k) cells h s.0) (step_still_empty p.terms problem.terms (Backward u k) cells h s.0 e) s.1 a
    empty_splits (close t) cells o h e s a = refl
    empty_splits (loose tries) cells o h e s a = refl
    empty_splits unvisited cells o h e s a = refl
    empty_splits (split tries t i zeros ones) cells o h e s a = held_not cells e a.0.settled.held

    -- nor a first end that is loose
    empty_loose : (tree : Tree) (cells : List D) → AreCells ops p.terms cells → HasEmpty cells → IsSound ops p.terms tree cells → AreFailed (trials ops p.terms tree cells false) → is_loose_first tree ≡ true → ⊥
    unfolding IsSound trials is_loose_first
    empty_loose (forward t rest) cells h e s a f =
        empty_loose rest (after_step ops p.terms (Forward t) cells) (step_cells D ops laws p.terms problem.terms (Forward t) cells h s.0) (step_still_empty p.terms problem.terms (Forward t) cells h s.0 e) s.1 a f
    empty_loose (backward u k rest) cells h e s a f =
        empty_loose rest (after_step ops p.terms (Backward u k) cells) (step_cells D ops laws p.terms problem.terms (Backward u k) cells h s.0) (step_still_empty p.terms problem.terms (Backward u k) cells h s.0 e) s.1 a f
    empty_loose (close t) cells h e s a f = absurd (false≢true f)
    empty_loose (loose tries) cells h e s a f = held_not cells e a.0.settled.held
    empty_loose unvisited cells h e s a f = absurd (false≢true f)
    empty_loose (split tries t i zeros ones) cells h e s a f = held_not cells e a.0.settled.held

    -- required terms are known to be 1 in the root cells
    pub root_required : AreRequiredKnown ops p (root_cells ops p)
    root_required t l e =
        let v : Bv = record { width = width 1; bits = 1 } in
        let is : IsValue v = ((omega arith, omega arith), omega arith) in
        let k = laws.one_known v is in
        let w = laws.one_is v is in
        let mask : bit (ops.known_mask (certain ops)) 0 ≡ true = ap (λ m. bit m 0) (k.1 ∙ ap (λ n. 2 ^ n - 1) (ap (λ x. x.0) w.1)) ∙ bit_of_ones 1 0 (omega arith) in
        let value : bit (ops.known_value (certain ops)) 0 ≡ true = sym (held_bit D ops laws (certain ops) 1 0 w.0 ((laws.one_holds v 1 is).1 refl) mask) ∙ bit_of_small 1 (omega arith) in
        let cell : cell_at ops (root_cells ops p) t ≡ certain ops = root_cell_at D ops p t l ∙ ap (λ b. cond b (certain ops) (ops.full (width_of_term (term_at p.terms t)))) e in
        subst (λ d. KnowsBit ops d 0 true) (sym cell) (mask, value)

    -- where all bits of all choices are known, what is tried at settled cells solves the problem
    pub decided_trial : (cells : List D) (tries : List (ℕ × ℕ)) → AreCells ops p.terms cells → AreRequiredKnown ops p cells → IsSettled ops p.terms cells → unknown_bits ops p.terms cells ≡ 0
        → AllByRecursion (IsTry ops p.terms cells) tries → solves p (tried ops p.terms cells tries) ≡ true
    decided_trial cells tries h r s e a =
        let c = tried_holds p.terms problem.terms cells tries h s.held a in
        decided_solves D ops laws p cells (tried ops p.terms cells tries) problem h s (held_assignment p.terms problem.terms cells (tried ops p.terms cells tries) h c) c (none_unknown p.terms problem.terms cells e) r

    module _ (decides : DecidingLaws ops) where
      -- a step leaves no more bits unknown
      step_small : (s : Step) (cells : List D) (m : ℕ) → AreCells ops p.terms cells → IsStep p.terms s → HasNoEmpty ops (after_step ops p.terms s cells)
          → m ≤ 2 ^ unknown_bits ops p.terms (after_step ops p.terms s cells) → m ≤ 2 ^ unknown_bits ops p.terms cells
      step_small s cells m h i n l =
          let k = unknown_le D ops p.terms cells (after_step ops p.terms s cells) (step_keeps_all D ops laws p.terms problem.terms s cells h i n) (choices_of p.terms) in
          let q = wider (unknown_bits ops p.terms (after_step ops p.terms s cells)) (unknown_bits ops p.terms cells) k in
          omega arith

      after_small : (rest : Tree) (s : Step) (cells : List D) (o : Bool) → AreCells ops p.terms cells → IsStep p.terms s → IsSound ops p.terms rest (after_step ops p.terms s cells)
          → AreFailed (trials ops p.terms rest (after_step ops p.terms s cells) o)
          → (AreCells ops p.terms (after_step ops p.terms s cells) → HasNoEmpty ops (after_step ops p.terms s cells) → splits_of rest + 1 ≤ 2 ^ unknown_bits ops p.terms (after_step ops p.terms s cells))
          → splits_of rest + 1 ≤ 2 ^ unknown_bits ops p.terms cells
      after_small rest s cells o h i d a ih =
          let c = step_cells D ops laws p.terms problem.terms s cells h i in
          ⊎_elim
          (λ (n : HasNoEmpty ops (after_step ops p.terms s cells)). step_small s cells (splits_of rest + 1) h i n (ih c n))
          (λ (e : HasEmpty (after_step ops p.terms s cells)).
          let z = empty_splits rest (after_step ops p.terms s cells) o c e d a in
          let q = pow_pos (unknown_bits ops p.terms cells) in
          omega arith)
          (cases_empty (after_step ops p.terms s cells))

      child_small : (tree : Tree) (t i : ℕ) (v o : Bool) (cells : List D) → AreCells ops p.terms cells → IsUnknownBit ops p.terms cells t i → IsSound ops p.terms tree (after_bit ops t i v cells)
          → AreFailed (trials ops p.terms tree (after_bit ops t i v cells) o)
          → (AreCells ops p.terms (after_bit ops t i v cells) → HasNoEmpty ops (after_bit ops t i v cells) → splits_of tree + 1 ≤ 2 ^ unknown_bits ops p.terms (after_bit ops t i v cells))
          → splits_of tree + 1 ≤ 2 ^ (unknown_bits ops p.terms cells - 1)
      child_small tree t i v o cells h u d a ih =
          let c = bit_cells D ops laws p.terms problem.terms t i v cells h u.term u.within in
          ⊎_elim
          (λ (n : HasNoEmpty ops (after_bit ops t i v cells)).
          let k = bit_fewer D ops laws p.terms problem.terms decides t i v cells h u n in
          let q = wider (unknown_bits ops p.terms (after_bit ops t i v cells)) (unknown_bits ops p.terms cells - 1) (omega arith) in
          let r = ih c n in
          omega arith)
          (λ (e : HasEmpty (after_bit ops t i v cells)).
          let z = empty_splits tree (after_bit ops t i v cells) o c e d a in
          let q = pow_pos (unknown_bits ops p.terms cells - 1) in
          omega arith)
          (cases_empty (after_bit ops t i v cells))

      -- the splits of a tree are fewer than two to the number of unknown bits
      small : (tree : Tree) (cells : List D) (o : Bool) → AreCells ops p.terms cells → HasNoEmpty ops cells → IsSound ops p.terms tree cells → AreFailed (trials ops p.terms tree cells o)
          → splits_of tree + 1 ≤ 2 ^ unknown_bits ops p.terms cells
      unfolding IsSound trials splits_of
      small (forward t rest) cells o h n s a = after_small rest (Forward t) cells o h s.0 s.1 a (λ c m. small rest (after_step ops p.terms (Forward t) cells) o c m s.1 a)
      small (backward u k rest) cells o h n s a = after_small rest (Backward u k) cells o h s.0 s.1 a (λ c m. small rest (after_step ops p.terms (Backward u k) cells) o c m s.1 a)
      small (close t) cells o h n s a = let q = pow_pos (unknown_bits ops p.terms cells) in omega arith
      small (loose tries) cells o h n s a = let q = pow_pos (unknown_bits ops p.terms cells) in omega arith
      small unvisited cells o h n s a = let q = pow_pos (unknown_bits ops p.terms cells) in omega arith
      small (split tries t i zeros ones) cells o h n s a =
          let parts = AllByRecursion-split _ (trials ops p.terms zeros (after_bit ops t i false cells) o) (trials ops p.terms ones (after_bit ops t i true cells) (o || is_open zeros)) a.1 in
          halves (unknown_bits ops p.terms cells) (splits_of zeros) (splits_of ones) (some_unknown D ops laws p.terms problem.terms cells t i s.0)
          (child_small zeros t i false o cells h s.0 s.1 parts.0 (λ c m. small zeros (after_bit ops t i false cells) o c m s.1 parts.0))
          (child_small ones t i true (o || is_open zeros) cells h s.0 s.2 parts.1 (λ c m. small ones (after_bit ops t i true cells) (o || is_open zeros) c m s.2 parts.1))

      -- ---- required terms
      pub step_required : (s : Step) (cells : List D) → AreCells ops p.terms cells → IsStep p.terms s → HasNoEmpty ops (after_step ops p.terms s cells) → AreRequiredKnown ops p cells → AreRequiredKnown ops p (after_step ops p.terms s cells)
      step_required s cells h i n r t l e = step_keeps D ops laws p.terms problem.terms s cells t 0 true h i (step_held D ops laws p.terms problem.terms s cells h i n) (r t l e)

      pub bit_required : (t i : ℕ) (v : Bool) (cells : List D) → AreCells ops p.terms cells → IsUnknownBit ops p.terms cells t i → HasNoEmpty ops (after_bit ops t i v cells) → AreRequiredKnown ops p cells → AreRequiredKnown ops p (after_bit ops t i v cells)
      bit_required t i v cells h u n r k l e = (bit_decides D ops laws p.terms problem.terms decides t i v cells h u.term u.within (bit_held D ops laws p.terms problem.terms decides t i v cells h u.term n)).1 k 0 true (r k l e)

      -- where a trial fails at settled cells, some bit of a choice is unknown
      pub failed_unknown : (cells : List D) (tries : List (ℕ × ℕ)) → AreCells ops p.terms cells → AreRequiredKnown ops p cells → IsFailedTrial ops p cells tries → 1 ≤ unknown_bits ops p.terms cells
      failed_unknown cells tries h r f =
          ⊎_elim
          (λ (l : 0 < unknown_bits ops p.terms cells). omega arith)
          (λ (l : unknown_bits ops p.terms cells ≤ 0).
          let c = tried_holds p.terms problem.terms cells tries h f.settled.held f.held in
          absurd (true≢false (sym (decided_solves D ops laws p cells (tried ops p.terms cells tries) problem h f.settled (held_assignment p.terms problem.terms cells (tried ops p.terms cells tries) h c) c
          (none_unknown p.terms problem.terms cells (omega arith)) r) ∙ f.fails)))
          (cases_lt 0 (unknown_bits ops p.terms cells))

      child_less : (tree : Tree) (t i : ℕ) (v : Bool) (cells : List D) → AreCells ops p.terms cells → IsUnknownBit ops p.terms cells t i → IsSound ops p.terms tree (after_bit ops t i v cells)
          → AreFailed (trials ops p.terms tree (after_bit ops t i v cells) false) → is_loose_first tree ≡ true → AreRequiredKnown ops p cells
          → (AreCells ops p.terms (after_bit ops t i v cells) → HasNoEmpty ops (after_bit ops t i v cells) → AreRequiredKnown ops p (after_bit ops t i v cells) → splits_of tree + 2 ≤ 2 ^ unknown_bits ops p.terms (after_bit ops t i v cells))
          → splits_of tree + 2 ≤ 2 ^ (unknown_bits ops p.terms cells - 1)
      child_less tree t i v cells h u d a f r ih =
          let c = bit_cells D ops laws p.terms problem.terms t i v cells h u.term u.within in
          ⊎_elim
          (λ (n : HasNoEmpty ops (after_bit ops t i v cells)).
          let k = bit_fewer D ops laws p.terms problem.terms decides t i v cells h u n in
          let q = wider (unknown_bits ops p.terms (after_bit ops t i v cells)) (unknown_bits ops p.terms cells - 1) (omega arith) in
          let x = ih c n (bit_required t i v cells h u n r) in
          omega arith)
          (λ (e : HasEmpty (after_bit ops t i v cells)). absurd (empty_loose tree (after_bit ops t i v cells) c e d a f))
          (cases_empty (after_bit ops t i v cells))

      step_less : (rest : Tree) (s : Step) (cells : List D) → AreCells ops p.terms cells → IsStep p.terms s → IsSound ops p.terms rest (after_step ops p.terms s cells)
          → AreFailed (trials ops p.terms rest (after_step ops p.terms s cells) false) → is_loose_first rest ≡ true → AreRequiredKnown ops p cells
          → (AreCells ops p.terms (after_step ops p.terms s cells) → HasNoEmpty ops (after_step ops p.terms s cells) → AreRequiredKnown ops p (after_step ops p.terms s cells) → splits_of rest + 2 ≤ 2 ^ unknown_bits ops p.terms (after_step ops p.terms s cells))
          → splits_of rest + 2 ≤ 2 ^ unknown_bits ops p.terms cells
      step_less rest s cells h i d a f r ih =
          let c = step_cells D ops laws p.terms problem.terms s cells h i in
          ⊎_elim
          (λ (n : HasNoEmpty ops (after_step ops p.terms s cells)). step_small s cells (splits_of rest + 2) h i n (ih c n (step_required s cells h i n r)))
          (λ (e : HasEmpty (after_step ops p.terms s cells)). absurd (empty_loose rest (after_step ops p.terms s cells) c e d a f))
          (cases_empty (after_step ops p.terms s cells))

      -- with a first end that is loose, there is one fewer
      less : (tree : Tree) (cells : List D) → AreCells ops p.terms cells → HasNoEmpty ops cells → AreRequiredKnown ops p cells → IsSound ops p.terms tree cells → AreFailed (trials ops p.terms tree cells false) → is_loose_first tree ≡ true
          → splits_of tree + 2 ≤ 2 ^ unknown_bits ops p.terms cells
      unfolding IsSound trials splits_of is_loose_first
      less (forward t rest) cells h n r s a f = step_less rest (Forward t) cells h s.0 s.1 a f r (λ c m q. less rest (after_step ops p.terms (Forward t) cells) c m q s.1 a f)
      less (backward u k rest) cells h n r s a f = step_less rest (Backward u k) cells h s.0 s.1 a f r (λ c m q. less rest (after_step ops p.terms (Backward u k) cells) c m q s.1 a f)
      less (close t) cells h n r s a f = absurd (false≢true f)
      less (loose tries) cells h n r s a f =
          let u = failed_unknown cells tries h r a.0 in
          let q = wider 1 (unknown_bits ops p.terms cells) u in
          omega arith
      less unvisited cells h n r s a f = absurd (false≢true f)
      less (split tries t i zeros ones) cells h n r s a f =
          by_open (is_open zeros) refl f a.1 (less zeros (after_bit ops t i false cells)) (less ones (after_bit ops t i true cells))
        where
          by_open : (b : Bool) → is_open zeros ≡ b → cond b (is_loose_first zeros) (is_loose_first ones) ≡ true
              → AreFailed (trials ops p.terms zeros (after_bit ops t i false cells) false ++ trials ops p.terms ones (after_bit ops t i true cells) (is_open zeros))
              → (AreCells ops p.terms (after_bit ops t i false cells) → HasNoEmpty ops (after_bit ops t i false cells) → AreRequiredKnown ops p (after_bit ops t i false cells) → IsSound ops p.terms zeros (after_bit ops t i false cells) → AreFailed (trials ops p.terms zeros (after_bit ops t i false cells) false) → is_loose_first zeros ≡ true → splits_of zeros + 2 ≤ 2 ^ unknown_bits ops p.terms (after_bit ops t i false cells))
              → (AreCells ops p.terms (after_bit ops t i true cells) → HasNoEmpty ops (after_bit ops t i true cells) → AreRequiredKnown ops p (after_bit ops t i true cells) → IsSound ops p.terms ones (after_bit ops t i true cells) → AreFailed (trials ops p.terms ones (after_bit ops t i true cells) false) → is_loose_first ones ≡ true → splits_of ones + 2 ≤ 2 ^ unknown_bits ops p.terms (after_bit ops t i true cells))
              → (1 + (splits_of zeros + splits_of ones)) + 2 ≤ 2 ^ unknown_bits ops p.terms cells
          by_open true e g b ih jh =
              let parts = AllByRecursion-split _ (trials ops p.terms zeros (after_bit ops t i false cells) false) (trials ops p.terms ones (after_bit ops t i true cells) (is_open zeros)) b in
              halves_less (unknown_bits ops p.terms cells) (splits_of zeros) (splits_of ones) (some_unknown D ops laws p.terms problem.terms cells t i s.0)
              (child_less zeros t i false cells h s.0 s.1 parts.0 g r (λ c m q. ih c m q s.1 parts.0 g))
              (child_small ones t i true (is_open zeros) cells h s.0 s.2 parts.1 (λ c m. small ones (after_bit ops t i true cells) (is_open zeros) c m s.2 parts.1))
          by_open false e g b ih jh =
              let parts = AllByRecursion-split _ (trials ops p.terms zeros (after_bit ops t i false cells) false) (trials ops p.terms ones (after_bit ops t i true cells) (is_open zeros)) b in
              let last = subst (λ o. AreFailed (trials ops p.terms ones (after_bit ops t i true cells) o)) e parts.1 in
              let x = halves_less (unknown_bits ops p.terms cells) (splits_of ones) (splits_of zeros) (some_unknown D ops laws p.terms problem.terms cells t i s.0)
              (child_less ones t i true cells h s.0 s.2 last g r (λ c m q. jh c m q s.2 last g))
              (child_small zeros t i false false cells h s.0 s.1 parts.0 (λ c m. small zeros (after_bit ops t i false cells) false c m s.1 parts.0)) in
              omega arith

      first_step_less : (rest : Tree) (s : Step) (cells : List D) → AreCells ops p.terms cells → IsStep p.terms s → IsSound ops p.terms rest (after_step ops p.terms s cells)
          → AreFailed (trials ops p.terms rest (after_step ops p.terms s cells) false) → is_loose_first rest ≡ true → AreRequiredKnown ops p cells
          → (AreCells ops p.terms (after_step ops p.terms s cells) → HasNoEmpty ops (after_step ops p.terms s cells) → AreRequiredKnown ops p (after_step ops p.terms s cells) → splits_of rest + 2 ≤ 2 ^ unknown_first ops p.terms rest (after_step ops p.terms s cells))
          → splits_of rest + 2 ≤ 2 ^ unknown_first ops p.terms rest (after_step ops p.terms s cells)
      first_step_less rest s cells h i d a f r ih =
          let c = step_cells D ops laws p.terms problem.terms s cells h i in
          ⊎_elim
          (λ (n : HasNoEmpty ops (after_step ops p.terms s cells)). ih c n (step_required s cells h i n r))
          (λ (e : HasEmpty (after_step ops p.terms s cells)). absurd (empty_loose rest (after_step ops p.terms s cells) c e d a f))
          (cases_empty (after_step ops p.terms s cells))

      first_less : (tree : Tree) (cells : List D) → AreCells ops p.terms cells → HasNoEmpty ops cells → AreRequiredKnown ops p cells → IsSound ops p.terms tree cells → AreFailed (trials ops p.terms tree cells false) → is_loose_first tree ≡ true
          → splits_of tree + 2 ≤ 2 ^ unknown_first ops p.terms tree cells
      unfolding IsSound trials splits_of is_loose_first unknown_first
      first_less (forward t rest) cells h n r s a f = first_step_less rest (Forward t) cells h s.0 s.1 a f r (λ c m q. first_less rest (after_step ops p.terms (Forward t) cells) c m q s.1 a f)
      first_less (backward u k rest) cells h n r s a f = first_step_less rest (Backward u k) cells h s.0 s.1 a f r (λ c m q. first_less rest (after_step ops p.terms (Backward u k) cells) c m q s.1 a f)
      first_less (close t) cells h n r s a f = less (close t) cells h n r s a f
      first_less (loose tries) cells h n r s a f = less (loose tries) cells h n r s a f
      first_less unvisited cells h n r s a f = less unvisited cells h n r s a f
      first_less (split tries t i zeros ones) cells h n r s a f = less (split tries t i zeros ones) cells h n r s a f

      -- a record has fewer splits than two to the number of bits of choices that aren't known at its
      -- first item that is no step, less 1
      pub record_bound : (tree : Tree) (n : ℕ) → IsRecord ops p tree n → n + 2 ≤ 2 ^ unknown_first ops p.terms tree (root_cells ops p)
      record_bound tree n r =
          let c = root_cells_are D ops laws p problem in
          ⊎_elim
          (λ (k : HasNoEmpty ops (root_cells ops p)). let x = first_less tree (root_cells ops p) c k root_required r.sound r.trials r.loose in omega (arith, r.splits))
          (λ (e : HasEmpty (root_cells ops p)). absurd (empty_loose tree (root_cells ops p) c e r.sound r.trials r.loose))
          (cases_empty (root_cells ops p))

      unknown_first_most : (tree : Tree) (cells : List D) → unknown_first ops p.terms tree cells ≤ bits_of_choices p.terms (choices_of p.terms)
      unfolding unknown_first
      unknown_first_most (forward t rest) cells = unknown_first_most rest (after_step ops p.terms (Forward t) cells)
      unknown_first_most (backward u k rest) cells = unknown_first_most rest (after_step ops p.terms (Backward u k) cells)
      unknown_first_most (close t) cells = unknown_most D ops p.terms cells (choices_of p.terms)
      unknown_first_most (loose tries) cells = unknown_most D ops p.terms cells (choices_of p.terms)
      unknown_first_most unvisited cells = unknown_most D ops p.terms cells (choices_of p.terms)
      unknown_first_most (split tries t i zeros ones) cells = unknown_most D ops p.terms cells (choices_of p.terms)

      -- so fewer than two to the number of bits of all choices, less 1
      pub record_bound_all : (tree : Tree) (n : ℕ) → IsRecord ops p tree n → n + 2 ≤ 2 ^ bits_of_choices p.terms (choices_of p.terms)
      record_bound_all tree n r =
          let x = record_bound tree n r in
          let q = wider _ _ (unknown_first_most tree (root_cells ops p)) in
          omega arith
