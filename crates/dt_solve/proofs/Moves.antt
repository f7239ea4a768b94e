-- A turn leads to a state of the search again.
use Rattle.std.proofs.Common.{◌≡◌, ◌≢◌, ℕ, ◌<◌, ◌≤◌, Bool, true, false, List, [], ◌∷◌, ◌++◌, length, take, reverse, Option, Some, sym, ap, ◌∙◌, subst, ⊎_elim, arith, length-set, get_or-set_other}
use Rattle.std.specs.Prelude.{All}
use Rattle.std.specs.List.{AllByRecursion}
use Rattle.std.proofs.lemmas.Bool.{cases_Bool, cases_eq, true≢false}
use Rattle.std.proofs.lemmas.List.{length-take-le, length-reverse}
use Rattle.std.proofs.lemmas.List.Elements.{All-take}
use Rattle.dt_bits.specs.Bits.{width}
use Rattle.dt_domain.specs.Domain.{DomainOps, DomainLaws, DecidingLaws}
use Rattle.dt_terms.specs.declared.term.Term.{Term}
use Rattle.dt_terms.specs.Problem.{ProblemData, IsProblem}
use Rattle.dt_box.specs.declared.step.Step.{Step}
use Rattle.dt_box.specs.Cells.{cell_at, AreCells}
use Rattle.dt_box.specs.Steps.{IsStep, after_step, after_bit}
use Rattle.dt_box.specs.Stillness.{HasNoEmpty, IsSettled}
use Rattle.dt_box.specs.Trails.{back}
use Rattle.dt_box.specs.Unknown.{AreRequiredKnown}
use Rattle.dt_box.proofs.Steps.{step_cells, bit_cells}
use Rattle.dt_box.proofs.Assignments.{held_not_empty}
use Rattle.dt_box.proofs.Knowledge.{step_empty}
use Rattle.dt_box.proofs.Trails.{kept_back, back_twice}
use Rattle.dt_box.proofs.Watching.{covers_more, covers_none}
use Rattle.dt_log.specs.declared.line.Line.{Line}
use Rattle.dt_log.specs.declared.line.Line.TheVariants.{Close}
use Rattle.dt_check.specs.declared.pending.Pending.{Pending}
use Rattle.dt_check.specs.Sound.{IsEmptyAt}
use Rattle.dt_check.specs.Waiting.{waiting, Stacked, CanBegin, AtSplits, IsNext, IsBegun}
use Rattle.dt_check.proofs.Waiting.{stacked_more, waiting_kept}
use Rattle.dt_check.proofs.Checking.{splits_each}
use Rattle.dt_check.proofs.Bound.{step_required, bit_required}
use Rattle.dt_propagate.specs.Settling.{Leads, IsLogged, IsProgress}
use Rattle.dt_propagate.proofs.Progress.{leads_hold}
use Rattle.dt_solve.specs.Searching.{HasChanged, CanTurn, FollowsAt, IsRead, NoAim, IsSearching, left}
use Rattle.dt_solve.proofs.Logged.{leads_passes, leads_after, leads_along, leads_shape}
use Rattle.dt_solve.proofs.Turns.{read_more, read_close}

-- where a bit of a term was set in settled cells, only that term has changed
pub changed_bit : (D : Type 0) (ops : DomainOps D) (terms : List Term) (cells new : List D) (t i : ℕ) (v : Bool) → IsSettled ops terms cells → t < length terms → new ≡ after_bit ops t i v cells → HasChanged ops terms new t
changed_bit D ops terms cells new t i v s l e =
    let d = ops.with_bit (cell_at ops cells t) i v in
    subst (λ c. HasChanged ops terms c t) (sym e) (record {
      within = l;
      covers = covers_more D ops terms cells t d [] (covers_none D ops terms cells s.still);
      held = λ u m n. ap ops.is_empty (get_or-set_other cells t u d (ops.full (width 1)) n) ∙ s.held u (omega (arith, length-set cells t d));
    })

-- where the changed cell isn't empty either, none is
pub held_all : (D : Type 0) (ops : DomainOps D) (terms : List Term) (cells : List D) (t : ℕ) → HasChanged ops terms cells t → ops.is_empty (cell_at ops cells t) ≡ false → HasNoEmpty ops cells
held_all D ops terms cells t h e u l =
    ⊎_elim
    (λ (f : u ≡ t). ap (λ n. ops.is_empty (cell_at ops cells n)) f ∙ e)
    (λ (n : u ≢ t). h.held u l n)
    (cases_eq u t)

module _ (D : Type 0) (ops : DomainOps D) (p : ProblemData) where
  can_begin : (c : List D) (q : Pending) → CanTurn ops p c q → CanBegin ops p.terms c q
  can_begin c q h = record { cells_are = h.cells_are; term = h.unknown.term; bit = h.unknown.within }

  pub begins : (cells : List D) (trail : List (ℕ × D)) (qs : List Pending) → AtSplits (CanTurn ops p) cells trail qs → AtSplits (CanBegin ops p.terms) cells trail qs
  begins = splits_each D ops (CanTurn ops p) (CanBegin ops p.terms) can_begin

  -- where going back gives the same cells, the splits are the same
  pub turns_same : (c d : List D) (s t : List (ℕ × D)) (n : ℕ) (qs : List Pending) → Stacked n qs → ((m : ℕ) → m ≤ n → back c s m ≡ back d t m) → AtSplits (CanTurn ops p) d t qs → AtSplits (CanTurn ops p) c s qs
  unfolding Stacked
  turns_same c d s t n [] h e a = tt
  turns_same c d s t n (q ∷ qs) h e a =
      (subst (λ x. CanTurn ops p x q) (sym (e q.length h.0)) a.0, turns_same c d s t q.length qs h.1 (λ m l. e m (omega (arith, h.0))) a.1)

  pub long_waiting : (cells : List D) (trail : List (ℕ × D)) (qs : List Pending) → AtSplits (CanTurn ops p) cells trail qs → AllByRecursion (λ c. length c ≡ length p.terms) (waiting ops cells trail qs)
  long_waiting cells trail [] a = tt
  long_waiting cells trail (q ∷ qs) a = (length-set (back cells trail q.length) q.term (ops.with_bit (cell_at ops (back cells trail q.length) q.term) q.bit true) ∙ a.0.cells_are.count, long_waiting cells trail qs a.1)

  module _ (laws : DomainLaws ops) (problem : IsProblem p) where
    -- what isn't empty after a step wasn't before
    held_before : (s : Step) (cells : List D) → AreCells ops p.terms cells → IsStep p.terms s → HasNoEmpty ops (after_step ops p.terms s cells) → HasNoEmpty ops cells
    held_before s cells h i n t l =
        ⊎_elim
        (λ (e : ops.is_empty (cell_at ops cells t) ≡ true).
        absurd (true≢false (sym (step_empty D ops laws p.terms problem.terms s cells t h i e) ∙ n t (omega (arith, h.count, (step_cells D ops laws p.terms problem.terms s cells h i).count)))))
        (λ (e : ops.is_empty (cell_at ops cells t) ≡ false). e)
        (cases_Bool (ops.is_empty (cell_at ops cells t)))

    module _ (decides : DecidingLaws ops) where
      -- what logged steps keep
      pub required_leads : (lines : List Line) (old new : List D) → AreCells ops p.terms old → Leads ops p.terms lines old new → (HasNoEmpty ops old → AreRequiredKnown ops p old) → HasNoEmpty ops new → AreRequiredKnown ops p new
      unfolding Leads
      required_leads [] old new h l r n = subst (AreRequiredKnown ops p) l (r (subst (HasNoEmpty ops) (sym l) n))
      required_leads (line ∷ lines) old new h l r n =
          required_leads lines (after_step ops p.terms l.0 old) new (step_cells D ops laws p.terms problem.terms l.0 old h l.2) l.3
          (λ m. step_required D ops laws p problem decides l.0 old h l.2 m (r (held_before l.0 old h l.2 m))) n

      module _ (limit : ℕ) (aim : Option (List ℕ)) where
        -- the steps that settling logged are read
        pub read_leads : (lines more : List Line) (old new : List D) (W : List (List D)) (n : ℕ) → IsLogged ops p.terms old lines new more → IsRead ops p limit aim lines (old ∷ W) n false → IsRead ops p limit aim more (new ∷ W) n false
        read_leads lines more old new W n g h =
            let ls = g.added in
            subst (λ l. IsRead ops p limit aim l (new ∷ W) n false) (sym g.lines_are)
            (read_more D ops p limit aim lines ls (old ∷ W) (new ∷ W) n n false false h (leads_passes D ops p _ ls old new W n false g.leads)
            (leads_after D ops p ls old new W n false g.leads) (leads_shape D ops p ls old new (length W) g.leads)
            (λ numbers e l. subst (AllByRecursion (FollowsAt ops p.terms numbers)) (sym (leads_along D ops p ls old new W n false g.leads)) tt))

        -- settling
        pub moved : (old : List D) (trail : List (ℕ × D)) (pending : List Pending) (lines : List Line) (n : ℕ) (new : List D) (longer : List (ℕ × D)) (more : List Line)
            → IsSearching ops p limit aim old trail pending lines n → IsProgress ops p.terms old trail lines new longer more → IsSearching ops p limit aim new longer pending more n
        moved old trail pending lines n new longer more h g =
            let qs = reverse pending in
            let ls = g.logged.added in
            let far : (m : ℕ) → m ≤ length trail → back new longer m ≡ back old trail m = λ m l. kept_back old trail new longer m g.kept l in
            record {
              cells_are = g.cells;
              within = subst (λ k. All (λ (change : ℕ × D). change.0 < k) longer) (h.cells_are.count ∙ sym g.cells.count) (g.kept.terms h.within);
              stacked = stacked_more (length trail) (length longer) qs g.kept.within h.stacked;
              turns = turns_same new old longer trail (length trail) qs h.stacked far h.turns;
              read = subst (λ w. IsRead ops p limit aim more (new ∷ w) n false) (sym (waiting_kept D ops old trail new longer qs g.kept h.stacked))
                  (read_leads lines more old new (waiting ops old trail qs) n g.logged h.read);
              required = required_leads ls old new h.cells_are g.logged.leads h.required;
              aimed = λ numbers e i s. leads_hold D ops p.terms laws problem.terms ls old new numbers h.cells_are g.logged.leads (h.aimed numbers e i s);
              most = h.most;
            }

        -- a cell is empty
        pub closed : (cells : List D) (trail : List (ℕ × D)) (pending : List Pending) (lines more : List Line) (n t : ℕ) → IsSearching ops p limit aim cells trail pending lines n → IsEmptyAt ops p.terms cells t → more ≡ lines ++ Close t ∷ []
            → IsRead ops p limit aim more (waiting ops cells trail (reverse pending)) n false × NoAim p aim
        closed cells trail pending lines more n t h e f = (
          subst (λ l. IsRead ops p limit aim l (waiting ops cells trail (reverse pending)) n false) (sym f)
              (read_close D ops p limit aim t lines cells (waiting ops cells trail (reverse pending)) n h.cells_are.count h.read e),
          λ numbers a i s. true≢false (sym e.1 ∙ held_not_empty D ops laws p.terms problem.terms numbers t cells h.cells_are e.0 (h.aimed numbers a i s)),
        )

        -- the tree that waited first is begun
        pub begun : (cells : List D) (trail : List (ℕ × D)) (pending : List Pending) (lines more : List Line) (n : ℕ) (new : List D) (longer : List (ℕ × D)) (rest : List Pending) (q : Pending)
            → IsSearching ops p limit aim cells trail pending lines n → IsRead ops p limit aim more (waiting ops cells trail (reverse pending)) n false → NoAim p aim
            → IsBegun ops cells trail (reverse pending) new longer (reverse rest) q → IsNext ops cells trail (reverse pending) new longer (reverse rest) (Some q)
            → IsSearching ops p limit aim new longer rest more n × HasChanged ops p.terms new q.term × (left limit n rest < left limit n pending)
        unfolding Stacked
        begun cells trail pending lines more n new longer rest q h r noaim b e =
            let qs = reverse rest in
            let mid = back cells trail q.length in
            let st : Stacked (length trail) (q ∷ qs) = subst (Stacked (length trail)) b.first h.stacked in
            let tu : AtSplits (CanTurn ops p) cells trail (q ∷ qs) = subst (AtSplits (CanTurn ops p) cells trail) b.first h.turns in
            let can : CanTurn ops p mid q = tu.0 in
            let size : length (take q.length trail) ≡ q.length = length-take-le q.length trail st.0 in
            let is : AreCells ops p.terms (after_bit ops q.term q.bit true mid) = bit_cells D ops laws p.terms problem.terms q.term q.bit true mid can.cells_are can.unknown.term can.unknown.within in
            let same : length mid ≡ length cells = can.cells_are.count ∙ sym h.cells_are.count in
            let far : (m : ℕ) → m ≤ q.length → back new longer m ≡ back cells trail m =
            λ m l. kept_back mid (take q.length trail) new longer m b.kept (omega (arith, size)) ∙ back_twice cells trail m q.length l st.0 in
            let count = ap length b.first in (
              record {
                cells_are = subst (AreCells ops p.terms) (sym b.cells_are) is;
                within = subst (λ k. All (λ (change : ℕ × D). change.0 < k) longer) (can.cells_are.count ∙ sym (ap length b.cells_are ∙ is.count))
                    (b.kept.terms (subst (λ k. All (λ (change : ℕ × D). change.0 < k) (take q.length trail)) (sym same) (All-take (λ (change : ℕ × D). change.0 < length cells) q.length trail h.within)));
                stacked = stacked_more q.length (length longer) qs (omega (arith, size, b.kept.within)) st.1;
                turns = turns_same new cells longer trail q.length qs st.1 far tu.1;
                read = subst (λ w. IsRead ops p limit aim more w n false) (sym e) r;
                required = λ k. subst (AreRequiredKnown ops p) (sym b.cells_are) (bit_required D ops laws p problem decides q.term q.bit true mid can.cells_are can.unknown (subst (HasNoEmpty ops) b.cells_are k) can.required);
                aimed = λ numbers a i s. absurd (noaim numbers a i s);
                most = h.most;
              },
              changed_bit D ops p.terms mid new q.term q.bit true can.settled can.unknown.term b.cells_are,
              omega (arith, length-reverse pending, length-reverse rest),
            )

        -- none waited
        pub refuted : (cells : List D) (trail : List (ℕ × D)) (pending : List Pending) (more : List Line) (n : ℕ) → IsRead ops p limit aim more (waiting ops cells trail (reverse pending)) n false → reverse pending ≡ [] → IsRead ops p limit aim more [] n false
        refuted cells trail pending more n r e = subst (λ qs. IsRead ops p limit aim more (waiting ops cells trail qs) n false) e r
