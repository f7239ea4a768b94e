-- The numbers of a trial follow the picks of the cells.
use Rattle.std.proofs.Common.{◌≡◌, ◌≢◌, ℕ, ◌+◌, ◌^◌, ◌<◌, ◌≤◌, Bool, true, false, cond, ◌⊎◌, inl, inr, ⊎_elim, List, [], ◌∷◌, length, take, replicate, get_or, set, refl, sym, ap, ◌∙◌, subst, arith, length-set, get_or-set_same, get_or-set_other}
use Rattle.std.specs.Prelude.{All, Result, Ok, Err, OnOk, unwrap_or}
use Rattle.std.proofs.lemmas.Bool.{cases_Bool, cases_eq, cases_lt, false≢true}
use Rattle.std.proofs.lemmas.List.{get_or_past, get_or-map, length-replicate, get_or-replicate}
use Rattle.dt_lemmas.proofs.Equalities.{two}
use Rattle.dt_bits.specs.Bits.{width}
use Rattle.dt_domain.specs.Domain.{DomainOps, DomainLaws, Holds}
use Rattle.dt_terms.specs.declared.term.Term.{Term}
use Rattle.dt_terms.specs.Terms.{term_at, bits_at, is_choice, choices_of}
use Rattle.dt_terms.proofs.Choices.{choice_stands}
use Rattle.dt_box.specs.Cells.{cell_at, AreCells}
use Rattle.dt_box.specs.Stillness.{HasNoEmpty}
use Rattle.dt_box.specs.Trails.{terms_of, back, IsKept}
use Rattle.dt_box.proofs.Trails.{same_between, kept_back, back_twice, back_whole}
use Rattle.dt_check.specs.Trials.{pick_at, picks}
use Rattle.dt_check.specs.Marks.{HasNone}
use Rattle.dt_check.specs.Noting.{AreChoices, StandsBetween, AreNoted}
use Rattle.dt_check.specs.Evaluating.{numbers_of}
use Rattle.dt_check.specs.Trying.{ArePicked, IsTrial, IsNew}
use Rattle.dt_check.specs.declared.trial.Trial.{Trial}
use Rattle.dt_check.proofs.Bound.{pick_held}
use Rattle.dt_check.proofs.Evaluating.{map_same}

-- a mark that is taken is gone
gone : (marks : List Bool) (t : ℕ) → get_or (set marks t false) t false ≡ false
gone marks t =
    ⊎_elim
    (λ (l : t < length marks). get_or-set_same marks t false false l)
    (λ (l : length marks ≤ t). get_or_past (set marks t false) t false (omega (arith, length-set marks t false)))
    (cases_lt t (length marks))

-- ---- which choices are noted
pub noted_none : (terms : List Term) (changed : List ℕ) (m : ℕ) (marks : List Bool) → AreNoted terms changed m m marks marks
noted_none terms changed m marks = record {
  count = refl;
  kept = λ t e. e;
  noted = λ k l j e. absurd (omega arith);
  only = λ t e. inl e;
}

-- one more
pub noted_more : (terms : List Term) (changed : List ℕ) (m n t : ℕ) (old new : List Bool) → t < length new → m ≤ n → t ≡ get_or changed n 0 → AreNoted terms changed m n old new
    → AreNoted terms changed m (n + 1) old (cond (is_choice (term_at terms t)) (set new t true) new)
noted_more terms changed m n t old new l o e h = by_term (is_choice (term_at terms t)) refl
  where
    here : get_or (set new t true) t false ≡ true
    here = get_or-set_same new t true false l

    still : (u : ℕ) → get_or new u false ≡ true → get_or (set new t true) u false ≡ true
    still u f = ⊎_elim (λ (g : u ≡ t). ap (λ v. get_or (set new t true) v false) g ∙ here) (λ (d : u ≡ t → ⊥). get_or-set_other new t u true false d ∙ f) (cases_eq u t)

    marked_at : (k : ℕ) → m ≤ k → k < n + 1 → is_choice (term_at terms (get_or changed k 0)) ≡ true → (k ≡ n) ⊎ (k ≡ n → ⊥) → get_or (set new t true) (get_or changed k 0) false ≡ true
    marked_at k i j f (inl g) = ap (λ v. get_or (set new t true) v false) (ap (λ p. get_or changed p 0) g ∙ sym e) ∙ here
    marked_at k i j f (inr d) = still (get_or changed k 0) (h.noted k i (omega (arith, d)) f)

    later : (u : ℕ) → (get_or old u false ≡ true) ⊎ ((is_choice (term_at terms u) ≡ true) × StandsBetween changed m n u)
        → (get_or old u false ≡ true) ⊎ ((is_choice (term_at terms u) ≡ true) × StandsBetween changed m (n + 1) u)
    later u (inl x) = inl x
    later u (inr (x, s)) = inr (x, record { place = s.place; after = s.after; before = omega (arith, s.before); stands = s.stands })

    only_at : is_choice (term_at terms t) ≡ true → (u : ℕ) → get_or (set new t true) u false ≡ true → (u ≡ t) ⊎ (u ≡ t → ⊥)
        → (get_or old u false ≡ true) ⊎ ((is_choice (term_at terms u) ≡ true) × StandsBetween changed m (n + 1) u)
    only_at c u f (inl x) = inr (ap (λ v. is_choice (term_at terms v)) x ∙ c, record { place = n; after = o; before = omega arith; stands = sym e ∙ sym x })
    only_at c u f (inr d) = later u (h.only u (sym (get_or-set_other new t u true false d) ∙ f))

    passed_at : is_choice (term_at terms t) ≡ false → (k : ℕ) → m ≤ k → k < n + 1 → is_choice (term_at terms (get_or changed k 0)) ≡ true → (k ≡ n) ⊎ (k ≡ n → ⊥) → get_or new (get_or changed k 0) false ≡ true
    passed_at c k i j f (inl g) = absurd (false≢true (sym c ∙ ap (λ v. is_choice (term_at terms v)) (e ∙ ap (λ p. get_or changed p 0) (sym g)) ∙ f))
    passed_at c k i j f (inr d) = h.noted k i (omega (arith, d)) f

    by_term : (b : Bool) → is_choice (term_at terms t) ≡ b → AreNoted terms changed m (n + 1) old (cond b (set new t true) new)
    by_term true c = record {
      count = length-set new t true ∙ h.count;
      kept = λ u f. still u (h.kept u f);
      noted = λ k i j f. marked_at k i j f (cases_eq k n);
      only = λ u f. only_at c u f (cases_eq u t);
    }
    by_term false c = record {
      count = h.count;
      kept = h.kept;
      noted = λ k i j f. passed_at c k i j f (cases_eq k n);
      only = λ u f. later u (h.only u f);
    }

-- a change names a term
pub named_below : {D : Type 0} (trail : List (ℕ × D)) (n k : ℕ) (d : D) → All (λ change. change.0 < n) trail → k < length trail → get_or (terms_of trail) k 0 < n
named_below {D} trail n k d h l = subst (λ t. t < n) (sym (get_or-map (λ (change : ℕ × D). change.0) trail k (0, d) 0 l)) (h k (0, d) l)

-- ---- all choices
pub choices_none : (terms : List Term) (marks : List Bool) → marks ≡ replicate (length terms) false → AreChoices terms 0 marks
choices_none terms marks e = record {
  count = ap length e ∙ length-replicate (length terms) false;
  marked = λ t l c. absurd (omega arith);
  choices = λ t f. absurd (false≢true (sym (none t) ∙ f));
}
  where
    unmarked : (t : ℕ) → (t < length terms) ⊎ (length terms ≤ t) → get_or (replicate (length terms) false) t false ≡ false
    unmarked t (inl l) = get_or-replicate (length terms) t false false l
    unmarked t (inr l) = get_or_past (replicate (length terms) false) t false (omega (arith, length-replicate {A = Bool} (length terms) false))

    none : (t : ℕ) → get_or marks t false ≡ false
    none t = ap (λ (xs : List Bool). get_or xs t false) e ∙ unmarked t (cases_lt t (length terms))

pub choices_more : (terms : List Term) (t : ℕ) (marks : List Bool) → t < length terms → AreChoices terms t marks
    → AreChoices terms (t + 1) (cond (is_choice (term_at terms t)) (set marks t true) marks)
choices_more terms t marks l h = by_term (is_choice (term_at terms t)) refl
  where
    marked_at : (u : ℕ) → u < t + 1 → is_choice (term_at terms u) ≡ true → (u ≡ t) ⊎ (u ≡ t → ⊥) → get_or (set marks t true) u false ≡ true
    marked_at u m f (inl e) = ap (λ v. get_or (set marks t true) v false) e ∙ get_or-set_same marks t true false (omega (arith, h.count))
    marked_at u m f (inr d) = get_or-set_other marks t u true false d ∙ h.marked u (omega (arith, d)) f

    choice_at : is_choice (term_at terms t) ≡ true → (u : ℕ) → get_or (set marks t true) u false ≡ true → (u ≡ t) ⊎ (u ≡ t → ⊥) → is_choice (term_at terms u) ≡ true
    choice_at c u f (inl e) = ap (λ v. is_choice (term_at terms v)) e ∙ c
    choice_at c u f (inr d) = h.choices u (sym (get_or-set_other marks t u true false d) ∙ f)

    passed_at : is_choice (term_at terms t) ≡ false → (u : ℕ) → u < t + 1 → is_choice (term_at terms u) ≡ true → (u ≡ t) ⊎ (u ≡ t → ⊥) → get_or marks u false ≡ true
    passed_at c u m f (inl e) = absurd (false≢true (sym c ∙ ap (λ v. is_choice (term_at terms v)) (sym e) ∙ f))
    passed_at c u m f (inr d) = h.marked u (omega (arith, d)) f

    by_term : (b : Bool) → is_choice (term_at terms t) ≡ b → AreChoices terms (t + 1) (cond b (set marks t true) marks)
    by_term true c = record { count = length-set marks t true ∙ h.count; marked = λ u m f. marked_at u m f (cases_eq u t); choices = λ u f. choice_at c u f (cases_eq u t) }
    by_term false c = record { count = h.count; marked = λ u m f. passed_at c u m f (cases_eq u t); choices = h.choices }

module _ (D : Type 0) (ops : DomainOps D) (terms : List Term) where
  -- ---- numbers that are picks
  -- where the cells of all choices that aren't noted stay
  pub picked_moved : (cells others : List D) (old new : List Bool) (values changed : List ℕ) (m n : ℕ) → ArePicked ops terms cells old values → AreNoted terms changed m n old new
      → ((t : ℕ) → ((k : ℕ) → m ≤ k → k < n → get_or changed k 0 ≢ t) → cell_at ops cells t ≡ cell_at ops others t) → ArePicked ops terms others new values
  picked_moved cells others old new values changed m n h a same = record {
    count = a.count ∙ h.count;
    choices = λ t e.
        ⊎_elim
        (λ (f : get_or old t false ≡ true). h.choices t f)
        (λ (f : (is_choice (term_at terms t) ≡ true) × StandsBetween changed m n t). f.0)
        (a.only t e);
    each = λ t l c. by_mark t c (h.each t l c) (cases_Bool (get_or new t false));
  }
    where
      by_mark : (t : ℕ) → is_choice (term_at terms t) ≡ true → (get_or old t false ≡ true) ⊎ (get_or values t 0 ≡ pick_at ops cells t) → (get_or new t false ≡ true) ⊎ (get_or new t false ≡ false)
          → (get_or new t false ≡ true) ⊎ (get_or values t 0 ≡ pick_at ops others t)
      by_mark t c p (inl e) = inl e
      by_mark t c (inl e) (inr f) = inl (a.kept t e)
      by_mark t c (inr e) (inr f) =
          inr
          (e
          ∙ ap (λ d. unwrap_or (ops.pick d) 0)
          (same t (λ k l j g. absurd (false≢true (sym f ∙ ap (λ v. get_or new v false) (sym g) ∙ a.noted k l j (ap (λ v. is_choice (term_at terms v)) g ∙ c))))))

  -- a choice gets the pick of its cell
  pub picked_one : (cells : List D) (marks : List Bool) (values : List ℕ) (t v : ℕ) → t < length values → v ≡ pick_at ops cells t → ArePicked ops terms cells marks values
      → ArePicked ops terms cells (set marks t false) (set values t v)
  picked_one cells marks values t v l e h = record {
    count = length-set marks t false ∙ h.count;
    choices = λ u f. either u f (cases_eq u t);
    each = λ u m c. at u (h.each u m c) (cases_eq u t);
  }
    where
      either : (u : ℕ) → get_or (set marks t false) u false ≡ true → (u ≡ t) ⊎ (u ≡ t → ⊥) → is_choice (term_at terms u) ≡ true
      either u f (inr d) = h.choices u (sym (get_or-set_other marks t u false false d) ∙ f)
      either u f (inl g) =
          absurd (false≢true (sym (gone marks t) ∙ ap (λ w. get_or (set marks t false) w false) (sym g) ∙ f))

      at : (u : ℕ) → (get_or marks u false ≡ true) ⊎ (get_or values u 0 ≡ pick_at ops cells u) → (u ≡ t) ⊎ (u ≡ t → ⊥)
          → (get_or (set marks t false) u false ≡ true) ⊎ (get_or (set values t v) u 0 ≡ pick_at ops cells u)
      at u p (inl g) = inr (ap (λ w. get_or (set values t v) w 0) g ∙ get_or-set_same values t v 0 l ∙ e ∙ ap (pick_at ops cells) (sym g))
      at u (inl f) (inr d) = inl (get_or-set_other marks t u false false d ∙ f)
      at u (inr f) (inr d) = inr (get_or-set_other values t u v 0 d ∙ f)

  -- a choice gets a number, and is marked
  pub picked_tried : (cells : List D) (marks : List Bool) (values : List ℕ) (t v : ℕ) → t < length marks → is_choice (term_at terms t) ≡ true → ArePicked ops terms cells marks values
      → ArePicked ops terms cells (set marks t true) (set values t v)
  picked_tried cells marks values t v l c h = record {
    count = length-set marks t true ∙ h.count;
    choices = λ u f. either u f (cases_eq u t);
    each = λ u m k. at u (h.each u m k) (cases_eq u t);
  }
    where
      either : (u : ℕ) → get_or (set marks t true) u false ≡ true → (u ≡ t) ⊎ (u ≡ t → ⊥) → is_choice (term_at terms u) ≡ true
      either u f (inl g) = ap (λ w. is_choice (term_at terms w)) g ∙ c
      either u f (inr d) = h.choices u (sym (get_or-set_other marks t u true false d) ∙ f)

      at : (u : ℕ) → (get_or marks u false ≡ true) ⊎ (get_or values u 0 ≡ pick_at ops cells u) → (u ≡ t) ⊎ (u ≡ t → ⊥)
          → (get_or (set marks t true) u false ≡ true) ⊎ (get_or (set values t v) u 0 ≡ pick_at ops cells u)
      at u p (inl g) = inl (ap (λ w. get_or (set marks t true) w false) g ∙ get_or-set_same marks t true false l)
      at u (inl f) (inr d) = inl (get_or-set_other marks t u true false d ∙ f)
      at u (inr f) (inr d) = inr (get_or-set_other values t u v 0 d ∙ f)

  -- where none is marked, all numbers are picks
  pub all_picked : (cells : List D) (marks : List Bool) (values : List ℕ) → ArePicked ops terms cells marks values → HasNone marks 0 (length terms) → numbers_of terms values ≡ picks ops terms cells
  all_picked cells marks values h none =
      map_same (λ t. get_or values t 0) (pick_at ops cells) (choices_of terms)
      (λ k l.
      let s = choice_stands terms k l in
      ⊎_elim
      (λ (e : get_or marks (get_or (choices_of terms) k 0) false ≡ true). absurd (false≢true (sym (none (get_or (choices_of terms) k 0) (omega arith) s.0) ∙ e)))
      (λ (e : get_or values (get_or (choices_of terms) k 0) 0 ≡ pick_at ops cells (get_or (choices_of terms) k 0)). e)
      (h.each (get_or (choices_of terms) k 0) s.0 s.1))

  -- they stay picks where the choices' values stay
  pub picked_values : (cells : List D) (marks : List Bool) (values others : List ℕ) → ((t : ℕ) → is_choice (term_at terms t) ≡ true → get_or others t 0 ≡ get_or values t 0)
      → ArePicked ops terms cells marks values → ArePicked ops terms cells marks others
  picked_values cells marks values others e h = record {
    count = h.count;
    choices = h.choices;
    each = λ t l c.
        ⊎_elim
        (λ (f : get_or marks t false ≡ true). inl f)
        (λ (f : get_or values t 0 ≡ pick_at ops cells t). inr (e t c ∙ f))
        (h.each t l c);
  }

  -- ---- a trial follows the cells
  -- after changes that were kept
  pub trial_kept : (cells new : List D) (trail longer : List (ℕ × D)) (trial : Trial) → IsKept cells trail new longer → IsTrial ops terms cells trail trial → IsTrial ops terms new longer trial
  trial_kept cells new trail longer trial k h = record {
    watches = h.watches;
    evaluated = h.evaluated;
    seen = omega (arith, h.seen, k.within);
    picked = subst (λ ds. ArePicked ops terms ds trial.changed.marks.items trial.evaluation.values.items) (sym (kept_back cells trail new longer trial.seen k h.seen)) h.picked;
  }

  pub trial_kept_ok : {X E : Type 0} (cells new : List D) (trail longer : List (ℕ × D)) (trial : Trial) (r : Result X E) → OnOk r (IsKept cells trail new longer) → IsTrial ops terms cells trail trial
      → OnOk r (IsTrial ops terms new longer trial)
  trial_kept_ok cells new trail longer trial (Ok x) k h = trial_kept cells new trail longer trial k h
  trial_kept_ok cells new trail longer trial (Err e) k h = tt

  -- after a change of a cell of which nothing was kept, where it is noted
  pub picked_noted : (cells : List D) (trail : List (ℕ × D)) (trial : Trial) (t : ℕ) (d : D) (marks : List Bool) → trail ≡ [] → t < length terms
      → marks ≡ cond (is_choice (term_at terms t)) (set trial.changed.marks.items t true) trial.changed.marks.items → IsTrial ops terms cells trail trial
      → ArePicked ops terms (back (set cells t d) trail trial.seen) marks trial.evaluation.values.items
  picked_noted cells trail trial t d marks none l e h =
      subst (λ ms. ArePicked ops terms (back (set cells t d) trail trial.seen) ms trial.evaluation.values.items) (sym e)
      (picked_moved (back cells trail trial.seen) (back (set cells t d) trail trial.seen) old _ trial.evaluation.values.items (t ∷ []) 0 1 h.picked
      (noted_more terms (t ∷ []) 0 0 t old old (omega (arith, l, h.picked.count)) (omega arith) refl (noted_none terms (t ∷ []) 0 old))
      (λ u f. ap (λ ds. cell_at ops ds u) (whole cells) ∙ sym (get_or-set_other cells t u d (ops.full (width 1)) (λ g. f 0 (omega arith) (omega arith) (sym g))) ∙ sym (ap (λ ds. cell_at ops ds u) (whole (set cells t d)))))
    where
      old : List Bool
      old = trial.changed.marks.items

      whole : (ds : List D) → back ds trail trial.seen ≡ ds
      whole ds = ap (back ds trail) (omega (arith, h.seen, ap length none)) ∙ back_whole ds trail

  -- the choices whose cells changed are noted, up to now
  pub picked_now : (cells : List D) (trail : List (ℕ × D)) (trial : Trial) (new : List Bool) → IsTrial ops terms cells trail trial
      → AreNoted terms (terms_of trail) trial.seen (length trail) trial.changed.marks.items new → ArePicked ops terms cells new trial.evaluation.values.items
  picked_now cells trail trial new h a =
      picked_moved (back cells trail trial.seen) cells trial.changed.marks.items new trial.evaluation.values.items (terms_of trail) trial.seen (length trail) h.picked a
      (λ t f. same_between cells trail trial.seen (length trail) t (ops.full (width 1)) h.seen f ∙ ap (λ ds. cell_at ops ds t) (back_whole cells trail))

  -- and those whose cells go back
  pub picked_then : (cells : List D) (trail : List (ℕ × D)) (trial : Trial) (n : ℕ) (new : List Bool) → n ≤ trial.seen → IsTrial ops terms cells trail trial
      → AreNoted terms (terms_of trail) n trial.seen trial.changed.marks.items new → ArePicked ops terms (back cells trail n) new trial.evaluation.values.items
  picked_then cells trail trial n new l h a =
      picked_moved (back cells trail trial.seen) (back cells trail n) trial.changed.marks.items new trial.evaluation.values.items (terms_of trail) n trial.seen h.picked a
      (λ t f. sym (same_between cells trail n trial.seen t (ops.full (width 1)) l f))

  -- where the cells go back, they go through the same ones
  pub picked_back : (cells mid : List D) (trail short : List (ℕ × D)) (to n : ℕ) (marks : List Bool) (values : List ℕ) → n ≤ to → to ≤ length trail → mid ≡ back cells trail to → short ≡ take to trail
      → ArePicked ops terms (back cells trail n) marks values → ArePicked ops terms (back mid short n) marks values
  picked_back cells mid trail short to n marks values l m e f h =
      subst (λ ds. ArePicked ops terms ds marks values) (sym (two (λ x y. back x y n) e f ∙ back_twice cells trail n to l m)) h

  -- what was just made follows all cells
  pub trial_begun : (cells : List D) (trail : List (ℕ × D)) (trial : Trial) → IsNew terms trial → IsTrial ops terms cells trail trial
  trial_begun cells trail trial h = record {
    watches = h.watches;
    evaluated = h.evaluated;
    seen = omega (arith, h.seen);
    picked = record { count = h.marked.count; choices = h.marked.choices; each = λ t l c. inl (h.marked.marked t l c) };
  }

module _ (D : Type 0) (ops : DomainOps D) (laws : DomainLaws ops) (terms : List Term) where
  -- a held number of a cell has the term's width
  pub held_fits : (cells : List D) (t v : ℕ) → AreCells ops terms cells → t < length terms → Holds ops (cell_at ops cells t) v → v < 2 ^ bits_at terms t
  held_fits cells t v h l e = subst (λ n. v < 2 ^ n) (ap (λ w. w.0) (h.widths t l)) (laws.held_fits (cell_at ops cells t) v (h.domains t l) e)

  pub pick_fits : (cells : List D) (t : ℕ) → AreCells ops terms cells → HasNoEmpty ops cells → t < length terms → pick_at ops cells t < 2 ^ bits_at terms t
  pick_fits cells t h n l = held_fits cells t (pick_at ops cells t) h l (pick_held D ops laws (cell_at ops cells t) (h.domains t l) (n t (omega (arith, h.count))))
