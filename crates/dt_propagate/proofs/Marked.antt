-- Which steps are marked after a step was tried.
use Rattle.std.proofs.Common.{◌≡◌, ◌≢◌, ℕ, zero, suc, ◌+◌, ◌-◌, ◌*◌, ◌<◌, ◌≤◌, Bool, true, false, not, ◌||◌, ◌&&◌, eqb, ltb, List, [], length, get_or, set, refl, sym, ap, ◌∙◌, subst, inl, inr, ◌⊎◌, ⊎_elim, arith}
use Rattle.std.specs.List.{list_any, range_with_len}
use Rattle.std.proofs.lemmas.Bool.{cases_Bool, cases_eq, cases_lt, lt-ltb, and_from, eq-eqb, eqb-true, ne_eqb, or_left, or_right, or_cases, true≢false, false≢true}
use Rattle.std.proofs.lemmas.List.{set-get_or}
use Rattle.dt_bits.specs.Bits.{width}
use Rattle.dt_bits.specs.declared.op.Op.{Op}
use Rattle.dt_bits.specs.declared.value.Width.{Width}
use Rattle.dt_bits.specs.Ops.{arity_of}
use Rattle.dt_domain.specs.Domain.{DomainOps, DomainLaws}
use Rattle.dt_terms.specs.declared.term.Term.{Term}
use Rattle.dt_terms.specs.declared.term.Term.TheVariants.{Choice, Node}
use Rattle.dt_terms.specs.Terms.{AreTerms, term_at}
use Rattle.dt_box.specs.declared.step.Step.{Step}
use Rattle.dt_box.specs.declared.step.Step.TheVariants.{Forward, Backward}
use Rattle.dt_box.specs.Cells.{cell_at, AreCells}
use Rattle.dt_box.specs.Changes.{has_news, knows_more}
use Rattle.dt_box.specs.Steps.{IsStep, IsNodeTerm, HasPlace, operand_at, target, narrowed, after_step}
use Rattle.dt_box.specs.Stillness.{HasNoEmpty, IsSettled, tells, origin}
use Rattle.dt_box.specs.Neighbours.{uses, is_near}
use Rattle.dt_box.specs.Watching.{users_of, watches_of, Covers}
use Rattle.dt_box.proofs.Watching.{far_tells, users_at_term, user_in, near_origin, place_of, origin_in}
use Rattle.dt_box.proofs.Words.{stays}
use Rattle.dt_propagate.specs.declared.marks.Marks.{Marks}
use Rattle.dt_propagate.specs.Marks.{is_marked, position, Grows, AreMarkedAt, AreMarkedNear}
use Rattle.dt_propagate.specs.Passing.{place_count, AreMarkedBut, AreMarked, IsEmptied, IsStepTaken, StandsAt, IsLeft}
use Rattle.dt_propagate.proofs.Progress.{unknown_step, unknown_keep, held_step, empty_step}
use Rattle.dt_box.specs.Unknown.{unknown_of}

-- the users of a term are those of the watches
pub users_are : (terms : List Term) (watches : List (List ℕ)) → watches ≡ watches_of terms → (t : ℕ) → t < length terms → get_or watches t [] ≡ users_of terms t
users_are terms watches w t l = ap (λ ws. get_or ws t []) w ∙ users_at_term terms t l

-- a node uses its operand at each place that it has
uses_at : (node : Term) (k : ℕ) → HasPlace node k → uses node (operand_at node k) ≡ true
uses_at (Choice w) k l = absurd l
uses_at (Node op a b c w) zero l = or_left (ltb 0 (arity_of op) && eqb a a) _ (named 0 a l)
  where
    named : (k x : ℕ) → k < arity_of op → (ltb k (arity_of op) && eqb x x) ≡ true
    named k x l = and_from (ltb k (arity_of op)) (eqb x x) (lt-ltb k (arity_of op) l) (eq-eqb x x refl)
uses_at (Node op a b c w) (suc zero) l = or_right (ltb 0 (arity_of op) && eqb a b) _ (or_left (ltb 1 (arity_of op) && eqb b b) _ (named 1 b l))
  where
    named : (k x : ℕ) → k < arity_of op → (ltb k (arity_of op) && eqb x x) ≡ true
    named k x l = and_from (ltb k (arity_of op)) (eqb x x) (lt-ltb k (arity_of op) l) (eq-eqb x x refl)
uses_at (Node op a b c w) (suc (suc k)) l = or_right (ltb 0 (arity_of op) && eqb a c) _ (or_right (ltb 1 (arity_of op) && eqb b c) _ (named 2 c (omega arith)))
  where
    named : (k x : ℕ) → k < arity_of op → (ltb k (arity_of op) && eqb x x) ≡ true
    named k x l = and_from (ltb k (arity_of op)) (eqb x x) (lt-ltb k (arity_of op) l) (eq-eqb x x refl)

-- a step is near its target
pub near_target : (terms : List Term) (s : Step) → IsStep terms s → is_near terms (target terms s) s ≡ true
near_target terms (Forward t) i = or_left (eqb t t) _ (eq-eqb t t refl)
near_target terms (Backward t k) i = or_right (eqb t (operand_at (term_at terms t) k)) _ (uses_at (term_at terms t) k i.1)

-- a step of a marked node is marked
at_node : (n : ℕ) (words : List ℕ) (s : Step) → AreMarkedAt n words (origin s) → is_marked words (position n s) ≡ true
at_node n words (Forward t) h = h.forward
at_node n words (Backward t k) h = h.backward

-- the steps near a term are marked where those of the term and of its users are
pub near_marked : (terms : List Term) (words : List ℕ) (t : ℕ) → AreMarkedAt (length terms) words t → ((k : ℕ) → k < length (users_of terms t) → AreMarkedAt (length terms) words (get_or (users_of terms t) k 0))
    → AreMarkedNear terms words t
near_marked terms words t h us s i e =
    ⊎_elim
    (λ (f : origin s ≡ t). at_node (length terms) words s (subst (AreMarkedAt (length terms) words) (sym f) h))
    (λ (f : list_any (λ n. eqb n (origin s)) (users_of terms t) ≡ true).
    let j = place_of (λ n. eqb n (origin s)) (users_of terms t) f in
    at_node (length terms) words s (subst (AreMarkedAt (length terms) words) (eqb-true (get_or (users_of terms t) j.0 0) (origin s) j.2) (us j.0 j.1)))
    (near_origin terms t s i e)

pub marked_grows : (n : ℕ) (old new : List ℕ) (t : ℕ) → Grows old new → AreMarkedAt n old t → AreMarkedAt n new t
marked_grows n old new t g h = record { forward = g.each t h.forward; backward = g.each (2 * n - 1 - t) h.backward }

pub near_grows : (terms : List Term) (old new : List ℕ) (t : ℕ) → Grows old new → AreMarkedNear terms old t → AreMarkedNear terms new t
near_grows terms old new t g h s i e = g.each (position (length terms) s) (h s i e)

module _ (D : Type 0) (ops : DomainOps D) (terms : List Term) where
  -- a step that leaves its target as it is tells nothing new, and changes no cell
  pub same_tells : (s : Step) (cells : List D) → ops.is_empty (narrowed ops terms s cells) ≡ false → narrowed ops terms s cells ≡ cell_at ops cells (target terms s) → tells ops terms s cells ≡ false
  same_tells s cells e f = stays D ops (cell_at ops cells (target terms s)) (narrowed ops terms s cells) f ∙ ap ops.is_empty (sym f) ∙ e

  pub same_cells : (s : Step) (cells new : List D) → new ≡ after_step ops terms s cells → narrowed ops terms s cells ≡ cell_at ops cells (target terms s) → new ≡ cells
  same_cells s cells new e f = e ∙ ap (set cells (target terms s)) f ∙ set-get_or cells (target terms s) (ops.full (width 1))

  -- what was marked before a step, and isn't marked now, was not
  pub but_taken : (But : Step → Type 0) (s : Step) (old new : List D) (marks more : Marks) → IsStepTaken ops terms s old marks new more → AreMarkedBut ops terms old marks.bits.words.items But
      → AreMarkedBut ops terms new more.bits.words.items But
  but_taken But s old new marks more k h = record { each = λ r i e. by_near r i e (cases_Bool (is_near terms (target terms s) r)) }
    where
      told : (r : Step) → IsStep terms r → tells ops terms r new ≡ true → is_near terms (target terms s) r ≡ false → tells ops terms r old ≡ true
      told r i e f = sym (far_tells D ops terms old (target terms s) (narrowed ops terms s old) r i f) ∙ ap (tells ops terms r) (sym k.cells) ∙ e

      by_near : (r : Step) → IsStep terms r → tells ops terms r new ≡ true → (is_near terms (target terms s) r ≡ true) ⊎ (is_near terms (target terms s) r ≡ false)
          → (is_marked more.bits.words.items (position (length terms) r) ≡ true) ⊎ But r
      by_near r i e (inl f) = inl (k.near r i f)
      by_near r i e (inr f) =
          ⊎_elim
          (λ (m : is_marked marks.bits.words.items (position (length terms) r) ≡ true). inl (k.grows.each (position (length terms) r) m))
          (λ (b : But r). inr b)
          (h.each r i (told r i e f))

  -- a step that was tried need not be named any more
  pub but_less : (Old New : Step → Type 0) (cells : List D) (words : List ℕ) → ((r : Step) → IsStep terms r → tells ops terms r cells ≡ true → Old r → (is_marked words (position (length terms) r) ≡ true) ⊎ New r)
      → AreMarkedBut ops terms cells words Old → AreMarkedBut ops terms cells words New
  but_less Old New cells words f h = record {
    each = λ r i e. ⊎_elim (λ (m : is_marked words (position (length terms) r) ≡ true). inl m) (λ (b : Old r). f r i e b) (h.each r i e);
  }

  -- where nothing is marked, the cells are settled
  pub unmarked_settled : (cells : List D) (words : List ℕ) → HasNoEmpty ops cells → AreMarked ops terms cells words → ((i : ℕ) → i < 2 * length terms → is_marked words i ≡ false) → IsSettled ops terms cells
  unmarked_settled cells words n h none = record { held = n; still = λ s i. by_tells s i (cases_Bool (tells ops terms s cells)) }
    where
      within : (s : Step) → IsStep terms s → position (length terms) s < 2 * length terms
      within (Forward t) i = let l = i.0 in omega arith
      within (Backward t k) i = let l = i.0 in omega arith

      by_tells : (s : Step) → IsStep terms s → (tells ops terms s cells ≡ true) ⊎ (tells ops terms s cells ≡ false) → tells ops terms s cells ≡ false
      by_tells s i (inr e) = e
      by_tells s i (inl e) =
          ⊎_elim
          (λ (m : is_marked words (position (length terms) s) ≡ true). absurd (true≢false (sym m ∙ none (position (length terms) s) (within s i))))
          (λ (b : ⊥). absurd b)
          (h.each s i e)

  -- a mark is taken away: the steps there are named
  pub but_unmarked : (cells : List D) (old new : List ℕ) (at : ℕ) → ((i : ℕ) → is_marked new i ≡ (not (eqb i at) && is_marked old i)) → AreMarked ops terms cells old → AreMarkedBut ops terms cells new (StandsAt terms at)
  but_unmarked cells old new at u h = record {
    each = λ s i e. ⊎_elim (λ (m : is_marked old (position (length terms) s) ≡ true). by_eq s m (cases_eq (position (length terms) s) at)) (λ (b : ⊥). absurd b) (h.each s i e);
  }
    where
      by_eq : (s : Step) → is_marked old (position (length terms) s) ≡ true → (position (length terms) s ≡ at) ⊎ (position (length terms) s ≡ at → ⊥) → (is_marked new (position (length terms) s) ≡ true) ⊎ StandsAt terms at s
      by_eq s m (inl e) = inr e
      by_eq s m (inr n) = inl (u (position (length terms) s) ∙ ap (λ b. not b && is_marked old (position (length terms) s)) (ne_eqb (position (length terms) s) at n) ∙ m)

  -- the steps at a position below n are the one to that node
  pub forward_taken : (at : ℕ) (cells : List D) (words : List ℕ) → at < length terms → (tells ops terms (Forward at) cells ≡ false) ⊎ (AreMarkedNear terms words at) → AreMarkedBut ops terms cells words (StandsAt terms at) → AreMarked ops terms cells words
  forward_taken at cells words l h = but_less (StandsAt terms at) (λ s. ⊥) cells words by_step
    where
      by_step : (r : Step) → IsStep terms r → tells ops terms r cells ≡ true → StandsAt terms at r → (is_marked words (position (length terms) r) ≡ true) ⊎ ⊥
      by_step (Backward t k) i e s = let m = i.0 in absurd (omega arith)
      by_step (Forward t) i e s =
          ⊎_elim
          (λ (f : tells ops terms (Forward at) cells ≡ false). absurd (true≢false (sym e ∙ ap (λ u. tells ops terms (Forward u) cells) s ∙ f)))
          (λ (f : AreMarkedNear terms words at). inl (f (Forward t) i (or_left (eqb t at) _ (eq-eqb t at s))))
          h

  -- no step goes to a choice
  pub choice_visited : (at : ℕ) (cells : List D) (words : List ℕ) (w : Width) → at < length terms → term_at terms at ≡ Choice w → AreMarkedBut ops terms cells words (StandsAt terms at) → AreMarked ops terms cells words
  choice_visited at cells words w l c = but_less (StandsAt terms at) (λ s. ⊥) cells words by_step
    where
      by_step : (r : Step) → IsStep terms r → tells ops terms r cells ≡ true → StandsAt terms at r → (is_marked words (position (length terms) r) ≡ true) ⊎ ⊥
      by_step (Backward t k) i e s = let m = i.0 in absurd (omega arith)
      by_step (Forward t) i e s = absurd (subst IsNodeTerm (ap (term_at terms) s ∙ c) i.1)

  -- the steps at a later position go to the operands of one node
  pub backward_first : (at node : ℕ) (cells : List D) (words : List ℕ) → length terms ≤ at → at < 2 * length terms → node ≡ 2 * length terms - 1 - at
      → AreMarkedBut ops terms cells words (StandsAt terms at) → AreMarkedBut ops terms cells words (IsLeft node 0)
  backward_first at node cells words l m e = but_less (StandsAt terms at) (IsLeft node 0) cells words by_step
    where
      by_step : (r : Step) → IsStep terms r → tells ops terms r cells ≡ true → StandsAt terms at r → (is_marked words (position (length terms) r) ≡ true) ⊎ IsLeft node 0 r
      by_step (Forward t) i f s = let m = i.0 in absurd (omega arith)
      by_step (Backward t k) i f s = let m = i.0 in inr (omega arith, omega arith)

  -- one more place was tried
  pub backward_next : (node k : ℕ) (cells : List D) (words : List ℕ) → (tells ops terms (Backward node k) cells ≡ false) ⊎ AreMarkedNear terms words (target terms (Backward node k))
      → AreMarkedBut ops terms cells words (IsLeft node k) → AreMarkedBut ops terms cells words (IsLeft node (k + 1))
  backward_next node k cells words h = but_less (IsLeft node k) (IsLeft node (k + 1)) cells words by_step
    where
      by_place : (t j : ℕ) → IsStep terms (Backward t j) → tells ops terms (Backward t j) cells ≡ true → t ≡ node → k ≤ j → (k ≡ j) ⊎ (k ≡ j → ⊥) → (is_marked words (position (length terms) (Backward t j)) ≡ true) ⊎ IsLeft node (k + 1) (Backward t j)
      by_place t j i e f l (inr n) = inr (f, omega arith)
      by_place t j i e f l (inl g) =
          let same : Backward t j ≡ Backward node k = cc in
          ⊎_elim
          (λ (m : tells ops terms (Backward node k) cells ≡ false). absurd (true≢false (sym e ∙ ap (λ s. tells ops terms s cells) same ∙ m)))
          (λ (m : AreMarkedNear terms words (target terms (Backward node k))). inl (m (Backward t j) i (subst (λ s. is_near terms (target terms s) (Backward t j) ≡ true) same (near_target terms (Backward t j) i))))
          h

      by_step : (r : Step) → IsStep terms r → tells ops terms r cells ≡ true → IsLeft node k r → (is_marked words (position (length terms) r) ≡ true) ⊎ IsLeft node (k + 1) r
      by_step (Forward t) i e b = absurd b
      by_step (Backward t j) i e b = by_place t j i e b.0 b.1 (cases_eq k j)

  -- a step to an operand that changed it marks all steps to operands of the node
  pub backward_changed : (node k : ℕ) (cells : List D) (words : List ℕ) → IsStep terms (Backward node k) → AreMarkedNear terms words (target terms (Backward node k)) → AreMarkedBut ops terms cells words (IsLeft node k) → AreMarked ops terms cells words
  backward_changed node k cells words s m = but_less (IsLeft node k) (λ s. ⊥) cells words by_step
    where
      by_step : (r : Step) → IsStep terms r → tells ops terms r cells ≡ true → IsLeft node k r → (is_marked words (position (length terms) r) ≡ true) ⊎ ⊥
      by_step (Forward t) i e b = absurd b
      by_step (Backward t j) i e b =
          let u = target terms (Backward node k) in
          let used : uses (term_at terms t) u ≡ true = subst (λ v. uses (term_at terms v) u ≡ true) (sym b.0) (uses_at (term_at terms node) k s.1) in
          inl (m (Backward t j) i (or_right (eqb t u) _ used))

  -- after the last place no step is left
  pub backward_last : (node k : ℕ) (cells : List D) (words : List ℕ) → place_count (term_at terms node) ≤ k → AreMarkedBut ops terms cells words (IsLeft node k) → AreMarked ops terms cells words
  backward_last node k cells words l = but_less (IsLeft node k) (λ s. ⊥) cells words by_step
    where
      place_below : (term : Term) (j : ℕ) → HasPlace term j → j < place_count term
      place_below (Choice w) j h = absurd h
      place_below (Node op a b c w) j h = h

      by_step : (r : Step) → IsStep terms r → tells ops terms r cells ≡ true → IsLeft node k r → (is_marked words (position (length terms) r) ≡ true) ⊎ ⊥
      by_step (Forward t) i e b = absurd b
      by_step (Backward t j) i e b =
          let m = place_below (term_at terms t) j i.1 in
          let f = b.1 in
          let g : place_count (term_at terms t) ≡ place_count (term_at terms node) = ap (λ u. place_count (term_at terms u)) b.0 in
          absurd (omega arith)

  -- the steps near changed terms are marked
  pub covered_marked : (cells : List D) (words changed : List ℕ) → Covers ops terms cells changed → ((k : ℕ) → k < length changed → AreMarkedNear terms words (get_or changed k 0)) → AreMarked ops terms cells words
  covered_marked cells words changed c h = record {
    each = λ s i e. let j = place_of (λ t. is_near terms t s) changed (c s i e) in inl (h j.0 j.1 s i j.2);
  }

  -- all steps are
  pub all_marked : (cells : List D) (words : List ℕ) → ((i : ℕ) → i < 2 * length terms → is_marked words i ≡ true) → AreMarked ops terms cells words
  all_marked cells words h = record { each = λ s i e. inl (h (position (length terms) s) (within s i)) }
    where
      within : (s : Step) → IsStep terms s → position (length terms) s < 2 * length terms
      within (Forward t) i = let l = i.0 in omega arith
      within (Backward t k) i = let l = i.0 in omega arith

-- the node has an operand at each place below its arity
pub place_of_node : (term : Term) (k : ℕ) → k < place_count term → HasPlace term k
place_of_node (Choice w) k l = absurd (omega arith)
place_of_node (Node op a b c w) k l = l

module _ (D : Type 0) (ops : DomainOps D) (laws : DomainLaws ops) (terms : List Term) (right : AreTerms terms) where
  -- a step that made a bit known
  pub bit_taken : (s : Step) (old new : List D) (marks more : Marks) → AreCells ops terms old → IsStep terms s → HasNoEmpty ops old → new ≡ after_step ops terms s old → ops.is_empty (narrowed ops terms s old) ≡ false
      → knows_more ops (cell_at ops old (target terms s)) (narrowed ops terms s old) ≡ true → Grows marks.bits.words.items more.bits.words.items → AreMarkedNear terms more.bits.words.items (target terms s) → more.narrowings ≡ marks.narrowings
      → IsStepTaken ops terms s old marks new more
  bit_taken s old new marks more h i n e f k g r m =
      let u = unknown_step D ops terms laws right s old h i (or_right (ops.is_empty (narrowed ops terms s old)) _ k) f in
      let v = subst (λ ds. suc (unknown_of ops terms ds (range_with_len 0 (length terms))) ≤ unknown_of ops terms old (range_with_len 0 (length terms))) (sym e) u in
      record { held = held_step D ops terms laws right s old new h i n f e; cells = e; grows = g; near = r; cost = omega arith }

  -- a step that narrowed a cell while narrowings were left
  pub narrowing_taken : (s : Step) (old new : List D) (marks more : Marks) → AreCells ops terms old → IsStep terms s → HasNoEmpty ops old → new ≡ after_step ops terms s old → ops.is_empty (narrowed ops terms s old) ≡ false
      → Grows marks.bits.words.items more.bits.words.items → AreMarkedNear terms more.bits.words.items (target terms s) → suc more.narrowings ≡ marks.narrowings
      → IsStepTaken ops terms s old marks new more
  narrowing_taken s old new marks more h i n e f g r m =
      let u = unknown_keep D ops terms laws right s old h i f in
      let v = subst (λ ds. unknown_of ops terms ds (range_with_len 0 (length terms)) ≤ unknown_of ops terms old (range_with_len 0 (length terms))) (sym e) u in
      record { held = held_step D ops terms laws right s old new h i n f e; cells = e; grows = g; near = r; cost = omega arith }

  -- a step that tells something new doesn't only narrow
  pub only_narrows : (s : Step) (cells : List D) → ops.is_empty (narrowed ops terms s cells) ≡ false → knows_more ops (cell_at ops cells (target terms s)) (narrowed ops terms s cells) ≡ false → tells ops terms s cells ≡ true → ⊥
  only_narrows s cells e k t =
      ⊎_elim
      (λ (f : ops.is_empty (narrowed ops terms s cells) ≡ true). true≢false (sym f ∙ e))
      (λ (f : knows_more ops (cell_at ops cells (target terms s)) (narrowed ops terms s cells) ≡ true). true≢false (sym f ∙ k))
      (or_cases (ops.is_empty (narrowed ops terms s cells)) _ t)

  -- the target's cell is empty
  pub emptied : (s : Step) (cells new : List D) (t : ℕ) → AreCells ops terms cells → IsStep terms s → ops.is_empty (narrowed ops terms s cells) ≡ true → new ≡ after_step ops terms s cells → t ≡ target terms s → IsEmptied ops terms new t
  emptied s cells new t h i e f g =
      let r = empty_step D ops terms laws right s cells new h i e f in
      subst (IsEmptied ops terms new) (sym g) (record { within = r.0; empty = r.1 })

-- no narrowing is left, and nothing new is told
pub none_left : (n : ℕ) (t : Bool) → (not (eqb n 0) || t) ≡ false → t ≡ false
none_left n t e = by_left (not (eqb n 0)) t e
  where
    by_left : (b : Bool) (t : Bool) → (b || t) ≡ false → t ≡ false
    by_left true t e = absurd (true≢false e)
    by_left false t e = e

-- narrowings are left where nothing new is told
pub some_left : (n : ℕ) (t : Bool) → (not (eqb n 0) || t) ≡ true → (t ≡ true → ⊥) → 1 ≤ n
some_left zero t e h = absurd (h e)
some_left (suc n) t e h = omega arith
