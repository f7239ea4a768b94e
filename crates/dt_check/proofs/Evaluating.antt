-- Values that are in line are those of the assignment, and a value that changes puts only users out of line.
use Rattle.std.proofs.Common.{◌≡◌, ◌≢◌, ℕ, zero, suc, ◌+◌, ◌^◌, ◌<◌, ◌≤◌, Bool, true, false, ◌&&◌, ◌||◌, ltb, eqb, ◌⊎◌, inl, inr, ⊎_elim, List, [], ◌∷◌, ◌++◌, length, map, take, get_or, set, refl, sym, ap, ◌∙◌, subst, arith, length-set, get_or-set_same, get_or-set_other, get_or-take}
use Rattle.std.specs.Prelude.{replicate}
use Rattle.std.specs.List.{list_any, range_with_len}
use Rattle.std.proofs.lemmas.Nat.{pow_pos}
use Rattle.std.proofs.lemmas.Bool.{cases_eq, cases_Bool, eqb-true, ltb-true, false≢true, or_cases, and_parts, lt-ltb, eq-eqb, or_left, or_right, and_from}
use Rattle.std.proofs.lemmas.List.{get_or_default, get_or-map, take_more, length-replicate, get_or-replicate}
use Rattle.std.proofs.lemmas.List.Elements.{filter_passes}
use Rattle.std.proofs.Math.Seq.{take-length}
use Rattle.dt_lemmas.proofs.Equalities.{two}
use Rattle.dt_bits.specs.Ops.{arity_of, value_of}
use Rattle.dt_bits.specs.declared.op.Op.{Op}
use Rattle.dt_bits.specs.declared.value.Width.{Width}
use Rattle.dt_bits.proofs.Operators.{value_used}
use Rattle.dt_terms.specs.declared.term.Term.{Term}
use Rattle.dt_terms.specs.declared.term.Term.TheVariants.{Choice, Node}
use Rattle.dt_terms.specs.Terms.{is_choice, term_at, bits_at, AreTerms, choices_of, choice_at}
use Rattle.dt_terms.specs.Values.{IsAssignment, AreFit, bv_at, value_of_term, first_values, values_of}
use Rattle.dt_terms.proofs.Choices.{choice_there, choice_stands}
use Rattle.dt_terms.proofs.Placed.{placed}
use Rattle.dt_terms.proofs.Valued.{first_values-none, first_values-next, length-values_of, values_fit, value_is}
use Rattle.dt_box.specs.Neighbours.{uses}
use Rattle.dt_box.specs.Steps.{IsNodeTerm}
use Rattle.dt_box.specs.declared.step.Step.TheVariants.{Forward}
use Rattle.dt_box.specs.Watching.{users_of}
use Rattle.dt_box.proofs.Watching.{near_origin, place_of, user_in}
use Rattle.dt_check.specs.Marks.{AreMarked, HasNone}
use Rattle.dt_check.specs.Evaluating.{value_among, IsInLine, IsSeenTo, AreValues, AreSeenTo, AreSeenToBut, numbers_of}

-- a value, of equal bits
same_bv : (terms : List Term) (xs ys : List ℕ) (t : ℕ) → get_or xs t 0 ≡ get_or ys t 0 → bv_at terms xs t ≡ bv_at terms ys t
same_bv terms xs ys t e = cc

module _ (terms : List Term) (xs ys : List ℕ) (op : Op) (a b c : ℕ) where
  -- a node's operator gives the same of values that agree on its operands
  node_same : (0 < arity_of op → get_or xs a 0 ≡ get_or ys a 0) → (1 < arity_of op → get_or xs b 0 ≡ get_or ys b 0) → (2 < arity_of op → get_or xs c 0 ≡ get_or ys c 0)
      → value_of op (bv_at terms xs a) (bv_at terms xs b) (bv_at terms xs c) ≡ value_of op (bv_at terms ys a) (bv_at terms ys b) (bv_at terms ys c)
  node_same p q r =
      value_used op (bv_at terms xs a) (bv_at terms xs b) (bv_at terms xs c) (bv_at terms ys a) (bv_at terms ys b) (bv_at terms ys c)
      (λ l. same_bv terms xs ys a (p l)) (λ l. same_bv terms xs ys b (q l)) (λ l. same_bv terms xs ys c (r l))

-- an operand that is used is no term that the node doesn't use
module _ (op : Op) (a b c u : ℕ) (w : Width) (e : uses (Node op a b c w) u ≡ false) where
  not_first : 0 < arity_of op → a ≢ u
  not_first l f = absurd (false≢true (sym e ∙ or_left (ltb 0 (arity_of op) && eqb a u) _ (and_from (ltb 0 (arity_of op)) (eqb a u) (lt-ltb 0 (arity_of op) l) (eq-eqb a u f))))

  not_second : 1 < arity_of op → b ≢ u
  not_second l f =
      absurd
      (false≢true
      (sym e
      ∙ or_right (ltb 0 (arity_of op) && eqb a u) _ (or_left (ltb 1 (arity_of op) && eqb b u) _ (and_from (ltb 1 (arity_of op)) (eqb b u) (lt-ltb 1 (arity_of op) l) (eq-eqb b u f)))))

  not_third : 2 < arity_of op → c ≢ u
  not_third l f =
      absurd
      (false≢true
      (sym e
      ∙ or_right (ltb 0 (arity_of op) && eqb a u) _ (or_right (ltb 1 (arity_of op) && eqb b u) _ (and_from (ltb 2 (arity_of op)) (eqb c u) (lt-ltb 2 (arity_of op) l) (eq-eqb c u f)))))

-- a value doesn't matter to other terms than its users
far_value : (terms : List Term) (values : List ℕ) (u v t : ℕ) (term : Term) → uses term u ≡ false → t ≢ u
    → value_among terms (set values u v) t term ≡ value_among terms values t term
far_value terms values u v t (Choice w) e n = get_or-set_other values u t v 0 n
far_value terms values u v t (Node op a b c w) e n =
    node_same terms (set values u v) values op a b c
    (λ l. get_or-set_other values u a v 0 (not_first op a b c u w e l))
    (λ l. get_or-set_other values u b v 0 (not_second op a b c u w e l))
    (λ l. get_or-set_other values u c v 0 (not_third op a b c u w e l))

-- a term that gets the value that the others say is in line
pub own_value : (terms : List Term) (values : List ℕ) (t v : ℕ) → AreTerms terms → t < length terms → length values ≡ length terms
    → v ≡ value_among terms values t (term_at terms t) → IsInLine terms (set values t v) t
own_value terms values t v h l n e = by_term (term_at terms t) refl
  where
    other : (a : ℕ) → a < t → get_or (set values t v) a 0 ≡ get_or values a 0
    other a m = get_or-set_other values t a v 0 (λ f. absurd (omega arith))

    by_term : (term : Term) → term_at terms t ≡ term → IsInLine terms (set values t v) t
    by_term (Choice w) f = ap (value_among terms (set values t v) t) (sym f)
    by_term (Node op a b c w) f =
        let p = placed terms t op a b c w h l f in
        get_or-set_same values t v 0 (omega (arith, n))
        ∙ e
        ∙ ap (value_among terms values t) f
        ∙ sym (node_same terms (set values t v) values op a b c (λ m. other a (p.a_before m)) (λ m. other b (p.b_before m)) (λ m. other c (p.c_before m)))
        ∙ ap (value_among terms (set values t v) t) (sym f)

-- a choice is in line
pub choice_in_line : (terms : List Term) (values : List ℕ) (t : ℕ) → is_choice (term_at terms t) ≡ true → IsInLine terms values t
choice_in_line terms values t e = by_term (term_at terms t) refl
  where
    by_term : (term : Term) → term_at terms t ≡ term → IsInLine terms values t
    by_term (Choice w) f = ap (value_among terms values t) (sym f)
    by_term (Node op a b c w) f = absurd (false≢true (ap is_choice (sym f) ∙ e))

fit_set : (terms : List Term) (values : List ℕ) (u v : ℕ) → AreFit terms values → v < 2 ^ bits_at terms u → AreFit terms (set values u v)
fit_set terms values u v h f t l = by_place (cases_eq t u)
  where
    by_place : (t ≡ u) ⊎ (t ≡ u → ⊥) → get_or (set values u v) t 0 < 2 ^ bits_at terms t
    by_place (inl e) =
        let m : u < length values = omega (arith, length-set values u v) in
        rw e (subst (λ x. x < 2 ^ bits_at terms u) (sym (get_or-set_same values u v 0 m)) f)
    by_place (inr n) = subst (λ x. x < 2 ^ bits_at terms t) (sym (get_or-set_other values u t v 0 n)) (h t (omega (arith, length-set values u v)))

are_set : (terms : List Term) (values : List ℕ) (old new : List Bool) (u v : ℕ) → AreValues terms values old → length new ≡ length old → v < 2 ^ bits_at terms u
    → AreValues terms (set values u v) new
are_set terms values old new u v h n f = record { count = length-set values u v ∙ h.count; marks_count = n ∙ h.marks_count; fit = fit_set terms values u v h.fit f }

-- a node that uses a term is among its users
user_at : (terms : List Term) (u t : ℕ) → t < length terms → uses (term_at terms t) u ≡ true → t ≢ u
    → (k : ℕ) × (k < length (users_of terms u)) × (get_or (users_of terms u) k 0 ≡ t)
user_at terms u t l e n = by_near (near_origin terms u (Forward t) (l, is_node (term_at terms t) e) (or_right (eqb t u) _ e))
  where
    is_node : (term : Term) → uses term u ≡ true → IsNodeTerm term
    is_node (Choice w) f = absurd (false≢true f)
    is_node (Node op a b c w) f = tt

    by_near : (t ≡ u) ⊎ (list_any (λ m. eqb m t) (users_of terms u) ≡ true) → (k : ℕ) × (k < length (users_of terms u)) × (get_or (users_of terms u) k 0 ≡ t)
    by_near (inl f) = absurd (n f)
    by_near (inr f) = let p = place_of (λ m. eqb m t) (users_of terms u) f in (p.0, p.1, eqb-true (get_or (users_of terms u) p.0 0) t p.2)

-- a node stands later than what it uses
used_later : (terms : List Term) (u t : ℕ) → AreTerms terms → t < length terms → uses (term_at terms t) u ≡ true → u < t
used_later terms u t h l e = by_term (term_at terms t) refl
  where
    by_place : (n j x : ℕ) → (j < n → x < t) → (ltb j n && eqb x u) ≡ true → u < t
    by_place n j x before g = let q = and_parts (ltb j n) (eqb x u) g in subst (λ y. y < t) (eqb-true x u q.1) (before (ltb-true j n q.0))

    by_term : (term : Term) → term_at terms t ≡ term → u < t
    by_term (Choice w) f = absurd (false≢true (ap (λ x. uses x u) (sym f) ∙ e))
    by_term (Node op a b c w) f =
        let p = placed terms t op a b c w h l f in
        ⊎_elim (by_place (arity_of op) 0 a p.a_before)
        (λ (g : ((ltb 1 (arity_of op) && eqb b u) || (ltb 2 (arity_of op) && eqb c u)) ≡ true).
        ⊎_elim (by_place (arity_of op) 1 b p.b_before) (by_place (arity_of op) 2 c p.c_before) (or_cases (ltb 1 (arity_of op) && eqb b u) _ g))
        (or_cases (ltb 0 (arity_of op) && eqb a u) _ (ap (λ x. uses x u) (sym f) ∙ e))

-- users stand later than what they use
pub user_later : (terms : List Term) (u k : ℕ) → AreTerms terms → u < length terms → k < length (users_of terms u) → u < get_or (users_of terms u) k 0
user_later terms u k h l m =
    used_later terms u (get_or (users_of terms u) k 0) h (user_in terms u k m) (filter_passes (λ n. uses (term_at terms n) u) (range_with_len 0 (length terms)) k 0 m)

-- the marks up to a term are as they were, where its users are marked
pub marks_before : (terms : List Term) (u t : ℕ) (old new : List Bool) → AreTerms terms → u < length terms → AreMarked (users_of terms u) old new → t ≤ u → get_or new t false ≡ get_or old t false
marks_before terms u t old new h l m i =
    m.others t (λ k d j e.
    let r = user_later terms u k h l j in
    let f : get_or (users_of terms u) k 0 ≡ t = get_or_default (users_of terms u) k 0 d j ∙ e in
    absurd (omega arith))

-- where a value changes, and its users are marked, each term is marked or in line, but for that one
pub changed_seen : (terms : List Term) (values : List ℕ) (old new : List Bool) (u v : ℕ) → AreSeenToBut terms values old u → v < 2 ^ bits_at terms u
    → AreMarked (users_of terms u) old new → AreSeenToBut terms (set values u v) new u
changed_seen terms values old new u v h f m = record {
  are = are_set terms values old new u v h.are m.count f;
  each = λ t l n. by_use t l n (cases_Bool (uses (term_at terms t) u));
}
  where
    by_before : (t : ℕ) → t ≢ u → uses (term_at terms t) u ≡ false → IsSeenTo terms values old t → IsSeenTo terms (set values u v) new t
    by_before t n e (inl k) = inl (m.kept t k)
    by_before t n e (inr k) = inr (get_or-set_other values u t v 0 n ∙ k ∙ sym (far_value terms values u v t (term_at terms t) e n))

    by_use : (t : ℕ) → t < length terms → t ≢ u → (uses (term_at terms t) u ≡ true) ⊎ (uses (term_at terms t) u ≡ false) → IsSeenTo terms (set values u v) new t
    by_use t l n (inl e) = let p = user_at terms u t l e n in inl (subst (λ x. get_or new x false ≡ true) p.2 (m.marked p.0 0 p.1))
    by_use t l n (inr e) = by_before t n e (h.each t l n)

pub but_one : (terms : List Term) (values : List ℕ) (marks : List Bool) (u : ℕ) → AreSeenTo terms values marks → AreSeenToBut terms values marks u
but_one terms values marks u h = record { are = h.are; each = λ t l n. h.each t l }

-- a term's mark is taken
pub unmarked_one : (terms : List Term) (values : List ℕ) (marks : List Bool) (u : ℕ) → AreSeenTo terms values marks → AreSeenToBut terms values (set marks u false) u
unmarked_one terms values marks u h = record {
  are = record { count = h.are.count; marks_count = length-set marks u false ∙ h.are.marks_count; fit = h.are.fit };
  each = λ t l n. either t n (h.each t l);
}
  where
    either : (t : ℕ) → t ≢ u → IsSeenTo terms values marks t → IsSeenTo terms values (set marks u false) t
    either t n (inl k) = inl (get_or-set_other marks u t false false n ∙ k)
    either t n (inr k) = inr k

pub all_seen : (terms : List Term) (values : List ℕ) (marks : List Bool) (u : ℕ) → AreSeenToBut terms values marks u → IsInLine terms values u → AreSeenTo terms values marks
all_seen terms values marks u h o = record { are = h.are; each = λ t l. either t l (cases_eq t u) }
  where
    either : (t : ℕ) → t < length terms → (t ≡ u) ⊎ (t ≡ u → ⊥) → IsSeenTo terms values marks t
    either t l (inl e) = inr (subst (IsInLine terms values) (sym e) o)
    either t l (inr n) = h.each t l n

-- no choice's value changes where a term gets the value that the others say
pub choices_kept : (terms : List Term) (values : List ℕ) (u v t : ℕ) → u < length values → v ≡ value_among terms values u (term_at terms u) → is_choice (term_at terms t) ≡ true
    → get_or (set values u v) t 0 ≡ get_or values t 0
choices_kept terms values u v t l e c = either (cases_eq t u)
  where
    by_term : (term : Term) → term_at terms t ≡ term → t ≡ u → v ≡ get_or values t 0
    by_term (Choice w) f g = e ∙ ap (λ x. value_among terms values x (term_at terms x)) (sym g) ∙ ap (value_among terms values t) f
    by_term (Node op a b d w) f g = absurd (false≢true (ap is_choice (sym f) ∙ c))

    either : (t ≡ u) ⊎ (t ≡ u → ⊥) → get_or (set values u v) t 0 ≡ get_or values t 0
    either (inl g) = ap (λ x. get_or (set values u v) x 0) g ∙ get_or-set_same values u v 0 l ∙ by_term (term_at terms t) refl g
    either (inr n) = get_or-set_other values u t v 0 n

-- a term before which none is marked loses its mark
pub none_before : (marks : List Bool) (u n : ℕ) → u < length marks → HasNone marks 0 u → n < u + 1 → get_or (set marks u false) n false ≡ false
none_before marks u n l h m = either (cases_eq n u)
  where
    either : (n ≡ u) ⊎ (n ≡ u → ⊥) → get_or (set marks u false) n false ≡ false
    either (inl e) = ap (λ k. get_or (set marks u false) k false) e ∙ get_or-set_same marks u false false l
    either (inr d) = get_or-set_other marks u n false false d ∙ h n (omega arith) (omega (arith, d))

-- functions that agree on the elements
pub map_same : (f g : ℕ → ℕ) (xs : List ℕ) → ((k : ℕ) → k < length xs → f (get_or xs k 0) ≡ g (get_or xs k 0)) → map f xs ≡ map g xs
map_same f g [] h = refl
map_same f g (x ∷ xs) h = two (λ y ys. y ∷ ys) (h zero (omega arith)) (map_same f g xs (λ k l. h (suc k) (omega arith)))

-- and that agree on all but one
map_changed : (f g : ℕ → ℕ) (xs : List ℕ) (k v : ℕ) → k < length xs → g (get_or xs k 0) ≡ v → ((j : ℕ) → j < length xs → j ≢ k → g (get_or xs j 0) ≡ f (get_or xs j 0)) → map g xs ≡ set (map f xs) k v
map_changed f g [] k v l e h = absurd (omega arith)
map_changed f g (x ∷ xs) zero v l e h = two (λ y ys. y ∷ ys) e (map_same g f xs (λ j m. h (suc j) (omega arith) (λ n. absurd (omega arith))))
map_changed f g (x ∷ xs) (suc k) v l e h =
    two (λ y ys. y ∷ ys) (h zero (omega arith) (λ n. absurd (omega arith))) (map_changed f g xs k v (omega arith) e (λ j m d. h (suc j) (omega arith) (λ n. absurd (d (omega arith)))))

-- the numbers stay where the choices' values do
pub numbers_same : (terms : List Term) (values others : List ℕ) → ((t : ℕ) → is_choice (term_at terms t) ≡ true → get_or values t 0 ≡ get_or others t 0) → numbers_of terms values ≡ numbers_of terms others
numbers_same terms values others h = map_same (λ t. get_or values t 0) (λ t. get_or others t 0) (choices_of terms) (λ k l. h (get_or (choices_of terms) k 0) (choice_stands terms k l).1)

-- and one changes where a choice gets another value
pub numbers_set : (terms : List Term) (values : List ℕ) (k u v : ℕ) → length values ≡ length terms → k < length (choices_of terms) → u ≡ get_or (choices_of terms) k 0
    → numbers_of terms (set values u v) ≡ set (numbers_of terms values) k v
numbers_set terms values k u v n l e =
    let s = choice_stands terms k l in
    map_changed (λ t. get_or values t 0) (λ t. get_or (set values u v) t 0) (choices_of terms) k v l
    (ap (λ t. get_or (set values u v) t 0) (sym e) ∙ get_or-set_same values u v 0 (omega (arith, e, n, s.0)))
    (λ j m d.
    get_or-set_other values u (get_or (choices_of terms) j 0) v 0
    (λ g. absurd (d (sym (choice_stands terms j m).2 ∙ ap (choice_at terms) (g ∙ e) ∙ s.2))))

-- ---- values in line are those of the assignment
module _ (terms : List Term) (right : AreTerms terms) where
  -- what the values say, of those before the term
  early : (values numbers : List ℕ) (t : ℕ) → t < length terms → (is_choice (term_at terms t) ≡ true → get_or values t 0 ≡ get_or numbers (choice_at terms t) 0)
      → value_among terms values t (term_at terms t) ≡ value_of_term terms numbers (take t values) t (term_at terms t)
  early values numbers t l h = by_term (term_at terms t) refl
    where
      by_term : (term : Term) → term_at terms t ≡ term → value_among terms values t term ≡ value_of_term terms numbers (take t values) t term
      by_term (Choice w) f = h (ap is_choice f)
      by_term (Node op a b c w) f =
          let p = placed terms t op a b c w right l f in
          node_same terms values (take t values) op a b c
          (λ m. sym (get_or-take t values a 0 (p.a_before m)))
          (λ m. sym (get_or-take t values b 0 (p.b_before m)))
          (λ m. sym (get_or-take t values c 0 (p.c_before m)))

  -- the value of a choice
  number_at : (values : List ℕ) (t : ℕ) → t < length terms → is_choice (term_at terms t) ≡ true → get_or values t 0 ≡ get_or (numbers_of terms values) (choice_at terms t) 0
  number_at values t l e =
      let p = choice_there terms t l e in
      sym (get_or-map (λ u. get_or values u 0) (choices_of terms) (choice_at terms t) 0 0 p.0 ∙ ap (λ u. get_or values u 0) p.1)

  first_in_line : (values : List ℕ) → length values ≡ length terms → ((t : ℕ) → t < length terms → IsInLine terms values t)
      → (t : ℕ) → t ≤ length terms → take t values ≡ first_values terms (numbers_of terms values) t
  first_in_line values n h zero l = sym (first_values-none terms (numbers_of terms values))
  first_in_line values n h (suc t) l =
      let numbers = numbers_of terms values in
      let e : t + 1 ≡ suc t = omega arith in
      let r = first_in_line values n h t (omega arith) in
      let m : t < length terms = omega arith in
      ap (λ k. take k values) (sym e)
      ∙ take_more values t 0 (omega (arith, n))
      ∙ ap (λ x. take t values ++ x ∷ []) (h t m ∙ early values numbers t m (number_at values t m))
      ∙ ap (λ (xs : List ℕ). xs ++ value_of_term terms numbers xs t (term_at terms t) ∷ []) r
      ∙ sym (first_values-next terms numbers t)

  pub values_in_line : (values : List ℕ) → length values ≡ length terms → ((t : ℕ) → t < length terms → IsInLine terms values t) → values ≡ values_of terms (numbers_of terms values)
  values_in_line values n h =
      subst (λ k. values ≡ take k values) n (sym (take-length values)) ∙ first_in_line values n h (length terms) (omega arith)

  -- and those of an assignment are in line
  pub in_line_first : (numbers : List ℕ) (t : ℕ) → t < length terms → IsInLine terms (values_of terms numbers) t
  in_line_first numbers t l = by_term (term_at terms t) refl
    where
      by_term : (term : Term) → term_at terms t ≡ term → IsInLine terms (values_of terms numbers) t
      by_term (Choice w) f = ap (value_among terms (values_of terms numbers) t) (sym f)
      by_term (Node op a b c w) f =
          value_is terms numbers t l
          ∙ sym (early (values_of terms numbers) numbers t l (λ e. absurd (false≢true (ap is_choice (sym f) ∙ e))))

-- numbers that are all 0 are an assignment
pub zeros_are : (terms : List Term) → IsAssignment terms (replicate (length (choices_of terms)) 0)
zeros_are terms = record {
  count = length-replicate (length (choices_of terms)) 0;
  fit = λ k l.
      subst (λ n. n < 2 ^ bits_at terms (get_or (choices_of terms) k 0))
      (sym (get_or-replicate (length (choices_of terms)) k 0 0 (omega (arith, length-replicate {A = ℕ} (length (choices_of terms)) 0))))
      (pow_pos (bits_at terms (get_or (choices_of terms) k 0)));
}

-- the values of an assignment, where nothing is marked
pub are_first : (terms : List Term) (numbers values : List ℕ) (marks : List Bool) → AreTerms terms → IsAssignment terms numbers → values ≡ values_of terms numbers → marks ≡ replicate (length terms) false
    → AreValues terms values marks × ((t : ℕ) → t < length terms → IsInLine terms values t) × HasNone marks 0 (length terms)
are_first terms numbers values marks right i e m = (
  record {
    count = ap length e ∙ length-values_of terms numbers;
    marks_count = ap length m ∙ length-replicate (length terms) false;
    fit = subst (AreFit terms) (sym e) (values_fit terms numbers right i);
  },
  λ t l. subst (λ (xs : List ℕ). IsInLine terms xs t) (sym e) (in_line_first terms right numbers t l),
  λ n k l. ap (λ (xs : List Bool). get_or xs n false) m ∙ get_or-replicate (length terms) n false false l,
)
