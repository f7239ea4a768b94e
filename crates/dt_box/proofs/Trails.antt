-- What undoing gives.
use Rattle.std.proofs.Common.{◌≡◌, ◌≢◌, ℕ, zero, suc, ◌<◌, ◌≤◌, List, [], ◌∷◌, ◌++◌, length, drop, take, get_or, set, refl, sym, ap, ◌∙◌, subst, ⊎_elim, arith, length-append, length-set, get_or-set_same, get_or-set_other}
use Rattle.std.proofs.Math.ListN.{drop_of_length-le}
use Rattle.std.proofs.lemmas.List.{take-append-le}
use Rattle.std.proofs.Math.Seq.{take-append_seam, take-length}
use Rattle.std.specs.Prelude.{All, Result, Ok, Err, IfOk, OnOk, OnErr}
use Rattle.std.proofs.lemmas.List.Elements.{All-append, All-cons, All-nil, All-drop}
use Rattle.std.proofs.lemmas.Bool.{cases_eq}
use Rattle.dt_lemmas.proofs.Equalities.{two}
use Rattle.dt_bits.specs.Bits.{width}
use Rattle.dt_box.specs.Cells.{AreDomains}
use Rattle.dt_domain.specs.Domain.{DomainOps}
use Rattle.dt_box.specs.declared.step.Changed.{Changed}
use Rattle.dt_box.specs.declared.step.Changed.TheVariants.{No, Narrowed, BitKnown, Empty}
use Rattle.dt_box.specs.Changes.{IsChange}
use Rattle.dt_box.specs.Trails.{terms_of, undone, back, with_change, IsKept}

take_take : {X : Type 0} (xs : List X) (n m : ℕ) → n ≤ m → take n (take m xs) ≡ take n xs
take_take xs zero m l = refl
take_take xs (suc n) zero l = absurd (omega arith)
take_take [] (suc n) (suc m) l = refl
take_take (x ∷ xs) (suc n) (suc m) l = ap (λ ys. x ∷ ys) (take_take xs n m (omega arith))

set_same : {X : Type 0} (xs : List X) (t : ℕ) (d new : X) → t < length xs → new ≡ get_or xs t d → set xs t new ≡ xs
set_same [] t d new l e = absurd (omega arith)
set_same (x ∷ xs) zero d new l e = ap (λ y. y ∷ xs) e
set_same (x ∷ xs) (suc t) d new l e = ap (λ ys. x ∷ ys) (set_same xs t d new (omega arith) e)

module _ {D : Type 0} where
  pub undone_none : (cells : List D) → undone cells [] ≡ cells
  unfolding undone
  undone_none cells = refl

  pub undone_more : (cells : List D) (change : ℕ × D) (later : List (ℕ × D)) → undone cells (change ∷ later) ≡ set (undone cells later) change.0 change.1
  unfolding undone
  undone_more cells change later = refl

  pub length-undone : (cells : List D) (changes : List (ℕ × D)) → length (undone cells changes) ≡ length cells
  length-undone cells [] = ap length (undone_none cells)
  length-undone cells (change ∷ later) = ap length (undone_more cells change later) ∙ length-set (undone cells later) change.0 change.1 ∙ length-undone cells later

  -- the latest change is undone first
  pub undone_last : (cells : List D) (trail : List (ℕ × D)) (t : ℕ) (d : D) → undone cells (trail ++ (t, d) ∷ []) ≡ undone (set cells t d) trail
  undone_last cells [] t d = undone_more cells (t, d) [] ∙ ap (λ c. set c t d) (undone_none cells) ∙ sym (undone_none (set cells t d))
  undone_last cells (change ∷ trail) t d =
      undone_more cells change (trail ++ (t, d) ∷ [])
      ∙ ap (λ c. set c change.0 change.1) (undone_last cells trail t d)
      ∙ sym (undone_more (set cells t d) change trail)

  pub drop_append : (xs ys : List (ℕ × D)) (n : ℕ) → n ≤ length xs → drop n (xs ++ ys) ≡ drop n xs ++ ys
  drop_append xs ys zero l = refl
  drop_append [] ys (suc n) l = absurd (omega arith)
  drop_append (x ∷ xs) ys (suc n) l = drop_append xs ys n (omega arith)

  pub back_last : (cells : List D) (trail : List (ℕ × D)) (t n : ℕ) (d : D) → n ≤ length trail → back cells (trail ++ (t, d) ∷ []) n ≡ back (set cells t d) trail n
  back_last cells trail t n d l = ap (undone cells) (drop_append trail ((t, d) ∷ []) n l) ∙ undone_last cells (drop n trail) t d

  -- at the trail's own length nothing is undone
  pub back_whole : (cells : List D) (trail : List (ℕ × D)) → back cells trail (length trail) ≡ cells
  back_whole cells trail = ap (undone cells) (drop_of_length-le trail (omega arith)) ∙ undone_none cells

  set_back : (cells : List D) (t : ℕ) (new d : D) → t < length cells → set (set cells t new) t (get_or cells t d) ≡ cells
  set_back [] t new d l = absurd (omega arith)
  set_back (x ∷ cells) zero new d l = refl
  set_back (x ∷ cells) (suc t) new d l = ap (λ c. x ∷ c) (set_back cells t new d (omega arith))

  -- a change that is kept doesn't alter what was before
  pub back_kept : (cells : List D) (trail : List (ℕ × D)) (t n : ℕ) (new d : D) → n ≤ length trail → t < length cells
      → back (set cells t new) (trail ++ (t, get_or cells t d) ∷ []) n ≡ back cells trail n
  back_kept cells trail t n new d l m = back_last (set cells t new) trail t n (get_or cells t d) l ∙ ap (λ c. back c trail n) (set_back cells t new d m)

  undone_append : (cells : List D) (early late : List (ℕ × D)) → undone cells (early ++ late) ≡ undone (undone cells late) early
  undone_append cells [] late = sym (undone_none (undone cells late))
  undone_append cells (change ∷ early) late =
      undone_more cells change (early ++ late) ∙ ap (λ c. set c change.0 change.1) (undone_append cells early late) ∙ sym (undone_more (undone cells late) change early)

  drop_parts : (xs : List (ℕ × D)) (n m : ℕ) → n ≤ m → m ≤ length xs → drop n xs ≡ drop n (take m xs) ++ drop m xs
  drop_parts xs zero zero l k = refl
  drop_parts [] zero (suc m) l k = refl
  drop_parts (x ∷ xs) zero (suc m) l k = ap (λ ys. x ∷ ys) (drop_parts xs zero m (omega arith) (omega arith))
  drop_parts xs (suc n) zero l k = absurd (omega arith)
  drop_parts [] (suc n) (suc m) l k = refl
  drop_parts (x ∷ xs) (suc n) (suc m) l k = drop_parts xs n m (omega arith) (omega arith)

  -- going back further, after going back
  pub back_twice : (cells : List D) (trail : List (ℕ × D)) (n m : ℕ) → n ≤ m → m ≤ length trail → back (back cells trail m) (take m trail) n ≡ back cells trail n
  back_twice cells trail n m l k = sym (ap (undone cells) (drop_parts trail n m l k) ∙ undone_append cells (drop n (take m trail)) (drop m trail))

  -- the latest change is undone
  pub back_popped : (cells : List D) (items rest : List (ℕ × D)) (change : ℕ × D) (n : ℕ) → items ≡ rest ++ change ∷ [] → n ≤ length rest → back (set cells change.0 change.1) rest n ≡ back cells items n
  back_popped cells items rest change n e l = sym (ap (λ xs. back cells xs n) e ∙ back_last cells rest change.0 n change.1 l)

  pub take_popped : (items rest : List (ℕ × D)) (change : ℕ × D) (n : ℕ) → items ≡ rest ++ change ∷ [] → n ≤ length rest → take n rest ≡ take n items
  take_popped items rest change n e l = sym (ap (take n) e ∙ take-append-le n rest (change ∷ []) l)

  pub back_done : (cells : List D) (items : List (ℕ × D)) (n : ℕ) → length items ≤ n → back cells items n ≡ cells
  back_done cells items n l = ap (undone cells) (drop_of_length-le items l) ∙ undone_none cells

  -- where no change between two lengths of the trail is of a term, its cell was the same at both
  pub same_between : (cells : List D) (trail : List (ℕ × D)) (m n t : ℕ) (x : D) → m ≤ n → ((k : ℕ) → m ≤ k → k < n → get_or (terms_of trail) k 0 ≢ t)
      → get_or (back cells trail m) t x ≡ get_or (back cells trail n) t x
  same_between cells trail zero zero t x l h = refl
  same_between cells [] zero (suc n) t x l h = refl
  same_between cells (change ∷ trail) zero (suc n) t x l h =
      ap (λ ds. get_or ds t x) (undone_more cells change trail)
      ∙ get_or-set_other (undone cells trail) change.0 t change.1 x (λ f. absurd (h zero (omega arith) (omega arith) (sym f)))
      ∙ same_between cells trail zero n t x (omega arith) (λ k a b. h (suc k) (omega arith) (omega arith))
  same_between cells trail (suc m) zero t x l h = absurd (omega arith)
  same_between cells [] (suc m) (suc n) t x l h = refl
  same_between cells (change ∷ trail) (suc m) (suc n) t x l h = same_between cells trail m n t x (omega arith) (λ k a b. h (suc k) (omega arith) (omega arith))

  -- ---- what was kept
  pub kept_none : (cells : List D) (trail : List (ℕ × D)) → IsKept cells trail cells trail
  kept_none cells trail = record {
    within = omega arith;
    earlier = take-length trail;
    back = back_whole cells trail;
    terms = λ a. a;
  }

  kept_one : (cells : List D) (trail : List (ℕ × D)) (t : ℕ) (new d : D) → t < length cells → IsKept cells trail (set cells t new) (trail ++ (t, get_or cells t d) ∷ [])
  kept_one cells trail t new d l = record {
    within = omega (arith, length-append trail ((t, get_or cells t d) ∷ []));
    earlier = take-append_seam trail ((t, get_or cells t d) ∷ []);
    back = back_kept cells trail t (length trail) new d (omega arith) l ∙ back_whole cells trail;
    terms = λ a. All-append (λ (change : ℕ × D). change.0 < length cells) trail ((t, get_or cells t d) ∷ []) a (All-cons (λ (change : ℕ × D). change.0 < length cells) (t, get_or cells t d) [] l (All-nil (λ (change : ℕ × D). change.0 < length cells)));
  }

  pub kept_more : (a : List D) (s : List (ℕ × D)) (b : List D) (t : List (ℕ × D)) (c : List D) (u : List (ℕ × D)) → length b ≡ length a → IsKept a s b t → IsKept b t c u → IsKept a s c u
  kept_more a s b t c u n h k = record {
    within = omega (arith, h.within, k.within);
    earlier = sym (take_take u (length s) (length t) h.within) ∙ ap (take (length s)) k.earlier ∙ h.earlier;
    back = sym (back_twice c u (length s) (length t) h.within k.within) ∙ two (λ x y. back x y (length s)) k.back k.earlier ∙ h.back;
    terms = λ x. subst (λ m. All (λ change. change.0 < m) u) n (k.terms (subst (λ m. All (λ change. change.0 < m) t) (sym n) (h.terms x)));
  }

  -- further back it leads to the same cells
  pub kept_back : (a : List D) (s : List (ℕ × D)) (c : List D) (u : List (ℕ × D)) (n : ℕ) → IsKept a s c u → n ≤ length s → back c u n ≡ back a s n
  kept_back a s c u n h l = sym (back_twice c u n (length s) l h.within) ∙ two (λ x y. back x y n) h.back h.earlier

module _ {D : Type 0} (ops : DomainOps D) where
  -- what a change keeps
  pub kept_change : (cells : List D) (trail : List (ℕ × D)) (t : ℕ) (new d : D) (changed : Changed) → t < length cells → IsChange ops (get_or cells t d) new changed
      → IsKept cells trail (set cells t new) (with_change changed t (get_or cells t d) trail)
  kept_change cells trail t new d No l h = subst (λ c. IsKept cells trail c trail) (sym (set_same cells t d new l h.1)) (kept_none cells trail)
  kept_change cells trail t new d Narrowed l h = kept_one cells trail t new d l
  kept_change cells trail t new d BitKnown l h = kept_one cells trail t new d l
  kept_change cells trail t new d Empty l h = kept_one cells trail t new d l

  -- what is kept where the new cell is put, or where there is no memory and the cell stays
  pub kept_put : {E : Type 0} (cells : List D) (trail longer : List (ℕ × D)) (t : ℕ) (new old d : D) (r : Result Changed E) → t < length cells → old ≡ get_or cells t d
      → IfOk r (λ changed. IsChange ops old new changed) → IfOk r (λ changed. longer ≡ with_change changed t old trail) → OnErr r ((new ≡ old) × (longer ≡ trail))
      → IsKept cells trail (set cells t new) longer
  kept_put cells trail longer t new old d (Ok changed) l e h k n =
      subst (IsKept cells trail (set cells t new)) (sym (k ∙ ap (λ o. with_change changed t o trail) e))
      (kept_change cells trail t new d changed l (subst (λ o. IsChange ops o new changed) e h))
  kept_put cells trail longer t new old d (Err f) l e h k n =
      subst (IsKept cells trail (set cells t new)) (sym n.1) (subst (λ ds. IsKept cells trail ds trail) (sym (set_same cells t d new l (n.0 ∙ e))) (kept_none cells trail))

  -- and these are cells in either case
  pub are_put : {E : Type 0} (P : List D → Type 0) (Q X : Type 0) (cells : List D) (t : ℕ) (new old made d : D) (r : Result Changed E) → t < length cells → old ≡ get_or cells t d
      → OnOk r Q → OnErr r ((new ≡ old) × X) → (Q → new ≡ made) → P cells → P (set cells t made) → P (set cells t new)
  are_put P Q X cells t new old made d (Ok changed) l e q n f a b = subst (λ m. P (set cells t m)) (sym (f q)) b
  are_put P Q X cells t new old made d (Err fault) l e q n f a b = subst P (sym (set_same cells t d new l (n.0 ∙ e))) a

  -- where a trail holds domains, so does a longer one
  pub change_domains : (trail : List (ℕ × D)) (t : ℕ) (d : D) (changed : Changed) → All (λ change. ops.IsDomain change.1) trail → ops.IsDomain d
      → All (λ change. ops.IsDomain change.1) (with_change changed t d trail)
  change_domains trail t d No a h = a
  change_domains trail t d Narrowed a h = All-append (λ (change : ℕ × D). ops.IsDomain change.1) trail ((t, d) ∷ []) a (All-cons (λ (change : ℕ × D). ops.IsDomain change.1) (t, d) [] h (All-nil (λ (change : ℕ × D). ops.IsDomain change.1)))
  change_domains trail t d BitKnown a h = All-append (λ (change : ℕ × D). ops.IsDomain change.1) trail ((t, d) ∷ []) a (All-cons (λ (change : ℕ × D). ops.IsDomain change.1) (t, d) [] h (All-nil (λ (change : ℕ × D). ops.IsDomain change.1)))
  change_domains trail t d Empty a h = All-append (λ (change : ℕ × D). ops.IsDomain change.1) trail ((t, d) ∷ []) a (All-cons (λ (change : ℕ × D). ops.IsDomain change.1) (t, d) [] h (All-nil (λ (change : ℕ × D). ops.IsDomain change.1)))

  undone_domains : (cells : List D) (changes : List (ℕ × D)) → AreDomains ops cells → All (λ change. ops.IsDomain change.1) changes → All (λ change. change.0 < length cells) changes
      → AreDomains ops (undone cells changes) × (length (undone cells changes) ≡ length cells)
  undone_domains cells [] h a b = (subst (AreDomains ops) (sym (undone_none cells)) h, ap length (undone_none cells))
  undone_domains cells (change ∷ later) h a b =
      let r = undone_domains cells later h (λ k d l. a (suc k) d (omega arith)) (λ k d l. b (suc k) d (omega arith)) in
      let e = undone_more cells change later in
      let l : change.0 < length cells = b 0 change (omega arith) in
      let i : ops.IsDomain change.1 = a 0 change (omega arith) in
      let n : length (set (undone cells later) change.0 change.1) ≡ length (undone cells later) = length-set (undone cells later) change.0 change.1 in
      let s : AreDomains ops (set (undone cells later) change.0 change.1) = record {
        count = omega (arith, r.0.count);
        each = λ t m.
            ⊎_elim
            (λ (f : t ≡ change.0). subst ops.IsDomain (sym (ap (λ u. get_or (set (undone cells later) change.0 change.1) u (ops.full (width 1))) f ∙ get_or-set_same (undone cells later) change.0 change.1 (ops.full (width 1)) (omega (arith, r.1)))) i)
            (λ (f : t ≡ change.0 → ⊥). subst ops.IsDomain (sym (get_or-set_other (undone cells later) change.0 t change.1 (ops.full (width 1)) f)) (r.0.each t (omega arith)))
            (cases_eq t change.0);
      } in
      (subst (AreDomains ops) (sym e) s, ap length e ∙ n ∙ r.1)

  pub back_domains : (cells : List D) (trail : List (ℕ × D)) (n : ℕ) → AreDomains ops cells → All (λ change. ops.IsDomain change.1) trail → All (λ change. change.0 < length cells) trail
      → AreDomains ops (back cells trail n)
  back_domains cells trail n h a b = (undone_domains cells (drop n trail) h (All-drop (λ (change : ℕ × D). ops.IsDomain change.1) n trail a) (All-drop (λ (change : ℕ × D). change.0 < length cells) n trail b)).0
