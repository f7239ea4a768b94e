-- A walk leaves a fork by a side exactly where the term of that edge is 1.
use Rattle.std.proofs.Common.{◌≡◌, ℕ, zero, suc, ◌+◌, ◌<◌, Bool, true, false, cond, not, ◌&&◌, ◌||◌, List, [], ◌∷◌, length, Some, refl, sym, ap, ◌∙◌, subst, arith}
use Rattle.std.specs.Prelude.{slice_get}
use Rattle.std.proofs.lemmas.Bool.{eq-eqb, ne_eqb, false≢true}
use Rattle.dt_model.specs.ModelData.{ActData, bind, read, branch, fault, done}
use Rattle.dt_walk.specs.Walks.{RunData}
use Rattle.dt_request.specs.Lists.{is_fork}
use Rattle.dt_satisfy.specs.Demands.{leaves, is_side}
use Rattle.dt_forms.specs.Meaning.{Valuation, is_one}
use Rattle.dt_table.specs.Told.{told, told_step}
use Rattle.dt_table.specs.Outs.{out_at, edge_at}
use Rattle.dt_table.specs.declared.out.Out.{Out}
use Rattle.dt_table.proofs.Flagged.{AllOuts, IsFlagged}

-- the side of a fork, where it is left by `then` or isn't
abbrev pub side_is : Bool → Bool → Bool
side_is true by_then = by_then
side_is false by_then = not by_then

side_same : (n : ℕ) (b t : Bool) → is_side n b (record { node = n; by_then = t }) ≡ side_is b t
side_same n true t = ap (λ (q : Bool). q && t) (eq-eqb n n refl)
side_same n false t = ap (λ (q : Bool). q && not t) (eq-eqb n n refl)

side_apart : (k n : ℕ) (b t : Bool) → (k ≡ n → ⊥) → is_side n b (record { node = k; by_then = t }) ≡ false
side_apart k n true t ne = ap (λ (q : Bool). q && t) (ne_eqb k n ne)
side_apart k n false t ne = ap (λ (q : Bool). q && not t) (ne_eqb k n ne)

-- the step itself leaves node n by this side
abbrev side_left : Valuation → ℕ → Bool → ℕ → ActData → Out → Bool
side_left v n b k (read x e g t f) o = is_side n b (record { node = k; by_then = is_one (v o.by_then) })
side_left v n b k (branch e t f) o = is_side n b (record { node = k; by_then = is_one (v o.by_then) })
side_left v n b k _ o = false

step_leaves : (v : Valuation) (k : ℕ) (p : ActData) (o : Out) (r : RunData) (n : ℕ) (b : Bool) → leaves (told_step v k p o r) n b ≡ side_left v n b k p o || leaves r n b
step_leaves v k (bind x e to) o r n b = refl
step_leaves v k (read x e g t f) o r n b = refl
step_leaves v k (branch e t f) o r n b = refl
step_leaves v k (fault c) o r n b = refl
step_leaves v k (done e p) o r n b = refl

left_apart : (v : Valuation) (k n : ℕ) (b : Bool) (p : ActData) (o : Out) → (k ≡ n → ⊥) → side_left v n b k p o ≡ false
left_apart v k n b (bind x e to) o ne = refl
left_apart v k n b (read x e g t f) o ne = side_apart k n b (is_one (v o.by_then)) ne
left_apart v k n b (branch e t f) o ne = side_apart k n b (is_one (v o.by_then)) ne
left_apart v k n b (fault c) o ne = refl
left_apart v k n b (done e p) o ne = refl

left_same : (v : Valuation) (n : ℕ) (b : Bool) (p : ActData) (o : Out) → is_fork p ≡ true → side_left v n b n p o ≡ side_is b (is_one (v o.by_then))
left_same v n b (bind x e to) o h = absurd (false≢true h)
left_same v n b (read x e g t f) o h = side_same n b (is_one (v o.by_then))
left_same v n b (branch e t f) o h = side_same n b (is_one (v o.by_then))
left_same v n b (fault c) o h = absurd (false≢true h)
left_same v n b (done e p) o h = absurd (false≢true h)

leaves_if : (v : Valuation) (k : ℕ) (p : ActData) (o : Out) (r : RunData) (c : Bool) (n : ℕ) (b : Bool) → leaves (cond c (told_step v k p o r) r) n b ≡ (c && side_left v n b k p o) || leaves r n b
leaves_if v k p o r true n b = step_leaves v k p o r n b
leaves_if v k p o r false n b = refl

none_apart : (c s l : Bool) → s ≡ false → (c && s) || l ≡ l
none_apart true s l e = ap (λ (q : Bool). q || l) e
none_apart false s l e = refl

-- no earlier node is left
not_left : (v : Valuation) (ps : List ActData) (os : List Out) (k n : ℕ) (b : Bool) → n < k → leaves (told v ps os k) n b ≡ false
not_left v [] os k n b l = refl
not_left v (p ∷ ps) [] k n b l = refl
not_left v (p ∷ ps) (o ∷ os) k n b l =
    let c = is_one (v o.come) in
    leaves_if v k p o (told v ps os (k + 1)) c n b
    ∙ none_apart c (side_left v n b k p o) (leaves (told v ps os (k + 1)) n b) (left_apart v k n b p o (λ e. omega (arith, l, e)))
    ∙ not_left v ps os (k + 1) n b (omega (arith, l))

or_none : (c s l : Bool) → l ≡ false → (c && s) || l ≡ (c && s)
or_none true true l e = refl
or_none true false l e = e
or_none false s l e = e

-- what the walk leaves at the j-th node from here
left_at : (v : Valuation) (ps : List ActData) (os : List Out) (k j : ℕ) (b : Bool) (p : ActData) → length os ≡ length ps → slice_get ps j ≡ Some p → is_fork p ≡ true
    → leaves (told v ps os k) (k + j) b ≡ (is_one (v (out_at os j).come) && side_is b (is_one (v (out_at os j).by_then)))
left_at v [] os k j b q e s h = absurd (cc)
left_at v (p ∷ ps) [] k j b q e s h = absurd (omega (arith, e))
left_at v (p ∷ ps) (o ∷ os) k zero b q e s h =
    let z : k + 0 ≡ k = omega arith in
    let c = is_one (v o.come) in
    let same : p ≡ q = cc in
    let f : is_fork p ≡ true = ap is_fork same ∙ h in
    ap (λ (n : ℕ). leaves (told v (p ∷ ps) (o ∷ os) k) n b) z
    ∙ leaves_if v k p o (told v ps os (k + 1)) c k b
    ∙ or_none c (side_left v k b k p o) (leaves (told v ps os (k + 1)) k b) (not_left v ps os (k + 1) k b (omega arith))
    ∙ ap (λ (s : Bool). c && s) (left_same v k b p o f)
left_at v (p ∷ ps) (o ∷ os) k (suc j) b q e s h =
    let z : k + suc j ≡ k + 1 + j = omega arith in
    let c = is_one (v o.come) in
    ap (λ (n : ℕ). leaves (told v (p ∷ ps) (o ∷ os) k) n b) z
    ∙ leaves_if v k p o (told v ps os (k + 1)) c (k + 1 + j) b
    ∙ none_apart c (side_left v (k + 1 + j) b k p o) (leaves (told v ps os (k + 1)) (k + 1 + j) b) (left_apart v k (k + 1 + j) b p o (λ i. omega (arith, i)))
    ∙ left_at v ps os (k + 1) j b q (omega (arith, e)) s h

-- the fact of one node
pub out_fact : (fact : ActData → Out → Type 0) (ps : List ActData) (os : List Out) (j : ℕ) (p : ActData) → AllOuts fact ps os → length os ≡ length ps → slice_get ps j ≡ Some p → fact p (out_at os j)
out_fact fact [] os j p h e s = absurd (cc)
out_fact fact (q ∷ ps) [] j p h e s = absurd (omega (arith, e))
out_fact fact (q ∷ ps) (o ∷ os) zero p h e s = let same : q ≡ p = cc in subst (λ (x : ActData). fact x o) same h.0
out_fact fact (q ∷ ps) (o ∷ os) (suc j) p h e s = out_fact fact ps os j p h.1 (omega (arith, e)) s

come_and : (c t : Bool) → (t ≡ true → c ≡ true) → (c && t) ≡ t
come_and true t h = refl
come_and false true h = h refl
come_and false false h = refl

pub leaves_told : (v : Valuation) (address : ℕ) (ps : List ActData) (os : List Out) (n : ℕ) (b : Bool) (p : ActData) → AllOuts (IsFlagged v address) ps os → length os ≡ length ps → slice_get ps n ≡ Some p → is_fork p ≡ true
    → leaves (told v ps os 0) n b ≡ is_one (v (edge_at b (out_at os n)))
leaves_told v address ps os n b p h e s f =
    let z : 0 + n ≡ n = omega arith in
    let x = out_fact (IsFlagged v address) ps os n p h e s in
    let o = out_at os n in
    ap (λ (m : ℕ). leaves (told v ps os 0) m b) (sym z) ∙ left_at v ps os 0 n b p e s f ∙ by_side b x
  where
    by_side : (b : Bool) → IsFlagged v address p (out_at os n) → (is_one (v (out_at os n).come) && side_is b (is_one (v (out_at os n).by_then))) ≡ is_one (v (edge_at b (out_at os n)))
    by_side true x = come_and (is_one (v (out_at os n).come)) (is_one (v (out_at os n).by_then)) x.comes
    by_side false x = sym (x.splits f)
