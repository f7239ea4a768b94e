-- The term of a node tells whether the walk visits it.
use Rattle.std.proofs.Common.{◌≡◌, ℕ, zero, suc, ◌+◌, ◌<◌, Bool, true, false, cond, not, ◌||◌, eqb, List, [], ◌∷◌, length, refl, ap, ◌∙◌, arith}
use Rattle.std.specs.List.{list_any}
use Rattle.std.proofs.lemmas.Bool.{eq-eqb, ne_eqb}
use Rattle.dt_model.specs.ModelData.{ActData}
use Rattle.dt_walk.specs.Walks.{RunData}
use Rattle.dt_satisfy.specs.Demands.{visits}
use Rattle.dt_forms.specs.Meaning.{Valuation, is_one}
use Rattle.dt_table.specs.declared.out.Out.{Out}
use Rattle.dt_table.specs.Told.{told, told_step}
use Rattle.dt_table.specs.Outs.{out_at}
use Rattle.dt_table.proofs.Nodes.{path_told}
use Rattle.dt_table.proofs.Ends.{AreTruths}
use Rattle.dt_forms.proofs.Lawful.{flag_one}

path_if : (v : Valuation) (k : ℕ) (p : ActData) (o : Out) (r : RunData) (b : Bool) (n : ℕ) → visits (cond b (told_step v k p o r) r) n ≡ cond b (eqb k n || visits r n) (visits r n)
path_if v k p o r true n = ap (λ (l : List ℕ). list_any (λ m. eqb m n) l) (path_told v k p o r)
path_if v k p o r false n = refl

-- no earlier node
not_before : (v : Valuation) (ps : List ActData) (os : List Out) (k n : ℕ) → n < k → visits (told v ps os k) n ≡ false
not_before v [] os k n l = refl
not_before v (p ∷ ps) [] k n l = refl
not_before v (p ∷ ps) (o ∷ os) k n l =
    path_if v k p o (told v ps os (k + 1)) (is_one (v o.come)) n ∙ by_come (is_one (v o.come)) (not_before v ps os (k + 1) n (omega (arith, l)))
  where
    by_come : (b : Bool) → visits (told v ps os (k + 1)) n ≡ false → cond b (eqb k n || visits (told v ps os (k + 1)) n) (visits (told v ps os (k + 1)) n) ≡ false
    by_come true h = ap (λ (b : Bool). b || visits (told v ps os (k + 1)) n) (ne_eqb k n (λ e. omega (arith, l, e))) ∙ h
    by_come false h = h

pub visited : (v : Valuation) (ps : List ActData) (os : List Out) (k j : ℕ) → length os ≡ length ps → j < length ps → visits (told v ps os k) (k + j) ≡ is_one (v (out_at os j).come)
visited v [] os k j e l = absurd (omega (arith, l))
visited v (p ∷ ps) [] k j e l = absurd (omega (arith, e))
visited v (p ∷ ps) (o ∷ os) k zero e l =
    let z : k + 0 ≡ k = omega arith in
    ap (visits (told v (p ∷ ps) (o ∷ os) k)) z ∙ path_if v k p o (told v ps os (k + 1)) (is_one (v o.come)) k ∙ by_come (is_one (v o.come))
  where
    by_come : (b : Bool) → cond b (eqb k k || visits (told v ps os (k + 1)) k) (visits (told v ps os (k + 1)) k) ≡ b
    by_come true = ap (λ (b : Bool). b || visits (told v ps os (k + 1)) k) (eq-eqb k k refl)
    by_come false = not_before v ps os (k + 1) k (omega arith)
visited v (p ∷ ps) (o ∷ os) k (suc j) e l =
    let z : k + suc j ≡ k + 1 + j = omega arith in
    ap (visits (told v (p ∷ ps) (o ∷ os) k)) z ∙ path_if v k p o (told v ps os (k + 1)) (is_one (v o.come)) (k + 1 + j) ∙ by_come (is_one (v o.come)) ∙ visited v ps os (k + 1) j (omega (arith, e)) (omega (arith, l))
  where
    by_come : (b : Bool) → cond b (eqb k (k + 1 + j) || visits (told v ps os (k + 1)) (k + 1 + j)) (visits (told v ps os (k + 1)) (k + 1 + j)) ≡ visits (told v ps os (k + 1)) (k + 1 + j)
    by_come true = ap (λ (b : Bool). b || visits (told v ps os (k + 1)) (k + 1 + j)) (ne_eqb k (k + 1 + j) (λ e. omega (arith, e)))
    by_come false = refl

pub away_at : (v : Valuation) (os : List Out) (n : ℕ) → AreTruths v os → n < length os → is_one (v (out_at os n).away) ≡ not (is_one (v (out_at os n).come))
away_at v [] n h l = absurd (omega (arith, l))
away_at v (o ∷ os) zero h l = ap is_one h.0 ∙ flag_one (not (is_one (v o.come)))
away_at v (o ∷ os) (suc n) h l = away_at v os n h.1 (omega (arith, l))
