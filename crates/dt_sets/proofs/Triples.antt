-- A Triple that is made of its parts.
use Rattle.std.proofs.Common.{◌≡◌, ℕ, suc, ◌-◌, ◌<◌, false, List, [], ◌∷◌, length, get_or, bit_and, refl, sym, ap, ◌∙◌, subst, arith}
use Rattle.dt_bits.specs.declared.value.Width.{Width}
use Rattle.dt_known.specs.declared.Known.{Known}
use Rattle.dt_range.specs.declared.Range.{Range}
use Rattle.dt_pair.specs.declared.Pair.{Pair}
use Rattle.dt_pair.specs.Pair.{AreParts, ends, normal}
use Rattle.dt_pair.specs.Laws.Form.{normal_width}
use Rattle.dt_pair.proofs.Normals.{parts_same}
use Rattle.dt_sets.specs.declared.Sets.{Sets}
use Rattle.dt_sets.specs.declared.Triple.{Triple}
use Rattle.dt_sets.specs.Sets.{IsSets, listing, agreed_mask}
use Rattle.dt_sets.specs.Triple.{last, agreed, of_numbers}
use Rattle.dt_sets.specs.TripleLaws.Reduced.{Reduces}

last_is : (x : ℕ) (xs : List ℕ) → get_or (x ∷ xs) (length xs) 0 ≡ last x xs
last_is x [] = refl
last_is x (y ∷ ys) = last_is y ys

-- the Triple of numbers, of which the first and the last are read
pub numbers_made : (w : Width) (xs : List ℕ) (m lo hi : ℕ) (s : Sets) (t : Triple) → 0 < length xs → m ≡ agreed_mask w.0 xs → lo ≡ get_or xs 0 0 → hi ≡ get_or xs (length xs - 1) 0
    → s ≡ listing w xs
    → t.known ≡ (let f : ℕ → ℕ → Known = λ m v. record { mask = m; value = v; empty = false; width = w } in f m (bit_and lo m)) → t.range ≡ ends w lo hi → t.sets ≡ s → t ≡ of_numbers w xs
numbers_made w [] m lo hi s t l e f g h i j k = absurd (omega arith)
numbers_made w (x ∷ xs) m lo hi s t l e f g h i j k =
    let c : Known → Range → Sets → Triple = λ k r s. record { known = k; range = r; sets = s } in
    let d : ℕ → ℕ → Known = λ m v. record { mask = m; value = v; empty = false; width = w } in
    let n : suc (length xs) - 1 ≡ length xs = omega arith in
    let y : hi ≡ last x xs = g ∙ ap (λ i. get_or (x ∷ xs) i 0) n ∙ last_is x xs in
    let q : t.known ≡ agreed w (x ∷ xs) = i ∙ ap (λ v. d m (bit_and v m)) f ∙ ap (λ m. d m (bit_and x m)) e in
    let r : t.range ≡ ends w x (last x xs) = j ∙ ap (λ lo. ends w lo hi) f ∙ ap (ends w x) y in
    let z : t.sets ≡ listing w (x ∷ xs) = k ∙ h in
    ap (λ k. c k t.range t.sets) q ∙ ap (λ r. c (agreed w (x ∷ xs)) r t.sets) r ∙ ap (c (agreed w (x ∷ xs)) (ends w x (last x xs))) z

-- parts that are what was asked for can be made into a Triple
pub record Made (k : Known) (r : Range) (s : Sets) : Type 0 where
  pub parts : AreParts k r
  pub sets : IsSets s
  pub widths : k.width ≡ s.width

pub made : (k l : Known) (r t : Range) (s u : Sets) → k ≡ l → r ≡ t → s ≡ u → AreParts l t → Reduces (normal l t) u → Made k r s
made k l r t s u e f g p h = record {
  parts = parts_same k l r t e f p;
  sets = subst IsSets (sym g) h.sets;
  widths = ap (λ (k : Known). k.width) e ∙ sym (normal_width l t) ∙ h.widths ∙ sym (ap (λ (s : Sets). s.width) g);
}

pub same_red : (p q : Pair) (s t : Sets) → p ≡ q → s ≡ t → Reduces q t → Reduces p s
same_red p q s t e f r = subst (λ p. Reduces p s) (sym e) (subst (Reduces q) (sym f) r)
