-- The normal form, by the ends that are found.
use Rattle.std.proofs.Common.{◌≡◌, ℕ, ◌<◌, ◌≤◌, false, ◌||◌, ltb, Option, Some, None, refl, sym, ap, ◌∙◌, subst, arith}
use Rattle.std.proofs.lemmas.Bool.{cond-true, cond-false, or_from, or_right, lt-ltb, le-ltb}
use Rattle.dt_known.specs.declared.Known.{Known}
use Rattle.dt_range.specs.declared.Range.{Range}
use Rattle.dt_range.specs.Range.{range_is_empty}
use Rattle.dt_pair.specs.Ends.{IsLeast, IsLeastFound, IsGreatest}
use Rattle.dt_pair.specs.Pair.{AreParts, no_pair, filled, least_of, greatest_of, with_ends, normal}
use Rattle.dt_pair.specs.Laws.Least.{least_is}
use Rattle.dt_pair.specs.Laws.Normal.{words_of, lo_fits}

pub no_least : (k : Known) (r : Range) → None ≡ least_of k r → no_pair k.width ≡ normal k r
unfolding normal
no_least k r e = ap (λ a. with_ends k r a (greatest_of k r)) e

no_greatest_at : (k : Known) (r : Range) (a : Option ℕ) → no_pair k.width ≡ with_ends k r a None
no_greatest_at k r None = refl
no_greatest_at k r (Some lo) = refl

pub no_greatest : (k : Known) (r : Range) → None ≡ greatest_of k r → no_pair k.width ≡ normal k r
unfolding normal
no_greatest k r e = no_greatest_at k r (least_of k r) ∙ ap (with_ends k r (least_of k r)) e

above_at : (k : Known) (r : Range) (lo : ℕ) (b : Option ℕ) → r.hi < lo → no_pair k.width ≡ with_ends k r (Some lo) b
above_at k r lo None l = refl
above_at k r lo (Some hi) l = sym (cond-true (k.empty || (range_is_empty r || ltb r.hi lo)) (no_pair k.width) (filled k lo hi) (or_right k.empty _ (or_right (range_is_empty r) (ltb r.hi lo) (lt-ltb r.hi lo l))))

pub least_above : (k : Known) (r : Range) (lo : ℕ) → Some lo ≡ least_of k r → r.hi < lo → no_pair k.width ≡ normal k r
unfolding normal
least_above k r lo e l = above_at k r lo (greatest_of k r) l ∙ ap (λ a. with_ends k r a (greatest_of k r)) e

ends_at : (k : Known) (r : Range) (lo hi : ℕ) → k.empty ≡ false → r.lo ≤ lo → lo ≤ r.hi → filled k lo hi ≡ with_ends k r (Some lo) (Some hi)
ends_at k r lo hi e b l = sym (cond-false (k.empty || (range_is_empty r || ltb r.hi lo)) (no_pair k.width) (filled k lo hi)
    (or_from k.empty _ e (or_from (range_is_empty r) (ltb r.hi lo) (le-ltb r.hi r.lo (omega arith)) (le-ltb r.hi lo l))))

least_is_at : (k : Known) (r : Range) (lo : ℕ) → AreParts k r → Some lo ≡ least_of k r → IsLeast k.width.0 k.mask k.value r.lo lo
least_is_at k r lo p e = subst (IsLeastFound k.width.0 k.mask k.value r.lo) (sym e) (least_is k.width.0 k.mask k.value r.lo (words_of k p.known) (lo_fits k r p))

pub both_ends : (k : Known) (r : Range) (lo hi : ℕ) → AreParts k r → k.empty ≡ false → Some lo ≡ least_of k r → lo ≤ r.hi → Some hi ≡ greatest_of k r → filled k lo hi ≡ normal k r
unfolding normal
both_ends k r lo hi p e f l g =
    ends_at k r lo hi e (least_is_at k r lo p f).beyond l
    ∙ ap (λ a. with_ends k r a (Some hi)) f ∙ ap (with_ends k r (least_of k r)) g

-- they are in order
pub ends_order : (k : Known) (r : Range) (lo hi : ℕ) → AreParts k r → Some lo ≡ least_of k r → lo ≤ r.hi → IsGreatest k.mask k.value r.hi hi → lo ≤ hi
ends_order k r lo hi p e l g = g.greatest lo l (least_is_at k r lo p e).has

pub parts_same : (k l : Known) (r s : Range) → k ≡ l → r ≡ s → AreParts l s → AreParts k r
parts_same k l r s e f p = subst (λ k. AreParts k r) (sym e) (subst (AreParts l) (sym f) p)
