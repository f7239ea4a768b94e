-- Where a meet is the first Pair itself.
use Rattle.std.proofs.Common.{◌≡◌, ℕ, ◌≤◌, true, false, leb, refl, sym, ap, ◌∙◌, subst, ⊎_elim, inl, min, max, arith}
use Rattle.std.proofs.lemmas.Bool.{cond_both, cond-false, and_parts, lt-leb}
use Rattle.dt_bits.specs.declared.value.Width.{Width}
use Rattle.dt_domain.specs.Domain.{AreAlike, KnowsBit}
use Rattle.dt_known.specs.Known.{known_holds, known_meet}
use Rattle.dt_known.specs.Ops.{known_ops}
use Rattle.dt_known.specs.Laws.{known_laws}
use Rattle.dt_known.proofs.Within.{KnowsOn, same_known}
use Rattle.dt_range.specs.declared.Range.{Range}
use Rattle.dt_range.specs.Range.{range_holds, range_meet, no_range}
use Rattle.dt_range.specs.Laws.Between.{held}
use Rattle.dt_pair.specs.declared.Pair.{Pair}
use Rattle.dt_pair.specs.Pair.{pair_holds, no_pair, pair_meet, normal}
use Rattle.dt_pair.specs.Ops.{pair_ops}
use Rattle.dt_pair.specs.Laws.Normal.{normal_same}
use Rattle.dt_pair.specs.Laws.Form.{full_before, normal_knows, IsFilled, filled_or_not}
use Rattle.dt_pair.specs.Laws.Parts.{alike_known}
use Rattle.dt_pair.specs.Laws.Calls.{meet_parts}

-- the meet of each part is the first
pub record PartsStay (a b : Pair) : Type 0 where
  pub known : known_meet a.known b.known ≡ a.known
  pub range : range_meet a.range b.range ≡ a.range

pub pair_stays : (a b : Pair) → AreAlike pair_ops a b → PartsStay a b → pair_meet a b ≡ a
pair_stays a b g s = ap (λ k. normal k (range_meet a.range b.range)) s.known ∙ ap (normal a.known) s.range ∙ g.a_is.normal

-- ---- a Pair that isn't empty

known_stays : (a b : Pair) → AreAlike pair_ops a b → IsFilled a → pair_meet a b ≡ a → known_meet a.known b.known ≡ a.known
known_stays a b g s h =
    let k = known_meet a.known b.known in
    let r = range_meet a.range b.range in
    let f : (pair_meet a b).known.empty ≡ false = ap (λ (p : Pair). p.known.empty) h ∙ s.full in
    let t : k.empty ≡ false = full_before k r f in
    let back : KnowsOn k a.known = λ i v n. subst (λ (p : Pair). KnowsBit known_ops p.known i v) h (normal_knows k r i v (meet_parts a b g) f n) in
    let on : KnowsOn a.known k = λ i v n. known_laws.meet_knows a.known b.known i v (alike_known a b g) t (inl n) in
    let is = known_laws.meet_is a.known b.known (alike_known a b g) in
    same_known k a.known is.0 g.a_is.known is.1 (t ∙ sym s.full) back on

ends_stay : (a b : Range) → a.lo ≤ a.hi → (range_meet a b).lo ≤ a.lo → a.hi ≤ (range_meet a b).hi → range_meet a b ≡ a
ends_stay a b o l h =
    let f : ℕ → ℕ → Range = λ lo hi. record { lo = lo; hi = hi; width = a.width } in
    cond_both (leb (max a.lo b.lo) (min a.hi b.hi)) (f (max a.lo b.lo) (min a.hi b.hi)) (no_range a.width) (λ r. r.lo ≤ a.lo → a.hi ≤ r.hi → r ≡ a)
    (λ e l h. let p : max a.lo b.lo ≡ a.lo = omega arith in let q : min a.hi b.hi ≡ a.hi = omega arith in ap (λ n. f n (min a.hi b.hi)) p ∙ ap (f a.lo) q)
    (λ e l h. absurd (omega arith))
    l h

range_stays : (a b : Pair) → AreAlike pair_ops a b → IsFilled a → pair_meet a b ≡ a → range_meet a.range b.range ≡ a.range
range_stays a b g s h =
    let k = known_meet a.known b.known in
    let r = range_meet a.range b.range in
    let both : (x : ℕ) → pair_holds a x ≡ true → range_holds r x ≡ true = λ x t.
    (and_parts (known_holds k x) (range_holds r x) (sym (normal_same k r (meet_parts a b g) x) ∙ ap (λ p. pair_holds p x) h ∙ t)).1 in
    ends_stay a.range b.range s.order (held r a.range.lo (both a.range.lo s.low)).above (held r a.range.hi (both a.range.hi s.high)).below

-- ---- an empty one

none_stays : (w : Width) (b : Range) → range_meet (no_range w) b ≡ no_range w
none_stays w b = cond-false (leb (max 1 b.lo) (min 0 b.hi)) _ (no_range w) (lt-leb (max 1 b.lo) (min 0 b.hi) (omega arith))

pub parts_stay : (a b : Pair) → AreAlike pair_ops a b → pair_meet a b ≡ a → PartsStay a b
parts_stay a b g h = ⊎_elim
    (λ (n : a ≡ no_pair a.known.width). subst (λ p. PartsStay p b) (sym n) (record { known = refl; range = none_stays a.known.width b.range }))
    (λ (s : IsFilled a). record { known = known_stays a b g s h; range = range_stays a b g s h })
    (filled_or_not a g.a_is)
