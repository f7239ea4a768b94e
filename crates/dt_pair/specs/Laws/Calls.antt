-- Pair keeps the laws of a domain, since both parts do and the normal form holds what both hold.
use Rattle.std.proofs.Common.{◌≡◌, ℕ, ◌-◌, ◌^◌, ◌<◌, ◌⊎◌, Bool, true, false, Some, None, refl, sym, ap, ◌∙◌, subst, ⊎_elim}
use Rattle.std.specs.Prelude.{MatchOption, ◌↔◌}
use Rattle.std.proofs.lemmas.Bool.{cond-false, and_from, and_left, le-ltb, true≢false}
use Rattle.dt_bits.specs.Bits.{IsValue, bit}
use Rattle.dt_bits.specs.declared.op.Op.{Op}
use Rattle.dt_bits.specs.declared.value.Bv.{Bv}
use Rattle.dt_bits.specs.declared.value.Width.{Width}
use Rattle.dt_domain.specs.Domain.{Fitting, FittingAt, AreAlike, HoldUsed, AreUsedKnown, value_at, operand, IsAllKnown, KnowsBit, IsDomainOf, result_width}
use Rattle.dt_known.specs.declared.Known.{Known}
use Rattle.dt_known.specs.Known.{known_holds, known_meet, known_with_bit}
use Rattle.dt_known.specs.Forward.{known_forward}
use Rattle.dt_known.specs.Backward.{known_backward}
use Rattle.dt_known.specs.Ops.{known_ops}
use Rattle.dt_known.specs.Laws.{known_laws, known_decides}
use Rattle.dt_range.specs.declared.Range.{Range}
use Rattle.dt_range.specs.Range.{range_holds, range_meet, range_pick, range_is_empty}
use Rattle.dt_range.specs.Forward.{range_forward}
use Rattle.dt_range.specs.Backward.{range_backward}
use Rattle.dt_range.specs.Laws.{range_laws}
use Rattle.dt_pair.specs.declared.Pair.{Pair}
use Rattle.dt_pair.specs.Pair.{IsPair, AreParts, pair_holds, no_pair, pair_one, pair_meet, pair_with_bit, pair_forward, pair_backward}
use Rattle.dt_pair.specs.Ops.{pair_ops}
use Rattle.dt_pair.specs.Laws.Normal.{HoldBoth, normal_holds}
use Rattle.dt_pair.specs.Laws.Form.{normal_width, normal_of_empty, full_before, normal_some, normal_is, normal_knows, normal_all, IsFilled, filled_or_not, filled_where}
use Rattle.dt_pair.specs.Laws.Parts.{both_hold, alike_known, alike_range, fitting_known, fitting_range, result_alike, value_alike, used_known, used_range, at_known, at_range, operand_known, operand_range, operand_is}

-- ---- meet

pub meet_parts : (a b : Pair) → AreAlike pair_ops a b → AreParts (known_meet a.known b.known) (range_meet a.range b.range)
meet_parts a b g =
    let k = known_laws.meet_is a.known b.known (alike_known a b g) in
    let r = range_laws.meet_is a.range b.range (alike_range a b g) in
    record { known = k.0; range = r.0; widths = k.1 ∙ g.a_is.widths ∙ sym r.1 }

pub meet_is : (a b : Pair) → AreAlike pair_ops a b → IsDomainOf pair_ops a.known.width (pair_meet a b)
meet_is a b g = (
  normal_is (known_meet a.known b.known) (range_meet a.range b.range) (meet_parts a b g),
  normal_width (known_meet a.known b.known) (range_meet a.range b.range) ∙ (known_laws.meet_is a.known b.known (alike_known a b g)).1,
)

pub meet_holds : (a b : Pair) (x : ℕ) → AreAlike pair_ops a b → pair_holds a x ≡ true → pair_holds b x ≡ true → pair_holds (pair_meet a b) x ≡ true
meet_holds a b x g h l =
    let s = both_hold a x h in
    let t = both_hold b x l in
    normal_holds (known_meet a.known b.known) (range_meet a.range b.range) x (meet_parts a b g) (record {
      known = known_laws.meet_holds a.known b.known x (alike_known a b g) s.known t.known;
      range = range_laws.meet_holds a.range b.range x (alike_range a b g) s.range t.range;
    })

pub meet_empty : (a b : Pair) → AreAlike pair_ops a b → (a.known.empty ≡ true) ⊎ (b.known.empty ≡ true) → (pair_meet a b).known.empty ≡ true
meet_empty a b g e = ap (λ (p : Pair). p.known.empty)
    (normal_of_empty (known_meet a.known b.known) (range_meet a.range b.range) (known_laws.meet_empty a.known b.known (alike_known a b g) e))

pub meet_knows : (a b : Pair) (i : ℕ) (v : Bool) → AreAlike pair_ops a b → (pair_meet a b).known.empty ≡ false
    → KnowsBit pair_ops a i v ⊎ KnowsBit pair_ops b i v → KnowsBit pair_ops (pair_meet a b) i v
meet_knows a b i v g h s =
    let k = known_meet a.known b.known in
    let r = range_meet a.range b.range in
    normal_knows k r i v (meet_parts a b g) h (known_laws.meet_knows a.known b.known i v (alike_known a b g) (full_before k r h) s)

-- ---- with_bit

pub bit_parts : (a : Pair) (i : ℕ) (v : Bool) → IsPair a → i < a.known.width.0 → AreParts (known_with_bit a.known i v) a.range
bit_parts a i v p l =
    let k = known_laws.with_bit_is a.known i v p.known l in
    record { known = k.0; range = p.range; widths = k.1 ∙ p.widths }

pub bit_is : (a : Pair) (i : ℕ) (v : Bool) → IsPair a → i < a.known.width.0 → IsDomainOf pair_ops a.known.width (pair_with_bit a i v)
bit_is a i v p l = (
  normal_is (known_with_bit a.known i v) a.range (bit_parts a i v p l),
  normal_width (known_with_bit a.known i v) a.range ∙ (known_laws.with_bit_is a.known i v p.known l).1,
)

pub bit_holds : (a : Pair) (i : ℕ) (v : Bool) (x : ℕ) → IsPair a → i < a.known.width.0 → bit x i ≡ v → pair_holds a x ≡ true → pair_holds (pair_with_bit a i v) x ≡ true
bit_holds a i v x p l e h =
    let s = both_hold a x h in
    normal_holds (known_with_bit a.known i v) a.range x (bit_parts a i v p l) (record {
      known = known_laws.with_bit_holds a.known i v x p.known l e s.known;
      range = s.range;
    })

pub bit_decides : (a : Pair) (i : ℕ) (v : Bool) → IsPair a → i < a.known.width.0 → (pair_with_bit a i v).known.empty ≡ false
    → KnowsBit pair_ops (pair_with_bit a i v) i v × ((j : ℕ) (u : Bool) → KnowsBit pair_ops a j u → KnowsBit pair_ops (pair_with_bit a i v) j u)
bit_decides a i v p l h =
    let k = known_with_bit a.known i v in
    let q = bit_parts a i v p l in
    let f : k.empty ≡ false = full_before k a.range h in
    ⊎_elim (λ (e : k.empty ≡ true). absurd (true≢false (sym e ∙ f)))
    (λ (d : KnowsBit known_ops k i v × ((j : ℕ) (u : Bool) → KnowsBit known_ops a.known j u → KnowsBit known_ops k j u)). (
      normal_knows k a.range i v q h d.0,
      λ j u s. normal_knows k a.range j u q h (d.1 j u s),
    ))
    (known_decides.with_bit_decides a.known i v p.known l)

-- ---- forward

pub forward_parts : (op : Op) (a b c : Pair) → Fitting pair_ops op a b c
    → AreParts (known_forward op a.known b.known c.known) (range_forward op a.range b.range c.range)
forward_parts op a b c f =
    let k = known_laws.forward_is op a.known b.known c.known (fitting_known op a b c f) in
    let r = range_laws.forward_is op a.range b.range c.range (fitting_range op a b c f) in
    record { known = k.0; range = r.0; widths = k.1 ∙ result_alike op a b c f ∙ sym r.1 }

forward_width : (op : Op) (a b c : Pair) → Fitting pair_ops op a b c → (pair_forward op a b c).known.width ≡ result_width pair_ops op a b c
forward_width op a b c f =
    normal_width (known_forward op a.known b.known c.known) (range_forward op a.range b.range c.range)
    ∙ (known_laws.forward_is op a.known b.known c.known (fitting_known op a b c f)).1

pub forward_is : (op : Op) (a b c : Pair) → Fitting pair_ops op a b c → IsDomainOf pair_ops (result_width pair_ops op a b c) (pair_forward op a b c)
forward_is op a b c f = (
  normal_is (known_forward op a.known b.known c.known) (range_forward op a.range b.range c.range) (forward_parts op a b c f),
  forward_width op a b c f,
)

forward_both : (op : Op) (a b c : Pair) (x y z : ℕ) → Fitting pair_ops op a b c → HoldUsed pair_ops op a b c x y z
    → HoldBoth (known_forward op a.known b.known c.known) (range_forward op a.range b.range c.range) (value_at pair_ops op a b c x y z)
forward_both op a b c x y z f u = record {
  known = known_laws.forward_holds op a.known b.known c.known x y z (fitting_known op a b c f) (used_known op a b c x y z u);
  range = subst (λ n. range_holds (range_forward op a.range b.range c.range) n ≡ true) (sym (value_alike op a b c x y z f))
      (range_laws.forward_holds op a.range b.range c.range x y z (fitting_range op a b c f) (used_range op a b c x y z u));
}

pub forward_holds : (op : Op) (a b c : Pair) (x y z : ℕ) → Fitting pair_ops op a b c → HoldUsed pair_ops op a b c x y z
    → pair_holds (pair_forward op a b c) (value_at pair_ops op a b c x y z) ≡ true
forward_holds op a b c x y z f u =
    normal_holds (known_forward op a.known b.known c.known) (range_forward op a.range b.range c.range) (value_at pair_ops op a b c x y z)
    (forward_parts op a b c f) (forward_both op a b c x y z f u)

-- each used operand holds its least number
used_low : (op : Op) (a b c : Pair) → Fitting pair_ops op a b c → AreUsedKnown pair_ops op a b c → HoldUsed pair_ops op a b c a.range.lo b.range.lo c.range.lo
used_low op a b c f u = record {
  first = λ l. (filled_where a f.a_is (u.first l).0).low;
  second = λ l. (filled_where b f.b_is (u.second l).0).low;
  third = λ l. (filled_where c f.c_is (u.third l).0).low;
}

pub forward_known : (op : Op) (a b c : Pair) → Fitting pair_ops op a b c → AreUsedKnown pair_ops op a b c → IsAllKnown pair_ops (pair_forward op a b c)
forward_known op a b c f u =
    let k = known_forward op a.known b.known c.known in
    let r = range_forward op a.range b.range c.range in
    let p = forward_parts op a b c f in
    let s = normal_some k r _ p (forward_both op a b c a.range.lo b.range.lo c.range.lo f (used_low op a b c f u)) in
    let m = known_laws.forward_known op a.known b.known c.known (fitting_known op a b c f) (record { first = u.first; second = u.second; third = u.third }) in
    (s, normal_all k r p s m.1 ∙ ap (λ (w : Width). 2 ^ w.0 - 1) (sym (normal_width k r)))

-- ---- backward

pub backward_parts : (op : Op) (k : ℕ) (r a b c : Pair) → FittingAt pair_ops op k r a b c
    → AreParts (known_backward op k r.known a.known b.known c.known) (range_backward op k r.range a.range b.range c.range)
backward_parts op k r a b c f =
    let s = known_laws.backward_is op k r.known a.known b.known c.known (at_known op k r a b c f) in
    let t = range_laws.backward_is op k r.range a.range b.range c.range (at_range op k r a b c f) in
    let e = operand_is k a b c f.operands.a_is f.operands.b_is f.operands.c_is in
    record {
      known = s.0;
      range = t.0;
      widths = s.1 ∙ ap (λ (d : Known). d.width) (sym (operand_known k a b c)) ∙ e.widths ∙ ap (λ (d : Range). d.width) (operand_range k a b c) ∙ sym t.1;
    }

pub backward_is : (op : Op) (k : ℕ) (r a b c : Pair) → FittingAt pair_ops op k r a b c
    → IsDomainOf pair_ops (operand k a b c).known.width (pair_backward op k r a b c)
backward_is op k r a b c f =
    let s = known_backward op k r.known a.known b.known c.known in
    let t = range_backward op k r.range a.range b.range c.range in (
      normal_is s t (backward_parts op k r a b c f),
      normal_width s t ∙ (known_laws.backward_is op k r.known a.known b.known c.known (at_known op k r a b c f)).1 ∙ ap (λ (d : Known). d.width) (sym (operand_known k a b c)),
    )

pub backward_holds : (op : Op) (k : ℕ) (r a b c : Pair) (x y z : ℕ) → FittingAt pair_ops op k r a b c → HoldUsed pair_ops op a b c x y z
    → pair_holds r (value_at pair_ops op a b c x y z) ≡ true → pair_holds (pair_backward op k r a b c) (operand k x y z) ≡ true
backward_holds op k r a b c x y z f u h =
    let s = both_hold r (value_at pair_ops op a b c x y z) h in
    normal_holds (known_backward op k r.known a.known b.known c.known) (range_backward op k r.range a.range b.range c.range) (operand k x y z)
    (backward_parts op k r a b c f) (record {
      known = known_laws.backward_holds op k r.known a.known b.known c.known x y z (at_known op k r a b c f) (used_known op a b c x y z u) s.known;
      range = range_laws.backward_holds op k r.range a.range b.range c.range x y z (at_range op k r a b c f) (used_range op a b c x y z u)
          (subst (λ n. range_holds r.range n ≡ true) (value_alike op a b c x y z f.operands) s.range);
    })

-- ---- one Pair

pub empty_holds : (a : Pair) (x : ℕ) → IsPair a → a.known.empty ≡ true → pair_holds a x ≡ false
empty_holds a x p e = and_left (known_holds a.known x) (range_holds a.range x) (known_laws.empty_holds_none a.known x p.known e)

abbrev Picked : Pair → Type 0
Picked a = MatchOption (range_pick a.range) (a.known.empty ≡ true) (λ x. pair_holds a x ≡ true)

pub pick_held : (a : Pair) → IsPair a → Picked a
pick_held a p = ⊎_elim
    (λ (n : a ≡ no_pair a.known.width). subst Picked (sym n) refl)
    (λ (f : IsFilled a). subst (λ o. MatchOption o (a.known.empty ≡ true) (λ x. pair_holds a x ≡ true))
    (sym (cond-false (range_is_empty a.range) None (Some a.range.lo) (le-ltb a.range.hi a.range.lo f.order))) f.low)
    (filled_or_not a p)

pub one_held : (v : Bv) (x : ℕ) → IsValue v → (pair_holds (pair_one v) x ≡ true) ↔ (x ≡ v.bits)
one_held v x h = (
  λ e. (known_laws.one_holds v x h).0 (both_hold (pair_one v) x e).known,
  λ e. and_from (known_holds (pair_one v).known x) (range_holds (pair_one v).range x) ((known_laws.one_holds v x h).1 e) ((range_laws.one_holds v x h).1 e),
)
