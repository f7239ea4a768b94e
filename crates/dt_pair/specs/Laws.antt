-- Pair keeps the laws of a domain and the law of a deciding one.
pub mod Splits
pub mod Candidates
pub mod Least
pub mod Greatest
pub mod Normal
pub mod Form
pub mod Parts
pub mod Whole
pub mod Varied
pub mod Unique
pub mod Calls
use Rattle.std.proofs.Common.{◌≡◌, ℕ, Bool, true, false, ◌&&◌, eqb, refl, ap, ◌∙◌, inl, inr, ⊎_elim}
use Rattle.std.proofs.lemmas.Bool.{and_parts, and_from, cases_Bool}
use mathlib.Core.Bool.{beq}
use Rattle.dt_domain.specs.Domain.{DomainLaws, DecidingLaws, IsExact}
use Rattle.dt_known.specs.declared.Known.{Known}
use Rattle.dt_known.specs.Laws.{known_laws, known_exact}
use Rattle.dt_range.specs.declared.Range.{Range}
use Rattle.dt_range.specs.Laws.{range_laws, range_exact}
use Rattle.dt_pair.specs.declared.Pair.{Pair}
use Rattle.dt_pair.specs.Ops.{pair_ops}
use Rattle.dt_pair.specs.Pair.{pair_with_bit}
use Rattle.dt_pair.specs.Laws.Form.{filled_where}
use Rattle.dt_pair.specs.Laws.Parts.{both_hold}
use Rattle.dt_pair.specs.Laws.Whole.{full_is, one_is}
use Rattle.dt_pair.specs.Laws.Calls.{meet_is, meet_holds, meet_empty, meet_knows, bit_is, bit_holds, bit_decides, forward_is, forward_holds, forward_known, backward_is, backward_holds, empty_holds, pick_held, one_held}

pub pair_laws : DomainLaws pair_ops
pair_laws = record {
  full_is = λ w h. (full_is w h (range_laws.full_is w h).0, refl);
  one_is = λ v h. (one_is v h (range_laws.one_is v h).0, refl);
  meet_is = meet_is;
  with_bit_is = bit_is;
  forward_is = forward_is;
  backward_is = backward_is;
  width_is = λ a p. p.known.width;
  mask_fits = λ a p. known_laws.mask_fits a.known p.known;
  held_fits = λ a x p h. known_laws.held_fits a.known x p.known (both_hold a x h).known;
  full_holds = λ w x h l. and_from _ _ (known_laws.full_holds w x h l) (range_laws.full_holds w x h l);
  one_holds = one_held;
  one_known = λ v h. known_laws.one_known v h;
  meet_holds = meet_holds;
  meet_empty = meet_empty;
  meet_knows = meet_knows;
  empty_holds_none = empty_holds;
  holds_some = λ a p e. (a.range.lo, (filled_where a p e).low);
  held_agrees = λ a x p h. known_laws.held_agrees a.known x p.known (both_hold a x h).known;
  empty_known = λ a p e. known_laws.empty_known a.known p.known e;
  known_one = λ a x y p k h g. known_laws.known_one a.known x y p.known k (both_hold a x h).known (both_hold a y g).known;
  forward_holds = forward_holds;
  forward_known = forward_known;
  backward_holds = backward_holds;
  pick_held = pick_held;
  with_bit_holds = bit_holds;
}

pub pair_decides : DecidingLaws pair_ops
pair_decides = record {
  with_bit_decides = λ a i v p l. ⊎_elim
      (λ (t : (pair_with_bit a i v).known.empty ≡ true). inl t)
      (λ (t : (pair_with_bit a i v).known.empty ≡ false). inr (bit_decides a i v p l t))
      (cases_Bool ((pair_with_bit a i v).known.empty));
}

abbrev known_eq : Known → Known → Bool
known_eq a b = eqb a.mask b.mask && (eqb a.value b.value && (beq a.empty b.empty && eqb a.width.0 b.width.0))

abbrev range_eq : Range → Range → Bool
range_eq a b = eqb a.lo b.lo && (eqb a.hi b.hi && eqb a.width.0 b.width.0)

abbrev pair_eq : Pair → Pair → Bool
pair_eq a b = known_eq a.known b.known && range_eq a.range b.range

pub pair_exact : IsExact pair_eq
pair_exact = record {
  same = λ a b h.
      let p = and_parts (known_eq a.known b.known) (range_eq a.range b.range) h in
      let g : Known → Range → Pair = λ k r. record { known = k; range = r } in
      ap (λ k. g k a.range) (known_exact.same a.known b.known p.0) ∙ ap (g b.known) (range_exact.same a.range b.range p.1);
  refl = λ a. and_from (known_eq a.known a.known) (range_eq a.range a.range) (known_exact.refl a.known) (range_exact.refl a.range);
}
