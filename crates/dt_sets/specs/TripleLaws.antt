-- Triple keeps the laws of a domain and the law of a deciding one.
pub mod Numbers
pub mod Reduced
pub mod Calls
use Rattle.std.proofs.Common.{◌≡◌, ℕ, Bool, ◌&&◌, eqb, ap, ◌∙◌}
use Rattle.std.proofs.lemmas.Bool.{and_parts, and_from}
use mathlib.Core.Bool.{beq}
use Rattle.dt_domain.specs.Domain.{DomainLaws, DecidingLaws, IsExact}
use Rattle.dt_known.specs.declared.Known.{Known}
use Rattle.dt_known.specs.Laws.{known_exact}
use Rattle.dt_range.specs.declared.Range.{Range}
use Rattle.dt_range.specs.Laws.{range_exact}
use Rattle.dt_pair.specs.Laws.{pair_laws}
use Rattle.dt_sets.specs.declared.Sets.{Sets}
use Rattle.dt_sets.specs.declared.Triple.{Triple}
use Rattle.dt_sets.specs.Laws.{sets_eq, sets_exact}
use Rattle.dt_sets.specs.Triple.{pair_of}
use Rattle.dt_sets.specs.TripleOps.{triple_ops}
use Rattle.dt_sets.specs.TripleLaws.Reduced.{empty_holds, low_held, pick_held}
use Rattle.dt_sets.specs.TripleLaws.Calls.{in_pair, full_is, full_holds, one_is, one_held, one_known, meet_is, meet_holds, meet_empty, meet_knows, bit_is, bit_holds, bit_decides, forward_is, forward_holds, forward_known, backward_is, backward_holds}

pub triple_laws : DomainLaws triple_ops
triple_laws = record {
  full_is = full_is;
  one_is = one_is;
  meet_is = meet_is;
  with_bit_is = bit_is;
  forward_is = forward_is;
  backward_is = backward_is;
  width_is = λ a p. p.pair.known.width;
  mask_fits = λ a p. pair_laws.mask_fits (pair_of a) p.pair;
  held_fits = λ a x p h. pair_laws.held_fits (pair_of a) x p.pair (in_pair a x h);
  full_holds = full_holds;
  one_holds = one_held;
  one_known = one_known;
  meet_holds = meet_holds;
  meet_empty = meet_empty;
  meet_knows = meet_knows;
  empty_holds_none = empty_holds;
  holds_some = λ a p e. (a.range.lo, low_held a p e);
  held_agrees = λ a x p h. pair_laws.held_agrees (pair_of a) x p.pair (in_pair a x h);
  empty_known = λ a p e. pair_laws.empty_known (pair_of a) p.pair e;
  known_one = λ a x y p k h g. pair_laws.known_one (pair_of a) x y p.pair k (in_pair a x h) (in_pair a y g);
  forward_holds = forward_holds;
  forward_known = forward_known;
  backward_holds = backward_holds;
  pick_held = pick_held;
  with_bit_holds = bit_holds;
}

pub triple_decides : DecidingLaws triple_ops
triple_decides = record { with_bit_decides = bit_decides }

abbrev known_eq : Known → Known → Bool
known_eq a b = eqb a.mask b.mask && (eqb a.value b.value && (beq a.empty b.empty && eqb a.width.0 b.width.0))

abbrev range_eq : Range → Range → Bool
range_eq a b = eqb a.lo b.lo && (eqb a.hi b.hi && eqb a.width.0 b.width.0)

abbrev pub triple_eq : Triple → Triple → Bool
triple_eq a b = known_eq a.known b.known && (range_eq a.range b.range && sets_eq a.sets b.sets)

pub triple_exact : IsExact triple_eq
triple_exact = record {
  same = λ a b h.
      let p = and_parts (known_eq a.known b.known) _ h in
      let q = and_parts (range_eq a.range b.range) (sets_eq a.sets b.sets) p.1 in
      let g : Known → Range → Sets → Triple = λ k r s. record { known = k; range = r; sets = s } in
      ap (λ k. g k a.range a.sets) (known_exact.same a.known b.known p.0) ∙ ap (λ r. g b.known r a.sets) (range_exact.same a.range b.range q.0)
      ∙ ap (g b.known b.range) (sets_exact.same a.sets b.sets q.1);
  refl = λ a. and_from (known_eq a.known a.known) _ (known_exact.refl a.known)
      (and_from (range_eq a.range a.range) (sets_eq a.sets a.sets) (range_exact.refl a.range) (sets_exact.refl a.sets));
}
