-- Sets keep the laws of a domain.
pub mod Lists
pub mod Form
pub mod KnownBits
pub mod Meets
pub mod Calls
use Rattle.std.proofs.Common.{◌≡◌, ℕ, ◌^◌, Bool, ◌&&◌, eqb, List, refl, sym, ap, ◌∙◌, arith}
use Rattle.std.proofs.lemmas.Bool.{and_parts, and_from, eqb-true, eq-eqb}
use mathlib.Core.Bool.{beq}
use lib.Pointwise.{pointwise, bytes_decides}
use Rattle.dt_lemmas.proofs.Booleans.{same_flags, flag_same}
use Rattle.dt_bits.specs.Bits.{width}
use Rattle.dt_domain.specs.Domain.{DomainLaws, IsExact}
use Rattle.dt_sets.specs.declared.Sets.{Sets}
use Rattle.dt_sets.specs.Sets.{listed, sets_holds}
use Rattle.dt_sets.specs.Ops.{sets_ops}
use Rattle.dt_sets.specs.Laws.Form.{same_sets, full_of, one_of, kept_of, held_fits, full_holds, few_holds}
use Rattle.dt_sets.specs.Laws.KnownBits.{mask_below, knows_few, agrees, single, single_held, one_known}
use Rattle.dt_sets.specs.Laws.Meets.{empty_holds, holds_some, empty_known, pick_held, one_held, meet_is, meet_holds, meet_empty, meet_knows, bit_holds, held_agrees}
use Rattle.dt_sets.specs.Laws.Calls.{forward_is, forward_holds, forward_known, backward_is, backward_holds}

pub sets_laws : DomainLaws sets_ops
sets_laws = record {
  full_is = full_of;
  one_is = one_of;
  meet_is = meet_is;
  with_bit_is = λ a i v p l. kept_of _ a p;
  forward_is = forward_is;
  backward_is = backward_is;
  width_is = λ a p. p.width;
  mask_fits = λ a p. mask_below a.width.0 (listed a);
  held_fits = held_fits;
  full_holds = λ w x h l. full_holds w x l;
  one_holds = λ v x h. one_held v x;
  one_known = λ v h. one_known v;
  meet_holds = meet_holds;
  meet_empty = meet_empty;
  meet_knows = meet_knows;
  empty_holds_none = λ a x p e. empty_holds a x e;
  holds_some = holds_some;
  held_agrees = held_agrees;
  empty_known = λ a p e. empty_known a e;
  known_one = λ a x y p e h k. let o = single a p e in sym (single_held a o.0 x p o.1 h) ∙ single_held a o.0 y p o.1 k;
  forward_holds = forward_holds;
  forward_known = forward_known;
  backward_holds = backward_holds;
  pick_held = pick_held;
  with_bit_holds = λ a i v x p l e h. bit_holds a i v x e h;
}

abbrev pub sets_eq : Sets → Sets → Bool
sets_eq a b = eqb a.width.0 b.width.0 && (beq a.many b.many && (eqb a.count b.count && pointwise eqb a.numbers b.numbers))

pub sets_exact : IsExact sets_eq
sets_exact = record {
  same = λ a b h.
      let p = and_parts (eqb a.width.0 b.width.0) _ h in
      let q = and_parts (beq a.many b.many) _ p.1 in
      let r = and_parts (eqb a.count b.count) (pointwise eqb a.numbers b.numbers) q.1 in
      same_sets a b (ap width (eqb-true _ _ p.0)) (same_flags a.many b.many q.0) (eqb-true _ _ r.0) ((bytes_decides a.numbers b.numbers).0 r.1);
  refl = λ a. and_from (eqb a.width.0 a.width.0) _ (eq-eqb a.width.0 a.width.0 refl)
      (and_from (beq a.many a.many) _ (flag_same a.many) (and_from (eqb a.count a.count) _ (eq-eqb a.count a.count refl) ((bytes_decides a.numbers a.numbers).1 refl)));
}
