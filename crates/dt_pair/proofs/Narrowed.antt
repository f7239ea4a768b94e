-- A meet with two parts is the meet with their normal form.
use Rattle.std.proofs.Common.{◌≡◌, ℕ, Bool, ◌&&◌, Option, sym, ap, ◌∙◌, subst, arith}
use Rattle.dt_bits.specs.declared.op.Op.{Op}
use Rattle.dt_domain.specs.Domain.{AreAlike, Fitting, FittingAt, IsNarrowed, operand, result_width}
use Rattle.dt_known.specs.declared.Known.{Known}
use Rattle.dt_known.specs.Known.{known_holds, known_meet}
use Rattle.dt_known.specs.Forward.{known_forward}
use Rattle.dt_known.specs.Backward.{known_backward}
use Rattle.dt_known.specs.Ops.{known_ops}
use Rattle.dt_known.specs.Laws.{known_laws}
use Rattle.dt_known.specs.Laws.Meets.{meets as known_meets}
use Rattle.dt_range.specs.declared.Range.{Range}
use Rattle.dt_range.specs.Range.{range_holds, range_meet}
use Rattle.dt_range.specs.Ops.{range_ops}
use Rattle.dt_range.specs.Laws.{range_laws}
use Rattle.dt_range.specs.Laws.Meets.{meets as range_meets}
use Rattle.dt_pair.specs.declared.Pair.{Pair}
use Rattle.dt_pair.specs.Pair.{IsPair, AreParts, both_hold, pair_meet, normal}
use Rattle.dt_pair.specs.Ops.{pair_ops}
use Rattle.dt_pair.specs.Laws.Normal.{normal_same}
use Rattle.dt_pair.specs.Laws.Form.{normal_is, normal_width}
use Rattle.dt_pair.specs.Laws.Parts.{alike_known, fitting_known, at_known, operand_known}
use Rattle.dt_pair.specs.Laws.Calls.{meet_is, meet_parts}
use Rattle.dt_pair.specs.Laws.Unique.{canonical}

-- a Pair, and two parts of its width
pub record AreAlikeParts (a : Pair) (k : Known) (r : Range) : Type 0 where
  pub a_is : IsPair a
  pub parts : AreParts k r
  pub widths : a.known.width ≡ k.width

known_alike : (a : Pair) (k : Known) (r : Range) → AreAlikeParts a k r → AreAlike known_ops a.known k
known_alike a k r g = record { a_is = g.a_is.known; b_is = g.parts.known; widths = g.widths }

range_alike : (a : Pair) (k : Known) (r : Range) → AreAlikeParts a k r → AreAlike range_ops a.range r
range_alike a k r g = record { a_is = g.a_is.range; b_is = g.parts.range; widths = sym g.a_is.widths ∙ g.widths ∙ g.parts.widths }

normal_alike : (a : Pair) (k : Known) (r : Range) → AreAlikeParts a k r → AreAlike pair_ops a (normal k r)
normal_alike a k r g = record { a_is = g.a_is; b_is = normal_is k r g.parts; widths = g.widths ∙ sym (normal_width k r) }

-- the meets of the parts are parts
pub met_parts : (a : Pair) (k : Known) (r : Range) → AreAlikeParts a k r → AreParts (known_meet a.known k) (range_meet a.range r)
met_parts a k r g =
    let s = known_laws.meet_is a.known k (known_alike a k r g) in
    let t = range_laws.meet_is a.range r (range_alike a k r g) in
    record { known = s.0; range = t.0; widths = s.1 ∙ g.a_is.widths ∙ sym t.1 }

four : (p q s t u v : Bool) → (q && t) ≡ (u && v) → ((p && q) && (s && t)) ≡ ((p && u) && (s && v))
four p q s t u v e = grind arith

met_holds : (a : Pair) (k : Known) (r : Range) (x : ℕ) → AreAlike known_ops a.known k
    → both_hold (known_meet a.known k) (range_meet a.range r) x ≡ ((known_holds a.known x && known_holds k x) && (range_holds a.range x && range_holds r x))
met_holds a k r x g =
    ap (λ b. b && range_holds (range_meet a.range r) x) (known_meets a.known k x g)
    ∙ ap (λ b. (known_holds a.known x && known_holds k x) && b) (range_meets a.range r x)

pub meet_with_parts : (a : Pair) (k : Known) (r : Range) → AreAlikeParts a k r → normal (known_meet a.known k) (range_meet a.range r) ≡ pair_meet a (normal k r)
meet_with_parts a k r g =
    let n = normal k r in
    let l = normal_alike a k r g in
    let p = met_parts a k r g in
    let m = meet_is a n l in
    let w : (normal (known_meet a.known k) (range_meet a.range r)).known.width ≡ (pair_meet a n).known.width =
    normal_width (known_meet a.known k) (range_meet a.range r) ∙ (known_laws.meet_is a.known k (known_alike a k r g)).1 ∙ sym m.1 in
    canonical (pair_meet a n) m.0 (normal (known_meet a.known k) (range_meet a.range r)) (normal_is (known_meet a.known k) (range_meet a.range r) p) w (λ x.
    normal_same (known_meet a.known k) (range_meet a.range r) p x
    ∙ met_holds a k r x (known_alike a k r g)
    ∙ four (known_holds a.known x) (known_holds k x) (range_holds a.range x) (range_holds r x) (known_holds n.known x) (range_holds n.range x) (sym (normal_same k r g.parts x))
    ∙ sym (met_holds a n.known n.range x (alike_known a n l))
    ∙ sym (normal_same (known_meet a.known n.known) (range_meet a.range n.range) (meet_parts a n l) x))

-- where neither part narrows it, neither does their normal form
pub none_narrows : (a : Pair) (k : Known) (r : Range) → AreAlikeParts a k r → known_meet a.known k ≡ a.known → range_meet a.range r ≡ a.range → pair_meet a (normal k r) ≡ a
none_narrows a k r g h t =
    sym (meet_with_parts a k r g) ∙ ap (λ k. normal k (range_meet a.range r)) h ∙ ap (normal a.known) t ∙ g.a_is.normal

-- ---- into a target

pub forward_width : (op : Op) (s a b c : Pair) (k : Known) → Fitting pair_ops op a b c → s.known.width ≡ result_width pair_ops op a b c
    → k ≡ known_forward op a.known b.known c.known → s.known.width ≡ k.width
forward_width op s a b c k f w e =
    w ∙ sym (ap (λ (k : Known). k.width) e ∙ (known_laws.forward_is op a.known b.known c.known (fitting_known op a b c f)).1)

pub backward_width : (op : Op) (p : ℕ) (s r a b c : Pair) (k : Known) → FittingAt pair_ops op p r a b c → s.known.width ≡ (operand p a b c).known.width
    → k ≡ known_backward op p r.known a.known b.known c.known → s.known.width ≡ k.width
backward_width op p s r a b c k f w e =
    w ∙ sym (ap (λ (k : Known). k.width) e ∙ (known_laws.backward_is op p r.known a.known b.known c.known (at_known op p r a b c f)).1
    ∙ ap (λ (d : Known). d.width) (sym (operand_known p a b c)))

pub narrowed_by : (s : Pair) (k l : Known) (r t : Range) (o : Option Pair) → k ≡ l → r ≡ t → IsNarrowed pair_ops s (normal k r) o → IsNarrowed pair_ops s (normal l t) o
narrowed_by s k l r t o e f h = subst (λ k. IsNarrowed pair_ops s (normal k t) o) e (subst (λ r. IsNarrowed pair_ops s (normal k r) o) f h)
