-- Where all bits of the operands are known, so are all bits of the result.
use Rattle.std.proofs.Common.{◌≡◌, ℕ, zero, suc, ◌+◌, ◌-◌, ◌^◌, ◌<◌, ◌≤◌, Bool, true, false, not, ◌&&◌, cond, eqb, ltb, leb, Option, Some, None, is_some, refl, sym, ap, ◌∙◌, subst, min, lit<, arith}
use Rattle.std.proofs.lemmas.Bool.{cond-false, and_parts, ltb-true, ltb-false, leb-true, leb-false, eqb-true, false≢true}
use Rattle.dt_bits.proofs.Operators.{none_used}
use Rattle.dt_bits.specs.Bits.{some_below}
use Rattle.dt_bits.specs.declared.op.Op.{Op}
use Rattle.dt_bits.specs.declared.op.Op.TheVariants.{Const, Not, And, Or, Xor, Add, Sub, Slice, Concat, SignExt, Shl, Shr, Eq, Ltu, Ite}
use Rattle.dt_bits.proofs.Below.{none_below_from}
use Rattle.dt_domain.specs.Domain.{Fitting, AreUsedKnown, IsAllKnown}
use Rattle.dt_known.specs.declared.Known.{Known}
use Rattle.dt_known.specs.Known.{known_bit, from_bits, nothing, clash, all_known}
use Rattle.dt_known.specs.Forward.{forward_bit, known_forward, some_used_empty, width_after, not_bit, carry_into, greatest}
use Rattle.dt_known.specs.Ops.{known_ops}
use Rattle.dt_known.specs.Laws.Bits.{all_from_bits, known_all}
use Rattle.dt_known.specs.Laws.Agreement.{some_not, some_and, some_or, some_xor, some_sum, some_carry, some_ite}

some_carry_into : (c : Bool) (f g : ℕ → Option Bool) (w i : ℕ) → ((j : ℕ) → j < w → is_some (f j) ≡ true) → ((j : ℕ) → j < w → is_some (g j) ≡ true) → i ≤ w → is_some (carry_into c f g i) ≡ true
unfolding carry_into
some_carry_into c f g w zero s t h = refl
some_carry_into c f g w (suc i) s t h =
    some_carry (f i) (g i) (carry_into c f g i) (s i (omega arith)) (t i (omega arith)) (some_carry_into c f g w i s t (omega arith))

some_cond : (b : Bool) (o u : Option Bool) → (b ≡ true → is_some o ≡ true) → (b ≡ false → is_some u ≡ true) → is_some (cond b o u) ≡ true
some_cond true o u h k = h refl
some_cond false o u h k = k refl

-- each bit of f below w is known
abbrev Whole : ℕ → (ℕ → Option Bool) → Type 0
Whole w f = (i : ℕ) → i < w → is_some (f i) ≡ true

whole : (a : Known) → IsAllKnown known_ops a → Whole a.width.0 (known_bit a)
whole a h i l = known_all a i h.1 l

whole_is : (w : ℕ) (f : ℕ → Option Bool) → Whole w f → all_known w f ≡ true
whole_is w f h = ap not (none_below_from w (λ i. not (is_some (f i))) (λ i l. ap not (h i l)))

whole_at : (a b : Known) → IsAllKnown known_ops b → eqb a.width.0 b.width.0 ≡ true → Whole a.width.0 (known_bit b)
whole_at a b h e = subst (λ w. Whole w (known_bit b)) (sym (eqb-true _ _ e)) (whole b h)

forward_whole : (op : Op) (a b c : Known) → Fitting known_ops op a b c → AreUsedKnown known_ops op a b c
    → Whole (width_after op a b c).0 (forward_bit op a b c)
forward_whole (Const value) a b c f u = λ i l. refl
forward_whole Not a b c f u = λ i l. some_not (known_bit a i) (whole a (u.first (lit< tt)) i l)
forward_whole And a b c f u = let e = f.fits in λ i l.
    some_and (known_bit a i) (known_bit b i) (whole a (u.first (lit< tt)) i l) (whole_at a b (u.second (lit< tt)) e i l)
forward_whole Or a b c f u = let e = f.fits in λ i l.
    some_or (known_bit a i) (known_bit b i) (whole a (u.first (lit< tt)) i l) (whole_at a b (u.second (lit< tt)) e i l)
forward_whole Xor a b c f u = let e = f.fits in λ i l.
    some_xor (known_bit a i) (known_bit b i) (whole a (u.first (lit< tt)) i l) (whole_at a b (u.second (lit< tt)) e i l)
forward_whole Add a b c f u = let e = f.fits in λ i l.
    let s = whole a (u.first (lit< tt)) in let t = whole_at a b (u.second (lit< tt)) e in
    some_sum (known_bit a i) (known_bit b i) _ (s i l) (t i l) (some_carry_into false (known_bit a) (known_bit b) a.width.0 i s t (omega arith))
forward_whole Sub a b c f u = let e = f.fits in λ i l.
    let s = whole a (u.first (lit< tt)) in let t = whole_at a b (u.second (lit< tt)) e in
    let n : Whole a.width.0 (λ j. not_bit (known_bit b j)) = λ j m. some_not (known_bit b j) (t j m) in
    some_sum (known_bit a i) (not_bit (known_bit b i)) _ (s i l) (n i l) (some_carry_into true (known_bit a) (λ j. not_bit (known_bit b j)) a.width.0 i s n (omega arith))
forward_whole (Slice hi lo) a b c f u = let e = f.fits in λ i l.
    let t = and_parts (leb lo hi) (ltb hi a.width.0) e in let s = leb-true _ _ t.0 in let v = ltb-true _ _ t.1 in
    whole a (u.first (lit< tt)) (lo + i) (omega arith)
forward_whole Concat a b c f u = let e = f.fits in λ i l.
    some_cond (ltb i b.width.0) (known_bit b i) (known_bit a (i - b.width.0)) (λ t. whole b (u.second (lit< tt)) i (ltb-true _ _ t))
    (λ t. let s = ltb-false _ _ t in whole a (u.first (lit< tt)) (i - b.width.0) (omega arith))
forward_whole (SignExt to) a b c f u = let e = f.fits in λ i l.
    let one = f.a_is.width.0 in
    whole a (u.first (lit< tt)) (min i (a.width.0 - 1)) (omega arith)
forward_whole (Shl by) a b c f u = let e = f.fits in λ i l.
    some_cond (ltb i by) (Some false) (known_bit a (i - by)) (λ t. refl) (λ t. whole a (u.first (lit< tt)) (i - by) (omega arith))
forward_whole (Shr by) a b c f u = let e = f.fits in λ i l.
    some_cond (ltb (by + i) a.width.0) (known_bit a (by + i)) (Some false) (λ t. whole a (u.first (lit< tt)) (by + i) (ltb-true _ _ t)) (λ t. refl)
forward_whole Eq a b c f u = let e = f.fits in λ i l.
    some_cond (some_below a.width.0 (λ i. clash (known_bit a i) (known_bit b i))) (Some false) _ (λ t. refl)
    (λ t. some_cond (all_known a.width.0 (known_bit a) && all_known b.width.0 (known_bit b)) (Some true) None (λ _. refl)
    (λ q. absurd (false≢true (sym q ∙ and_both _ _ (whole_is a.width.0 _ (whole a (u.first (lit< tt)))) (whole_is b.width.0 _ (whole b (u.second (lit< tt))))))))
  where
    and_both : (s t : Bool) → s ≡ true → t ≡ true → (s && t) ≡ true
    and_both s t e d = grind arith
forward_whole Ltu a b c f u = let e = f.fits in λ i l.
    let m = (u.first (lit< tt)).1 in
    let n = (u.second (lit< tt)).1 in
    let s : a.value + (2 ^ a.width.0 - 1 - a.mask) ≡ a.value = omega arith in
    let t : b.value + (2 ^ b.width.0 - 1 - b.mask) ≡ b.value = omega arith in
    some_cond (ltb (greatest a) b.value) (Some true) _ (λ _. refl)
    (λ u. some_cond (leb (greatest b) a.value) (Some false) None (λ v. refl)
    (λ v. let x = ltb-false _ _ u in let y = leb-false _ _ v in absurd (omega arith)))
forward_whole Ite a b c f u = let e = f.fits in λ i l.
    let s = and_parts (eqb a.width.0 1) (eqb b.width.0 c.width.0) e in
    some_ite (known_bit a 0) (known_bit b i) (known_bit c i) (whole a (u.first (lit< tt)) 0 (omega (arith, f.a_is.width.0))) (whole b (u.second (lit< tt)) i l) (whole_at b c (u.third (lit< tt)) s.1 i l)

-- known operands give a known result
pub forward_known : (op : Op) (a b c : Known) → Fitting known_ops op a b c → AreUsedKnown known_ops op a b c → IsAllKnown known_ops (known_forward op a b c)
forward_known op a b c f u =
    let e = none_used op a.empty b.empty c.empty (λ l. (u.first l).0) (λ l. (u.second l).0) (λ l. (u.third l).0) in
    subst (IsAllKnown known_ops)
    (sym (cond-false (some_used_empty op a b c) (nothing (width_after op a b c)) (from_bits (width_after op a b c) (forward_bit op a b c)) e))
    (refl, all_from_bits (width_after op a b c) (forward_bit op a b c) (forward_whole op a b c f u))
