-- Where an operator fits: its result's width is a width, its value fits it, and both are those of the operands that it uses.
use Rattle.std.proofs.Common.{◌≡◌, ℕ, ◌+◌, ◌-◌, ◌^◌, ◌<◌, ◌≤◌, Bool, true, false, ◌&&◌, cond, eqb, ltb, leb, refl, sym, ap, ◌∙◌, subst, lit<, lit≤, arith}
use Rattle.std.proofs.lemmas.Bool.{cond_both, and_parts, or_from, eqb-true, leb-true, ltb-true}
use Rattle.dt_lemmas.proofs.Booleans.{and_where}
use Rattle.std.proofs.lemmas.Nat.{pow_pos, and_le_l, or_lt, xor_lt, mod_below, shr_le}
use Rattle.std.proofs.Math.Nat.{pow-le-pow_right}
use Rattle.dt_bits.specs.Bits.{IsWidth, IsValue}
use Rattle.dt_bits.specs.Ops.{IsOp, arity_of, fits_at, fits_of, width_of, value_of, some_used}
use Rattle.dt_bits.specs.declared.op.Op.{Op}
use Rattle.dt_bits.specs.declared.op.Op.TheVariants.{Const, Not, And, Or, Xor, Add, Sub, Slice, Concat, SignExt, Shl, Shr, Eq, Ltu, Ite}
use Rattle.dt_bits.specs.declared.value.Bv.{Bv}
use Rattle.dt_lemmas.proofs.Powers.{joined_fits, extended_fits, flag_fits}

-- equal operands, where they are used, have equal values
pub value_used : (op : Op) (a b c d e f : Bv)
    → (0 < arity_of op → a ≡ d) → (1 < arity_of op → b ≡ e) → (2 < arity_of op → c ≡ f)
    → value_of op a b c ≡ value_of op d e f
value_used (Const value) a b c d e f p q r = refl
value_used Not a b c d e f p q r = ap (λ v. value_of Not v b c) (p (lit< tt))
value_used And a b c d e f p q r = ap (λ v. value_of And v b c) (p (lit< tt)) ∙ ap (λ v. value_of And d v c) (q (lit< tt))
value_used Or a b c d e f p q r = ap (λ v. value_of Or v b c) (p (lit< tt)) ∙ ap (λ v. value_of Or d v c) (q (lit< tt))
value_used Xor a b c d e f p q r = ap (λ v. value_of Xor v b c) (p (lit< tt)) ∙ ap (λ v. value_of Xor d v c) (q (lit< tt))
value_used Add a b c d e f p q r = ap (λ v. value_of Add v b c) (p (lit< tt)) ∙ ap (λ v. value_of Add d v c) (q (lit< tt))
value_used Sub a b c d e f p q r = ap (λ v. value_of Sub v b c) (p (lit< tt)) ∙ ap (λ v. value_of Sub d v c) (q (lit< tt))
value_used (Slice hi lo) a b c d e f p q r = ap (λ v. value_of (Slice hi lo) v b c) (p (lit< tt))
value_used Concat a b c d e f p q r = ap (λ v. value_of Concat v b c) (p (lit< tt)) ∙ ap (λ v. value_of Concat d v c) (q (lit< tt))
value_used (SignExt to) a b c d e f p q r = ap (λ v. value_of (SignExt to) v b c) (p (lit< tt))
value_used (Shl by) a b c d e f p q r = ap (λ v. value_of (Shl by) v b c) (p (lit< tt))
value_used (Shr by) a b c d e f p q r = ap (λ v. value_of (Shr by) v b c) (p (lit< tt))
value_used Eq a b c d e f p q r = ap (λ v. value_of Eq v b c) (p (lit< tt)) ∙ ap (λ v. value_of Eq d v c) (q (lit< tt))
value_used Ltu a b c d e f p q r = ap (λ v. value_of Ltu v b c) (p (lit< tt)) ∙ ap (λ v. value_of Ltu d v c) (q (lit< tt))
value_used Ite a b c d e f p q r =
    ap (λ v. value_of Ite v b c) (p (lit< tt)) ∙ ap (λ v. value_of Ite d v c) (q (lit< tt)) ∙ ap (λ v. value_of Ite d e v) (r (lit< tt))

-- b's number fits a's width, where the widths are equal
alike : (a b : Bv) → IsValue b → eqb a.width.0 b.width.0 ≡ true → b.bits < 2 ^ a.width.0
alike a b h e = subst (λ w. b.bits < 2 ^ w) (sym (eqb-true _ _ e)) h.1

-- the value is below two to the result's width
pub value_fits : (op : Op) (a b c : Bv) → IsOp op → IsValue a → IsValue b → IsValue c → fits_at op a.width.0 b.width.0 c.width.0 ≡ true
    → value_of op a b c < 2 ^ width_of op a.width.0 b.width.0 c.width.0
value_fits (Const value) a b c o p q r f = o.1
value_fits Not a b c o p q r f = omega (arith, pow_pos a.width.0)
value_fits And a b c o p q r f = omega (arith, and_le_l a.bits b.bits, p.1)
value_fits Or a b c o p q r f = or_lt a.width.0 a.bits b.bits p.1 (alike a b q f)
value_fits Xor a b c o p q r f = xor_lt a.width.0 a.bits b.bits p.1 (alike a b q f)
value_fits Add a b c o p q r f = mod_below _ (2 ^ a.width.0) (pow_pos a.width.0)
value_fits Sub a b c o p q r f = mod_below _ (2 ^ a.width.0) (pow_pos a.width.0)
value_fits (Slice hi lo) a b c o p q r f = mod_below _ (2 ^ (hi - lo + 1)) (pow_pos (hi - lo + 1))
value_fits Concat a b c o p q r f = joined_fits a.bits a.width.0 b.bits b.width.0 p.1 q.1
value_fits (SignExt to) a b c o p q r f =
    extended_fits a.width.0 to a.bits (leb-true _ _ (and_parts (leb a.width.0 to) (leb to 128) f).0) p.1
value_fits (Shl by) a b c o p q r f = mod_below _ (2 ^ a.width.0) (pow_pos a.width.0)
value_fits (Shr by) a b c o p q r f = omega (arith, shr_le a.bits by, p.1)
value_fits Eq a b c o p q r f = flag_fits (eqb a.bits b.bits)
value_fits Ltu a b c o p q r f = flag_fits (ltb a.bits b.bits)
value_fits Ite a b c o p q r f =
    let s = and_parts (eqb a.width.0 1) (eqb b.width.0 c.width.0) f in
    cond_both (eqb a.bits 1) b.bits c.bits (λ n. n < 2 ^ b.width.0) (λ _. q.1) (λ _. alike b c r s.1)

-- the result's width is a width
pub result_is_width : (op : Op) (a b c : ℕ) → IsOp op → IsWidth a → IsWidth b → fits_at op a b c ≡ true → IsWidth (width_of op a b c)
result_is_width (Const value) a b c o p q f = o.0
result_is_width Not a b c o p q f = p
result_is_width And a b c o p q f = p
result_is_width Or a b c o p q f = p
result_is_width Xor a b c o p q f = p
result_is_width Add a b c o p q f = p
result_is_width Sub a b c o p q f = p
result_is_width (Slice hi lo) a b c o p q f =
    let l = ltb-true _ _ (and_parts (leb lo hi) (ltb hi a) f).1 in (omega arith, omega (arith, p.1))
result_is_width Concat a b c o p q f = (omega (arith, p.0), leb-true _ _ f)
result_is_width (SignExt to) a b c o p q f =
    let l = and_parts (leb a to) (leb to 128) f in let s = leb-true _ _ l.0 in (omega (arith, p.0), leb-true _ _ l.1)
result_is_width (Shl by) a b c o p q f = p
result_is_width (Shr by) a b c o p q f = p
result_is_width Eq a b c o p q f = (lit≤ tt, lit≤ tt)
result_is_width Ltu a b c o p q f = (lit≤ tt, lit≤ tt)
result_is_width Ite a b c o p q f = q

-- no operand that is used passes
pub none_used : (op : Op) (p q r : Bool) → (0 < arity_of op → p ≡ false) → (1 < arity_of op → q ≡ false) → (2 < arity_of op → r ≡ false)
    → some_used op p q r ≡ false
none_used op p q r f g h =
    or_from (ltb 0 (arity_of op) && p) _ (and_where (ltb 0 (arity_of op)) p (λ e. f (ltb-true _ _ e)))
    (or_from (ltb 1 (arity_of op) && q) (ltb 2 (arity_of op) && r) (and_where (ltb 1 (arity_of op)) q (λ e. g (ltb-true _ _ e)))
    (and_where (ltb 2 (arity_of op)) r (λ e. h (ltb-true _ _ e))))

-- no operator has more than three operands
pub arity_most : (op : Op) → arity_of op ≤ 3
arity_most (Const v) = omega arith
arity_most Not = omega arith
arity_most And = omega arith
arity_most Or = omega arith
arity_most Xor = omega arith
arity_most Add = omega arith
arity_most Sub = omega arith
arity_most (Slice hi lo) = omega arith
arity_most Concat = omega arith
arity_most (SignExt to) = omega arith
arity_most (Shl by) = omega arith
arity_most (Shr by) = omega arith
arity_most Eq = omega arith
arity_most Ltu = omega arith
arity_most Ite = omega arith

-- equal widths of the operands, where they are used, fit alike
pub fits_same : (op : Op) (a b c x y z : ℕ) → (0 < arity_of op → a ≡ x) → (1 < arity_of op → b ≡ y) → (2 < arity_of op → c ≡ z)
    → fits_of op a b c ≡ fits_of op x y z
fits_same (Const v) a b c x y z p q r = refl
fits_same Not a b c x y z p q r = let e : a ≡ x = p (omega arith) in cc
fits_same And a b c x y z p q r = let e : a ≡ x = p (omega arith) in let f : b ≡ y = q (omega arith) in cc
fits_same Or a b c x y z p q r = let e : a ≡ x = p (omega arith) in let f : b ≡ y = q (omega arith) in cc
fits_same Xor a b c x y z p q r = let e : a ≡ x = p (omega arith) in let f : b ≡ y = q (omega arith) in cc
fits_same Add a b c x y z p q r = let e : a ≡ x = p (omega arith) in let f : b ≡ y = q (omega arith) in cc
fits_same Sub a b c x y z p q r = let e : a ≡ x = p (omega arith) in let f : b ≡ y = q (omega arith) in cc
fits_same (Slice hi lo) a b c x y z p q r = let e : a ≡ x = p (omega arith) in cc
fits_same Concat a b c x y z p q r = let e : a ≡ x = p (omega arith) in let f : b ≡ y = q (omega arith) in cc
fits_same (SignExt to) a b c x y z p q r = let e : a ≡ x = p (omega arith) in cc
fits_same (Shl by) a b c x y z p q r = let e : a ≡ x = p (omega arith) in cc
fits_same (Shr by) a b c x y z p q r = let e : a ≡ x = p (omega arith) in cc
fits_same Eq a b c x y z p q r = let e : a ≡ x = p (omega arith) in let f : b ≡ y = q (omega arith) in cc
fits_same Ltu a b c x y z p q r = let e : a ≡ x = p (omega arith) in let f : b ≡ y = q (omega arith) in cc
fits_same Ite a b c x y z p q r =
    let e : a ≡ x = p (omega arith) in let f : b ≡ y = q (omega arith) in let g : c ≡ z = r (omega arith) in cc
