-- The tables of forward agree with the operators' values, bit by bit.
use Rattle.std.proofs.Common.{◌≡◌, ℕ, zero, suc, ◌+◌, ◌-◌, ◌*◌, ◌/◌, ◌%◌, ◌^◌, ◌<◌, ◌≤◌, Bool, true, false, not, ◌&&◌, cond, eqb, ltb, leb, bit_and, bit_or, bit_xor, Option, Some, None, is_some, refl, sym, ap, ◌∙◌, subst, ⊎_elim, min, lit<, arith}
use Rattle.std.proofs.lemmas.Bool.{cases_lt, cond_both, and_parts, lt-ltb, le-ltb, ltb-true, ltb-false, eqb-true, leb-true, eq-eqb, ne_eqb, not-true, not-false}
use Rattle.std.proofs.lemmas.Nat.{pow_pos, mod_below, and_le_l, or_lt, xor_lt, and-not, shr_le, pow-add, mul-add-lt, and_comm}
use Rattle.dt_lemmas.proofs.Powers.{wider, spread_over}
use Rattle.dt_bits.specs.Bits.{bit, differs, carry_at, some_below}
use Rattle.dt_bits.specs.declared.op.Op.{Op}
use Rattle.dt_bits.specs.declared.op.Op.TheVariants.{Const, Not, And, Or, Xor, Add, Sub, Slice, Concat, SignExt, Shl, Shr, Eq, Ltu, Ite}
use Rattle.dt_bits.proofs.BitLemmas.{same_bits, bit_of_and, bit_of_or, bit_of_xor, bit_of_mod, bit_of_shr, bit_of_shl_low, bit_of_shl_high, bit_of_low, bit_of_high, bit_of_ones, bit_above, bit_of_zero, bit_of_small, bit_of_complement, top_bit_is}
use Rattle.dt_bits.proofs.Sums.{bit_of_sum}
use Rattle.dt_bits.proofs.Below.{none_below, found_below}
use Rattle.dt_domain.specs.Domain.{Fitting, HoldUsed, value_at}
use Rattle.dt_known.specs.declared.Known.{Known}
use Rattle.dt_known.specs.Known.{known_bit, clash, all_known, are_apart}
use Rattle.dt_known.specs.Forward.{forward_bit, not_bit, and_bit, or_bit, xor_bit, carry_into, sum_at, difference_at, ltu_bit, ite_bit, greatest, width_after}
use Rattle.dt_known.specs.Ops.{known_ops}
use Rattle.dt_known.specs.Laws.Bits.{Agrees, Tells, Held, held}
use Rattle.dt_known.specs.Laws.Agreement.{agree_not, agree_and, agree_or, agree_xor, agree_carry, agree_ite, clash_differs, known_same, agree_cond}

-- the number fits w bits, and each bit agrees with what f says
pub record Right (w : ℕ) (f : ℕ → Option Bool) (n : ℕ) : Type 0 where
  pub fits : n < 2 ^ w
  pub agrees : (i : ℕ) → i < w → Agrees (f i) (bit n i)

-- where bit n i is b
at : (o : Option Bool) (n i : ℕ) (b : Bool) → bit n i ≡ b → Agrees o b → Agrees o (bit n i)
at o n i b e h = subst (λ c. Agrees o c) (sym e) h

pub right_not : (w x : ℕ) (f : ℕ → Option Bool) → x < 2 ^ w → Tells w f x → Right w (λ i. not_bit (f i)) (2 ^ w - 1 - x)
right_not w x f h t = record {
  fits = omega (arith, pow_pos w);
  agrees = λ i l. at _ _ i _ (bit_of_complement w x i h l) (agree_not (f i) (bit x i) (t i l));
}

-- ---- sums

agree_carry_into : (c : Bool) (f g : ℕ → Option Bool) (x y w i : ℕ) → Tells w f x → Tells w g y → i ≤ w → Agrees (carry_into c f g i) (carry_at c x y i)
unfolding carry_into carry_at
agree_carry_into c f g x y w zero s t h = refl
agree_carry_into c f g x y w (suc i) s t h =
    agree_carry (f i) (g i) (carry_into c f g i) (bit x i) (bit y i) (carry_at c x y i) (s i (omega arith)) (t i (omega arith)) (agree_carry_into c f g x y w i s t (omega arith))

-- the sum of x, y and a carry
pub right_sum : (w x y : ℕ) (c : Bool) (f g : ℕ → Option Bool) → Tells w f x → Tells w g y
    → Right w (sum_at c f g) ((x + y + cond c 1 0) % 2 ^ w)
right_sum w x y c f g s t = record {
  fits = mod_below _ (2 ^ w) (pow_pos w);
  agrees = λ i l. at _ _ i _ (bit_of_mod (x + y + cond c 1 0) w i l ∙ bit_of_sum c x y i)
      (agree_xor (xor_bit (f i) (g i)) (carry_into c f g i) (differs (bit x i) (bit y i)) (carry_at c x y i)
      (agree_xor (f i) (g i) (bit x i) (bit y i) (s i l) (t i l))
      (agree_carry_into c f g x y w i s t (omega arith)));
}

pub right_add : (w x y : ℕ) (f g : ℕ → Option Bool) → Tells w f x → Tells w g y → Right w (sum_at false f g) ((x + y) % 2 ^ w)
right_add w x y f g s t =
    let e : x + y + 0 ≡ x + y = omega arith in
    subst (λ n. Right w (sum_at false f g) (n % 2 ^ w)) e (right_sum w x y false f g s t)

pub right_sub : (w x y : ℕ) (f g : ℕ → Option Bool) → y < 2 ^ w → Tells w f x → Tells w g y
    → Right w (difference_at f g) ((x + 2 ^ w - y) % 2 ^ w)
right_sub w x y f g h s t =
    let e : x + (2 ^ w - 1 - y) + 1 ≡ x + 2 ^ w - y = omega arith in
    subst (λ n. Right w (difference_at f g) (n % 2 ^ w)) e
    (right_sum w x (2 ^ w - 1 - y) true f (λ j. not_bit (g j)) s (right_not w y g h t).agrees)

-- ---- moved bits

pub right_slice : (n lo x : ℕ) (f : ℕ → Option Bool) → ((i : ℕ) → Agrees (f i) (bit x i)) → Right n (λ i. f (lo + i)) (x / 2 ^ lo % 2 ^ n)
right_slice n lo x f t = record {
  fits = mod_below _ (2 ^ n) (pow_pos n);
  agrees = λ i l. at _ _ i _ (bit_of_mod (x / 2 ^ lo) n i l ∙ bit_of_shr x lo i) (t (lo + i));
}

pub right_concat : (v w x y : ℕ) (f g : ℕ → Option Bool) → x < 2 ^ v → y < 2 ^ w → ((i : ℕ) → Agrees (f i) (bit x i)) → ((i : ℕ) → Agrees (g i) (bit y i))
    → Right (v + w) (λ i. cond (ltb i w) (g i) (f (i - w))) (x * 2 ^ w + y)
right_concat v w x y f g hx hy s t = record {
  fits = omega (arith, mul-add-lt x (2 ^ w) y (2 ^ v) hx hy, pow-add 2 v w);
  agrees = λ i l. agree_cond (ltb i w) (g i) (f (i - w)) _
      (λ e. at _ _ i _ (bit_of_low x w y i (ltb-true i w e)) (t i))
      (λ e. at _ _ i _ (bit_of_high x w y i hy (ltb-false i w e)) (s (i - w)));
}

pub right_shl : (w k x : ℕ) (f : ℕ → Option Bool) → ((i : ℕ) → Agrees (f i) (bit x i)) → Right w (λ i. cond (ltb i k) (Some false) (f (i - k))) (x * 2 ^ k % 2 ^ w)
right_shl w k x f t = record {
  fits = mod_below _ (2 ^ w) (pow_pos w);
  agrees = λ i l. agree_cond (ltb i k) (Some false) (f (i - k)) _
      (λ e. sym (bit_of_mod (x * 2 ^ k) w i l ∙ bit_of_shl_low x k i (ltb-true i k e)))
      (λ e. at _ _ i _ (bit_of_mod (x * 2 ^ k) w i l ∙ bit_of_shl_high x k i (ltb-false i k e)) (t (i - k)));
}

pub right_shr : (w k x : ℕ) (f : ℕ → Option Bool) → x < 2 ^ w → ((i : ℕ) → Agrees (f i) (bit x i)) → Right w (λ i. cond (ltb (k + i) w) (f (k + i)) (Some false)) (x / 2 ^ k)
right_shr w k x f h t = record {
  fits = omega (arith, shr_le x k);
  agrees = λ i l. agree_cond (ltb (k + i) w) (f (k + i)) (Some false) _
      (λ e. at _ _ i _ (bit_of_shr x k i) (t (k + i)))
      (λ e. sym (bit_of_shr x k i ∙ bit_above x w (k + i) h (ltb-false (k + i) w e)));
}

-- ---- tests

pub bit_of_flag : (p : Bool) (i : ℕ) → i < 1 → bit (cond p 1 0) i ≡ p
bit_of_flag true i h = bit_of_ones 1 i h
bit_of_flag false i h = bit_of_zero i

pub right_flag : (o : Option Bool) (p : Bool) → Agrees o p → Right 1 (λ i. o) (cond p 1 0)
right_flag o p h = record {
  fits = cond_both p 1 0 (λ n. n < 2) (λ _. omega arith) (λ _. omega arith);
  agrees = λ i l. at o _ i _ (bit_of_flag p i l) h;
}

at_min : (f : ℕ → Option Bool) (i j : ℕ) (p : Bool) → min i j ≡ i → Agrees (f i) p → Agrees (f (min i j)) p
at_min f i j p e h = subst (λ k. Agrees (f k) p) (sym e) h

at_top : (f : ℕ → Option Bool) (i j : ℕ) (p : Bool) → min i j ≡ j → Agrees (f j) p → Agrees (f (min i j)) p
at_top f i j p e h = subst (λ k. Agrees (f k) p) (sym e) h

sign_agrees : (w to x i : ℕ) (f : ℕ → Option Bool) (b : Bool) → bit x (w - 1) ≡ b → 1 ≤ w → w ≤ to → x < 2 ^ w → i < to → ((i : ℕ) → Agrees (f i) (bit x i))
    → Agrees (f (min i (w - 1))) (bit (cond b (x + (2 ^ to - 2 ^ w)) x) i)
sign_agrees w to x i f false e one le h l t =
    ⊎_elim (λ (s : i < w). at_min f i (w - 1) _ (omega arith) (t i))
    (λ (s : w ≤ i). at_top f i (w - 1) _ (omega arith) (at _ x i _ (bit_above x w i h s ∙ sym e) (t (w - 1))))
    (cases_lt i w)
sign_agrees w to x i f true e one le h l t =
    let n = x + (2 ^ to - 2 ^ w) in
    let d = spread_over w to x le in
    ⊎_elim
    (λ (s : i < w). at_min f i (w - 1) _ (omega arith) (at _ n i _ (ap (λ m. bit m i) (sym d) ∙ bit_of_low (2 ^ (to - w) - 1) w x i s) (t i)))
    (λ (s : w ≤ i). at_top f i (w - 1) _ (omega arith)
    (at _ n i _ (ap (λ m. bit m i) (sym d) ∙ bit_of_high (2 ^ (to - w) - 1) w x i h s ∙ bit_of_ones (to - w) (i - w) (omega arith) ∙ sym e) (t (w - 1))))
    (cases_lt i w)

-- the bits below the top stay, and the new bits are as the top bit
pub right_sign : (w to x : ℕ) (f : ℕ → Option Bool) → 1 ≤ w → w ≤ to → x < 2 ^ w → ((i : ℕ) → Agrees (f i) (bit x i))
    → Right to (λ i. f (min i (w - 1))) (cond (bit x (w - 1)) (x + (2 ^ to - 2 ^ w)) x)
right_sign w to x f one le h t = record {
  fits = let g = wider w to le in cond_both (bit x (w - 1)) (x + (2 ^ to - 2 ^ w)) x (λ n. n < 2 ^ to) (λ _. omega arith) (λ _. omega arith);
  agrees = λ i l. sign_agrees w to x i f (bit x (w - 1)) refl one le h l t;
}

-- the equality test
pub right_eq : (w x y : ℕ) (f g : ℕ → Option Bool) → x < 2 ^ w → y < 2 ^ w → Tells w f x → Tells w g y
    → Right 1 (λ i. cond (some_below w (λ j. clash (f j) (g j))) (Some false) (cond (all_known w f && all_known w g) (Some true) None)) (cond (eqb x y) 1 0)
right_eq w x y f g hx hy s t = right_flag _ (eqb x y) (agree_cond (some_below w (λ j. clash (f j) (g j))) (Some false) _ (eqb x y)
    (λ e. let k = found_below w (λ j. clash (f j) (g j)) e in
    sym (ne_eqb x y (λ d. clash_differs (f k.0) (g k.0) (bit x k.0) (bit y k.0) (s k.0 k.1) (t k.0 k.1) k.2 (ap (λ n. bit n k.0) d))))
    (λ e. agree_cond (all_known w f && all_known w g) (Some true) None (eqb x y)
    (λ k. let p = and_parts (all_known w f) (all_known w g) k in
    sym (eq-eqb x y (same_bits w x y hx hy (λ i l. known_same (f i) (g i) (bit x i) (bit y i) (s i l) (t i l)
    (none_below w (λ j. clash (f j) (g j)) i e l)
    (not-false _ (none_below w (λ j. not (is_some (f j))) i (not-true _ p.0) l))
    (not-false _ (none_below w (λ j. not (is_some (g j))) i (not-true _ p.1) l))))))
    (λ _. tt)))

-- ---- the order

pub within_least : (a : Known) (x : ℕ) → bit_and x a.mask ≡ a.value → a.value ≤ x
within_least a x e = omega (arith, and_le_l x a.mask)

pub within_greatest : (a : Known) (x : ℕ) → a.mask < 2 ^ a.width.0 → x < 2 ^ a.width.0 → bit_and x a.mask ≡ a.value → x ≤ greatest a
within_greatest a x m h e =
    omega (arith, and-not a.width.0 a.mask x m h, and_comm a.mask x, and_le_l (2 ^ a.width.0 - 1 - a.mask) x)

pub right_ltu : (a b : Known) (x y : ℕ) → a.mask < 2 ^ a.width.0 → b.mask < 2 ^ b.width.0 → Held a x → Held b y
    → Right 1 (λ i. ltu_bit a b) (cond (ltb x y) 1 0)
right_ltu a b x y ma mb hx hy =
    let lx = within_least a x hx.masked in
    let gx = within_greatest a x ma hx.fits hx.masked in
    let ly = within_least b y hy.masked in
    let gy = within_greatest b y mb hy.fits hy.masked in
    right_flag (ltu_bit a b) (ltb x y) (agree_cond (ltb (greatest a) b.value) (Some true) _ (ltb x y)
    (λ e. let l : greatest a < b.value = ltb-true _ _ e in sym (lt-ltb x y (omega arith)))
    (λ _. agree_cond (leb (greatest b) a.value) (Some false) None (ltb x y)
    (λ e. let l : greatest b ≤ a.value = leb-true _ _ e in sym (le-ltb x y (omega arith)))
    (λ _. tt)))

-- ---- the choice

first_bit : (x : ℕ) → x < 2 → eqb x 1 ≡ bit x 0
first_bit x h = sym (bit_of_small x h)

pub right_ite : (w x y z : ℕ) (o : Option Bool) (f g : ℕ → Option Bool) → x < 2 → y < 2 ^ w → z < 2 ^ w → Agrees o (bit x 0) → Tells w f y → Tells w g z
    → Right w (λ i. ite_bit o (f i) (g i)) (cond (eqb x 1) y z)
right_ite w x y z o f g hx hy hz r s t = record {
  fits = cond_both (eqb x 1) y z (λ n. n < 2 ^ w) (λ _. hy) (λ _. hz);
  agrees = λ i l. at _ _ i (cond (eqb x 1) (bit y i) (bit z i)) (spread (eqb x 1) y z i)
      (subst (λ b. Agrees (ite_bit o (f i) (g i)) (cond b (bit y i) (bit z i))) (sym (first_bit x hx)) (agree_ite o (f i) (g i) (bit x 0) (bit y i) (bit z i) r (s i l) (t i l)));
}
  where
    spread : (b : Bool) (y z i : ℕ) → bit (cond b y z) i ≡ cond b (bit y i) (bit z i)
    spread true y z i = refl
    spread false y z i = refl

pub right_and : (w x y : ℕ) (f g : ℕ → Option Bool) → x < 2 ^ w → Tells w f x → Tells w g y → Right w (λ i. and_bit (f i) (g i)) (bit_and x y)
right_and w x y f g h s t = record {
  fits = omega (arith, and_le_l x y);
  agrees = λ i l. at _ _ i _ (bit_of_and x y i) (agree_and (f i) (g i) (bit x i) (bit y i) (s i l) (t i l));
}

pub right_or : (w x y : ℕ) (f g : ℕ → Option Bool) → x < 2 ^ w → y < 2 ^ w → Tells w f x → Tells w g y → Right w (λ i. or_bit (f i) (g i)) (bit_or x y)
right_or w x y f g h k s t = record {
  fits = or_lt w x y h k;
  agrees = λ i l. at _ _ i _ (bit_of_or x y i) (agree_or (f i) (g i) (bit x i) (bit y i) (s i l) (t i l));
}

pub right_xor : (w x y : ℕ) (f g : ℕ → Option Bool) → x < 2 ^ w → y < 2 ^ w → Tells w f x → Tells w g y → Right w (λ i. xor_bit (f i) (g i)) (bit_xor x y)
right_xor w x y f g h k s t = record {
  fits = xor_lt w x y h k;
  agrees = λ i l. at _ _ i _ (bit_of_xor x y i) (agree_xor (f i) (g i) (bit x i) (bit y i) (s i l) (t i l));
}

-- ---- all operators

pub same_width : (b : Known) (y n : ℕ) → Held b y → n ≡ b.width.0 → y < 2 ^ n
same_width b y n h e = subst (λ w. y < 2 ^ w) (sym e) h.fits

abbrev Right_of : Op → Known → Known → Known → ℕ → ℕ → ℕ → Type 0
Right_of op a b c x y z = Right (width_after op a b c).0 (forward_bit op a b c) (value_at known_ops op a b c x y z)

pub forward_right : (op : Op) (a b c : Known) (x y z : ℕ) → Fitting known_ops op a b c → HoldUsed known_ops op a b c x y z → Right_of op a b c x y z
forward_right (Const value) a b c x y z f u = record { fits = f.op_is.1; agrees = λ i l. refl }
forward_right Not a b c x y z f u =
    let h = held a x f.a_is (u.first (lit< tt)) in
    right_not a.width.0 x (known_bit a) h.fits (λ i _. h.agrees i)
forward_right And a b c x y z f u =
    let h = held a x f.a_is (u.first (lit< tt)) in
    let k = held b y f.b_is (u.second (lit< tt)) in
    right_and a.width.0 x y (known_bit a) (known_bit b) h.fits (λ i _. h.agrees i) (λ i _. k.agrees i)
forward_right Or a b c x y z f u =
    let h = held a x f.a_is (u.first (lit< tt)) in
    let k = held b y f.b_is (u.second (lit< tt)) in
    right_or a.width.0 x y (known_bit a) (known_bit b) h.fits (same_width b y a.width.0 k (eqb-true _ _ f.fits)) (λ i _. h.agrees i) (λ i _. k.agrees i)
forward_right Xor a b c x y z f u =
    let h = held a x f.a_is (u.first (lit< tt)) in
    let k = held b y f.b_is (u.second (lit< tt)) in
    right_xor a.width.0 x y (known_bit a) (known_bit b) h.fits (same_width b y a.width.0 k (eqb-true _ _ f.fits)) (λ i _. h.agrees i) (λ i _. k.agrees i)
forward_right Add a b c x y z f u =
    let h = held a x f.a_is (u.first (lit< tt)) in
    let k = held b y f.b_is (u.second (lit< tt)) in
    right_add a.width.0 x y (known_bit a) (known_bit b) (λ i _. h.agrees i) (λ i _. k.agrees i)
forward_right Sub a b c x y z f u =
    let h = held a x f.a_is (u.first (lit< tt)) in
    let k = held b y f.b_is (u.second (lit< tt)) in
    right_sub a.width.0 x y (known_bit a) (known_bit b) (same_width b y a.width.0 k (eqb-true _ _ f.fits)) (λ i _. h.agrees i) (λ i _. k.agrees i)
forward_right (Slice hi lo) a b c x y z f u =
    let h = held a x f.a_is (u.first (lit< tt)) in
    right_slice (hi - lo + 1) lo x (known_bit a) h.agrees
forward_right Concat a b c x y z f u =
    let h = held a x f.a_is (u.first (lit< tt)) in
    let k = held b y f.b_is (u.second (lit< tt)) in
    right_concat a.width.0 b.width.0 x y (known_bit a) (known_bit b) h.fits k.fits h.agrees k.agrees
forward_right (SignExt to) a b c x y z f u =
    let h = held a x f.a_is (u.first (lit< tt)) in
    let one = f.a_is.width.0 in
    subst (λ t. Right to (λ i. known_bit a (min i (a.width.0 - 1))) (cond t (x + (2 ^ to - 2 ^ a.width.0)) x)) (top_bit_is a.width.0 x one h.fits)
    (right_sign a.width.0 to x (known_bit a) one (leb-true _ _ (and_parts _ _ f.fits).0) h.fits h.agrees)
forward_right (Shl by) a b c x y z f u =
    let h = held a x f.a_is (u.first (lit< tt)) in
    right_shl a.width.0 by x (known_bit a) h.agrees
forward_right (Shr by) a b c x y z f u =
    let h = held a x f.a_is (u.first (lit< tt)) in
    right_shr a.width.0 by x (known_bit a) h.fits h.agrees
forward_right Eq a b c x y z f u =
    let h = held a x f.a_is (u.first (lit< tt)) in
    let k = held b y f.b_is (u.second (lit< tt)) in
    let s : a.width.0 ≡ b.width.0 = eqb-true _ _ f.fits in
    subst (λ w. Right 1 (λ i. cond (are_apart a b) (Some false) (cond (all_known a.width.0 (known_bit a) && all_known w (known_bit b)) (Some true) None)) (cond (eqb x y) 1 0)) s
    (right_eq a.width.0 x y (known_bit a) (known_bit b) h.fits (same_width b y a.width.0 k s) (λ i _. h.agrees i) (λ i _. k.agrees i))
forward_right Ltu a b c x y z f u =
    let h = held a x f.a_is (u.first (lit< tt)) in
    let k = held b y f.b_is (u.second (lit< tt)) in
    right_ltu a b x y f.a_is.mask_fits f.b_is.mask_fits h k
forward_right Ite a b c x y z f u =
    let h = held a x f.a_is (u.first (lit< tt)) in
    let k = held b y f.b_is (u.second (lit< tt)) in
    let l = held c z f.c_is (u.third (lit< tt)) in
    let s = and_parts (eqb a.width.0 1) (eqb b.width.0 c.width.0) f.fits in
    let one : a.width.0 ≡ 1 = eqb-true _ _ s.0 in
    right_ite b.width.0 x y z (known_bit a 0) (known_bit b) (known_bit c) (subst (λ w. x < 2 ^ w) one h.fits) k.fits (same_width c z b.width.0 l (eqb-true _ _ s.1)) (h.agrees 0) (λ i _. k.agrees i) (λ i _. l.agrees i)
