-- The tables of backward keep each operand that gives a held result.
use Rattle.std.proofs.Common.{◌≡◌, ℕ, zero, suc, ◌+◌, ◌-◌, ◌*◌, ◌/◌, ◌%◌, ◌^◌, ◌<◌, ◌≤◌, Bool, true, false, not, ◌&&◌, cond, eqb, ltb, leb, Option, Some, None, is_some, refl, sym, ap, ◌∙◌, subst, ⊎_elim, min, lit<, arith}
use Rattle.std.proofs.lemmas.Bool.{and_parts, ltb-true, eqb-true, eqb-false, leb-true, eq-eqb, false≢true, not-true, not-false, cases_Bool, false_from_ne_true, true_from_ne_false}
use Rattle.std.proofs.lemmas.Bool.Decides.{nat_tests}
use Rattle.std.proofs.lemmas.Nat.{pow_pos, mod_below}
use Rattle.dt_lemmas.proofs.Booleans.{and_turn, or_turn}
use Rattle.dt_bits.specs.Bits.{bit, differs, some_below}
use Rattle.dt_bits.specs.Ops.{fits_at}
use Rattle.dt_bits.specs.declared.value.Width.{Width}
use Rattle.dt_bits.specs.declared.op.Op.{Op}
use Rattle.dt_bits.specs.declared.op.Op.TheVariants.{Const, Not, And, Or, Xor, Add, Sub, Slice, Concat, SignExt, Shl, Shr, Eq, Ltu, Ite}
use Rattle.dt_bits.proofs.BitLemmas.{same_bits, bit_of_and, bit_of_or, bit_of_xor, bit_of_mod, bit_of_shr, bit_of_shl_high, bit_of_low, bit_of_high, bit_of_small, bit_of_complement, top_bit_is, differs_false, differs_turn}
use Rattle.dt_lemmas.proofs.Moduli.{sub_of_add, add_of_sub, sub_of_sub}
use Rattle.dt_bits.proofs.Below.{none_below, none_below_from, found_below}
use Rattle.dt_domain.specs.Domain.{FittingAt, HoldUsed, value_at, operand}
use Rattle.dt_known.specs.declared.Known.{Known}
use Rattle.dt_known.specs.Known.{known_holds, is_one, is_zero, known_bit, clash, all_known, are_apart}
use Rattle.dt_known.specs.Forward.{not_bit}
use Rattle.dt_known.specs.Backward.{backward_bit, has_conflict, apart_bit, is_only_unknown, eq_back, eq_conflict, some_one_from, some_zero_from, top_bit, test_bit}
use Rattle.dt_known.specs.Ops.{known_ops}
use Rattle.dt_known.specs.Laws.Bits.{Agrees, Held, held}
use Rattle.dt_known.specs.Laws.Agreement.{agree_and_back, agree_or_back, agree_xor_back, agree_where_one, agree_where_zero, agree_turned, no_clash, known_same, one_says, zero_says, agree_cond}
use Rattle.dt_known.specs.Laws.ForwardHolds.{bit_of_flag, right_add, right_sub, right_sign, same_width}

-- where bit n i is b
back : (o : Option Bool) (n i : ℕ) (b : Bool) → bit n i ≡ b → Agrees o (bit n i) → Agrees o b
back o n i b e h = subst (λ c. Agrees o c) e h

pub back_slice : (x lo hi i : ℕ) (f : ℕ → Option Bool) → ((j : ℕ) → Agrees (f j) (bit (x / 2 ^ lo % 2 ^ (hi - lo + 1)) j))
    → Agrees (cond (leb lo i && leb i hi) (f (i - lo)) None) (bit x i)
back_slice x lo hi i f t = agree_cond (leb lo i && leb i hi) (f (i - lo)) None _
    (λ e. let p = and_parts (leb lo i) (leb i hi) e in
    let l : lo ≤ i = leb-true _ _ p.0 in
    let h : i ≤ hi = leb-true _ _ p.1 in
    let s : lo + (i - lo) ≡ i = omega arith in
    back (f (i - lo)) _ (i - lo) _ (bit_of_mod (x / 2 ^ lo) (hi - lo + 1) (i - lo) (omega arith) ∙ bit_of_shr x lo (i - lo) ∙ ap (bit x) s) (t (i - lo)))
    (λ e. tt)

pub back_shl : (x w k i : ℕ) (f : ℕ → Option Bool) → ((j : ℕ) → Agrees (f j) (bit (x * 2 ^ k % 2 ^ w) j))
    → Agrees (cond (ltb (k + i) w) (f (k + i)) None) (bit x i)
back_shl x w k i f t = agree_cond (ltb (k + i) w) (f (k + i)) None _
    (λ e. let s : (k + i) - k ≡ i = omega arith in
    back (f (k + i)) _ (k + i) _ (bit_of_mod (x * 2 ^ k) w (k + i) (ltb-true _ _ e) ∙ bit_of_shl_high x k (k + i) (omega arith) ∙ ap (bit x) s) (t (k + i)))
    (λ e. tt)

pub back_shr : (x k i : ℕ) (f : ℕ → Option Bool) → ((j : ℕ) → Agrees (f j) (bit (x / 2 ^ k) j)) → Agrees (cond (leb k i) (f (i - k)) None) (bit x i)
back_shr x k i f t = agree_cond (leb k i) (f (i - k)) None _
    (λ e. let l : k ≤ i = leb-true _ _ e in
    let s : k + (i - k) ≡ i = omega arith in
    back (f (i - k)) _ (i - k) _ (bit_of_shr x k (i - k) ∙ ap (bit x) s) (t (i - k)))
    (λ e. tt)

pub back_high : (x y w i : ℕ) (o : Option Bool) → y < 2 ^ w → Agrees o (bit (x * 2 ^ w + y) (w + i)) → Agrees o (bit x i)
back_high x y w i o h t = let s : (w + i) - w ≡ i = omega arith in back o _ (w + i) _ (bit_of_high x w y (w + i) h (omega arith) ∙ ap (bit x) s) t

-- two Knowns that hold one number aren't apart
pub not_apart : (a b : Known) (x : ℕ) → Held a x → Held b x → are_apart a b ≡ false
not_apart a b x h k = none_below_from a.width.0 _ (λ i l. no_clash (known_bit a i) (known_bit b i) (bit x i) (h.agrees i) (k.agrees i))

pub back_apart : (a d : Known) (x y i : ℕ) → Held a x → Held d y → a.width.0 ≡ d.width.0 → (x ≡ y → ⊥) → Agrees (apart_bit a d i) (bit x i)
back_apart a d x y i h k w ne = agree_cond _ (not_bit (known_bit d i)) None (bit x i)
    (λ e.
    let p = and_parts (all_known d.width.0 (known_bit d)) _ e in
    let q = and_parts (not (are_apart a d)) (is_only_unknown a i) p.1 in
    let r = and_parts (not (is_some (known_bit a i))) _ q.1 in
    let others : some_below a.width.0 (λ j. not (eqb j i) && not (is_some (known_bit a j))) ≡ false = not-true _ r.1 in
    let apart : some_below a.width.0 (λ j. clash (known_bit a j) (known_bit d j)) ≡ false = not-true _ q.0 in
    let known : some_below d.width.0 (λ j. not (is_some (known_bit d j))) ≡ false = not-true _ p.0 in
    agree_turned (known_bit d i) (bit x i) (bit y i) (k.agrees i) (true_from_ne_false _ (λ s.
    let here : bit x i ≡ bit y i = differs_false _ _ s in
    ne (same_bits a.width.0 x y h.fits (same_width d y a.width.0 k w) (λ j l.
    ⊎_elim
    (λ (t : eqb j i ≡ true). subst (λ n. bit x n ≡ bit y n) (sym (eqb-true j i t)) here)
    (λ (t : eqb j i ≡ false).
    let m = none_below a.width.0 (λ j. not (eqb j i) && not (is_some (known_bit a j))) j others l in
    let u : is_some (known_bit a j) ≡ true = turn_known (eqb j i) (is_some (known_bit a j)) t m in
    known_same (known_bit a j) (known_bit d j) (bit x j) (bit y j) (h.agrees j) (k.agrees j)
    (none_below a.width.0 (λ j. clash (known_bit a j) (known_bit d j)) j apart l)
    u
    (not-false _ (none_below d.width.0 (λ j. not (is_some (known_bit d j))) j known (subst (λ n. j < n) w l))))
    (cases_Bool (eqb j i)))))))
    (λ _. tt)
  where
    turn_known : (t u : Bool) → t ≡ false → (not t && not u) ≡ false → u ≡ true
    turn_known t u e h = grind arith

-- the first operand of Ite
pub back_choice : (r b c : Known) (x y z : ℕ) → x < 2 → Held b y → Held c z → Held r (cond (eqb x 1) y z)
    → (are_apart r b && are_apart r c ≡ false) × Agrees (test_bit r b c) (bit x 0)
back_choice r b c x y z h k l m = subst (λ t. (are_apart r b && are_apart r c ≡ false) × Agrees (test_bit r b c) t) (sym (bit_of_small x h)) (by_choice (eqb x 1) m)
  where
    pick_true : (p q : Bool) → p ≡ false → (p && q ≡ false) × Agrees (cond p (Some false) (cond q (Some true) None)) true
    pick_true p q e = grind arith

    pick_false : (p q : Bool) → q ≡ false → (p && q ≡ false) × Agrees (cond p (Some false) (cond q (Some true) None)) false
    pick_false p q e = grind arith

    by_choice : (t : Bool) → Held r (cond t y z) → (are_apart r b && are_apart r c ≡ false) × Agrees (test_bit r b c) t
    by_choice true m = pick_true (are_apart r b) (are_apart r c) (not_apart r b y m k)
    by_choice false m = pick_false (are_apart r b) (are_apart r c) (not_apart r c z m l)

-- an operand of Eq, where d is the other
pub back_eq : (o : Option Bool) (a d : Known) (x y i : ℕ) (t : Bool) → t ≡ eqb x y → Agrees o t → Held a x → Held d y → a.width.0 ≡ d.width.0 → Agrees (eq_back o a d i) (bit x i)
back_eq (Some true) a d x y i t e g h k w =
    let s : x ≡ y = eqb-true x y (sym e ∙ sym g) in
    subst (λ n. Agrees (known_bit d i) (bit n i)) (sym s) (k.agrees i)
back_eq (Some false) a d x y i t e g h k w = back_apart a d x y i h k w (eqb-false x y (sym e ∙ sym g))
back_eq None a d x y i t e g h k w = tt

-- all known and equal as far as known: then equal
eq_known : (a d : Known) (x y : ℕ) → Held a x → Held d y → a.width.0 ≡ d.width.0
    → all_known a.width.0 (known_bit a) ≡ true → all_known d.width.0 (known_bit d) ≡ true → are_apart a d ≡ false → x ≡ y
eq_known a d x y h k w p q r = same_bits a.width.0 x y h.fits (same_width d y a.width.0 k w) (λ j l.
    known_same (known_bit a j) (known_bit d j) (bit x j) (bit y j) (h.agrees j) (k.agrees j)
    (none_below a.width.0 (λ j. clash (known_bit a j) (known_bit d j)) j r l)
    (not-false _ (none_below a.width.0 (λ j. not (is_some (known_bit a j))) j (not-true _ p) l))
    (not-false _ (none_below d.width.0 (λ j. not (is_some (known_bit d j))) j (not-true _ q) (subst (λ n. j < n) w l))))

pub no_eq_conflict : (o : Option Bool) (a d : Known) (x y : ℕ) (t : Bool) → t ≡ eqb x y → Agrees o t → Held a x → Held d y → a.width.0 ≡ d.width.0
    → eq_conflict o a d ≡ false
no_eq_conflict o a d x y t e g h k w = false_from_ne_true _ (λ c.
    let p = and_parts (is_zero o) _ c in
    let q = and_parts (all_known a.width.0 (known_bit a)) _ p.1 in
    let r = and_parts (all_known d.width.0 (known_bit d)) _ q.1 in
    let s : x ≡ y = eq_known a d x y h k w q.0 r.0 (not-true _ r.1) in
    let u : t ≡ false = zero_says o t g p.0 in
    false≢true (sym u ∙ e ∙ eq-eqb x y s))

-- ---- the sign

bit_of_sign : (w to x i : ℕ) → 1 ≤ w → w ≤ to → x < 2 ^ w → i < to → bit x (min i (w - 1)) ≡ bit (cond (bit x (w - 1)) (x + (2 ^ to - 2 ^ w)) x) i
bit_of_sign w to x i one le h l = (right_sign w to x (λ j. Some (bit x j)) one le h (λ j. refl)).agrees i l

module _ (w to x : ℕ) (r : Known) (one : 1 ≤ w) (le : w ≤ to) (h : x < 2 ^ w) (rw_is : r.width.0 ≡ to) (k : Held r (cond (bit x (w - 1)) (x + (2 ^ to - 2 ^ w)) x)) where
  at_low : (i : ℕ) → i < w → Agrees (known_bit r i) (bit x i)
  at_low i l =
      let e : min i (w - 1) ≡ i = omega arith in
      back (known_bit r i) _ i _ (sym (bit_of_sign w to x i one le h (omega arith)) ∙ ap (bit x) e) (k.agrees i)

  at_high : (i : ℕ) → w - 1 ≤ i → i < to → Agrees (known_bit r i) (bit x (w - 1))
  at_high i g l =
      let e : min i (w - 1) ≡ w - 1 = omega arith in
      back (known_bit r i) _ i _ (sym (bit_of_sign w to x i one le h l) ∙ ap (bit x) e) (k.agrees i)

  one_above : some_one_from (w - 1) r ≡ true → bit x (w - 1) ≡ true
  one_above e =
      let f = found_below r.width.0 (λ i. leb (w - 1) i && is_one (known_bit r i)) e in
      let p = and_parts (leb (w - 1) f.0) (is_one (known_bit r f.0)) f.2 in
      one_says (known_bit r f.0) _ (at_high f.0 (leb-true _ _ p.0) (omega (arith, f.1))) p.1

  zero_above : some_zero_from (w - 1) r ≡ true → bit x (w - 1) ≡ false
  zero_above e =
      let f = found_below r.width.0 (λ i. leb (w - 1) i && is_zero (known_bit r i)) e in
      let p = and_parts (leb (w - 1) f.0) (is_zero (known_bit r f.0)) f.2 in
      zero_says (known_bit r f.0) _ (at_high f.0 (leb-true _ _ p.0) (omega (arith, f.1))) p.1

  pub sign_conflict : (some_one_from (w - 1) r && some_zero_from (w - 1) r) ≡ false
  sign_conflict = false_from_ne_true _ (λ c.
      let p = and_parts (some_one_from (w - 1) r) (some_zero_from (w - 1) r) c in
      false≢true (sym (zero_above p.1) ∙ one_above p.0))

  pub back_sign : (i : ℕ) → i < w → Agrees (cond (eqb i (w - 1)) (top_bit i r) (known_bit r i)) (bit x i)
  back_sign i l = agree_cond (eqb i (w - 1)) (top_bit i r) (known_bit r i) _
      (λ e. let s : i ≡ w - 1 = eqb-true _ _ e in
      subst (λ j. Agrees (top_bit j r) (bit x j)) (sym s)
      (agree_cond (some_one_from (w - 1) r) (Some true) _ _ (λ t. sym (one_above t))
      (λ _. agree_cond (some_zero_from (w - 1) r) (Some false) None _ (λ t. sym (zero_above t)) (λ _. tt))))
      (λ _. at_low i l)

-- ---- all operators

small_choice : (a b c : Known) (x : ℕ) → fits_at Ite a.width.0 b.width.0 c.width.0 ≡ true → Held a x → x < 2
small_choice a b c x f h =
    let v = and_parts (eqb a.width.0 1) (eqb b.width.0 c.width.0) f in
    subst (λ w. x < 2 ^ w) (eqb-true _ _ v.0) h.fits

-- no conflict, and the operand agrees with the table
abbrev pub Keeps : Op → ℕ → Known → Known → Known → Known → ℕ → ℕ → ℕ → Type 0
Keeps op k r a b c x y z = (has_conflict op k r a b c ≡ false) × ((i : ℕ) → i < (operand k a b c).width.0 → Agrees (backward_bit op k r a b c i) (bit (operand k x y z) i))

pub backward_keeps : (op : Op) (k : ℕ) (r a b c : Known) (x y z : ℕ) → FittingAt known_ops op k r a b c
    → HoldUsed known_ops op a b c x y z
    → known_holds r (value_at known_ops op a b c x y z) ≡ true → Keeps op k r a b c x y z
backward_keeps (Const value) k r a b c x y z f used t = absurd (omega (arith, f.place))
backward_keeps Not zero r a b c x y z f used t =
    let h = held a x f.operands.a_is (used.first (lit< tt)) in
    let u = held r _ f.r_is t in
    (refl, λ i l. agree_turned (known_bit r i) (bit x i) _ (u.agrees i) (turned (bit x i) _ (bit_of_complement a.width.0 x i h.fits l)))
  where
    turned : (p q : Bool) → q ≡ not p → differs p q ≡ true
    turned p q e = grind arith
backward_keeps Not (suc k) r a b c x y z f used t = absurd (omega (arith, f.place))
backward_keeps And zero r a b c x y z f used t =
    let k = held b y f.operands.b_is (used.second (lit< tt)) in
    let u = held r _ f.r_is t in
    (refl, λ i l. agree_and_back (known_bit r i) (known_bit b i) (bit x i) (bit y i) (back _ _ i _ (bit_of_and x y i) (u.agrees i)) (k.agrees i))
backward_keeps And (suc zero) r a b c x y z f used t =
    let h = held a x f.operands.a_is (used.first (lit< tt)) in
    let u = held r _ f.r_is t in
    (refl, λ i l. agree_and_back (known_bit r i) (known_bit a i) (bit y i) (bit x i) (back _ _ i _ (bit_of_and x y i ∙ and_turn (bit x i) (bit y i)) (u.agrees i)) (h.agrees i))
backward_keeps And (suc (suc k)) r a b c x y z f used t = absurd (omega (arith, f.place))
backward_keeps Or zero r a b c x y z f used t =
    let k = held b y f.operands.b_is (used.second (lit< tt)) in
    let u = held r _ f.r_is t in
    (refl, λ i l. agree_or_back (known_bit r i) (known_bit b i) (bit x i) (bit y i) (back _ _ i _ (bit_of_or x y i) (u.agrees i)) (k.agrees i))
backward_keeps Or (suc zero) r a b c x y z f used t =
    let h = held a x f.operands.a_is (used.first (lit< tt)) in
    let u = held r _ f.r_is t in
    (refl, λ i l. agree_or_back (known_bit r i) (known_bit a i) (bit y i) (bit x i) (back _ _ i _ (bit_of_or x y i ∙ or_turn (bit x i) (bit y i)) (u.agrees i)) (h.agrees i))
backward_keeps Or (suc (suc k)) r a b c x y z f used t = absurd (omega (arith, f.place))
backward_keeps Xor zero r a b c x y z f used t =
    let k = held b y f.operands.b_is (used.second (lit< tt)) in
    let u = held r _ f.r_is t in
    (refl, λ i l. agree_xor_back (known_bit r i) (known_bit b i) (bit x i) (bit y i) (back _ _ i _ (bit_of_xor x y i) (u.agrees i)) (k.agrees i))
backward_keeps Xor (suc zero) r a b c x y z f used t =
    let h = held a x f.operands.a_is (used.first (lit< tt)) in
    let u = held r _ f.r_is t in
    (refl, λ i l. agree_xor_back (known_bit r i) (known_bit a i) (bit y i) (bit x i) (back _ _ i _ (bit_of_xor x y i ∙ differs_turn (bit x i) (bit y i)) (u.agrees i)) (h.agrees i))
backward_keeps Xor (suc (suc k)) r a b c x y z f used t = absurd (omega (arith, f.place))
backward_keeps Add zero r a b c x y z f used t =
    let h = held a x f.operands.a_is (used.first (lit< tt)) in
    let k = held b y f.operands.b_is (used.second (lit< tt)) in
    let u = held r _ f.r_is t in
    let w : a.width.0 ≡ b.width.0 = eqb-true _ _ f.operands.fits in
    let ky = same_width b y a.width.0 k w in (
      refl,
      λ i l. back (backward_bit Add zero r a b c i) _ i _ (ap (λ n. bit n i) (sub_of_add x y (2 ^ a.width.0) h.fits ky))
          ((right_sub a.width.0 _ y (known_bit r) (known_bit b) ky (λ j _. u.agrees j) (λ j _. k.agrees j)).agrees i l),
    )
backward_keeps Add (suc zero) r a b c x y z f used t =
    let h = held a x f.operands.a_is (used.first (lit< tt)) in
    let k = held b y f.operands.b_is (used.second (lit< tt)) in
    let u = held r _ f.r_is t in
    let w : a.width.0 ≡ b.width.0 = eqb-true _ _ f.operands.fits in
    let ky = same_width b y a.width.0 k w in
    let e : (x + y) % 2 ^ a.width.0 ≡ (y + x) % 2 ^ a.width.0 = ap (λ n. n % 2 ^ a.width.0) (omega arith) in (
      refl,
      λ i l. back (backward_bit Add (suc zero) r a b c i) _ i _ (ap (λ n. bit ((n + 2 ^ a.width.0 - x) % 2 ^ a.width.0) i) e ∙ ap (λ n. bit n i) (sub_of_add y x (2 ^ a.width.0) ky h.fits))
          ((right_sub a.width.0 _ x (known_bit r) (known_bit a) h.fits (λ j _. u.agrees j) (λ j _. h.agrees j)).agrees i (subst (λ n. i < n) (sym w) l)),
    )
backward_keeps Add (suc (suc k)) r a b c x y z f used t = absurd (omega (arith, f.place))
backward_keeps Sub zero r a b c x y z f used t =
    let h = held a x f.operands.a_is (used.first (lit< tt)) in
    let k = held b y f.operands.b_is (used.second (lit< tt)) in
    let u = held r _ f.r_is t in
    let w : a.width.0 ≡ b.width.0 = eqb-true _ _ f.operands.fits in
    let ky = same_width b y a.width.0 k w in (
      refl,
      λ i l. back (backward_bit Sub zero r a b c i) _ i _ (ap (λ n. bit n i) (add_of_sub x y (2 ^ a.width.0) h.fits ky))
          ((right_add a.width.0 _ y (known_bit r) (known_bit b) (λ j _. u.agrees j) (λ j _. k.agrees j)).agrees i l),
    )
backward_keeps Sub (suc zero) r a b c x y z f used t =
    let h = held a x f.operands.a_is (used.first (lit< tt)) in
    let k = held b y f.operands.b_is (used.second (lit< tt)) in
    let u = held r _ f.r_is t in
    let w : a.width.0 ≡ b.width.0 = eqb-true _ _ f.operands.fits in
    let ky = same_width b y a.width.0 k w in (
      refl,
      λ i l. back (backward_bit Sub (suc zero) r a b c i) _ i _ (ap (λ n. bit n i) (sub_of_sub x y (2 ^ a.width.0) h.fits ky))
          ((right_sub a.width.0 x _ (known_bit a) (known_bit r) (mod_below _ (2 ^ a.width.0) (pow_pos a.width.0)) (λ j _. h.agrees j) (λ j _. u.agrees j)).agrees i (subst (λ n. i < n) (sym w) l)),
    )
backward_keeps Sub (suc (suc k)) r a b c x y z f used t = absurd (omega (arith, f.place))
backward_keeps (Slice hi lo) zero r a b c x y z f used t =
    let u = held r _ f.r_is t in
    (refl, λ i l. back_slice x lo hi i (known_bit r) u.agrees)
backward_keeps (Slice hi lo) (suc k) r a b c x y z f used t = absurd (omega (arith, f.place))
backward_keeps Concat zero r a b c x y z f used t =
    let k = held b y f.operands.b_is (used.second (lit< tt)) in
    let u = held r _ f.r_is t in
    (refl, λ i l. back_high x y b.width.0 i (known_bit r (b.width.0 + i)) k.fits (u.agrees (b.width.0 + i)))
backward_keeps Concat (suc zero) r a b c x y z f used t =
    let u = held r _ f.r_is t in
    (refl, λ i l. back (known_bit r i) _ i _ (bit_of_low x b.width.0 y i l) (u.agrees i))
backward_keeps Concat (suc (suc k)) r a b c x y z f used t = absurd (omega (arith, f.place))
backward_keeps (SignExt to) zero r a b c x y z f used t =
    let h = held a x f.operands.a_is (used.first (lit< tt)) in
    let u = held r _ f.r_is t in
    let le = leb-true _ _ (and_parts _ _ f.operands.fits).0 in
    let one = f.operands.a_is.width.0 in
    let e : r.width.0 ≡ to = ap (λ (w : Width). w.0) f.r_width in
    let v = subst (λ t. Held r (cond t (x + (2 ^ to - 2 ^ a.width.0)) x)) (sym (top_bit_is a.width.0 x one h.fits)) u in
    (sign_conflict a.width.0 to x r one le h.fits e v, λ i l. back_sign a.width.0 to x r one le h.fits e v i l)
backward_keeps (SignExt to) (suc k) r a b c x y z f used t = absurd (omega (arith, f.place))
backward_keeps (Shl by) zero r a b c x y z f used t =
    let u = held r _ f.r_is t in
    (refl, λ i l. back_shl x a.width.0 by i (known_bit r) u.agrees)
backward_keeps (Shl by) (suc k) r a b c x y z f used t = absurd (omega (arith, f.place))
backward_keeps (Shr by) zero r a b c x y z f used t =
    let u = held r _ f.r_is t in
    (refl, λ i l. back_shr x by i (known_bit r) u.agrees)
backward_keeps (Shr by) (suc k) r a b c x y z f used t = absurd (omega (arith, f.place))
backward_keeps Eq zero r a b c x y z f used t =
    let h = held a x f.operands.a_is (used.first (lit< tt)) in
    let k = held b y f.operands.b_is (used.second (lit< tt)) in
    let u = held r _ f.r_is t in
    let w : a.width.0 ≡ b.width.0 = eqb-true _ _ f.operands.fits in
    let e = bit_of_flag (eqb x y) 0 (omega arith) in
    (no_eq_conflict (known_bit r 0) a b x y _ e (u.agrees 0) h k w, λ i l. back_eq (known_bit r 0) a b x y i _ e (u.agrees 0) h k w)
backward_keeps Eq (suc zero) r a b c x y z f used t =
    let h = held a x f.operands.a_is (used.first (lit< tt)) in
    let k = held b y f.operands.b_is (used.second (lit< tt)) in
    let u = held r _ f.r_is t in
    let w : a.width.0 ≡ b.width.0 = eqb-true _ _ f.operands.fits in
    let e = bit_of_flag (eqb x y) 0 (omega arith) in
    (no_eq_conflict (known_bit r 0) b a y x _ (e ∙ eqb_turn x y) (u.agrees 0) k h (sym w), λ i l. back_eq (known_bit r 0) b a y x i _ (e ∙ eqb_turn x y) (u.agrees 0) k h (sym w))
  where
    eqb_turn : (x y : ℕ) → eqb x y ≡ eqb y x
    eqb_turn x y = grind (arith, nat_tests)
backward_keeps Eq (suc (suc k)) r a b c x y z f used t = absurd (omega (arith, f.place))
backward_keeps Ltu k r a b c x y z f used t = (refl, λ i l. tt)
backward_keeps Ite zero r a b c x y z f used t =
    let h = held a x f.operands.a_is (used.first (lit< tt)) in
    let k = held b y f.operands.b_is (used.second (lit< tt)) in
    let m = held c z f.operands.c_is (used.third (lit< tt)) in
    let u = held r _ f.r_is t in
    let v = and_parts (eqb a.width.0 1) (eqb b.width.0 c.width.0) f.operands.fits in
    let one : a.width.0 ≡ 1 = eqb-true _ _ v.0 in
    let d = back_choice r b c x y z (subst (λ w. x < 2 ^ w) one h.fits) k m u in
    (d.0, λ i l. let j : i ≡ 0 = omega arith in subst (λ n. Agrees (test_bit r b c) (bit x n)) (sym j) d.1)
backward_keeps Ite (suc zero) r a b c x y z f used t =
    let h = held a x f.operands.a_is (used.first (lit< tt)) in
    let u = held r _ f.r_is t in
    let d = small_choice a b c x f.operands.fits h in (
      refl,
      λ i l. agree_where_one (known_bit a 0) (known_bit r i) (bit x 0) (bit y i) (h.agrees 0) (λ e.
          subst (λ b. Agrees (known_bit r i) (bit (cond b y z) i)) (sym (bit_of_small x d) ∙ e) (u.agrees i)),
    )
backward_keeps Ite (suc (suc zero)) r a b c x y z f used t =
    let h = held a x f.operands.a_is (used.first (lit< tt)) in
    let u = held r _ f.r_is t in
    let d = small_choice a b c x f.operands.fits h in (
      refl,
      λ i l. agree_where_zero (known_bit a 0) (known_bit r i) (bit x 0) (bit z i) (h.agrees 0) (λ e.
          subst (λ b. Agrees (known_bit r i) (bit (cond b y z) i)) (sym (bit_of_small x d) ∙ e) (u.agrees i)),
    )
backward_keeps Ite (suc (suc (suc k))) r a b c x y z f used t = absurd (omega (arith, f.place))
