-- In a Pair in normal form the known bits are those on which all held numbers agree: of a bit that isn't known, both values occur.
use Rattle.std.proofs.Common.{◌≡◌, ℕ, ◌+◌, ◌-◌, ◌*◌, ◌/◌, ◌%◌, ◌^◌, ◌<◌, ◌≤◌, Bool, true, false, ◌&&◌, ◌||◌, cond, ltb, bit_and, refl, sym, ap, ◌∙◌, subst, ⊎_elim, arith}
use Rattle.std.proofs.lemmas.Bool.{and_from, cond-true, cond-false, eqb-true, eq-eqb, le-leb, lt-ltb, le-ltb, or_right, true≢false, cases_eq, cases_lt}
use Rattle.std.proofs.lemmas.Nat.{pow_pos, mod_below, and_le_r}
use Rattle.dt_lemmas.proofs.Powers.{quotient_le, pow_next, odd_above, step_between}
use Rattle.dt_bits.specs.Bits.{bit}
use Rattle.dt_bits.specs.declared.value.Width.{Width}
use Rattle.dt_bits.proofs.BitLemmas.{same_bits, bit_of_and, bit_of_mod, bit_of_joined, bit_of_ones, bit_of_shr, bit_above, bit_of_odd, upper_bits}
use Rattle.dt_known.specs.Known.{known_holds}
use Rattle.dt_known.specs.Laws.Bits.{held_is}
use Rattle.dt_range.specs.declared.Range.{Range}
use Rattle.dt_range.specs.Range.{range_holds, range_mask}
use Rattle.dt_range.specs.Laws.KnownBits.{mask_bit as shared_bit}
use Rattle.dt_pair.specs.declared.Pair.{Pair}
use Rattle.dt_pair.specs.Pair.{IsPair, pair_holds, ends, filled}
use Rattle.dt_pair.specs.Laws.Splits.{split_low, split_high}
use Rattle.dt_pair.specs.Laws.Candidates.{has_bit}
use Rattle.dt_pair.specs.Laws.Normal.{mask_bit}
use Rattle.dt_pair.specs.Laws.Form.{IsFilled, normal_again, held_bits}

-- ---- a number with one more bit

-- z and 2 ^ i, where bit i of z is 0
raised_form : (z i : ℕ) → bit z i ≡ false → z + 2 ^ i ≡ (z / 2 ^ (i + 1) * 2 ^ 1 + 1) * 2 ^ i + z % 2 ^ i
raised_form z i h =
    let s : z ≡ z / 2 ^ (i + 1) * 2 ^ (i + 1) + z % 2 ^ i = split_low z i h in
    let t : z + 2 ^ i ≡ z / 2 ^ (i + 1) * 2 ^ (i + 1) + 2 ^ i + z % 2 ^ i = omega (arith, s) in
    t ∙ ap (λ p. z / 2 ^ (i + 1) * p + 2 ^ i + z % 2 ^ i) (pow_next i) ∙ odd_above (z / 2 ^ (i + 1)) (2 ^ i) (z % 2 ^ i)

raised_bits : (z i j : ℕ) → bit z i ≡ false → bit (z + 2 ^ i) j ≡ cond (ltb j i) (bit (z % 2 ^ i) j) (bit (z / 2 ^ (i + 1) * 2 ^ 1 + 1) (j - i))
raised_bits z i j h = ap (λ n. bit n j) (raised_form z i h) ∙ bit_of_joined (z / 2 ^ (i + 1) * 2 ^ 1 + 1) i (z % 2 ^ i) j (mod_below z (2 ^ i) (pow_pos i))

raised_here : (z i : ℕ) → bit z i ≡ false → bit (z + 2 ^ i) i ≡ true
raised_here z i h =
    let e : i - i ≡ 0 = omega arith in
    raised_bits z i i h ∙ cond-false (ltb i i) _ _ (le-ltb i i (omega arith))
    ∙ ap (bit (z / 2 ^ (i + 1) * 2 ^ 1 + 1)) e ∙ bit_of_odd (z / 2 ^ (i + 1)) 0 ∙ bit_of_ones 1 0 (omega arith)

raised_below : (z i j : ℕ) → bit z i ≡ false → j < i → bit (z + 2 ^ i) j ≡ bit z j
raised_below z i j h l = raised_bits z i j h ∙ cond-true (ltb j i) _ _ (lt-ltb j i l) ∙ bit_of_mod z i j l

raised_above : (z i j : ℕ) → bit z i ≡ false → i < j → bit (z + 2 ^ i) j ≡ bit z j
raised_above z i j h l =
    let e : i + 1 + (j - i - 1) ≡ j = omega arith in
    raised_bits z i j h ∙ cond-false (ltb j i) _ _ (le-ltb j i (omega arith))
    ∙ bit_of_odd (z / 2 ^ (i + 1)) (j - i) ∙ cond-false (ltb (j - i) 1) _ _ (le-ltb (j - i) 1 (omega arith))
    ∙ bit_of_shr z (i + 1) (j - i - 1) ∙ ap (bit z) e

and_none : (p q : Bool) → (p && false) ≡ (q && false)
and_none p q = grind arith

raised_bit : (m z i j : ℕ) → bit m i ≡ false → bit z i ≡ false → (bit (z + 2 ^ i) j && bit m j) ≡ (bit z j && bit m j)
raised_bit m z i j f h = ⊎_elim
    (λ (e : j ≡ i). subst (λ k. (bit (z + 2 ^ i) k && bit m k) ≡ (bit z k && bit m k)) (sym e)
    (subst (λ b. (bit (z + 2 ^ i) i && b) ≡ (bit z i && b)) (sym f) (and_none (bit (z + 2 ^ i) i) (bit z i))))
    (λ (n : j ≡ i → ⊥). ap (λ b. b && bit m j) (⊎_elim
    (λ (l : j < i). raised_below z i j h l)
    (λ (g : i ≤ j). raised_above z i j h (omega (arith, n)))
    (cases_lt j i)))
    (cases_eq j i)

-- a bit that isn't known doesn't count
raised_has : (w m z i : ℕ) → m < 2 ^ w → bit m i ≡ false → bit z i ≡ false → bit_and (z + 2 ^ i) m ≡ bit_and z m
raised_has w m z i l f h = same_bits w (bit_and (z + 2 ^ i) m) (bit_and z m) (omega (arith, and_le_r (z + 2 ^ i) m)) (omega (arith, and_le_r z m))
    (λ j s. bit_of_and (z + 2 ^ i) m j ∙ raised_bit m z i j f h ∙ sym (bit_of_and z m j))

-- the number without bit i, which is 1 in x
lowered : (x i : ℕ) → bit x i ≡ true → (z : ℕ) × (z + 2 ^ i ≡ x) × (bit z i ≡ false)
lowered x i h =
    let q = x / 2 ^ (i + 1) in
    let r = x % 2 ^ i in
    let z = q * 2 ^ (i + 1) + r in
    let s : x ≡ q * 2 ^ (i + 1) + 2 ^ i + r = split_high x i h in
    let small : r < 2 ^ i = mod_below x (2 ^ i) (pow_pos i) in
    let wide : r < 2 ^ (i + 1) = omega (arith, pow_next i) in
    (z, omega (arith, s), bit_of_joined q (i + 1) r i wide ∙ cond-true (ltb i (i + 1)) _ _ (lt-ltb i (i + 1) (omega arith)) ∙ bit_above r i i small (omega arith))

-- ---- two ends that part above bit i, and have the same value there

same_parity : (p : Bool) (a b x y : ℕ) → x ≡ a * 2 + cond p 1 0 → y ≡ b * 2 + cond p 1 0 → x ≤ y → (x ≡ y → ⊥) → x + 2 ≤ y
same_parity true a b x y e f l n = omega arith
same_parity false a b x y e f l n = omega arith

far : (lo hi i : ℕ) (p : Bool) → bit lo i ≡ p → bit hi i ≡ p → lo ≤ hi → (lo / 2 ^ i ≡ hi / 2 ^ i → ⊥) → lo + 2 ^ i ≤ hi
far lo hi i p e f l n =
    let u : lo / 2 ^ i ≡ lo / 2 ^ (i + 1) * 2 + cond p 1 0 = subst (λ b. lo / 2 ^ i ≡ lo / 2 ^ (i + 1) * 2 + cond b 1 0) e (upper_bits lo i) in
    let v : hi / 2 ^ i ≡ hi / 2 ^ (i + 1) * 2 + cond p 1 0 = subst (λ b. hi / 2 ^ i ≡ hi / 2 ^ (i + 1) * 2 + cond b 1 0) f (upper_bits hi i) in
    step_between lo hi i (same_parity p (lo / 2 ^ (i + 1)) (hi / 2 ^ (i + 1)) (lo / 2 ^ i) (hi / 2 ^ i) u v (quotient_le lo hi i l) n)

-- ---- both values of a bit occur

pub record Varies (p : Pair) (i : ℕ) : Type 0 where
  pub one : ℕ
  pub zero : ℕ
  pub one_held : pair_holds p one ≡ true
  pub zero_held : pair_holds p zero ≡ true
  pub one_bit : bit one i ≡ true
  pub zero_bit : bit zero i ≡ false

between : (p : Pair) (x : ℕ) → IsPair p → IsFilled p → p.range.lo ≤ x → x ≤ p.range.hi → bit_and x p.known.mask ≡ p.known.value → pair_holds p x ≡ true
between p x h f l m e =
    let wide : p.range.hi < 2 ^ p.known.width.0 = subst (λ (w : Width). p.range.hi < 2 ^ w.0) (sym h.widths) h.range.hi_fits in
    and_from (known_holds p.known x) (range_holds p.range x) (held_is p.known x f.full (omega arith) e) (and_from _ _ (le-leb p.range.lo x l) (le-leb x p.range.hi m))

-- the ends of a Pair don't share a bit that isn't known
parted : (p : Pair) (i : ℕ) → IsPair p → IsFilled p → i < p.known.width.0 → bit p.known.mask i ≡ false → p.range.lo / 2 ^ i ≡ p.range.hi / 2 ^ i → ⊥
parted p i h f l n e =
    let w = p.known.width in
    let r : Range = ends w p.range.lo p.range.hi in
    let low = held_bits p.known p.range p.range.lo h.known f.low in
    let high = held_bits p.known p.range p.range.hi h.known f.high in
    let same : filled p.known p.range.lo p.range.hi ≡ p = sym (normal_again p.known p.range f.full f.order low high) ∙ h.normal in
    let known : bit p.known.mask i ≡ (bit p.known.mask i || bit (range_mask r) i) = sym (ap (λ (q : Pair). bit q.known.mask i) same) ∙ mask_bit p.known p.range.lo p.range.hi i in
    let shared : bit (range_mask r) i ≡ true = shared_bit r i (le-ltb p.range.hi p.range.lo f.order) l ∙ eq-eqb (p.range.lo / 2 ^ i) (p.range.hi / 2 ^ i) e in
    true≢false (sym (known ∙ or_right (bit p.known.mask i) (bit (range_mask r) i) shared) ∙ n)

pub varies : (p : Pair) (i : ℕ) → IsPair p → IsFilled p → i < p.known.width.0 → bit p.known.mask i ≡ false → Varies p i
varies p i h f l n = at (bit p.range.lo i) (bit p.range.hi i) refl refl
  where
    low : bit_and p.range.lo p.known.mask ≡ p.known.value
    low = eqb-true _ _ (held_bits p.known p.range p.range.lo h.known f.low)

    high : bit_and p.range.hi p.known.mask ≡ p.known.value
    high = eqb-true _ _ (held_bits p.known p.range p.range.hi h.known f.high)

    at : (a b : Bool) → bit p.range.lo i ≡ a → bit p.range.hi i ≡ b → Varies p i
    at true false e d = record { one = p.range.lo; zero = p.range.hi; one_held = f.low; zero_held = f.high; one_bit = e; zero_bit = d }
    at false true e d = record { one = p.range.hi; zero = p.range.lo; one_held = f.high; zero_held = f.low; one_bit = d; zero_bit = e }
    at false false e d =
        let s : p.range.lo + 2 ^ i ≤ p.range.hi = far p.range.lo p.range.hi i false e d f.order (parted p i h f l n) in
        record {
          one = p.range.lo + 2 ^ i;
          zero = p.range.lo;
          one_held = between p (p.range.lo + 2 ^ i) h f (omega arith) s (raised_has p.known.width.0 p.known.mask p.range.lo i h.known.mask_fits n e ∙ low);
          zero_held = f.low;
          one_bit = raised_here p.range.lo i e;
          zero_bit = e;
        }
    at true true e d =
        let s : p.range.lo + 2 ^ i ≤ p.range.hi = far p.range.lo p.range.hi i true e d f.order (parted p i h f l n) in
        let z = lowered p.range.hi i d in
        let m : bit_and z.0 p.known.mask ≡ p.known.value = sym (raised_has p.known.width.0 p.known.mask z.0 i h.known.mask_fits n z.2) ∙ ap (λ x. bit_and x p.known.mask) z.1 ∙ high in
        record {
          one = p.range.hi;
          zero = z.0;
          one_held = f.high;
          zero_held = between p z.0 h f (omega (arith, s, z.1)) (omega (arith, z.1)) m;
          one_bit = d;
          zero_bit = z.2;
        }

-- where a bit varies, a Pair that holds the same numbers doesn't know it
known_not_varied : (a b : Pair) (i : ℕ) → IsPair a → ((x : ℕ) → pair_holds b x ≡ pair_holds a x) → Varies b i → bit a.known.mask i ≡ true → ⊥
known_not_varied a b i p s v k =
    let one = has_bit a.known.mask a.known.value v.one i (held_bits a.known a.range v.one p.known (sym (s v.one) ∙ v.one_held)) in
    let zero = has_bit a.known.mask a.known.value v.zero i (held_bits a.known a.range v.zero p.known (sym (s v.zero) ∙ v.zero_held)) in
    let e : (bit v.one i && bit a.known.mask i) ≡ (bit v.zero i && bit a.known.mask i) = one ∙ sym zero in
    clash (bit v.one i) (bit v.zero i) (bit a.known.mask i) v.one_bit v.zero_bit k e
  where
    clash : (x y m : Bool) → x ≡ true → y ≡ false → m ≡ true → (x && m) ≡ (y && m) → ⊥
    clash x y m f g h e = true≢false (sym (subst (λ t. (t && m) ≡ true) (sym f) h) ∙ e ∙ subst (λ t. (t && m) ≡ false) (sym g) refl)

-- Pairs that hold the same numbers know the same bits
pub same_mask : (a b : Pair) → IsPair a → IsPair b → IsFilled a → IsFilled b → a.known.width ≡ b.known.width → ((x : ℕ) → pair_holds a x ≡ pair_holds b x) → a.known.mask ≡ b.known.mask
same_mask a b p q f g w s =
    let fits : b.known.mask < 2 ^ a.known.width.0 = subst (λ (v : Width). b.known.mask < 2 ^ v.0) (sym w) q.known.mask_fits in
    same_bits a.known.width.0 a.known.mask b.known.mask p.known.mask_fits fits (λ i l. at i l (bit a.known.mask i) (bit b.known.mask i) refl refl)
  where
    at : (i : ℕ) → i < a.known.width.0 → (m n : Bool) → bit a.known.mask i ≡ m → bit b.known.mask i ≡ n → bit a.known.mask i ≡ bit b.known.mask i
    at i l true true e d = e ∙ sym d
    at i l false false e d = e ∙ sym d
    at i l true false e d = absurd (known_not_varied a b i p (λ x. sym (s x)) (varies b i q g (subst (λ (v : Width). i < v.0) w l) d) e)
    at i l false true e d = absurd (known_not_varied b a i q s (varies a i p f l e) d)
