-- The number that is found downward is the greatest that has the known bits: downward is upward for the numbers
-- 2 ^ w - 1 - x, whose known bits are turned.
use Rattle.std.proofs.Common.{◌≡◌, ℕ, zero, suc, ◌+◌, ◌-◌, ◌*◌, ◌/◌, ◌%◌, ◌^◌, ◌<◌, ◌≤◌, Bool, true, false, not, ◌&&◌, cond, bit_and, bit_xor, Option, Some, None, refl, sym, ap, ◌∙◌, subst, arith}
use Rattle.std.specs.Cmp.{both_ways}
use Rattle.std.specs.Option.{option_map}
use Rattle.std.proofs.lemmas.Bool.{eq-eqb}
use Rattle.std.proofs.lemmas.Nat.{pow_pos, pow-add, and_shr, and_mod, and_le_r, xor_shr, xor_mod, xor_lt, shr_below, mod_below}
use Rattle.dt_lemmas.proofs.Powers.{pow_next, xor_within}
use Rattle.dt_bits.specs.Bits.{bit, differs}
use Rattle.dt_bits.proofs.BitLemmas.{same_bits, bit_of_and, bit_of_xor, bit_of_complement, shr_turned}
use Rattle.dt_pair.specs.Ends.{has_bits, agrees_above, is_known_one, is_candidate, candidate, lesser, least_candidate, least_from, is_high_candidate, high_candidate, greater, greatest_candidate, greatest_from, IsLeastFound, IsGreatestFound}
use Rattle.dt_pair.specs.Laws.Candidates.{has_bit}
use Rattle.dt_pair.specs.Laws.Least.{AreWords, least_is}

-- ---- known bits turned

-- the known bits turned, as words
pub turned_words : (w m v : ℕ) → AreWords w m v → AreWords w m (bit_xor m v)
turned_words w m v a = record {
  mask = a.mask;
  within = same_bits w (bit_and (bit_xor m v) m) (bit_xor m v) (omega (arith, and_le_r (bit_xor m v) m, a.mask)) (xor_lt w m v a.mask (omega (arith, and_le_r v m, a.mask, a.within)))
      (λ j l. bit_of_and (bit_xor m v) m j ∙ ap (λ b. b && bit m j) (bit_of_xor m v j) ∙ still (bit m j) (bit v j) (sym (bit_of_and v m j) ∙ ap (λ n. bit n j) a.within) ∙ sym (bit_of_xor m v j));
}
  where
    still : (p q : Bool) → (q && p) ≡ q → (differs p q && p) ≡ differs p q
    still p q e = grind arith

pub turned_twice : (w m v : ℕ) → AreWords w m v → bit_xor m (bit_xor m v) ≡ v
turned_twice w m v a =
    let f : v < 2 ^ w = omega (arith, and_le_r v m, a.mask, a.within) in
    same_bits w (bit_xor m (bit_xor m v)) v (xor_lt w m (bit_xor m v) a.mask (xor_lt w m v a.mask f)) f
    (λ j l. bit_of_xor m (bit_xor m v) j ∙ ap (differs (bit m j)) (bit_of_xor m v j) ∙ twice (bit m j) (bit v j))
  where
    twice : (p q : Bool) → differs p (differs p q) ≡ q
    twice p q = grind arith

turned_bit : (x m v : Bool) → (x && m) ≡ v → (not x && m) ≡ differs m v
turned_bit x m v e = grind arith

-- a number that has the known bits, turned
pub turned_has : (w m v x : ℕ) → AreWords w m v → x < 2 ^ w → has_bits m v x ≡ true → has_bits m (bit_xor m v) (2 ^ w - 1 - x) ≡ true
turned_has w m v x a h e =
    let y = 2 ^ w - 1 - x in
    eq-eqb (bit_and y m) (bit_xor m v) (same_bits w (bit_and y m) (bit_xor m v) (omega (arith, and_le_r y m, a.mask)) (xor_lt w m v a.mask (omega (arith, and_le_r v m, a.mask, a.within)))
    (λ j l. bit_of_and y m j ∙ ap (λ b. b && bit m j) (bit_of_complement w x j h l) ∙ turned_bit (bit x j) (bit m j) (bit v j) (has_bit m v x j e) ∙ sym (bit_of_xor m v j)))

-- and back
pub turned_back : (w m v x : ℕ) → AreWords w m v → x < 2 ^ w → has_bits m (bit_xor m v) x ≡ true → has_bits m v (2 ^ w - 1 - x) ≡ true
turned_back w m v x a h e = subst (λ u. has_bits m u (2 ^ w - 1 - x) ≡ true) (turned_twice w m v a) (turned_has w m (bit_xor m v) x (turned_words w m v a) h e)

pub turned_same : (w m v x : ℕ) → AreWords w m v → x < 2 ^ w → has_bits m v x ≡ has_bits m (bit_xor m v) (2 ^ w - 1 - x)
turned_same w m v x a h = both_ways (has_bits m v x) (has_bits m (bit_xor m v) (2 ^ w - 1 - x)) (turned_has w m v x a h) (λ e.
    let b : 2 ^ w - 1 - (2 ^ w - 1 - x) ≡ x = omega arith in
    let l : 2 ^ w - 1 - x < 2 ^ w = omega (arith, pow_pos w) in
    subst (λ n. has_bits m v n ≡ true) b (turned_back w m v (2 ^ w - 1 - x) a l e))

-- ---- candidates turned

-- the words of the bits from k on
shr_words : (j k m v : ℕ) → AreWords (j + k) m v → AreWords j (m / 2 ^ k) (v / 2 ^ k)
shr_words j k m v a = record {
  mask = shr_below m j k a.mask;
  within = sym (and_shr v m k) ∙ ap (λ n. n / 2 ^ k) a.within;
}

above_turned : (j i m v hi : ℕ) → AreWords (j + (i + 1)) m v → hi < 2 ^ (j + (i + 1))
    → agrees_above m v hi i ≡ agrees_above m (bit_xor m v) (2 ^ (j + (i + 1)) - 1 - hi) i
above_turned j i m v hi a h =
    let k = i + 1 in
    turned_same j (m / 2 ^ k) (v / 2 ^ k) (hi / 2 ^ k) (shr_words j k m v a) (shr_below hi j k h)
    ∙ ap (λ u. has_bits (m / 2 ^ k) u (2 ^ j - 1 - hi / 2 ^ k)) (sym (xor_shr m v k))
    ∙ ap (has_bits (m / 2 ^ k) (bit_xor m v / 2 ^ k)) (sym (shr_turned j k hi h))

both_turned : (p m v q r s : Bool) → s ≡ not p → q ≡ differs m v → (p && (not (m && v) && r)) ≡ (not s && (not (m && not q) && r))
both_turned p m v q r s e f = grind arith

test_turned : (j i m v hi : ℕ) → AreWords (j + (i + 1)) m v → hi < 2 ^ (j + (i + 1))
    → is_high_candidate m v hi i ≡ is_candidate m (bit_xor m v) (2 ^ (j + (i + 1)) - 1 - hi) i
test_turned j i m v hi a h =
    let w = j + (i + 1) in
    ap (λ r. bit hi i && (not (is_known_one m v i) && r)) (above_turned j i m v hi a h)
    ∙ both_turned (bit hi i) (bit m i) (bit v i) (bit (bit_xor m v) i) (agrees_above m (bit_xor m v) (2 ^ w - 1 - hi) i) (bit (2 ^ w - 1 - hi) i)
    (bit_of_complement w hi i h (omega arith)) (bit_of_xor m v i)

-- the numbers: k * (p * 2) is 2 ^ w, and q the bits above
numbers : (k p q c a b u : ℕ) → q < k → c ≡ k - 1 - q → u + b ≡ a → a < p → q * (p * 2) + (b + (p - 1 - a)) ≡ k * (p * 2) - 1 - (c * (p * 2) + p + u)
numbers k p q c a b u l d e h =
    let s : k ≡ q + (c + 1) = omega arith in
    let t : k * (p * 2) ≡ q * (p * 2) + (c * (p * 2) + p * 2) = ap (λ n. n * (p * 2)) s ∙ spread q c (p * 2) in
    omega arith
  where
    spread : (q c r : ℕ) → (q + (c + 1)) * r ≡ q * r + (c * r + r)
    spread q c r = grind arith

candidate_turned : (j i m v hi : ℕ) → AreWords (j + (i + 1)) m v → hi < 2 ^ (j + (i + 1))
    → high_candidate m v hi i ≡ 2 ^ (j + (i + 1)) - 1 - candidate (bit_xor m v) (2 ^ (j + (i + 1)) - 1 - hi) i
candidate_turned j i m v hi a h =
    let p = 2 ^ i in
    let lo = 2 ^ (j + (i + 1)) - 1 - hi in
    let low : bit_xor m v % p + v % p ≡ m % p = ap (λ n. n + v % p) (xor_mod m v i) ∙ xor_within (m % p) (v % p) (sym (and_mod v m i) ∙ ap (λ n. n % p) a.within) in
    let e = numbers (2 ^ j) p (hi / 2 ^ (i + 1)) (lo / 2 ^ (i + 1)) (m % p) (v % p) (bit_xor m v % p) (shr_below hi j (i + 1) h) (shr_turned j (i + 1) hi h) low (mod_below m p (pow_pos i)) in
    let f = pow-add 2 j (i + 1) in
    subst (λ n. hi / 2 ^ (i + 1) * n + (v % p + (p - 1 - m % p)) ≡ 2 ^ (j + (i + 1)) - 1 - (lo / 2 ^ (i + 1) * n + p + bit_xor m v % p)) (sym (pow_next i))
    (e ∙ ap (λ n. n - 1 - (lo / 2 ^ (i + 1) * (p * 2) + p + bit_xor m v % p)) (ap (λ n. 2 ^ j * n) (sym (pow_next i)) ∙ sym f))

-- ---- what is found, turned

-- each number x as 2 ^ w - 1 - x
abbrev pub turned : ℕ → Option ℕ → Option ℕ
turned w o = option_map (λ x. 2 ^ w - 1 - x) o

greater_turned : (w : ℕ) (a b : Option ℕ) → greater (turned w a) (turned w b) ≡ turned w (lesser a b)
greater_turned w None b = refl
greater_turned w (Some a) None = refl
greater_turned w (Some a) (Some b) = ap Some (omega arith)

cond_turned : (w : ℕ) (p q : Bool) (x y : ℕ) → p ≡ q → x ≡ 2 ^ w - 1 - y → cond p (Some x) None ≡ turned w (cond q (Some y) None)
cond_turned w p q x y e f = ap (λ b. cond b (Some x) None) e ∙ at q
  where
    at : (q : Bool) → cond q (Some x) None ≡ turned w (cond q (Some y) None)
    at true = ap Some f
    at false = refl

candidates_turned : (w k m v hi : ℕ) → AreWords w m v → hi < 2 ^ w → k ≤ w
    → greatest_candidate k m v hi ≡ turned w (least_candidate k m (bit_xor m v) (2 ^ w - 1 - hi))
unfolding greatest_candidate least_candidate
candidates_turned w zero m v hi a h l = refl
candidates_turned w (suc k) m v hi a h l =
    let j = w - (k + 1) in
    let d : w ≡ j + (k + 1) = omega arith in
    let t = subst (λ n. is_high_candidate m v hi k ≡ is_candidate m (bit_xor m v) (2 ^ n - 1 - hi) k) (sym d) (test_turned j k m v hi (subst (λ n. AreWords n m v) d a) (subst (λ n. hi < 2 ^ n) d h)) in
    let c = subst (λ n. high_candidate m v hi k ≡ 2 ^ n - 1 - candidate (bit_xor m v) (2 ^ n - 1 - hi) k) (sym d) (candidate_turned j k m v hi (subst (λ n. AreWords n m v) d a) (subst (λ n. hi < 2 ^ n) d h)) in
    let lo = 2 ^ w - 1 - hi in
    ap (λ o. greater o (cond (is_high_candidate m v hi k) (Some (high_candidate m v hi k)) None)) (candidates_turned w k m v hi a h (omega arith))
    ∙ ap (greater (turned w (least_candidate k m (bit_xor m v) lo))) (cond_turned w (is_high_candidate m v hi k) (is_candidate m (bit_xor m v) lo k) (high_candidate m v hi k) (candidate (bit_xor m v) lo k) t c)
    ∙ greater_turned w (least_candidate k m (bit_xor m v) lo) (cond (is_candidate m (bit_xor m v) lo k) (Some (candidate (bit_xor m v) lo k)) None)

-- what is found downward is what is found upward, turned
pub greatest_turned : (w m v hi : ℕ) → AreWords w m v → hi < 2 ^ w
    → greatest_from w m v hi ≡ turned w (least_from w m (bit_xor m v) (2 ^ w - 1 - hi))
greatest_turned w m v hi a h =
    let lo = 2 ^ w - 1 - hi in
    let b : hi ≡ 2 ^ w - 1 - lo = omega arith in
    ap (λ o. cond (has_bits m v hi) (Some hi) o) (candidates_turned w w m v hi a h (omega arith))
    ∙ choose (has_bits m v hi) (has_bits m (bit_xor m v) lo) (turned_same w m v hi a h) b (least_candidate w m (bit_xor m v) lo)
  where
    choose : (p q : Bool) → p ≡ q → hi ≡ 2 ^ w - 1 - (2 ^ w - 1 - hi) → (o : Option ℕ) → cond p (Some hi) (turned w o) ≡ turned w (cond q (Some (2 ^ w - 1 - hi)) o)
    choose p q e f o = ap (λ b. cond b (Some hi) (turned w o)) e ∙ at q
      where
        at : (q : Bool) → cond q (Some hi) (turned w o) ≡ turned w (cond q (Some (2 ^ w - 1 - hi)) o)
        at true = ap Some f
        at false = refl

pub found_turned : (w m v hi : ℕ) (o : Option ℕ) → AreWords w m v → hi < 2 ^ w
    → IsLeastFound w m (bit_xor m v) (2 ^ w - 1 - hi) o → IsGreatestFound m v hi (turned w o)
found_turned w m v hi None a h k = λ y l e.
    let f : y < 2 ^ w = omega arith in
    k (2 ^ w - 1 - y) (omega arith) (omega (arith, pow_pos w)) (turned_has w m v y a f e)
found_turned w m v hi (Some x) a h k = record {
  beyond = omega (arith, k.beyond);
  has = turned_back w m v x a k.fits k.has;
  greatest = λ y l e.
      let f : y < 2 ^ w = omega arith in
      let s = k.least (2 ^ w - 1 - y) (omega arith) (omega (arith, pow_pos w)) (turned_has w m v y a f e) in
      omega (arith, s);
}

pub greatest_is : (w m v hi : ℕ) → AreWords w m v → hi < 2 ^ w → IsGreatestFound m v hi (greatest_from w m v hi)
greatest_is w m v hi a h = subst (IsGreatestFound m v hi) (sym (greatest_turned w m v hi a h))
    (found_turned w m v hi (least_from w m (bit_xor m v) (2 ^ w - 1 - hi)) a h
    (least_is w m (bit_xor m v) (2 ^ w - 1 - hi) (turned_words w m v a) (omega (arith, pow_pos w))))
