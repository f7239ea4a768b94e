-- The four words of a set.
use Rattle.std.proofs.Common.{◌≡◌, ℕ, zero, suc, ◌-◌, ◌*◌, ◌/◌, ◌%◌, ◌^◌, ◌<◌, Bool, not, ◌&&◌, ◌||◌, eqb, List, [], ◌∷◌, length, get_or, set, bit_and, bit_or, refl, sym, ap, ◌∙◌, ⊎_elim, arith}
use Rattle.std.proofs.Math.Bool.{or-false, and-true}
use Rattle.std.proofs.lemmas.Bool.{cases_eq, ne_eqb, eq-eqb}
use Rattle.std.proofs.lemmas.List.{get_or-set_same, get_or-set_other}
use Rattle.std.proofs.lemmas.Nat.{pow_below, one_shl}
use Rattle.dt_bits.specs.Bits.{bit}
use Rattle.dt_bits.proofs.BitLemmas.{bit_of_and, bit_of_or, bit_of_pow, bit_of_complement}

-- v is in the lanes
abbrev pub lane_has : List ℕ → ℕ → Bool
lane_has a v = bit (get_or a (v / 128) 0) (v % 128)

four : (P : ℕ → Type 0) → P 0 → P 1 → P 2 → P 3 → (q : ℕ) → q < 4 → P q
four P a b c d zero l = a
four P a b c d (suc zero) l = b
four P a b c d (suc (suc zero)) l = c
four P a b c d (suc (suc (suc zero))) l = d
four P a b c d (suc (suc (suc (suc q)))) l = absurd (omega arith)

pub union_lanes : (a b : List ℕ) (v : ℕ) → v < 512 → lane_has (bit_or (get_or a 0 0) (get_or b 0 0) ∷ bit_or (get_or a 1 0) (get_or b 1 0) ∷ bit_or (get_or a 2 0) (get_or b 2 0) ∷ bit_or (get_or a 3 0) (get_or b 3 0) ∷ []) v ≡ (lane_has a v || lane_has b v)
union_lanes a b v l =
    four (λ q. bit (get_or (bit_or (get_or a 0 0) (get_or b 0 0) ∷ bit_or (get_or a 1 0) (get_or b 1 0) ∷ bit_or (get_or a 2 0) (get_or b 2 0) ∷ bit_or (get_or a 3 0) (get_or b 3 0) ∷ []) q 0) (v % 128) ≡ (bit (get_or a q 0) (v % 128) || bit (get_or b q 0) (v % 128)))
    (bit_of_or _ _ _) (bit_of_or _ _ _) (bit_of_or _ _ _) (bit_of_or _ _ _) (v / 128) (omega arith)

pub same_lanes : (x v : ℕ) → v < 512 → bit x (v % 128) ≡ lane_has (x ∷ x ∷ x ∷ x ∷ []) v
same_lanes x v l = four (λ q. bit x (v % 128) ≡ bit (get_or (x ∷ x ∷ x ∷ x ∷ []) q 0) (v % 128)) refl refl refl refl (v / 128) (omega arith)

other_number : (v x : ℕ) → (v ≡ x → ⊥) → v / 128 ≡ x / 128 → v % 128 ≡ x % 128 → ⊥
other_number v x n d m = n (omega arith)

same_rest : (v x : ℕ) → v / 128 ≡ x / 128 → eqb (v % 128) (x % 128) ≡ eqb v x
same_rest v x e =
    ⊎_elim
    (λ (s : v ≡ x). eq-eqb _ _ (ap (λ k. k % 128) s) ∙ sym (eq-eqb _ _ s))
    (λ (n : v ≡ x → ⊥). ne_eqb _ _ (λ m. other_number v x n e m) ∙ sym (ne_eqb _ _ n))
    (cases_eq v x)

-- one bit of a word
pub one_bit : (x : ℕ) → 1 * 2 ^ (x % 128) % 2 ^ 128 ≡ 2 ^ (x % 128)
one_bit x = one_shl (x % 128) 128 (omega arith)

pub with_lane : (a : List ℕ) (v x : ℕ) → length a ≡ 4 → v < 512 → x < 512
    → lane_has (set a (x / 128) (bit_or (get_or a (x / 128) 0) (2 ^ (x % 128)))) v ≡ (lane_has a v || eqb v x)
with_lane a v x l p q =
    let i : x / 128 < length a = omega arith in
    let w = bit_or (get_or a (x / 128) 0) (2 ^ (x % 128)) in
    ⊎_elim
    (λ (e : v / 128 ≡ x / 128).
    let s : get_or (set a (x / 128) w) (v / 128) 0 ≡ w = ap (λ n. get_or (set a (x / 128) w) n 0) e ∙ get_or-set_same a (x / 128) w 0 i in
    let t : get_or a (x / 128) 0 ≡ get_or a (v / 128) 0 = ap (λ n. get_or a n 0) (sym e) in
    ap (λ n. bit n (v % 128)) s ∙ bit_of_or _ _ _
    ∙ ap (λ n. bit n (v % 128) || bit (2 ^ (x % 128)) (v % 128)) t
    ∙ ap (λ b. lane_has a v || b) (bit_of_pow (x % 128) (v % 128) ∙ same_rest v x e))
    (λ (n : v / 128 ≡ x / 128 → ⊥).
    let s : get_or (set a (x / 128) w) (v / 128) 0 ≡ get_or a (v / 128) 0 = get_or-set_other a (x / 128) (v / 128) w 0 n in
    ap (λ n. bit n (v % 128)) s ∙ sym (or-false (lane_has a v)) ∙ ap (λ b. lane_has a v || b) (sym (ne_eqb v x (λ e. n (ap (λ k. k / 128) e)))))
    (cases_eq (v / 128) (x / 128))

pub without_lane : (a : List ℕ) (v x : ℕ) → length a ≡ 4 → v < 512 → x < 512
    → lane_has (set a (x / 128) (bit_and (get_or a (x / 128) 0) (2 ^ 128 - 1 - 2 ^ (x % 128)))) v ≡ (lane_has a v && not (eqb v x))
without_lane a v x l p q =
    let i : x / 128 < length a = omega arith in
    let w = bit_and (get_or a (x / 128) 0) (2 ^ 128 - 1 - 2 ^ (x % 128)) in
    ⊎_elim
    (λ (e : v / 128 ≡ x / 128).
    let s : get_or (set a (x / 128) w) (v / 128) 0 ≡ w = ap (λ n. get_or (set a (x / 128) w) n 0) e ∙ get_or-set_same a (x / 128) w 0 i in
    let t : get_or a (x / 128) 0 ≡ get_or a (v / 128) 0 = ap (λ n. get_or a n 0) (sym e) in
    ap (λ n. bit n (v % 128)) s ∙ bit_of_and _ _ _
    ∙ ap (λ n. bit n (v % 128) && bit (2 ^ 128 - 1 - 2 ^ (x % 128)) (v % 128)) t
    ∙ ap (λ b. lane_has a v && b) (bit_of_complement 128 (2 ^ (x % 128)) (v % 128) (pow_below (x % 128) 128 (omega arith)) (omega arith) ∙ ap not (bit_of_pow (x % 128) (v % 128) ∙ same_rest v x e)))
    (λ (n : v / 128 ≡ x / 128 → ⊥).
    let s : get_or (set a (x / 128) w) (v / 128) 0 ≡ get_or a (v / 128) 0 = get_or-set_other a (x / 128) (v / 128) w 0 n in
    ap (λ n. bit n (v % 128)) s ∙ sym (and-true (lane_has a v)) ∙ ap (λ b. lane_has a v && b) (sym (ap not (ne_eqb v x (λ e. n (ap (λ k. k / 128) e))))))
    (cases_eq (v / 128) (x / 128))
