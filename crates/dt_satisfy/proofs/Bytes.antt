-- Blocks and kept ranges have the bytes that their definitions speak of.
use Rattle.std.proofs.Common.{◌≡◌, ℕ, ◌+◌, ◌-◌, ◌*◌, ◌/◌, ◌%◌, ◌^◌, ◌<◌, ◌≤◌, max, ltb, Bool, true, ◌&&◌, ⊎_elim, eq-eqb, sym, ap, ◌∙◌, arith}
use Rattle.std.specs.Prelude.{◌↔◌, IsTrue}
use Rattle.std.proofs.Math.Nat.{div-eq_of_lt-le, div-mul-le_self, lt-div-mul-add}
use Rattle.std.proofs.lemmas.Bool.{cases_lt, lt-ltb, ltb-true, eqb-true, and_parts}
use Rattle.std.proofs.lemmas.Nat.{pow_pos, shr-shr}
use Rattle.dt_request.specs.declared.list.KeptRange.{KeptRange}
use Rattle.dt_satisfy.specs.declared.block.Block.{Block}
use Rattle.dt_satisfy.specs.Blocks.{block_at, overlap, touches}
use Rattle.dt_satisfy.specs.Bytes.{InBlock, InRange, Meet, BlocksAreBytes}

-- ---- the start of a block

start_is : (a e : ℕ) → a - a % 2 ^ e ≡ a / 2 ^ e * 2 ^ e
start_is a e = let p = pow_pos e in omega arith

quotient_in : (x a e : ℕ) → a - a % 2 ^ e ≤ x → x < a - a % 2 ^ e + 2 ^ e → x / 2 ^ e ≡ a / 2 ^ e
quotient_in x a e h l = let s = start_is a e in div-eq_of_lt-le (2 ^ e) (omega arith) (omega arith)

start_in : (a e : ℕ) → (a - a % 2 ^ e) / 2 ^ e ≡ a / 2 ^ e
start_in a e = let p = pow_pos e in quotient_in (a - a % 2 ^ e) a e (omega arith) (omega arith)

-- a byte of the block has the start's quotient by each larger power
wider : (x a e n : ℕ) → a - a % 2 ^ e ≤ x → x < a - a % 2 ^ e + 2 ^ e → x / 2 ^ (e + n) ≡ (a - a % 2 ^ e) / 2 ^ (e + n)
wider x a e n h l =
    sym (shr-shr x e n)
    ∙ ap (λ q. q / 2 ^ n) (quotient_in x a e h l ∙ sym (start_in a e))
    ∙ shr-shr (a - a % 2 ^ e) e n

wider_at : (x a e m : ℕ) → e ≤ m → a - a % 2 ^ e ≤ x → x < a - a % 2 ^ e + 2 ^ e → x / 2 ^ m ≡ (a - a % 2 ^ e) / 2 ^ m
wider_at x a e m g h l =
    let s : e + (m - e) ≡ m = omega arith in
    ap (λ k. x / 2 ^ k) (sym s) ∙ wider x a e (m - e) h l ∙ ap (λ k. (a - a % 2 ^ e) / 2 ^ k) s

-- what has the block's quotient is in it
within : (t a e : ℕ) → t / 2 ^ e ≡ (a - a % 2 ^ e) / 2 ^ e → (a - a % 2 ^ e ≤ t) × (t < a - a % 2 ^ e + 2 ^ e)
within t a e h =
    let p : t / 2 ^ e * 2 ^ e ≡ a / 2 ^ e * 2 ^ e = ap (λ q. q * 2 ^ e) (h ∙ start_in a e) in
    let low = div-mul-le_self t (2 ^ e) in
    let high : t < t / 2 ^ e * 2 ^ e + 2 ^ e = lt-div-mul-add (pow_pos e) in
    let s = start_is a e in
    (omega arith, omega arith)

-- ---- overlaps

share : (a b e f : ℕ) → (a - a % 2 ^ e) / 2 ^ max e f ≡ (b - b % 2 ^ f) / 2 ^ max e f → Meet (InBlock (block_at a e)) (InBlock (block_at b f))
share a b e f h = ⊎_elim
    (λ (l : f < e).
    let m : max e f ≡ e = omega arith in
    let p = pow_pos f in
    let i = within (b - b % 2 ^ f) a e (ap (λ k. (b - b % 2 ^ f) / 2 ^ k) (sym m) ∙ sym h ∙ ap (λ k. (a - a % 2 ^ e) / 2 ^ k) m) in
    (b - b % 2 ^ f, i, (omega arith, omega arith)))
    (λ (l : e ≤ f).
    let m : max e f ≡ f = omega arith in
    let p = pow_pos e in
    let i = within (a - a % 2 ^ e) b f (ap (λ k. (a - a % 2 ^ e) / 2 ^ k) (sym m) ∙ h ∙ ap (λ k. (b - b % 2 ^ f) / 2 ^ k) m) in
    (a - a % 2 ^ e, (omega arith, omega arith), i))
    (cases_lt f e)

overlaps_share : (a b e f : ℕ) → IsTrue (overlap (block_at a e) (block_at b f)) ↔ Meet (InBlock (block_at a e)) (InBlock (block_at b f))
overlaps_share a b e f = (
  λ h. share a b e f (eqb-true ((a - a % 2 ^ e) / 2 ^ max e f) ((b - b % 2 ^ f) / 2 ^ max e f) h),
  λ m. eq-eqb ((a - a % 2 ^ e) / 2 ^ max e f) ((b - b % 2 ^ f) / 2 ^ max e f) (sym (wider_at m.0 a e (max e f) (omega arith) m.1.0 m.1.1) ∙ wider_at m.0 b f (max e f) (omega arith) m.2.0 m.2.1),
)

-- ---- kept ranges

three : (p q r : Bool) → p ≡ true → q ≡ true → r ≡ true → (p && q && r) ≡ true
three p q r h k l = cc

touched : (s e lo hi : ℕ) → (ltb lo hi && ltb s hi && ltb lo (s + 2 ^ e)) ≡ true → (x : ℕ) × ((s ≤ x) × (x < s + 2 ^ e)) × ((lo ≤ x) × (x < hi))
touched s e lo hi h =
    let p = and_parts (ltb lo hi && ltb s hi) (ltb lo (s + 2 ^ e)) h in
    let q = and_parts (ltb lo hi) (ltb s hi) p.0 in
    let one = ltb-true lo hi q.0 in
    let two = ltb-true s hi q.1 in
    let end = ltb-true lo (s + 2 ^ e) p.1 in
    let z = pow_pos e in
    (max s lo, (omega arith, omega arith), (omega arith, omega arith))

touches_share : (b : Block) (k : KeptRange) → IsTrue (touches b k) ↔ Meet (InBlock b) (InRange k)
touches_share b k = (
  λ h. touched b.start b.exponent k.lo k.hi h,
  λ m. three (ltb k.lo k.hi) (ltb b.start k.hi) (ltb k.lo (b.start + 2 ^ b.exponent)) (lt-ltb k.lo k.hi (omega arith)) (lt-ltb b.start k.hi (omega arith)) (lt-ltb k.lo (b.start + 2 ^ b.exponent) (omega arith)),
)

pub blocks_are_bytes : BlocksAreBytes
blocks_are_bytes = record {
  holds = λ a e. let p = pow_pos e in (omega arith, omega arith);
  overlaps = overlaps_share;
  touches = touches_share;
}
