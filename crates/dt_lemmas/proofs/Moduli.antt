-- Sums and differences modulo m, undone.
use Rattle.std.proofs.Common.{◌≡◌, ℕ, ◌+◌, ◌-◌, ◌%◌, ◌<◌, ◌≤◌, sym, ap, ◌∙◌, ⊎_elim, arith, ◌*◌, ◌/◌, ◌^◌}
use Rattle.std.proofs.Math.Nat.{mod-eq_of_lt, add-mod_left, mod-add-mod}
use Rattle.std.proofs.lemmas.Bool.{cases_lt}
use Rattle.std.proofs.lemmas.Nat.{div-add-mod'}

-- s between m and 2 m
pub mod_once : (s m : ℕ) → m ≤ s → s < m + m → s % m ≡ s - m
mod_once s m h l =
    let e : m + (s - m) ≡ s = omega arith in
    let t : s - m < m = omega arith in
    ap (λ n. n % m) (sym e) ∙ add-mod_left m (s - m) ∙ mod-eq_of_lt t

pub sub_of_add : (x y m : ℕ) → x < m → y < m → ((x + y) % m + m - y) % m ≡ x
sub_of_add x y m h k =
    ⊎_elim
    (λ (l : x + y < m). let e : (x + y) % m ≡ x + y = mod-eq_of_lt l in
    let d : (x + y) % m + m - y ≡ x + m = omega arith in
    let t : x + m - m ≡ x = omega arith in
    ap (λ n. n % m) d ∙ mod_once (x + m) m (omega arith) (omega arith) ∙ t)
    (λ (l : m ≤ x + y). let e : (x + y) % m ≡ x + y - m = mod_once (x + y) m l (omega arith) in
    let d : (x + y) % m + m - y ≡ x = omega arith in
    ap (λ n. n % m) d ∙ mod-eq_of_lt h)
    (cases_lt (x + y) m)

pub add_of_sub : (x y m : ℕ) → x < m → y < m → ((x + m - y) % m + y) % m ≡ x
add_of_sub x y m h k =
    ⊎_elim
    (λ (l : x < y). let t : x + m - y < m = omega arith in
    let e : (x + m - y) % m ≡ x + m - y = mod-eq_of_lt t in
    let d : (x + m - y) % m + y ≡ x + m = omega arith in
    let u : x + m - m ≡ x = omega arith in
    ap (λ n. n % m) d ∙ mod_once (x + m) m (omega arith) (omega arith) ∙ u)
    (λ (l : y ≤ x). let e : (x + m - y) % m ≡ x + m - y - m = mod_once (x + m - y) m (omega arith) (omega arith) in
    let d : (x + m - y) % m + y ≡ x = omega arith in
    ap (λ n. n % m) d ∙ mod-eq_of_lt h)
    (cases_lt x y)

pub sub_of_sub : (x y m : ℕ) → x < m → y < m → (x + m - (x + m - y) % m) % m ≡ y
sub_of_sub x y m h k =
    ⊎_elim
    (λ (l : x < y). let t : x + m - y < m = omega arith in
    let e : (x + m - y) % m ≡ x + m - y = mod-eq_of_lt t in
    let d : x + m - (x + m - y) % m ≡ y = omega arith in
    ap (λ n. n % m) d ∙ mod-eq_of_lt k)
    (λ (l : y ≤ x). let e : (x + m - y) % m ≡ x + m - y - m = mod_once (x + m - y) m (omega arith) (omega arith) in
    let d : x + m - (x + m - y) % m ≡ y + m = omega arith in
    let u : y + m - m ≡ y = omega arith in
    ap (λ n. n % m) d ∙ mod_once (y + m) m (omega arith) (omega arith) ∙ u)
    (cases_lt x y)

-- of numbers with equal quotients the remainders are in order
pub remainder_le : (u v m : ℕ) → u ≤ v → u / m ≡ v / m → u % m ≤ v % m
remainder_le u v m h e =
    let p = div-add-mod' u m in
    let q = div-add-mod' v m in
    let s : u / m * m ≡ v / m * m = ap (λ n. n * m) e in
    omega arith

-- a sum of three words of 128 bits, in two steps
pub add_thrice : (x y c : ℕ) → ((x + y) % 2 ^ 128 + c) % 2 ^ 128 ≡ (x + y + c) % 2 ^ 128
add_thrice x y c = mod-add-mod (x + y) (2 ^ 128) c
