-- Blocks, and the form that two addresses are in one.
use Rattle.std.proofs.Common.{◌≡◌, ℕ, ◌+◌, ◌-◌, ◌*◌, ◌/◌, ◌%◌, ◌<◌, ◌≤◌, ◌^◌, Bool, true, false, cond, eqb, leb, refl, sym, ap, ◌∙◌, arith, lit<}
use Rattle.std.proofs.Math.Nat.{div-div-eq-div-mul, div-add-mod, div-eq_of_lt, mul-div_cancel_left, pow-le-pow_right}
use Rattle.std.proofs.lemmas.Nat.{pow_pos, pow-add}
use Rattle.std.proofs.lemmas.Bool.{leb-true, eq-eqb}
use Rattle.dt_bits.specs.declared.op.Op.TheVariants.{Shr}
use Rattle.dt_forms.specs.Forms.{term, form1, same_of, form_value}
use Rattle.dt_table.specs.Passing.{Access}
use Rattle.dt_table.specs.Apart.{same_block}
use Rattle.dt_forms.specs.Meaning.{Valuation, flag}

-- an address and the start of its block have one quotient by a larger power
pub start_quotient : (a e m : ℕ) → e ≤ m → (a - a % 2 ^ e) / 2 ^ m ≡ a / 2 ^ m
start_quotient a e m l =
    let k : e + (m - e) ≡ m = omega (arith, l) in
    let p : 2 ^ m ≡ 2 ^ e * 2 ^ (m - e) = ap (λ (n : ℕ). 2 ^ n) (sym k) ∙ pow-add 2 e (m - e) in
    let d = div-add-mod a (2 ^ e) in
    let s : a - a % 2 ^ e ≡ 2 ^ e * (a / 2 ^ e) = omega (arith, d) in
    ap (λ (n : ℕ). (a - a % 2 ^ e) / n) p ∙ sym (div-div-eq-div-mul (a - a % 2 ^ e) (2 ^ e) (2 ^ (m - e)))
    ∙ ap (λ (n : ℕ). n / 2 ^ e / 2 ^ (m - e)) s ∙ ap (λ (n : ℕ). n / 2 ^ (m - e)) (mul-div_cancel_left (a / 2 ^ e) (pow_pos e))
    ∙ div-div-eq-div-mul a (2 ^ e) (2 ^ (m - e)) ∙ ap (λ (n : ℕ). a / n) (sym p)

-- the form tells whether two addresses have one quotient
pub same_block_value : (v : Valuation) (a : Access) (e s t : ℕ) → v a.one_term ≡ flag true → (v s).bits < 2 ^ a.address → (v t).bits < 2 ^ a.address
    → form_value v (same_block a e s t) ≡ flag (eqb ((v s).bits / 2 ^ e) ((v t).bits / 2 ^ e))
same_block_value v a e s t one l m = by_case (leb a.address e) refl
  where
    by_case : (b : Bool) → leb a.address e ≡ b → form_value v (cond b (term a.one_term) (same_of (form1 (Shr e) (term s)) (form1 (Shr e) (term t)))) ≡ flag (eqb ((v s).bits / 2 ^ e) ((v t).bits / 2 ^ e))
    by_case true q =
        let k : 2 ^ a.address ≤ 2 ^ e = pow-le-pow_right (lit< tt) (leb-true a.address e q) in
        let x : (v s).bits / 2 ^ e ≡ 0 = div-eq_of_lt (omega (arith, l, k)) in
        let y : (v t).bits / 2 ^ e ≡ 0 = div-eq_of_lt (omega (arith, m, k)) in
        one ∙ ap flag (sym (eq-eqb _ _ (x ∙ sym y)))
    by_case false q = refl
