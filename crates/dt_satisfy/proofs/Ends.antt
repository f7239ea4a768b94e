-- An address below the end of the 2^e bytes from a start.
use Rattle.std.proofs.Common.{◌≡◌, ℕ, ◌+◌, ◌-◌, ◌/◌, ◌^◌, ◌<◌, ◌≤◌, eqb, ltb, ⊎_elim, eq-eqb, sym, ◌∙◌, arith}
use Rattle.std.proofs.Math.Nat.{div-eq_of_lt}
use Rattle.std.proofs.lemmas.Bool.{cases_lt, lt-ltb, le-ltb, ne_eqb}
use Rattle.std.proofs.lemmas.Nat.{pow_pos, le-div}

pub below_end : (a s e : ℕ) → s ≤ a → eqb ((a - s) / 2 ^ e) 0 ≡ ltb a (s + 2 ^ e)
below_end a s e h = ⊎_elim
    (λ (l : a - s < 2 ^ e). let q : (a - s) / 2 ^ e ≡ 0 = div-eq_of_lt l in eq-eqb ((a - s) / 2 ^ e) 0 q ∙ sym (lt-ltb a (s + 2 ^ e) (omega arith)))
    (λ (l : 2 ^ e ≤ a - s). let q : 1 ≤ (a - s) / 2 ^ e = le-div 1 (a - s) (2 ^ e) (pow_pos e) (omega arith) in ne_eqb ((a - s) / 2 ^ e) 0 (λ z. absurd (omega arith)) ∙ sym (le-ltb a (s + 2 ^ e) (omega arith)))
    (cases_lt (a - s) (2 ^ e))
