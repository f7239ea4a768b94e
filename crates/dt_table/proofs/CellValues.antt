-- The test of a cell tells where table memory has words.
use Rattle.std.proofs.Common.{◌≡◌, ℕ, ◌+◌, ◌-◌, ◌/◌, ◌%◌, ◌<◌, ◌≤◌, ◌^◌, Bool, true, false, not, ◌&&◌, cond, eqb, ltb, leb, List, ◌⊎◌, inl, inr, refl, sym, ap, ◌∙◌, arith}
use Rattle.std.proofs.Math.Nat.{mod-one, div-one}
use Rattle.std.proofs.lemmas.Bool.{cases_lt, eqb-true, eqb-false, leb-true, le-leb, lt-leb, lt-ltb, le-ltb, eq-eqb}
use Rattle.dt_bits.specs.declared.op.Op.TheVariants.{Slice}
use Rattle.dt_bits.specs.Memory.{Memory, is_place}
use Rattle.dt_terms.specs.declared.term.Term.{Term}
use Rattle.dt_forms.specs.Forms.{term, number, form1, form_placed, form_value, not_of, both_of, same_of, less_of}
use Rattle.dt_table.specs.Passing.{Access, aligned, above, below, is_cell}
use Rattle.dt_forms.specs.Meaning.{Valuation, IsLawful, flag}
use Rattle.dt_forms.proofs.FormValues.{form_is, not_form, both_form}
use Rattle.dt_forms.specs.Forms.{HasForm}

not_less : (c lo : ℕ) → not (ltb c lo) ≡ leb lo c
not_less c lo = by_order (cases_lt c lo)
  where
    by_order : (c < lo) ⊎ (lo ≤ c) → not (ltb c lo) ≡ leb lo c
    by_order (inl l) = ap not (lt-ltb c lo l) ∙ sym (lt-leb lo c l)
    by_order (inr l) = ap not (le-ltb c lo l) ∙ sym (le-leb lo c l)

aligned_value : (v : Valuation) (a : Access) (cell : ℕ) → v a.one_term ≡ flag true → form_value v (aligned a cell) ≡ flag (eqb ((v cell).bits % 2 ^ a.align) 0)
aligned_value v a cell one = by_case (eqb a.align 0) refl
  where
    by_case : (b : Bool) → eqb a.align 0 ≡ b → form_value v (cond b (term a.one_term) (same_of (form1 (Slice (a.align - 1) 0) (term cell)) (number a.align 0))) ≡ flag (eqb ((v cell).bits % 2 ^ a.align) 0)
    by_case true e =
        let z : (v cell).bits % 2 ^ 0 ≡ 0 = mod-one (v cell).bits in
        one ∙ ap flag (sym (eq-eqb _ 0 (ap (λ (k : ℕ). (v cell).bits % 2 ^ k) (eqb-true a.align 0 e) ∙ z)))
    by_case false e =
        let ne = eqb-false a.align 0 e in
        let m : a.align - 1 - 0 + 1 ≡ a.align = omega (arith, ne) in
        let d : (v cell).bits / 2 ^ 0 ≡ (v cell).bits = div-one (v cell).bits in
        ap (λ (k : ℕ). flag (eqb ((v cell).bits / 2 ^ 0 % 2 ^ k) 0)) m ∙ ap (λ (k : ℕ). flag (eqb (k % 2 ^ a.align) 0)) d

above_value : (v : Valuation) (a : Access) (cell : ℕ) → v a.zero_term ≡ flag false → (v cell).bits < 2 ^ a.address → form_value v (above a cell) ≡ flag (leb a.lo (v cell).bits)
above_value v a cell zero_is l = by_case (leb (2 ^ a.address) a.lo) refl
  where
    by_case : (b : Bool) → leb (2 ^ a.address) a.lo ≡ b → form_value v (cond b (term a.zero_term) (not_of (less_of (term cell) (number a.address a.lo)))) ≡ flag (leb a.lo (v cell).bits)
    by_case true e = let m = leb-true (2 ^ a.address) a.lo e in zero_is ∙ ap flag (sym (lt-leb a.lo (v cell).bits (omega (arith, m, l))))
    by_case false e = not_form v (less_of (term cell) (number a.address a.lo)) (ltb (v cell).bits a.lo) refl ∙ ap flag (not_less (v cell).bits a.lo)

below_value : (v : Valuation) (a : Access) (cell : ℕ) → v a.one_term ≡ flag true → (v cell).bits < 2 ^ a.address → form_value v (below a cell) ≡ flag (ltb (v cell).bits a.hi)
below_value v a cell one l = by_case (leb (2 ^ a.address) a.hi) refl
  where
    by_case : (b : Bool) → leb (2 ^ a.address) a.hi ≡ b → form_value v (cond b (term a.one_term) (less_of (term cell) (number a.address a.hi))) ≡ flag (ltb (v cell).bits a.hi)
    by_case true e = let m = leb-true (2 ^ a.address) a.hi e in one ∙ ap flag (sym (lt-ltb (v cell).bits a.hi (omega (arith, m, l))))
    by_case false e = refl

cell_form : (a : Access) (cell : ℕ) → HasForm (is_cell a cell)
cell_form a cell = (refl, first (eqb a.align 0), (refl, second (leb (2 ^ a.address) a.lo), third (leb (2 ^ a.address) a.hi)))
  where
    first : (b : Bool) → HasForm (cond b (term a.one_term) (same_of (form1 (Slice (a.align - 1) 0) (term cell)) (number a.align 0)))
    first true = tt
    first false = (refl, (refl, tt), tt)

    second : (b : Bool) → HasForm (cond b (term a.zero_term) (not_of (less_of (term cell) (number a.address a.lo))))
    second true = tt
    second false = (refl, (refl, tt, tt))

    third : (b : Bool) → HasForm (cond b (term a.one_term) (less_of (term cell) (number a.address a.hi)))
    third true = tt
    third false = (refl, tt, tt)

-- the test of a cell is that of the memory
pub cell_value : (v : Valuation) (a : Access) (m : Memory) (terms : List Term) (cell : ℕ) → v a.zero_term ≡ flag false → v a.one_term ≡ flag true → m.bytes ≡ 2 ^ a.align → m.lo ≡ a.lo → m.hi ≡ a.hi → (v cell).bits < 2 ^ a.address
    → IsLawful v (form_placed terms (is_cell a cell)).terms → v (form_placed terms (is_cell a cell)).at ≡ flag (is_place m (v cell).bits)
cell_value v a m terms cell zero_is one bytes lo hi l h =
    let c = (v cell).bits in
    form_is v (is_cell a cell) terms (cell_form a cell) h
    ∙ both_form v (aligned a cell) (both_of (above a cell) (below a cell)) (eqb (c % 2 ^ a.align) 0) (leb a.lo c && ltb c a.hi) (aligned_value v a cell one)
    (both_form v (above a cell) (below a cell) (leb a.lo c) (ltb c a.hi) (above_value v a cell zero_is l) (below_value v a cell one l))
    ∙ ap (λ (b : ℕ). flag (eqb (c % b) 0 && (leb a.lo c && ltb c a.hi))) (sym bytes)
    ∙ ap (λ (b : ℕ). flag (eqb (c % m.bytes) 0 && (leb b c && ltb c a.hi))) (sym lo)
    ∙ ap (λ (b : ℕ). flag (eqb (c % m.bytes) 0 && (leb m.lo c && ltb c b))) (sym hi)
