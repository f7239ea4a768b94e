-- Values for terms.
use Rattle.dt_terms.specs.Values.{bv_at, values_of}
use Rattle.std.specs.Prelude.{◌≡◌, ℕ, ◌<◌, ◌^◌, ◌==◌, if◌then◌else◌, Bool, List, length}
use Rattle.dt_bits.specs.Bits.{width}
use Rattle.dt_bits.specs.Ops.{applied}
use Rattle.dt_bits.specs.declared.value.Bv.{Bv}
use Rattle.dt_terms.specs.declared.term.Term.{Term}
use Rattle.dt_terms.specs.declared.term.Term.TheVariants.{Choice, Node}
use Rattle.dt_terms.specs.Terms.{term_at, bits_at}

-- a value for each position
abbrev pub Valuation : Type 0
Valuation = ℕ → Bv

-- a choice has its width, and a node its operator's value of its operands
abbrev pub HasValue : Valuation → Term → Bv → Type 0
HasValue v (Choice w) x = x.width ≡ w
HasValue v (Node op a b c w) x = x ≡ applied op (v a) (v b) (v c)

abbrev pub IsLawful : Valuation → List Term → Type 0
IsLawful v terms = (t : ℕ) → t < length terms → HasValue v (term_at terms t) (v t)

-- lawful values, each of its term's width and below two to its width
pub record AreValues (v : Valuation) (terms : List Term) : Type 0 where
  pub lawful : IsLawful v terms
  pub wide : (t : ℕ) → t < length terms → (v t).width.0 ≡ bits_at terms t
  pub ranged : (t : ℕ) → (v t).bits < 2 ^ (v t).width.0

-- a truth as a value of one bit
abbrev pub flag : Bool → Bv
flag b = record { width = width 1; bits = if b then 1 else 0 }

abbrev pub is_one : Bv → Bool
is_one x = x.bits == 1

-- the values that numbers for the choices give
abbrev pub values : List Term → List ℕ → Valuation
values terms numbers t = bv_at terms (values_of terms numbers) t
