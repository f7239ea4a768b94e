-- Domains of one number, and nodes near which all bits are known.
use Rattle.std.specs.Prelude.{◌≡◌, ℕ, ◌-◌, ◌^◌, ◌<◌, List}
use Rattle.dt_bits.specs.Ops.{arity_of, value_of}
use Rattle.dt_bits.specs.declared.op.Op.{Op}
use Rattle.dt_bits.specs.declared.value.Bv.{Bv}
use Rattle.dt_domain.specs.Domain.{DomainOps, Holds, bits_of}
use Rattle.dt_terms.specs.declared.term.Term.{Term}
use Rattle.dt_terms.specs.declared.term.Term.TheVariants.{Choice, Node}
use Rattle.dt_box.specs.Cells.{cell_at}
use Rattle.dt_box.specs.Stillness.{IsStillAt}

-- the domain holds v, and all its bits are known
pub record IsOnly {D : Type 0} (ops : DomainOps D) (d : D) (v : Bv) : Type 0 where
  pub width : ops.width d ≡ v.width
  pub holds : Holds ops d v.bits
  pub full : ops.known_mask d ≡ 2 ^ bits_of ops d - 1

-- v is a number of the domain's width; where the operator has an operand at place k, it is the one that
-- the domain holds
pub record IsOperandNumber {D : Type 0} (ops : DomainOps D) (op : Op) (k : ℕ) (d : D) (v : Bv) : Type 0 where
  pub width : ops.width d ≡ v.width
  pub fits : v.bits < 2 ^ v.width.0
  pub only : k < arity_of op → IsOnly ops d v

-- x is the operator's value of such numbers of a node's operands
pub record IsOperatorValue {D : Type 0} (ops : DomainOps D) (cells : List D) (op : Op) (a b c : ℕ) (x : ℕ) : Type 0 where
  pub first : Bv
  pub second : Bv
  pub third : Bv
  pub first_is : IsOperandNumber ops op 0 (cell_at ops cells a) first
  pub second_is : IsOperandNumber ops op 1 (cell_at ops cells b) second
  pub third_is : IsOperandNumber ops op 2 (cell_at ops cells c) third
  pub value : value_of op first second third ≡ x

-- the term is a node that comes to x, since all bits of its operands are known
abbrev pub ComesTo : {D : Type 0} → DomainOps D → List D → Term → ℕ → Type 0
ComesTo ops cells (Choice w) x = ⊥
ComesTo ops cells (Node op a b c w) x = IsOperatorValue ops cells op a b c x

-- where the node's cell holds this number alone, no step of the node tells something new
abbrev pub Fixes : {D : Type 0} → DomainOps D → List Term → List D → ℕ → ℕ → Type 0
Fixes ops terms cells t x = (v : Bv) → IsOnly ops (cell_at ops cells t) v → v.bits ≡ x → IsStillAt ops terms t cells
