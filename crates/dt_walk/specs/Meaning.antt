-- Values of expressions, and rules of legality.
use Rattle.std.specs.Prelude.{ℕ, Bool, ◌==◌, if◌then◌else◌, List, Option, slice_index, unwrap_or}
use Rattle.dt_bits.specs.Bits.{width}
use Rattle.dt_bits.specs.Ops.{applied}
use Rattle.dt_bits.specs.declared.value.Bv.{Bv}
use Rattle.dt_model.specs.ModelData.{ModelData, Tree, value, reg, input, var, apply1, apply2, apply3}
use Rattle.dt_model.specs.Widths.{Scope, width_at}
use Rattle.dt_model.specs.Faults.{node_scope}

-- what expressions are read in: the names with their widths, and the values of registers and inputs
pub record EnvData : Type 0 where
  pub scope : Scope
  pub regs : List ℕ
  pub inputs : List ℕ

abbrev pub env_of : ModelData → List ℕ → List ℕ → EnvData
env_of d regs inputs = record { scope = node_scope d; regs = regs; inputs = inputs }

-- the numbers of the variables, 0 where none is bound
abbrev pub Vars : Type 0
Vars = ℕ → ℕ

abbrev pub unbound : Vars
unbound = λ _. 0

abbrev pub bound : Vars → ℕ → ℕ → Vars
bound vars x n = λ y. if y == x then n else vars y

-- the number with the width of its name
abbrev pub valued : Option ℕ → ℕ → Bv
valued w n = record { width = width (unwrap_or w 1); bits = n }

-- an operand that isn't used
abbrev pub unused : Bv
unused = record { width = width 1; bits = 0 }

-- the value of an expression
abbrev pub value_at : EnvData → Vars → Tree → Bv
value_at s vars (value w n) = record { width = width w; bits = n }
value_at s vars (reg i) = valued (width_at s.scope.regs i) (slice_index s.regs i)
value_at s vars (input i) = valued (width_at s.scope.inputs i) (slice_index s.inputs i)
value_at s vars (var i) = valued (width_at s.scope.vars i) (vars i)
value_at s vars (apply1 op a) = applied op (value_at s vars a) unused unused
value_at s vars (apply2 op a b) = applied op (value_at s vars a) (value_at s vars b) unused
value_at s vars (apply3 op a b c) = applied op (value_at s vars a) (value_at s vars b) (value_at s vars c)

-- a rule of legality is 1 under these registers and inputs
abbrev pub rule_holds : ModelData → List ℕ → List ℕ → Tree → Bool
rule_holds d regs inputs rule = (value_at (env_of d regs inputs) unbound rule).bits == 1
