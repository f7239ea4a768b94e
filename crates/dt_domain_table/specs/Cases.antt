-- The conditions of a case.
use Rattle.dt_bits.specs.Ops.{IsOp}
use Rattle.dt_domain.specs.Domain.{DomainOps}
use Rattle.dt_domain_table.specs.declared.call.Call.{Call}
use Rattle.dt_domain_table.specs.declared.call.Call.TheVariants.{Forward, Backward, Meet, WithBit}
use Rattle.dt_domain_table.specs.declared.asked.Given.{Given}

-- a constant operator has a value
abbrev pub IsCall : Call → Type 0
IsCall (Forward op) = IsOp op
IsCall (Backward op place) = IsOp op
IsCall _ = Unit {0}

-- all four are domains
pub record AreDomains {D : Type 0} (ops : DomainOps D) (g : Given D) : Type 0 where
  pub a_is : ops.IsDomain g.a
  pub b_is : ops.IsDomain g.b
  pub c_is : ops.IsDomain g.c
  pub outcome_is : ops.IsDomain g.outcome
