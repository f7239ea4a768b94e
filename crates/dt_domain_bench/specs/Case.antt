-- An operator with widths that it fits.
use Rattle.std.specs.Prelude.{◌≡◌, true}
use Rattle.dt_bits.specs.Bits.{IsWidth, width}
use Rattle.dt_bits.specs.Ops.{IsOp, fits_at, width_of}
use Rattle.dt_domain.specs.Domain.{DomainOps, IsDomainOf}
use Rattle.dt_domain_bench.specs.declared.cases.Case.{Case}
use Rattle.dt_domain_bench.specs.declared.loops.Given.{Given}

pub record IsCase (k : Case) : Type 0 where
  pub op_is : IsOp k.op
  pub a_is : IsWidth k.a.0
  pub b_is : IsWidth k.b.0
  pub c_is : IsWidth k.c.0
  pub r_is : IsWidth k.r.0
  pub fits : fits_at k.op k.a.0 k.b.0 k.c.0 ≡ true
  pub result : k.r ≡ width (width_of k.op k.a.0 k.b.0 k.c.0)

-- domains of the case's widths
pub record AreGiven {D : Type 0} (ops : DomainOps D) (k : Case) (g : Given D) : Type 0 where
  pub a_is : IsDomainOf ops k.a g.a
  pub b_is : IsDomainOf ops k.b g.b
  pub c_is : IsDomainOf ops k.c g.c
  pub r_is : IsDomainOf ops k.r g.r
