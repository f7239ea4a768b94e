-- The scope that the code's names stand for.
use Rattle.dt_model.specs.declared.names.Names.{Names}
use Rattle.dt_model.specs.Widths.{Scope}

abbrev pub scope_of : Names → Scope
scope_of n = record { regs = n.regs.now; inputs = n.inputs.now; vars = n.vars.now }
