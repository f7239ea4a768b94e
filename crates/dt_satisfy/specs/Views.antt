-- The access that the code borrows, as the access that is made.
use Rattle.dt_walk.specs.Walkers.{run_data}
use Rattle.dt_satisfy.specs.declared.demands.MadeAccess.{MadeAccess}
use Rattle.dt_satisfy.specs.Demands.{Made}

abbrev pub made_data : MadeAccess → Made
made_data a = record { regs = a.regs.now; inputs = a.inputs.now; run = run_data a.run.now }
