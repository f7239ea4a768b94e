use Rattle.std.proofs.Common.{◌≡◌, ◌++◌, take}
use Rattle.std.specs.Prelude.{map}
use Rattle.dt_lex.specs.Printing.{text_of}
use Rattle.dt_model.specs.ModelData.{data_of}
use Rattle.dt_request.specs.Print.{demand_row}
use Rattle.dt_request.proofs.print.push_demands.Given as goal

abbrev pub invariant-loop-demand : goal.invariant-loop-demand
invariant-loop-demand l = l.out.items ≡ l.fn.out.items ++ text_of (map (demand_row (data_of l.model)) (take l.demand-index l.demands))
