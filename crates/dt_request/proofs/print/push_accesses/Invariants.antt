use Rattle.std.proofs.Common.{◌≡◌, ◌++◌, take}
use Rattle.std.specs.List.{flat_map}
use Rattle.dt_lex.specs.Printing.{text_of}
use Rattle.dt_model.specs.ModelData.{data_of}
use Rattle.dt_request.specs.Print.{access_rows}
use Rattle.dt_request.proofs.print.push_accesses.Given as goal

abbrev pub invariant-loop-wish : goal.invariant-loop-wish
invariant-loop-wish l = l.out.items ≡ l.fn.out.items ++ text_of (flat_map (access_rows (data_of l.model) l.contexts) (take l.wish-index l.accesses))
