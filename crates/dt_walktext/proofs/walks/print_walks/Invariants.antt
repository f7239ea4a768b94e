use Rattle.std.proofs.Common.{◌≡◌, map, take}
use Rattle.dt_lex.specs.Printing.{text_of}
use Rattle.dt_model.specs.Accepted.{accepted_data}
use Rattle.dt_walk.specs.Walkers.{walker_data}
use Rattle.dt_satisfy.specs.Claims.{run_of}
use Rattle.dt_walktext.specs.Printed.{rows_from}
use Rattle.dt_walktext.proofs.walks.print_walks.Given as goal

abbrev pub invariant-loop-k : goal.invariant-loop-k
invariant-loop-k l = record {
  walker : walker_data l.walker ≡ accepted_data l.model;
  text : l.out.items ≡ text_of (rows_from (accepted_data l.model) 0 (map (run_of (accepted_data l.model) l.image) (take l.k l.accesses)));
}
