use Rattle.std.proofs.Common.{◌≡◌, ◌++◌, drop, map}
use Rattle.std.specs.List.{flat_map}
use Rattle.dt_table.specs.Unlike.{page_unlikes}
use Rattle.dt_claims.specs.Views.{spot}
use Rattle.dt_claims.proofs.unlike.push_page_with.Given as goal

abbrev pub invariant-loop-other : goal.invariant-loop-other
invariant-loop-other l = l.found.items ++ flat_map (page_unlikes l.terms (spot l.page)) (map spot (drop l.other-index l.others)) ≡ l.initial.found.items ++ flat_map (page_unlikes l.terms (spot l.page)) (map spot l.others)
