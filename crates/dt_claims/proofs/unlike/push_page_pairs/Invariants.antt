use Rattle.std.proofs.Common.{◌≡◌, ◌++◌, drop, map}
use Rattle.std.specs.List.{flat_map}
use Rattle.dt_table.specs.Unlike.{page_unlikes}
use Rattle.dt_claims.specs.Views.{spot}
use Rattle.dt_claims.proofs.unlike.push_page_pairs.Given as goal

abbrev pub invariant-loop-page : goal.invariant-loop-page
invariant-loop-page l = l.found.items ++ flat_map (λ x. flat_map (page_unlikes l.terms x) (map spot l.others)) (map spot (drop l.page-index l.pages)) ≡ l.initial.found.items ++ flat_map (λ x. flat_map (page_unlikes l.terms x) (map spot l.others)) (map spot l.pages)
