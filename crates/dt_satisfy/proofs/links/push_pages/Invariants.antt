use Rattle.std.proofs.Common.{◌≡◌, ◌++◌, take}
use Rattle.std.specs.List.{flat_map}
use Rattle.std.specs.Option.{option_to_list}
use Rattle.dt_walk.specs.declared.run.Run.{Run}
use Rattle.dt_satisfy.specs.Links.{page_of}
use Rattle.dt_satisfy.proofs.links.push_pages.Given as goal

abbrev pub invariant-loop-run : goal.invariant-loop-run
invariant-loop-run l = l.pages.items ≡ l.initial.pages.items ++ flat_map (λ (r : Run). option_to_list (page_of r.end)) (take l.run-index l.runs)
