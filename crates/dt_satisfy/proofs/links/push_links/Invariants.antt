use Rattle.std.proofs.Common.{◌≡◌, ◌++◌, map, take}
use Rattle.dt_model.specs.Flow.{steps_of}
use Rattle.dt_walk.specs.Walkers.{run_data}
use Rattle.dt_satisfy.specs.Links.{link_holds}
use Rattle.dt_satisfy.proofs.links.push_links.Given as goal

abbrev pub invariant-loop-link : goal.invariant-loop-link
invariant-loop-link l = l.claims.items ≡ l.initial.claims.items ++ map (link_holds (steps_of l.nodes) (map run_data l.runs)) (take l.link-index l.links)
