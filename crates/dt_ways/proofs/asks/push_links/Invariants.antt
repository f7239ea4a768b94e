use Rattle.std.proofs.Common.{◌≡◌, ◌++◌, drop}
use Rattle.std.specs.List.{flat_map}
use Rattle.dt_ways.specs.Ways.{link_asks}
use Rattle.dt_ways.proofs.asks.push_links.Given as goal

abbrev pub invariant-loop-link : goal.invariant-loop-link
invariant-loop-link l = l.asked.items ++ flat_map (link_asks l.access) (drop l.link-index l.links) ≡ l.initial.asked.items ++ flat_map (link_asks l.access) l.links
