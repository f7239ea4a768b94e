use Rattle.std.proofs.Common.{◌≡◌, drop}
use Rattle.std.specs.List.{list_any}
use Rattle.dt_satisfy.specs.Blocks.{overlap}
use Rattle.dt_satisfy.proofs.block.are_apart.Given as goal

abbrev pub invariant-loop-page : goal.invariant-loop-page
invariant-loop-page l = list_any (λ page. list_any (overlap page) l.tables) l.pages ≡ list_any (λ page. list_any (overlap page) l.tables) (drop l.page-index l.pages)
