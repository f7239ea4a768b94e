-- The claims on two nodes, for each two that walks can come to.
use Rattle.std.specs.Prelude.{List, [], ◌∷◌, ◌++◌}
use Rattle.std.specs.List.{flat_map}
use Rattle.dt_forms.specs.Forms.{Form}
use Rattle.dt_table.specs.Passing.{Access}
use Rattle.dt_table.specs.Claims.{pair_form}
use Rattle.dt_table.specs.Apart.{apart_form}
use Rattle.dt_table.specs.Spots.{Spot, can_meet, only_if}

-- made reads at one cell have one word
abbrev pub pair_if : Spot → Spot → List Form
pair_if x y = only_if (can_meet x y) (pair_form x.of.out y.of.out)

abbrev pub pair_forms : List Spot → List Form
pair_forms [] = []
pair_forms (x ∷ xs) = flat_map (pair_if x) xs ++ pair_forms xs

-- no page overlaps a table whose read is made
abbrev pub apart_if : Access → Spot → Spot → List Form
apart_if a page table = only_if (can_meet page table) (apart_form a (λ o. o.by_then) page.of table.of)

abbrev pub apart_forms : Access → List Spot → List Spot → List Form
apart_forms a pages tables = flat_map (λ p. flat_map (apart_if a p) tables) pages
