-- Where the five stages stand in the shipped model.
use Rattle.std.proofs.Common.{ℕ, ◌+◌, [], ◌∷◌, List}
use Rattle.std.specs.Prelude.{◌++◌}
use Rattle.dt_model.specs.Faults.{steps}
use Rattle.dt_model.specs.ModelData.{NodeData}
use Rattle.dt_stage.specs.Level.{upper_nodes, last_nodes}
use Rattle.dt_stage.specs.Stage.{StandFrom, stage_nodes, placed_2, placed_1, placed_0}
use Rattle.dt_stage.proofs.GoesByLevels.{stand_front, stand_after, stand_whole}
use Rattle.dt_sv39x4.specs.Shipped.{sv39x4_data, nodes, head, behind, virtual_stage, virtual_results, virtual_pages, guest_nodes, guest_a, guest_b, guest_c, guest_final, guest_pages, choice, results, faults, result_nodes, fetch2, fetch1, fetch0}

abbrev last : List NodeData
last = last_nodes virtual_stage.names.level0 (placed_0 virtual_stage)

abbrev upper_1 : List NodeData
upper_1 = upper_nodes virtual_stage.names.level1 0 (placed_1 virtual_stage)

abbrev upper_2 : List NodeData
upper_2 = upper_nodes virtual_stage.names.level2 1 (placed_2 virtual_stage)

abbrev rest_1 : List NodeData
rest_1 = upper_1 ++ (fetch0 ++ last)

abbrev rest_2 : List NodeData
rest_2 = upper_2 ++ (fetch1 ++ rest_1)

behind_head : StandFrom (steps sv39x4_data) 3 (stage_nodes virtual_stage ++ behind)
behind_head = stand_after (steps sv39x4_data) 0 head (stage_nodes virtual_stage ++ behind) (stand_whole nodes)

pub virtual_stands : StandFrom (steps sv39x4_data) 3 (stage_nodes virtual_stage)
virtual_stands = stand_front (steps sv39x4_data) 3 (stage_nodes virtual_stage) behind behind_head

-- the G-stage behind the node of its address
guest_behind : (at : ℕ) (n : NodeData) (gs rest : List NodeData) → StandFrom (steps sv39x4_data) at ((n ∷ gs) ++ rest) → StandFrom (steps sv39x4_data) (at + 1) gs
guest_behind at n gs rest h = stand_after (steps sv39x4_data) at (n ∷ []) gs (stand_front (steps sv39x4_data) at (n ∷ gs) rest h)

pub a_stands : StandFrom (steps sv39x4_data) 4 (guest_nodes guest_a)
a_stands = guest_behind 3 _ (guest_nodes guest_a) rest_2 virtual_stands

from_b : StandFrom (steps sv39x4_data) 32 (fetch1 ++ rest_1)
from_b = stand_after (steps sv39x4_data) 27 upper_2 (fetch1 ++ rest_1) (stand_after (steps sv39x4_data) 3 fetch2 rest_2 virtual_stands)

pub b_stands : StandFrom (steps sv39x4_data) 33 (guest_nodes guest_b)
b_stands = guest_behind 32 _ (guest_nodes guest_b) rest_1 from_b

from_c : StandFrom (steps sv39x4_data) 61 (fetch0 ++ last)
from_c = stand_after (steps sv39x4_data) 56 upper_1 (fetch0 ++ last) (stand_after (steps sv39x4_data) 32 fetch1 rest_1 from_b)

pub c_stands : StandFrom (steps sv39x4_data) 62 (guest_nodes guest_c)
c_stands = guest_behind 61 _ (guest_nodes guest_c) last from_c

behind_stands : StandFrom (steps sv39x4_data) 89 behind
behind_stands = stand_after (steps sv39x4_data) 3 (stage_nodes virtual_stage) behind behind_head

abbrev ends : List NodeData
ends = guest_pages ++ (choice ++ (results ++ faults))

pub led_stands : StandFrom (steps sv39x4_data) 89 (result_nodes virtual_results)
led_stands = stand_front (steps sv39x4_data) 89 (result_nodes virtual_results) (virtual_pages ++ (guest_nodes guest_final ++ ends)) behind_stands

pub final_stands : StandFrom (steps sv39x4_data) 99 (guest_nodes guest_final)
final_stands =
    stand_front (steps sv39x4_data) 99 (guest_nodes guest_final) ends
    (stand_after (steps sv39x4_data) 94 virtual_pages (guest_nodes guest_final ++ ends) (stand_after (steps sv39x4_data) 89 (result_nodes virtual_results) (virtual_pages ++ (guest_nodes guest_final ++ ends)) behind_stands))
