use Rattle.std.proofs.Common.{◌≡◌, map, subst}
use Rattle.std.specs.Prelude.{IfOk}
use Rattle.dt_model.specs.ModelData.{node_of}
use Rattle.dt_stage.specs.Stage.{GoesByLevels}
use Rattle.dt_sv39x4.specs.Shipped.{guest_nodes, guest_stage}
use Rattle.dt_sv39x4.specs.declared.guest.Guest.{Guest}
use Rattle.dt_sv39x4.proofs.entries.guest_nodes_1.Goals as goal

pub returns-clause-nodes : goal.returns-clause-nodes
returns-clause-nodes c = subst (λ (g : Guest). IfOk c.guest_nodes.result (λ v. map node_of v.items ≡ guest_nodes g)) c.guest_of_1.ensures c.guest_nodes.ensures.nodes

pub returns-clause-walks : goal.returns-clause-walks
returns-clause-walks c = subst (λ (g : Guest). IfOk c.guest_nodes.result (λ v. GoesByLevels (guest_stage g))) c.guest_of_1.ensures c.guest_nodes.ensures.walks
