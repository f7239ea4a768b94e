-- The nodes of a model are the steps of its data.
use Rattle.std.proofs.Common.{◌≡◌, List, refl}
use Rattle.dt_model.specs.declared.model.Node.{Node}
use Rattle.dt_model.specs.declared.model.Model.{Model}
use Rattle.dt_model.specs.ModelData.{data_of}
use Rattle.dt_model.specs.Flow.{steps_of}
use Rattle.dt_model.specs.Faults.{steps}
use Rattle.dt_walk.proofs.Views.{view_steps}

pub model_steps : (m : Model) (nodes : List Node) → nodes ≡ m.nodes → steps_of nodes ≡ steps (data_of m)
model_steps m nodes e = view_steps m (data_of m) nodes refl e
