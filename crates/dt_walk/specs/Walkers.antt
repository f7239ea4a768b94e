-- What a walker walks, and what its runs stand for.
use Rattle.dt_model.specs.ModelData.{ModelData}
use Rattle.dt_model.specs.Accepted.{accepted_data}
use Rattle.dt_walk.specs.declared.run.Run.{Run}
use Rattle.dt_walk.specs.declared.walker.Walker.{Walker}
use Rattle.dt_walk.specs.Walks.{RunData}

-- the model that it walks
abbrev pub walker_data : Walker → ModelData
walker_data w = accepted_data w.model.now

abbrev pub run_data : Run → RunData
run_data r = record { path = r.path.items; sides = r.sides.items; reads = r.reads.items; end = r.end }
