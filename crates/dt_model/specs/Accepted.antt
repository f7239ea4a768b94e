-- The data of an accepted model.
use Rattle.dt_model.specs.declared.accepted.Accepted.{Accepted}
use Rattle.dt_model.specs.ModelData.{ModelData, data_of}

abbrev pub accepted_data : Accepted → ModelData
accepted_data a = data_of a.model
