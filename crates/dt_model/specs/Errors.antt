-- What the error of a check says.
use Rattle.dt_model.specs.declared.refusal.ModelError.{ModelError}
use Rattle.dt_model.specs.declared.refusal.ModelError.TheVariants.{Memory, Refused}
use Rattle.dt_model.specs.ModelData.{ModelData}
use Rattle.dt_model.specs.Faults.{IsRefused}

-- a refusal is at the first place, and the smallest there; want of memory says nothing
abbrev pub IsError : ModelData → ModelError → Type 0
IsError d Memory = Unit {0}
IsError d (Refused r p) = IsRefused d p r
