-- What an expression's value is.
use Rattle.std.specs.Prelude.{◌≡◌, ℕ, Bool}
use Rattle.dt_model.specs.ModelData.{Tree}
use Rattle.dt_walk.specs.Meaning.{EnvData, Vars, value_at}
use Rattle.dt_stage.specs.Tells.{bv, truth}

-- the expression has this value of so many bits
pub record Has (s : EnvData) (vars : Vars) (t : Tree) (w n : ℕ) : Type 0 where
  pub is : value_at s vars t ≡ bv w n

-- the expression says whether something holds
pub record Says (s : EnvData) (vars : Vars) (t : Tree) (b : Bool) : Type 0 where
  pub is : value_at s vars t ≡ truth b
