-- The environment that the code reads expressions in, as data.
use Rattle.dt_model.specs.Scopes.{scope_of}
use Rattle.dt_walk.specs.declared.value.Env.{Env}
use Rattle.dt_walk.specs.Meaning.{EnvData}

abbrev pub env_data : Env → EnvData
env_data e = record { scope = scope_of e.names; regs = e.regs.now; inputs = e.inputs.now }
