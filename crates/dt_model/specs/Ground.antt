-- What the check of nodes rests on: names that have passed, and operators that have their operands.
use Rattle.std.specs.Prelude.{◌≤◌, length}
use Rattle.std.specs.List.{All}
use Rattle.dt_model.specs.declared.model.Model.{Model}
use Rattle.dt_model.specs.ModelData.{act_of}
use Rattle.dt_model.specs.Widths.{AreWidths}
use Rattle.dt_model.specs.Faults.{StepArities}

pub record IsDeclared (m : Model) : Type 0 where
  pub few_vars : length m.vars ≤ 512
  pub regs : AreWidths m.regs
  pub inputs : AreWidths m.inputs
  pub vars : AreWidths m.vars
  pub arities : All (λ n. StepArities (act_of n.act)) m.nodes
