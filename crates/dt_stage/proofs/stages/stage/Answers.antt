use Rattle.dt_stage.specs.Stage.{shape_of}
use Rattle.dt_stage.proofs.GoesByLevels.{goes_by_levels}
use Rattle.dt_stage.proofs.stages.stage.Goals as goal

pub returns-clause-walks : goal.returns-clause-walks
returns-clause-walks c = goes_by_levels (shape_of c.args.plan)
