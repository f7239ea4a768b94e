use Rattle.std.proofs.Common.{◌∙◌}
use Rattle.dt_build.proofs.Entered.{entered_keys, entered_at, entered_new}
use Rattle.dt_build.proofs.nodes.NodeTable.enter.Goals as goal

pub returns-clause-entered : goal.returns-clause-entered
returns-clause-entered c = rw (← c.self.view_is) (c.in_ok-entered.ensures.keys ∙ entered_keys c.self.inside.nodes.keys c.args.node)

pub returns-clause-place : goal.returns-clause-place
returns-clause-place c = rw (← c.self.view_is) (c.in_ok-entered.ensures.index ∙ entered_at c.self.inside.nodes.keys c.args.node)

pub returns-clause-added : goal.returns-clause-added
returns-clause-added c = rw (← c.self.view_is) (c.in_ok-entered.ensures.added ∙ entered_new c.self.inside.nodes.keys c.args.node)
