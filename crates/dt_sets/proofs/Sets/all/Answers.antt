use Rattle.std.proofs.Common.{◌∙◌, arith}
use Rattle.dt_sets.proofs.Alike.{full_one, full_two, full_three, full_wide}
use Rattle.dt_sets.proofs.Sets.all.Goals as goal

pub returns-in-1 : goal.returns-in-1
returns-in-1 c = full_one c.args.width c.in-1.is

pub returns-in-2 : goal.returns-in-2
returns-in-2 c = full_two c.args.width c.in-2.is

pub returns-in-3 : goal.returns-in-3
returns-in-3 c = full_three c.args.width c.in-3.is

pub returns-in_default : goal.returns-in_default
returns-in_default c = c.everything.ensures ∙ full_wide c.args.width (omega arith)
