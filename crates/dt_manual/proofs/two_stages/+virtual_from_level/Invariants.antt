use Rattle.dt_manual.proofs.two_stages.+virtual_from_level.Given as goal

abbrev pub decreases-virtual_from_level : goal.decreases-virtual_from_level
decreases-virtual_from_level l = l.left
