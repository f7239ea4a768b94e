use Rattle.dt_manual.proofs.two_stages.+guest_from_level.Given as goal

abbrev pub decreases-guest_from_level : goal.decreases-guest_from_level
decreases-guest_from_level l = l.left
