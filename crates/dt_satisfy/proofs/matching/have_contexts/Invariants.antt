use Rattle.std.proofs.Common.{◌≡◌, map, take}
use Rattle.dt_satisfy.proofs.matching.have_contexts.Given as goal

abbrev pub invariant-loop-i : goal.invariant-loop-i
invariant-loop-i l = map (λ a. a.context) (take l.i l.accesses) ≡ map (λ a. a.context) (take l.i l.wishes)
