use Rattle.std.proofs.Common.{◌≡◌, ◌<◌, ℕ, true, eqb, get_or, take}
use Rattle.std.specs.List.{list_all}
use Rattle.dt_check.proofs.evaluation.first_failing.Given as goal

-- those up to here are 1
abbrev pub invariant-loop-place : goal.invariant-loop-place
invariant-loop-place l = record {
  all : list_all (λ t. eqb (get_or l.values t 0) 1) (take l.place l.required) ≡ true;
  each : (k : ℕ) → k < l.place → get_or l.values (get_or l.required k 0) 0 ≡ 1;
}
