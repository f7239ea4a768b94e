-- What the code's step at a node says of the run.
use Rattle.std.specs.Prelude.{◌≡◌, ℕ}
use Rattle.dt_walk.specs.declared.step.Next.{Next}
use Rattle.dt_walk.specs.declared.step.Next.TheVariants.{Go, End}
use Rattle.dt_walk.specs.Meaning.{Vars}
use Rattle.dt_walk.specs.Walks.{RunData, after, finished}
use Rattle.dt_walk.specs.Sound.{IsLater}

-- past what was recorded, the whole run goes on as the code's step says, or has ended
abbrev pub IsNext : (ℕ → Vars → RunData) → Vars → RunData → Next → RunData → Type 0
IsNext go vars record_so_far (Go to) run = run ≡ after record_so_far (go to vars)
IsNext go vars record_so_far (End e) run = run ≡ finished record_so_far e

abbrev pub LeadsOn : ℕ → ℕ → Next → Type 0
LeadsOn count at (Go to) = IsLater count at to
LeadsOn count at (End e) = Unit {0}
