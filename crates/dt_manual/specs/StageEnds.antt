-- The end of a stage, and the fetch of an entry, that the code gives, as the walks name them.
use Rattle.std.specs.Prelude.{ℕ}
use Rattle.dt_manual.specs.declared.two_stages.Cause.{Cause as Told}
use Rattle.dt_manual.specs.declared.two_stages.Cause.TheVariants.{Page, Guest, Access}
use Rattle.dt_manual.specs.declared.two_stages.StageEnd.{StageEnd as End}
use Rattle.dt_manual.specs.declared.two_stages.StageEnd.TheVariants.{Reached, Stopped}
use Rattle.dt_manual.specs.declared.two_stages.Fetch.{Fetch}
use Rattle.dt_manual.specs.declared.two_stages.Fetch.TheVariants.{Got, Lost}
use Rattle.dt_manual.specs.Levels.{Cause, page_fault, guest_fault, access_fault, StageEnd, reached, stopped, Fetched, got, lost}

abbrev pub cause_of : Told → Cause
cause_of Page = page_fault
cause_of Guest = guest_fault
cause_of Access = access_fault

abbrev pub stage_end : End → StageEnd
stage_end (Reached a p) = reached a p
stage_end (Stopped c) = stopped (cause_of c)

-- what a fetch comes to: a word, or the end of the walk
pub data Outcome : Type 0 where
  word : ℕ → Outcome
  no_word : StageEnd → Outcome

abbrev pub outcome : Fetched → Outcome
outcome (got es a w) = word w
outcome (lost es e) = no_word e

abbrev pub outcome_of : Fetch → Outcome
outcome_of (Got w) = word w
outcome_of (Lost c) = no_word (stopped (cause_of c))
