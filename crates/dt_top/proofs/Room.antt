-- A text that an output with room didn't take whole is longer than the room.
use Rattle.std.proofs.Common.{ℕ, ◌<◌, ◌≤◌, List, length, Option, ⊎_elim}
use Rattle.std.proofs.lemmas.Bool.{cases_lt}
use Rattle.dt_top.specs.Table.{WritesPart, NeedsMore}
use Rattle.dt_top.specs.declared.status.Status.{Status}

pub needs_more : (rows : Status → List ℕ → Type 0) (takes : ℕ → Type 0) (old new : Option (List ℕ)) (room : ℕ)
    → WritesPart rows takes old new → ((n : ℕ) → n ≤ room → takes n) → NeedsMore rows room
needs_more rows takes old new room w t = (
  w.0,
  w.1,
  w.2,
  ⊎_elim
      (λ (l : room < length w.1). l)
      (λ (l : length w.1 ≤ room). absurd (w.3 (t (length w.1) l)))
      (cases_lt room (length w.1)),
)
