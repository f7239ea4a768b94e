-- The causes of a fault: a count of 64 bits that rose, and a list of calls that fail.
use Rattle.std.specs.Prelude.{ℕ, ◌+◌, ◌-◌, ◌^◌, ◌≤◌, ◌==◌, min, Bool, List}
use Rattle.std.specs.List.{list_any}

-- a count after it rose by this much; it stays at its last value
abbrev pub risen : ℕ → ℕ → ℕ
risen before by = min (before + by) (2 ^ 64 - 1)

-- a count rose by this much at least, or stands at its last value
abbrev pub RoseBy : ℕ → ℕ → ℕ → Type 0
RoseBy by before now = min (before + by) (2 ^ 64 - 1) ≤ now

-- a count rose, or stands at its last value
abbrev pub Rose : ℕ → ℕ → Type 0
Rose before now = RoseBy 1 before now

-- the call at this position is listed
abbrev pub is_listed : List ℕ → ℕ → Bool
is_listed failing call = list_any (λ position. position == call) failing
