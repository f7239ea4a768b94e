-- The order of the lines of a text: its sections, and which line may stand behind which.
use Rattle.std.specs.Prelude.{ℕ, ◌+◌, ◌==◌, nat_lt, Bool, true, false, ◌&&◌, List, length, slice_get, slice_range, if◌then◌else◌}
use Rattle.std.specs.List.{list_all}
use Rattle.std.specs.Option.{option_map_or}
use Rattle.dt_lex.specs.declared.section.Section.{Section}
use Rattle.dt_lex.specs.declared.section.Standing.{Standing}
use Rattle.dt_lex.specs.declared.section.Standing.TheVariants.{In, Behind}

-- exactly one line
abbrev pub one : Section
one = record { optional = false; several = false }

-- any number of lines
abbrev pub any : Section
any = record { optional = true; several = true }

abbrev pub may_repeat : List Section → ℕ → Bool
may_repeat sections at = option_map_or (λ s. s.several) (slice_get sections at) false

abbrev pub all_optional : List Section → Bool
all_optional sections = list_all (λ s. s.optional) sections

-- The place of a text counts the sections up to that of its last line; it is 0 before the first line.
abbrev pub place_of : Standing → ℕ
place_of (In at) = at + 1
place_of (Behind at) = at + 1

-- A line may stand in the section of the line before, where that may have several lines, and in a later one, where all sections between may be missing.
abbrev pub may_follow : List Section → ℕ → Standing → Bool
may_follow sections place (In at) =
    if nat_lt at place then (at + 1 == place) && may_repeat sections at
    else nat_lt at (length sections) && all_optional (slice_range sections place at)
may_follow sections place (Behind at) = at + 1 == place
