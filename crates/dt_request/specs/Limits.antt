-- How much a request list holds at most; codes have the limit of a model.
use Rattle.std.specs.Prelude.{ℕ}

-- ranges that nothing may touch
abbrev pub most_kept : ℕ
most_kept = 16

abbrev pub most_contexts : ℕ
most_contexts = 16

abbrev pub most_accesses : ℕ
most_accesses = 64

-- of one access
abbrev pub most_demands : ℕ
most_demands = 64

abbrev pub most_links : ℕ
most_links = 256
