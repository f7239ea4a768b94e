-- Ends of walks by their steps.
use Rattle.std.specs.Prelude.{ℕ, ◌==◌, Bool, true, false}
use Rattle.dt_model.specs.ModelData.{ActData, fault, done}

abbrev pub is_end : ActData → Bool
is_end (fault c) = true
is_end (done e p) = true
is_end _ = false

abbrev pub ends_done : ActData → Bool
ends_done (done e p) = true
ends_done _ = false

abbrev pub ends_fault : ℕ → ActData → Bool
ends_fault code (fault c) = c == code
ends_fault code _ = false

abbrev pub ends_page : ℕ → ActData → Bool
ends_page page (done e p) = p == page
ends_page page _ = false
