-- The room of a run's lists, which a walk fills without taking memory.
use Rattle.std.specs.Prelude.{ℕ, ◌≤◌, length, vec_capacity}
use Rattle.dt_walk.specs.declared.run.Run.{Run}

-- each list has room for so many entries
pub record HasRoom (n : ℕ) (r : Run) : Type 0 where
  pub path : n ≤ vec_capacity r.path
  pub sides : n ≤ vec_capacity r.sides
  pub reads : n ≤ vec_capacity r.reads

-- each list has at most so many entries
pub record IsFilled (n : ℕ) (r : Run) : Type 0 where
  pub path : length r.path.items ≤ n
  pub sides : length r.sides.items ≤ n
  pub reads : length r.reads.items ≤ n
