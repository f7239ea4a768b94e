-- The walk of a model's graph: its path, the sides by which it leaves ifs and reads, the reads that it makes, and its end.
use Rattle.std.specs.Prelude.{ℕ, ◌+◌, ◌==◌, Bool, true, false, if◌then◌else◌, List, [], ◌∷◌, ◌++◌, Option, Some, None}
use Rattle.dt_bits.specs.Memory.{Memory, word_of}
use Rattle.dt_model.specs.ModelData.{ModelData, ActData, bind, read, branch, fault, done}
use Rattle.dt_model.specs.Faults.{steps}
use Rattle.dt_walk.specs.declared.run.End.{End}
use Rattle.dt_walk.specs.declared.run.End.TheVariants.{Done, Fault}
use Rattle.dt_walk.specs.declared.run.ReadMade.{ReadMade}
use Rattle.dt_walk.specs.declared.run.SideTaken.{SideTaken}
use Rattle.dt_walk.specs.Meaning.{EnvData, env_of, Vars, unbound, bound, value_at}

-- the visited nodes with the ending one, the sides taken and the made reads, all in order, and the end
pub record RunData : Type 0 where
  pub path : List ℕ
  pub sides : List SideTaken
  pub reads : List ReadMade
  pub end : End

abbrev pub visit : ℕ → RunData → RunData
visit n r = record { path = n ∷ r.path; sides = r.sides; reads = r.reads; end = r.end }

-- an if or a read is left by `then` (true), or by its other side
abbrev pub left : ℕ → Bool → RunData → RunData
left n by_then r = record { path = r.path; sides = record { node = n; by_then = by_then } ∷ r.sides; reads = r.reads; end = r.end }

abbrev pub made : ReadMade → RunData → RunData
made m r = record { path = r.path; sides = r.sides; reads = m ∷ r.reads; end = r.end }

abbrev pub ended : ℕ → End → RunData
ended n e = record { path = n ∷ []; sides = []; reads = []; end = e }

-- a run, after what was recorded before
abbrev pub after : RunData → RunData → RunData
after b r = record { path = b.path ++ r.path; sides = b.sides ++ r.sides; reads = b.reads ++ r.reads; end = r.end }

-- what was recorded, with an end
abbrev pub finished : RunData → End → RunData
finished b e = record { path = b.path; sides = b.sides; reads = b.reads; end = e }

-- a read of this cell, where the memory has a word there
abbrev pub read_of : Option ℕ → ℕ → ℕ → ℕ → ℕ → ℕ → (ℕ → Vars → RunData) → Vars → RunData
read_of None n cell x t o go vars = left n false (go o vars)
read_of (Some w) n cell x t o go vars = made (record { node = n; cell = cell; word = w }) (left n true (go t (bound vars x w)))

-- an if whose test is 1, or isn't
abbrev pub branch_of : Bool → ℕ → ℕ → ℕ → (ℕ → Vars → RunData) → Vars → RunData
branch_of b n t o go vars = left n b (go (if b then t else o) vars)

-- one node, and then go on
abbrev pub acted : EnvData → Memory → ℕ → ActData → (ℕ → Vars → RunData) → Vars → RunData
acted s m n (bind x e to) go vars = visit n (go to (bound vars x (value_at s vars e).bits))
acted s m n (read x e g t o) go vars = visit n (read_of (word_of m (value_at s vars e).bits) n (value_at s vars e).bits x t o go vars)
acted s m n (branch e t o) go vars = visit n (branch_of ((value_at s vars e).bits == 1) n t o go vars)
acted s m n (fault c) go vars = ended n (Fault n c)
acted s m n (done e p) go vars = ended n (Done n (value_at s vars e).bits p)

-- The walk from the node `to`, where `at` is the first node of those that are left. An accepted model's walk doesn't run out of nodes.
abbrev pub walk_from : EnvData → Memory → List ActData → ℕ → ℕ → Vars → RunData
walk_from s m [] at to vars = ended to (Fault to 0)
walk_from s m (p ∷ ps) at to vars = if at == to then acted s m at p (walk_from s m ps (at + 1)) vars else walk_from s m ps (at + 1) to vars

-- the walk from node 0 with no variable bound
abbrev pub walk_of : ModelData → List ℕ → List ℕ → Memory → RunData
walk_of d regs inputs memory = walk_from (env_of d regs inputs) memory (steps d) 0 0 unbound
