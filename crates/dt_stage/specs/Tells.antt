-- What a walk tells from a node on: the reads that it makes, and its end.
use Rattle.std.specs.Prelude.{ℕ, Bool, true, false, List, [], ◌∷◌, Option, Some, None, drop, if◌then◌else◌}
use Rattle.dt_bits.specs.Bits.{width}
use Rattle.dt_bits.specs.Memory.{Memory, word_of}
use Rattle.dt_bits.specs.declared.value.Bv.{Bv}
use Rattle.dt_model.specs.ModelData.{ActData}
use Rattle.dt_walk.specs.declared.run.End.{End}
use Rattle.dt_walk.specs.declared.run.ReadMade.{ReadMade}
use Rattle.dt_walk.specs.Meaning.{EnvData, Vars, bound}
use Rattle.dt_walk.specs.Walks.{RunData, walk_from}

-- a graph under registers, inputs and a memory
pub record Graph : Type 0 where
  pub env : EnvData
  pub memory : Memory
  pub steps : List ActData

pub record Told : Type 0 where
  pub reads : List ReadMade
  pub end : End

abbrev pub told : RunData → Told
told r = record { reads = r.reads; end = r.end }

abbrev pub ends : End → Told
ends e = record { reads = []; end = e }

abbrev pub with_read : ReadMade → Told → Told
with_read r t = record { reads = r ∷ t.reads; end = t.end }

-- the walk at node n with these variables
abbrev pub tells : Graph → ℕ → Vars → Told
tells g n vars = told (walk_from g.env g.memory (drop n g.steps) n n vars)

-- a value of so many bits
abbrev pub bv : ℕ → ℕ → Bv
bv w n = record { width = width w; bits = n }

abbrev pub truth : Bool → Bv
truth b = bv 1 (if b then 1 else 0)

-- after a read of this cell, by the word there
abbrev pub after_read : Graph → ℕ → ℕ → ℕ → ℕ → ℕ → Vars → Option ℕ → Told
after_read g n cell x t o vars None = tells g o vars
after_read g n cell x t o vars (Some w) = with_read (record { node = n; cell = cell; word = w }) (tells g t (bound vars x w))
