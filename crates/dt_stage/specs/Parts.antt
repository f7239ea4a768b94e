-- The reads of a walk of several stages, at the nodes of their walks and levels.
use Rattle.std.specs.Prelude.{ℕ, List, [], ◌∷◌, ◌++◌, map}
use Rattle.dt_walk.specs.declared.run.ReadMade.{ReadMade}
use Rattle.dt_manual.specs.Levels.{Part, Entry, Walked, StageEnd}
use Rattle.dt_stage.specs.Tells.{Told}

abbrev pub part_made : (Part → ℕ → ℕ) → Entry → ReadMade
part_made nodes e = record { node = nodes e.part e.level; cell = e.address; word = e.word }

abbrev pub after_reads : List ReadMade → Told → Told
after_reads rs t = record { reads = rs ++ t.reads; end = t.end }

-- the reads of a stage's walk, and then what comes after its end
abbrev pub goes : (Part → ℕ → ℕ) → (StageEnd → Told) → Walked → Told
goes nodes k w = after_reads (map (part_made nodes) w.entries) (k w.end)
