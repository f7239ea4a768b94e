-- The words of an image are those that its accesses read.
use Rattle.std.specs.Prelude.{◌≡◌, ℕ, ◌==◌, Bool, List}
use Rattle.std.specs.List.{list_any}
use Rattle.dt_bits.specs.declared.memory.Word.{Word}
use Rattle.dt_model.specs.ModelData.{ModelData}
use Rattle.dt_walk.specs.Walks.{RunData}
use Rattle.dt_image.specs.declared.image.Image.{Image}
use Rattle.dt_satisfy.specs.Claims.{runs_of}

-- one of the words has this address
abbrev pub is_listed : List Word → ℕ → Bool
is_listed words address = list_any (λ w. w.address == address) words

-- one of the runs makes a read at this cell
abbrev pub reads_cell : List RunData → ℕ → Bool
reads_cell runs cell = list_any (λ run. list_any (λ m. m.cell == cell) run.reads) runs

-- the addresses of the words are the cells of the reads that the runs make
abbrev pub ListsReads : ModelData → Image → Type 0
ListsReads d i = (a : ℕ) → is_listed i.memory.words a ≡ reads_cell (runs_of d i) a
