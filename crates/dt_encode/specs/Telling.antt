-- Values of terms as the code has them, and the reads that they tell.
use Rattle.std.specs.Prelude.{ℕ, ◌&&◌, if◌then◌else◌, List, [], ◌∷◌, slice_index}
use Rattle.dt_bits.specs.Bits.{width}
use Rattle.dt_model.specs.ModelData.{ActData}
use Rattle.dt_model.specs.Faults.{is_read}
use Rattle.dt_walk.specs.declared.run.ReadMade.{ReadMade}
use Rattle.dt_forms.specs.Meaning.{Valuation, is_one}
use Rattle.dt_table.specs.declared.out.Out.{Out}

-- the numbers of terms as values of 128 bits
abbrev pub valued : List ℕ → Valuation
valued numbers t = record { width = width 128; bits = slice_index numbers t }

-- the read that a walk makes at a node: it comes there, and the read is made
abbrev pub made_at : Valuation → ℕ → ActData → Out → List ReadMade
made_at v n p o =
    if is_read p && (is_one (v o.come) && is_one (v o.by_then)) then record { node = n; cell = (v o.value).bits; word = (v o.word).bits } ∷ []
    else []
