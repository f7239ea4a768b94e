-- The bounds of table memory: whole words of the model, from lo up to hi, within its addresses.
use Rattle.std.specs.Prelude.{◌≡◌, ℕ, ◌/◌, ◌%◌, ◌^◌, ◌≤◌, ◌==◌, nat_le, Bool, ◌&&◌}
use Rattle.dt_model.specs.ModelData.{ModelData}

-- the bytes of a word
abbrev pub word_bytes : ModelData → ℕ
word_bytes d = d.word / 8

pub record AreBounds (d : ModelData) (lo hi : ℕ) : Type 0 where
  pub lo_whole : lo % word_bytes d ≡ 0
  pub hi_whole : hi % word_bytes d ≡ 0
  pub rising : lo ≤ hi
  pub within : hi ≤ 2 ^ d.address

abbrev pub bounds_fit : ModelData → ℕ → ℕ → Bool
bounds_fit d lo hi = (lo % word_bytes d == 0) && (hi % word_bytes d == 0) && nat_le lo hi && nat_le hi (2 ^ d.address)
