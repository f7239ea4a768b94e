-- Blocks and kept ranges by their bytes: a law of the definitions of blocks.
use Rattle.std.specs.Prelude.{ℕ, ◌+◌, ◌^◌, ◌<◌, ◌≤◌, ◌↔◌, IsTrue}
use Rattle.dt_request.specs.declared.list.KeptRange.{KeptRange}
use Rattle.dt_satisfy.specs.declared.block.Block.{Block}
use Rattle.dt_satisfy.specs.Blocks.{block_at, overlap, touches}

-- the byte is one of the block's
abbrev pub InBlock : Block → ℕ → Type 0
InBlock b x = (b.start ≤ x) × (x < b.start + 2 ^ b.exponent)

-- the byte is one of the range's
abbrev pub InRange : KeptRange → ℕ → Type 0
InRange k x = (k.lo ≤ x) × (x < k.hi)

-- some byte is in both
abbrev pub Meet : (ℕ → Type 0) → (ℕ → Type 0) → Type 0
Meet P Q = (x : ℕ) × P x × Q x

pub record BlocksAreBytes : Type 0 where
  -- the block at an address has it
  pub holds : (a e : ℕ) → InBlock (block_at a e) a
  -- two blocks overlap exactly where some byte is in both
  pub overlaps : (a b e f : ℕ) → IsTrue (overlap (block_at a e) (block_at b f)) ↔ Meet (InBlock (block_at a e)) (InBlock (block_at b f))
  -- a block touches a kept range exactly where some byte is in both
  pub touches : (b : Block) (k : KeptRange) → IsTrue (touches b k) ↔ Meet (InBlock b) (InRange k)
