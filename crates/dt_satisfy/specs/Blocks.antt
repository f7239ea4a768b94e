-- Blocks: the 2^e bytes from a multiple of 2^e; and kept ranges, which go from lo to hi - 1.
use Rattle.std.specs.Prelude.{ℕ, ◌+◌, ◌-◌, ◌/◌, ◌%◌, ◌^◌, ◌==◌, nat_lt, max, Bool, not, ◌&&◌, List}
use Rattle.std.specs.List.{list_any}
use Rattle.dt_request.specs.declared.list.KeptRange.{KeptRange}
use Rattle.dt_satisfy.specs.declared.block.Block.{Block}

-- the block of this exponent that holds the address
abbrev pub block_at : ℕ → ℕ → Block
block_at address e = record { start = address - address % 2 ^ e; exponent = e }

-- the two are one block
abbrev pub is_block : Block → Block → Bool
is_block b c = b.start == c.start && b.exponent == c.exponent

-- the starts have the same whole quotient by 2 to the larger exponent
abbrev pub overlap : Block → Block → Bool
overlap b c = let size = 2 ^ max b.exponent c.exponent in b.start / size == c.start / size

-- no page overlaps a table
abbrev pub are_apart : List Block → List Block → Bool
are_apart pages tables = not (list_any (λ page. list_any (overlap page) tables) pages)

-- the range isn't empty, and a byte of it lies in the block
abbrev pub touches : Block → KeptRange → Bool
touches b k = nat_lt k.lo k.hi && nat_lt b.start k.hi && nat_lt k.lo (b.start + 2 ^ b.exponent)

-- some block touches the range
abbrev pub some_touches : List Block → KeptRange → Bool
some_touches blocks k = list_any (λ b. touches b k) blocks

-- no page and no table touches the range
abbrev pub is_kept : List Block → List Block → KeptRange → Bool
is_kept pages tables k = not (some_touches pages k) && not (some_touches tables k)
