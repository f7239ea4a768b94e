use Rattle.std.proofs.Common.{◌≡◌, not, take}
use Rattle.std.specs.List.{filter}
use Rattle.dt_bits.specs.Bits.{bit, differs}
use Rattle.dt_sets.specs.Sets.{listed, listing}
use Rattle.dt_sets.proofs.Sets.with_bit_at.Given as goal

-- those so far whose bit is so are kept
abbrev pub invariant-loop-index : goal.invariant-loop-index
invariant-loop-index l = l.kept ≡ listing l.self.width (filter (λ x. not (differs (bit x l.place) l.value)) (take l.index (listed l.self)))
