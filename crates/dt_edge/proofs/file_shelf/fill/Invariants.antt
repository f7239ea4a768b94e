use Rattle.std.proofs.Common.{◌≡◌, ◌≤◌, ◌+◌, ◌-◌, ◌^◌, min, vec_len}
use Rattle.std.specs.Io.KnownBytes.{Consumes}
use Rattle.dt_edge.proofs.file_shelf.fill.Given as goal

abbrev pub invariant-reads : goal.invariant-reads
invariant-reads g l = (l.taken ≡ min (l.fn.taken + vec_len l.bytes) (2 ^ 64 - 1)) × (vec_len l.bytes ≤ l.limit + 1) × Consumes (g.F.Read.remaining l.fn.file) (g.F.Read.remaining l.file) l.bytes.items

abbrev pub decreases-reads : goal.decreases-reads
decreases-reads g l = l.limit + 1 - vec_len l.bytes
