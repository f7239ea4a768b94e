-- Items as they are kept: the value of a Try stands among the values.
use Rattle.std.specs.Prelude.{◌<◌, ℕ, List, slice_index}
use Rattle.dt_log.specs.declared.line.Line.{Line}
use Rattle.dt_log.specs.declared.line.Line.TheVariants as line
use Rattle.dt_log.specs.declared.lines.Packed.{Packed}
use Rattle.dt_log.specs.declared.lines.Packed.TheVariants.{Forward, Backward, Try, Split, Close, Loose, Unvisited}

-- the item that is kept so beside these values
abbrev pub unpacked : List ℕ → Packed → Line
unpacked values (Forward t) = line.Forward t
unpacked values (Backward p k) = line.Backward p k
unpacked values (Try c n) = line.Try c (slice_index values n)
unpacked values (Split t i) = line.Split t i
unpacked values (Close t) = line.Close t
unpacked values Loose = line.Loose
unpacked values Unvisited = line.Unvisited

-- beside so many values
abbrev pub IsPacked : ℕ → Packed → Type 0
IsPacked n (Try c k) = k < n
IsPacked n (Forward t) = Unit {0}
IsPacked n (Backward p k) = Unit {0}
IsPacked n (Split t i) = Unit {0}
IsPacked n (Close t) = Unit {0}
IsPacked n Loose = Unit {0}
IsPacked n Unvisited = Unit {0}
