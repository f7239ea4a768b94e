-- Lines whose numbers are as small as their types say.
use Rattle.std.specs.Prelude.{◌^◌, ◌<◌, List}
use Rattle.std.specs.List.{AllByRecursion}
use Rattle.dt_log.specs.declared.line.Line.TheVariants.{Forward, Backward, Try, Split, Close, Loose, Unvisited}
use Rattle.dt_log.specs.declared.line.Claim.TheVariants.{Impossible, Budget}
use Rattle.dt_log.specs.declared.entry.Entry.{Entry}
use Rattle.dt_log.specs.declared.entry.Entry.TheVariants.{Claim, Item, End}

abbrev pub IsSmall : Entry → Type 0
IsSmall (Claim Impossible) = Unit {0}
IsSmall (Claim (Budget n)) = n < 2 ^ 64
IsSmall (Item (Forward t)) = t < 2 ^ 32
IsSmall (Item (Backward p k)) = (p < 2 ^ 32) × (k < 2 ^ 32)
IsSmall (Item (Try c v)) = (c < 2 ^ 32) × (v < 2 ^ 128)
IsSmall (Item (Split t i)) = (t < 2 ^ 32) × (i < 2 ^ 32)
IsSmall (Item (Close t)) = t < 2 ^ 32
IsSmall (Item Loose) = Unit {0}
IsSmall (Item Unvisited) = Unit {0}
IsSmall End = Unit {0}

abbrev pub AreSmall : List Entry → Type 0
AreSmall es = AllByRecursion IsSmall es
