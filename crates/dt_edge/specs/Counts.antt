-- The counts of the shelf of files and of the standard output.
use Rattle.std.specs.Prelude.{ℕ}
use Rattle.dt_edge.specs.declared.file_shelf.FileShelf.{FileShelf}
use Rattle.dt_edge.specs.declared.out_sink.OutSink.{OutSink}

-- how often the file system failed
abbrev pub shelf_faults : {R : Type 0} → FileShelf R → ℕ
shelf_faults shelf = shelf.faults

-- how many bytes were taken from files
abbrev pub shelf_taken : {R : Type 0} → FileShelf R → ℕ
shelf_taken shelf = shelf.taken

-- how often the output failed
abbrev pub sink_faults : {R : Type 0} → OutSink R → ℕ
sink_faults sink = sink.faults
