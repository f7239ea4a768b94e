-- The files that words name: the word for each kind in a printed line, its most bytes, and the status where its text is refused.
use Rattle.std.specs.Prelude.{ℕ, List, codes}
use Rattle.dt_top.specs.declared.file.File.{File}
use Rattle.dt_top.specs.declared.file.File.TheVariants.{Model, Requests, Image, Log}
use Rattle.dt_top.specs.declared.status.Status.{Status}
use Rattle.dt_top.specs.declared.status.Status.TheVariants as status

abbrev pub file_word : File → List ℕ
file_word Model = codes "model"
file_word Requests = codes "requests"
file_word Image = codes "image"
file_word Log = codes "log"

-- the most bytes of a file: 64 MiB for a log, and 16 MiB for all others
abbrev pub limit_of : File → ℕ
limit_of Model = 16777216
limit_of Requests = 16777216
limit_of Image = 16777216
limit_of Log = 67108864

abbrev pub refused_status : File → Status
refused_status Model = status.ModelRefused
refused_status Requests = status.RequestsRefused
refused_status Image = status.InputRefused
refused_status Log = status.InputRefused
