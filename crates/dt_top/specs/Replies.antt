-- The bytes of a reply's text, and which replies refuse a file's text.
use Rattle.std.specs.Prelude.{ℕ, ◌≡◌, ◌⊎◌, List, [], Option, Some}
use Rattle.dt_top.specs.Files.{file_word, refused_status}
use Rattle.dt_top.specs.Lines.{bad_line}
use Rattle.dt_top.specs.declared.file.File.{File}
use Rattle.dt_top.specs.declared.reply.Text.{Text}
use Rattle.dt_top.specs.declared.reply.Text.TheVariants.{Line, Made}
use Rattle.dt_top.specs.declared.reply.Reply.{Reply}
use Rattle.dt_top.specs.declared.status.Status.{Status}
use Rattle.dt_top.specs.declared.status.Status.TheVariants as status

abbrev pub bytes_of : Text → List ℕ
bytes_of (Line text) = text.now
bytes_of (Made text) = text.items

-- memory ran out, of which nothing is printed
abbrev pub IsWant : Reply → Type 0
IsWant reply = (reply.status ≡ status.Memory) × (bytes_of reply.text ≡ [])

-- memory ran out, or a file's text is refused by this line and this word of the cause
abbrev pub IsRefusedLine : File → Option ℕ → List ℕ → Reply → Type 0
IsRefusedLine file line cause reply =
    IsWant reply
    ⊎ ((number : ℕ) × (line ≡ Some number) × (reply.status ≡ refused_status file) × (bytes_of reply.text ≡ bad_line (file_word file) number cause))

-- memory ran out, or this is the status and the text
abbrev pub IsReplyOrWant : Status → List ℕ → Reply → Type 0
IsReplyOrWant due text reply = IsWant reply ⊎ ((reply.status ≡ due) × (bytes_of reply.text ≡ text))
