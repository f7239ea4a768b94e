-- How a command goes: it reads files one after another, and the bytes of each decide what comes next.
use Rattle.std.specs.Prelude.{ℕ, ◌≡◌, ◌≤◌, List, [], ◌∷◌, length}
use Rattle.dt_top.specs.declared.file.File.{File}
use Rattle.dt_top.specs.declared.status.Status.{Status}
use Rattle.dt_top.specs.Files.{limit_of}

-- a file that was read: its name, and the bytes that the read gave
pub record FileRead : Type 0 where
  pub name : List ℕ
  pub bytes : List ℕ

-- what a command comes to after the files that were read: an answer, or a file that it needs next
pub data Outcome : Type 0 where
  answers : (status : Status) → (text : List ℕ) → Outcome
  needs : (file : File) → (name : List ℕ) → Outcome

-- which outcome the files have that were read from here on, in order
abbrev pub Course : Type 1
Course = List FileRead → Outcome → Type 0

-- the command answers, and reads no further file
abbrev pub Answered : Status → List ℕ → List FileRead → Outcome → Type 0
Answered status text [] outcome = outcome ≡ answers status text
Answered status text (file ∷ files) outcome = ⊥

-- the command needs this file, whose bytes decide how it goes on
abbrev pub OnFile : File → List ℕ → (List ℕ → List FileRead → Outcome → Type 0) → List FileRead → Outcome → Type 0
OnFile kind name next [] outcome = outcome ≡ needs kind name
OnFile kind name next (file ∷ files) outcome = (file.name ≡ name) × (length file.bytes ≤ limit_of kind) × next file.bytes files outcome

-- no way leads on
abbrev pub Never : List FileRead → Outcome → Type 0
Never files outcome = ⊥
