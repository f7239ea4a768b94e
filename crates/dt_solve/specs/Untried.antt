-- Items of a log without those that say what was tried.
use Rattle.std.specs.Prelude.{◌≡◌, Bool, true, false, if◌then◌else◌, List, [], ◌∷◌}
use Rattle.std.specs.List.{AllByRecursion}
use Rattle.dt_log.specs.declared.line.Line.{Line}
use Rattle.dt_log.specs.declared.line.Line.TheVariants.{Forward, Backward, Try, Split, Close, Loose, Unvisited}

-- it says what was tried
abbrev pub is_try_item : Line → Bool
is_try_item (Forward t) = false
is_try_item (Backward p k) = false
is_try_item (Try c v) = true
is_try_item (Split t i) = false
is_try_item (Close t) = false
is_try_item Loose = false
is_try_item Unvisited = false

-- none of the items does
abbrev pub AreUntried : List Line → Type 0
AreUntried lines = AllByRecursion (λ line. is_try_item line ≡ false) lines

-- the items that don't
unfoldable pub without_tries : List Line → List Line
without_tries [] = []
without_tries (line ∷ lines) = if is_try_item line then without_tries lines else line ∷ without_tries lines
