-- The lines of a log's text: what each spells by itself, and where it may stand.
use Rattle.std.specs.Prelude.{ℕ, ◌^◌, nat_lt, List, [], ◌∷◌, Option, Some, None, codes, if◌then◌else◌}
use Rattle.std.specs.Option.{option_map, option_and_then}
use Rattle.std.specs.Str.{bytes_eq}
use Rattle.dt_lex.specs.declared.section.Section.{Section}
use Rattle.dt_lex.specs.declared.section.Standing.{Standing}
use Rattle.dt_lex.specs.declared.section.Standing.TheVariants.{In}
use Rattle.dt_lex.specs.Sections.{one, any, may_follow}
use Rattle.dt_lex.specs.Numeral.{number_of}
use Rattle.dt_lex.specs.Frame.{is_nothing, given}
use Rattle.dt_log.specs.declared.line.Line.TheVariants.{Forward, Backward, Try, Split, Close, Loose, Unvisited}
use Rattle.dt_log.specs.declared.line.Claim.TheVariants.{Impossible, Budget}
use Rattle.dt_log.specs.declared.entry.Entry.{Entry}
use Rattle.dt_log.specs.declared.entry.Entry.TheVariants.{Claim, Item, End}

-- ---- numbers

-- the number, where it is below the bound
abbrev pub below : ℕ → ℕ → Option ℕ
below bound n = if nat_lt n bound then Some n else None

-- the one token is a number
abbrev pub alone_of : List (List ℕ) → Option ℕ
alone_of (t ∷ []) = number_of t
alone_of _ = None

-- the two tokens are numbers
abbrev pub pair_of : List (List ℕ) → Option (ℕ × ℕ)
pair_of (t ∷ u ∷ []) = option_and_then (λ n. option_map (λ m. (m, n)) (number_of t)) (number_of u)
pair_of _ = None

-- one number below 2 ^ 32
abbrev pub small_of : List (List ℕ) → Option ℕ
small_of ts = option_and_then (below (2 ^ 32)) (alone_of ts)

-- two numbers below 2 ^ 32
abbrev pub small_pair_of : List (List ℕ) → Option (ℕ × ℕ)
small_pair_of ts = option_and_then (λ p. option_and_then (λ m. option_map (λ n. (m, n)) (below (2 ^ 32) p.1)) (below (2 ^ 32) p.0)) (pair_of ts)

-- the number of a choice, below 2 ^ 32, and a value
abbrev pub tried_of : List (List ℕ) → Option (ℕ × ℕ)
tried_of ts = option_and_then (λ p. option_map (λ c. (c, p.1)) (below (2 ^ 32) p.0)) (pair_of ts)

-- ---- a line

-- the line that a first token and those after it spell
unfoldable pub spelled : List ℕ → List (List ℕ) → Option Entry
spelled t ts =
    if bytes_eq t (codes "forward") then option_map (λ n. Item (Forward n)) (small_of ts)
    else (if bytes_eq t (codes "backward") then option_map (λ p. Item (Backward p.0 p.1)) (small_pair_of ts)
    else (if bytes_eq t (codes "try") then option_map (λ p. Item (Try p.0 p.1)) (tried_of ts)
    else (if bytes_eq t (codes "split") then option_map (λ p. Item (Split p.0 p.1)) (small_pair_of ts)
    else (if bytes_eq t (codes "close") then option_map (λ n. Item (Close n)) (small_of ts)
    else (if bytes_eq t (codes "open") then given (is_nothing ts) (Item Loose)
    else (if bytes_eq t (codes "unvisited") then given (is_nothing ts) (Item Unvisited)
    else (if bytes_eq t (codes "impossible") then given (is_nothing ts) (Claim Impossible)
    else (if bytes_eq t (codes "budget") then option_map (λ n. Claim (Budget n)) (option_and_then (below (2 ^ 64)) (alone_of ts))
    else (if bytes_eq t (codes "end") then given (is_nothing ts) End
    else None)))))))))

-- ---- where a line may stand

-- the claim, the items, and the end
abbrev pub sections : List Section
sections = one ∷ any ∷ one ∷ []

abbrev pub standing : Entry → Standing
standing (Claim c) = In 0
standing (Item l) = In 1
standing End = In 2

-- the line, where it is one and may stand at this place
abbrev pub meaning : ℕ → Option Entry → Option Entry
meaning place None = None
meaning place (Some e) = given (may_follow sections place (standing e)) e
