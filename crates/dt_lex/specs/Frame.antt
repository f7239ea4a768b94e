-- The frame of a line: tokens read from the front, and what stands behind the word of a header and behind `end`.
use Rattle.std.specs.Prelude.{ℕ, Bool, true, false, List, [], ◌∷◌, Option, Some, None, option_map, if◌then◌else◌}
use Rattle.std.specs.Str.{bytes_eq}
use Rattle.dt_lex.specs.declared.name.Name.{Name}
use Rattle.dt_lex.specs.Names.{name_of}
use Rattle.dt_lex.specs.Numeral.{number_of}

-- the tokens are this one alone, in its very spelling
abbrev pub is_alone : List ℕ → List (List ℕ) → Bool
is_alone token (t ∷ []) = bytes_eq t token
is_alone token _ = false

abbrev pub is_nothing : List (List ℕ) → Bool
is_nothing [] = true
is_nothing (t ∷ ts) = false

-- a line that is spelled where the test holds
abbrev pub given : {L : Type 0} → Bool → L → Option L
given b l = if b then Some l else None

-- ---- tokens from the front

infixl 10 ◌>>=◌
abbrev pub ◌>>=◌ : {A B : Type 0} → Option A → (A → Option B) → Option B
None >>= f = None
(Some x) >>= f = f x

-- what the front of some tokens spells, and the tokens after it
abbrev pub Front : Type 0 → Type 0
Front X = Option (X × List (List ℕ))

-- the first token, as f sees it
abbrev pub first_by : {X : Type 0} → (List ℕ → Option X) → List (List ℕ) → Front X
first_by f [] = None
first_by f (t ∷ ts) = option_map (λ x. (x, ts)) (f t)

abbrev pub name_at : List (List ℕ) → Front Name
name_at ts = first_by name_of ts

abbrev pub number_at : List (List ℕ) → Front ℕ
number_at ts = first_by number_of ts

-- what is read where no token follows it
abbrev pub lone : {X : Type 0} → Front X → Option X
lone r = r >>= λ x. given (is_nothing x.1) x.0
