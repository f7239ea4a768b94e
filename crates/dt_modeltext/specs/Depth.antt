-- How many opening parentheses of a line stand unclosed.
use Rattle.std.specs.Prelude.{ℕ, ◌+◌, ◌-◌, Bool, false, ◌||◌, nat_lt, List, [], ◌∷◌, codes, if◌then◌else◌}
use Rattle.std.specs.Str.{bytes_eq}
use Rattle.dt_model.specs.Limits.{most_depth}

-- how many are unclosed at a token, where n are before it; one that closes nothing leaves none
abbrev pub unclosed : ℕ → List ℕ → ℕ
unclosed n t = if bytes_eq t (codes "(") then n + 1 else (if bytes_eq t (codes ")") then n - 1 else n)

-- more than `most` are unclosed at one of the tokens, where n are before them
unfoldable pub opens_above : ℕ → ℕ → List (List ℕ) → Bool
opens_above most n [] = false
opens_above most n (t ∷ ts) = nat_lt most (unclosed n t) || opens_above most (unclosed n t) ts

-- more than 32 are unclosed at one of the tokens of a line
abbrev pub is_too_deep : List (List ℕ) → Bool
is_too_deep ts = opens_above most_depth 0 ts
