-- The lowest place of a candidate.
use Rattle.std.specs.Prelude.{◌≡◌, ℕ, ◌<◌, true, false, Option, MatchOption}
use Rattle.dt_pair.specs.Ends.{is_candidate}

-- i is the lowest bit below w at which there is a candidate
pub record IsLowestPlace (w m v lo i : ℕ) : Type 0 where
  pub below : i < w
  pub here : is_candidate m v lo i ≡ true
  pub none_lower : (j : ℕ) → j < i → is_candidate m v lo j ≡ false

-- the lowest such bit, and none exactly where there is no candidate
abbrev pub IsPlaceFound : ℕ → ℕ → ℕ → ℕ → Option ℕ → Type 0
IsPlaceFound w m v lo o = MatchOption o ((j : ℕ) → j < w → is_candidate m v lo j ≡ false) (λ i. IsLowestPlace w m v lo i)
