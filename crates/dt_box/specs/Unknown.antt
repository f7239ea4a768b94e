-- Which bits of choices aren't known, and how many.
use Rattle.std.specs.Prelude.{◌≡◌, ℕ, zero, suc, ◌+◌, ◌<◌, Bool, true, false, not, if◌then◌else◌, List, [], ◌∷◌, length}
use Rattle.dt_bits.specs.Bits.{bit}
use Rattle.dt_domain.specs.Domain.{DomainOps, KnowsBit}
use Rattle.dt_terms.specs.declared.term.Term.{Term}
use Rattle.dt_terms.specs.Terms.{term_at, bits_at, is_choice, choices_of}
use Rattle.dt_terms.specs.Problem.{ProblemData}
use Rattle.dt_box.specs.Cells.{cell_at, is_required}

-- bit i of the term t, a choice, isn't known in these cells
pub record IsUnknownBit {D : Type 0} (ops : DomainOps D) (terms : List Term) (cells : List D) (t i : ℕ) : Type 0 where
  pub term : t < length terms
  pub choice : is_choice (term_at terms t) ≡ true
  pub within : i < bits_at terms t
  pub unknown : bit (ops.known_mask (cell_at ops cells t)) i ≡ false

-- how many indices below w pass
unfoldable pub count_below : ℕ → (ℕ → Bool) → ℕ
count_below zero f = 0
count_below (suc w) f = count_below w f + (if f w then 1 else 0)

-- how many of the lowest w bits the domain doesn't know
abbrev pub unknown_in : {D : Type 0} → DomainOps D → ℕ → D → ℕ
unknown_in ops w d = count_below w (λ i. not (bit (ops.known_mask d) i))

-- how many bits of these terms aren't known in the cells
unfoldable pub unknown_of : {D : Type 0} → DomainOps D → List Term → List D → List ℕ → ℕ
unknown_of ops terms cells [] = 0
unknown_of ops terms cells (t ∷ ts) = unknown_in ops (bits_at terms t) (cell_at ops cells t) + unknown_of ops terms cells ts

-- how many bits of choices aren't
abbrev pub unknown_bits : {D : Type 0} → DomainOps D → List Term → List D → ℕ
unknown_bits ops terms cells = unknown_of ops terms cells (choices_of terms)

-- how many bits these terms have, which are choices
unfoldable pub bits_of_choices : List Term → List ℕ → ℕ
bits_of_choices terms [] = 0
bits_of_choices terms (t ∷ ts) = bits_at terms t + bits_of_choices terms ts

-- of each term that must be 1 it is known that it is
abbrev pub AreRequiredKnown : {D : Type 0} → DomainOps D → ProblemData → List D → Type 0
AreRequiredKnown ops p cells = (t : ℕ) → t < length p.terms → is_required p t ≡ true → KnowsBit ops (cell_at ops cells t) 0 true
