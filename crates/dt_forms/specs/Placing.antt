-- Terms that are put behind others.
use Rattle.std.specs.Prelude.{ℕ, List, [], ◌∷◌, ◌++◌, length, Option, Some, None, position}
use Rattle.dt_bits.specs.Bits.{width}
use Rattle.dt_bits.specs.declared.op.Op.{Op}
use Rattle.dt_bits.specs.declared.op.Op.TheVariants.{Const}
use Rattle.dt_terms.specs.declared.term.Term.{Term}
use Rattle.dt_terms.specs.Additions.{node_of}
use Rattle.dt_forms.specs.Same.{same_term}

-- the terms, and where the one that was asked for stands
pub record Placed : Type 0 where
  pub terms : List Term
  pub at : ℕ

abbrev pub placed_at : List Term → ℕ → Placed
placed_at terms t = record { terms = terms; at = t }

-- the term where it stands already, else put behind the others
abbrev pub shared : List Term → Term → Option ℕ → Placed
shared terms term (Some t) = placed_at terms t
shared terms term None = record { terms = terms ++ term ∷ []; at = length terms }

abbrev pub put : List Term → Term → Placed
put terms term = shared terms term (position (same_term term) terms)

-- the operator's node over terms
abbrev pub place : List Term → Op → ℕ → ℕ → ℕ → Placed
place terms op a b c = put terms (node_of terms op a b c)

abbrev pub place_const : List Term → ℕ → ℕ → Placed
place_const terms w n = place terms (Const (record { width = width w; bits = n })) 0 0 0
