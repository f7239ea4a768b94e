-- What adding to a problem gives, and when it is refused.
use Rattle.std.specs.Prelude.{ℕ, Bool, not, ◌&&◌, ◌||◌, ◌==◌, nat_lt, nat_le, if◌then◌else◌, Option, Some, None, List, [], ◌∷◌, ◌++◌, length}
use Rattle.dt_bits.specs.Bits.{width}
use Rattle.dt_bits.specs.Ops.{arity_of, fits_at, width_of}
use Rattle.dt_bits.specs.declared.op.Op.{Op}
use Rattle.dt_terms.specs.declared.term.Term.{Term}
use Rattle.dt_terms.specs.declared.term.Term.TheVariants.{Node}
use Rattle.dt_terms.specs.declared.fault.TermFault.{TermFault}
use Rattle.dt_terms.specs.declared.fault.TermFault.TheVariants.{Full, Operand, Width}
use Rattle.dt_terms.specs.Terms.{bits_at}
use Rattle.dt_terms.specs.Problem.{ProblemData, most_terms}

-- the problem with a further term
abbrev pub with_term : ProblemData → Term → ProblemData
with_term p term = record { terms = p.terms ++ term ∷ []; required = p.required }

-- the problem in which this term too must be 1
abbrev pub with_required : ProblemData → ℕ → ProblemData
with_required p t = record { terms = p.terms; required = p.required ++ t ∷ [] }

abbrev pub is_full : List Term → Bool
is_full terms = nat_le most_terms (length terms)

-- the operand at place k, and 0 where the operator has none there
abbrev pub kept : Op → ℕ → ℕ → ℕ
kept op k a = if nat_lt k (arity_of op) then a else 0

-- a term that is named at place k is there, or isn't used
abbrev pub is_named : List Term → Op → ℕ → ℕ → Bool
is_named terms op k a = nat_le (arity_of op) k || nat_lt a (length terms)

-- each operand that is used is the position of a term
abbrev pub are_named : List Term → Op → ℕ → ℕ → ℕ → Bool
are_named terms op a b c =
    is_named terms op 0 a && (is_named terms op 1 b && is_named terms op 2 c)

-- the operator fits the operands' widths
abbrev pub is_fit : List Term → Op → ℕ → ℕ → ℕ → Bool
is_fit terms op a b c =
    fits_at op (bits_at terms (kept op 0 a)) (bits_at terms (kept op 1 b)) (bits_at terms (kept op 2 c))

-- the node of an operator that fits
abbrev pub node_of : List Term → Op → ℕ → ℕ → ℕ → Term
node_of terms op a b c =
    Node op (kept op 0 a) (kept op 1 b) (kept op 2 c)
    (width (width_of op (bits_at terms (kept op 0 a)) (bits_at terms (kept op 1 b)) (bits_at terms (kept op 2 c))))

-- why there is no such node over the terms
abbrev pub operands_fault : List Term → Op → ℕ → ℕ → ℕ → Option TermFault
operands_fault terms op a b c =
    if not (are_named terms op a b c) then Some Operand
    else (if not (is_fit terms op a b c) then Some Width else None)

-- why a node can't be added, the first of the causes
abbrev pub node_fault : List Term → Op → ℕ → ℕ → ℕ → Option TermFault
node_fault terms op a b c =
    if is_full terms then Some Full else operands_fault terms op a b c

-- why a choice can't be added
abbrev pub choice_fault : List Term → Option TermFault
choice_fault terms = if is_full terms then Some Full else None

-- why a term can't be required
abbrev pub require_fault : List Term → ℕ → Option TermFault
require_fault terms t =
    if not (nat_lt t (length terms)) then Some Operand
    else (if not (bits_at terms t == 1) then Some Width else None)
