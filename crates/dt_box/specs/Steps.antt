-- Steps: how the cells of a term's neighbours narrow its own.
use Rattle.std.specs.Prelude.{ℕ, ◌<◌, Bool, List, length, slice_set, nat_lt, if◌then◌else◌}
use Rattle.dt_bits.specs.Bits.{width}
use Rattle.dt_bits.specs.declared.op.Op.{Op}
use Rattle.dt_bits.specs.Ops.{arity_of}
use Rattle.dt_domain.specs.Domain.{DomainOps, operand}
use Rattle.dt_terms.specs.declared.term.Term.{Term}
use Rattle.dt_terms.specs.declared.term.Term.TheVariants.{Choice, Node}
use Rattle.dt_terms.specs.Terms.{term_at}
use Rattle.dt_box.specs.declared.step.Step.{Step}
use Rattle.dt_box.specs.declared.step.Step.TheVariants.{Forward, Backward}
use Rattle.dt_box.specs.Cells.{cell_at}

-- the term is a node
abbrev pub IsNodeTerm : Term → Type 0
IsNodeTerm (Choice w) = ⊥
IsNodeTerm (Node op a b c w) = Unit {0}

-- the term is a node, and its operator has an operand at place k
abbrev pub HasPlace : Term → ℕ → Type 0
HasPlace (Choice w) k = ⊥
HasPlace (Node op a b c w) k = k < arity_of op

-- a step of the problem with these terms
abbrev pub IsStep : List Term → Step → Type 0
IsStep terms (Forward term) = (term < length terms) × IsNodeTerm (term_at terms term)
IsStep terms (Backward parent place) = (parent < length terms) × HasPlace (term_at terms parent) place

-- the operand of a node at place k
abbrev pub operand_at : Term → ℕ → ℕ
operand_at (Choice w) k = 0
operand_at (Node op a b c w) k = operand k a b c

-- the term whose cell a step narrows: the node itself, or its operand
abbrev pub target : List Term → Step → ℕ
target terms (Forward term) = term
target terms (Backward parent place) = operand_at (term_at terms parent) place

-- the cell of the operand at place k, which is term a; where the operator has no operand there the full
-- domain of one bit, so that no other cell is looked at
abbrev pub operand_cell : {D : Type 0} → DomainOps D → List D → Op → ℕ → ℕ → D
operand_cell ops cells op k a = if nat_lt k (arity_of op) then cell_at ops cells a else ops.full (width 1)

-- what the operands' cells say of a node
abbrev pub propagated_forward : {D : Type 0} → DomainOps D → List D → Term → D
propagated_forward ops cells (Choice w) = ops.full w
propagated_forward ops cells (Node op a b c w) =
    ops.forward op (operand_cell ops cells op 0 a) (operand_cell ops cells op 1 b) (operand_cell ops cells op 2 c)

-- what a node's cell, r, and its operands' cells say of the operand at place k
abbrev pub propagated_backward : {D : Type 0} → DomainOps D → List D → ℕ → D → Term → D
propagated_backward ops cells k r (Choice w) = ops.full w
propagated_backward ops cells k r (Node op a b c w) =
    ops.backward op k r (operand_cell ops cells op 0 a) (operand_cell ops cells op 1 b) (operand_cell ops cells op 2 c)

-- what the neighbours' cells say of a step's target
abbrev pub propagated : {D : Type 0} → DomainOps D → List Term → Step → List D → D
propagated ops terms (Forward term) cells = propagated_forward ops cells (term_at terms term)
propagated ops terms (Backward parent place) cells =
    propagated_backward ops cells place (cell_at ops cells parent) (term_at terms parent)

-- the target's cell after a step: its meet with what the neighbours' cells say
abbrev pub narrowed : {D : Type 0} → DomainOps D → List Term → Step → List D → D
narrowed ops terms step cells =
    ops.meet (cell_at ops cells (target terms step)) (propagated ops terms step cells)

-- the cells after a step: all but the target's stay
abbrev pub after_step : {D : Type 0} → DomainOps D → List Term → Step → List D → List D
after_step ops terms step cells = slice_set cells (target terms step) (narrowed ops terms step cells)

-- the cells after a bit of the term t was set: all but the cell of t stay
abbrev pub after_bit : {D : Type 0} → DomainOps D → ℕ → ℕ → Bool → List D → List D
after_bit ops t i v cells = slice_set cells t (ops.with_bit (cell_at ops cells t) i v)
