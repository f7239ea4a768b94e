use Rattle.std.proofs.Common.{◌≡◌, ◌≤◌, length, take, map, vec_capacity}
use Rattle.dt_terms.specs.Terms.{width_of_term}
use Rattle.dt_box.proofs.root.full_cells.Given as goal

-- the cells of the terms up to here, and room for the others
abbrev pub invariant-loop-term : goal.invariant-loop-term
invariant-loop-term g l = record {
  cells : l.cells.items ≡ map (λ term. g.D.Domain.ops.full (width_of_term term)) (take l.term-index l.terms);
  room : length l.terms ≤ vec_capacity l.cells;
}
