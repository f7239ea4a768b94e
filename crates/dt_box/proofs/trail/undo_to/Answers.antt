use Rattle.std.proofs.Common.{ℕ, ◌≡◌, ◌<◌, ◌≤◌, ◌+◌, ◌++◌, ◌∷◌, [], length, ap, sym, ◌∙◌, arith, length-append, length-set}
use Rattle.std.proofs.lemmas.List.Elements.{All-pop}
use Rattle.dt_box.proofs.Trails.{back_popped, take_popped, back_done}
use Rattle.dt_box.proofs.trail.undo_to.Goals as goal

pub loop-changes-preserved : goal.loop-changes-preserved
loop-changes-preserved g c =
    let cells = c.loop-changes.cells in
    let items = c.loop-changes.changes.items in
    let rest = c.pop.new.self.items in
    let e : items ≡ rest ++ c.in-Some.change ∷ [] = c.in-Some.ensures.items in
    let n : length items ≡ length rest + 1 = ap length e ∙ length-append rest (c.in-Some.change ∷ []) in
    let l : c.args.len ≤ length rest = omega (arith, c.loop-changes.changes.ok.0) in
    record {
      back = back_popped cells items rest c.in-Some.change c.args.len e l ∙ c.loop-changes.invariant.back;
      kept = take_popped items rest c.in-Some.change c.args.len e l ∙ c.loop-changes.invariant.kept;
      len = l;
      terms = (All-pop (λ (change : ℕ × g.row.D.Denot). change.0 < length c.args.cells.now) items rest c.pop.result c.pop.ensures.items c.loop-changes.invariant.terms).0;
      count = length-set cells c.in-Some.change.0 c.in-Some.change.1 ∙ c.loop-changes.invariant.count;
    }

pub returns-clause-cells : goal.returns-clause-cells
returns-clause-cells g c = sym (back_done c.loop-changes.cells c.loop-changes.changes.items c.args.len (omega arith)) ∙ c.loop-changes.invariant.back
