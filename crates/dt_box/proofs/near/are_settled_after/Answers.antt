use Rattle.std.proofs.Common.{◌≡◌, ℕ, ◌<◌, false, length, get_or, refl, sym, ◌∙◌, subst, arith, below_more}
use Rattle.std.proofs.lemmas.List.{get_or_default}
use Rattle.dt_bits.specs.Bits.{width}
use Rattle.dt_box.proofs.Trails.{length-undone}
use Rattle.dt_box.specs.Cells.{cell_at}
use Rattle.dt_box.specs.Watching.{IsStillNear}
use Rattle.dt_box.proofs.Watching.{settled_after}
use Rattle.dt_box.proofs.near.are_settled_after.Goals as goal

pub returns : goal.returns
returns g c =
    let ops = g.D.Domain.ops in
    let cells = c.args.cells.now in
    let changes = c.args.changes.now in (
      λ _.
          settled_after g.row.D.Denot ops c.args.terms.now cells changes (0, ops.full (width 1)) c.requires.cells.count c.requires.settled (length-undone cells changes)
          (λ k l. c.loop-change.invariant.held k (omega (arith, c.loop-change-test.false)))
          (λ k l. c.loop-change.invariant.still k (omega (arith, c.loop-change-test.false))),
      λ _. refl,
    )

pub loop-change-preserved : goal.loop-change-preserved
loop-change-preserved g c =
    let ops = g.D.Domain.ops in
    let terms = c.args.terms.now in
    let cells = c.args.cells.now in
    let changes = c.args.changes.now in
    let at = c.loop-change.change-index in
    let none : ℕ × g.row.D.Denot = (0, ops.full (width 1)) in
    let l : at < length changes = omega (arith, c.loop-change-test.true) in
    let is : c.change-item.result ≡ get_or changes at none = c.change-item.is ∙ get_or_default changes at c.change-item.result none l in
    let term : (get_or changes at none).0 < length terms = c.requires.changes at none l in
    let within : c.change-item.result.0 < length cells = subst (λ x. x.0 < length cells) (sym is) (omega (arith, term, c.requires.cells.count)) in
    let cell : c.index-cells-term.result ≡ cell_at ops cells c.change-item.result.0 = c.index-cells-term.is ∙ get_or_default cells c.change-item.result.0 c.index-cells-term.result (ops.full (width 1)) within in
    let full : ops.is_empty (cell_at ops cells c.change-item.result.0) ≡ false = subst (λ d. ops.is_empty d ≡ false) cell (sym c.if-is_empty.ensures) in
    let near : IsStillNear ops terms cells c.change-item.result.0 = c.in-None.ensures.near in
    record {
      held = below_more _ _ c.loop-change.invariant.held (subst (λ x. ops.is_empty (cell_at ops cells x.0) ≡ false) is full);
      still = below_more _ _ c.loop-change.invariant.still (subst (λ x. IsStillNear ops terms cells x.0) is near);
      of_still = c.last_user-still.ensures;
    }
