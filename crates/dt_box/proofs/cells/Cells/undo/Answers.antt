use Rattle.std.proofs.Common.{ℕ, ◌<◌, List, length, drop, sym, ap, ◌∙◌, subst}
use Rattle.std.specs.Prelude.{All}
use Rattle.dt_box.specs.Cells.{AreDomains}
use Rattle.dt_box.specs.Trails.{back}
use Rattle.dt_lemmas.proofs.Lists.{written_whole}
use Rattle.dt_box.proofs.Trails.{back_domains}
use Rattle.dt_box.proofs.cells.Cells.undo.Goals as goal

pub invariant_of-self : goal.invariant_of-self
invariant_of-self g c =
    let ops = g.D.Domain.ops in
    let cells = c.self.inside.cells in
    let trail = c.trail.inside.changes.items in
    let terms : All (λ (change : ℕ × g.row.D.Denot). change.0 < length cells.items) trail =
    subst (λ (xs : List (ℕ × g.row.D.Denot)). All (λ (change : ℕ × g.row.D.Denot). change.0 < length cells.items) xs) (sym c.trail.view_is)
    (subst (λ (ds : List g.row.D.Denot). All (λ (change : ℕ × g.row.D.Denot). change.0 < length ds) c.args.trail.now) (sym c.self.view_is) c.requires.terms) in
    let n = written_whole c.undo_to.new.cells (drop (length c.undo_to.new.cells) cells.items) cells.len (c.undo_to.auto.cells ∙ ap length c.deref_mut.ensures.value ∙ sym cells.ok.0) in
    let e = n ∙ c.undo_to.ensures.cells ∙ ap (λ (ds : List g.row.D.Denot). back ds trail c.args.length) c.deref_mut.ensures.value in
    (subst (AreDomains ops) (sym e) (back_domains ops cells.items trail c.args.length c.self.invariant.0 c.trail.invariant terms), c.self.invariant.1)
