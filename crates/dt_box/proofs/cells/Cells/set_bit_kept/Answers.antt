use Rattle.std.proofs.Common.{◌≡◌, ℕ, ◌<◌, List, length, set, ap, subst, arith}
use Rattle.std.proofs.lemmas.List.{get_or_read}
use Rattle.dt_bits.specs.Bits.{width}
use Rattle.dt_box.specs.Cells.{cell_at}
use Rattle.dt_box.specs.Trails.{IsKept}
use Rattle.dt_box.proofs.Trails.{kept_put}
use Rattle.dt_box.proofs.cells.Cells.set_bit_kept.Goals as goal

pub returns-clause-kept : goal.returns-clause-kept
returns-clause-kept g c =
    let D = g.row.D.Denot in
    let ops = g.D.Domain.ops in
    let cells = c.self.inside.cells.items in
    let t = c.args.term in
    let new = c.put_kept.new.cell in
    let longer = c.put_kept.new.changes.items in
    let within : t < length cells = omega (arith, c.requires.cells.count, c.requires.term, ap (λ (ds : List D). length ds) c.self.view_is) in
    let old : c.index_mut-cell.result.now ≡ cell_at ops cells t = get_or_read cells t _ within c.index_mut-cell.ensures.value _ in
    let k = kept_put ops cells c.trail.inside.changes.items longer t new c.index_mut-cell.result.now (ops.full (width 1)) c.put_kept.result within old
    c.put_kept.ensures.change c.put_kept.ensures.changes c.put_kept.ensures.err in
    subst (λ (ds : List D). IsKept ds c.args.trail.now (set cells t new) longer) c.self.view_is
    (subst (λ (xs : List (ℕ × D)). IsKept cells xs (set cells t new) longer) c.trail.view_is k)
