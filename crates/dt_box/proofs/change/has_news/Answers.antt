use Rattle.std.proofs.Common.{refl, sym, ◌∙◌}
use Rattle.dt_box.proofs.Words.{stays}
use Rattle.dt_box.proofs.change.has_news.Goals as goal

pub returns-in-None : goal.returns-in-None
returns-in-None g c =
    rw c.in-None.is (c.is_empty.ensures ∙ sym (stays g.row.D.Denot g.D.Domain.ops c.args.cell.now c.args.cell.now refl))
