use Rattle.std.proofs.Common.{sym, ap, ◌∙◌}
use Rattle.std.specs.Option.{is_some}
use Rattle.dt_lemmas.proofs.Options.{none_is}
use Rattle.dt_model.proofs.NameTables.{finds_new, finds_old}
use Rattle.dt_model.proofs.name_table.NameTable.add.Goals as goal

pub returns-in_ok-insert : goal.returns-in_ok-insert
returns-in_ok-insert c =
    λ names h count. finds_new c.args.self.now (record { places = c.insert.new.self }) c.args.name c.args.at names (none_is _ (ap is_some (sym c.position.ensures) ∙ c.if-is_none.ensures)) c.in_ok-insert.ensures.entries h count

pub returns-else-is_none : goal.returns-else-is_none
returns-else-is_none c =
    λ names h count. finds_old c.args.self.now c.args.name names (ap is_some (sym c.position.ensures) ∙ c.if-is_none.ensures) h
