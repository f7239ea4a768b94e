use Rattle.std.proofs.Common.{◌==◌, ap, sym, ◌∙◌}
use Rattle.std.specs.Prelude.{find, option_map}
use Rattle.dt_walk.specs.declared.run.ReadMade.{ReadMade}
use Rattle.dt_satisfy.specs.Demands.{value_of}
use Rattle.dt_satisfy.specs.Views.{made_data}
use Rattle.dt_satisfy.proofs.demands.value_of.Goals as goal

pub returns-in-Word : goal.returns-in-Word
returns-in-Word c =
    c.word_of.ensures
    ∙ ap (option_map (λ (m : ReadMade). m.word)) (c.read_at.ensures ∙ ap (find (λ (m : ReadMade). m.node == c.in-Word.node)) c.as_slice.ensures.value)
    ∙ ap (value_of (made_data c.args.made.now)) (sym c.in-Word.is)

pub returns-in-Cell : goal.returns-in-Cell
returns-in-Cell c =
    c.cell_of.ensures
    ∙ ap (option_map (λ (m : ReadMade). m.cell)) (c.read_at-in-Cell.ensures ∙ ap (find (λ (m : ReadMade). m.node == c.in-Cell.node)) c.as_slice-in-Cell.ensures.value)
    ∙ ap (value_of (made_data c.args.made.now)) (sym c.in-Cell.is)
