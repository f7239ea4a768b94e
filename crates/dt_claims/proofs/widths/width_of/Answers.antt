use Rattle.std.proofs.Common.{List, slice_get, sym, ap, ◌∙◌}
use Rattle.dt_model.specs.ModelData.{ActData, data_of}
use Rattle.dt_request.specs.Lists.{read_width, width_of}
use Rattle.dt_ways.proofs.Models.{model_steps}
use Rattle.dt_claims.proofs.widths.width_of.Goals as goal

pub returns-in-Word : goal.returns-in-Word
returns-in-Word c =
    c.read_width.ensures ∙ ap (λ (ps : List ActData). read_width c.args.model.now.word (slice_get ps c.in-Word.node)) (model_steps c.args.model.now c.as_slice-in-Word.result.now c.as_slice-in-Word.ensures)
    ∙ ap (width_of (data_of c.args.model.now)) (sym c.in-Word.is)

pub returns-in-Cell : goal.returns-in-Cell
returns-in-Cell c =
    c.read_width-in-Cell.ensures ∙ ap (λ (ps : List ActData). read_width c.args.model.now.address (slice_get ps c.in-Cell.node)) (model_steps c.args.model.now c.as_slice-in-Cell.result.now c.as_slice-in-Cell.ensures)
    ∙ ap (width_of (data_of c.args.model.now)) (sym c.in-Cell.is)
