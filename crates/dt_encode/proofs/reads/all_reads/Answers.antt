use Rattle.std.proofs.Common.{◌++◌, List, map, ap, ◌∙◌}
use Rattle.dt_model.specs.Flow.{steps_of}
use Rattle.dt_walk.specs.declared.run.ReadMade.{ReadMade}
use Rattle.dt_lemmas.proofs.Lists.{all_flat}
use Rattle.dt_table.specs.Told.{told}
use Rattle.dt_table.specs.Images.{reads_told}
use Rattle.dt_table.specs.declared.out.Out.{Out}
use Rattle.dt_encode.specs.Telling.{valued}
use Rattle.dt_encode.proofs.reads.all_reads.Goals as goal

pub returns : goal.returns
returns c =
    let v = valued c.args.values.now in
    let ps = steps_of c.args.nodes.now in
    all_flat (λ (os : List Out). (told v ps os 0).reads) (λ row. row.items) c.new-reads.result.items c.loop-row.reads.items c.args.outs.now c.loop-row.row-index c.loop-row-test.false c.loop-row.invariant
    ∙ ap (λ (l : List ReadMade). l ++ reads_told v ps (map (λ row. row.items) c.args.outs.now)) c.new-reads.ensures.items
