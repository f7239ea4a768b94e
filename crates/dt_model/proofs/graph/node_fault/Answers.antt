use Rattle.std.proofs.Common.{length, get_or, ◌<◌, arith, sym, subst}
use Rattle.std.proofs.lemmas.List.{get_or-map, length-map}
use Rattle.dt_lex.specs.Names.{no_name}
use Rattle.dt_model.specs.declared.model.Node.{Node}
use Rattle.dt_model.specs.declared.model.Act.TheVariants.{Fault}
use Rattle.dt_model.specs.ModelData.{NodeData, data_of, node_of}
use Rattle.dt_model.specs.Faults.{NodeBreaks}
use Rattle.dt_model.specs.Refusals.{IsSmallest}
use Rattle.dt_model.proofs.Refusals.{smallest_told, smallest_at}
use Rattle.dt_model.proofs.graph.node_fault.Goals as goal

pub returns : goal.returns
returns c =
    let m = c.args.m.now in
    let i = c.args.i in
    let d : Node = record { name = no_name; act = Fault 0 } in
    let l : i < length (data_of m).nodes = omega (arith, c.requires.within, length-map m.nodes node_of) in
    let s = smallest_told c.node_flags.result (NodeBreaks (data_of m) i (node_of (get_or m.nodes i d))) c.smallest.result (c.node_flags.ensures d) c.smallest.ensures in
    smallest_at (data_of m).nodes i (node_of d) (NodeBreaks (data_of m) i) c.smallest.result l
    (subst (λ (n : NodeData). IsSmallest (NodeBreaks (data_of m) i n) c.smallest.result) (sym (get_or-map node_of m.nodes i d (node_of d) c.requires.within)) s)
