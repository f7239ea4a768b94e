use Rattle.std.proofs.Common.{◌≡◌, ℕ, ◌<◌, ◌↔◌, true, List, length, sym, ap, ◌∙◌, subst, arith}
use Rattle.std.proofs.lemmas.List.{length-map}
use Rattle.dt_model.specs.declared.flow.NodeSets.{NodeSets}
use Rattle.dt_model.specs.declared.model.Node.{Node}
use Rattle.dt_model.specs.declared.refusal.ModelRefusal.{ModelRefusal}
use Rattle.dt_model.specs.ModelData.{NodeData, ActData, data_of, node_of}
use Rattle.dt_model.specs.Faults.{NodeBreaks, steps}
use Rattle.dt_model.specs.Flow.{found, steps_of}
use Rattle.dt_model.specs.Paths.{SomePath}
use Rattle.dt_model.proofs.Refusals.{none_past}
use Rattle.dt_model.proofs.Nodes.{steps_same}
use Rattle.dt_model.proofs.graph.nodes_fault.Goals as goal

pub next_fault-requires-clause-sets : goal.next_fault-requires-clause-sets
next_fault-requires-clause-sets c = λ v b l.
    let i = c.loop-i.i in
    let nodes = c.as_slice-nodes.result.now in
    let same : steps (data_of c.args.m.now) ≡ steps_of nodes = steps_same c.args.m.now.nodes ∙ ap (λ (ns : List Node). steps_of ns) (sym c.as_slice-nodes.ensures) in
    let inside : i < length c.in_ok-sets.sets.items = omega (arith, c.in_ok-sets.ensures.len, c.loop-i.invariant.prefix.few, c.loop-i-test.true) in
    subst (λ (g : List ActData). (found c.index.result.now v b ≡ true) ↔ SomePath g i v b) (sym same)
    (subst (λ (s : NodeSets). (found s v b ≡ true) ↔ SomePath (steps_of nodes) i v b) (sym c.index.ensures) (c.in_ok-sets.ensures.sets i v b c.index.result.now inside l))

pub returns : goal.returns
returns c =
    let d = data_of c.args.m.now in
    none_past d.nodes (λ (i : ℕ) (n : NodeData) (r : ModelRefusal). NodeBreaks d i n r)
    (λ j r l. c.loop-i.invariant.none j r (omega (arith, l, length-map c.args.m.now.nodes node_of, ap length c.as_slice-nodes.ensures)))
