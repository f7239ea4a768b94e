use Rattle.std.proofs.Common.{◌↔◌, List, get_or, ap, ◌∙◌, subst}
use Rattle.std.specs.Prelude.{IsTrue}
use Rattle.std.proofs.lemmas.List.{get_or_default}
use Rattle.dt_model.specs.declared.model.Node.{Node}
use Rattle.dt_model.specs.declared.refusal.ModelRefusal.TheVariants.{TooMany}
use Rattle.dt_model.specs.declared.prefix.Prefix.{Prefix}
use Rattle.dt_model.specs.ModelData.{data_of, node_of}
use Rattle.dt_model.specs.Faults.{NodeBreaks}
use Rattle.dt_model.proofs.Prefixes.{Follows, follows, crowded_tells, prefix_past}
use Rattle.dt_model.proofs.graph.next_fault.Goals as goal

pub node_fault-requires-clause-many : goal.node_fault-requires-clause-many
node_fault-requires-clause-many c = λ d.
    let m = c.args.m.now in
    let i = c.args.i in
    let x = c.index-as_slice-i.result in
    let t : Prefix = record { names = c.declare.new.names; tally = c.tallied-tally.result } in
    let f : Follows (data_of m) i (node_of x) c.act_operators-own.result c.in_ok-new.new c.args.prefix.now t =
    follows m i x c.as_slice.result.now _ _ _ _ c.requires.within c.as_slice.ensures c.index-as_slice-i.is c.requires.prefix c.act_operators-own.ensures c.tallied-tally.ensures.reads c.tallied-tally.ensures.dones c.tallied-tally.ensures.operators c.in_ok-new.ensures.new c.in_ok-new.ensures.keys in
    subst (λ (n : Node). IsTrue c.is_crowded.result ↔ NodeBreaks (data_of m) i (node_of n) TooMany) (c.index-as_slice-i.is ∙ ap (λ (l : List Node). get_or l i x) c.as_slice.ensures ∙ get_or_default m.nodes i x d c.requires.within)
    (crowded_tells (data_of m) i (node_of x) c.act_operators-own.result c.in_ok-new.new c.args.prefix.now t c.is_crowded.result f c.is_crowded.ensures)

pub returns-clause-prefix : goal.returns-clause-prefix
returns-clause-prefix c =
    prefix_past (data_of c.args.m.now) c.args.i (node_of c.index-as_slice-i.result) c.act_operators-own.result c.in_ok-new.new c.args.prefix.now (record { names = c.declare.new.names; tally = c.tallied-tally.result }) c.node_fault.result
    (follows c.args.m.now c.args.i c.index-as_slice-i.result c.as_slice.result.now _ _ _ _ c.requires.within c.as_slice.ensures c.index-as_slice-i.is c.requires.prefix c.act_operators-own.ensures c.tallied-tally.ensures.reads c.tallied-tally.ensures.dones c.tallied-tally.ensures.operators c.in_ok-new.ensures.new c.in_ok-new.ensures.keys)
    c.node_fault.ensures
