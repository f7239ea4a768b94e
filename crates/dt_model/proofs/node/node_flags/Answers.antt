use Rattle.std.proofs.Common.{◌≡◌, ℕ, ◌&&◌, ltb, leb, List, length, get_or, sym, ap, ◌∙◌, subst}
use Rattle.std.proofs.lemmas.List.{get_or_default, length-map}
use Rattle.dt_model.specs.declared.model.Node.{Node}
use Rattle.std.specs.Prelude.{IsTrue, ◌↔◌}
use Rattle.dt_model.specs.declared.refusal.ModelRefusal.TheVariants.{NameTwice, TooMany}
use Rattle.dt_model.specs.declared.flags.Flags.{Flags}
use Rattle.dt_model.specs.ModelData.{data_of, node_of, act_of}
use Rattle.dt_model.specs.Widths.{Scope}
use Rattle.dt_model.specs.Faults.{NodeBreaks, any, targets, tree_in, assigned}
use Rattle.dt_model.specs.Marks.{UsesOf, AssignsOf}
use Rattle.dt_model.specs.Refusals.{Tells}
use Rattle.dt_model.proofs.NodeTells.{node_tells}
use Rattle.dt_model.proofs.node.node_flags.Goals as goal

pub returns : goal.returns
returns c = λ d.
    let m = c.args.m.now in
    let i = c.args.i in
    let x = c.index-nodes-i.result in
    let f : Flags = record { name_twice = c.args.taken; unknown_name = c.act_unknown.result; width_mismatch = c.act_mismatch.result; width_range = c.act_range.result; back_edge = c.act_back.result; unassigned = c.act_left.result; assigned_twice = c.act_again.result; no_node = c.act_no_node.result; too_many = c.args.too_many; too_deep = c.act_deep.result } in
    let s : Scope = record { regs = c.as_slice.result.now; inputs = c.as_slice-2.result.now; vars = c.as_slice-3.result.now } in
    let here : x ≡ get_or m.nodes i d = c.index-nodes-i.is ∙ ap (λ (l : List Node). get_or l i x) c.as_slice-nodes.ensures ∙ get_or_default m.nodes i x d c.requires.within in
    let there : x ≡ get_or m.nodes i x = c.index-nodes-i.is ∙ ap (λ (l : List Node). get_or l i x) c.as_slice-nodes.ensures in
    let count : length c.as_slice-nodes.result.now ≡ length (data_of m).nodes = ap length c.as_slice-nodes.ensures ∙ sym (length-map m.nodes node_of) in
    let e1 = c.as_slice.ensures in
    let e2 = c.as_slice-2.ensures in
    let e3 = c.as_slice-3.ensures in
    subst (λ (n : Node). Tells f (NodeBreaks (data_of m) i (node_of n))) here
    (node_tells (data_of m) i (node_of x) s c.args.sets.now f c.requires.declared.few_vars c.requires.sets (record {
      scope = cc;
      name_twice = subst (λ (n : Node). IsTrue c.args.taken ↔ NodeBreaks (data_of m) i (node_of n) NameTwice) (sym there) (c.requires.named x);
      unknown = c.act_unknown.ensures;
      mismatch = c.act_mismatch.ensures;
      range = c.act_range.ensures;
      back = c.act_back.ensures ∙ ap (λ (k : ℕ). any (targets (act_of x.act)) (λ t. ltb t k && leb t i)) count;
      left = subst (λ (k : ℕ). IsTrue c.act_left.result ↔ UsesOf c.args.sets.now.left k (tree_in (act_of x.act))) c.len-count.ensures c.act_left.ensures;
      again = subst (λ (k : ℕ). IsTrue c.act_again.result ↔ AssignsOf c.args.sets.now.assigned k (assigned (act_of x.act))) c.len-count.ensures c.act_again.ensures;
      node = c.act_no_node.ensures ∙ ap (λ (k : ℕ). any (targets (act_of x.act)) (λ t. leb k t)) count;
      many = subst (λ (n : Node). IsTrue c.args.too_many ↔ NodeBreaks (data_of m) i (node_of n) TooMany) (sym there) (c.requires.many x);
      deep = c.act_deep.ensures;
    }))
