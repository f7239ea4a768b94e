-- What the flags of a node tell.
use Rattle.std.proofs.Common.{◌≡◌, ℕ, ◌≤◌, ◌↔◌, true, false, ◌&&◌, ◌||◌, ltb, leb, length, Option, Some, None, ap, ◌∙◌, arith}
use Rattle.std.specs.Prelude.{IsTrue}
use Rattle.dt_lemmas.proofs.Booleans.{same_tests}
use Rattle.dt_model.specs.declared.flags.Flags.{Flags}
use Rattle.dt_model.specs.declared.flow.NodeSets.{NodeSets}
use Rattle.dt_model.specs.declared.refusal.ModelRefusal.TheVariants.{NameTwice, UnknownName, WidthMismatch, WidthRange, BackEdge, Unassigned, AssignedTwice, NoNode, TooMany, TooDeep}
use Rattle.dt_model.specs.ModelData.{ModelData, Tree, NodeData}
use Rattle.dt_model.specs.Widths.{Scope, has_unknown, has_mismatch, has_bad_range, depth}
use Rattle.dt_model.specs.Marks.{UsesOf, AssignsOf}
use Rattle.dt_model.specs.Faults.{NodeBreaks, UsesLeft, AssignsAgain, on_tree, tree_in, assigned, targets, any, var_unknown, step_mismatch, step_range, node_scope, steps}
use Rattle.dt_model.specs.Refusals.{Tells, SetsTell}

pub record IsFlagged (d : ModelData) (i : ℕ) (n : NodeData) (s : Scope) (sets : NodeSets) (f : Flags) : Type 0 where
  pub scope : s ≡ node_scope d
  pub name_twice : IsTrue f.name_twice ↔ NodeBreaks d i n NameTwice
  pub unknown : f.unknown_name ≡ (on_tree n.step (has_unknown s) || var_unknown (length s.vars) n.step)
  pub mismatch : f.width_mismatch ≡ (on_tree n.step (has_mismatch s) || step_mismatch d.word d.address s n.step)
  pub range : f.width_range ≡ (on_tree n.step (has_bad_range s) || step_range d.word d.address n.step)
  pub back : f.back_edge ≡ any (targets n.step) (λ t. ltb t (length d.nodes) && leb t i)
  pub left : IsTrue f.unassigned ↔ UsesOf sets.left (length d.vars) (tree_in n.step)
  pub again : IsTrue f.assigned_twice ↔ AssignsOf sets.assigned (length d.vars) (assigned n.step)
  pub node : f.no_node ≡ any (targets n.step) (λ t. leb (length d.nodes) t)
  pub many : IsTrue f.too_many ↔ NodeBreaks d i n TooMany
  pub deep : f.too_deep ≡ on_tree n.step (λ t. ltb 32 (depth t))

leaves : (d : ModelData) (i : ℕ) (sets : NodeSets) (t : Option Tree) → length d.vars ≤ 512 → SetsTell d i sets → UsesOf sets.left (length d.vars) t ↔ UsesLeft (steps d) (length d.vars) i t
leaves d i sets None l h = (λ x. x, λ x. x)
leaves d i sets (Some t) l h = (λ x. (x.0, x.1, x.2, (h x.0 false (omega (arith, x.1))).0 x.3), λ x. (x.0, x.1, x.2, (h x.0 false (omega (arith, x.1))).1 x.3))

takes : (d : ModelData) (i : ℕ) (sets : NodeSets) (v : Option ℕ) → length d.vars ≤ 512 → SetsTell d i sets → AssignsOf sets.assigned (length d.vars) v ↔ AssignsAgain (steps d) (length d.vars) i v
takes d i sets None l h = (λ x. x, λ x. x)
takes d i sets (Some v) l h = (λ x. (x.0, (h v true (omega (arith, x.0))).0 x.1), λ x. (x.0, (h v true (omega (arith, x.0))).1 x.1))

pub node_tells : (d : ModelData) (i : ℕ) (n : NodeData) (s : Scope) (sets : NodeSets) (f : Flags) → length d.vars ≤ 512 → SetsTell d i sets → IsFlagged d i n s sets f → Tells f (NodeBreaks d i n)
node_tells d i n s sets f l h k NameTwice = k.name_twice
node_tells d i n s sets f l h k UnknownName = same_tests _ _ (k.unknown ∙ ap (λ (x : Scope). on_tree n.step (has_unknown x) || var_unknown (length x.vars) n.step) k.scope)
node_tells d i n s sets f l h k WidthMismatch = same_tests _ _ (k.mismatch ∙ ap (λ (x : Scope). on_tree n.step (has_mismatch x) || step_mismatch d.word d.address x n.step) k.scope)
node_tells d i n s sets f l h k WidthRange = same_tests _ _ (k.range ∙ ap (λ (x : Scope). on_tree n.step (has_bad_range x) || step_range d.word d.address n.step) k.scope)
node_tells d i n s sets f l h k BackEdge = same_tests _ _ k.back
node_tells d i n s sets f l h k Unassigned = let p = leaves d i sets (tree_in n.step) l h in (λ x. p.0 (k.left.0 x), λ x. k.left.1 (p.1 x))
node_tells d i n s sets f l h k AssignedTwice = let p = takes d i sets (assigned n.step) l h in (λ x. p.0 (k.again.0 x), λ x. k.again.1 (p.1 x))
node_tells d i n s sets f l h k NoNode = same_tests _ _ k.node
node_tells d i n s sets f l h k TooMany = k.many
node_tells d i n s sets f l h k TooDeep = same_tests _ _ k.deep
