-- An accepted model's nodes can be walked, and its rules have values.
use Rattle.std.proofs.Common.{◌≡◌, ℕ, zero, suc, ◌<◌, ◌≤◌, Bool, false, ◌&&◌, ◌||◌, eqb, ltb, leb, List, [], ◌∷◌, Option, Some, None, length, get_or, ◌^◌, ⊎_elim, refl, sym, ap, ◌∙◌, subst, arith}
use Rattle.std.specs.Prelude.{IsSome, IsSomeAnd, is_some, slice_get, slice_index, Contains}
use Rattle.std.proofs.lemmas.Bool.{false_from_ne_true, or_parts, false≢true, leb-false, lt-ltb, not-false, eqb-true, and_from, cases_lt}
use Rattle.std.proofs.lemmas.Nat.{pow_pos}
use mathlib.Core.Path.{fun_ext}
use Rattle.std.proofs.lemmas.List.{length-map, get_or_past}
use Rattle.dt_model.specs.declared.model.Named.{Named}
use Rattle.dt_model.specs.declared.refusal.ModelRefusal.{ModelRefusal}
use Rattle.dt_model.specs.declared.refusal.ModelRefusal.TheVariants.{UnknownName, WidthMismatch, WidthRange, BackEdge, NoNode}
use Rattle.dt_model.specs.declared.refusal.Place.TheVariants.{Node as At}
use Rattle.dt_model.specs.ModelData.{ModelData, Tree, ActData, NodeData, bind, read, branch, fault, done}
use Rattle.dt_model.specs.Widths.{Scope, AreWidths, tree_width, differs, has_unknown, has_mismatch, has_bad_range, HasArities}
use Rattle.dt_model.specs.Faults.{IsAccepted, HaveArities, NodeBreaks, context_scope, access_scope, node_scope, on_tree, var_unknown, step_mismatch, step_range, steps, tree_in, any, targets}
use Rattle.dt_model.specs.Values.{FitNames}
use Rattle.dt_model.proofs.Nodes.{act_at}
use Rattle.dt_model.proofs.Fitting.{tree_fits, width_within}
use Rattle.dt_model.proofs.Accepting.{context_rule_width, access_rule_width, context_arities, access_arities, node_arities}
use Rattle.dt_walk.specs.Sound.{IsSound, AreSound, IsLater, AreValues}

-- ---- nodes

pub fine : (d : ModelData) (i : ℕ) (n : NodeData) → IsAccepted d → slice_get d.nodes i ≡ Some n → (r : ModelRefusal) → NodeBreaks d i n r → ⊥
fine d i n a e r b = a (At i) r (subst (λ (o : Option NodeData). IsSomeAnd o (λ m. NodeBreaks d i m r)) (sym e) b)

same_width : (a b : Option ℕ) → IsSome a → IsSome b → differs a b ≡ false → a ≡ b
same_width (Some a) (Some b) p q d = ap (λ (n : ℕ). Some n) (eqb-true a b (not-false (eqb a b) d))
same_width None b p q d = absurd (false≢true p)
same_width (Some a) None p q d = absurd (false≢true q)

later : (count i t : ℕ) → (ltb t count && leb t i) ≡ false → leb count t ≡ false → IsLater count i t
later count i t b n =
    let c : t < count = leb-false count t n in
    let l : leb t i ≡ false = false_from_ne_true (leb t i) (λ e. false≢true (sym b ∙ and_from _ _ (lt-ltb t count c) e)) in
    (leb-false t i l, c)

-- the tests of a node that no fault passes
pub record Clean (d : ModelData) (i : ℕ) (p : ActData) : Type 0 where
  pub known : (on_tree p (has_unknown (node_scope d)) || var_unknown (length d.vars) p) ≡ false
  pub match : (on_tree p (has_mismatch (node_scope d)) || step_mismatch d.word d.address (node_scope d) p) ≡ false
  pub range : (on_tree p (has_bad_range (node_scope d)) || step_range d.word d.address p) ≡ false
  pub back : any (targets p) (λ t. ltb t (length d.nodes) && leb t i) ≡ false
  pub node : any (targets p) (λ t. leb (length d.nodes) t) ≡ false

pub clean : (d : ModelData) (i : ℕ) (n : NodeData) → IsAccepted d → slice_get d.nodes i ≡ Some n → Clean d i n.step
clean d i n a e = record {
  known = false_from_ne_true _ (fine d i n a e UnknownName);
  match = false_from_ne_true _ (fine d i n a e WidthMismatch);
  range = false_from_ne_true _ (fine d i n a e WidthRange);
  back = false_from_ne_true _ (fine d i n a e BackEdge);
  node = false_from_ne_true _ (fine d i n a e NoNode);
}

tree_ok : (d : ModelData) (t : Tree) (u m r : Bool) → HasArities t → (has_unknown (node_scope d) t || u) ≡ false → (has_mismatch (node_scope d) t || m) ≡ false → (has_bad_range (node_scope d) t || r) ≡ false → IsSome (tree_width (node_scope d) t)
tree_ok d t u m r h a b c = tree_fits (node_scope d) t h (or_parts _ u a).0 (or_parts _ m b).0 (or_parts _ r c).0

two : (count i t o : ℕ) → any (t ∷ o ∷ []) (λ t. ltb t count && leb t i) ≡ false → any (t ∷ o ∷ []) (λ t. leb count t) ≡ false → IsLater count i t × IsLater count i o
two count i t o b n =
    let p = or_parts (ltb t count && leb t i) _ b in
    let q = or_parts (leb count t) _ n in
    (later count i t p.0 q.0, later count i o (or_parts (ltb o count && leb o i) false p.1).0 (or_parts (leb count o) false q.1).0)

sound : (d : ModelData) (i : ℕ) (p : ActData) → ((t : Tree) → tree_in p ≡ Some t → HasArities t) → Clean d i p → IsSound (node_scope d) d.word (length d.nodes) i p
sound d i (fault c) h k = tt
sound d i (done t page) h k = (h t refl, tree_ok d t _ _ _ (h t refl) k.known k.match k.range)
sound d i (branch t to other) h k =
    let l = two (length d.nodes) i to other k.back k.node in
    (h t refl, tree_ok d t _ _ _ (h t refl) k.known k.match k.range, l.0, l.1)
sound d i (bind x t to) h k =
    let w = tree_ok d t _ _ _ (h t refl) k.known k.match k.range in
    let v = width_within d.vars x (or_parts (has_unknown (node_scope d) t) _ k.known).1 in (
      (h t refl, same_width _ _ w v (or_parts (has_mismatch (node_scope d) t) _ k.match).1, v),
      later (length d.nodes) i to (or_parts (ltb to (length d.nodes) && leb to i) false k.back).0 (or_parts (leb (length d.nodes) to) false k.node).0,
    )
sound d i (read x t g to other) h k =
    let w = tree_ok d t _ _ _ (h t refl) k.known k.match k.range in
    let v = width_within d.vars x (or_parts (has_unknown (node_scope d) t) _ k.known).1 in
    let m = or_parts (has_mismatch (node_scope d) t) _ k.match in
    let l = two (length d.nodes) i to other k.back k.node in
    (h t refl, w, same_width _ _ v refl (or_parts (differs (tree_width (node_scope d) t) (Some d.address)) _ m.1).1, l.0, l.1)

pub accepted_sound : (d : ModelData) → IsAccepted d → HaveArities d → AreSound (node_scope d) d.word (steps d)
accepted_sound d a h i p e =
    let n = act_at d.nodes i p e in
    let s = sound d i n.0.step (λ t q. node_arities d i n.0 t h n.1 q) (clean d i n.0 a n.1) in
    let len : length d.nodes ≡ length (steps d) = sym (length-map d.nodes _) in
    subst (λ q. IsSound (node_scope d) d.word (length (steps d)) i q) n.2 (subst (λ l. IsSound (node_scope d) d.word l i n.0.step) len s)

-- ---- names

pub values_from : (ns : List Named) (vs : List ℕ) → AreWidths ns → FitNames ns vs → AreValues ns vs
values_from [] [] w f = tt
values_from [] (v ∷ vs) w f = absurd f
values_from (n ∷ ns) [] w f = absurd f
values_from (n ∷ ns) (v ∷ vs) w f = (w.0, f.0, values_from ns vs w.1 f.1)

pub zero_values : (ns : List Named) (vs : List ℕ) → AreWidths ns → length vs ≡ length ns → slice_index vs ≡ (λ _. 0) → AreValues ns vs
zero_values [] [] w l z = tt
zero_values [] (v ∷ vs) w l z = absurd (omega arith)
zero_values (n ∷ ns) [] w l z = absurd (omega arith)
zero_values (n ∷ ns) (v ∷ vs) w l z =
    let e : v ≡ 0 = ap (λ (f : ℕ → ℕ). f 0) z in
    (w.0, subst (λ k. k < 2 ^ n.width) (sym e) (pow_pos n.width), zero_values ns vs w.1 (omega arith) (ap (λ (f : ℕ → ℕ). λ i. f (suc i)) z))

-- a list that is 0 at each of its places
pub zeros : (vs : List ℕ) → ((k : ℕ) → k < length vs → get_or vs k 0 ≡ 0) → slice_index vs ≡ (λ _. 0)
zeros vs h = fun_ext (λ (k : ℕ). ⊎_elim (λ (l : k < length vs). h k l) (λ (l : length vs ≤ k). get_or_past vs k 0 l) (cases_lt k (length vs)))

-- ---- rules

held_at : (ts : List Tree) (i : ℕ) (t : Tree) → i < length ts → get_or ts i t ≡ t → slice_get ts i ≡ Some t
held_at [] i t l e = absurd (omega arith)
held_at (u ∷ ts) zero t l e = ap (λ (x : Tree). Some x) e
held_at (u ∷ ts) (suc i) t l e = held_at ts i t (omega arith) e

-- a rule has a width, and its operators their operands
pub record IsRule (s : Scope) (t : Tree) : Type 0 where
  pub arities : HasArities t
  pub width : IsSome (tree_width s t)

pub context_rule : (d : ModelData) (t : Tree) → IsAccepted d → HaveArities d → Contains d.legal_context t → IsRule (context_scope d) t
context_rule d t a h c =
    let e = held_at d.legal_context c.0 t c.1 c.2 in
    record { arities = context_arities d c.0 t h e; width = ap is_some (context_rule_width d c.0 t a h e) }

pub access_rule : (d : ModelData) (t : Tree) → IsAccepted d → HaveArities d → Contains d.legal_access t → IsRule (access_scope d) t
access_rule d t a h c =
    let e = held_at d.legal_access c.0 t c.1 c.2 in
    record { arities = access_arities d c.0 t h e; width = ap is_some (access_rule_width d c.0 t a h e) }
