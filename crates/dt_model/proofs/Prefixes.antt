-- The prefix of the nodes, past one more.
use Rattle.std.proofs.Common.{◌≡◌, ℕ, ◌+◌, ◌<◌, ◌≤◌, ◌↔◌, Bool, true, not, ◌||◌, cond, ltb, leb, List, [], ◌∷◌, ◌++◌, length, map, take, get_or, min, Option, Some, None, refl, sym, ap, ◌∙◌, subst, arith, ⊎_elim}
use Rattle.std.specs.Prelude.{IsTrue, IfNone, IsSomeAnd, slice_get, sum_by}
use Rattle.std.proofs.lemmas.Bool.{false_from_ne_true, or_parts, or_left, or_right, leb-false, ltb-false, lt-ltb, cases_lt}
use Rattle.std.proofs.lemmas.List.{map_more, get_or-map, length-map}
use Rattle.std.proofs.lemmas.List.Sums.{sum_by_more}
use Rattle.std.proofs.lemmas.Option.{slice_get-get_or}
use Rattle.dt_lex.specs.declared.name.Name.{Name}
use Rattle.dt_lemmas.proofs.Booleans.{same_tests}
use Rattle.dt_model.specs.declared.refusal.ModelRefusal.{ModelRefusal}
use Rattle.dt_model.specs.declared.refusal.ModelRefusal.TheVariants.{NameTwice, TooMany}
use Rattle.dt_model.specs.declared.refusal.Place.TheVariants.{Node as At}
use Rattle.dt_model.specs.declared.prefix.Prefix.{Prefix}
use Rattle.dt_model.specs.declared.model.Node.{Node}
use Rattle.dt_model.specs.declared.model.Model.{Model}
use Rattle.dt_model.specs.ModelData.{ModelData, NodeData, act_of, node_of, data_of}
use Rattle.dt_model.specs.Faults.{Breaks, NodeBreaks, count_of, is_read, is_done, is_named, step_operators, operators_to, node_operators}
use Rattle.dt_model.specs.Refusals.{IsSmallest}
use Rattle.dt_model.specs.Prefix.{IsPrefix}

-- from the prefix before node i, which is x, to the one with it
pub record Follows (d : ModelData) (i : ℕ) (x : NodeData) (own : ℕ) (new : Bool) (s t : Prefix) : Type 0 where
  pub inside : i < length d.nodes
  pub at : get_or d.nodes i x ≡ x
  pub prefix : IsPrefix d i s
  pub has_own : own ≡ min (step_operators x.step) 65
  pub reads : t.tally.reads ≡ s.tally.reads + cond (is_read x.step) 1 0
  pub dones : t.tally.dones ≡ s.tally.dones + cond (is_done x.step) 1 0
  pub operators : t.tally.operators ≡ s.tally.operators + own
  pub is_new : new ≡ not (is_named s.names.keys x.name)
  pub names : new ≡ true → t.names.keys ≡ s.names.keys ++ x.name ∷ []

-- the code's steps at a node
pub follows : (m : Model) (i : ℕ) (x : Node) (nodes : List Node) (own : ℕ) (new : Bool) (s t : Prefix) → i < length m.nodes → nodes ≡ m.nodes → x ≡ get_or nodes i x → IsPrefix (data_of m) i s → own ≡ min (step_operators (act_of x.act)) 65
    → t.tally.reads ≡ s.tally.reads + cond (is_read (act_of x.act)) 1 0 → t.tally.dones ≡ s.tally.dones + cond (is_done (act_of x.act)) 1 0 → t.tally.operators ≡ s.tally.operators + own
    → new ≡ not (is_named s.names.keys x.name) → (new ≡ true → t.names.keys ≡ s.names.keys ++ x.name ∷ []) → Follows (data_of m) i (node_of x) own new s t
follows m i x nodes own new s t l e h p o reads dones operators is_new names =
    let here : x ≡ get_or m.nodes i x = h ∙ ap (λ (ns : List Node). get_or ns i x) e in
    record {
      inside = omega (arith, l, length-map m.nodes node_of);
      at = get_or-map node_of m.nodes i x (node_of x) l ∙ ap node_of (sym here);
      prefix = p;
      has_own = o;
      reads = reads;
      dones = dones;
      operators = operators;
      is_new = is_new;
      names = names;
    }

-- a sum over the nodes, with one more
sum_past : (f : NodeData → ℕ) (d : ModelData) (i a : ℕ) (x : NodeData) → i < length d.nodes → get_or d.nodes i x ≡ x → a ≡ sum_by f (take i d.nodes) → a + f x ≡ sum_by f (take (i + 1) d.nodes)
sum_past f d i a x l e h = ap (λ k. k + f x) h ∙ ap (λ (y : NodeData). sum_by f (take i d.nodes) + f y) (sym e) ∙ sym (sum_by_more f d.nodes i x l)

-- a count that stops at 65 passes 64 where the whole count does
stopped : (a : Bool) (own before : ℕ) → (a || ltb 64 (min own 65) || ltb 8192 (before + min own 65)) ≡ (a || ltb 64 own || ltb 8192 (before + own))
stopped a own before =
    ⊎_elim
    (λ (g : 64 < own).
    let e : min own 65 ≡ 65 = omega arith in
    or_left (a || ltb 64 (min own 65)) _ (or_right a _ (lt-ltb 64 (min own 65) (omega arith))) ∙ sym (or_left (a || ltb 64 own) _ (or_right a _ (lt-ltb 64 own g))))
    (λ (l : own ≤ 64). let e : min own 65 ≡ own = omega arith in ap (λ k. a || ltb 64 k || ltb 8192 (before + k)) e)
    (cases_lt 64 own)

pub crowded_tells : (d : ModelData) (i : ℕ) (x : NodeData) (own : ℕ) (new : Bool) (s t : Prefix) (b : Bool) → Follows d i x own new s t
    → b ≡ (leb 1024 i || ltb 64 t.tally.reads || ltb 16 t.tally.dones || ltb 64 own || ltb 8192 t.tally.operators) → IsTrue b ↔ NodeBreaks d i x TooMany
crowded_tells d i x own new s t b h e =
    let reads : t.tally.reads ≡ count_of is_read (take (i + 1) d.nodes) = h.reads ∙ sum_past (λ n. cond (is_read n.step) 1 0) d i s.tally.reads x h.inside h.at h.prefix.reads in
    let dones : t.tally.dones ≡ count_of is_done (take (i + 1) d.nodes) = h.dones ∙ sum_past (λ n. cond (is_done n.step) 1 0) d i s.tally.dones x h.inside h.at h.prefix.dones in
    let nodes : node_operators (take i d.nodes) + step_operators x.step ≡ node_operators (take (i + 1) d.nodes) = sum_past (λ n. step_operators n.step) d i (node_operators (take i d.nodes)) x h.inside h.at refl in
    let whole : s.tally.operators + step_operators x.step ≡ operators_to d (i + 1) = omega (arith, h.prefix.operators, nodes) in
    let a : Bool = leb 1024 i || ltb 64 t.tally.reads || ltb 16 t.tally.dones in
    same_tests b _ (
    e
    ∙ ap (λ k. a || ltb 64 own || ltb 8192 k) h.operators
    ∙ ap (λ k. a || ltb 64 k || ltb 8192 (s.tally.operators + k)) h.has_own
    ∙ stopped a (step_operators x.step) s.tally.operators
    ∙ ap (λ k. a || ltb 64 (step_operators x.step) || ltb 8192 k) whole
    ∙ ap (λ k. leb 1024 i || ltb 64 k || ltb 16 t.tally.dones || ltb 64 (step_operators x.step) || ltb 8192 (operators_to d (i + 1))) reads
    ∙ ap (λ k. leb 1024 i || ltb 64 (count_of is_read (take (i + 1) d.nodes)) || ltb 16 k || ltb 64 (step_operators x.step) || ltb 8192 (operators_to d (i + 1))) dones)

if_none : {X : Type 0} (o : Option X) (P : Type 0) → (o ≡ None → P) → IfNone o P
if_none {X} None P h = h refl
if_none {X} (Some x) P h = tt

prefix_more : (d : ModelData) (i : ℕ) (x : NodeData) (own : ℕ) (new : Bool) (s t : Prefix) → Follows d i x own new s t → ((r : ModelRefusal) → NodeBreaks d i x r → ⊥) → IsPrefix d (i + 1) t
prefix_more d i x own new s t h none =
    let reads : t.tally.reads ≡ count_of is_read (take (i + 1) d.nodes) = h.reads ∙ sum_past (λ n. cond (is_read n.step) 1 0) d i s.tally.reads x h.inside h.at h.prefix.reads in
    let dones : t.tally.dones ≡ count_of is_done (take (i + 1) d.nodes) = h.dones ∙ sum_past (λ n. cond (is_done n.step) 1 0) d i s.tally.dones x h.inside h.at h.prefix.dones in
    let nodes : node_operators (take i d.nodes) + step_operators x.step ≡ node_operators (take (i + 1) d.nodes) = sum_past (λ n. step_operators n.step) d i (node_operators (take i d.nodes)) x h.inside h.at refl in
    let p = or_parts _ (ltb 8192 (operators_to d (i + 1))) (false_from_ne_true _ (none TooMany)) in
    let q = or_parts _ (ltb 64 (step_operators x.step)) p.0 in
    let r = or_parts _ (ltb 16 (count_of is_done (take (i + 1) d.nodes))) q.0 in
    let u = or_parts (leb 1024 i) (ltb 64 (count_of is_read (take (i + 1) d.nodes))) r.0 in
    let own_few : step_operators x.step ≤ 64 = ltb-false 64 _ q.1 in
    let exact : own ≡ step_operators x.step = h.has_own ∙ (let e : min (step_operators x.step) 65 ≡ step_operators x.step = omega arith in e) in
    let whole : t.tally.operators ≡ operators_to d (i + 1) = omega (arith, h.operators, exact, h.prefix.operators, nodes) in
    let few_reads : count_of is_read (take (i + 1) d.nodes) ≤ 64 = ltb-false 64 _ u.1 in
    let few_dones : count_of is_done (take (i + 1) d.nodes) ≤ 16 = ltb-false 16 _ r.1 in
    let few_operators : operators_to d (i + 1) ≤ 8192 = ltb-false 8192 _ p.1 in
    let below : i < 1024 = leb-false 1024 i u.0 in
    let earlier : List Name = map (λ (n : NodeData). n.name) (take i d.nodes) in
    let fresh : new ≡ true = h.is_new ∙ ap (λ (k : List Name). not (is_named k x.name)) h.prefix.names ∙ ap not (false_from_ne_true (is_named earlier x.name) (none NameTwice)) in
    record {
      names = h.names fresh ∙ ap (λ (k : List Name). k ++ x.name ∷ []) h.prefix.names ∙ ap (λ (y : NodeData). earlier ++ y.name ∷ []) (sym h.at) ∙ sym (map_more (λ (n : NodeData). n.name) d.nodes i x h.inside);
      reads = reads;
      dones = dones;
      operators = whole;
      few = omega arith;
      few_reads = subst (λ k. k ≤ 64) (sym reads) few_reads;
      few_dones = subst (λ k. k ≤ 16) (sym dones) few_dones;
      few_operators = subst (λ k. k ≤ 8192) (sym whole) few_operators;
    }

pub prefix_past : (d : ModelData) (i : ℕ) (x : NodeData) (own : ℕ) (new : Bool) (s t : Prefix) (o : Option ModelRefusal) → Follows d i x own new s t → IsSmallest (Breaks d (At i)) o → IfNone o (IsPrefix d (i + 1) t)
prefix_past d i x own new s t o h f =
    if_none o (IsPrefix d (i + 1) t) (λ e.
    let none : (r : ModelRefusal) → Breaks d (At i) r → ⊥ = subst (IsSmallest (Breaks d (At i))) e f in
    let is : slice_get d.nodes i ≡ Some x = slice_get-get_or d.nodes i x h.inside ∙ ap (λ (y : NodeData). Some y) h.at in
    prefix_more d i x own new s t h (λ r b. none r (subst (λ (p : Option NodeData). IsSomeAnd p (λ n. NodeBreaks d i n r)) (sym is) b)))
