-- A model with a certificate is accepted.
use Rattle.std.proofs.Common.{◌≡◌, ℕ, zero, suc, ◌+◌, Bool, true, false, not, ◌&&◌, ◌||◌, eqb, List, [], ◌∷◌, ◌++◌, map, take, length, Option, Some, None, ⊎_elim, refl, sym, ap, ◌∙◌, subst, arith}
use Rattle.std.specs.Prelude.{slice_get, IsSomeAnd, nat_le, nat_lt}
use Rattle.std.specs.List.{list_all}
use Rattle.dt_bits.specs.Ops.{arity_of}
use Rattle.std.proofs.lemmas.Bool.{false≢true, and_parts, and_from, or_cases, or_left, or_right, eqb-true}
use Rattle.dt_lex.specs.declared.name.Name.{Name}
use Rattle.dt_lex.specs.Names.{spells_name, padded_name, bytes_of, same_name, IsName}
use Rattle.dt_lex.proofs.Padded.{name_of_spells, same_name_is}
use Rattle.dt_lemmas.proofs.Lists.{all_from}
use Rattle.dt_lemmas.proofs.Booleans.{not_both}
use Rattle.dt_model.proofs.Nodes.{act_at}
use Rattle.dt_model.specs.declared.model.Named.{Named}
use Rattle.dt_model.specs.declared.refusal.ModelRefusal.{ModelRefusal}
use Rattle.dt_model.specs.declared.refusal.ModelRefusal.TheVariants.{NameTwice, UnknownName, WidthMismatch, WidthRange, BackEdge, Unassigned, AssignedTwice, NoNode, TooMany, TooDeep}
use Rattle.dt_model.specs.declared.refusal.Place.TheVariants.{Header, Reg, Input, Var, LegalContext, LegalAccess, Node}
use Rattle.dt_model.specs.ModelData.{ModelData, Tree, value, reg, input, var, apply1, apply2, apply3, ActData, bind, read, branch, fault, done, NodeData}
use Rattle.dt_model.specs.Paths.{Side, next, then, other, Exit, Edge, exit, step_exit, exit_at, exit_assigns, is_var, IsPath, assigned_by}
use Rattle.dt_model.specs.Widths.{Scope, is_width, tree_width, differs, has_unknown, has_mismatch, has_bad_range, uses, operators, depth, HasArities}
use Rattle.dt_model.specs.Faults.{IsAccepted, HaveArities, StepArities, Breaks, NameBreaks, RuleBreaks, NodeBreaks, UsesLeft, AssignsAgain, steps, tree_in, assigned, targets, any, is_word, is_address, is_named, is_read, is_done, count_of, step_operators, operators_to, on_tree, var_unknown, step_mismatch, step_range, node_scope, names_of, context_scope, access_scope, rule_operators}
use Rattle.dt_model.specs.Spelled.{HaveNames}
use Rattle.dt_model.specs.Limits.{most_regs, most_inputs, most_vars, most_rules, most_nodes, most_reads, most_dones, most_operators, most_model_operators, most_depth}
use Rattle.dt_model.specs.Certificate.{Sets, among, sets_at, with_one, edge_fine, edges_fine, uses_fine, tree_fine, again_fine, every, names_fine, rule_fine, node_fine, arities_fine, step_arities_fine, spelled_fine, Certifies, IsCertified}

-- ---- sets

all_at : (f : ℕ → Bool) (xs : List ℕ) (v : ℕ) → list_all f xs ≡ true → among xs v ≡ true → f v ≡ true
all_at f [] v h m = absurd (false≢true m)
all_at f (x ∷ xs) v h m =
    let p = and_parts (f x) (list_all f xs) h in
    ⊎_elim (λ (e : eqb x v ≡ true). subst (λ k. f k ≡ true) (eqb-true x v e) p.0) (λ (e : among xs v ≡ true). all_at f xs v p.1 e) (or_cases (eqb x v) (among xs v) m)

none_at : (xs : List ℕ) (v : ℕ) → list_all (λ v. false) xs ≡ true → among xs v ≡ true → ⊥
none_at xs v h m = false≢true (all_at (λ v. false) xs v h m)

used : (xs : List ℕ) (t : Tree) (v : ℕ) → uses_fine xs t ≡ true → uses t v ≡ true → among xs v ≡ true
used xs (value w n) v h u = absurd (false≢true u)
used xs (reg i) v h u = absurd (false≢true u)
used xs (input i) v h u = absurd (false≢true u)
used xs (var i) v h u = subst (λ k. among xs k ≡ true) (eqb-true i v u) h
used xs (apply1 op a) v h u = used xs a v h u
used xs (apply2 op a b) v h u =
    let p = and_parts (uses_fine xs a) (uses_fine xs b) h in
    ⊎_elim (λ (e : uses a v ≡ true). used xs a v p.0 e) (λ (e : uses b v ≡ true). used xs b v p.1 e) (or_cases (uses a v) (uses b v) u)
used xs (apply3 op a b c) v h u =
    let p = and_parts (uses_fine xs a) (uses_fine xs b && uses_fine xs c) h in
    let q = and_parts (uses_fine xs b) (uses_fine xs c) p.1 in
    ⊎_elim (λ (e : uses a v ≡ true). used xs a v p.0 e)
    (λ (r : (uses b v || uses c v) ≡ true). ⊎_elim (λ (e : uses b v ≡ true). used xs b v q.0 e) (λ (e : uses c v ≡ true). used xs c v q.1 e) (or_cases (uses b v) (uses c v) r))
    (or_cases (uses a v) (uses b v || uses c v) u)

-- ---- paths

-- the sets say what is assigned
record Kept (s : Sets) (a : ℕ → Bool) : Type 0 where
  sure : (v : ℕ) → among s.sure v ≡ true → a v ≡ true
  maybe : (v : ℕ) → a v ≡ true → among s.maybe v ≡ true

sure_one : (x : Option ℕ) (xs : List ℕ) (v : ℕ) (a : ℕ → Bool) → ((v : ℕ) → among xs v ≡ true → a v ≡ true) → among (with_one x xs) v ≡ true → (is_var x v || a v) ≡ true
sure_one None xs v a h m = h v m
sure_one (Some x) xs v a h m = ⊎_elim (λ (e : eqb x v ≡ true). or_left (eqb x v) (a v) e) (λ (e : among xs v ≡ true). or_right (eqb x v) (a v) (h v e)) (or_cases (eqb x v) (among xs v) m)

maybe_one : (x : Option ℕ) (xs : List ℕ) (v : ℕ) (a : ℕ → Bool) → ((v : ℕ) → a v ≡ true → among xs v ≡ true) → (is_var x v || a v) ≡ true → among (with_one x xs) v ≡ true
maybe_one None xs v a h m = h v m
maybe_one (Some x) xs v a h m = ⊎_elim (λ (e : eqb x v ≡ true). or_left (eqb x v) (among xs v) e) (λ (e : a v ≡ true). or_right (eqb x v) (among xs v) (h v e)) (or_cases (eqb x v) (a v) m)

edge_kept : (s t : Sets) (x : Option ℕ) (a : ℕ → Bool) → edge_fine s x t ≡ true → Kept s a → Kept t (λ v. is_var x v || a v)
edge_kept s t x a h k =
    let p = and_parts (list_all (among (with_one x s.sure)) t.sure) _ h in
    record {
      sure = λ v m. sure_one x s.sure v a k.sure (all_at (among (with_one x s.sure)) t.sure v p.0 m);
      maybe = λ v m. all_at (among t.maybe) (with_one x s.maybe) v p.1 (maybe_one x s.maybe v a k.maybe m);
    }

exit_fine : (c : List Sets) (s : Sets) (p : ActData) (side : Side) (x : Exit) → edges_fine c s p ≡ true → exit p side ≡ Some x → edge_fine s x.assigns (sets_at c x.to) ≡ true
exit_fine c s (bind v e n) next x h q = let r : record { to = n; assigns = Some v } ≡ x = cc in subst (λ (y : Exit). edge_fine s y.assigns (sets_at c y.to) ≡ true) r h
exit_fine c s (bind v e n) then x h q = absurd (cc)
exit_fine c s (bind v e n) other x h q = absurd (cc)
exit_fine c s (read v e g t o) next x h q = absurd (cc)
exit_fine c s (read v e g t o) then x h q = let r : record { to = t; assigns = Some v } ≡ x = cc in subst (λ (y : Exit). edge_fine s y.assigns (sets_at c y.to) ≡ true) r (and_parts _ _ h).0
exit_fine c s (read v e g t o) other x h q = let r : record { to = o; assigns = None } ≡ x = cc in subst (λ (y : Exit). edge_fine s y.assigns (sets_at c y.to) ≡ true) r (and_parts _ _ h).1
exit_fine c s (branch e t o) next x h q = absurd (cc)
exit_fine c s (branch e t o) then x h q = let r : record { to = t; assigns = None } ≡ x = cc in subst (λ (y : Exit). edge_fine s y.assigns (sets_at c y.to) ≡ true) r (and_parts _ _ h).0
exit_fine c s (branch e t o) other x h q = let r : record { to = o; assigns = None } ≡ x = cc in subst (λ (y : Exit). edge_fine s y.assigns (sets_at c y.to) ≡ true) r (and_parts _ _ h).1
exit_fine c s (fault k) next x h q = absurd (cc)
exit_fine c s (fault k) then x h q = absurd (cc)
exit_fine c s (fault k) other x h q = absurd (cc)
exit_fine c s (done e k) next x h q = absurd (cc)
exit_fine c s (done e k) then x h q = absurd (cc)
exit_fine c s (done e k) other x h q = absurd (cc)

step_exit_fine : (c : List Sets) (s : Sets) (o : Option ActData) (side : Side) (x : Exit) → ((p : ActData) → o ≡ Some p → edges_fine c s p ≡ true) → step_exit o side ≡ Some x → edge_fine s x.assigns (sets_at c x.to) ≡ true
step_exit_fine c s None side x h q = absurd (cc)
step_exit_fine c s (Some p) side x h q = exit_fine c s p side x (h p refl) q

path_kept : (g : List ActData) (c : List Sets) → ((i : ℕ) (p : ActData) → slice_get g i ≡ Some p → edges_fine c (sets_at c i) p ≡ true) → list_all (λ v. false) (sets_at c 0).sure ≡ true → (p : List Edge) (n : ℕ) → IsPath g p n → Kept (sets_at c n) (assigned_by g p)
path_kept g c f z [] n h = subst (λ k. Kept (sets_at c k) (λ v. false)) (sym h) (record { sure = λ v m. absurd (none_at (sets_at c 0).sure v z m); maybe = λ v m. absurd (false≢true m) })
path_kept g c f z (e ∷ p) n h =
    let x = h.0.0 in
    let q : exit_at g e ≡ Some x = h.0.1 in
    let fine : edge_fine (sets_at c e.node) x.assigns (sets_at c x.to) ≡ true = step_exit_fine c (sets_at c e.node) (slice_get g e.node) e.side x (f e.node) q in
    let kept = edge_kept (sets_at c e.node) (sets_at c x.to) x.assigns (assigned_by g p) fine (path_kept g c f z p e.node h.1) in
    let same : (λ v. is_var x.assigns v || assigned_by g p v) ≡ assigned_by g (e ∷ p) = ap (λ (o : Option Exit). λ v. exit_assigns o v || assigned_by g p v) (sym q) in
    subst (λ a. Kept (sets_at c n) a) same (subst (λ k. Kept (sets_at c k) (λ v. is_var x.assigns v || assigned_by g p v)) h.0.2 kept)

-- ---- places

every_at : {X : Type 0} (f : ℕ → X → Bool) (k : ℕ) (xs : List X) (i : ℕ) (x : X) → every f k xs ≡ true → slice_get xs i ≡ Some x → f (i + k) x ≡ true
every_at f k [] i x h e = absurd (cc)
every_at f k (y ∷ ys) zero x h e = let s : y ≡ x = cc in let z : k ≡ 0 + k = omega arith in subst (λ j. f j x ≡ true) z (subst (λ y. f k y ≡ true) s (and_parts (f k y) _ h).0)
every_at f k (y ∷ ys) (suc i) x h e = let z : i + (k + 1) ≡ suc i + k = omega arith in subst (λ j. f j x ≡ true) z (every_at f (k + 1) ys i x (and_parts (f k y) _ h).1 e)

-- a place that the test passes breaks nothing
no_break : {X : Type 0} (P : X → Type 0) (o : Option X) → ((x : X) → o ≡ Some x → P x → ⊥) → IsSomeAnd o P → ⊥
no_break P None h b = b
no_break P (Some x) h b = h x refl b

not_pair : (a b : Bool) → (a && b) ≡ true → (not (a && b)) ≡ true → ⊥
not_pair a b h k = not_both (a && b) k h

header_ok : (d : ModelData) (c : List Sets) → Certifies d c → (r : ModelRefusal) → Breaks d Header r → ⊥
header_ok d c a NameTwice b = b
header_ok d c a UnknownName b = b
header_ok d c a WidthMismatch b = b
header_ok d c a WidthRange b =
    let p = and_parts (is_word d.word) _ a.header in
    not_both _ b (and_from (is_word d.word) (is_address d.address) p.0 (and_parts (is_address d.address) _ p.1).0)
header_ok d c a BackEdge b = b
header_ok d c a Unassigned b = b
header_ok d c a AssignedTwice b = b
header_ok d c a NoNode b = not_both _ (and_parts (is_address d.address) _ (and_parts (is_word d.word) _ a.header).1).1 b
header_ok d c a TooMany b = b
header_ok d c a TooDeep b = b

name_ok : (limit i : ℕ) (earlier : List Name) (n : Named) (r : ModelRefusal) → names_fine limit earlier i n ≡ true → NameBreaks limit i earlier n r → ⊥
name_ok limit i earlier n NameTwice h b = not_both _ (and_parts _ _ h).0 b
name_ok limit i earlier n UnknownName h b = b
name_ok limit i earlier n WidthMismatch h b = b
name_ok limit i earlier n WidthRange h b = not_both (is_width n.width) b (and_parts (is_width n.width) _ (and_parts _ _ h).1).0
name_ok limit i earlier n BackEdge h b = b
name_ok limit i earlier n Unassigned h b = b
name_ok limit i earlier n AssignedTwice h b = b
name_ok limit i earlier n NoNode h b = b
name_ok limit i earlier n TooMany h b = not_both _ (and_parts (is_width n.width) _ (and_parts _ _ h).1).1 b
name_ok limit i earlier n TooDeep h b = b

-- what the test of a rule says
record RuleFine (s : Scope) (before i : ℕ) (t : Tree) : Type 0 where
  known : not (has_unknown s t) ≡ true
  match : not (has_mismatch s t || differs (tree_width s t) (Some 1)) ≡ true
  range : not (has_bad_range s t) ≡ true
  few : not (nat_le most_rules i || nat_lt most_operators (operators t) || nat_lt most_model_operators (before + operators t)) ≡ true
  deep : not (nat_lt most_depth (depth t)) ≡ true

parts_of_rule : (s : Scope) (before i : ℕ) (t : Tree) → rule_fine s before i t ≡ true → RuleFine s before i t
parts_of_rule s before i t h =
    let a = and_parts _ _ h in
    let b = and_parts _ _ a.1 in
    let c = and_parts _ _ b.1 in
    let e = and_parts _ _ c.1 in
    record { known = a.0; match = b.0; range = c.0; few = e.0; deep = e.1 }

rule_ok : (s : Scope) (i before : ℕ) (t : Tree) (r : ModelRefusal) → RuleFine s before i t → RuleBreaks s i before t r → ⊥
rule_ok s i before t NameTwice f b = b
rule_ok s i before t UnknownName f b = not_both _ f.known b
rule_ok s i before t WidthMismatch f b = not_both _ f.match b
rule_ok s i before t WidthRange f b = not_both _ f.range b
rule_ok s i before t BackEdge f b = b
rule_ok s i before t Unassigned f b = b
rule_ok s i before t AssignedTwice f b = b
rule_ok s i before t NoNode f b = b
rule_ok s i before t TooMany f b = not_both _ f.few b
rule_ok s i before t TooDeep f b = not_both _ f.deep b

-- what the test of a node says
record NodeFine (d : ModelData) (c : List Sets) (i : ℕ) (n : NodeData) : Type 0 where
  name : not (is_named (map (λ m. m.name) (take i d.nodes)) n.name) ≡ true
  known : not (on_tree n.step (has_unknown (node_scope d)) || var_unknown (length d.vars) n.step) ≡ true
  match : not (on_tree n.step (has_mismatch (node_scope d)) || step_mismatch d.word d.address (node_scope d) n.step) ≡ true
  range : not (on_tree n.step (has_bad_range (node_scope d)) || step_range d.word d.address n.step) ≡ true
  back : not (any (targets n.step) (λ t. nat_lt t (length d.nodes) && nat_le t i)) ≡ true
  uses : tree_fine (sets_at c i).sure (tree_in n.step) ≡ true
  again : again_fine (sets_at c i).maybe (assigned n.step) ≡ true
  node : not (any (targets n.step) (λ t. nat_le (length d.nodes) t)) ≡ true
  few : not (nat_le most_nodes i || nat_lt most_reads (count_of is_read (take (i + 1) d.nodes)) || nat_lt most_dones (count_of is_done (take (i + 1) d.nodes)) || nat_lt most_operators (step_operators n.step) || nat_lt most_model_operators (operators_to d (i + 1))) ≡ true
  deep : not (on_tree n.step (λ t. nat_lt most_depth (depth t))) ≡ true
  edges : edges_fine c (sets_at c i) n.step ≡ true

parts_of_node : (d : ModelData) (c : List Sets) (i : ℕ) (n : NodeData) → node_fine d c i n ≡ true → NodeFine d c i n
parts_of_node d c i n h =
    let a = and_parts _ _ h in
    let b = and_parts _ _ a.1 in
    let e = and_parts _ _ b.1 in
    let f = and_parts _ _ e.1 in
    let g = and_parts _ _ f.1 in
    let j = and_parts _ _ g.1 in
    let k = and_parts _ _ j.1 in
    let l = and_parts _ _ k.1 in
    let m = and_parts _ _ l.1 in
    let o = and_parts _ _ m.1 in
    record { name = a.0; known = b.0; match = e.0; range = f.0; back = g.0; uses = j.0; again = k.0; node = l.0; few = m.0; deep = o.0; edges = o.1 }

node_at : (d : ModelData) (c : List Sets) → Certifies d c → (i : ℕ) (n : NodeData) → slice_get d.nodes i ≡ Some n → NodeFine d c i n
node_at d c a i n e = let z : i + 0 ≡ i = omega arith in parts_of_node d c i n (subst (λ j. node_fine d c j n ≡ true) z (every_at (node_fine d c) 0 d.nodes i n a.nodes e))

paths_kept : (d : ModelData) (c : List Sets) → Certifies d c → (p : List Edge) (n : ℕ) → IsPath (steps d) p n → Kept (sets_at c n) (assigned_by (steps d) p)
paths_kept d c a = path_kept (steps d) c (λ i p e. let s = act_at d.nodes i p e in subst (λ q. edges_fine c (sets_at c i) q ≡ true) s.2 (node_at d c a i s.0 s.1).edges) a.start

uses_ok : (d : ModelData) (c : List Sets) → Certifies d c → (i : ℕ) (o : Option Tree) → tree_fine (sets_at c i).sure o ≡ true → UsesLeft (steps d) (length d.vars) i o → ⊥
uses_ok d c a i None h b = b
uses_ok d c a i (Some t) h b =
    let p = b.3 in
    let k = paths_kept d c a p.0 i p.1 in
    false≢true (sym p.2 ∙ k.sure b.0 (used (sets_at c i).sure t b.0 h b.2))

again_ok : (d : ModelData) (c : List Sets) → Certifies d c → (i : ℕ) (o : Option ℕ) → again_fine (sets_at c i).maybe o ≡ true → AssignsAgain (steps d) (length d.vars) i o → ⊥
again_ok d c a i None h b = b
again_ok d c a i (Some v) h b =
    let p = b.1 in
    let k = paths_kept d c a p.0 i p.1 in
    not_both _ h (k.maybe v p.2)

node_ok : (d : ModelData) (c : List Sets) → Certifies d c → (i : ℕ) (n : NodeData) (r : ModelRefusal) → NodeFine d c i n → NodeBreaks d i n r → ⊥
node_ok d c a i n NameTwice f b = not_both _ f.name b
node_ok d c a i n UnknownName f b = not_both _ f.known b
node_ok d c a i n WidthMismatch f b = not_both _ f.match b
node_ok d c a i n WidthRange f b = not_both _ f.range b
node_ok d c a i n BackEdge f b = not_both _ f.back b
node_ok d c a i n Unassigned f b = uses_ok d c a i (tree_in n.step) f.uses b
node_ok d c a i n AssignedTwice f b = again_ok d c a i (assigned n.step) f.again b
node_ok d c a i n NoNode f b = not_both _ f.node b
node_ok d c a i n TooMany f b = not_both _ f.few b
node_ok d c a i n TooDeep f b = not_both _ f.deep b

place : {X : Type 0} (f : ℕ → X → Bool) (xs : List X) → every f 0 xs ≡ true → (P : ℕ → X → Type 0) → ((i : ℕ) (x : X) → f i x ≡ true → P i x → ⊥) → (i : ℕ) → IsSomeAnd (slice_get xs i) (P i) → ⊥
place f xs h P k i b = no_break (P i) (slice_get xs i) (λ x e p. let z : i + 0 ≡ i = omega arith in k i x (subst (λ j. f j x ≡ true) z (every_at f 0 xs i x h e)) p) b

pub certified : (d : ModelData) (c : List Sets) → Certifies d c → IsAccepted d
certified d c a Header r b = header_ok d c a r b
certified d c a (Reg i) r b = place (λ i n. names_fine most_regs (names_of (take i d.regs)) i n) d.regs a.regs (λ i n. NameBreaks most_regs i (names_of (take i d.regs)) n r) (λ i n h p. name_ok most_regs i (names_of (take i d.regs)) n r h p) i b
certified d c a (Input i) r b = place (λ i n. names_fine most_inputs (names_of d.regs ++ names_of (take i d.inputs)) i n) d.inputs a.inputs (λ i n. NameBreaks most_inputs i (names_of d.regs ++ names_of (take i d.inputs)) n r) (λ i n h p. name_ok most_inputs i (names_of d.regs ++ names_of (take i d.inputs)) n r h p) i b
certified d c a (Var i) r b = place (λ i n. names_fine most_vars (names_of d.regs ++ names_of d.inputs ++ names_of (take i d.vars)) i n) d.vars a.vars (λ i n. NameBreaks most_vars i (names_of d.regs ++ names_of d.inputs ++ names_of (take i d.vars)) n r) (λ i n h p. name_ok most_vars i (names_of d.regs ++ names_of d.inputs ++ names_of (take i d.vars)) n r h p) i b
certified d c a (LegalContext i) r b = place (λ i t. rule_fine (context_scope d) (rule_operators (take i d.legal_context)) i t) d.legal_context a.context (λ i t. RuleBreaks (context_scope d) i (rule_operators (take i d.legal_context)) t r) (λ i t h p. rule_ok (context_scope d) i (rule_operators (take i d.legal_context)) t r (parts_of_rule _ _ i t h) p) i b
certified d c a (LegalAccess i) r b = place (λ i t. rule_fine (access_scope d) (rule_operators d.legal_context + rule_operators (take i d.legal_access)) i t) d.legal_access a.access (λ i t. RuleBreaks (access_scope d) i (rule_operators d.legal_context + rule_operators (take i d.legal_access)) t r) (λ i t h p. rule_ok (access_scope d) i (rule_operators d.legal_context + rule_operators (take i d.legal_access)) t r (parts_of_rule _ _ i t h) p) i b
certified d c a (Node i) r b = no_break (λ n. NodeBreaks d i n r) (slice_get d.nodes i) (λ n e p. node_ok d c a i n r (node_at d c a i n e) p) b

-- ---- operands

tree_arities : (t : Tree) → arities_fine t ≡ true → HasArities t
tree_arities (value w n) h = tt
tree_arities (reg i) h = tt
tree_arities (input i) h = tt
tree_arities (var i) h = tt
tree_arities (apply1 op a) h = let p = and_parts (eqb (arity_of op) 1) (arities_fine a) h in (eqb-true (arity_of op) 1 p.0, tree_arities a p.1)
tree_arities (apply2 op a b) h =
    let p = and_parts (eqb (arity_of op) 2) (arities_fine a && arities_fine b) h in
    let q = and_parts (arities_fine a) (arities_fine b) p.1 in
    (eqb-true (arity_of op) 2 p.0, tree_arities a q.0, tree_arities b q.1)
tree_arities (apply3 op a b c) h =
    let p = and_parts (eqb (arity_of op) 3) (arities_fine a && (arities_fine b && arities_fine c)) h in
    let q = and_parts (arities_fine a) (arities_fine b && arities_fine c) p.1 in
    let r = and_parts (arities_fine b) (arities_fine c) q.1 in
    (eqb-true (arity_of op) 3 p.0, tree_arities a q.0, tree_arities b r.0, tree_arities c r.1)

step_arities : (p : ActData) → step_arities_fine (tree_in p) ≡ true → StepArities p
step_arities (bind x e n) h = tree_arities e h
step_arities (read x e g t o) h = tree_arities e h
step_arities (branch e t o) h = tree_arities e h
step_arities (fault c) h = tt
step_arities (done e p) h = tree_arities e h

pub certified_arities : (d : ModelData) (c : List Sets) → Certifies d c → HaveArities d
certified_arities d c a =
    let p = and_parts (list_all arities_fine d.legal_context) _ a.arities in
    let q = and_parts (list_all arities_fine d.legal_access) _ p.1 in
    record {
      context = all_from arities_fine HasArities tree_arities d.legal_context p.0;
      access = all_from arities_fine HasArities tree_arities d.legal_access q.0;
      nodes = all_from (λ n. step_arities_fine (tree_in n.step)) (λ n. StepArities n.step) (λ n h. step_arities n.step h) d.nodes q.1;
    }

-- ---- names

spelled_is : (n : Name) → spelled_fine n ≡ true → IsName n
spelled_is n h =
    let p = and_parts (spells_name (bytes_of n)) (same_name n (padded_name (bytes_of n))) h in
    name_of_spells (bytes_of n) p.0 ∙ ap Some (sym (same_name_is n (padded_name (bytes_of n)) p.1))

pub certified_names : (d : ModelData) (c : List Sets) → Certifies d c → HaveNames d
certified_names d c a =
    let p = and_parts (list_all (λ n. spelled_fine n.name) d.regs) _ a.names in
    let q = and_parts (list_all (λ n. spelled_fine n.name) d.inputs) _ p.1 in
    let r = and_parts (list_all (λ n. spelled_fine n.name) d.vars) _ q.1 in
    record {
      regs = all_from (λ n. spelled_fine n.name) (λ n. IsName n.name) (λ n h. spelled_is n.name h) d.regs p.0;
      inputs = all_from (λ n. spelled_fine n.name) (λ n. IsName n.name) (λ n h. spelled_is n.name h) d.inputs q.0;
      vars = all_from (λ n. spelled_fine n.name) (λ n. IsName n.name) (λ n h. spelled_is n.name h) d.vars r.0;
      nodes = all_from (λ n. spelled_fine n.name) (λ n. IsName n.name) (λ n h. spelled_is n.name h) d.nodes r.1;
    }

pub certified_is : (d : ModelData) → IsCertified d → IsAccepted d
certified_is d c = certified d c.0 c.1

pub certified_has_arities : (d : ModelData) → IsCertified d → HaveArities d
certified_has_arities d c = certified_arities d c.0 c.1

pub certified_has_names : (d : ModelData) → IsCertified d → HaveNames d
certified_has_names d c = certified_names d c.0 c.1
