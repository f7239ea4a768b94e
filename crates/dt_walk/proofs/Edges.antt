-- A walk of an accepted model goes by a path of it.
use Rattle.std.proofs.Common.{◌≡◌, ℕ, suc, ◌+◌, ◌<◌, ◌≤◌, Bool, true, false, ◌||◌, eqb, List, [], ◌∷◌, ◌++◌, Option, Some, None, length, map, refl, sym, ap, ◌∙◌, subst, arith, ⊎_elim}
use Rattle.std.specs.Prelude.{slice_get}
use Rattle.std.specs.List.{AllByRecursion}
use Rattle.std.proofs.lemmas.Bool.{eqb-true, eqb-false, or_parts, or_cases, false≢true, true_from_ne_false, leb-false}
use Rattle.std.proofs.lemmas.List.{length-map, map-append}
use Rattle.dt_lemmas.proofs.Lists.{AllByRecursion-append}
use Rattle.dt_lemmas.proofs.Booleans.{chosen}
use Rattle.dt_bits.specs.Memory.{Memory, word_of}
use Rattle.dt_model.specs.ModelData.{ModelData, Tree, value, reg, input, var, apply1, apply2, apply3, ActData, bind, read, branch, fault, done}
use Rattle.dt_model.specs.Paths.{Side, next, then, other, Exit, Edge, step_exit, IsPath, assigned_by}
use Rattle.dt_model.specs.Widths.{Scope, has_unknown, uses}
use Rattle.dt_model.specs.Faults.{IsAccepted, UsesLeft, node_scope, on_tree, var_unknown, steps, tree_in}
use Rattle.dt_model.specs.declared.refusal.ModelRefusal.TheVariants.{Unassigned}
use Rattle.dt_model.proofs.Nodes.{act_at}
use Rattle.dt_model.proofs.Accepting.{some_nodes}
use Rattle.dt_walk.specs.declared.run.End.{End}
use Rattle.dt_walk.specs.declared.run.End.TheVariants.{Done, Fault}
use Rattle.dt_walk.specs.declared.run.ReadMade.{ReadMade}
use Rattle.dt_walk.specs.Meaning.{EnvData, env_of, Vars, unbound, bound, value_at}
use Rattle.dt_walk.specs.Walks.{RunData, visit, ended, read_of, branch_of, acted, walk_from}
use Rattle.dt_walk.specs.Sound.{IsSound, IsLater}
use Rattle.dt_walk.specs.Edges.{side_listed, sides_listed, read_listed, reads_listed, laid, Rise, EndsAs, IsRead, AreUsesAssigned, AreAssignedBefore, WalksGoByPaths}
use Rattle.dt_walk.proofs.Sound.{fine, clean, accepted_sound}

-- ---- each node leads to later ones

abbrev LeadsLater : ℕ → ℕ → ActData → Type 0
LeadsLater count i (bind x e to) = IsLater count i to
LeadsLater count i (read x e g t o) = IsLater count i t × IsLater count i o
LeadsLater count i (branch e t o) = IsLater count i t × IsLater count i o
LeadsLater count i (fault c) = Unit {0}
LeadsLater count i (done e p) = Unit {0}

leads_later : (s : Scope) (w count i : ℕ) (p : ActData) → IsSound s w count i p → LeadsLater count i p
leads_later s w count i (bind x e to) h = h.1
leads_later s w count i (read x e g t o) h = (h.3, h.4)
leads_later s w count i (branch e t o) h = (h.2, h.3)
leads_later s w count i (fault c) h = tt
leads_later s w count i (done e p) h = tt

-- ---- a run from a node on, past the edges before

record Goes (g : List ActData) (before : List Edge) (from : ℕ) (run : RunData) : Type 0 where
  edges : List Edge
  to : ℕ
  path : IsPath g (laid edges before) to
  nodes : run.path ≡ map (λ e. e.node) edges ++ to ∷ []
  sides : run.sides ≡ sides_listed edges
  rise : Rise from run.path
  exist : AllByRecursion (λ n. n < length g) run.path
  end : EndsAs (slice_get g to) to run.end
  reads : map (λ m. m.node) run.reads ≡ reads_listed g edges
  at_reads : AllByRecursion (λ m. IsRead (slice_get g m.node)) run.reads

rise_from : (low from : ℕ) (ns : List ℕ) → low ≤ from → Rise from ns → Rise low ns
rise_from low from [] l h = tt
rise_from low from (n ∷ ns) l h = (omega (arith, h.0), h.1)

-- a node is left by a side, and has made these reads
abbrev went : ℕ → Side → List ReadMade → RunData → RunData
went n side ms r = record { path = n ∷ r.path; sides = side_listed n side ++ r.sides; reads = ms ++ r.reads; end = r.end }

-- these are the reads that an edge makes
record Lists (g : List ActData) (n : ℕ) (side : Side) (ms : List ReadMade) : Type 0 where
  nodes : map (λ m. m.node) ms ≡ read_listed (slice_get g n) n side
  at_reads : AllByRecursion (λ m. IsRead (slice_get g m.node)) ms

goes_on : (g : List ActData) (before : List Edge) (n to : ℕ) (side : Side) (ms : List ReadMade) (run : RunData) → n < to → n < length g → Lists g n side ms → Goes g (record { node = n; side = side } ∷ before) to run → Goes g before n (went n side ms run)
goes_on g before n to side ms run l w r h = record {
  edges = record { node = n; side = side } ∷ h.edges;
  to = h.to;
  path = h.path;
  nodes = ap (λ (ns : List ℕ). n ∷ ns) h.nodes;
  sides = ap (λ ss. side_listed n side ++ ss) h.sides;
  rise = (omega arith, rise_from (n + 1) to run.path (omega arith) h.rise);
  exist = (w, h.exist);
  end = h.end;
  reads = map-append (λ m. m.node) ms run.reads ∙ ap (λ (ns : List ℕ). ns ++ map (λ m. m.node) run.reads) r.nodes ∙ ap (λ (ns : List ℕ). read_listed (slice_get g n) n side ++ ns) h.reads;
  at_reads = AllByRecursion-append (λ m. IsRead (slice_get g m.node)) ms run.reads r.at_reads h.at_reads;
}

no_reads : (g : List ActData) (n : ℕ) (p : ActData) (side : Side) → slice_get g n ≡ Some p → read_listed (Some p) n side ≡ [] → Lists g n side []
no_reads g n p side at e = record { nodes = sym (ap (λ (o : Option ActData). read_listed o n side) at ∙ e); at_reads = tt }

stops : (g : List ActData) (before : List Edge) (n : ℕ) (e : End) → n < length g → IsPath g before n → EndsAs (slice_get g n) n e → Goes g before n (ended n e)
stops g before n e l h k = record {
  edges = [];
  to = n;
  path = h;
  nodes = refl;
  sides = refl;
  rise = (omega arith, tt);
  exist = (l, tt);
  end = k;
  reads = refl;
  at_reads = tt;
}

-- from each later node the walk goes by a path, whatever edge leads there
abbrev GoesFrom : List ActData → List Edge → ℕ → (ℕ → Vars → RunData) → Type 0
GoesFrom g before n go = (side : Side) (to : ℕ) (vars : Vars) → IsPath g (record { node = n; side = side } ∷ before) to → n < to → to < length g → Goes g (record { node = n; side = side } ∷ before) to (go to vars)

-- an edge of this act
edge_path : (g : List ActData) (before : List Edge) (n : ℕ) (p : ActData) (side : Side) (x : Exit) → slice_get g n ≡ Some p → step_exit (Some p) side ≡ Some x → n < x.to → IsPath g before n → IsPath g (record { node = n; side = side } ∷ before) x.to
edge_path g before n p side x at e l h = ((x, ap (λ (o : Option ActData). step_exit o side) at ∙ e, refl, l), h)

one_edge : (g : List ActData) (before : List Edge) (n to : ℕ) (p : ActData) (side : Side) (assigns : Option ℕ) (ms : List ReadMade) (go : ℕ → Vars → RunData) (vars : Vars) → slice_get g n ≡ Some p → step_exit (Some p) side ≡ Some (record { to = to; assigns = assigns }) → Lists g n side ms → IsLater (length g) n to → n < length g → IsPath g before n → GoesFrom g before n go → Goes g before n (went n side ms (go to vars))
one_edge g before n to p side assigns ms go vars at e r l w h k =
    goes_on g before n to side ms (go to vars) l.0 w r (k side to vars (edge_path g before n p side (record { to = to; assigns = assigns }) at e l.0 h) l.0 l.1)

read_goes : (g : List ActData) (before : List Edge) (n x granule t o cell : ℕ) (e : Tree) (word : Option ℕ) (go : ℕ → Vars → RunData) (vars : Vars) → slice_get g n ≡ Some (read x e granule t o) → IsLater (length g) n t → IsLater (length g) n o → n < length g → IsPath g before n → GoesFrom g before n go → Goes g before n (visit n (read_of word n cell x t o go vars))
read_goes g before n x granule t o cell e None go vars at l m w h k = one_edge g before n o (read x e granule t o) other None [] go vars at refl (no_reads g n (read x e granule t o) other at refl) m w h k
read_goes g before n x granule t o cell e (Some word) go vars at l m w h k =
    one_edge g before n t (read x e granule t o) then (Some x) (record { node = n; cell = cell; word = word } ∷ []) go (bound vars x word) at refl (record {
      nodes = sym (ap (λ (a : Option ActData). read_listed a n then) at);
      at_reads = (subst IsRead (sym at) tt, tt);
    }) l w h k

branch_goes : (g : List ActData) (before : List Edge) (n t o : ℕ) (e : Tree) (b : Bool) (go : ℕ → Vars → RunData) (vars : Vars) → slice_get g n ≡ Some (branch e t o) → IsLater (length g) n t → IsLater (length g) n o → n < length g → IsPath g before n → GoesFrom g before n go → Goes g before n (visit n (branch_of b n t o go vars))
branch_goes g before n t o e true go vars at l m w h k = one_edge g before n t (branch e t o) then None [] go vars at refl (no_reads g n (branch e t o) then at refl) l w h k
branch_goes g before n t o e false go vars at l m w h k = one_edge g before n o (branch e t o) other None [] go vars at refl (no_reads g n (branch e t o) other at refl) m w h k

acted_goes : (s : EnvData) (m : Memory) (g : List ActData) (before : List Edge) (n : ℕ) (p : ActData) (go : ℕ → Vars → RunData) (vars : Vars) → slice_get g n ≡ Some p → LeadsLater (length g) n p → n < length g → IsPath g before n → GoesFrom g before n go → Goes g before n (acted s m n p go vars)
acted_goes s m g before n (bind x e to) go vars at l w h k = one_edge g before n to (bind x e to) next (Some x) [] go (bound vars x (value_at s vars e).bits) at refl (no_reads g n (bind x e to) next at refl) l w h k
acted_goes s m g before n (read x e granule t o) go vars at l w h k = read_goes g before n x granule t o (value_at s vars e).bits e (word_of m (value_at s vars e).bits) go vars at l.0 l.1 w h k
acted_goes s m g before n (branch e t o) go vars at l w h k = branch_goes g before n t o e (eqb (value_at s vars e).bits 1) go vars at l.0 l.1 w h k
acted_goes s m g before n (fault c) go vars at l w h k = stops g before n (Fault n c) w h (subst (λ (a : Option ActData). EndsAs a n (Fault n c)) (sym at) refl)
acted_goes s m g before n (done e page) go vars at l w h k = stops g before n (Done n (value_at s vars e).bits page) w h (subst (λ (a : Option ActData). EndsAs a n (Done n (value_at s vars e).bits page)) (sym at) ((value_at s vars e).bits, refl))

-- the steps are those of the graph from a node on, and each leads to later ones
record Rest (g : List ActData) (ps : List ActData) (at : ℕ) : Type 0 where
  same : (k : ℕ) → slice_get ps k ≡ slice_get g (k + at)
  count : at + length ps ≡ length g
  later : (i : ℕ) (p : ActData) → slice_get g i ≡ Some p → LeadsLater (length g) i p

rest_of : (g : List ActData) (p : ActData) (ps : List ActData) (at : ℕ) → Rest g (p ∷ ps) at → Rest g ps (at + 1)
rest_of g p ps at h = record {
  same = λ k. let e : suc k + at ≡ k + (at + 1) = omega arith in h.same (suc k) ∙ ap (slice_get g) e;
  count = omega (arith, h.count);
  later = h.later;
}

walk_goes : (s : EnvData) (m : Memory) (g : List ActData) (ps : List ActData) (at to : ℕ) (vars : Vars) (before : List Edge) → Rest g ps at → at ≤ to → to < length g → IsPath g before to → Goes g before to (walk_from s m ps at to vars)
walk_goes s m g [] at to vars before r l w h = absurd (omega (arith, r.count))
walk_goes s m g (p ∷ ps) at to vars before r l w h =
    chosen (Goes g before to) (eqb at to) (acted s m at p (walk_from s m ps (at + 1)) vars) (walk_from s m ps (at + 1) to vars)
    (λ e. let same : at ≡ to = eqb-true at to e in
    let none : 0 + at ≡ at = omega arith in
    let here : slice_get g at ≡ Some p = ap (slice_get g) (sym none) ∙ sym (r.same 0) in
    subst (λ n. Goes g before n (acted s m at p (walk_from s m ps (at + 1)) vars)) same
    (acted_goes s m g before at p (walk_from s m ps (at + 1)) vars here (r.later at p here) (omega (arith, same)) (subst (IsPath g before) (sym same) h)
    (λ side n v q a b. walk_goes s m g ps (at + 1) n v (record { node = at; side = side } ∷ before) (rest_of g p ps at r) (omega arith) b q)))
    (λ e. let not_here : at ≡ to → ⊥ = eqb-false at to e in
    walk_goes s m g ps (at + 1) to vars before (rest_of g p ps at r) (omega arith) w h)

-- ---- variables

uses_known : (t : Tree) (s : Scope) (v : ℕ) → has_unknown s t ≡ false → uses t v ≡ true → v < length s.vars
uses_known (value w n) s v h u = absurd (false≢true u)
uses_known (reg i) s v h u = absurd (false≢true u)
uses_known (input i) s v h u = absurd (false≢true u)
uses_known (var i) s v h u = let l : i < length s.vars = leb-false (length s.vars) i h in subst (λ k. k < length s.vars) (eqb-true i v u) l
uses_known (apply1 op a) s v h u = uses_known a s v h u
uses_known (apply2 op a b) s v h u =
    let p = or_parts (has_unknown s a) (has_unknown s b) h in
    ⊎_elim (λ (e : uses a v ≡ true). uses_known a s v p.0 e) (λ (e : uses b v ≡ true). uses_known b s v p.1 e) (or_cases (uses a v) (uses b v) u)
uses_known (apply3 op a b c) s v h u =
    let p = or_parts (has_unknown s a) (has_unknown s b || has_unknown s c) h in
    let q = or_parts (has_unknown s b) (has_unknown s c) p.1 in
    ⊎_elim (λ (e : uses a v ≡ true). uses_known a s v p.0 e)
    (λ (r : (uses b v || uses c v) ≡ true). ⊎_elim (λ (e : uses b v ≡ true). uses_known b s v q.0 e) (λ (e : uses c v ≡ true). uses_known c s v q.1 e) (or_cases (uses b v) (uses c v) r))
    (or_cases (uses a v) (uses b v || uses c v) u)

act_known : (d : ModelData) (p : ActData) (t : Tree) (v : ℕ) → (on_tree p (has_unknown (node_scope d)) || var_unknown (length d.vars) p) ≡ false → tree_in p ≡ Some t → uses t v ≡ true → v < length d.vars
act_known d (bind x e to) t v h at u = let s : e ≡ t = cc in uses_known t (node_scope d) v (subst (λ y. has_unknown (node_scope d) y ≡ false) s (or_parts (has_unknown (node_scope d) e) _ h).0) u
act_known d (read x e g i o) t v h at u = let s : e ≡ t = cc in uses_known t (node_scope d) v (subst (λ y. has_unknown (node_scope d) y ≡ false) s (or_parts (has_unknown (node_scope d) e) _ h).0) u
act_known d (branch e i o) t v h at u = let s : e ≡ t = cc in uses_known t (node_scope d) v (subst (λ y. has_unknown (node_scope d) y ≡ false) s (or_parts (has_unknown (node_scope d) e) _ h).0) u
act_known d (fault c) t v h at u = absurd (cc)
act_known d (done e page) t v h at u = let s : e ≡ t = cc in uses_known t (node_scope d) v (subst (λ y. has_unknown (node_scope d) y ≡ false) s (or_parts (has_unknown (node_scope d) e) _ h).0) u

used_assigned : (d : ModelData) → IsAccepted d → (before : List Edge) (n : ℕ) (o : Option ActData) → slice_get (steps d) n ≡ o → IsPath (steps d) before n → AreUsesAssigned (steps d) before o
used_assigned d a before n None at h = tt
used_assigned d a before n (Some p) at h =
    let x = act_at d.nodes n p at in
    λ t v e u.
    let e' : tree_in x.0.step ≡ Some t = ap tree_in x.2 ∙ e in
    let k : v < length d.vars = act_known d x.0.step t v (clean d n x.0 a x.1).known e' u in
    true_from_ne_false (assigned_by (steps d) before v) (λ none. fine d n x.0 a x.1 Unassigned (subst (UsesLeft (steps d) (length d.vars) n) (sym e') (v, k, u, (before, h, none))))

all_assigned : (d : ModelData) → IsAccepted d → (before : List Edge) (n : ℕ) → IsPath (steps d) before n → AreAssignedBefore (steps d) before n
all_assigned d a [] n h = used_assigned d a [] n (slice_get (steps d) n) refl h
all_assigned d a (e ∷ before) n h = (used_assigned d a (e ∷ before) n (slice_get (steps d) n) refl h, all_assigned d a before e.node h.1)

-- ---- the law

pub walks_go_by_paths : WalksGoByPaths
walks_go_by_paths d regs inputs memory a ar =
    let g = steps d in
    let rest : Rest g g 0 = record {
      same = λ k. let e : k ≡ k + 0 = omega arith in ap (slice_get g) e;
      count = omega arith;
      later = λ i p at. leads_later (node_scope d) d.word (length g) i p (accepted_sound d a ar i p at);
    } in
    let some : 0 < length g = omega (arith, some_nodes d a, length-map d.nodes (λ n. n.step)) in
    let w = walk_goes (env_of d regs inputs) memory g g 0 0 unbound [] rest (omega arith) some refl in
    record {
      edges = w.edges;
      to = w.to;
      path = w.path;
      nodes = w.nodes;
      sides = w.sides;
      rise = w.rise;
      exist = w.exist;
      end = w.end;
      assigned = all_assigned d a (laid w.edges []) w.to w.path;
      reads = w.reads;
      at_reads = w.at_reads;
    }
