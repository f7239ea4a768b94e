-- How a walk goes from node to node, whatever the words are: by edges, past no node that it visits, and to one end.
use Rattle.std.proofs.Common.{◌≡◌, ℕ, suc, ◌+◌, ◌<◌, ◌≤◌, Bool, true, false, cond, not, ◌&&◌, ◌||◌, eqb, List, [], ◌∷◌, length, Some, None, ◌⊎◌, inl, inr, refl, sym, ap, ◌∙◌, subst, arith}
use Rattle.std.specs.Prelude.{slice_get}
use Rattle.std.proofs.lemmas.Bool.{eqb-true, eqb-false, eq-eqb, or_left, or_right, false≢true, cases_Bool, and_parts, not-true}
use Rattle.dt_model.specs.ModelData.{ActData, bind, read, branch, fault, done}
use Rattle.dt_request.specs.Lists.{is_fork}
use Rattle.dt_walk.specs.declared.run.End.{End}
use Rattle.dt_walk.specs.declared.run.End.TheVariants.{Done, Fault}
use Rattle.dt_walk.specs.declared.run.ReadMade.{ReadMade}
use Rattle.dt_walk.specs.Meaning.{EnvData, Vars, bound, value_at}
use Rattle.dt_walk.specs.Walks.{RunData, visit, ended, read_of}
use Rattle.dt_satisfy.specs.Demands.{visits, leaves, is_side}
use Rattle.dt_ways.specs.Ends.{is_end}
use Rattle.dt_ways.specs.Ways.{edge_to}
use Rattle.dt_table.proofs.Ends.{EndsBy}
use Rattle.dt_table.proofs.Oracle.{acted_with, walk_with}

-- targets are later nodes
abbrev pub IsOn : ℕ → ℕ → ActData → Type 0
IsOn count n (bind x e to) = (n < to) × (to < count)
IsOn count n (read x e g t o) = (n < t) × (t < count) × (n < o) × (o < count)
IsOn count n (branch e t o) = (n < t) × (t < count) × (n < o) × (o < count)
IsOn count n _ = Unit {0}

abbrev pub AreOn : ℕ → ℕ → List ActData → Type 0
AreOn count n [] = Unit {0}
AreOn count n (p ∷ ps) = IsOn count n p × AreOn count (n + 1) ps

-- the walk goes from node m to node t at once
pub record Hop (all : List ActData) (run : RunData) (m t : ℕ) : Type 0 where
  pub step : ActData
  pub by_then : Bool
  pub at : slice_get all m ≡ Some step
  pub edge : edge_to step by_then ≡ Some t
  pub taken : is_fork step ≡ true → leaves run m by_then ≡ true
  pub here : visits run m ≡ true
  pub there : visits run t ≡ true
  pub rising : m < t
  pub none : (k : ℕ) → m < k → k < t → visits run k ≡ true → ⊥

-- the walk ends at node m
pub record Last (all : List ActData) (run : RunData) (m : ℕ) : Type 0 where
  pub step : ActData
  pub at : slice_get all m ≡ Some step
  pub end_is : is_end step ≡ true
  pub ends : EndsBy step run.end
  pub none : (k : ℕ) → m < k → visits run k ≡ true → ⊥

-- a walk that begins at the node `to`
pub record Walked (all : List ActData) (to : ℕ) (run : RunData) : Type 0 where
  pub first : visits run to ≡ true
  pub later : (k : ℕ) → visits run k ≡ true → to ≤ k
  pub within : (k : ℕ) → visits run k ≡ true → k < length all
  pub seen : (k : ℕ) (b : Bool) → leaves run k b ≡ true → visits run k ≡ true
  pub fork : (k : ℕ) (b : Bool) → leaves run k b ≡ true → (p : ActData) × (slice_get all k ≡ Some p) × (is_fork p ≡ true)
  pub once : (k : ℕ) → leaves run k true ≡ true → leaves run k false ≡ true → ⊥
  pub on : (k : ℕ) → visits run k ≡ true → Last all run k ⊎ ((t : ℕ) × Hop all run k t)
  pub from : (k : ℕ) → visits run k ≡ true → (k ≡ to) ⊎ ((m : ℕ) × Hop all run m k)

-- ---- a hop more

-- a walk with a node before it, which it leaves by this side
abbrev pub hopped : ℕ → Bool → Bool → List ReadMade → RunData → RunData
hopped n fork b reads rest = record { path = n ∷ rest.path; sides = cond fork (record { node = n; by_then = b } ∷ rest.sides) rest.sides; reads = reads; end = rest.end }

or_case : (a b : Bool) → (a || b) ≡ true → (a ≡ true) ⊎ (b ≡ true)
or_case true b h = inl refl
or_case false b h = inr h

leaves_more : (n : ℕ) (fork b : Bool) (reads : List ReadMade) (rest : RunData) (k : ℕ) (c : Bool) → leaves rest k c ≡ true → leaves (hopped n fork b reads rest) k c ≡ true
leaves_more n true b reads rest k c h = or_right (is_side k c (record { node = n; by_then = b })) (leaves rest k c) h
leaves_more n false b reads rest k c h = h

leaves_here : (n : ℕ) (b : Bool) (reads : List ReadMade) (rest : RunData) → leaves (hopped n true b reads rest) n b ≡ true
leaves_here n true reads rest = or_left (is_side n true (record { node = n; by_then = true })) (leaves rest n true) (ap (λ (q : Bool). q && true) (eq-eqb n n refl))
leaves_here n false reads rest = or_left (is_side n false (record { node = n; by_then = false })) (leaves rest n false) (ap (λ (q : Bool). q && true) (eq-eqb n n refl))

-- a side that is left is the one of the first node, or of a later one
leaves_case : (n : ℕ) (fork b : Bool) (reads : List ReadMade) (rest : RunData) (k : ℕ) (c : Bool) → leaves (hopped n fork b reads rest) k c ≡ true → ((n ≡ k) × (b ≡ c) × (fork ≡ true)) ⊎ (leaves rest k c ≡ true)
leaves_case n false b reads rest k c h = inr h
leaves_case n true b reads rest k true h = by_case (or_case (eqb n k && b) (leaves rest k true) h)
  where
    by_case : ((eqb n k && b) ≡ true) ⊎ (leaves rest k true ≡ true) → ((n ≡ k) × (b ≡ true) × (true ≡ true)) ⊎ (leaves rest k true ≡ true)
    by_case (inl e) = let p = and_parts (eqb n k) b e in inl (eqb-true n k p.0, p.1, refl)
    by_case (inr e) = inr e
leaves_case n true b reads rest k false h = by_case (or_case (eqb n k && not b) (leaves rest k false) h)
  where
    by_case : ((eqb n k && not b) ≡ true) ⊎ (leaves rest k false ≡ true) → ((n ≡ k) × (b ≡ false) × (true ≡ true)) ⊎ (leaves rest k false ≡ true)
    by_case (inl e) = let p = and_parts (eqb n k) (not b) e in inl (eqb-true n k p.0, not-true b p.1, refl)
    by_case (inr e) = inr e

seen_case : (n : ℕ) (fork b : Bool) (reads : List ReadMade) (rest : RunData) (k : ℕ) → visits (hopped n fork b reads rest) k ≡ true → (n ≡ k) ⊎ (visits rest k ≡ true)
seen_case n fork b reads rest k h = by_case (or_case (eqb n k) (visits rest k) h)
  where
    by_case : (eqb n k ≡ true) ⊎ (visits rest k ≡ true) → (n ≡ k) ⊎ (visits rest k ≡ true)
    by_case (inl e) = inl (eqb-true n k e)
    by_case (inr e) = inr e

seen_more : (n : ℕ) (fork b : Bool) (reads : List ReadMade) (rest : RunData) (k : ℕ) → visits rest k ≡ true → visits (hopped n fork b reads rest) k ≡ true
seen_more n fork b reads rest k h = or_right (eqb n k) (visits rest k) h

hop_more : (all : List ActData) (n t : ℕ) (fork b : Bool) (reads : List ReadMade) (rest : RunData) → n < t → Walked all t rest → (m k : ℕ) → Hop all rest m k → Hop all (hopped n fork b reads rest) m k
hop_more all n t fork b reads rest l w m k h = record {
  step = h.step;
  by_then = h.by_then;
  at = h.at;
  edge = h.edge;
  taken = λ f. leaves_more n fork b reads rest m h.by_then (h.taken f);
  here = seen_more n fork b reads rest m h.here;
  there = seen_more n fork b reads rest k h.there;
  rising = h.rising;
  none = λ j i u v. between j i u (seen_case n fork b reads rest j v);
}
  where
    between : (j : ℕ) → m < j → j < k → (n ≡ j) ⊎ (visits rest j ≡ true) → ⊥
    between j i u (inl e) = let x = w.later m h.here in absurd (omega (arith, e, i, x, l))
    between j i u (inr e) = h.none j i u e

pub step_walked : (all : List ActData) (n t : ℕ) (p : ActData) (fork b : Bool) (reads : List ReadMade) (rest : RunData) → Walked all t rest → fork ≡ is_fork p → slice_get all n ≡ Some p → n < length all → edge_to p b ≡ Some t → n < t → Walked all n (hopped n fork b reads rest)
step_walked all n t p fork b reads rest w f at there e l = record {
  first = or_left (eqb n n) (visits rest n) (eq-eqb n n refl);
  later = λ k h. by_later k (seen_case n fork b reads rest k h);
  within = λ k h. by_within k (seen_case n fork b reads rest k h);
  seen = λ k c h. by_seen k c (leaves_case n fork b reads rest k c h);
  fork = λ k c h. by_fork k c (leaves_case n fork b reads rest k c h);
  once = λ k h g. by_once k (leaves_case n fork b reads rest k true h) (leaves_case n fork b reads rest k false g);
  on = λ k h. by_on k (seen_case n fork b reads rest k h);
  from = λ k h. by_from k (seen_case n fork b reads rest k h);
}
  where
    by_later : (k : ℕ) → (n ≡ k) ⊎ (visits rest k ≡ true) → n ≤ k
    by_later k (inl q) = omega (arith, q)
    by_later k (inr q) = let x = w.later k q in omega (arith, x, l)

    by_within : (k : ℕ) → (n ≡ k) ⊎ (visits rest k ≡ true) → k < length all
    by_within k (inl q) = omega (arith, q, there)
    by_within k (inr q) = w.within k q

    by_seen : (k : ℕ) (c : Bool) → ((n ≡ k) × (b ≡ c) × (fork ≡ true)) ⊎ (leaves rest k c ≡ true) → visits (hopped n fork b reads rest) k ≡ true
    by_seen k c (inl q) = or_left (eqb n k) (visits rest k) (eq-eqb n k q.0)
    by_seen k c (inr q) = seen_more n fork b reads rest k (w.seen k c q)

    by_fork : (k : ℕ) (c : Bool) → ((n ≡ k) × (b ≡ c) × (fork ≡ true)) ⊎ (leaves rest k c ≡ true) → (x : ActData) × (slice_get all k ≡ Some x) × (is_fork x ≡ true)
    by_fork k c (inl q) = (p, subst (λ (m : ℕ). slice_get all m ≡ Some p) q.0 at, sym f ∙ q.2)
    by_fork k c (inr q) = w.fork k c q

    by_once : (k : ℕ) → ((n ≡ k) × (b ≡ true) × (fork ≡ true)) ⊎ (leaves rest k true ≡ true) → ((n ≡ k) × (b ≡ false) × (fork ≡ true)) ⊎ (leaves rest k false ≡ true) → ⊥
    by_once k (inl q) (inl r) = false≢true (sym r.1 ∙ q.1)
    by_once k (inl q) (inr r) = let x = w.later k (w.seen k false r) in let y = q.0 in absurd (omega (arith, y, x, l))
    by_once k (inr q) (inl r) = let x = w.later k (w.seen k true q) in let y = r.0 in absurd (omega (arith, y, x, l))
    by_once k (inr q) (inr r) = w.once k q r

    none_between : (k : ℕ) → n < k → k < t → (n ≡ k) ⊎ (visits rest k ≡ true) → ⊥
    none_between k i u (inl q) = absurd (omega (arith, i, q))
    none_between k i u (inr q) = let x = w.later k q in absurd (omega (arith, x, u))

    hop_here : Hop all (hopped n fork b reads rest) n t
    hop_here = record {
      step = p;
      by_then = b;
      at = at;
      edge = e;
      taken = λ g. subst (λ (c : Bool). leaves (hopped n c b reads rest) n b ≡ true) (sym (f ∙ g)) (leaves_here n b reads rest);
      here = or_left (eqb n n) (visits rest n) (eq-eqb n n refl);
      there = seen_more n fork b reads rest t w.first;
      rising = l;
      none = λ k i u v. none_between k i u (seen_case n fork b reads rest k v);
    }

    last_more : (k : ℕ) → n < k → Last all rest k → Last all (hopped n fork b reads rest) k
    last_more k i h = record { step = h.step; at = h.at; end_is = h.end_is; ends = h.ends; none = λ j u v. after j u (seen_case n fork b reads rest j v) }
      where
        after : (j : ℕ) → k < j → (n ≡ j) ⊎ (visits rest j ≡ true) → ⊥
        after j u (inl q) = absurd (omega (arith, q, u, i))
        after j u (inr q) = h.none j u q

    on_more : (k : ℕ) → n < k → Last all rest k ⊎ ((j : ℕ) × Hop all rest k j) → Last all (hopped n fork b reads rest) k ⊎ ((j : ℕ) × Hop all (hopped n fork b reads rest) k j)
    on_more k i (inl h) = inl (last_more k i h)
    on_more k i (inr h) = inr (h.0, hop_more all n t fork b reads rest l w k h.0 h.1)

    by_on : (k : ℕ) → (n ≡ k) ⊎ (visits rest k ≡ true) → Last all (hopped n fork b reads rest) k ⊎ ((j : ℕ) × Hop all (hopped n fork b reads rest) k j)
    by_on k (inl q) = inr (t, subst (λ (m : ℕ). Hop all (hopped n fork b reads rest) m t) q hop_here)
    by_on k (inr q) = let x = w.later k q in on_more k (omega (arith, x, l)) (w.on k q)

    from_more : (k : ℕ) → (k ≡ t) ⊎ ((m : ℕ) × Hop all rest m k) → (k ≡ n) ⊎ ((m : ℕ) × Hop all (hopped n fork b reads rest) m k)
    from_more k (inl q) = inr (n, subst (λ (m : ℕ). Hop all (hopped n fork b reads rest) n m) (sym q) hop_here)
    from_more k (inr h) = inr (h.0, hop_more all n t fork b reads rest l w h.0 k h.1)

    by_from : (k : ℕ) → (n ≡ k) ⊎ (visits rest k ≡ true) → (k ≡ n) ⊎ ((m : ℕ) × Hop all (hopped n fork b reads rest) m k)
    by_from k (inl q) = inl (sym q)
    by_from k (inr q) = from_more k (w.from k q)

-- ---- the end

end_walked : (all : List ActData) (n : ℕ) (p : ActData) (e : End) → slice_get all n ≡ Some p → n < length all → is_end p ≡ true → EndsBy p e → Walked all n (ended n e)
end_walked all n p e at there i h = record {
  first = or_left (eqb n n) false (eq-eqb n n refl);
  later = λ k v. omega (arith, same k v);
  within = λ k v. omega (arith, same k v, there);
  seen = λ k b v. absurd (false≢true v);
  fork = λ k b v. absurd (false≢true v);
  once = λ k v u. false≢true v;
  on = λ k v. inl (subst (λ (m : ℕ). Last all (ended n e) m) (same k v) (record { step = p; at = at; end_is = i; ends = h; none = λ j u w. let x = same j w in absurd (omega (arith, x, u)) }));
  from = λ k v. inl (sym (same k v));
}
  where
    by_case : (k : ℕ) → (eqb n k ≡ true) ⊎ (false ≡ true) → n ≡ k
    by_case k (inl q) = eqb-true n k q
    by_case k (inr q) = absurd (false≢true q)

    same : (k : ℕ) → visits (ended n e) k ≡ true → n ≡ k
    same k v = by_case k (or_case (eqb n k) false v)

-- ---- the whole walk

acted_walked : (s : EnvData) (cells : ℕ → Bool) (all : List ActData) (u n : ℕ) (p : ActData) (go : ℕ → Vars → RunData) (vars : Vars) → slice_get all n ≡ Some p → n < length all → IsOn (length all) n p
    → ((to : ℕ) (vars2 : Vars) → n + 1 ≤ to → to < length all → Walked all to (go to vars2)) → Walked all n (acted_with s cells u n p go vars)
acted_walked s cells all u n (bind x e to) go vars at there on ih =
    let vars2 = bound vars x (value_at s vars e).bits in
    step_walked all n to (bind x e to) false true (go to vars2).reads (go to vars2) (ih to vars2 (omega (arith, on.0)) on.1) refl at there refl on.0
acted_walked s cells all u n (read x e g t o) go vars at there on ih = by_word (cells (value_at s vars e).bits)
  where
    by_word : (c : Bool) → Walked all n (visit n (read_of (cond c (Some u) None) n (value_at s vars e).bits x t o go vars))
    by_word true = step_walked all n t (read x e g t o) true true (record { node = n; cell = (value_at s vars e).bits; word = u } ∷ (go t (bound vars x u)).reads) (go t (bound vars x u)) (ih t (bound vars x u) (omega (arith, on.0)) on.1) refl at there refl on.0
    by_word false = step_walked all n o (read x e g t o) true false (go o vars).reads (go o vars) (ih o vars (omega (arith, on.2)) on.3) refl at there refl on.2
acted_walked s cells all u n (branch e t o) go vars at there on ih = by_test (eqb (value_at s vars e).bits 1)
  where
    by_test : (c : Bool) → Walked all n (hopped n true c (go (cond c t o) vars).reads (go (cond c t o) vars))
    by_test true = step_walked all n t (branch e t o) true true (go t vars).reads (go t vars) (ih t vars (omega (arith, on.0)) on.1) refl at there refl on.0
    by_test false = step_walked all n o (branch e t o) true false (go o vars).reads (go o vars) (ih o vars (omega (arith, on.2)) on.3) refl at there refl on.2
acted_walked s cells all u n (fault c) go vars at there on ih = end_walked all n (fault c) (Fault n c) at there refl refl
acted_walked s cells all u n (done e p) go vars at there on ih = end_walked all n (done e p) (Done n (value_at s vars e).bits p) at there refl refl

pub walk_walked : (s : EnvData) (cells : ℕ → Bool) (all : List ActData) (us : List ℕ) (ps : List ActData) (n to : ℕ) (vars : Vars) → AreOn (length all) n ps → ((k : ℕ) (p : ActData) → slice_get ps k ≡ Some p → slice_get all (n + k) ≡ Some p)
    → n + length ps ≡ length all → length us ≡ length ps → n ≤ to → to < length all → Walked all to (walk_with s cells us ps n to vars)
walk_walked s cells all us [] n to vars on at c e l b = absurd (omega (arith, b, l, c))
walk_walked s cells all [] (p ∷ ps) n to vars on at c e l b = absurd (omega (arith, e))
walk_walked s cells all (u ∷ us) (p ∷ ps) n to vars on at c e l b =
    by_place (cases_Bool (eqb n to)) (λ to2 vars2 l2 b2. walk_walked s cells all us ps (n + 1) to2 vars2 on.1 (λ k q i. let z : n + suc k ≡ n + 1 + k = omega arith in subst (λ (j : ℕ). slice_get all j ≡ Some q) z (at (suc k) q i)) (omega (arith, c)) (omega (arith, e)) l2 b2)
  where
    by_place : (eqb n to ≡ true) ⊎ (eqb n to ≡ false) → ((to2 : ℕ) (vars2 : Vars) → n + 1 ≤ to2 → to2 < length all → Walked all to2 (walk_with s cells us ps (n + 1) to2 vars2))
        → Walked all to (cond (eqb n to) (acted_with s cells u n p (walk_with s cells us ps (n + 1)) vars) (walk_with s cells us ps (n + 1) to vars))
    by_place (inl q) ih =
        let same = eqb-true n to q in
        let z : n + 0 ≡ n = omega arith in
        let here : slice_get all n ≡ Some p = subst (λ (j : ℕ). slice_get all j ≡ Some p) z (at 0 p refl) in
        let made = acted_walked s cells all u n p (walk_with s cells us ps (n + 1)) vars here (omega (arith, same, b)) on.0 ih in
        subst (λ (c : Bool). Walked all to (cond c (acted_with s cells u n p (walk_with s cells us ps (n + 1)) vars) (walk_with s cells us ps (n + 1) to vars))) (sym q)
        (subst (λ (j : ℕ). Walked all j (acted_with s cells u n p (walk_with s cells us ps (n + 1)) vars)) same made)
    by_place (inr q) ih =
        let ne = eqb-false n to q in
        subst (λ (c : Bool). Walked all to (cond c (acted_with s cells u n p (walk_with s cells us ps (n + 1)) vars) (walk_with s cells us ps (n + 1) to vars))) (sym q)
        (ih to vars (omega (arith, l, ne)) b)
