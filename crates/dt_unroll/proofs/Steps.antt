-- Steps of the code are steps of the definition.
use Rattle.std.proofs.Common.{◌≡◌, ℕ, ◌+◌, ◌<◌, ◌≤◌, List, Option, None, length, get_or, set, replicate, cond, eqb, refl, sym, ap, ◌∙◌, subst, ⊎_elim, add-one, arith}
use mathlib.Core.Path.{fun_ext}
use Rattle.std.proofs.lemmas.List.{get_or-set_same, get_or-set_other, get_or_read, get_or_past, get_or-replicate, length-replicate}
use Rattle.std.proofs.lemmas.Bool.{cases_eq, cases_lt, eq-eqb, ne_eqb, cond-true, cond-false}
use Rattle.dt_lemmas.proofs.Equalities.{three}
use Rattle.dt_bits.specs.declared.op.Op.TheVariants.{Not, Or}
use Rattle.dt_model.specs.ModelData.{Tree, bind, read, branch}
use Rattle.dt_terms.specs.declared.term.Term.{Term}
use Rattle.dt_terms.specs.Problem.{ProblemData}
use Rattle.dt_forms.specs.Placing.{place}
use Rattle.dt_forms.specs.Forms.{form_placed}
use Rattle.dt_table.specs.declared.out.Out.{Out}
use Rattle.dt_table.specs.Expressions.{form_of}
use Rattle.dt_table.specs.Passing.{Access, State, Forked, named, with_terms, join, assign, noted, fork, part, next_word, is_cell, passed}
use Rattle.dt_table.specs.Table.{first_state}
use Rattle.dt_build.specs.Building.{placed_in}
use Rattle.dt_unroll.specs.declared.places.Places.{Places}
use Rattle.dt_unroll.specs.declared.front.Front.{Front}
use Rattle.dt_unroll.specs.Fronts.{named_of, state_of, Goes, Passes}

-- a place that is written
set_at : {X : Type 0} (xs : List X) (i : ℕ) (x d : X) → i < length xs → let f : ℕ → X = λ n. get_or (set xs i x) n d in f ≡ (λ n. cond (eqb n i) x (get_or xs n d))
set_at xs i x d l = fun_ext (λ (n : ℕ).
    ⊎_elim
    (λ (e : n ≡ i). subst (λ k. get_or (set xs i x) k d ≡ cond (eqb k i) x (get_or xs k d)) (sym e) (get_or-set_same xs i x d l ∙ sym (cond-true (eqb i i) x (get_or xs i d) (eq-eqb i i refl))))
    (λ (e : n ≡ i → ⊥). get_or-set_other xs i n x d e ∙ sym (cond-false (eqb n i) x (get_or xs n d) (ne_eqb n i e)))
    (cases_eq n i))

pub join_state : (ts terms : List Term) (vars : ℕ → Option ℕ) (come : List ℕ) (word away to taken before joined none : ℕ) → to < length come → before ≡ get_or come to before
    → joined ≡ (place ts Or before taken 0).at → terms ≡ (place ts Or before taken 0).terms
    → record { terms = terms; vars = vars; come = λ n. get_or (set come to joined) n none; word = word; away = away } ≡ join (record { terms = ts; vars = vars; come = λ n. get_or come n none; word = word; away = away }) to taken
join_state ts terms vars come word away to taken before joined none l b j t =
    let S = λ (x : List Term) (f : ℕ → ℕ). let s : State = record { terms = x; vars = vars; come = f; word = word; away = away } in s in
    let P = λ (k : ℕ). place ts Or k taken 0 in
    let e : before ≡ get_or come to none = get_or_read come to before l b none in
    ap (S terms) (set_at come to joined none l)
    ∙ ap (λ (x : List Term). S x (λ n. cond (eqb n to) joined (get_or come n none))) t
    ∙ ap (λ (k : ℕ). S (P before).terms (λ n. cond (eqb n to) k (get_or come n none))) j
    ∙ ap (λ (k : ℕ). S (P k).terms (λ n. cond (eqb n to) (P k).at (get_or come n none))) e

pub note_state : (ts terms : List Term) (vars : ℕ → Option ℕ) (come : List ℕ) (word old away n before none : ℕ) → n < length come → before ≡ get_or come n before
    → away ≡ (place ts Not before 0 0).at → terms ≡ (place ts Not before 0 0).terms
    → record { terms = terms; vars = vars; come = λ k. get_or come k none; word = word; away = away } ≡ noted (record { terms = ts; vars = vars; come = λ k. get_or come k none; word = word; away = old }) n
note_state ts terms vars come word old away n before none l b j t =
    let S = λ (x : List Term) (k : ℕ). let s : State = record { terms = x; vars = vars; come = λ k. get_or come k none; word = word; away = k } in s in
    let P = λ (k : ℕ). place ts Not k 0 0 in
    ap (λ (x : List Term). S x away) t ∙ ap (S (P before).terms) j ∙ ap (λ (k : ℕ). S (P k).terms (P k).at) (get_or_read come n before l b none)

-- one step after another
pub goes_then : (f g : State → State) (p q r : ProblemData) (a b c : Front) → Goes f p a q b → Goes g q b r c → Goes (λ s. g (f s)) p a r c
goes_then f g p q r a b c h k = record {
  state = λ n. k.state n ∙ ap g (h.state n);
  required = k.required ∙ h.required;
  vars = k.vars ∙ h.vars;
  come = k.come ∙ h.come;
}

-- ---- nodes

-- an expression over the terms of variables
pub record IsPlaced (p : ProblemData) (places : Places) (vars : List (Option ℕ)) (e : Tree) (q : ProblemData) (t : ℕ) : Type 0 where
  pub at : t ≡ (form_placed p.terms (form_of (named_of places vars) e)).at
  pub placed : q ≡ placed_in p (form_placed p.terms (form_of (named_of places vars) e))

pub is_placed : (p q : ProblemData) (places : Places) (vs ws : List (Option ℕ)) (e : Tree) (t : ℕ) → vs ≡ ws → t ≡ (form_placed p.terms (form_of (named_of places vs) e)).at → q ≡ placed_in p (form_placed p.terms (form_of (named_of places vs) e)) → IsPlaced p places ws e q t
is_placed p q places vs ws e t h a b = subst (λ (l : List (Option ℕ)). IsPlaced p places l e q t) h (record { at = a; placed = b })

-- what a fork answers is the fork over terms that are the same
pub fork_is : (ts us terms : List Term) (c d t u by_then by_other : ℕ) → ts ≡ us → c ≡ d → t ≡ u → terms ≡ (fork ts c t).terms → by_then ≡ (fork ts c t).by_then → by_other ≡ (fork ts c t).by_other
    → record { terms = terms; by_then = by_then; by_other = by_other } ≡ fork us d u
fork_is ts us terms c d t u by_then by_other h k l e f g =
    three (λ (xs : List Term) (x y : ℕ). let z : Forked = record { terms = xs; by_then = x; by_other = y } in z) e f g ∙ three fork h k l

pub bind_state : (a : Access) (s s1 s2 s3 : State) (n x to come value : ℕ) (e : Tree) → let v = form_placed s.terms (form_of (named a s) e) in
    s1 ≡ with_terms s v.terms → come ≡ s.come n → value ≡ v.at → s2 ≡ assign s1 x come value → s3 ≡ join s2 to come → s3 ≡ (passed a s n (bind x e to)).state
bind_state a s s1 s2 s3 n x to come value e h c v k l =
    let p = form_placed s.terms (form_of (named a s) e) in
    l ∙ ap (λ (z : State). join z to come) (k ∙ ap (λ (z : State). assign z x come value) h)
    ∙ ap (λ (y : ℕ). join (assign (with_terms s p.terms) x y value) to y) c
    ∙ ap (λ (y : ℕ). join (assign (with_terms s p.terms) x (s.come n) y) to (s.come n)) v

pub branch_state : (a : Access) (s s1 s2 : State) (n t o come value : ℕ) (e : Tree) (f : Forked) → let v = form_placed s.terms (form_of (named a s) e) in
    f ≡ fork v.terms (s.come n) v.at → s1 ≡ with_terms s f.terms → s2 ≡ part s1 t f.by_then o f.by_other → s2 ≡ (passed a s n (branch e t o)).state
branch_state a s s1 s2 n t o come value e f h k l =
    l ∙ ap (λ (z : State). part z t f.by_then o f.by_other) k ∙ ap (λ (g : Forked). part (with_terms s g.terms) t g.by_then o g.by_other) h

pub read_state : (a : Access) (s s1 s2 s3 : State) (n x g t o word : ℕ) (e : Tree) (f : Forked) → let v = form_placed s.terms (form_of (named a s) e) in let c = form_placed v.terms (is_cell a v.at) in
    f ≡ fork c.terms (s.come n) c.at → s1 ≡ next_word (with_terms s f.terms) → word ≡ s.word → s2 ≡ assign s1 x f.by_then word → s3 ≡ part s2 t f.by_then o f.by_other
    → s3 ≡ (passed a s n (read x e g t o)).state
read_state a s s1 s2 s3 n x g t o word e f h k w l m =
    m ∙ ap (λ (z : State). part z t f.by_then o f.by_other) (l ∙ ap (λ (z : State). assign z x f.by_then word) k)
    ∙ ap (λ (y : ℕ). part (assign (next_word (with_terms s f.terms)) x f.by_then y) t f.by_then o f.by_other) w
    ∙ ap (λ (g : Forked). next_word (part (assign (with_terms s g.terms) x g.by_then s.word) t g.by_then o g.by_other)) h

-- the next word
pub bumped : (p q : ProblemData) (x y : Front) (none : ℕ) → y ≡ record x { word = x.word + 1 } → state_of q none y ≡ next_word (with_terms (state_of p none x) q.terms)
bumped p q x y none e =
    ap (λ (z : Front). state_of q none z) e
    ∙ ap (λ (w : ℕ). let s : State = record { terms = q.terms; vars = (state_of p none x).vars; come = (state_of p none x).come; word = w; away = x.away } in s) (add-one x.word)

-- ---- what stands for a node

abbrev nowhere : Access → State → ℕ → Out
nowhere a s n = record { come = s.come n; value = a.zero_term; by_then = a.zero_term; by_other = a.zero_term; word = a.zero_term; away = s.away }

pub bind_out : (a : Access) (s : State) (n x to value : ℕ) (e : Tree) (b : Out) → b ≡ nowhere a s n → value ≡ (form_placed s.terms (form_of (named a s) e)).at
    → record { come = b.come; value = value; by_then = b.come; by_other = b.by_other; word = b.word; away = b.away } ≡ (passed a s n (bind x e to)).out
bind_out a s n x to value e b h k =
    ap (λ (o : Out). let r : Out = record { come = o.come; value = value; by_then = o.come; by_other = o.by_other; word = o.word; away = o.away } in r) h
    ∙ ap (λ (v : ℕ). let r : Out = record { come = s.come n; value = v; by_then = s.come n; by_other = a.zero_term; word = a.zero_term; away = s.away } in r) k

pub branch_out : (a : Access) (s : State) (n t o value : ℕ) (e : Tree) (f : Forked) (b : Out) → let v = form_placed s.terms (form_of (named a s) e) in
    b ≡ nowhere a s n → value ≡ v.at → f ≡ fork v.terms (s.come n) v.at
    → record { come = b.come; value = value; by_then = f.by_then; by_other = f.by_other; word = b.word; away = b.away } ≡ (passed a s n (branch e t o)).out
branch_out a s n t o value e f b h k l =
    ap (λ (o : Out). let r : Out = record { come = o.come; value = value; by_then = f.by_then; by_other = f.by_other; word = o.word; away = o.away } in r) h
    ∙ ap (λ (v : ℕ). let r : Out = record { come = s.come n; value = v; by_then = f.by_then; by_other = f.by_other; word = a.zero_term; away = s.away } in r) k
    ∙ ap (λ (g : Forked). let r : Out = record { come = s.come n; value = (form_placed s.terms (form_of (named a s) e)).at; by_then = g.by_then; by_other = g.by_other; word = a.zero_term; away = s.away } in r) l

pub read_out : (a : Access) (s : State) (n x g t o value word : ℕ) (e : Tree) (f : Forked) (b : Out) → let v = form_placed s.terms (form_of (named a s) e) in let c = form_placed v.terms (is_cell a v.at) in
    b ≡ nowhere a s n → value ≡ v.at → f ≡ fork c.terms (s.come n) c.at → word ≡ s.word
    → record { come = b.come; value = value; by_then = f.by_then; by_other = f.by_other; word = word; away = b.away } ≡ (passed a s n (read x e g t o)).out
read_out a s n x g t o value word e f b h k l m =
    let at = (form_placed s.terms (form_of (named a s) e)).at in
    ap (λ (o : Out). let r : Out = record { come = o.come; value = value; by_then = f.by_then; by_other = f.by_other; word = word; away = o.away } in r) h
    ∙ ap (λ (v : ℕ). let r : Out = record { come = s.come n; value = v; by_then = f.by_then; by_other = f.by_other; word = word; away = s.away } in r) k
    ∙ ap (λ (w : ℕ). let r : Out = record { come = s.come n; value = at; by_then = f.by_then; by_other = f.by_other; word = w; away = s.away } in r) m
    ∙ ap (λ (g : Forked). let r : Out = record { come = s.come n; value = at; by_then = g.by_then; by_other = g.by_other; word = s.word; away = s.away } in r) l

-- a read passes whatever the granule of its table
pub any_granule : (a : Access) (n x g h t o : ℕ) (e : Tree) (p q : ProblemData) (y z : Front) (out : Out) → Passes a n (read x e g t o) p y q z out → Passes a n (read x e h t o) p y q z out
any_granule a n x g h t o e p q y z out k = record { goes = k.goes; out = k.out }

-- ---- before any node

copies_at : {X : Type 0} (n i : ℕ) (x : X) → get_or (replicate n x) i x ≡ x
copies_at n i x = ⊎_elim (λ (l : i < n). get_or-replicate n i x x l) (λ (l : n ≤ i). get_or_past (replicate n x) i x (simp length-replicate l)) (cases_lt i n)

pub none_yet : (n : ℕ) (vars : List (Option ℕ)) → vars ≡ replicate n None → let f : ℕ → Option ℕ = λ v. get_or vars v None in f ≡ (λ _. None)
none_yet n vars e = fun_ext (λ (v : ℕ). ap (λ (l : List (Option ℕ)). get_or l v None) e ∙ copies_at n v None)

pub only_first : (n bottom one : ℕ) (come : List ℕ) → 0 < n → come ≡ replicate n bottom → let f : ℕ → ℕ = λ k. get_or (set come 0 one) k bottom in f ≡ (λ k. cond (eqb k 0) one bottom)
only_first n bottom one come l e =
    let h : 0 < length come = omega (arith, l, ap length e ∙ length-replicate n bottom) in
    set_at come 0 one bottom h ∙ fun_ext (λ (k : ℕ). ap (λ (l : List ℕ). cond (eqb k 0) one (get_or l k bottom)) e ∙ ap (λ x. cond (eqb k 0) one x) (copies_at n k bottom))

pub first_same : (a : Access) (terms : List Term) (vars : ℕ → Option ℕ) (come : ℕ → ℕ) (word : ℕ) → vars ≡ (λ _. None) → come ≡ (λ k. cond (eqb k 0) a.one_term a.zero_term)
    → record { terms = terms; vars = vars; come = come; word = word; away = a.zero_term } ≡ first_state a terms word
first_same a terms vars come word e f =
    ap (λ (v : ℕ → Option ℕ). let s : State = record { terms = terms; vars = v; come = come; word = word; away = a.zero_term } in s) e
    ∙ ap (λ (k : ℕ → ℕ). let s : State = record { terms = terms; vars = λ _. None; come = k; word = word; away = a.zero_term } in s) f
