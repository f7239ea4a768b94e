-- Contexts and accesses, one after another.
use Rattle.std.proofs.Common.{◌≡◌, ℕ, suc, ◌+◌, ◌-◌, ◌<◌, ◌≤◌, List, [], ◌∷◌, ◌++◌, length, get_or, drop, map, sym, ap, ◌∙◌, arith}
use Rattle.std.specs.Prelude.{Result, Ok, Err, IfOk, OnOk}
use Rattle.std.proofs.lemmas.List.{drop_more, drop_all}
use Rattle.dt_lemmas.proofs.Equalities.{two, three}
use Rattle.dt_model.specs.ModelData.{ModelData, ActData}
use Rattle.dt_model.specs.Widths.{Scope}
use Rattle.dt_model.specs.Faults.{context_scope, access_scope, node_scope, steps}
use Rattle.dt_request.specs.declared.list.AccessWish.{AccessWish}
use Rattle.dt_request.specs.declared.list.Requests.{Requests}
use Rattle.dt_terms.specs.declared.term.Term.{Term}
use Rattle.dt_terms.specs.Problem.{ProblemData}
use Rattle.dt_table.specs.declared.out.Out.{Out}
use Rattle.dt_table.specs.Expressions.{form_of}
use Rattle.dt_table.specs.Passing.{Access, State, walk_placed}
use Rattle.dt_table.specs.Table.{Built, align_of, choices, regs_at, inputs_at, rule_named, first_state, contexts_built, access_built, accesses_built}
use Rattle.dt_build.specs.Building.{demanded}
use Rattle.dt_unroll.specs.Building.{built_of, access_at, walk_at}

-- ---- contexts

pub contexts_more : (d : ModelData) (p q : ProblemData) (n c t : ℕ) (w : Built) → c < n → q ≡ demanded p (map (form_of (rule_named (context_scope d) t 0)) d.legal_context) → t ≡ regs_at d c
    → contexts_built d (built_of p []) (n - c) c ≡ w → contexts_built d (built_of q []) (n - (c + 1)) (c + 1) ≡ w
contexts_more d p q n c t w l h k i =
    let e : n - c ≡ suc (n - (c + 1)) = omega arith in
    ap (λ (z : ProblemData). contexts_built d (built_of z []) (n - (c + 1)) (c + 1)) (h ∙ ap (λ (j : ℕ). demanded p (map (form_of (rule_named (context_scope d) j 0)) d.legal_context)) k)
    ∙ sym (ap (λ (j : ℕ). contexts_built d (built_of p []) j c) e)
    ∙ i

pub contexts_none : (d : ModelData) (b : Built) (n c : ℕ) (w : Built) → n ≤ c → contexts_built d b (n - c) c ≡ w → b ≡ w
contexts_none d b n c w l h = let e : n - c ≡ 0 = omega arith in sym (ap (λ (j : ℕ). contexts_built d b j c) e) ∙ h

-- ---- accesses

pub accesses_more : (d : ModelData) (r : Requests) (p q : ProblemData) (outs : List (List Out)) (o : List Out) (xs : List AccessWish) (i : ℕ) (x : AccessWish) (w : Built) → i < length xs → x ≡ get_or xs i x
    → built_of q (outs ++ o ∷ []) ≡ access_built d r (built_of p outs) i x → accesses_built d r (built_of p outs) i (drop i xs) ≡ w → accesses_built d r (built_of q (outs ++ o ∷ [])) (i + 1) (drop (i + 1) xs) ≡ w
accesses_more d r p q outs o xs i x w l e h g =
    ap (λ (b : Built). accesses_built d r b (i + 1) (drop (i + 1) xs)) h
    ∙ sym (ap (λ (ys : List AccessWish). accesses_built d r (built_of p outs) i ys) (drop_more xs i x l ∙ ap (λ (y : AccessWish). y ∷ drop (i + 1) xs) (sym e)))
    ∙ g

pub accesses_none : (d : ModelData) (r : Requests) (b : Built) (xs : List AccessWish) (i : ℕ) (w : Built) → length xs ≤ i → accesses_built d r b i (drop i xs) ≡ w → b ≡ w
accesses_none d r b xs i w l h = sym (ap (λ (ys : List AccessWish). accesses_built d r b i ys) (drop_all i xs l)) ∙ h

-- ---- one access

pub access_same : (d : ModelData) (r : Requests) (scope : Scope) (word address regs inputs z o : ℕ) → scope ≡ node_scope d → word ≡ d.word → address ≡ d.address → z ≡ length (choices d r) → o ≡ length (choices d r) + 1
    → record { scope = scope; regs = regs; inputs = inputs; address = address; align = align_of word; lo = r.lo; hi = r.hi; zero_term = z; one_term = o } ≡ access_at d r regs inputs
access_same d r scope word address regs inputs z o s w a e f =
    let A = λ (scope : Scope) (word address z o : ℕ). let x : Access = record { scope = scope; regs = regs; inputs = inputs; address = address; align = align_of word; lo = r.lo; hi = r.hi; zero_term = z; one_term = o } in x in
    three (λ (x : Scope) (y k : ℕ). A x y k z o) s w a ∙ two (λ (y k : ℕ). A (node_scope d) d.word d.address y k) e f

pub walk_same : (d : ModelData) (r : Requests) (a : Access) (s : State) (terms : List Term) (ps : List ActData) (word regs inputs : ℕ) → a ≡ access_at d r regs inputs → s ≡ first_state a terms word → word ≡ inputs + length d.inputs → ps ≡ steps d
    → walk_placed a s ps 0 ≡ walk_at d r regs inputs terms
unfolding walk_at
walk_same d r a s terms ps word regs inputs h k w e =
    ap (λ (z : State). walk_placed a z ps 0) k
    ∙ three (λ (b : Access) (j : ℕ) (l : List ActData). walk_placed b (first_state b terms j) l 0) h w e

pub access_is : (d : ModelData) (r : Requests) (p p1 q : ProblemData) (before : List (List Out)) (o : List Out) (regs inputs k : ℕ) (a : AccessWish) → regs ≡ regs_at d a.context → inputs ≡ inputs_at d r k
    → p1 ≡ demanded p (map (form_of (rule_named (access_scope d) regs inputs)) d.legal_access) → o ≡ (walk_at d r regs inputs p1.terms).outs → q.terms ≡ (walk_at d r regs inputs p1.terms).terms → q.required ≡ p1.required
    → built_of q (before ++ o ∷ []) ≡ access_built d r (built_of p before) k a
unfolding walk_at
access_is d r p p1 q before o regs inputs k a e f g h t l =
    let W = λ (x y : ℕ) (z : ProblemData). let w = walk_at d r x y z.terms in let b : Built = record { terms = w.terms; required = z.required; outs = before ++ w.outs ∷ [] } in b in
    three (λ (x : List Term) (y : List ℕ) (z : List Out). let b : Built = record { terms = x; required = y; outs = before ++ z ∷ [] } in b) t l h
    ∙ ap (W regs inputs) g
    ∙ two (λ (x y : ℕ). W x y (demanded p (map (form_of (rule_named (access_scope d) x y)) d.legal_access))) e f

pub access_ok : {T E : Type 0} (x : Result T E) (items : T → List Out) (d : ModelData) (r : Requests) (p p1 q : ProblemData) (regs inputs k : ℕ) (a : AccessWish) → regs ≡ regs_at d a.context → inputs ≡ inputs_at d r k
    → p1 ≡ demanded p (map (form_of (rule_named (access_scope d) regs inputs)) d.legal_access) → IfOk x (λ v. items v ≡ (walk_at d r regs inputs p1.terms).outs) → OnOk x (q.terms ≡ (walk_at d r regs inputs p1.terms).terms) → OnOk x (q.required ≡ p1.required)
    → IfOk x (λ v. (before : List (List Out)) → built_of q (before ++ items v ∷ []) ≡ access_built d r (built_of p before) k a)
access_ok (Ok v) items d r p p1 q regs inputs k a e f g h t l = λ before. access_is d r p p1 q before (items v) regs inputs k a e f g h t l
access_ok (Err e) items d r p p1 q regs inputs k a f g h i t l = tt

pub ok_is : {T E X : Type 0} (r : Result T E) (f : T → X) (x y : X) → x ≡ y → IfOk r (λ v. f v ≡ x) → IfOk r (λ v. f v ≡ y)
ok_is (Ok t) f x y e h = h ∙ e
ok_is (Err e) f x y k h = tt
