-- A walk that is put node by node, and rules that are required one by one.
use Rattle.std.proofs.Common.{◌≡◌, ℕ, ◌+◌, ◌<◌, ◌≤◌, List, [], ◌∷◌, ◌++◌, length, get_or, drop, map, sym, ap, ◌∙◌, subst, arith, append_assoc}
use Rattle.std.proofs.lemmas.List.{append-nil, drop_all, drop_more}
use Rattle.dt_model.specs.declared.model.Node.{Node}
use Rattle.dt_model.specs.ModelData.{ActData, act_of}
use Rattle.dt_model.specs.Flow.{steps_of}
use Rattle.dt_model.specs.Widths.{Scope}
use Rattle.dt_model.proofs.Nodes.{step_at}
use Rattle.dt_walk.specs.Sound.{IsSound, AreSound}
use Rattle.dt_walk.proofs.Walks.{drop_at_step, length_steps}
use Rattle.dt_terms.specs.Additions.{with_required}
use Rattle.dt_terms.specs.Problem.{ProblemData}
use Rattle.dt_forms.specs.Forms.{Form, form_placed, all_required}
use Rattle.dt_table.specs.declared.out.Out.{Out}
use Rattle.dt_table.specs.Passing.{Access, State, Walked, noted, passed, walk_placed}
use Rattle.dt_forms.specs.Placing.{place}
use Rattle.dt_build.specs.Building.{placed_in, demanded}
use Rattle.dt_build.proofs.Demanded.{demanded_none}

-- ---- walks

-- with the nodes that are left, the walk is the whole one
pub record Rest (a : Access) (s : State) (ps : List ActData) (n : ℕ) (outs : List Out) (w : Walked) : Type 0 where
  pub terms : (walk_placed a s ps n).terms ≡ w.terms
  pub outs_are : outs ++ (walk_placed a s ps n).outs ≡ w.outs

rest_of : (a : Access) (s t u : State) (p : ActData) (ps : List ActData) (n : ℕ) (outs : List Out) (o : Out) (w : Walked)
    → t ≡ noted s n → u ≡ (passed a t n p).state → o ≡ (passed a t n p).out → Rest a s (p ∷ ps) n outs w → Rest a u ps (n + 1) (outs ++ o ∷ []) w
rest_of a s t u p ps n outs o w e f g r =
    let q = passed a (noted s n) n p in
    let k : u ≡ q.state = f ∙ ap (λ (z : State). (passed a z n p).state) e in
    let m : o ≡ q.out = g ∙ ap (λ (z : State). (passed a z n p).out) e in
    record {
      terms = ap (λ (z : State). (walk_placed a z ps (n + 1)).terms) k ∙ r.terms;
      outs_are = append_assoc outs (o ∷ []) (walk_placed a u ps (n + 1)).outs
          ∙ ap (λ (x : Out). outs ++ x ∷ (walk_placed a u ps (n + 1)).outs) m
          ∙ ap (λ (z : State). outs ++ q.out ∷ (walk_placed a z ps (n + 1)).outs) k
          ∙ r.outs_are;
    }

pub rest_more : (a : Access) (s t u : State) (nodes : List Node) (n : ℕ) (x : Node) (outs : List Out) (o : Out) (w : Walked) → n < length nodes → x ≡ get_or nodes n x
    → t ≡ noted s n → u ≡ (passed a t n (act_of x.act)).state → o ≡ (passed a t n (act_of x.act)).out → Rest a s (drop n (steps_of nodes)) n outs w → Rest a u (drop (n + 1) (steps_of nodes)) (n + 1) (outs ++ o ∷ []) w
rest_more a s t u nodes n x outs o w l i e f g r =
    rest_of a s t u (act_of x.act) (drop (n + 1) (steps_of nodes)) n outs o w e f g
    (subst (λ (ps : List ActData). Rest a s ps n outs w) (drop_at_step (steps_of nodes) n (act_of x.act) (step_at nodes n x x l i)) r)

pub rest_none : (a : Access) (s : State) (nodes : List Node) (n : ℕ) (outs : List Out) (w : Walked) → length nodes ≤ n → Rest a s (drop n (steps_of nodes)) n outs w → (s.terms ≡ w.terms) × (outs ≡ w.outs)
rest_none a s nodes n outs w l r =
    let k : length (steps_of nodes) ≤ n = omega (arith, length_steps nodes) in
    let z = subst (λ (ps : List ActData). Rest a s ps n outs w) (drop_all n (steps_of nodes) k) r in
    (z.terms, sym (append-nil outs) ∙ z.outs_are)

pub sound_at : (s : Scope) (word count at : ℕ) (nodes : List Node) (x : Node) → AreSound s word (steps_of nodes) → at < length nodes → x ≡ get_or nodes at x → count ≡ length nodes → IsSound s word count at (act_of x.act)
sound_at s word count at nodes x h l e c =
    subst (λ (k : ℕ). IsSound s word k at (act_of x.act)) (length_steps nodes ∙ sym c) (h at (act_of x.act) (step_at nodes at x x l e))

-- ---- rules

demanded_more : (p q : ProblemData) (f : Form) (fs : List Form) → q ≡ with_required (placed_in p (form_placed p.terms f)) (form_placed p.terms f).at → demanded q fs ≡ demanded p (f ∷ fs)
demanded_more p q f fs e =
    let x = form_placed p.terms f in
    let r = all_required x.terms fs in
    ap (λ (z : ProblemData). demanded z fs) e
    ∙ ap (λ (rs : List ℕ). let z : ProblemData = record { terms = r.terms; required = rs } in z) (append_assoc p.required (x.at ∷ []) r.required)

pub demanded_at : {X : Type 0} (f : X → Form) (xs : List X) (i : ℕ) (x : X) (p q w : ProblemData) → i < length xs → x ≡ get_or xs i x
    → q ≡ with_required (placed_in p (form_placed p.terms (f x))) (form_placed p.terms (f x)).at → demanded p (map f (drop i xs)) ≡ w → demanded q (map f (drop (i + 1) xs)) ≡ w
demanded_at f xs i x p q w l e g h =
    demanded_more p q (f x) (map f (drop (i + 1) xs)) g
    ∙ sym (ap (λ ys. demanded p (map f ys)) (drop_more xs i x l ∙ ap (λ y. y ∷ drop (i + 1) xs) (sym e)))
    ∙ h

pub demanded_all : {X : Type 0} (f : X → Form) (xs : List X) (i : ℕ) (p w : ProblemData) → length xs ≤ i → demanded p (map f (drop i xs)) ≡ w → p ≡ w
demanded_all f xs i p w l h = sym (demanded_none place p) ∙ sym (ap (λ ys. demanded p (map f ys)) (drop_all i xs l)) ∙ h
