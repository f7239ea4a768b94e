-- What the terms of edges and of variables tell.
use Rattle.std.proofs.Common.{◌≡◌, ℕ, ◌+◌, ◌<◌, ◌≤◌, Bool, true, false, not, ◌&&◌, ◌||◌, cond, eqb, List, ◌∷◌, Option, Some, None, ◌⊎◌, inl, inr, ⊎_elim, refl, sym, ap, ◌∙◌, subst, arith}
use Rattle.std.proofs.lemmas.Bool.{ne_eqb, eq-eqb, eqb-true, eqb-false, cases_Bool, or_from}
use Rattle.std.specs.Int.Bits.{and_zero_l}
use Rattle.dt_lemmas.proofs.Options.{some_is}
use Rattle.dt_bits.specs.Bits.{width}
use Rattle.dt_bits.specs.Ops.{applied}
use Rattle.dt_bits.specs.declared.op.Op.TheVariants.{And, Or, Ite}
use Rattle.dt_bits.specs.declared.value.Bv.{Bv}
use Rattle.dt_model.specs.ModelData.{ActData}
use Rattle.dt_model.specs.Paths.{Side, Exit, exit_at, SomePath, is_var, exit_assigns}
use Rattle.dt_model.specs.Widths.{width_at}
use Rattle.dt_terms.specs.declared.term.Term.{Term}
use Rattle.dt_walk.specs.Meaning.{Vars, bound, valued}
use Rattle.dt_forms.specs.Placing.{place}
use Rattle.dt_forms.specs.Forms.{term, form_placed, form_value, nothing, not_of, both_of}
use Rattle.dt_forms.proofs.FormValues.{form_before, form_is, both_form, not_form}
use Rattle.dt_table.specs.Passing.{Access, State, named, join, part, chosen, assign, fork}
use Rattle.dt_forms.specs.Meaning.{Valuation, IsLawful, flag}
use Rattle.dt_forms.proofs.Lawful.{place_before, place_value, or_value}
use Rattle.dt_table.proofs.Trees.{IsBound}

-- ---- where the walk comes

-- of the nodes from k on the walk comes to this one next
abbrev pub Comes : Valuation → State → ℕ → ℕ → Type 0
Comes v s k to = (n : ℕ) → k ≤ n → v (s.come n) ≡ flag (eqb to n)

pub comes_later : (v : Valuation) (s : State) (k to : ℕ) → Comes v s k to → Comes v s (k + 1) to
comes_later v s k to h n l = h n (omega arith)

pub join_before : (v : Valuation) (s : State) (to taken : ℕ) → IsLawful v (join s to taken).terms → IsLawful v s.terms
join_before v s to taken h = place_before v s.terms Or (s.come to) taken 0 h

or_none : (p : Bool) → (p || false) ≡ p
or_none true = refl
or_none false = refl

-- an edge that isn't taken
pub join_false : (v : Valuation) (s : State) (k to t taken : ℕ) → IsLawful v (join s t taken).terms → k ≤ t → Comes v s k to → v taken ≡ flag false → Comes v (join s t taken) k to
join_false v s k to t taken h l c f n m = by_place (cases_Bool (eqb n t))
  where
    by_place : (eqb n t ≡ true) ⊎ (eqb n t ≡ false) → v ((join s t taken).come n) ≡ flag (eqb to n)
    by_place (inl e) =
        let q : n ≡ t = eqb-true n t e in
        ap (λ (b : Bool). v (cond b (place s.terms Or (s.come t) taken 0).at (s.come n))) e
        ∙ or_value v s.terms (s.come t) taken (eqb to t) false h (c t l) f ∙ ap flag (or_none (eqb to t)) ∙ ap (λ (i : ℕ). flag (eqb to i)) (sym q)
    by_place (inr e) = ap (λ (b : Bool). v (cond b (place s.terms Or (s.come t) taken 0).at (s.come n))) e ∙ c n m

-- the edge that is taken
pub join_true : (v : Valuation) (s : State) (k d t taken : ℕ) → IsLawful v (join s t taken).terms → k ≤ t → d < k → Comes v s k d → v taken ≡ flag true → Comes v (join s t taken) k t
join_true v s k d t taken h l below c f n m = by_place (cases_Bool (eqb n t))
  where
    none : (i : ℕ) → k ≤ i → v (s.come i) ≡ flag false
    none i j = c i j ∙ ap flag (ne_eqb d i (λ e. omega arith))

    by_place : (eqb n t ≡ true) ⊎ (eqb n t ≡ false) → v ((join s t taken).come n) ≡ flag (eqb t n)
    by_place (inl e) =
        let q : t ≡ n = sym (eqb-true n t e) in
        ap (λ (b : Bool). v (cond b (place s.terms Or (s.come t) taken 0).at (s.come n))) e
        ∙ or_value v s.terms (s.come t) taken false true h (none t l) f ∙ ap flag (sym (eq-eqb t n q))
    by_place (inr e) =
        ap (λ (b : Bool). v (cond b (place s.terms Or (s.come t) taken 0).at (s.come n))) e ∙ none n m ∙ ap flag (sym (ne_eqb t n (λ q. eqb-false n t e (sym q))))

pub part_before : (v : Valuation) (s : State) (t tt o oo : ℕ) → IsLawful v (part s t tt o oo).terms → IsLawful v s.terms
part_before v s t tt o oo h = join_before v s t tt (join_before v (join s t tt) o oo h)

-- neither edge is taken
pub part_none : (v : Valuation) (s : State) (k to t tt o oo : ℕ) → IsLawful v (part s t tt o oo).terms → k ≤ t → k ≤ o → Comes v s k to → v tt ≡ flag false → v oo ≡ flag false → Comes v (part s t tt o oo) k to
part_none v s k to t tt o oo h l m c e f =
    join_false v (join s t tt) k to o oo h m (join_false v s k to t tt (join_before v (join s t tt) o oo h) l c e) f

-- just one is
pub part_one : (v : Valuation) (s : State) (k d t tt o oo : ℕ) (q : Bool) → IsLawful v (part s t tt o oo).terms → k ≤ t → k ≤ o → d < k → Comes v s k d → v tt ≡ flag q → v oo ≡ flag (not q) → Comes v (part s t tt o oo) k (cond q t o)
part_one v s k d t tt o oo true h l m b c e f =
    join_false v (join s t tt) k t o oo h m (join_true v s k d t tt (join_before v (join s t tt) o oo h) l b c e) f
part_one v s k d t tt o oo false h l m b c e f =
    join_true v (join s t tt) k d o oo h m b (join_false v s k d t tt (join_before v (join s t tt) o oo h) l c e) f

-- ---- forks

pub fork_before : (v : Valuation) (terms : List Term) (come test : ℕ) → IsLawful v (fork terms come test).terms → IsLawful v terms
fork_before v terms come test h =
    let t = both_of (term come) (term test) in
    form_before v t terms (form_before v (both_of (term come) (not_of (term test))) (form_placed terms t).terms h)

pub record IsForked (v : Valuation) (terms : List Term) (come test : ℕ) (t o : Bool) : Type 0 where
  pub then_is : v (fork terms come test).by_then ≡ flag t
  pub other_is : v (fork terms come test).by_other ≡ flag o

fork_is : (v : Valuation) (terms : List Term) (come test : ℕ) (p q : Bool) → IsLawful v (fork terms come test).terms
    → form_value v (both_of (term come) (term test)) ≡ flag p → form_value v (both_of (term come) (not_of (term test))) ≡ flag q → IsForked v terms come test p q
fork_is v terms come test p q h e f =
    let t = both_of (term come) (term test) in
    let o = both_of (term come) (not_of (term test)) in
    let x = form_placed terms t in
    record {
      then_is = form_is v t terms (refl, tt, tt) (form_before v o x.terms h) ∙ e;
      other_is = form_is v o x.terms (refl, tt, (refl, tt)) h ∙ f;
    }

pub fork_value : (v : Valuation) (terms : List Term) (come test : ℕ) (p q : Bool) → IsLawful v (fork terms come test).terms → v come ≡ flag p → v test ≡ flag q
    → IsForked v terms come test (p && q) (p && not q)
fork_value v terms come test p q h e f =
    fork_is v terms come test (p && q) (p && not q) h (both_form v (term come) (term test) p q e f) (both_form v (term come) (not_of (term test)) p (not q) e (not_form v (term test) q f))

and_zero : (x y : Bv) → applied And (flag false) x y ≡ flag false
and_zero x y = ap (λ (n : ℕ). record { width = width 1; bits = n }) (and_zero_l x.bits)

-- where the walk doesn't come, whatever the test is
pub fork_none : (v : Valuation) (terms : List Term) (come test : ℕ) → IsLawful v (fork terms come test).terms → v come ≡ flag false → IsForked v terms come test false false
fork_none v terms come test h e =
    fork_is v terms come test false false h
    (ap (λ (x : Bv). applied And x (v test) nothing) e ∙ and_zero (v test) nothing)
    (ap (λ (x : Bv). applied And x (form_value v (not_of (term test))) nothing) e ∙ and_zero (form_value v (not_of (term test))) nothing)

-- ---- variables

-- each variable has its value, or some path to the node leaves it
abbrev pub Keeps : Valuation → Access → List ActData → State → ℕ → Vars → Type 0
Keeps v a steps s to vars = (x : ℕ) → IsBound v (named a s) vars x ⊎ SomePath steps to x false

-- each variable's term has its width
abbrev pub Wide : Valuation → Access → State → Type 0
Wide v a s = (x t w : ℕ) → s.vars x ≡ Some t → width_at a.scope.vars x ≡ Some w → (v t).width.0 ≡ w

-- a path goes on over an edge that doesn't assign the variable
pub extend : (steps : List ActData) (n to x : ℕ) (side : Side) (e : Exit) → exit_at steps (record { node = n; side = side }) ≡ Some e → e.to ≡ to → n < to → is_var e.assigns x ≡ false
    → SomePath steps n x false → SomePath steps to x false
extend steps n to x side e h t l f p =
    (record { node = n; side = side } ∷ p.0, ((e, h, t, l), p.1), or_from _ _ (ap (λ (o : Option Exit). exit_assigns o x) h ∙ f) p.2)

pub assign_before : (v : Valuation) (s : State) (x taken new : ℕ) → IsLawful v (assign s x taken new).terms → IsLawful v s.terms
assign_before v s x taken new h = by_term (s.vars x) h
  where
    by_term : (o : Option ℕ) → IsLawful v (chosen s.terms o taken new).terms → IsLawful v s.terms
    by_term None h = h
    by_term (Some old) h = place_before v s.terms Ite taken new old h

-- an edge that is taken
chosen_true : (v : Valuation) (terms : List Term) (o : Option ℕ) (taken new : ℕ) → IsLawful v (chosen terms o taken new).terms → v taken ≡ flag true → v (chosen terms o taken new).at ≡ v new
chosen_true v terms None taken new h e = refl
chosen_true v terms (Some old) taken new h e = place_value v terms Ite taken new old h ∙ ap (λ (x : Bv). applied Ite x (v new) (v old)) e

-- one that isn't taken
chosen_false : (v : Valuation) (terms : List Term) (old taken new : ℕ) → IsLawful v (chosen terms (Some old) taken new).terms → v taken ≡ flag false → (v new).width.0 ≡ (v old).width.0 → v (chosen terms (Some old) taken new).at ≡ v old
chosen_false v terms old taken new h e w =
    place_value v terms Ite taken new old h ∙ ap (λ (x : Bv). applied Ite x (v new) (v old)) e ∙ ap (λ (n : ℕ). record { width = width n; bits = (v old).bits }) w

chosen_wide : (v : Valuation) (terms : List Term) (o : Option ℕ) (taken new : ℕ) → IsLawful v (chosen terms o taken new).terms → (v (chosen terms o taken new).at).width.0 ≡ (v new).width.0
chosen_wide v terms None taken new h = refl
chosen_wide v terms (Some old) taken new h = ap (λ (x : Bv). x.width.0) (place_value v terms Ite taken new old h)

pub assign_wide : (v : Valuation) (a : Access) (s : State) (x taken new w : ℕ) → IsLawful v (assign s x taken new).terms → width_at a.scope.vars x ≡ Some w → (v new).width.0 ≡ w → Wide v a s → Wide v a (assign s x taken new)
assign_wide v a s x taken new w h k n wide y t u e f = by_place (cases_Bool (eqb y x))
  where
    by_place : (eqb y x ≡ true) ⊎ (eqb y x ≡ false) → (v t).width.0 ≡ u
    by_place (inl b) =
        let q : y ≡ x = eqb-true y x b in
        let z = ap (λ (c : Bool). cond c (Some (chosen s.terms (s.vars x) taken new).at) (s.vars y)) b in
        let i : (chosen s.terms (s.vars x) taken new).at ≡ t = some_is _ _ (sym z ∙ e) in
        let j : w ≡ u = some_is _ _ (sym k ∙ ap (λ (i : ℕ). width_at a.scope.vars i) (sym q) ∙ f) in
        ap (λ (m : ℕ). (v m).width.0) (sym i) ∙ chosen_wide v s.terms (s.vars x) taken new h ∙ n ∙ j
    by_place (inr b) = wide y t u (sym (ap (λ (c : Bool). cond c (Some (chosen s.terms (s.vars x) taken new).at) (s.vars y)) b) ∙ e) f

pub assign_true : (v : Valuation) (a : Access) (steps : List ActData) (s : State) (x taken new to m : ℕ) (vars : Vars) → IsLawful v (assign s x taken new).terms
    → v taken ≡ flag true → v new ≡ valued (width_at a.scope.vars x) m
    → ((y : ℕ) → eqb x y ≡ false → IsBound v (named a s) vars y ⊎ SomePath steps to y false)
    → Keeps v a steps (assign s x taken new) to (bound vars x m)
assign_true v a steps s x taken new to m vars h e n k y = by_place (cases_Bool (eqb y x))
  where
    by_place : (eqb y x ≡ true) ⊎ (eqb y x ≡ false) → IsBound v (named a (assign s x taken new)) (bound vars x m) y ⊎ SomePath steps to y false
    by_place (inl b) = inl (record {
      term = (chosen s.terms (s.vars x) taken new).at;
      has = ap (λ (c : Bool). cond c (Some (chosen s.terms (s.vars x) taken new).at) (s.vars y)) b;
      is = chosen_true v s.terms (s.vars x) taken new h e ∙ n ∙ ap (λ (i : ℕ). valued (width_at a.scope.vars i) m) (sym (eqb-true y x b)) ∙ ap (λ (c : Bool). valued (width_at a.scope.vars y) (cond c m (vars y))) (sym b);
    })
    by_place (inr b) = ⊎_elim
        (λ (i : IsBound v (named a s) vars y). inl (record {
          term = i.term;
          has = ap (λ (c : Bool). cond c (Some (chosen s.terms (s.vars x) taken new).at) (s.vars y)) b ∙ i.has;
          is = i.is ∙ ap (λ (c : Bool). valued (width_at a.scope.vars y) (cond c m (vars y))) (sym b);
        }))
        (λ (p : SomePath steps to y false). inr p)
        (k y (ne_eqb x y (λ q. eqb-false y x b (sym q))))

pub assign_false : (v : Valuation) (a : Access) (steps : List ActData) (s : State) (x taken new to w : ℕ) (vars : Vars) → IsLawful v (assign s x taken new).terms
    → v taken ≡ flag false → width_at a.scope.vars x ≡ Some w → (v new).width.0 ≡ w → Wide v a s
    → Keeps v a steps s to vars → Keeps v a steps (assign s x taken new) to vars
assign_false v a steps s x taken new to w vars h e k n wide keeps y = ⊎_elim (λ (i : IsBound v (named a s) vars y). inl (by_place i (cases_Bool (eqb y x)))) (λ (p : SomePath steps to y false). inr p) (keeps y)
  where
    by_place : IsBound v (named a s) vars y → (eqb y x ≡ true) ⊎ (eqb y x ≡ false) → IsBound v (named a (assign s x taken new)) vars y
    by_place i (inl b) =
        let q : y ≡ x = eqb-true y x b in
        let o : s.vars x ≡ Some i.term = ap s.vars (sym q) ∙ i.has in
        let g : IsLawful v (chosen s.terms (Some i.term) taken new).terms = subst (λ (z : Option ℕ). IsLawful v (chosen s.terms z taken new).terms) o h in
        record {
          term = (chosen s.terms (s.vars x) taken new).at;
          has = ap (λ (c : Bool). cond c (Some (chosen s.terms (s.vars x) taken new).at) (s.vars y)) b;
          is = ap (λ (z : Option ℕ). v (chosen s.terms z taken new).at) o ∙ chosen_false v s.terms i.term taken new g e (n ∙ sym (wide x i.term w o k)) ∙ i.is;
        }
    by_place i (inr b) = record {
      term = i.term;
      has = ap (λ (c : Bool). cond c (Some (chosen s.terms (s.vars x) taken new).at) (s.vars y)) b ∙ i.has;
      is = i.is;
    }
