-- The terms of an access's nodes tell the access's walk.
use Rattle.std.proofs.Common.{◌≡◌, ℕ, zero, suc, ◌+◌, ◌<◌, ◌≤◌, ◌^◌, Bool, true, false, ◌&&◌, cond, eqb, List, [], ◌∷◌, length, map, Option, Some, None, ◌⊎◌, inl, inr, ⊎_elim, refl, sym, ap, ◌∙◌, subst, arith}
use Rattle.std.specs.Prelude.{slice_get, slice_index, IsSome, is_some, unwrap_or}
use Rattle.std.proofs.lemmas.Bool.{false≢true, ne_eqb, eq-eqb, eqb-true, eqb-false, cases_Bool, and_left, and_right}
use Rattle.dt_walk.specs.declared.run.End.{End}
use Rattle.dt_ways.specs.Ends.{is_end}
use Rattle.dt_table.proofs.Ends.{EndsBy, NoEnd, EndsOnce}
use Rattle.dt_bits.specs.declared.value.Bv.{Bv}
use Rattle.dt_model.specs.ModelData.{Tree, ActData, bind, read, branch, fault, done}
use Rattle.dt_model.specs.Paths.{Side, SomePath, exit_at, step_exit, next, then, other}
use Rattle.dt_bits.specs.Bits.{width}
use Rattle.dt_walk.specs.declared.run.ReadMade.{ReadMade}
use Rattle.dt_walk.specs.declared.run.SideTaken.{SideTaken}
use Rattle.dt_model.specs.Faults.{is_read, tree_in}
use Rattle.dt_model.specs.Widths.{Scope, HasArities, tree_width, width_at, uses}
use Rattle.dt_terms.specs.declared.term.Term.{Term}
use Rattle.dt_walk.specs.declared.run.End.TheVariants.{Done, Fault}
use Rattle.dt_walk.specs.Meaning.{EnvData, Vars, bound, value_at, valued}
use Rattle.dt_walk.specs.Walks.{RunData, visit, left, made, ended, read_of}
use Rattle.dt_forms.specs.Forms.{form_placed, not_of, term}
use Rattle.dt_table.specs.Expressions.{form_of}
use Rattle.dt_table.specs.declared.out.Out.{Out}
use Rattle.dt_table.specs.Passing.{Access, State, named, with_terms, part, assign, fork, is_cell, passed, noted, walk_placed}
use Rattle.dt_forms.specs.Meaning.{Valuation, IsLawful, flag, is_one}
use Rattle.dt_table.specs.Told.{made_if, told, told_step}
use Rattle.dt_forms.proofs.Lawful.{flag_one}
use Rattle.dt_table.proofs.Trees.{AreNamed, IsBound, AreWide, tree_value, tree_wide}
use Rattle.dt_table.proofs.Edges.{Comes, comes_later, join_before, join_false, join_true, part_before, part_none, part_one, fork_before, fork_value, fork_none, Keeps, Wide, extend, assign_before, assign_wide, assign_true, assign_false}
use Rattle.dt_forms.proofs.FormValues.{form_before}
use Rattle.dt_table.proofs.Oracle.{walk_with, acted_with}

-- ---- what is asked of steps

abbrev pub Fits : Scope → Tree → ℕ → Type 0
Fits s t w = HasArities t × (tree_width s t ≡ Some w)

-- the expression has the width that is asked, and targets are later
abbrev pub IsStep : Scope → ℕ → ℕ → ℕ → ℕ → ActData → Type 0
IsStep s address word count i (bind x e to) = (w : ℕ) × Fits s e w × (width_at s.vars x ≡ Some w) × (i < to) × (to < count)
IsStep s address word count i (read x e g t o) = Fits s e address × (width_at s.vars x ≡ Some word) × (i < t) × (t < count) × (i < o) × (o < count)
IsStep s address word count i (branch e t o) = Fits s e 1 × (i < t) × (t < count) × (i < o) × (o < count)
IsStep s address word count i (fault c) = Unit {0}
IsStep s address word count i (done e p) = Fits s e address

-- no step uses a variable that some path to it leaves
abbrev pub IsClean : List ActData → ℕ → Option Tree → Type 0
IsClean steps i None = Unit {0}
IsClean steps i (Some t) = (x : ℕ) → uses t x ≡ true → SomePath steps i x false → ⊥

-- the steps that are left, from position n on
pub record AreLeft (a : Access) (word : ℕ) (steps ps : List ActData) (n : ℕ) : Type 0 where
  pub at : (k : ℕ) (p : ActData) → slice_get ps k ≡ Some p → slice_get steps (n + k) ≡ Some p
  pub count : n + length ps ≡ length steps
  pub sound : (i : ℕ) (p : ActData) → slice_get steps i ≡ Some p → IsStep a.scope a.address word (length steps) i p
  pub clean : (i : ℕ) (p : ActData) → slice_get steps i ≡ Some p → IsClean steps i (tree_in p)

-- ---- what is asked of values

-- the test of a cell tells where words are
abbrev pub CellsAre : Valuation → Access → (ℕ → Bool) → Type 0
CellsAre v a cells = (terms : List Term) (cell : ℕ) → IsLawful v (form_placed terms (is_cell a cell)).terms → (v cell).width.0 ≡ a.address → v (form_placed terms (is_cell a cell)).at ≡ flag (cells (v cell).bits)

pub record IsOf (v : Valuation) (a : Access) (st : EnvData) (cells : ℕ → Bool) : Type 0 where
  pub range : (t : ℕ) → (v t).bits < 2 ^ (v t).width.0
  pub zero_is : v a.zero_term ≡ flag false
  pub one_is : v a.one_term ≡ flag true
  pub scope : a.scope ≡ st.scope
  pub reg_is : (i : ℕ) → IsSome (width_at a.scope.regs i) → v (a.regs + i) ≡ valued (width_at st.scope.regs i) (slice_index st.regs i)
  pub input_is : (i : ℕ) → IsSome (width_at a.scope.inputs i) → v (a.inputs + i) ≡ valued (width_at st.scope.inputs i) (slice_index st.inputs i)
  pub cells_are : CellsAre v a cells

-- how the state follows the walk that waits for a node; a walk that has ended waits for an earlier one
pub record Follows (v : Valuation) (a : Access) (steps : List ActData) (s : State) (n to : ℕ) (vars : Vars) : Type 0 where
  pub comes : Comes v s n to
  pub keeps : n ≤ to → Keeps v a steps s to vars
  pub wide : Wide v a s

-- ---- earlier terms stay

pub passed_before : (v : Valuation) (a : Access) (s : State) (n : ℕ) (p : ActData) → IsLawful v (passed a s n p).state.terms → IsLawful v s.terms
passed_before v a s n (bind x e to) h =
    let c = s.come n in
    let y = form_placed s.terms (form_of (named a s) e) in
    let s1 = with_terms s y.terms in
    form_before v (form_of (named a s) e) s.terms (assign_before v s1 x c y.at (join_before v (assign s1 x c y.at) to c h))
passed_before v a s n (branch e t o) h =
    let c = s.come n in
    let y = form_placed s.terms (form_of (named a s) e) in
    let f = fork y.terms c y.at in
    form_before v (form_of (named a s) e) s.terms (fork_before v y.terms c y.at (part_before v (with_terms s f.terms) t f.by_then o f.by_other h))
passed_before v a s n (read x e g t o) h =
    let c = s.come n in
    let y = form_placed s.terms (form_of (named a s) e) in
    let z = form_placed y.terms (is_cell a y.at) in
    let f = fork z.terms c z.at in
    let s1 = with_terms s f.terms in
    form_before v (form_of (named a s) e) s.terms (form_before v (is_cell a y.at) y.terms (fork_before v z.terms c z.at
    (assign_before v s1 x f.by_then s.word (part_before v (assign s1 x f.by_then s.word) t f.by_then o f.by_other h))))
passed_before v a s n (fault c) h = h
passed_before v a s n (done e p) h = form_before v (form_of (named a s) e) s.terms h

pub noted_before : (v : Valuation) (s : State) (n : ℕ) → IsLawful v (noted s n).terms → IsLawful v s.terms
noted_before v s n h = form_before v (not_of (term (s.come n))) s.terms h

pub walk_before : (v : Valuation) (a : Access) (ps : List ActData) (s : State) (n : ℕ) → IsLawful v (walk_placed a s ps n).terms → IsLawful v s.terms
walk_before v a [] s n h = h
walk_before v a (p ∷ ps) s n h = noted_before v s n (passed_before v a (noted s n) n p (walk_before v a ps (passed a (noted s n) n p).state (n + 1) h))

pub noted_follows : (v : Valuation) (a : Access) (steps : List ActData) (s : State) (n to : ℕ) (vars : Vars) → Follows v a steps s n to vars → Follows v a steps (noted s n) n to vars
noted_follows v a steps s n to vars f = record { comes = f.comes; keeps = f.keeps; wide = f.wide }

-- ---- a node that the walk doesn't come to

come_false : (v : Valuation) (s : State) (n to : ℕ) → Comes v s n to → (to ≡ n → ⊥) → v (s.come n) ≡ flag false
come_false v s n to c ne = c n (omega arith) ∙ ap flag (ne_eqb to n ne)

pub names_wide : (v : Valuation) (a : Access) (st : EnvData) (cells : ℕ → Bool) (s : State) → IsOf v a st cells → Wide v a s → AreWide v (named a s)
names_wide v a st cells s i w = record {
  reg_is = λ r u e. ap (λ (x : Bv). x.width.0) (i.reg_is r (ap is_some e)) ∙ ap (λ (c : Scope). unwrap_or (width_at c.regs r) 1) (sym i.scope) ∙ ap (λ (o : Option ℕ). unwrap_or o 1) e;
  input_is = λ r u e. ap (λ (x : Bv). x.width.0) (i.input_is r (ap is_some e)) ∙ ap (λ (c : Scope). unwrap_or (width_at c.inputs r) 1) (sym i.scope) ∙ ap (λ (o : Option ℕ). unwrap_or o 1) e;
  var_is = w;
}

pub not_here : (v : Valuation) (a : Access) (st : EnvData) (cells : ℕ → Bool) (word count : ℕ) (steps : List ActData) (s : State) (n to : ℕ) (vars : Vars) (p : ActData)
    → IsOf v a st cells → IsStep a.scope a.address word count n p → (is_read p ≡ true → (v s.word).width.0 ≡ word) → IsLawful v (passed a s n p).state.terms → (to ≡ n → ⊥)
    → Follows v a steps s n to vars → Follows v a steps (passed a s n p).state (n + 1) to vars
not_here v a st cells word count steps s n to vars (bind x e t) i k u h ne f =
    let c = s.come n in
    let y = form_placed s.terms (form_of (named a s) e) in
    let s1 = with_terms s y.terms in
    let s2 = assign s1 x c y.at in
    let h2 : IsLawful v s2.terms = join_before v s2 t c h in
    let h1 : IsLawful v y.terms = assign_before v s1 x c y.at h2 in
    let z = come_false v s n to f.comes ne in
    let w = tree_wide v (named a s) e k.0 s.terms (names_wide v a st cells s i f.wide) k.1.0 k.1.1 h1 in
    record {
      comes = join_false v s2 (n + 1) to t c h (omega (arith, k.3)) (comes_later v s n to f.comes) z;
      keeps = λ l. assign_false v a steps s1 x c y.at to k.0 vars h2 z k.2 w f.wide (f.keeps (omega arith));
      wide = assign_wide v a s1 x c y.at k.0 h2 k.2 w f.wide;
    }
not_here v a st cells word count steps s n to vars (branch e t o) i k u h ne f =
    let c = s.come n in
    let y = form_placed s.terms (form_of (named a s) e) in
    let g = fork y.terms c y.at in
    let s1 = with_terms s g.terms in
    let h1 : IsLawful v g.terms = part_before v s1 t g.by_then o g.by_other h in
    let z = fork_none v y.terms c y.at h1 (come_false v s n to f.comes ne) in
    record {
      comes = part_none v s1 (n + 1) to t g.by_then o g.by_other h (omega (arith, k.1)) (omega (arith, k.3)) (comes_later v s n to f.comes) z.then_is z.other_is;
      keeps = λ l. f.keeps (omega arith);
      wide = f.wide;
    }
not_here v a st cells word count steps s n to vars (read x e m t o) i k u h ne f =
    let c = s.come n in
    let y = form_placed s.terms (form_of (named a s) e) in
    let q = form_placed y.terms (is_cell a y.at) in
    let g = fork q.terms c q.at in
    let s1 = with_terms s g.terms in
    let s2 = assign s1 x g.by_then s.word in
    let h2 : IsLawful v s2.terms = part_before v s2 t g.by_then o g.by_other h in
    let h1 : IsLawful v g.terms = assign_before v s1 x g.by_then s.word h2 in
    let z = fork_none v q.terms c q.at h1 (come_false v s n to f.comes ne) in
    record {
      comes = part_none v s2 (n + 1) to t g.by_then o g.by_other h (omega (arith, k.2)) (omega (arith, k.4)) (comes_later v s n to f.comes) z.then_is z.other_is;
      keeps = λ l. assign_false v a steps s1 x g.by_then s.word to word vars h2 z.then_is k.1 (u refl) f.wide (f.keeps (omega arith));
      wide = assign_wide v a s1 x g.by_then s.word word h2 k.1 (u refl) f.wide;
    }
not_here v a st cells word count steps s n to vars (fault c) i k u h ne f =
    record { comes = comes_later v s n to f.comes; keeps = λ l. f.keeps (omega arith); wide = f.wide }
not_here v a st cells word count steps s n to vars (done e p) i k u h ne f =
    record { comes = comes_later v s n to f.comes; keeps = λ l. f.keeps (omega arith); wide = f.wide }

-- ---- the node that the walk comes to

come_true : (v : Valuation) (s : State) (n : ℕ) → Comes v s n n → v (s.come n) ≡ flag true
come_true v s n c = c n (omega arith) ∙ ap flag (eq-eqb n n refl)

-- names have their values there
names_are : (v : Valuation) (a : Access) (st : EnvData) (cells : ℕ → Bool) (steps : List ActData) (s : State) (n : ℕ) (vars : Vars) (t : Tree) → IsOf v a st cells → Keeps v a steps s n vars → IsClean steps n (Some t) → AreNamed v st vars (named a s) (uses t)
names_are v a st cells steps s n vars t i k c = record {
  scope = i.scope;
  reg_is = i.reg_is;
  input_is = i.input_is;
  var_is = λ x u. ⊎_elim (λ (b : IsBound v (named a s) vars x). b) (λ (p : SomePath steps n x false). absurd (c x u p)) (k x);
}

-- an expression has its value there, and its width
record IsValued (v : Valuation) (a : Access) (st : EnvData) (s : State) (vars : Vars) (t : Tree) (w : ℕ) : Type 0 where
  value_is : v (form_placed s.terms (form_of (named a s) t)).at ≡ value_at st vars t
  width_is : (v (form_placed s.terms (form_of (named a s) t)).at).width.0 ≡ w

valued_here : (v : Valuation) (a : Access) (st : EnvData) (cells : ℕ → Bool) (steps : List ActData) (s : State) (n : ℕ) (vars : Vars) (t : Tree) (w : ℕ) → IsOf v a st cells → Keeps v a steps s n vars → Wide v a s → IsClean steps n (Some t)
    → Fits a.scope t w → IsLawful v (form_placed s.terms (form_of (named a s) t)).terms → IsValued v a st s vars t w
valued_here v a st cells steps s n vars t w i k wide c f h = record {
  value_is = tree_value v st vars (named a s) t s.terms (names_are v a st cells steps s n vars t i k c) f.0 (ap is_some f.1) h;
  width_is = tree_wide v (named a s) t w s.terms (names_wide v a st cells s i wide) f.0 f.1 h;
}

-- a value of one bit is a truth
pub one_bit : (n m : ℕ) → n ≡ 1 → m < 2 ^ n → record { width = width n; bits = m } ≡ flag (eqb m 1)
one_bit n m e l = ap (λ (k : ℕ). record { width = width k; bits = m }) e ∙ by_bits m (subst (λ (k : ℕ). m < 2 ^ k) e l)
  where
    by_bits : (m : ℕ) → m < 2 ^ 1 → record { width = width 1; bits = m } ≡ flag (eqb m 1)
    by_bits zero l = refl
    by_bits (suc zero) l = refl
    by_bits (suc (suc m)) l = absurd (omega (arith, l))

-- what the node that is waited for gives, where the rest of the walk is told by the rest of the terms
record GoesOn (v : Valuation) (a : Access) (steps : List ActData) (q : State) (n : ℕ) (go : ℕ → Vars → RunData) (rest : RunData) : Type 0 where
  on : (to : ℕ) (vars : Vars) → n + 1 ≤ to → to < length steps → Follows v a steps q (n + 1) to vars → go to vars ≡ rest
  over : (vars : Vars) → Follows v a steps q (n + 1) n vars → (rest.path ≡ []) × (rest.reads ≡ []) × (rest.sides ≡ [])

over_at : (v : Valuation) (a : Access) (steps : List ActData) (s : State) (n : ℕ) (vars : Vars) → Comes v s n n → Wide v a s → Follows v a steps s (n + 1) n vars
over_at v a steps s n vars c w = record { comes = comes_later v s n n c; keeps = λ l. absurd (omega (arith, l)); wide = w }

-- a variable that isn't assigned keeps its value over an edge
keeps_on : (v : Valuation) (a : Access) (steps : List ActData) (s : State) (n to : ℕ) (vars : Vars) (side : Side) → exit_at steps (record { node = n; side = side }) ≡ Some (record { to = to; assigns = None }) → n < to → Keeps v a steps s n vars → Keeps v a steps s to vars
keeps_on v a steps s n to vars side e l k x =
    ⊎_elim (λ (b : IsBound v (named a s) vars x). inl b) (λ (q : SomePath steps n x false). inr (extend steps n to x side (record { to = to; assigns = None }) e refl l refl q)) (k x)

-- what is known where the walk comes to a node
pub record IsHere (v : Valuation) (a : Access) (st : EnvData) (cells : ℕ → Bool) (word : ℕ) (steps : List ActData) (s : State) (n : ℕ) (vars : Vars) (p : ActData) : Type 0 where
  pub is_of : IsOf v a st cells
  pub at : slice_get steps n ≡ Some p
  pub step : IsStep a.scope a.address word (length steps) n p
  pub clean : IsClean steps n (tree_in p)
  pub word_wide : is_read p ≡ true → (v s.word).width.0 ≡ word
  pub lawful : IsLawful v (passed a s n p).state.terms
  pub follows : Follows v a steps s n n vars

-- after a bind the walk waits for its target
bind_follows : (v : Valuation) (a : Access) (st : EnvData) (cells : ℕ → Bool) (word : ℕ) (steps : List ActData) (s : State) (n : ℕ) (vars : Vars) (x : ℕ) (e : Tree) (t : ℕ) → IsHere v a st cells word steps s n vars (bind x e t)
    → Follows v a steps (passed a s n (bind x e t)).state (n + 1) t (bound vars x (value_at st vars e).bits)
bind_follows v a st cells word steps s n vars x e t h =
    let c = s.come n in
    let k = h.step in
    let f = h.follows in
    let y = form_placed s.terms (form_of (named a s) e) in
    let s1 = with_terms s y.terms in
    let s2 = assign s1 x c y.at in
    let h2 : IsLawful v s2.terms = join_before v s2 t c h.lawful in
    let h1 : IsLawful v y.terms = assign_before v s1 x c y.at h2 in
    let z = come_true v s n f.comes in
    let keeps = f.keeps (omega arith) in
    let w = valued_here v a st cells steps s n vars e k.0 h.is_of keeps f.wide h.clean k.1 h1 in
    let m = (value_at st vars e).bits in
    let width_same : (value_at st vars e).width.0 ≡ unwrap_or (width_at a.scope.vars x) 1 = ap (λ (b : Bv). b.width.0) (sym w.value_is) ∙ w.width_is ∙ sym (ap (λ (o : Option ℕ). unwrap_or o 1) k.2) in
    let value_same : v y.at ≡ valued (width_at a.scope.vars x) m = w.value_is ∙ ap (λ (j : ℕ). record { width = width j; bits = m }) width_same in
    record {
      comes = join_true v s2 (n + 1) n t c h.lawful (omega (arith, k.3)) (omega arith) (comes_later v s n n f.comes) z;
      keeps = λ l. assign_true v a steps s1 x c y.at t m vars h2 z value_same
          (λ j ne. ⊎_elim (λ (b : IsBound v (named a s) vars j). inl b) (λ (q : SomePath steps n j false). inr (extend steps n t j next (record { to = t; assigns = Some x }) (ap (λ (o : Option ActData). step_exit o next) h.at) refl k.3 ne q)) (keeps j));
      wide = assign_wide v a s1 x c y.at k.0 h2 k.2 w.width_is f.wide;
    }

-- after a branch the walk waits for the target of the side that its test chooses
record IsBranched (v : Valuation) (a : Access) (st : EnvData) (steps : List ActData) (s : State) (n : ℕ) (vars : Vars) (e : Tree) (t o : ℕ) : Type 0 where
  then_is : is_one (v (passed a s n (branch e t o)).out.by_then) ≡ eqb (value_at st vars e).bits 1
  on_then : eqb (value_at st vars e).bits 1 ≡ true → Follows v a steps (passed a s n (branch e t o)).state (n + 1) t vars
  on_other : eqb (value_at st vars e).bits 1 ≡ false → Follows v a steps (passed a s n (branch e t o)).state (n + 1) o vars

branch_follows : (v : Valuation) (a : Access) (st : EnvData) (cells : ℕ → Bool) (word : ℕ) (steps : List ActData) (s : State) (n : ℕ) (vars : Vars) (e : Tree) (t o : ℕ) → IsHere v a st cells word steps s n vars (branch e t o) → IsBranched v a st steps s n vars e t o
branch_follows v a st cells word steps s n vars e t o h =
    let c = s.come n in
    let k = h.step in
    let f = h.follows in
    let y = form_placed s.terms (form_of (named a s) e) in
    let g = fork y.terms c y.at in
    let s1 = with_terms s g.terms in
    let h2 : IsLawful v g.terms = part_before v s1 t g.by_then o g.by_other h.lawful in
    let h1 : IsLawful v y.terms = fork_before v y.terms c y.at h2 in
    let z = come_true v s n f.comes in
    let keeps = f.keeps (omega arith) in
    let w = valued_here v a st cells steps s n vars e 1 h.is_of keeps f.wide h.clean k.0 h1 in
    let test = eqb (value_at st vars e).bits 1 in
    let test_is : v y.at ≡ flag test = one_bit (v y.at).width.0 (v y.at).bits w.width_is (h.is_of.range y.at) ∙ ap (λ (b : Bv). flag (eqb b.bits 1)) w.value_is in
    let q = fork_value v y.terms c y.at true test h2 z test_is in
    let comes : Comes v (part s1 t g.by_then o g.by_other) (n + 1) (cond test t o) = part_one v s1 (n + 1) n t g.by_then o g.by_other test h.lawful (omega (arith, k.1)) (omega (arith, k.3)) (omega arith) (comes_later v s n n f.comes) q.then_is q.other_is in
    record {
      then_is = ap is_one q.then_is ∙ flag_one test;
      on_then = λ d. record {
        comes = subst (λ (b : Bool). Comes v (part s1 t g.by_then o g.by_other) (n + 1) (cond b t o)) d comes;
        keeps = λ l. keeps_on v a steps s n t vars then (ap (λ (z : Option ActData). step_exit z then) h.at) k.1 keeps;
        wide = f.wide;
      };
      on_other = λ d. record {
        comes = subst (λ (b : Bool). Comes v (part s1 t g.by_then o g.by_other) (n + 1) (cond b t o)) d comes;
        keeps = λ l. keeps_on v a steps s n o vars other (ap (λ (z : Option ActData). step_exit z other) h.at) k.3 keeps;
        wide = f.wide;
      };
    }

-- after a read the walk waits for the target of the side that the test of its cell chooses
record IsRead (v : Valuation) (a : Access) (st : EnvData) (cells : ℕ → Bool) (steps : List ActData) (s : State) (n : ℕ) (vars : Vars) (x : ℕ) (e : Tree) (m t o : ℕ) : Type 0 where
  value_is : v (passed a s n (read x e m t o)).out.value ≡ value_at st vars e
  then_is : is_one (v (passed a s n (read x e m t o)).out.by_then) ≡ cells (value_at st vars e).bits
  on_then : cells (value_at st vars e).bits ≡ true → Follows v a steps (passed a s n (read x e m t o)).state (n + 1) t (bound vars x (v s.word).bits)
  on_other : cells (value_at st vars e).bits ≡ false → Follows v a steps (passed a s n (read x e m t o)).state (n + 1) o vars

read_follows : (v : Valuation) (a : Access) (st : EnvData) (cells : ℕ → Bool) (word : ℕ) (steps : List ActData) (s : State) (n : ℕ) (vars : Vars) (x : ℕ) (e : Tree) (m t o : ℕ) → IsHere v a st cells word steps s n vars (read x e m t o) → IsRead v a st cells steps s n vars x e m t o
read_follows v a st cells word steps s n vars x e m t o h =
    let c = s.come n in
    let k = h.step in
    let f = h.follows in
    let u = h.word_wide refl in
    let y = form_placed s.terms (form_of (named a s) e) in
    let y2 = form_placed y.terms (is_cell a y.at) in
    let g = fork y2.terms c y2.at in
    let s1 = with_terms s g.terms in
    let s2 = assign s1 x g.by_then s.word in
    let h4 : IsLawful v s2.terms = part_before v s2 t g.by_then o g.by_other h.lawful in
    let h3 : IsLawful v g.terms = assign_before v s1 x g.by_then s.word h4 in
    let h2 : IsLawful v y2.terms = fork_before v y2.terms c y2.at h3 in
    let h1 : IsLawful v y.terms = form_before v (is_cell a y.at) y.terms h2 in
    let z = come_true v s n f.comes in
    let keeps = f.keeps (omega arith) in
    let w = valued_here v a st cells steps s n vars e a.address h.is_of keeps f.wide h.clean k.0 h1 in
    let b = cells (value_at st vars e).bits in
    let test_is : v y2.at ≡ flag b = h.is_of.cells_are y.terms y.at h2 w.width_is ∙ ap (λ (q : Bv). flag (cells q.bits)) w.value_is in
    let q = fork_value v y2.terms c y2.at true b h3 z test_is in
    let comes : Comes v (part s2 t g.by_then o g.by_other) (n + 1) (cond b t o) = part_one v s2 (n + 1) n t g.by_then o g.by_other b h.lawful (omega (arith, k.2)) (omega (arith, k.4)) (omega arith) (comes_later v s n n f.comes) q.then_is q.other_is in
    let word_is : v s.word ≡ valued (width_at a.scope.vars x) (v s.word).bits = ap (λ (j : ℕ). record { width = width j; bits = (v s.word).bits }) (u ∙ sym (ap (λ (z : Option ℕ). unwrap_or z 1) k.1)) in
    let wide = assign_wide v a s1 x g.by_then s.word word h4 k.1 u f.wide in
    record {
      value_is = w.value_is;
      then_is = ap is_one q.then_is ∙ flag_one b;
      on_then = λ d. record {
        comes = subst (λ (d : Bool). Comes v (part s2 t g.by_then o g.by_other) (n + 1) (cond d t o)) d comes;
        keeps = λ l. assign_true v a steps s1 x g.by_then s.word t (v s.word).bits vars h4 (q.then_is ∙ ap flag d) word_is
            (λ j ne. ⊎_elim (λ (p : IsBound v (named a s) vars j). inl p) (λ (p : SomePath steps n j false). inr (extend steps n t j then (record { to = t; assigns = Some x }) (ap (λ (z : Option ActData). step_exit z then) h.at) refl k.2 ne p)) (keeps j));
        wide = wide;
      };
      on_other = λ d. record {
        comes = subst (λ (d : Bool). Comes v (part s2 t g.by_then o g.by_other) (n + 1) (cond d t o)) d comes;
        keeps = λ l. assign_false v a steps s1 x g.by_then s.word o word vars h4 (q.then_is ∙ ap flag d) k.1 u f.wide
            (keeps_on v a steps s n o vars other (ap (λ (z : Option ActData). step_exit z other) h.at) k.4 keeps);
        wide = wide;
      };
    }

-- a read that is made, or isn't
read_step : (b : Bool) (u n cell x t o : ℕ) (go : ℕ → Vars → RunData) (vars : Vars) (rest : RunData) → (b ≡ true → go t (bound vars x u) ≡ rest) → (b ≡ false → go o vars ≡ rest)
    → visit n (read_of (cond b (Some u) None) n cell x t o go vars) ≡ record { path = n ∷ rest.path; sides = record { node = n; by_then = b } ∷ rest.sides; reads = made_if b (record { node = n; cell = cell; word = u }) rest.reads; end = rest.end }
read_step true u n cell x t o go vars rest h k = ap (λ (r : RunData). visit n (made (record { node = n; cell = cell; word = u }) (left n true r))) (h refl)
read_step false u n cell x t o go vars rest h k = ap (λ (r : RunData). visit n (left n false r)) (k refl)

-- an end after which nothing is told
ended_told : (n : ℕ) (e : End) (rest : RunData) → rest.path ≡ [] → rest.reads ≡ [] → rest.sides ≡ [] → ended n e ≡ record { path = n ∷ rest.path; sides = rest.sides; reads = rest.reads; end = e }
ended_told n e rest p r s =
    ap (λ (l : List ℕ). record { path = n ∷ l; sides = []; reads = []; end = e }) (sym p)
    ∙ ap (λ (l : List ReadMade). record { path = n ∷ rest.path; sides = []; reads = l; end = e }) (sym r)
    ∙ ap (λ (l : List SideTaken). record { path = n ∷ rest.path; sides = l; reads = rest.reads; end = e }) (sym s)

here : (v : Valuation) (a : Access) (st : EnvData) (cells : ℕ → Bool) (word : ℕ) (steps : List ActData) (s : State) (n : ℕ) (vars : Vars) (go : ℕ → Vars → RunData) (rest : RunData) (p : ActData)
    → IsHere v a st cells word steps s n vars p → GoesOn v a steps (passed a s n p).state n go rest
    → acted_with st cells (v (passed a s n p).out.word).bits n p go vars ≡ told_step v n p (passed a s n p).out rest
here v a st cells word steps s n vars go rest (bind x e t) h r =
    let k = h.step in
    ap (visit n) (r.on t (bound vars x (value_at st vars e).bits) (omega (arith, k.3)) k.4 (bind_follows v a st cells word steps s n vars x e t h))
here v a st cells word steps s n vars go rest (branch e t o) h r =
    let k = h.step in
    let q = branch_follows v a st cells word steps s n vars e t o h in
    let test = eqb (value_at st vars e).bits 1 in
    ap (λ (r : RunData). visit n (left n test r)) (chosen_on test (λ d. r.on t vars (omega (arith, k.1)) k.2 (q.on_then d)) (λ d. r.on o vars (omega (arith, k.3)) k.4 (q.on_other d)))
    ∙ ap (λ (d : Bool). visit n (left n d rest)) (sym q.then_is)
  where
    chosen_on : (b : Bool) → (b ≡ true → go t vars ≡ rest) → (b ≡ false → go o vars ≡ rest) → go (cond b t o) vars ≡ rest
    chosen_on true f g = f refl
    chosen_on false f g = g refl
here v a st cells word steps s n vars go rest (read x e m t o) h r =
    let k = h.step in
    let q = read_follows v a st cells word steps s n vars x e m t o h in
    let o2 = (passed a s n (read x e m t o)).out in
    read_step (cells (value_at st vars e).bits) (v s.word).bits n (value_at st vars e).bits x t o go vars rest
    (λ d. r.on t (bound vars x (v s.word).bits) (omega (arith, k.2)) k.3 (q.on_then d)) (λ d. r.on o vars (omega (arith, k.4)) k.5 (q.on_other d))
    ∙ ap (λ (d : Bool). record { path = n ∷ rest.path; sides = record { node = n; by_then = d } ∷ rest.sides; reads = made_if d (record { node = n; cell = (value_at st vars e).bits; word = (v s.word).bits }) rest.reads; end = rest.end }) (sym q.then_is)
    ∙ ap (λ (d : Bv). record { path = n ∷ rest.path; sides = record { node = n; by_then = is_one (v o2.by_then) } ∷ rest.sides; reads = made_if (is_one (v o2.by_then)) (record { node = n; cell = d.bits; word = (v s.word).bits }) rest.reads; end = rest.end }) (sym q.value_is)
here v a st cells word steps s n vars go rest (fault c) h r =
    let d = r.over vars (over_at v a steps s n vars h.follows.comes h.follows.wide) in
    ended_told n (Fault n c) rest d.0 d.1 d.2
here v a st cells word steps s n vars go rest (done e p) h r =
    let f = h.follows in
    let w = valued_here v a st cells steps s n vars e a.address h.is_of (f.keeps (omega arith)) f.wide h.clean h.step h.lawful in
    let d = r.over vars (over_at v a steps (with_terms s (form_placed s.terms (form_of (named a s) e)).terms) n vars f.comes f.wide) in
    ended_told n (Done n (value_at st vars e).bits p) rest d.0 d.1 d.2
    ∙ ap (λ (b : Bv). record { path = n ∷ rest.path; sides = rest.sides; reads = rest.reads; end = Done n b.bits p }) (sym w.value_is)

-- where the node is no end, the walk goes on
pub goes_on : (v : Valuation) (a : Access) (st : EnvData) (cells : ℕ → Bool) (word : ℕ) (steps : List ActData) (s : State) (n : ℕ) (vars : Vars) (r : Type 0) (p : ActData)
    → IsHere v a st cells word steps s n vars p → is_end p ≡ false
    → ((to : ℕ) (vars2 : Vars) → n + 1 ≤ to → to < length steps → Follows v a steps (passed a s n p).state (n + 1) to vars2 → r) → r
goes_on v a st cells word steps s n vars r (bind x e t) h end on =
    let k = h.step in
    on t (bound vars x (value_at st vars e).bits) (omega (arith, k.3)) k.4 (bind_follows v a st cells word steps s n vars x e t h)
goes_on v a st cells word steps s n vars r (branch e t o) h end on =
    let k = h.step in
    let q = branch_follows v a st cells word steps s n vars e t o h in
    ⊎_elim (λ (d : eqb (value_at st vars e).bits 1 ≡ true). on t vars (omega (arith, k.1)) k.2 (q.on_then d)) (λ (d : eqb (value_at st vars e).bits 1 ≡ false). on o vars (omega (arith, k.3)) k.4 (q.on_other d)) (cases_Bool (eqb (value_at st vars e).bits 1))
goes_on v a st cells word steps s n vars r (read x e m t o) h end on =
    let k = h.step in
    let q = read_follows v a st cells word steps s n vars x e m t o h in
    ⊎_elim (λ (d : cells (value_at st vars e).bits ≡ true). on t (bound vars x (v s.word).bits) (omega (arith, k.2)) k.3 (q.on_then d)) (λ (d : cells (value_at st vars e).bits ≡ false). on o vars (omega (arith, k.4)) k.5 (q.on_other d)) (cases_Bool (cells (value_at st vars e).bits))
goes_on v a st cells word steps s n vars r (fault c) h end on = absurd (false≢true (sym end))
goes_on v a st cells word steps s n vars r (done e p) h end on = absurd (false≢true (sym end))

-- ---- the whole walk

abbrev pub words_of : Valuation → List Out → List ℕ
words_of v outs = map (λ o. (v o.word).bits) outs

-- the terms of words have the word's width
abbrev pub WordsWide : Valuation → Access → ℕ → State → List ActData → ℕ → Type 0
WordsWide v a word s [] n = Unit {0}
WordsWide v a word s (p ∷ ps) n = (is_read p ≡ true → (v s.word).width.0 ≡ word) × WordsWide v a word (passed a (noted s n) n p).state ps (n + 1)

pub left_next : (a : Access) (word : ℕ) (steps ps : List ActData) (p : ActData) (n : ℕ) → AreLeft a word steps (p ∷ ps) n → AreLeft a word steps ps (n + 1)
left_next a word steps ps p n h = record {
  at = λ k q e. let m : n + suc k ≡ n + 1 + k = omega arith in subst (λ (j : ℕ). slice_get steps j ≡ Some q) m (h.at (suc k) q e);
  count = let z : n + length (p ∷ ps) ≡ length steps = h.count in omega (arith, z);
  sound = h.sound;
  clean = h.clean;
}

pub first_at : (a : Access) (word : ℕ) (steps ps : List ActData) (p : ActData) (n : ℕ) → AreLeft a word steps (p ∷ ps) n → slice_get steps n ≡ Some p
first_at a word steps ps p n h = let m : n + 0 ≡ n = omega arith in subst (λ (j : ℕ). slice_get steps j ≡ Some p) m (h.at 0 p refl)

pub told_first : (v : Valuation) (a : Access) (s : State) (p : ActData) (n : ℕ) → (passed a s n p).out.come ≡ s.come n
told_first v a s (bind x e t) n = refl
told_first v a s (read x e g t o) n = refl
told_first v a s (branch e t o) n = refl
told_first v a s (fault c) n = refl
told_first v a s (done e p) n = refl

-- a node that the walk comes to, or goes by, before the rest of the nodes
record IsCome (v : Valuation) (a : Access) (st : EnvData) (cells : ℕ → Bool) (word : ℕ) (steps : List ActData) (s : State) (n : ℕ) (vars : Vars) (p : ActData) : Type 0 where
  here : IsHere v a st cells word steps (noted s n) n vars p
  come : is_one (v (passed a (noted s n) n p).out.come) ≡ true

record IsBy (v : Valuation) (a : Access) (steps : List ActData) (s : State) (n to : ℕ) (vars : Vars) (p : ActData) : Type 0 where
  follows : Follows v a steps (passed a (noted s n) n p).state (n + 1) to vars
  come : is_one (v (passed a (noted s n) n p).out.come) ≡ false

goes_by : (v : Valuation) (a : Access) (st : EnvData) (cells : ℕ → Bool) (word : ℕ) (steps ps : List ActData) (p : ActData) (s : State) (n to : ℕ) (vars : Vars) → IsOf v a st cells → AreLeft a word steps (p ∷ ps) n → WordsWide v a word s (p ∷ ps) n
    → IsLawful v (walk_placed a s (p ∷ ps) n).terms → (to ≡ n → ⊥) → Follows v a steps s n to vars → IsBy v a steps s n to vars p
goes_by v a st cells word steps ps p s n to vars i left wide h ne f =
    let q = passed a (noted s n) n p in
    record {
      follows = not_here v a st cells word (length steps) steps (noted s n) n to vars p i (left.sound n p (first_at a word steps ps p n left)) wide.0 (walk_before v a ps q.state (n + 1) h) ne (noted_follows v a steps s n to vars f);
      come = ap (λ (j : ℕ). is_one (v j)) (told_first v a (noted s n) p n) ∙ ap is_one (come_false v s n to f.comes ne);
    }

comes_to : (v : Valuation) (a : Access) (st : EnvData) (cells : ℕ → Bool) (word : ℕ) (steps ps : List ActData) (p : ActData) (s : State) (n to : ℕ) (vars : Vars) → IsOf v a st cells → AreLeft a word steps (p ∷ ps) n → WordsWide v a word s (p ∷ ps) n
    → IsLawful v (walk_placed a s (p ∷ ps) n).terms → to ≡ n → Follows v a steps s n to vars → IsCome v a st cells word steps s n vars p
comes_to v a st cells word steps ps p s n to vars i left wide h same f =
    let at = first_at a word steps ps p n left in
    let fn : Follows v a steps s n n vars = subst (λ (j : ℕ). Follows v a steps s n j vars) same f in
    record {
      here = record { is_of = i; at = at; step = left.sound n p at; clean = left.clean n p at; word_wide = wide.0; lawful = walk_before v a ps (passed a (noted s n) n p).state (n + 1) h; follows = noted_follows v a steps s n n vars fn };
      come = ap (λ (j : ℕ). is_one (v j)) (told_first v a (noted s n) p n) ∙ ap is_one (come_true v s n fn.comes);
    }

-- after its end the walk comes to no node
pub over_none : (v : Valuation) (a : Access) (st : EnvData) (cells : ℕ → Bool) (word : ℕ) (steps ps : List ActData) (s : State) (n to : ℕ) (vars : Vars) → IsOf v a st cells → AreLeft a word steps ps n → WordsWide v a word s ps n
    → IsLawful v (walk_placed a s ps n).terms → to < n → Follows v a steps s n to vars → ((told v ps (walk_placed a s ps n).outs n).path ≡ []) × ((told v ps (walk_placed a s ps n).outs n).reads ≡ []) × ((told v ps (walk_placed a s ps n).outs n).sides ≡ [])
over_none v a st cells word steps [] s n to vars i left wide h l f = (refl, refl, refl)
over_none v a st cells word steps (p ∷ ps) s n to vars i left wide h l f =
    let q = passed a (noted s n) n p in
    let by = goes_by v a st cells word steps ps p s n to vars i left wide h (λ e. omega (arith, e, l)) f in
    let z : is_one (v q.out.come) ≡ false = by.come in
    let d = over_none v a st cells word steps ps q.state (n + 1) to vars i (left_next a word steps ps p n left) wide.1 h (omega arith) by.follows in
    let rest = told v ps (walk_placed a q.state ps (n + 1)).outs (n + 1) in
    (ap (λ (b : Bool). (cond b (told_step v n p q.out rest) rest).path) z ∙ d.0, ap (λ (b : Bool). (cond b (told_step v n p q.out rest) rest).reads) z ∙ d.1, ap (λ (b : Bool). (cond b (told_step v n p q.out rest) rest).sides) z ∙ d.2)

-- the walk is what the terms tell
pub walk_told : (v : Valuation) (a : Access) (st : EnvData) (cells : ℕ → Bool) (word : ℕ) (steps ps : List ActData) (s : State) (n to : ℕ) (vars : Vars) → IsOf v a st cells → AreLeft a word steps ps n → WordsWide v a word s ps n
    → IsLawful v (walk_placed a s ps n).terms → n ≤ to → to < length steps → Follows v a steps s n to vars
    → walk_with st cells (words_of v (walk_placed a s ps n).outs) ps n to vars ≡ told v ps (walk_placed a s ps n).outs n
walk_told v a st cells word steps [] s n to vars i left wide h l m f = absurd (let z : n + 0 ≡ length steps = left.count in omega (arith, z))
walk_told v a st cells word steps (p ∷ ps) s n to vars i left wide h l m f =
    by_place (λ to2 vars2 l2 m2 g. walk_told v a st cells word steps ps (passed a (noted s n) n p).state (n + 1) to2 vars2 i (left_next a word steps ps p n left) wide.1 h l2 m2 g) (cases_Bool (eqb n to))
  where
    by_place : ((to2 : ℕ) (vars2 : Vars) → n + 1 ≤ to2 → to2 < length steps → Follows v a steps (passed a (noted s n) n p).state (n + 1) to2 vars2 → walk_with st cells (words_of v (walk_placed a (passed a (noted s n) n p).state ps (n + 1)).outs) ps (n + 1) to2 vars2 ≡ told v ps (walk_placed a (passed a (noted s n) n p).state ps (n + 1)).outs (n + 1)) → (eqb n to ≡ true) ⊎ (eqb n to ≡ false) → walk_with st cells (words_of v (walk_placed a s (p ∷ ps) n).outs) (p ∷ ps) n to vars ≡ told v (p ∷ ps) (walk_placed a s (p ∷ ps) n).outs n
    by_place ih (inr e) =
        let q = passed a (noted s n) n p in
        let ne : to ≡ n → ⊥ = λ z. eqb-false n to e (sym z) in
        let by = goes_by v a st cells word steps ps p s n to vars i left wide h ne f in
        let r = walk_placed a q.state ps (n + 1) in
        let rest = told v ps r.outs (n + 1) in
        let go = walk_with st cells (words_of v r.outs) ps (n + 1) in
        let d = ih to vars (omega (arith, l, ne)) m by.follows in
        ap (λ (b : Bool). cond b (acted_with st cells (v q.out.word).bits n p go vars) (go to vars)) e ∙ d ∙ sym (ap (λ (b : Bool). cond b (told_step v n p q.out rest) rest) by.come)
    by_place ih (inl e) =
        let q = passed a (noted s n) n p in
        let c = comes_to v a st cells word steps ps p s n to vars i left wide h (sym (eqb-true n to e)) f in
        let r = walk_placed a q.state ps (n + 1) in
        let rest = told v ps r.outs (n + 1) in
        let go = walk_with st cells (words_of v r.outs) ps (n + 1) in
        let on : GoesOn v a steps q.state n go rest = record {
          on = ih;
          over = λ vars2 g. over_none v a st cells word steps ps q.state (n + 1) n vars2 i (left_next a word steps ps p n left) wide.1 h (omega arith) g;
        } in
        ap (λ (b : Bool). cond b (acted_with st cells (v q.out.word).bits n p go vars) (go to vars)) e
        ∙ here v a st cells word steps (noted s n) n vars go rest p c.here on
        ∙ sym (ap (λ (b : Bool). cond b (told_step v n p q.out rest) rest) c.come)

-- ---- the end

end_told : (v : Valuation) (n : ℕ) (p : ActData) (o : Out) (r : RunData) → is_end p ≡ true → EndsBy p (told_step v n p o r).end
end_told v n (bind x e to) o r h = absurd (false≢true h)
end_told v n (read x e g t f) o r h = absurd (false≢true h)
end_told v n (branch e t f) o r h = absurd (false≢true h)
end_told v n (fault c) o r h = refl
end_told v n (done e p) o r h = refl

end_later : (v : Valuation) (n : ℕ) (p : ActData) (o : Out) (r : RunData) → is_end p ≡ false → (told_step v n p o r).end ≡ r.end
end_later v n (bind x e to) o r h = refl
end_later v n (read x e g t f) o r h = refl
end_later v n (branch e t f) o r h = refl
end_later v n (fault c) o r h = absurd (false≢true (sym h))
end_later v n (done e p) o r h = absurd (false≢true (sym h))

pub path_told : (v : Valuation) (n : ℕ) (p : ActData) (o : Out) (r : RunData) → (told_step v n p o r).path ≡ n ∷ r.path
path_told v n (bind x e to) o r = refl
path_told v n (read x e g t f) o r = refl
path_told v n (branch e t f) o r = refl
path_told v n (fault c) o r = refl
path_told v n (done e p) o r = refl

-- where no node is told, none is come to
none_told : (v : Valuation) (ps : List ActData) (os : List Out) (n : ℕ) → (told v ps os n).path ≡ [] → NoEnd v ps os
none_told v [] os n h = tt
none_told v (p ∷ ps) [] n h = tt
none_told v (p ∷ ps) (o ∷ os) n h = by_come (λ k. none_told v ps os (n + 1) k) (is_one (v o.come)) refl h
  where
    by_come : ((told v ps os (n + 1)).path ≡ [] → NoEnd v ps os) → (b : Bool) → is_one (v o.come) ≡ b → (cond b (told_step v n p o (told v ps os (n + 1))) (told v ps os (n + 1))).path ≡ [] → NoEnd v (p ∷ ps) (o ∷ os)
    by_come ih true e k = absurd (let z = sym (path_told v n p o (told v ps os (n + 1))) ∙ k in cc)
    by_come ih false e k = (ap (λ (b : Bool). is_end p && b) e ∙ and_right (is_end p) false refl, ih k)

pub over_end : (v : Valuation) (a : Access) (st : EnvData) (cells : ℕ → Bool) (word : ℕ) (steps : List ActData) (s : State) (n : ℕ) (vars : Vars) (p : ActData) → Follows v a steps s n n vars → is_end p ≡ true → Follows v a steps (passed a s n p).state (n + 1) n vars
over_end v a st cells word steps s n vars (bind x e to) f h = absurd (false≢true h)
over_end v a st cells word steps s n vars (read x e g t o) f h = absurd (false≢true h)
over_end v a st cells word steps s n vars (branch e t o) f h = absurd (false≢true h)
over_end v a st cells word steps s n vars (fault c) f h = over_at v a steps s n vars f.comes f.wide
over_end v a st cells word steps s n vars (done e p) f h = over_at v a steps (with_terms s (form_placed s.terms (form_of (named a s) e)).terms) n vars f.comes f.wide

-- the walk comes to one end, which is the one that is told
pub ends_once : (v : Valuation) (a : Access) (st : EnvData) (cells : ℕ → Bool) (word : ℕ) (steps ps : List ActData) (s : State) (n to : ℕ) (vars : Vars) → IsOf v a st cells → AreLeft a word steps ps n → WordsWide v a word s ps n
    → IsLawful v (walk_placed a s ps n).terms → n ≤ to → to < length steps → Follows v a steps s n to vars
    → EndsOnce v ps (walk_placed a s ps n).outs (told v ps (walk_placed a s ps n).outs n).end
ends_once v a st cells word steps [] s n to vars i left wide h l m f = absurd (let z : n + 0 ≡ length steps = left.count in omega (arith, z))
ends_once v a st cells word steps (p ∷ ps) s n to vars i left wide h l m f =
    by_place (λ to2 vars2 l2 m2 g. ends_once v a st cells word steps ps (passed a (noted s n) n p).state (n + 1) to2 vars2 i (left_next a word steps ps p n left) wide.1 h l2 m2 g) (cases_Bool (eqb n to)) (cases_Bool (is_end p))
  where
    by_place : ((to2 : ℕ) (vars2 : Vars) → n + 1 ≤ to2 → to2 < length steps → Follows v a steps (passed a (noted s n) n p).state (n + 1) to2 vars2 → EndsOnce v ps (walk_placed a (passed a (noted s n) n p).state ps (n + 1)).outs (told v ps (walk_placed a (passed a (noted s n) n p).state ps (n + 1)).outs (n + 1)).end)
        → (eqb n to ≡ true) ⊎ (eqb n to ≡ false) → (is_end p ≡ true) ⊎ (is_end p ≡ false) → EndsOnce v (p ∷ ps) (walk_placed a s (p ∷ ps) n).outs (told v (p ∷ ps) (walk_placed a s (p ∷ ps) n).outs n).end
    by_place ih (inr e) x =
        let q = passed a (noted s n) n p in
        let ne : to ≡ n → ⊥ = λ z. eqb-false n to e (sym z) in
        let by = goes_by v a st cells word steps ps p s n to vars i left wide h ne f in
        let r = walk_placed a q.state ps (n + 1) in
        let rest = told v ps r.outs (n + 1) in
        inr (
          ap (λ (b : Bool). is_end p && b) by.come ∙ and_right (is_end p) false refl,
          subst (λ (b : Bool). EndsOnce v ps r.outs (cond b (told_step v n p q.out rest) rest).end) (sym by.come) (ih to vars (omega (arith, l, ne)) m by.follows),
        )
    by_place ih (inl e) (inl x) =
        let q = passed a (noted s n) n p in
        let c = comes_to v a st cells word steps ps p s n to vars i left wide h (sym (eqb-true n to e)) f in
        let r = walk_placed a q.state ps (n + 1) in
        let rest = told v ps r.outs (n + 1) in
        let none : rest.path ≡ [] = (over_none v a st cells word steps ps q.state (n + 1) n vars i (left_next a word steps ps p n left) wide.1 h (omega arith) (over_end v a st cells word steps (noted s n) n vars p c.here.follows x)).0 in
        subst (λ (b : Bool). EndsOnce v (p ∷ ps) (q.out ∷ r.outs) (cond b (told_step v n p q.out rest) rest).end) (sym c.come)
        (inl (c.come, end_told v n p q.out rest x, none_told v ps r.outs (n + 1) none))
    by_place ih (inl e) (inr x) =
        let q = passed a (noted s n) n p in
        let c = comes_to v a st cells word steps ps p s n to vars i left wide h (sym (eqb-true n to e)) f in
        let r = walk_placed a q.state ps (n + 1) in
        let rest = told v ps r.outs (n + 1) in
        let later : EndsOnce v ps r.outs rest.end = goes_on v a st cells word steps (noted s n) n vars (EndsOnce v ps r.outs rest.end) p c.here x ih in
        subst (λ (b : Bool). EndsOnce v (p ∷ ps) (q.out ∷ r.outs) (cond b (told_step v n p q.out rest) rest).end) (sym c.come)
        (inr (and_left (is_end p) _ x, subst (λ (d : End). EndsOnce v ps r.outs d) (sym (end_later v n p q.out rest x)) later))
