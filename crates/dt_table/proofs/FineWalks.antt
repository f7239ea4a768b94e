-- The terms of an access's nodes are well formed, and of the right widths.
use Rattle.std.proofs.Common.{◌≡◌, ℕ, suc, ◌+◌, ◌-◌, ◌*◌, ◌<◌, ◌≤◌, ◌^◌, Bool, true, false, cond, eqb, leb, List, [], ◌∷◌, length, Option, Some, None, refl, sym, ap, ◌∙◌, subst, arith}
use Rattle.std.specs.Prelude.{IfSome}
use Rattle.std.proofs.lemmas.Nat.{pow_pos}
use Rattle.std.proofs.lemmas.Bool.{eq-eqb, eqb-false, eqb-true, leb-false, false≢true, cond-true, and_from, lt-ltb, le-leb}
use Rattle.dt_bits.specs.Bits.{IsWidth}
use Rattle.dt_bits.specs.declared.op.Op.TheVariants.{Slice, Or, Ite}
use Rattle.dt_model.specs.ModelData.{ActData, bind, read, branch, fault, done}
use Rattle.dt_model.specs.Faults.{is_read, step_operators}
use Rattle.dt_model.specs.Widths.{width_at}
use Rattle.dt_terms.specs.declared.term.Term.{Term}
use Rattle.dt_terms.specs.Terms.{AreTerms}
use Rattle.dt_forms.specs.Forms.{term, number, form1, form2, form3, form_placed, not_of, both_of, same_of, less_of}
use Rattle.dt_forms.specs.Sizes.{form_size, Grows}
use Rattle.dt_forms.proofs.Sizes.{grows_none, grows_on, grows_within}
use Rattle.dt_forms.proofs.Fine.{IsSized, sized_on, IsFine, fine_sized, fine_grows, term_fine, number_fine, one_fine, three_fine, not_fine, both_fine, or_fine, same_fine, less_fine}
use Rattle.dt_table.specs.Expressions.{form_of}
use Rattle.dt_table.specs.declared.out.Out.{Out}
use Rattle.dt_table.specs.Passing.{Access, State, named, with_terms, join, part, chosen, assign, fork, aligned, above, below, is_cell, next_word, passed, noted, walk_placed}
use Rattle.dt_table.proofs.FineTrees.{AreSized, tree_fine, tree_size}
use Rattle.dt_table.proofs.Flagged.{AllOuts, tells_address}
use Rattle.dt_table.proofs.Nodes.{IsStep, AreLeft, left_next, first_at}
use Rattle.dt_table.proofs.Ready.{reads_in}

-- ---- what is asked of bounds

-- addresses are wide enough for the bytes of a word, and table memory ends within them
pub record IsPlain (a : Access) : Type 0 where
  pub wide : IsWidth a.address
  pub align : a.align < a.address
  pub order : a.lo ≤ a.hi
  pub within : a.hi ≤ 2 ^ a.address

-- ---- states

-- the state's terms have their widths, and those of so many words are left
pub record IsSound (a : Access) (word left : ℕ) (terms : List Term) (s : State) : Type 0 where
  pub terms_are : AreTerms terms
  pub zero_is : IsSized terms a.zero_term 1
  pub one_is : IsSized terms a.one_term 1
  pub names : AreSized terms (named a s)
  pub come : (k : ℕ) → IsSized terms (s.come k) 1
  pub away : IsSized terms s.away 1
  pub words : (j : ℕ) → j < left → IsSized terms (s.word + j) word

some_on : (xs ys : List Term) (k w : ℕ) (o : Option ℕ) → Grows xs ys k → IfSome o (λ t. IsSized xs t w) → IfSome o (λ t. IsSized ys t w)
some_on xs ys k w None g h = tt
some_on xs ys k w (Some t) g h = sized_on xs ys k t w g h

pub sound_on : (a : Access) (word left : ℕ) (xs ys : List Term) (k : ℕ) (s : State) → Grows xs ys k → IsSound a word left xs s → IsSound a word left ys s
sound_on a word left xs ys k s g h = record {
  terms_are = g.terms_are;
  zero_is = sized_on xs ys k a.zero_term 1 g h.zero_is;
  one_is = sized_on xs ys k a.one_term 1 g h.one_is;
  names = record {
    regs = λ i w e. sized_on xs ys k (a.regs + i) w g (h.names.regs i w e);
    inputs = λ i w e. sized_on xs ys k (a.inputs + i) w g (h.names.inputs i w e);
    vars = λ x w e. some_on xs ys k w (s.vars x) g (h.names.vars x w e);
    wide = h.names.wide;
  };
  come = λ n. sized_on xs ys k (s.come n) 1 g (h.come n);
  away = sized_on xs ys k s.away 1 g h.away;
  words = λ j l. sized_on xs ys k (s.word + j) word g (h.words j l);
}

-- the same state beside other terms of its own
pub sound_with : (a : Access) (word left : ℕ) (terms others : List Term) (s : State) → IsSound a word left terms s → IsSound a word left terms (with_terms s others)
sound_with a word left terms others s h = record { terms_are = h.terms_are; zero_is = h.zero_is; one_is = h.one_is; names = record { regs = h.names.regs; inputs = h.names.inputs; vars = h.names.vars; wide = h.names.wide }; come = h.come; away = h.away; words = h.words }

-- a state after another: its terms go on by so many at most
pub record IsAfter (a : Access) (word left : ℕ) (terms : List Term) (s : State) (k : ℕ) : Type 0 where
  pub grows : Grows terms s.terms k
  pub sound : IsSound a word left s.terms s

-- ---- edges

join_sound : (a : Access) (word left : ℕ) (s : State) (to taken : ℕ) → IsSound a word left s.terms s → IsSized s.terms taken 1 → IsAfter a word left s.terms (join s to taken) 1
join_sound a word left s to taken h t =
    let f = form2 Or (term (s.come to)) (term taken) in
    let i = or_fine s.terms (term (s.come to)) (term taken) (term_fine s.terms (s.come to) 1 (h.come to)) (term_fine s.terms taken 1 t) in
    let x = form_placed s.terms f in
    let g = fine_grows s.terms f 1 h.terms_are i in
    let z = fine_sized s.terms f 1 h.terms_are i in
    let on = sound_on a word left s.terms x.terms 1 s g h in
    record { grows = g; sound = record { terms_are = on.terms_are; zero_is = on.zero_is; one_is = on.one_is; names = record { regs = on.names.regs; inputs = on.names.inputs; vars = on.names.vars; wide = on.names.wide }; come = λ n. by_node n (eqb n to) z (on.come n); away = on.away; words = on.words } }
  where
    by_node : (n : ℕ) (b : Bool) → IsSized (join s to taken).terms (form_placed s.terms (form2 Or (term (s.come to)) (term taken))).at 1 → IsSized (join s to taken).terms (s.come n) 1
        → IsSized (join s to taken).terms (cond b (form_placed s.terms (form2 Or (term (s.come to)) (term taken))).at (s.come n)) 1
    by_node n true p q = p
    by_node n false p q = q

part_sound : (a : Access) (word left : ℕ) (s : State) (t tt o oo : ℕ) → IsSound a word left s.terms s → IsSized s.terms tt 1 → IsSized s.terms oo 1 → IsAfter a word left s.terms (part s t tt o oo) 2
part_sound a word left s t tt o oo h p q =
    let x = join_sound a word left s t tt h p in
    let s1 = join s t tt in
    let y = join_sound a word left s1 o oo x.sound (sized_on s.terms s1.terms 1 oo 1 x.grows q) in
    record { grows = grows_on s.terms s1.terms (part s t tt o oo).terms 1 1 x.grows y.grows; sound = y.sound }

-- the state after an assignment to a variable that has this term, or none
abbrev assigned : State → ℕ → ℕ → ℕ → Option ℕ → State
assigned s x taken new o = let y = chosen s.terms o taken new in record { terms = y.terms; vars = λ v. cond (eqb v x) (Some y.at) (s.vars v); come = s.come; word = s.word; away = s.away }

assign_sound : (a : Access) (word left : ℕ) (s : State) (x taken new w : ℕ) → IsSound a word left s.terms s → width_at a.scope.vars x ≡ Some w → IsSized s.terms taken 1 → IsSized s.terms new w → IsAfter a word left s.terms (assign s x taken new) 1
assign_sound a word left s x taken new w h e t n = by_old (s.vars x) (h.names.vars x w e)
  where
    has_var : (terms : List Term) (at : ℕ) → IsSound a word left terms s → IsSized terms at w → (v u : ℕ) → width_at a.scope.vars v ≡ Some u → IfSome (cond (eqb v x) (Some at) (s.vars v)) (λ t. IsSized terms t u)
    has_var terms at on z v u f = by_var (eqb v x) refl
      where
        by_var : (b : Bool) → eqb v x ≡ b → IfSome (cond b (Some at) (s.vars v)) (λ t. IsSized terms t u)
        by_var true q =
            let same : Some w ≡ Some u = sym e ∙ ap (width_at a.scope.vars) (sym (eqb-true v x q)) ∙ f in
            let width : w ≡ u = cc in
            subst (λ (m : ℕ). IsSized terms at m) width z
        by_var false q = on.names.vars v u f

    whole : (terms : List Term) (at k : ℕ) → Grows s.terms terms k → IsSized terms at w → IsSound a word left terms (record { terms = terms; vars = λ v. cond (eqb v x) (Some at) (s.vars v); come = s.come; word = s.word; away = s.away })
    whole terms at k g z =
        let on = sound_on a word left s.terms terms k s g h in
        record { terms_are = on.terms_are; zero_is = on.zero_is; one_is = on.one_is; names = record { regs = on.names.regs; inputs = on.names.inputs; vars = has_var terms at on z; wide = on.names.wide }; come = on.come; away = on.away; words = on.words }

    by_old : (o : Option ℕ) → IfSome o (λ t. IsSized s.terms t w) → IsAfter a word left s.terms (assigned s x taken new o) 1
    by_old None old = let g = grows_within s.terms s.terms 0 1 (omega arith) (grows_none s.terms h.terms_are) in record { grows = g; sound = whole s.terms new 1 g n }
    by_old (Some b) old =
        let f = form3 Ite (term taken) (term new) (term b) in
        let i = three_fine s.terms Ite (term taken) (term new) (term b) 1 w w w refl (term_fine s.terms taken 1 t) (term_fine s.terms new w n) (term_fine s.terms b w old) (cond-true _ (Some w) None (and_from _ _ refl (eq-eqb w w refl))) in
        let g = fine_grows s.terms f w h.terms_are i in
        record { grows = g; sound = whole (form_placed s.terms f).terms (form_placed s.terms f).at 1 g (fine_sized s.terms f w h.terms_are i) }

-- the terms of a fork's edges
record IsForked (terms : List Term) (come test : ℕ) : Type 0 where
  grows : Grows terms (fork terms come test).terms 3
  by_then : IsSized (fork terms come test).terms (fork terms come test).by_then 1
  by_other : IsSized (fork terms come test).terms (fork terms come test).by_other 1

fork_sound : (terms : List Term) (come test : ℕ) → AreTerms terms → IsSized terms come 1 → IsSized terms test 1 → IsForked terms come test
fork_sound terms come test h c t =
    let f = both_of (term come) (term test) in
    let x = form_placed terms f in
    let i = both_fine terms (term come) (term test) (term_fine terms come 1 c) (term_fine terms test 1 t) in
    let g = fine_grows terms f 1 h i in
    let other = both_of (term come) (not_of (term test)) in
    let c2 = sized_on terms x.terms 1 come 1 g c in
    let t2 = sized_on terms x.terms 1 test 1 g t in
    let j = both_fine x.terms (term come) (not_of (term test)) (term_fine x.terms come 1 c2) (not_fine x.terms (term test) (term_fine x.terms test 1 t2)) in
    let k = fine_grows x.terms other 1 g.terms_are j in
    record {
      grows = grows_on terms x.terms (form_placed x.terms other).terms 1 2 g k;
      by_then = sized_on x.terms (form_placed x.terms other).terms 2 x.at 1 k (fine_sized terms f 1 h i);
      by_other = fine_sized x.terms other 1 g.terms_are j;
    }

-- ---- cells

aligned_fine : (terms : List Term) (a : Access) (cell : ℕ) → IsPlain a → IsSized terms a.one_term 1 → IsSized terms cell a.address → IsFine terms (aligned a cell) 1 × (form_size (aligned a cell) ≤ 3)
aligned_fine terms a cell h one c = by_case (eqb a.align 0) refl
  where
    by_case : (b : Bool) → eqb a.align 0 ≡ b → (let f = cond b (term a.one_term) (same_of (form1 (Slice (a.align - 1) 0) (term cell)) (number a.align 0)) in IsFine terms f 1 × (form_size f ≤ 3))
    by_case true e = (term_fine terms a.one_term 1 one, omega arith)
    by_case false e =
        let ne = eqb-false a.align 0 e in
        let m : a.align - 1 - 0 + 1 ≡ a.align = omega (arith, ne) in
        let wide : IsWidth a.align = (omega (arith, ne), omega (arith, h.align, h.wide.1)) in
        let fits = and_from (leb 0 (a.align - 1)) _ (le-leb 0 (a.align - 1) (omega arith)) (lt-ltb (a.align - 1) a.address (omega (arith, ne, h.align))) in
        let part = one_fine terms (Slice (a.align - 1) 0) (term cell) a.address a.align refl (term_fine terms cell a.address c) (cond-true _ (Some (a.align - 1 - 0 + 1)) None fits ∙ ap (λ (n : ℕ). Some n) m) in
        (same_fine terms (form1 (Slice (a.align - 1) 0) (term cell)) (number a.align 0) a.align part (number_fine terms a.align 0 wide (pow_pos a.align)), omega arith)

above_fine : (terms : List Term) (a : Access) (cell : ℕ) → IsPlain a → IsSized terms a.zero_term 1 → IsSized terms cell a.address → IsFine terms (above a cell) 1 × (form_size (above a cell) ≤ 3)
above_fine terms a cell h none c = by_case (leb (2 ^ a.address) a.lo) refl
  where
    by_case : (b : Bool) → leb (2 ^ a.address) a.lo ≡ b → (let f = cond b (term a.zero_term) (not_of (less_of (term cell) (number a.address a.lo))) in IsFine terms f 1 × (form_size f ≤ 3))
    by_case true e = (term_fine terms a.zero_term 1 none, omega arith)
    by_case false e =
        let l = leb-false (2 ^ a.address) a.lo e in
        (not_fine terms (less_of (term cell) (number a.address a.lo)) (less_fine terms (term cell) (number a.address a.lo) a.address (term_fine terms cell a.address c) (number_fine terms a.address a.lo h.wide (omega (arith, l)))), omega arith)

below_fine : (terms : List Term) (a : Access) (cell : ℕ) → IsPlain a → IsSized terms a.one_term 1 → IsSized terms cell a.address → IsFine terms (below a cell) 1 × (form_size (below a cell) ≤ 2)
below_fine terms a cell h one c = by_case (leb (2 ^ a.address) a.hi) refl
  where
    by_case : (b : Bool) → leb (2 ^ a.address) a.hi ≡ b → (let f = cond b (term a.one_term) (less_of (term cell) (number a.address a.hi)) in IsFine terms f 1 × (form_size f ≤ 2))
    by_case true e = (term_fine terms a.one_term 1 one, omega arith)
    by_case false e =
        let l = leb-false (2 ^ a.address) a.hi e in
        (less_fine terms (term cell) (number a.address a.hi) a.address (term_fine terms cell a.address c) (number_fine terms a.address a.hi h.wide (omega (arith, l))), omega arith)

cell_fine : (terms : List Term) (a : Access) (cell : ℕ) → IsPlain a → IsSized terms a.zero_term 1 → IsSized terms a.one_term 1 → IsSized terms cell a.address → IsFine terms (is_cell a cell) 1 × (form_size (is_cell a cell) ≤ 10)
cell_fine terms a cell h none one c =
    let x = aligned_fine terms a cell h one c in
    let y = above_fine terms a cell h none c in
    let z = below_fine terms a cell h one c in
    (both_fine terms (aligned a cell) (both_of (above a cell) (below a cell)) x.0 (both_fine terms (above a cell) (below a cell) y.0 z.0), omega (arith, x.1, y.1, z.1))

-- ---- nodes

-- what stands for a step has its widths
pub record IsOutSized (address word : ℕ) (terms : List Term) (p : ActData) (o : Out) : Type 0 where
  pub come : IsSized terms o.come 1
  pub by_then : IsSized terms o.by_then 1
  pub by_other : IsSized terms o.by_other 1
  pub away : IsSized terms o.away 1
  pub value : tells_address p ≡ true → IsSized terms o.value address
  pub word_is : is_read p ≡ true → IsSized terms o.word word

out_on : (address word : ℕ) (xs ys : List Term) (k : ℕ) (p : ActData) (o : Out) → Grows xs ys k → IsOutSized address word xs p o → IsOutSized address word ys p o
out_on address word xs ys k p o g h = record {
  come = sized_on xs ys k o.come 1 g h.come;
  by_then = sized_on xs ys k o.by_then 1 g h.by_then;
  by_other = sized_on xs ys k o.by_other 1 g h.by_other;
  away = sized_on xs ys k o.away 1 g h.away;
  value = λ e. sized_on xs ys k o.value address g (h.value e);
  word_is = λ e. sized_on xs ys k o.word word g (h.word_is e);
}

pub outs_on : (address word : ℕ) (xs ys : List Term) (k : ℕ) (ps : List ActData) (os : List Out) → Grows xs ys k → AllOuts (IsOutSized address word xs) ps os → AllOuts (IsOutSized address word ys) ps os
outs_on address word xs ys k [] os g h = tt
outs_on address word xs ys k (p ∷ ps) [] g h = tt
outs_on address word xs ys k (p ∷ ps) (o ∷ os) g h = (out_on address word xs ys k p o g h.0, outs_on address word xs ys k ps os g h.1)

-- so many terms a step takes at most, without the one that tells that the walk doesn't come to it
abbrev pub step_size : ActData → ℕ
step_size p = 3 * step_operators p + 6 + 11 * cond (is_read p) 1 0

-- the state after a step, and what stands for the step
pub record IsPassed (a : Access) (word left : ℕ) (s : State) (n : ℕ) (p : ActData) : Type 0 where
  pub grows : Grows s.terms (passed a s n p).state.terms (step_size p)
  pub sound : IsSound a word left (passed a s n p).state.terms (passed a s n p).state
  pub out : IsOutSized a.address word (passed a s n p).state.terms p (passed a s n p).out

fewer_words : (a : Access) (word left : ℕ) (terms : List Term) (s : State) → IsSound a word (left + 1) terms s → IsSound a word left terms (next_word s)
fewer_words a word left terms s h = record {
  terms_are = h.terms_are;
  zero_is = h.zero_is;
  one_is = h.one_is;
  names = record { regs = h.names.regs; inputs = h.names.inputs; vars = h.names.vars; wide = h.names.wide };
  come = h.come;
  away = h.away;
  words = λ j l. let z : s.word + suc j ≡ suc s.word + j = omega arith in subst (λ (t : ℕ). IsSized terms t word) z (h.words (suc j) (omega (arith, l)));
}

pub passed_sound : (a : Access) (word count left : ℕ) (s : State) (n : ℕ) (p : ActData) → IsPlain a → IsStep a.scope a.address word count n p → IsSound a word (cond (is_read p) 1 0 + left) s.terms s → IsPassed a word left s n p
passed_sound a word count left s n (bind x e to) plain k h0 =
    let h : IsSound a word left s.terms s = (let z : 0 + left ≡ left = omega arith in subst (λ (m : ℕ). IsSound a word m s.terms s) z h0) in
    let c = s.come n in
    let f = form_of (named a s) e in
    let v = form_placed s.terms f in
    let i = tree_fine e s.terms (named a s) k.0 h.names k.1.0 k.1.1 in
    let g1 = fine_grows s.terms f k.0 h.terms_are i in
    let s1 = with_terms s v.terms in
    let h1 = sound_with a word left v.terms v.terms s (sound_on a word left s.terms v.terms (form_size f) s g1 h) in
    let z = fine_sized s.terms f k.0 h.terms_are i in
    let s2 = assign s1 x c v.at in
    let q = assign_sound a word left s1 x c v.at k.0 h1 k.2 (h1.come n) z in
    let s3 = join s2 to c in
    let r = join_sound a word left s2 to c q.sound (q.sound.come n) in
    let size = tree_size (named a s) e in
    let g2 = grows_on v.terms s2.terms s3.terms 1 1 q.grows r.grows in
    record {
      grows = grows_within s.terms s3.terms (form_size f + 2) (step_size (bind x e to)) (omega (arith, size)) (grows_on s.terms v.terms s3.terms (form_size f) 2 g1 g2);
      sound = r.sound;
      out = record {
        come = sized_on s2.terms s3.terms 1 c 1 r.grows (q.sound.come n);
        by_then = sized_on s2.terms s3.terms 1 c 1 r.grows (q.sound.come n);
        by_other = r.sound.zero_is;
        away = r.sound.away;
        value = λ y. absurd (false≢true y);
        word_is = λ y. absurd (false≢true y);
      };
    }
passed_sound a word count left s n (branch e t o) plain k h0 =
    let h : IsSound a word left s.terms s = (let z : 0 + left ≡ left = omega arith in subst (λ (m : ℕ). IsSound a word m s.terms s) z h0) in
    let c = s.come n in
    let f = form_of (named a s) e in
    let v = form_placed s.terms f in
    let i = tree_fine e s.terms (named a s) 1 h.names k.0.0 k.0.1 in
    let g1 = fine_grows s.terms f 1 h.terms_are i in
    let z = fine_sized s.terms f 1 h.terms_are i in
    let y = fork v.terms c v.at in
    let w = fork_sound v.terms c v.at g1.terms_are (sized_on s.terms v.terms (form_size f) c 1 g1 (h.come n)) z in
    let s1 = with_terms s y.terms in
    let g2 = grows_on s.terms v.terms y.terms (form_size f) 3 g1 w.grows in
    let h1 = sound_with a word left y.terms y.terms s (sound_on a word left s.terms y.terms (form_size f + 3) s g2 h) in
    let s2 = part s1 t y.by_then o y.by_other in
    let r = part_sound a word left s1 t y.by_then o y.by_other h1 w.by_then w.by_other in
    let size = tree_size (named a s) e in
    record {
      grows = grows_within s.terms s2.terms (form_size f + 3 + 2) (step_size (branch e t o)) (omega (arith, size)) (grows_on s.terms y.terms s2.terms (form_size f + 3) 2 g2 r.grows);
      sound = r.sound;
      out = record {
        come = sized_on y.terms s2.terms 2 c 1 r.grows (h1.come n);
        by_then = sized_on y.terms s2.terms 2 y.by_then 1 r.grows w.by_then;
        by_other = sized_on y.terms s2.terms 2 y.by_other 1 r.grows w.by_other;
        away = r.sound.away;
        value = λ y. absurd (false≢true y);
        word_is = λ y. absurd (false≢true y);
      };
    }
passed_sound a word count left s n (read x e m t o) plain k h0 =
    let h : IsSound a word (left + 1) s.terms s = (let z : 1 + left ≡ left + 1 = omega arith in subst (λ (m : ℕ). IsSound a word m s.terms s) z h0) in
    let c = s.come n in
    let f = form_of (named a s) e in
    let v = form_placed s.terms f in
    let i = tree_fine e s.terms (named a s) a.address h.names k.0.0 k.0.1 in
    let g1 = fine_grows s.terms f a.address h.terms_are i in
    let z = fine_sized s.terms f a.address h.terms_are i in
    let on = sound_on a word (left + 1) s.terms v.terms (form_size f) s g1 h in
    let cell = is_cell a v.at in
    let j = cell_fine v.terms a v.at plain on.zero_is on.one_is z in
    let v2 = form_placed v.terms cell in
    let g2 = grows_within v.terms v2.terms (form_size cell) 10 j.1 (fine_grows v.terms cell 1 g1.terms_are j.0) in
    let g12 = grows_on s.terms v.terms v2.terms (form_size f) 10 g1 g2 in
    let y = fork v2.terms c v2.at in
    let w = fork_sound v2.terms c v2.at g2.terms_are (sized_on s.terms v2.terms (form_size f + 10) c 1 g12 (h.come n)) (fine_sized v.terms cell 1 g1.terms_are j.0) in
    let g3 = grows_on s.terms v2.terms y.terms (form_size f + 10) 3 g12 w.grows in
    let s1 = with_terms s y.terms in
    let h1 = sound_with a word (left + 1) y.terms y.terms s (sound_on a word (left + 1) s.terms y.terms (form_size f + 10 + 3) s g3 h) in
    let s2 = assign s1 x y.by_then s.word in
    let zero_word : s.word + 0 ≡ s.word = omega arith in
    let own = subst (λ (t : ℕ). IsSized y.terms t word) zero_word (h1.words 0 (omega arith)) in
    let q = assign_sound a word (left + 1) s1 x y.by_then s.word word h1 k.1 w.by_then own in
    let s3 = part s2 t y.by_then o y.by_other in
    let r = part_sound a word (left + 1) s2 t y.by_then o y.by_other q.sound (sized_on y.terms s2.terms 1 y.by_then 1 q.grows w.by_then) (sized_on y.terms s2.terms 1 y.by_other 1 q.grows w.by_other) in
    let g4 = grows_on y.terms s2.terms s3.terms 1 2 q.grows r.grows in
    let g24 = grows_on v2.terms y.terms s3.terms 3 3 w.grows g4 in
    let size = tree_size (named a s) e in
    record {
      grows = grows_within s.terms s3.terms (form_size f + 10 + 3 + 3) (step_size (read x e m t o)) (omega (arith, size)) (grows_on s.terms y.terms s3.terms (form_size f + 10 + 3) 3 g3 g4);
      sound = fewer_words a word left s3.terms s3 r.sound;
      out = record {
        come = sized_on y.terms s3.terms 3 c 1 g4 (h1.come n);
        by_then = sized_on y.terms s3.terms 3 y.by_then 1 g4 w.by_then;
        by_other = sized_on y.terms s3.terms 3 y.by_other 1 g4 w.by_other;
        away = r.sound.away;
        value = λ u. sized_on v2.terms s3.terms 6 v.at a.address g24 (sized_on v.terms v2.terms 10 v.at a.address g2 z);
        word_is = λ u. sized_on y.terms s3.terms 3 s.word word g4 own;
      };
    }
passed_sound a word count left s n (fault d) plain k h0 =
    let h : IsSound a word left s.terms s = (let z : 0 + left ≡ left = omega arith in subst (λ (m : ℕ). IsSound a word m s.terms s) z h0) in
    record {
      grows = grows_within s.terms s.terms 0 (step_size (fault d)) (omega arith) (grows_none s.terms h.terms_are);
      sound = h;
      out = record { come = h.come n; by_then = h.zero_is; by_other = h.zero_is; away = h.away; value = λ y. absurd (false≢true y); word_is = λ y. absurd (false≢true y) };
    }
passed_sound a word count left s n (done e p) plain k h0 =
    let h : IsSound a word left s.terms s = (let z : 0 + left ≡ left = omega arith in subst (λ (m : ℕ). IsSound a word m s.terms s) z h0) in
    let f = form_of (named a s) e in
    let v = form_placed s.terms f in
    let i = tree_fine e s.terms (named a s) a.address h.names k.0 k.1 in
    let g = fine_grows s.terms f a.address h.terms_are i in
    let on = sound_on a word left s.terms v.terms (form_size f) s g h in
    let size = tree_size (named a s) e in
    record {
      grows = grows_within s.terms v.terms (form_size f) (step_size (done e p)) (omega (arith, size)) g;
      sound = sound_with a word left v.terms v.terms s on;
      out = record { come = on.come n; by_then = on.zero_is; by_other = on.zero_is; away = on.away; value = λ y. fine_sized s.terms f a.address h.terms_are i; word_is = λ y. absurd (false≢true y) };
    }

noted_sound : (a : Access) (word left : ℕ) (s : State) (n : ℕ) → IsSound a word left s.terms s → IsAfter a word left s.terms (noted s n) 1
noted_sound a word left s n h =
    let f = not_of (term (s.come n)) in
    let i = not_fine s.terms (term (s.come n)) (term_fine s.terms (s.come n) 1 (h.come n)) in
    let g = fine_grows s.terms f 1 h.terms_are i in
    let on = sound_on a word left s.terms (form_placed s.terms f).terms 1 s g h in
    record { grows = g; sound = record { terms_are = on.terms_are; zero_is = on.zero_is; one_is = on.one_is; names = record { regs = on.names.regs; inputs = on.names.inputs; vars = on.names.vars; wide = on.names.wide }; come = on.come; away = fine_sized s.terms f 1 h.terms_are i; words = on.words } }

-- ---- walks

abbrev pub steps_size : List ActData → ℕ
steps_size [] = 0
steps_size (p ∷ ps) = 1 + step_size p + steps_size ps

-- what stands for the steps, over the terms at the end
pub record IsWalked (a : Access) (word : ℕ) (s : State) (ps : List ActData) (n : ℕ) : Type 0 where
  pub grows : Grows s.terms (walk_placed a s ps n).terms (steps_size ps)
  pub outs : AllOuts (IsOutSized a.address word (walk_placed a s ps n).terms) ps (walk_placed a s ps n).outs

pub walk_sound : (a : Access) (word : ℕ) (steps : List ActData) (ps : List ActData) (s : State) (n : ℕ) → IsPlain a → AreLeft a word steps ps n → IsSound a word (reads_in ps) s.terms s → IsWalked a word s ps n
walk_sound a word steps [] s n plain left h = record { grows = grows_none s.terms h.terms_are; outs = tt }
walk_sound a word steps (p ∷ ps) s n plain left h =
    let s1 = noted s n in
    let x = noted_sound a word (reads_in (p ∷ ps)) s n h in
    let q = passed_sound a word (length steps) (reads_in ps) s1 n p plain (left.sound n p (first_at a word steps ps p n left)) x.sound in
    let s2 = (passed a s1 n p).state in
    let r = walk_sound a word steps ps s2 (n + 1) plain (left_next a word steps ps p n left) q.sound in
    let all = (walk_placed a s2 ps (n + 1)).terms in
    record {
      grows = grows_on s.terms s2.terms all (1 + step_size p) (steps_size ps) (grows_on s.terms s1.terms s2.terms 1 (step_size p) x.grows q.grows) r.grows;
      outs = (out_on a.address word s2.terms all (steps_size ps) p (passed a s1 n p).out r.grows q.out, r.outs);
    }
