-- What is spelled is read, and only what is spelled.
use Rattle.std.proofs.Common.{◌≡◌, ℕ, zero, suc, ◌≤◌, true, false, cond, eqb, List, [], ◌∷◌, ◌++◌, Option, Some, None, refl, sym, ap, subst, ◌∙◌, append_assoc, arith, inl, inr}
use Rattle.std.specs.Prelude.{IfSome, codes, ⊤}
use Rattle.std.specs.List.{before_first, after_first}
use Rattle.std.specs.Option.{option_map, option_map_or}
use Rattle.std.specs.Str.{bytes_eq}
use Rattle.std.proofs.lemmas.Bool.{cases_Bool, cond-false, eqb-true}
use Rattle.std.proofs.lemmas.Slice.Eq.{bytes_eq-Decides}
use Rattle.dt_lemmas.proofs.Booleans.{chosen_cases}
use Rattle.dt_lemmas.proofs.Options.{some_is, guard_some, at_some}
use Rattle.dt_bits.specs.declared.op.Op.{Op}
use Rattle.dt_bits.specs.declared.op.Op.TheVariants.{Const, Not, And, Or, Xor, Add, Sub, Slice, Concat, SignExt, Shl, Shr, Eq, Ltu, Ite}
use Rattle.dt_bits.specs.Ops.{arity_of}
use Rattle.dt_lex.specs.declared.name.Name.{Name}
use Rattle.dt_lex.specs.Names.{name_of}
use Rattle.dt_lex.specs.Numeral.{number_of, digits_read}
use Rattle.dt_model.specs.ModelData.{Tree, value, reg, input, var, apply1, apply2, apply3}
use Rattle.dt_model.specs.Widths.{depth}
use Rattle.dt_modeltext.specs.Expr.{Positions, small_of, decimal_of, is_colon, unknown, named, named_or, small_at, atom_of, constant_of, is_open, closing, closed, slice_at, counted_at, plain_of, operator_at, one_at, two_at, three_at, operands_at, applied_at, level, expr_at}
use Rattle.dt_modeltext.proofs.LineArities.{bound}
use Rattle.dt_modeltext.specs.Spelling.{SpellsOperator, SpellsAtom, Spells}
use Rattle.dt_lex.specs.Frame.{Front, ◌>>=◌, first_by}

abbrev Tokens : Type 0
Tokens = List (List ℕ)

abbrev shut : Tokens → Tokens
shut rest = codes ")" ∷ rest

-- ---- tokens

-- a parenthesis is no name and no constant
open_is_none : (s : Positions) → atom_of s (codes "(") ≡ None
unfolding atom_of name_of constant_of decimal_of small_of number_of digits_read
open_is_none s = refl

atom_not_open : (s : Positions) (e : Tree) (t : List ℕ) → atom_of s t ≡ Some e → is_open t ≡ false
atom_not_open s e t h =
    elim (cases_Bool (is_open t)) [
      | inl is ↦
          let same : t ≡ codes "(" = (bytes_eq-Decides t (codes "(")).0 is in
          let bad : Some e ≡ None = sym h ∙ ap (atom_of s) same ∙ open_is_none s in
          absurd cc
      | inr isnt ↦ isnt
    ]

-- ---- what is spelled is read

-- part reads what is spelled, up to a depth
pub record Reads (s : Positions) (most : ℕ) (part : Tokens → Front Tree) : Type 0 where
  pub again : (e : Tree) (ts rest : Tokens) → Spells s e ts → depth e ≤ most → part (ts ++ rest) ≡ Some (e, rest)

operator_again : (op : Op) (os rest : Tokens) → SpellsOperator op os → operator_at (os ++ rest) ≡ Some (op, rest)
unfolding operator_at slice_at counted_at plain_of
operator_again Not os rest h = ap (λ (ts : Tokens). operator_at (ts ++ rest)) h
operator_again And os rest h = ap (λ (ts : Tokens). operator_at (ts ++ rest)) h
operator_again Or os rest h = ap (λ (ts : Tokens). operator_at (ts ++ rest)) h
operator_again Xor os rest h = ap (λ (ts : Tokens). operator_at (ts ++ rest)) h
operator_again Add os rest h = ap (λ (ts : Tokens). operator_at (ts ++ rest)) h
operator_again Sub os rest h = ap (λ (ts : Tokens). operator_at (ts ++ rest)) h
operator_again Concat os rest h = ap (λ (ts : Tokens). operator_at (ts ++ rest)) h
operator_again Eq os rest h = ap (λ (ts : Tokens). operator_at (ts ++ rest)) h
operator_again Ltu os rest h = ap (λ (ts : Tokens). operator_at (ts ++ rest)) h
operator_again Ite os rest h = ap (λ (ts : Tokens). operator_at (ts ++ rest)) h
operator_again (Slice hi lo) os rest h = ap (λ (ts : Tokens). operator_at (ts ++ rest)) h.4 ∙ rw (h.2, h.3) refl
operator_again (SignExt n) os rest h = ap (λ (ts : Tokens). operator_at (ts ++ rest)) h.2 ∙ rw (h.1) refl
operator_again (Shl n) os rest h = ap (λ (ts : Tokens). operator_at (ts ++ rest)) h.2 ∙ rw (h.1) refl
operator_again (Shr n) os rest h = ap (λ (ts : Tokens). operator_at (ts ++ rest)) h.2 ∙ rw (h.1) refl
operator_again (Const v) os rest h = absurd h

by_one : (part : Tokens → Front Tree) (op : Op) (ts : Tokens) → arity_of op ≡ 1 → operands_at part op ts ≡ one_at part op ts
unfolding operands_at
by_one part op ts h = rw h refl

by_two : (part : Tokens → Front Tree) (op : Op) (ts : Tokens) → arity_of op ≡ 2 → operands_at part op ts ≡ two_at part op ts
unfolding operands_at
by_two part op ts h = rw h refl

by_three : (part : Tokens → Front Tree) (op : Op) (ts : Tokens) → arity_of op ≡ 3 → operands_at part op ts ≡ three_at part op ts
unfolding operands_at
by_three part op ts h = rw h refl

applied_again : (s : Positions) (part : Tokens → Front Tree) (op : Op) (os ts : Tokens) → SpellsOperator op os → level s part (codes "(" ∷ (os ++ ts)) ≡ operands_at part op ts
unfolding level applied_at
applied_again s part op os ts h = ap (λ (r : Front Op). r >>= λ x. operands_at part x.0 x.1) (operator_again op os ts h)

atom_again : (s : Positions) (part : Tokens → Front Tree) (e : Tree) (ts rest : Tokens) → SpellsAtom s e ts → level s part (ts ++ rest) ≡ Some (e, rest)
unfolding level
atom_again s part e ts rest h =
    let shown : level s part (h.0 ∷ rest) ≡ first_by (atom_of s) (h.0 ∷ rest) = cond-false (is_open h.0) (applied_at part rest) (first_by (atom_of s) (h.0 ∷ rest)) (atom_not_open s e h.0 h.1) in
    ap (λ (us : Tokens). level s part (us ++ rest)) h.2 ∙ shown ∙ ap (λ (o : Option Tree). option_map (λ (x : Tree). (x, rest)) o) h.1

first_again : (s : Positions) (e : Tree) (ts rest : Tokens) → SpellsAtom s e ts → first_by (atom_of s) (ts ++ rest) ≡ Some (e, rest)
first_again s e ts rest h =
    ap (λ (us : Tokens). first_by (atom_of s) (us ++ rest)) h.2 ∙ ap (λ (o : Option Tree). option_map (λ (x : Tree). (x, rest)) o) h.1

abbrev opened : Tokens → Tokens → Tokens
opened os ts = codes "(" ∷ (os ++ ts)

level_again : (s : Positions) (most : ℕ) (part : Tokens → Front Tree) → Reads s most part → (e : Tree) (ts rest : Tokens) → Spells s e ts → depth e ≤ suc most → level s part (ts ++ rest) ≡ Some (e, rest)
unfolding Spells one_at two_at three_at
level_again s most part h (value w n) ts rest p le = atom_again s part (value w n) ts rest p
level_again s most part h (reg i) ts rest p le = atom_again s part (reg i) ts rest p
level_again s most part h (input i) ts rest p le = atom_again s part (input i) ts rest p
level_again s most part h (var i) ts rest p le = atom_again s part (var i) ts rest p
level_again s most part h (apply1 op a) ts rest p le =
    let os = p.0 in
    let us = p.1 in
    let inner = h.again a us (shut rest) p.4 (omega arith) in
    let grouped : ts ++ rest ≡ opened os (us ++ shut rest) = ap (λ (xs : Tokens). xs ++ rest) p.5 ∙ ap (λ (xs : Tokens). codes "(" ∷ xs) (append_assoc os (us ++ codes ")" ∷ []) rest ∙ ap (λ (xs : Tokens). os ++ xs) (append_assoc us (codes ")" ∷ []) rest)) in
    ap (level s part) grouped ∙ applied_again s part op os (us ++ shut rest) p.3 ∙ by_one part op (us ++ shut rest) p.2 ∙ rw inner refl
level_again s most part h (apply2 op a b) ts rest p le =
    let os = p.0 in
    let us = p.1 in
    let vs = p.2 in
    let first = h.again a us (vs ++ shut rest) p.5 (omega arith) in
    let second = h.again b vs (shut rest) p.6 (omega arith) in
    let tail : (vs ++ codes ")" ∷ []) ++ rest ≡ vs ++ shut rest = append_assoc vs (codes ")" ∷ []) rest in
    let grouped : ts ++ rest ≡ opened os (us ++ (vs ++ shut rest)) = ap (λ (xs : Tokens). xs ++ rest) p.7 ∙ ap (λ (xs : Tokens). codes "(" ∷ xs) (append_assoc os (us ++ (vs ++ codes ")" ∷ [])) rest ∙ ap (λ (xs : Tokens). os ++ xs) (append_assoc us (vs ++ codes ")" ∷ []) rest ∙ ap (λ (xs : Tokens). us ++ xs) tail)) in
    ap (level s part) grouped ∙ applied_again s part op os (us ++ (vs ++ shut rest)) p.4 ∙ by_two part op (us ++ (vs ++ shut rest)) p.3 ∙ rw (first, second) refl
level_again s most part h (apply3 op a b c) ts rest p le =
    let os = p.0 in
    let us = p.1 in
    let vs = p.2 in
    let ws = p.3 in
    let first = h.again a us (vs ++ (ws ++ shut rest)) p.6 (omega arith) in
    let second = h.again b vs (ws ++ shut rest) p.7 (omega arith) in
    let third = h.again c ws (shut rest) p.8 (omega arith) in
    let end : (ws ++ codes ")" ∷ []) ++ rest ≡ ws ++ shut rest = append_assoc ws (codes ")" ∷ []) rest in
    let tail : (vs ++ (ws ++ codes ")" ∷ [])) ++ rest ≡ vs ++ (ws ++ shut rest) = append_assoc vs (ws ++ codes ")" ∷ []) rest ∙ ap (λ (xs : Tokens). vs ++ xs) end in
    let grouped : ts ++ rest ≡ opened os (us ++ (vs ++ (ws ++ shut rest))) = ap (λ (xs : Tokens). xs ++ rest) p.9 ∙ ap (λ (xs : Tokens). codes "(" ∷ xs) (append_assoc os (us ++ (vs ++ (ws ++ codes ")" ∷ []))) rest ∙ ap (λ (xs : Tokens). os ++ xs) (append_assoc us (vs ++ (ws ++ codes ")" ∷ [])) rest ∙ ap (λ (xs : Tokens). us ++ xs) tail)) in
    ap (level s part) grouped ∙ applied_again s part op os (us ++ (vs ++ (ws ++ shut rest))) p.5 ∙ by_three part op (us ++ (vs ++ (ws ++ shut rest))) p.4 ∙ rw (first, second, third) refl

pub expr_again : (s : Positions) (most : ℕ) (e : Tree) (ts rest : Tokens) → Spells s e ts → depth e ≤ most → expr_at s most (ts ++ rest) ≡ Some (e, rest)
unfolding expr_at Spells
expr_again s zero (value w n) ts rest p le = first_again s (value w n) ts rest p
expr_again s zero (reg i) ts rest p le = first_again s (reg i) ts rest p
expr_again s zero (input i) ts rest p le = first_again s (input i) ts rest p
expr_again s zero (var i) ts rest p le = first_again s (var i) ts rest p
expr_again s zero (apply1 op a) ts rest p le = absurd (omega arith)
expr_again s zero (apply2 op a b) ts rest p le = absurd (omega arith)
expr_again s zero (apply3 op a b c) ts rest p le = absurd (omega arith)
expr_again s (suc most) e ts rest p le = level_again s most (expr_at s most) (record { again = expr_again s most }) e ts rest p le

-- ---- and only what is spelled

bind_some : {A B : Type 0} (o : Option A) (f : A → Option B) (y : B) → (o >>= f) ≡ Some y → (x : A) × (o ≡ Some x) × (f x ≡ Some y)
bind_some None f y e = absurd cc
bind_some (Some x) f y e = (x, refl, e)

-- the front of ts spells e, and rest comes after it
pub record Takes (s : Positions) (e : Tree) (ts rest : Tokens) : Type 0 where
  pub front : Tokens
  pub parts : ts ≡ front ++ rest
  pub spelled : Spells s e front

record TakesOperator (op : Op) (ts rest : Tokens) : Type 0 where
  front : Tokens
  parts : ts ≡ front ++ rest
  spelled : SpellsOperator op front

abbrev IsSound : Positions → (Tokens → Front Tree) → Type 0
IsSound s part = (ts : Tokens) (x : Tree × Tokens) → part ts ≡ Some x → Takes s x.0 ts x.1

closing_takes : (ts us : Tokens) → closing ts ≡ Some us → ts ≡ codes ")" ∷ us
closing_takes [] us e = absurd cc
closing_takes (t ∷ ts) us e =
    let g = guard_some (bytes_eq t (codes ")")) (Some ts) us e in
    let same : ts ≡ us = some_is ts us g.1 in
    let is : t ≡ codes ")" = (bytes_eq-Decides t (codes ")")).0 g.0 in
    λ i. is i ∷ same i

closed_takes : (e : Tree) (ts : Tokens) (x : Tree × Tokens) → closed e ts ≡ Some x → (e ≡ x.0) × (ts ≡ codes ")" ∷ x.1)
closed_takes e ts x h =
    let b = bind_some (closing ts) (λ us. Some (e, us)) x h in
    let p = some_is (e, b.0) x b.2 in
    (ap (λ (q : Tree × Tokens). q.0) p, closing_takes ts b.0 b.1 ∙ ap (λ (q : Tree × Tokens). codes ")" ∷ q.1) p)

mapped_some : {X : Type 0} (ts : Tokens) (o : Option X) (x : X × Tokens) → option_map (λ y. (y, ts)) o ≡ Some x → (o ≡ Some x.0) × (ts ≡ x.1)
mapped_some ts None x h = absurd cc
mapped_some {X = X} ts (Some y) x h =
    let p = some_is (y, ts) x h in
    (ap (λ (q : X × Tokens). Some q.0) p, ap (λ (q : X × Tokens). q.1) p)

small_takes : (ts : Tokens) (x : ℕ × Tokens) → small_at ts ≡ Some x → (t : List ℕ) × (small_of t ≡ Some x.0) × (ts ≡ t ∷ x.1)
small_takes [] x h = absurd cc
small_takes (t ∷ ts) x h =
    let p = mapped_some ts (small_of t) x h in
    (t, p.0, ap (λ (us : Tokens). t ∷ us) p.1)

slice_takes : (t : List ℕ) (ts : Tokens) (x : Op × Tokens) → bytes_eq t (codes "slice") ≡ true → slice_at ts ≡ Some x → TakesOperator x.0 (t ∷ ts) x.1
unfolding slice_at
slice_takes t ts x is h =
    let p = bind_some (small_at ts) (λ hi. small_at hi.1 >>= λ lo. Some (Slice hi.0 lo.0, lo.1)) x h in
    let q = bind_some (small_at p.0.1) (λ lo. Some (Slice p.0.0 lo.0, lo.1)) x p.2 in
    let hi = small_takes ts p.0 p.1 in
    let lo = small_takes p.0.1 q.0 q.1 in
    let made : TakesOperator (Slice p.0.0 q.0.0) (t ∷ ts) q.0.1 = record {
      front = codes "slice" ∷ hi.0 ∷ lo.0 ∷ [];
      parts = (λ i. (bytes_eq-Decides t (codes "slice")).0 is i ∷ hi.2 i) ∙ ap (λ (us : Tokens). codes "slice" ∷ hi.0 ∷ us) lo.2;
      spelled = (hi.0, lo.0, hi.1, lo.1, refl);
    } in
    subst (λ (y : Op × Tokens). TakesOperator y.0 (t ∷ ts) y.1) (some_is (Slice p.0.0 q.0.0, q.0.1) x q.2) made

counted_takes : (w t : List ℕ) (f : ℕ → Op) (ts : Tokens) (x : Op × Tokens) → ((u : List ℕ) (n : ℕ) → small_of u ≡ Some n → SpellsOperator (f n) (w ∷ u ∷ [])) → bytes_eq t w ≡ true → counted_at f ts ≡ Some x → TakesOperator x.0 (t ∷ ts) x.1
unfolding counted_at
counted_takes w t f ts x spelled is h =
    let p = bind_some (small_at ts) (λ n. Some (f n.0, n.1)) x h in
    let n = small_takes ts p.0 p.1 in
    let made : TakesOperator (f p.0.0) (t ∷ ts) p.0.1 = record {
      front = w ∷ n.0 ∷ [];
      parts = λ i. (bytes_eq-Decides t w).0 is i ∷ n.2 i;
      spelled = spelled n.0 p.0.0 n.1;
    } in
    subst (λ (y : Op × Tokens). TakesOperator y.0 (t ∷ ts) y.1) (some_is (f p.0.0, p.0.1) x p.2) made

-- one word of those that may stand there
one_word : (w t : List ℕ) (op x : Op) (others : Option Op) → SpellsOperator op (w ∷ []) → (others ≡ Some x → SpellsOperator x (t ∷ [])) → cond (bytes_eq t w) (Some op) others ≡ Some x → SpellsOperator x (t ∷ [])
one_word w t op x others spelled k h =
    elim (chosen_cases (bytes_eq t w) (Some op) others (Some x) h) [
      | inl c ↦ subst (λ (y : Op). SpellsOperator y (t ∷ [])) (some_is op x c.1) (subst (λ (u : List ℕ). SpellsOperator op (u ∷ [])) (sym ((bytes_eq-Decides t w).0 c.0)) spelled)
      | inr c ↦ k c.1
    ]

plain_takes : (t : List ℕ) (x : Op) → plain_of t ≡ Some x → SpellsOperator x (t ∷ [])
unfolding plain_of
plain_takes t x h =
    one_word (codes "not") t Not x _ refl
    (λ h. one_word (codes "and") t And x _ refl
    (λ h. one_word (codes "or") t Or x _ refl
    (λ h. one_word (codes "xor") t Xor x _ refl
    (λ h. one_word (codes "add") t Add x _ refl
    (λ h. one_word (codes "sub") t Sub x _ refl
    (λ h. one_word (codes "concat") t Concat x _ refl
    (λ h. one_word (codes "eq") t Eq x _ refl
    (λ h. one_word (codes "ltu") t Ltu x _ refl
    (λ h. one_word (codes "ite") t Ite x _ refl
    (λ h. absurd cc) h) h) h) h) h) h) h) h) h) h

plain_operator : (t : List ℕ) (ts : Tokens) (o : Option Op) (x : Op × Tokens) → plain_of t ≡ o → option_map (λ op. (op, ts)) o ≡ Some x → TakesOperator x.0 (t ∷ ts) x.1
plain_operator t ts None x is h = absurd cc
plain_operator t ts (Some op) x is h =
    let made : TakesOperator op (t ∷ ts) ts = record { front = t ∷ []; parts = refl; spelled = plain_takes t op is } in
    subst (λ (y : Op × Tokens). TakesOperator y.0 (t ∷ ts) y.1) (some_is (op, ts) x h) made

operator_takes : (ts : Tokens) (x : Op × Tokens) → operator_at ts ≡ Some x → TakesOperator x.0 ts x.1
unfolding operator_at
operator_takes [] x h = absurd cc
operator_takes (t ∷ ts) x h =
    elim (chosen_cases (bytes_eq t (codes "slice")) (slice_at ts) _ (Some x) h) [
      | inl c ↦ slice_takes t ts x c.0 c.1
      | inr c ↦ elim (chosen_cases (bytes_eq t (codes "sext")) (counted_at (λ to. SignExt to) ts) _ (Some x) c.1) [
        | inl d ↦ counted_takes (codes "sext") t (λ to. SignExt to) ts x (λ u n is. (u, is, refl)) d.0 d.1
        | inr d ↦ elim (chosen_cases (bytes_eq t (codes "shl")) (counted_at (λ by. Shl by) ts) _ (Some x) d.1) [
          | inl e ↦ counted_takes (codes "shl") t (λ by. Shl by) ts x (λ u n is. (u, is, refl)) e.0 e.1
          | inr e ↦ elim (chosen_cases (bytes_eq t (codes "shr")) (counted_at (λ by. Shr by) ts) _ (Some x) e.1) [
            | inl f ↦ counted_takes (codes "shr") t (λ by. Shr by) ts x (λ u n is. (u, is, refl)) f.0 f.1
            | inr f ↦ plain_operator t ts (plain_of t) x refl f.1
          ]
        ]
      ]
    ]

one_takes : (s : Positions) (part : Tokens → Front Tree) → IsSound s part → (op : Op) (os ts : Tokens) (x : Tree × Tokens) → arity_of op ≡ 1 → SpellsOperator op os → one_at part op ts ≡ Some x → Takes s x.0 (opened os ts) x.1
unfolding one_at Spells
one_takes s part sound op os ts x arity word h =
    let p = bind_some (part ts) (λ a. closed (apply1 op a.0) a.1) x h in
    let a = sound ts p.0 p.1 in
    let c = closed_takes (apply1 op p.0.0) p.0.1 x p.2 in
    let us = a.front in
    let made : Takes s (apply1 op p.0.0) (opened os ts) x.1 = record {
      front = codes "(" ∷ (os ++ (us ++ codes ")" ∷ []));
      parts = ap (λ (xs : Tokens). codes "(" ∷ (os ++ xs)) (a.parts ∙ ap (λ (xs : Tokens). us ++ xs) c.1) ∙ ap (λ (xs : Tokens). codes "(" ∷ xs) (sym (append_assoc os (us ++ codes ")" ∷ []) x.1 ∙ ap (λ (xs : Tokens). os ++ xs) (append_assoc us (codes ")" ∷ []) x.1)));
      spelled = (os, us, arity, word, a.spelled, refl);
    } in
    subst (λ (e : Tree). Takes s e (opened os ts) x.1) c.0 made

two_takes : (s : Positions) (part : Tokens → Front Tree) → IsSound s part → (op : Op) (os ts : Tokens) (x : Tree × Tokens) → arity_of op ≡ 2 → SpellsOperator op os → two_at part op ts ≡ Some x → Takes s x.0 (opened os ts) x.1
unfolding two_at Spells
two_takes s part sound op os ts x arity word h =
    let p = bind_some (part ts) (λ a. part a.1 >>= λ b. closed (apply2 op a.0 b.0) b.1) x h in
    let q = bind_some (part p.0.1) (λ b. closed (apply2 op p.0.0 b.0) b.1) x p.2 in
    let a = sound ts p.0 p.1 in
    let b = sound p.0.1 q.0 q.1 in
    let c = closed_takes (apply2 op p.0.0 q.0.0) q.0.1 x q.2 in
    let us = a.front in
    let vs = b.front in
    let read : ts ≡ us ++ (vs ++ (codes ")" ∷ x.1)) = a.parts ∙ ap (λ (xs : Tokens). us ++ xs) (b.parts ∙ ap (λ (xs : Tokens). vs ++ xs) c.1) in
    let regrouped : (os ++ (us ++ (vs ++ codes ")" ∷ []))) ++ x.1 ≡ os ++ (us ++ (vs ++ (codes ")" ∷ x.1))) = append_assoc os (us ++ (vs ++ codes ")" ∷ [])) x.1 ∙ ap (λ (xs : Tokens). os ++ xs) (append_assoc us (vs ++ codes ")" ∷ []) x.1 ∙ ap (λ (xs : Tokens). us ++ xs) (append_assoc vs (codes ")" ∷ []) x.1)) in
    let made : Takes s (apply2 op p.0.0 q.0.0) (opened os ts) x.1 = record {
      front = codes "(" ∷ (os ++ (us ++ (vs ++ codes ")" ∷ [])));
      parts = ap (λ (xs : Tokens). codes "(" ∷ (os ++ xs)) read ∙ ap (λ (xs : Tokens). codes "(" ∷ xs) (sym regrouped);
      spelled = (os, us, vs, arity, word, a.spelled, b.spelled, refl);
    } in
    subst (λ (e : Tree). Takes s e (opened os ts) x.1) c.0 made

three_takes : (s : Positions) (part : Tokens → Front Tree) → IsSound s part → (op : Op) (os ts : Tokens) (x : Tree × Tokens) → arity_of op ≡ 3 → SpellsOperator op os → three_at part op ts ≡ Some x → Takes s x.0 (opened os ts) x.1
unfolding three_at Spells
three_takes s part sound op os ts x arity word h =
    let p = bind_some (part ts) (λ a. part a.1 >>= λ b. part b.1 >>= λ c. closed (apply3 op a.0 b.0 c.0) c.1) x h in
    let q = bind_some (part p.0.1) (λ b. part b.1 >>= λ c. closed (apply3 op p.0.0 b.0 c.0) c.1) x p.2 in
    let r = bind_some (part q.0.1) (λ c. closed (apply3 op p.0.0 q.0.0 c.0) c.1) x q.2 in
    let a = sound ts p.0 p.1 in
    let b = sound p.0.1 q.0 q.1 in
    let c = sound q.0.1 r.0 r.1 in
    let d = closed_takes (apply3 op p.0.0 q.0.0 r.0.0) r.0.1 x r.2 in
    let us = a.front in
    let vs = b.front in
    let ws = c.front in
    let read : ts ≡ us ++ (vs ++ (ws ++ (codes ")" ∷ x.1))) = a.parts ∙ ap (λ (xs : Tokens). us ++ xs) (b.parts ∙ ap (λ (xs : Tokens). vs ++ xs) (c.parts ∙ ap (λ (xs : Tokens). ws ++ xs) d.1)) in
    let last : (vs ++ (ws ++ codes ")" ∷ [])) ++ x.1 ≡ vs ++ (ws ++ (codes ")" ∷ x.1)) = append_assoc vs (ws ++ codes ")" ∷ []) x.1 ∙ ap (λ (xs : Tokens). vs ++ xs) (append_assoc ws (codes ")" ∷ []) x.1) in
    let regrouped : (os ++ (us ++ (vs ++ (ws ++ codes ")" ∷ [])))) ++ x.1 ≡ os ++ (us ++ (vs ++ (ws ++ (codes ")" ∷ x.1)))) = append_assoc os (us ++ (vs ++ (ws ++ codes ")" ∷ []))) x.1 ∙ ap (λ (xs : Tokens). os ++ xs) (append_assoc us (vs ++ (ws ++ codes ")" ∷ [])) x.1 ∙ ap (λ (xs : Tokens). us ++ xs) last) in
    let made : Takes s (apply3 op p.0.0 q.0.0 r.0.0) (opened os ts) x.1 = record {
      front = codes "(" ∷ (os ++ (us ++ (vs ++ (ws ++ codes ")" ∷ []))));
      parts = ap (λ (xs : Tokens). codes "(" ∷ (os ++ xs)) read ∙ ap (λ (xs : Tokens). codes "(" ∷ xs) (sym regrouped);
      spelled = (os, us, vs, ws, arity, word, a.spelled, b.spelled, c.spelled, refl);
    } in
    subst (λ (e : Tree). Takes s e (opened os ts) x.1) d.0 made

operands_take : (s : Positions) (part : Tokens → Front Tree) → IsSound s part → (op : Op) (os ts : Tokens) (x : Tree × Tokens) → SpellsOperator op os → operands_at part op ts ≡ Some x → Takes s x.0 (opened os ts) x.1
unfolding operands_at
operands_take s part sound op os ts x word h =
    elim (chosen_cases (eqb (arity_of op) 1) (one_at part op ts) _ (Some x) h) [
      | inl c ↦ one_takes s part sound op os ts x (eqb-true (arity_of op) 1 c.0) word c.1
      | inr c ↦ elim (chosen_cases (eqb (arity_of op) 2) (two_at part op ts) _ (Some x) c.1) [
        | inl d ↦ two_takes s part sound op os ts x (eqb-true (arity_of op) 2 d.0) word d.1
        | inr d ↦
            let g = guard_some (eqb (arity_of op) 3) (three_at part op ts) x d.1 in
            three_takes s part sound op os ts x (eqb-true (arity_of op) 3 g.0) word g.1
      ]
    ]

applied_takes : (s : Positions) (part : Tokens → Front Tree) → IsSound s part → (ts : Tokens) (x : Tree × Tokens) → applied_at part ts ≡ Some x → Takes s x.0 (codes "(" ∷ ts) x.1
unfolding applied_at
applied_takes s part sound ts x h =
    let p = bind_some (operator_at ts) (λ op. operands_at part op.0 op.1) x h in
    let o = operator_takes ts p.0 p.1 in
    let t = operands_take s part sound p.0.0 o.front p.0.1 x o.spelled p.2 in
    subst (λ (us : Tokens). Takes s x.0 (codes "(" ∷ us) x.1) (sym o.parts) t

-- an atom is a name or a constant
abbrev IsAtom : Tree → Type 0
IsAtom (apply1 op a) = ⊥
IsAtom (apply2 op a b) = ⊥
IsAtom (apply3 op a b c) = ⊥
IsAtom _ = ⊤

or_atom : (f : ℕ → Tree) → ((i : ℕ) → IsAtom (f i)) → (o : Option ℕ) (t : Tree) → IsAtom t → IsAtom (option_map_or f o t)
or_atom f h None t k = k
or_atom f h (Some i) t k = h i

named_atom : (s : Positions) (n : Name) → IsAtom (named s n)
unfolding named
named_atom s n =
    or_atom (λ i. reg i) (λ i. tt) (s.regs n) _ (or_atom (λ i. input i) (λ i. tt) (s.inputs n) _ (or_atom (λ i. var i) (λ i. tt) (s.vars n) (reg unknown) tt))

constant_atom : (t : List ℕ) → IfSome (constant_of t) IsAtom
unfolding constant_of
constant_atom t = bound IsAtom (decimal_of (before_first is_colon t)) _ (λ w _. bound IsAtom (number_of (after_first is_colon t)) _ (λ n _. tt))

either_atom : (s : Positions) (other : Option Tree) (o : Option Name) → IfSome other IsAtom → IfSome (named_or s other o) IsAtom
either_atom s other None h = h
either_atom s other (Some n) h = named_atom s n

atom_is : (s : Positions) (e : Tree) (t : List ℕ) → atom_of s t ≡ Some e → IsAtom e
unfolding atom_of
atom_is s e t h = at_some IsAtom (named_or s (constant_of t) (name_of t)) e (either_atom s (constant_of t) (name_of t) (constant_atom t)) h

atom_spells : (s : Positions) (e : Tree) (t : List ℕ) → IsAtom e → atom_of s t ≡ Some e → Spells s e (t ∷ [])
unfolding Spells
atom_spells s (value w n) t a h = (t, h, refl)
atom_spells s (reg i) t a h = (t, h, refl)
atom_spells s (input i) t a h = (t, h, refl)
atom_spells s (var i) t a h = (t, h, refl)
atom_spells s (apply1 op x) t a h = absurd a
atom_spells s (apply2 op x y) t a h = absurd a
atom_spells s (apply3 op x y z) t a h = absurd a

first_takes : (s : Positions) (ts : Tokens) (x : Tree × Tokens) → first_by (atom_of s) ts ≡ Some x → Takes s x.0 ts x.1
first_takes s [] x h = absurd cc
first_takes s (t ∷ ts) x h =
    let p = mapped_some ts (atom_of s t) x h in
    record { front = t ∷ []; parts = ap (λ (us : Tokens). t ∷ us) p.1; spelled = atom_spells s x.0 t (atom_is s x.0 t p.0) p.0 }

level_takes : (s : Positions) (part : Tokens → Front Tree) → IsSound s part → IsSound s (level s part)
unfolding level
level_takes s part sound [] x h = absurd cc
level_takes s part sound (t ∷ ts) x h =
    elim (chosen_cases (is_open t) (applied_at part ts) (first_by (atom_of s) (t ∷ ts)) (Some x) h) [
      | inl c ↦ subst (λ (u : List ℕ). Takes s x.0 (u ∷ ts) x.1) (sym ((bytes_eq-Decides t (codes "(")).0 c.0)) (applied_takes s part sound ts x c.1)
      | inr c ↦ first_takes s (t ∷ ts) x c.1
    ]

pub expr_takes : (s : Positions) (most : ℕ) → IsSound s (expr_at s most)
unfolding expr_at
expr_takes s zero ts x h = first_takes s ts x h
expr_takes s (suc most) ts x h = level_takes s (expr_at s most) (expr_takes s most) ts x h
