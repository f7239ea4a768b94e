-- In a line that isn't too deep no expression is deeper than the reader goes.
use Rattle.std.proofs.Common.{◌≡◌, ℕ, ◌+◌, ◌-◌, ◌≤◌, Bool, true, false, ◌||◌, cond, List, [], ◌∷◌, ◌++◌, Some, refl, sym, ap, ◌∙◌, append_assoc, arith, inl, inr}
use Rattle.std.specs.Prelude.{codes}
use Rattle.std.specs.Str.{bytes_eq}
use Rattle.std.proofs.lemmas.Bool.{cases_Bool, cond-false, ltb-false, or_parts}
use Rattle.std.proofs.lemmas.Slice.Eq.{bytes_eq-Decides}
use Rattle.dt_bits.specs.declared.op.Op.{Op}
use Rattle.dt_bits.specs.declared.op.Op.TheVariants.{Const, Not, And, Or, Xor, Add, Sub, Slice, Concat, SignExt, Shl, Shr, Eq, Ltu, Ite}
use Rattle.dt_lex.specs.Names.{name_of}
use Rattle.dt_lex.specs.Numeral.{number_of, digits_read}
use Rattle.dt_model.specs.ModelData.{Tree, value, reg, input, var, apply1, apply2, apply3}
use Rattle.dt_model.specs.Widths.{depth}
use Rattle.dt_modeltext.specs.Expr.{Positions, small_of, decimal_of, constant_of, atom_of}
use Rattle.dt_modeltext.specs.Depth.{unclosed, opens_above}
use Rattle.dt_modeltext.specs.Spelling.{SpellsOperator, SpellsAtom, Spells}

abbrev Tokens : Type 0
Tokens = List (List ℕ)

-- how many are unclosed after some tokens, where n are before them
unfoldable left : ℕ → Tokens → ℕ
left n [] = n
left n (t ∷ ts) = left (unclosed n t) ts

left_append : (n : ℕ) (ts us : Tokens) → left n (ts ++ us) ≡ left (left n ts) us
unfolding left
left_append n [] us = refl
left_append n (t ∷ ts) us = left_append (unclosed n t) ts us

-- what stands behind some tokens of a line that isn't too deep isn't, either
behind : (most n : ℕ) (ts us : Tokens) → opens_above most n (ts ++ us) ≡ false → opens_above most (left n ts) us ≡ false
unfolding left opens_above
behind most n [] us h = h
behind most n (t ∷ ts) us h = behind most (unclosed n t) ts us (or_parts _ _ h).1

first_fits : (most n : ℕ) (t : List ℕ) (ts : Tokens) → opens_above most n (t ∷ ts) ≡ false → unclosed n t ≤ most
unfolding opens_above
first_fits most n t ts h = ltb-false most (unclosed n t) (or_parts _ _ h).0

-- ---- tokens that open and close nothing

abbrev IsInert : List ℕ → Type 0
IsInert t = (bytes_eq t (codes "(") ≡ false) × (bytes_eq t (codes ")") ≡ false)

inert_stays : (n : ℕ) (t : List ℕ) → IsInert t → unclosed n t ≡ n
inert_stays n t h =
    cond-false (bytes_eq t (codes "(")) (n + 1) (cond (bytes_eq t (codes ")")) (n - 1) n) h.0 ∙ cond-false (bytes_eq t (codes ")")) (n - 1) n h.1

is_not : {A : Type 0} (f : List ℕ → A) (w t : List ℕ) (x : A) → (f w ≡ x → ⊥) → f t ≡ x → bytes_eq t w ≡ false
is_not f w t x other h =
    elim (cases_Bool (bytes_eq t w)) [
      | inl is ↦ absurd (other (ap f (sym ((bytes_eq-Decides t w).0 is)) ∙ h))
      | inr isnt ↦ isnt
    ]

number_inert : (t : List ℕ) (n : ℕ) → small_of t ≡ Some n → IsInert t
unfolding small_of number_of digits_read
number_inert t n h = (is_not small_of (codes "(") t (Some n) (λ e. absurd cc) h, is_not small_of (codes ")") t (Some n) (λ e. absurd cc) h)

atom_inert : (s : Positions) (e : Tree) (t : List ℕ) → atom_of s t ≡ Some e → IsInert t
unfolding atom_of name_of constant_of decimal_of small_of number_of digits_read
atom_inert s e t h = (is_not (atom_of s) (codes "(") t (Some e) (λ e. absurd cc) h, is_not (atom_of s) (codes ")") t (Some e) (λ e. absurd cc) h)

word_left : (n : ℕ) (w : List ℕ) (ts : Tokens) → IsInert w → ts ≡ w ∷ [] → left n ts ≡ n
unfolding left
word_left n w ts h is = ap (left n) is ∙ inert_stays n w h

counted_left : (n : ℕ) (w t : List ℕ) (k : ℕ) (ts : Tokens) → IsInert w → small_of t ≡ Some k → ts ≡ w ∷ t ∷ [] → left n ts ≡ n
unfolding left
counted_left n w t k ts h number is =
    ap (left n) is ∙ ap (λ (m : ℕ). unclosed m t) (inert_stays n w h) ∙ inert_stays n t (number_inert t k number)

slice_left : (n : ℕ) (w t u : List ℕ) (k l : ℕ) (ts : Tokens) → IsInert w → small_of t ≡ Some k → small_of u ≡ Some l → ts ≡ w ∷ t ∷ u ∷ [] → left n ts ≡ n
unfolding left
slice_left n w t u k l ts h first second is =
    ap (left n) is ∙ ap (λ (m : ℕ). unclosed (unclosed m t) u) (inert_stays n w h) ∙ ap (λ (m : ℕ). unclosed m u) (inert_stays n t (number_inert t k first)) ∙ inert_stays n u (number_inert u l second)

operator_left : (n : ℕ) (op : Op) (ts : Tokens) → SpellsOperator op ts → left n ts ≡ n
operator_left n Not ts h = word_left n (codes "not") ts (refl, refl) h
operator_left n And ts h = word_left n (codes "and") ts (refl, refl) h
operator_left n Or ts h = word_left n (codes "or") ts (refl, refl) h
operator_left n Xor ts h = word_left n (codes "xor") ts (refl, refl) h
operator_left n Add ts h = word_left n (codes "add") ts (refl, refl) h
operator_left n Sub ts h = word_left n (codes "sub") ts (refl, refl) h
operator_left n (Slice hi lo) ts h = slice_left n (codes "slice") h.0 h.1 hi lo ts (refl, refl) h.2 h.3 h.4
operator_left n Concat ts h = word_left n (codes "concat") ts (refl, refl) h
operator_left n (SignExt to) ts h = counted_left n (codes "sext") h.0 to ts (refl, refl) h.1 h.2
operator_left n (Shl by) ts h = counted_left n (codes "shl") h.0 by ts (refl, refl) h.1 h.2
operator_left n (Shr by) ts h = counted_left n (codes "shr") h.0 by ts (refl, refl) h.1 h.2
operator_left n Eq ts h = word_left n (codes "eq") ts (refl, refl) h
operator_left n Ltu ts h = word_left n (codes "ltu") ts (refl, refl) h
operator_left n Ite ts h = word_left n (codes "ite") ts (refl, refl) h
operator_left n (Const v) ts h = absurd h

-- ---- expressions close what they open

closed_left : (n : ℕ) (os ts : Tokens) → left (n + 1) os ≡ n + 1 → left (n + 1) ts ≡ n + 1 → left n (codes "(" ∷ (os ++ (ts ++ codes ")" ∷ []))) ≡ n
unfolding left
closed_left n os ts h k =
    left_append (n + 1) os (ts ++ codes ")" ∷ []) ∙ ap (λ (m : ℕ). left m (ts ++ codes ")" ∷ [])) h ∙ left_append (n + 1) ts (codes ")" ∷ []) ∙ ap (λ (m : ℕ). m - 1) k ∙ omega arith

left_two : (n : ℕ) (ts us : Tokens) → left n ts ≡ n → left n us ≡ n → left n (ts ++ us) ≡ n
left_two n ts us h k = left_append n ts us ∙ ap (λ (m : ℕ). left m us) h ∙ k

atom_left : (n : ℕ) (s : Positions) (e : Tree) (ts : Tokens) → SpellsAtom s e ts → left n ts ≡ n
atom_left n s e ts h = word_left n h.0 ts (atom_inert s e h.0 h.1) h.2

expr_left : (s : Positions) (e : Tree) (n : ℕ) (ts : Tokens) → Spells s e ts → left n ts ≡ n
unfolding Spells
expr_left s (value w k) n ts h = atom_left n s (value w k) ts h
expr_left s (reg i) n ts h = atom_left n s (reg i) ts h
expr_left s (input i) n ts h = atom_left n s (input i) ts h
expr_left s (var i) n ts h = atom_left n s (var i) ts h
expr_left s (apply1 op a) n ts h =
    ap (left n) h.5 ∙ closed_left n h.0 h.1 (operator_left (n + 1) op h.0 h.3) (expr_left s a (n + 1) h.1 h.4)
expr_left s (apply2 op a b) n ts h =
    let us = h.1 in
    let vs = h.2 in
    let both = left_two (n + 1) us vs (expr_left s a (n + 1) us h.5) (expr_left s b (n + 1) vs h.6) in
    let grouped : ts ≡ codes "(" ∷ (h.0 ++ ((us ++ vs) ++ codes ")" ∷ [])) = h.7 ∙ ap (λ (xs : Tokens). codes "(" ∷ (h.0 ++ xs)) (sym (append_assoc us vs (codes ")" ∷ []))) in
    ap (left n) grouped ∙ closed_left n h.0 (us ++ vs) (operator_left (n + 1) op h.0 h.4) both
expr_left s (apply3 op a b c) n ts h =
    let us = h.1 in
    let vs = h.2 in
    let ws = h.3 in
    let all = left_two (n + 1) us (vs ++ ws) (expr_left s a (n + 1) us h.6) (left_two (n + 1) vs ws (expr_left s b (n + 1) vs h.7) (expr_left s c (n + 1) ws h.8)) in
    let inner : us ++ (vs ++ (ws ++ codes ")" ∷ [])) ≡ (us ++ (vs ++ ws)) ++ codes ")" ∷ [] = ap (λ (xs : Tokens). us ++ xs) (sym (append_assoc vs ws (codes ")" ∷ []))) ∙ sym (append_assoc us (vs ++ ws) (codes ")" ∷ [])) in
    let grouped : ts ≡ codes "(" ∷ (h.0 ++ ((us ++ (vs ++ ws)) ++ codes ")" ∷ [])) = h.9 ∙ ap (λ (xs : Tokens). codes "(" ∷ (h.0 ++ xs)) inner in
    ap (left n) grouped ∙ closed_left n h.0 (us ++ (vs ++ ws)) (operator_left (n + 1) op h.0 h.5) all

-- ---- and open as much as they are deep

-- the operands of an application, behind its operator
record Inside (most n : ℕ) (rest : Tokens) : Type 0 where
  fits : n + 1 ≤ most
  flat : opens_above most (n + 1) rest ≡ false

inside : (most n : ℕ) (op : Op) (os us after : Tokens) → SpellsOperator op os → opens_above most n ((codes "(" ∷ (os ++ us)) ++ after) ≡ false → Inside most n (us ++ after)
unfolding opens_above
inside most n op os us after word h =
    let parts = or_parts _ _ h in
    let regrouped : opens_above most (n + 1) (os ++ (us ++ after)) ≡ false = ap (opens_above most (n + 1)) (sym (append_assoc os us after)) ∙ parts.1 in
    record {
      fits = ltb-false most (n + 1) parts.0;
      flat = ap (λ (m : ℕ). opens_above most m (us ++ after)) (sym (operator_left (n + 1) op os word)) ∙ behind most (n + 1) os (us ++ after) regrouped;
    }

-- behind an operand, as much is unclosed as before it
next : (s : Positions) (e : Tree) (most n : ℕ) (ts us : Tokens) → Spells s e ts → opens_above most n (ts ++ us) ≡ false → opens_above most n us ≡ false
next s e most n ts us h flat = ap (λ (m : ℕ). opens_above most m us) (sym (expr_left s e n ts h)) ∙ behind most n ts us flat

pub is_shallow : (s : Positions) (e : Tree) (most n : ℕ) (ts after : Tokens) → Spells s e ts → n ≤ most → opens_above most n (ts ++ after) ≡ false → n + depth e ≤ most
unfolding Spells
is_shallow s (value w k) most n ts after h le flat = omega arith
is_shallow s (reg i) most n ts after h le flat = omega arith
is_shallow s (input i) most n ts after h le flat = omega arith
is_shallow s (var i) most n ts after h le flat = omega arith
is_shallow s (apply1 op a) most n ts after h le flat =
    let us = h.1 in
    let shown : opens_above most n ((codes "(" ∷ (h.0 ++ (us ++ codes ")" ∷ []))) ++ after) ≡ false = ap (λ (xs : Tokens). opens_above most n (xs ++ after)) (sym h.5) ∙ flat in
    let i = inside most n op h.0 (us ++ codes ")" ∷ []) after h.3 shown in
    let first : opens_above most (n + 1) (us ++ (codes ")" ∷ after)) ≡ false = ap (opens_above most (n + 1)) (sym (append_assoc us (codes ")" ∷ []) after)) ∙ i.flat in
    omega (arith, is_shallow s a most (n + 1) us (codes ")" ∷ after) h.4 i.fits first)
is_shallow s (apply2 op a b) most n ts after h le flat =
    let us = h.1 in
    let vs = h.2 in
    let shown : opens_above most n ((codes "(" ∷ (h.0 ++ (us ++ (vs ++ codes ")" ∷ [])))) ++ after) ≡ false = ap (λ (xs : Tokens). opens_above most n (xs ++ after)) (sym h.7) ∙ flat in
    let i = inside most n op h.0 (us ++ (vs ++ codes ")" ∷ [])) after h.4 shown in
    let tail : (vs ++ codes ")" ∷ []) ++ after ≡ vs ++ (codes ")" ∷ after) = append_assoc vs (codes ")" ∷ []) after in
    let first : opens_above most (n + 1) (us ++ ((vs ++ codes ")" ∷ []) ++ after)) ≡ false = ap (opens_above most (n + 1)) (sym (append_assoc us (vs ++ codes ")" ∷ []) after)) ∙ i.flat in
    let second : opens_above most (n + 1) (vs ++ (codes ")" ∷ after)) ≡ false = ap (opens_above most (n + 1)) (sym tail) ∙ next s a most (n + 1) us ((vs ++ codes ")" ∷ []) ++ after) h.5 first in
    omega (arith, is_shallow s a most (n + 1) us ((vs ++ codes ")" ∷ []) ++ after) h.5 i.fits first, is_shallow s b most (n + 1) vs (codes ")" ∷ after) h.6 i.fits second)
is_shallow s (apply3 op a b c) most n ts after h le flat =
    let us = h.1 in
    let vs = h.2 in
    let ws = h.3 in
    let shown : opens_above most n ((codes "(" ∷ (h.0 ++ (us ++ (vs ++ (ws ++ codes ")" ∷ []))))) ++ after) ≡ false = ap (λ (xs : Tokens). opens_above most n (xs ++ after)) (sym h.9) ∙ flat in
    let i = inside most n op h.0 (us ++ (vs ++ (ws ++ codes ")" ∷ []))) after h.5 shown in
    let end : (ws ++ codes ")" ∷ []) ++ after ≡ ws ++ (codes ")" ∷ after) = append_assoc ws (codes ")" ∷ []) after in
    let first : opens_above most (n + 1) (us ++ ((vs ++ (ws ++ codes ")" ∷ [])) ++ after)) ≡ false = ap (opens_above most (n + 1)) (sym (append_assoc us (vs ++ (ws ++ codes ")" ∷ [])) after)) ∙ i.flat in
    let second : opens_above most (n + 1) (vs ++ ((ws ++ codes ")" ∷ []) ++ after)) ≡ false = ap (opens_above most (n + 1)) (sym (append_assoc vs (ws ++ codes ")" ∷ []) after)) ∙ next s a most (n + 1) us ((vs ++ (ws ++ codes ")" ∷ [])) ++ after) h.6 first in
    let third : opens_above most (n + 1) (ws ++ (codes ")" ∷ after)) ≡ false = ap (opens_above most (n + 1)) (sym end) ∙ next s b most (n + 1) vs ((ws ++ codes ")" ∷ []) ++ after) h.7 second in
    omega (arith, is_shallow s a most (n + 1) us ((vs ++ (ws ++ codes ")" ∷ [])) ++ after) h.6 i.fits first, is_shallow s b most (n + 1) vs ((ws ++ codes ")" ∷ []) ++ after) h.7 i.fits second, is_shallow s c most (n + 1) ws (codes ")" ∷ after) h.8 i.fits third)

-- wherever it stands in the line
left_fits : (most n : ℕ) (ts us : Tokens) → n ≤ most → opens_above most n (ts ++ us) ≡ false → left n ts ≤ most
unfolding left opens_above
left_fits most n [] us le flat = le
left_fits most n (t ∷ ts) us le flat =
    let parts = or_parts _ _ flat in
    left_fits most (unclosed n t) ts us (ltb-false most (unclosed n t) parts.0) parts.1

pub is_shallow_in : (s : Positions) (e : Tree) (most : ℕ) (before ts after : Tokens) → Spells s e ts → opens_above most 0 (before ++ (ts ++ after)) ≡ false → depth e ≤ most
is_shallow_in s e most before ts after h flat =
    omega (arith, is_shallow s e most (left 0 before) ts after h (left_fits most 0 before (ts ++ after) (omega arith) flat) (behind most 0 before (ts ++ after) flat))
