-- What the node of an operator comes to where it is folded: its value, and its width.
use Rattle.std.proofs.Common.{◌≡◌, ℕ, ◌-◌, ◌<◌, ◌≤◌, ◌^◌, Bool, true, false, ◌&&◌, cond, eqb, ltb, List, [], ◌∷◌, length, Option, Some, None, refl, sym, ap, ◌∙◌, subst, arith, length-append, ⊎_elim}
use Rattle.std.specs.Int.Bits.{bit_and, bit_or, and_self, or_self, and_zero_r, or_zero_r, or_add_and}
use Rattle.std.specs.Prelude.{position}
use Rattle.std.proofs.Math.ListN.{get_or-append}
use Rattle.std.proofs.lemmas.Bool.{cond_both, and_parts, eqb-true, ltb-true, lt-ltb, eq-eqb, cond-true, cases_lt, false≢true}
use Rattle.std.proofs.lemmas.Nat.{pow_pos, or_lt, le_or_r, and_comm, or_comm}
use Rattle.std.proofs.lemmas.List.{get_or_past}
use Rattle.dt_lemmas.proofs.Options.{some_is}
use Rattle.dt_bits.specs.Bits.{IsWidth, IsValue, width}
use Rattle.dt_bits.specs.Ops.{IsOp, arity_of, applied, fits_of, width_of}
use Rattle.dt_bits.specs.declared.op.Op.{Op}
use Rattle.dt_bits.specs.declared.op.Op.TheVariants.{Const, Not, And, Or, Xor, Add, Sub, Slice, Concat, SignExt, Shl, Shr, Eq, Ltu, Ite}
use Rattle.dt_bits.specs.declared.value.Bv.{Bv}
use Rattle.dt_bits.specs.declared.value.Width.{Width}
use Rattle.dt_bits.proofs.Operators.{value_used, value_fits, fits_same}
use Rattle.dt_terms.specs.declared.term.Term.{Term}
use Rattle.dt_terms.specs.declared.term.Term.TheVariants.{Choice, Node}
use Rattle.dt_terms.specs.Terms.{AreTerms, term_at, bits_at, width_of_term}
use Rattle.dt_terms.specs.Additions.{kept, node_of, are_named, is_fit}
use Rattle.dt_terms.proofs.Placed.{placed, fits_parts}
use Rattle.dt_forms.specs.declared.folded.Folded.{Folded}
use Rattle.dt_forms.specs.declared.folded.Folded.TheVariants.{At, Value, New}
use Rattle.dt_forms.specs.Meaning.{Valuation, HasValue, IsLawful, AreValues, flag}
use Rattle.dt_forms.specs.Same.{same_term}
use Rattle.dt_forms.specs.Placing.{place, put, shared}
use Rattle.dt_forms.specs.Forms.{nothing}
use Rattle.dt_forms.specs.Folding.{constant_of, constant_at, operand_at, known, is_zero, is_ones, with_constant, with_second, with_first, with_itself, is_beside, half_known, known_or, folded, placed_folded, fold}
use Rattle.dt_forms.specs.Sizes.{IsPut}
use Rattle.dt_forms.proofs.Lawful.{place_before, place_value}
use Rattle.dt_forms.proofs.Sizes.{Puts, grows_none, grows_within, place_can, fault_parts}
use Rattle.dt_forms.proofs.FormValues.{GivesValues}

-- ---- constants among terms

pub record IsConstant (terms : List Term) (t : ℕ) (x : Bv) : Type 0 where
  pub within : t < length terms
  pub a : ℕ
  pub b : ℕ
  pub c : ℕ
  pub w : Width
  pub is : term_at terms t ≡ Node (Const x) a b c w

constant_node : (y : Term) (x : Bv) → constant_of y ≡ Some x → (a : ℕ) × (b : ℕ) × (c : ℕ) × (w : Width) × (y ≡ Node (Const x) a b c w)
constant_node (Node (Const z) a b c w) x e = (a, b, c, w, ap (λ (q : Bv). Node (Const q) a b c w) (some_is z x e))
constant_node _ x e = absurd (cc)

there : (terms : List Term) (t : ℕ) (x : Bv) → constant_at terms t ≡ Some x → t < length terms
there terms t x e = ⊎_elim
    (λ (l : t < length terms). l)
    (λ (l : length terms ≤ t). let z : constant_at terms t ≡ None = ap constant_of (get_or_past terms t (Choice (width 1)) l) in absurd (cc))
    (cases_lt t (length terms))

pub constant_is : (terms : List Term) (t : ℕ) (x : Bv) → constant_at terms t ≡ Some x → IsConstant terms t x
constant_is terms t x e =
    let n = constant_node (term_at terms t) x e in
    record { within = there terms t x e; a = n.0; b = n.1; c = n.2; w = n.3; is = n.4 }

-- a constant has its value
pub constant_value : (v : Valuation) (terms : List Term) (t : ℕ) (x : Bv) → IsLawful v terms → constant_at terms t ≡ Some x → v t ≡ x
constant_value v terms t x h e =
    let i = constant_is terms t x e in
    subst (λ (y : Term). HasValue v y (v t)) i.is (h t i.within)

pub record IsSizedConstant (terms : List Term) (t : ℕ) (x : Bv) : Type 0 where
  pub value_is : IsValue x
  pub bits : bits_at terms t ≡ x.width.0

pub constant_fits : (terms : List Term) (t : ℕ) (x : Bv) → AreTerms terms → constant_at terms t ≡ Some x → IsSizedConstant terms t x
constant_fits terms t x h e =
    let i = constant_is terms t x e in
    let p = placed terms t (Const x) i.a i.b i.c i.w h i.within i.is in
    record {
      value_is = p.op_is;
      bits = ap (λ (y : Term). (width_of_term y).0) i.is ∙ ap (λ (w : Width). w.0) (sym (fits_parts (Const x) (bits_at terms i.a) (bits_at terms i.b) (bits_at terms i.c) i.w p.fits).1);
    }

-- ---- all operands are constants

width_used : (op : Op) (a b c d e f : ℕ) → (0 < arity_of op → a ≡ d) → (1 < arity_of op → b ≡ e) → (2 < arity_of op → c ≡ f) → width_of op a b c ≡ width_of op d e f
width_used (Const value) a b c d e f p q r = refl
width_used Not a b c d e f p q r = p (omega arith)
width_used And a b c d e f p q r = p (omega arith)
width_used Or a b c d e f p q r = p (omega arith)
width_used Xor a b c d e f p q r = p (omega arith)
width_used Add a b c d e f p q r = p (omega arith)
width_used Sub a b c d e f p q r = p (omega arith)
width_used (Slice hi lo) a b c d e f p q r = refl
width_used Concat a b c d e f p q r = let x = p (omega arith) in let y = q (omega arith) in omega (arith, x, y)
width_used (SignExt to) a b c d e f p q r = refl
width_used (Shl by) a b c d e f p q r = p (omega arith)
width_used (Shr by) a b c d e f p q r = p (omega arith)
width_used Eq a b c d e f p q r = refl
width_used Ltu a b c d e f p q r = refl
width_used Ite a b c d e f p q r = q (omega arith)

applied_used : (op : Op) (a b c d e f : Bv) → (0 < arity_of op → a ≡ d) → (1 < arity_of op → b ≡ e) → (2 < arity_of op → c ≡ f) → applied op a b c ≡ applied op d e f
applied_used op a b c d e f p q r =
    let w = width_used op a.width.0 b.width.0 c.width.0 d.width.0 e.width.0 f.width.0 (λ l. ap (λ (x : Bv). x.width.0) (p l)) (λ l. ap (λ (x : Bv). x.width.0) (q l)) (λ l. ap (λ (x : Bv). x.width.0) (r l)) in
    let n = value_used op a b c d e f p q r in
    λ i. record { width = width (w i); bits = n i }

known_parts : (op : Op) (p q r : Option Bv) (x : Bv) → known op p q r ≡ Some x → (a : Bv) × (b : Bv) × (c : Bv) × (p ≡ Some a) × (q ≡ Some b) × (r ≡ Some c) × (applied op a b c ≡ x)
known_parts op (Some a) (Some b) (Some c) x e = (a, b, c, refl, refl, refl, some_is (applied op a b c) x e)
known_parts op None q r x e = absurd (cc)
known_parts op (Some a) None r x e = absurd (cc)
known_parts op (Some a) (Some b) None x e = absurd (cc)

operand_value : (v : Valuation) (terms : List Term) (op : Op) (k t : ℕ) (x : Bv) → IsLawful v terms → operand_at terms op k t ≡ Some x → k < arity_of op → v (kept op k t) ≡ x
operand_value v terms op k t x h e l =
    let there = lt-ltb k (arity_of op) l in
    let c : constant_at terms t ≡ Some x = sym (cond-true (ltb k (arity_of op)) (constant_at terms t) (Some nothing) there) ∙ e in
    ap v (cond-true (ltb k (arity_of op)) t 0 there) ∙ constant_value v terms t x h c

pub known_value : (v : Valuation) (terms : List Term) (op : Op) (a b c : ℕ) (x : Bv) → IsLawful v terms → known op (operand_at terms op 0 a) (operand_at terms op 1 b) (operand_at terms op 2 c) ≡ Some x
    → x ≡ applied op (v (kept op 0 a)) (v (kept op 1 b)) (v (kept op 2 c))
known_value v terms op a b c x h e =
    let k = known_parts op _ _ _ x e in
    sym k.6 ∙ sym (applied_used op _ _ _ k.0 k.1 k.2 (operand_value v terms op 0 a k.0 h k.3) (operand_value v terms op 1 b k.1 h k.4) (operand_value v terms op 2 c k.2 h k.5))

-- ---- one of two operands is a constant, or they are one term

-- what is folded has this value
abbrev pub IsOf : Valuation → Bv → Folded → Type 0
IsOf v y (At t) = v t ≡ y
IsOf v y (Value x) = x ≡ y
IsOf v y New = Unit {0}

bv_same : (x y : Bv) → x.width.0 ≡ y.width.0 → x.bits ≡ y.bits → x ≡ y
bv_same x y e f = λ i. record { width = width (e i); bits = f i }

with_ones : (w a : ℕ) → a < 2 ^ w → (bit_or a (2 ^ w - 1) ≡ 2 ^ w - 1) × (bit_and a (2 ^ w - 1) ≡ a)
with_ones w a h =
    let p = pow_pos w in
    let l = or_lt w a (2 ^ w - 1) h (omega (arith, p)) in
    let g = le_or_r a (2 ^ w - 1) in
    let s = or_add_and a (2 ^ w - 1) in
    (omega (arith, p, l, g), omega (arith, p, l, g, s))

-- the term at a has the width of the constant x at b, and is below two to it
record IsBeside (v : Valuation) (a b : ℕ) (x : Bv) : Type 0 where
  wide : (v a).width.0 ≡ x.width.0
  value : v b ≡ x
  range : (v a).bits < 2 ^ x.width.0

ones_bits : (v : Valuation) (a b : ℕ) (x : Bv) → IsBeside v a b x → is_ones x ≡ true → (v b).bits ≡ 2 ^ x.width.0 - 1
ones_bits v a b x h o = ap (λ (y : Bv). y.bits) h.value ∙ eqb-true x.bits (2 ^ x.width.0 - 1) o

zero_bits : (v : Valuation) (a b : ℕ) (x : Bv) → IsBeside v a b x → is_zero x ≡ true → (v b).bits ≡ 0
zero_bits v a b x h o = ap (λ (y : Bv). y.bits) h.value ∙ eqb-true x.bits 0 o

width_beside : (v : Valuation) (a b : ℕ) (x : Bv) → IsBeside v a b x → (v b).width.0 ≡ (v a).width.0
width_beside v a b x h = ap (λ (y : Bv). y.width.0) h.value ∙ sym h.wide

constant_beside : (v : Valuation) (op : Op) (a b : ℕ) (x z : Bv) → IsBeside v a b x → IsOf v (applied op (v a) (v b) z) (with_constant op a b x)
constant_beside v And a b x z h =
    let y = applied And (v a) (v b) z in
    let m = (v a).bits in
    cond_both (is_zero x) (At b) (cond (is_ones x) (At a) New) (IsOf v y)
    (λ o. let e = zero_bits v a b x h o in bv_same (v b) y (width_beside v a b x h) (e ∙ sym (ap (bit_and m) e ∙ and_zero_r m)))
    (λ _. cond_both (is_ones x) (At a) New (IsOf v y)
    (λ o. let e = ones_bits v a b x h o in bv_same (v a) y refl (sym (ap (bit_and m) e ∙ (with_ones x.width.0 m h.range).1)))
    (λ _. tt))
constant_beside v Or a b x z h =
    let y = applied Or (v a) (v b) z in
    let m = (v a).bits in
    cond_both (is_zero x) (At a) (cond (is_ones x) (At b) New) (IsOf v y)
    (λ o. let e = zero_bits v a b x h o in bv_same (v a) y refl (sym (ap (bit_or m) e ∙ or_zero_r m)))
    (λ _. cond_both (is_ones x) (At b) New (IsOf v y)
    (λ o. let e = ones_bits v a b x h o in bv_same (v b) y (width_beside v a b x h) (e ∙ sym (ap (bit_or m) e ∙ (with_ones x.width.0 m h.range).0)))
    (λ _. tt))
constant_beside v op a b x z h = tt

constant_before : (v : Valuation) (op : Op) (a b : ℕ) (x z : Bv) → IsBeside v a b x → IsOf v (applied op (v b) (v a) z) (with_constant op a b x)
constant_before v And a b x z h =
    let e = bv_same (applied And (v a) (v b) z) (applied And (v b) (v a) z) (sym (width_beside v a b x h)) (and_comm (v a).bits (v b).bits) in
    subst (λ (y : Bv). IsOf v y (with_constant And a b x)) e (constant_beside v And a b x z h)
constant_before v Or a b x z h =
    let e = bv_same (applied Or (v a) (v b) z) (applied Or (v b) (v a) z) (sym (width_beside v a b x h)) (or_comm (v a).bits (v b).bits) in
    subst (λ (y : Bv). IsOf v y (with_constant Or a b x)) e (constant_beside v Or a b x z h)
constant_before v op a b x z h = tt

not_less : (m n : ℕ) → (m < n → ⊥) → ltb m n ≡ false
not_less m n h = by_test (ltb m n) refl
  where
    by_test : (b : Bool) → ltb m n ≡ b → b ≡ false
    by_test true e = absurd (h (ltb-true m n e))
    by_test false e = refl

second_beside : (v : Valuation) (op : Op) (a b : ℕ) (x z : Bv) → IsBeside v a b x → IsOf v (applied op (v a) (v b) z) (with_second op a b x)
second_beside v Ltu a b x z h =
    cond_both (is_zero x) (Value (flag false)) New (IsOf v (applied Ltu (v a) (v b) z))
    (λ o. let e = zero_bits v a b x h o in ap flag (sym (not_less (v a).bits (v b).bits (λ l. absurd (omega (arith, l, e))))))
    (λ _. tt)
second_beside v op a b x z h = constant_beside v op a b x z h

first_beside : (v : Valuation) (op : Op) (a b : ℕ) (x z : Bv) → IsBeside v b a x → IsOf v (applied op (v a) (v b) z) (with_first op a b x)
first_beside v Ltu a b x z h =
    cond_both (is_ones x) (Value (flag false)) New (IsOf v (applied Ltu (v a) (v b) z))
    (λ o. let e = ones_bits v b a x h o in let r = h.range in ap flag (sym (not_less (v a).bits (v b).bits (λ l. absurd (omega (arith, l, e, r))))))
    (λ _. tt)
first_beside v op a b x z h = constant_before v op b a x z h

itself : (v : Valuation) (op : Op) (a : ℕ) (z : Bv) → IsOf v (applied op (v a) (v a) z) (with_itself op a)
itself v And a z = bv_same (v a) (applied And (v a) (v a) z) refl (sym (and_self (v a).bits))
itself v Or a z = bv_same (v a) (applied Or (v a) (v a) z) refl (sym (or_self (v a).bits))
itself v Eq a z = ap flag (sym (eq-eqb (v a).bits (v a).bits refl))
itself v Ltu a z = ap flag (sym (not_less (v a).bits (v a).bits (λ l. absurd (omega (arith, l)))))
itself v op a z = tt

-- what holds in each case
half_by : (P : Folded → Type 0) (terms : List Term) (op : Op) (a b : ℕ) (p q : Option Bv)
    → ((x : Bv) → q ≡ Some x → is_beside terms a x ≡ true → P (with_second op a b x))
    → ((x : Bv) → p ≡ Some x → is_beside terms b x ≡ true → P (with_first op a b x))
    → (a ≡ b → P (with_itself op a)) → P New
    → P (half_known terms op a b p q)
half_by P terms op a b None (Some x) s f i n = cond_both (is_beside terms a x) (with_second op a b x) New P (λ o. s x refl o) (λ _. n)
half_by P terms op a b (Some x) None s f i n = cond_both (is_beside terms b x) (with_first op a b x) New P (λ o. f x refl o) (λ _. n)
half_by P terms op a b None None s f i n = cond_both (eqb a b) (with_itself op a) New P (λ o. i (eqb-true a b o)) (λ _. n)
half_by P terms op a b (Some x) (Some y) s f i n = cond_both (eqb a b) (with_itself op a) New P (λ o. i (eqb-true a b o)) (λ _. n)

beside_is : (v : Valuation) (terms : List Term) (a b : ℕ) (x : Bv) → AreValues v terms → constant_at terms b ≡ Some x → is_beside terms a x ≡ true → IsBeside v a b x
beside_is v terms a b x h e o =
    let p = and_parts (ltb a (length terms)) (eqb (bits_at terms a) x.width.0) o in
    let wide : (v a).width.0 ≡ x.width.0 = h.wide a (ltb-true a (length terms) p.0) ∙ eqb-true _ _ p.1 in
    record { wide = wide; value = constant_value v terms b x h.lawful e; range = subst (λ (n : ℕ). (v a).bits < 2 ^ n) wide (h.ranged a) }

half_value : (v : Valuation) (terms : List Term) (op : Op) (a b : ℕ) (z : Bv) → AreValues v terms
    → IsOf v (applied op (v a) (v b) z) (half_known terms op a b (constant_at terms a) (constant_at terms b))
half_value v terms op a b z h =
    half_by (IsOf v (applied op (v a) (v b) z)) terms op a b (constant_at terms a) (constant_at terms b)
    (λ x e o. second_beside v op a b x z (beside_is v terms a b x h e o))
    (λ x e o. first_beside v op a b x z (beside_is v terms b a x h e o))
    (λ e. subst (λ (t : ℕ). IsOf v (applied op (v a) (v t) z) (with_itself op a)) e (itself v op a z))
    tt

-- an operator without a rule of its own
no_half : (P : Folded → Type 0) (terms : List Term) (op : Op) (a b : ℕ) (p q : Option Bv) → ((x : Bv) → with_second op a b x ≡ New) → ((x : Bv) → with_first op a b x ≡ New) → with_itself op a ≡ New → P New → P (half_known terms op a b p q)
no_half P terms op a b p q s f i n =
    half_by P terms op a b p q (λ x e o. subst P (sym (s x)) n) (λ x e o. subst P (sym (f x)) n) (λ e. subst P (sym i) n) n

half_is : (v : Valuation) (terms : List Term) (op : Op) (a b c : ℕ) → AreValues v terms
    → IsOf v (applied op (v (kept op 0 a)) (v (kept op 1 b)) (v (kept op 2 c))) (half_known terms op a b (constant_at terms a) (constant_at terms b))
half_is v terms And a b c h = half_value v terms And a b nothing h
half_is v terms Or a b c h = half_value v terms Or a b nothing h
half_is v terms Eq a b c h = half_value v terms Eq a b nothing h
half_is v terms Ltu a b c h = half_value v terms Ltu a b nothing h
half_is v terms op a b c h = no_half (IsOf v (applied op (v (kept op 0 a)) (v (kept op 1 b)) (v (kept op 2 c)))) terms op a b (constant_at terms a) (constant_at terms b) (λ x. refl) (λ x. refl) refl tt

pub folded_value : (v : Valuation) (terms : List Term) (op : Op) (a b c : ℕ) → AreValues v terms
    → IsOf v (applied op (v (kept op 0 a)) (v (kept op 1 b)) (v (kept op 2 c))) (folded terms op a b c)
folded_value v terms op a b c h = by_known (known op (operand_at terms op 0 a) (operand_at terms op 1 b) (operand_at terms op 2 c)) refl
  where
    by_known : (o : Option Bv) → known op (operand_at terms op 0 a) (operand_at terms op 1 b) (operand_at terms op 2 c) ≡ o
        → IsOf v (applied op (v (kept op 0 a)) (v (kept op 1 b)) (v (kept op 2 c))) (known_or o (half_known terms op a b (constant_at terms a) (constant_at terms b)))
    by_known (Some x) e = known_value v terms op a b c x h.lawful e
    by_known None e = half_is v terms op a b c h

-- ---- terms before

put_wide : (v : Valuation) (terms : List Term) (x : Term) → AreValues v (put terms x).terms → (t : ℕ) → t < length terms → (v t).width.0 ≡ bits_at terms t
put_wide v terms x h t l = by_place (position (same_term x) terms) h.wide
  where
    by_place : (o : Option ℕ) → ((u : ℕ) → u < length (shared terms x o).terms → (v u).width.0 ≡ bits_at (shared terms x o).terms u) → (v t).width.0 ≡ bits_at terms t
    by_place (Some u) g = g t l
    by_place None g = g t (omega (arith, l, length-append terms (x ∷ []))) ∙ ap (λ (y : Term). (width_of_term y).0) (get_or-append terms (x ∷ []) (Choice (width 1)) t l)

place_meant : (v : Valuation) (terms : List Term) (op : Op) (a b c : ℕ) → AreValues v (place terms op a b c).terms → AreValues v terms
place_meant v terms op a b c h = record { lawful = place_before v terms op a b c h.lawful; wide = put_wide v terms (node_of terms op a b c) h; ranged = h.ranged }

fold_meant : (v : Valuation) (terms : List Term) (op : Op) (a b c : ℕ) → AreValues v (fold terms op a b c).terms → AreValues v terms
unfolding fold
fold_meant v terms op a b c h = by_folded (folded terms op a b c) h
  where
    by_folded : (f : Folded) → AreValues v (placed_folded terms op a b c f).terms → AreValues v terms
    by_folded (At t) g = g
    by_folded (Value x) g = place_meant v terms (Const (record { width = width x.width.0; bits = x.bits })) 0 0 0 g
    by_folded New g = place_meant v terms op a b c g

-- what is folded stands with the operator's value
fold_value : (v : Valuation) (terms : List Term) (op : Op) (a b c : ℕ) → AreValues v (fold terms op a b c).terms
    → v (fold terms op a b c).at ≡ applied op (v (kept op 0 a)) (v (kept op 1 b)) (v (kept op 2 c))
unfolding fold
fold_value v terms op a b c h = by_folded (folded terms op a b c) h.lawful (folded_value v terms op a b c (fold_meant v terms op a b c h))
  where
    by_folded : (f : Folded) → IsLawful v (placed_folded terms op a b c f).terms → IsOf v (applied op (v (kept op 0 a)) (v (kept op 1 b)) (v (kept op 2 c))) f
        → v (placed_folded terms op a b c f).at ≡ applied op (v (kept op 0 a)) (v (kept op 1 b)) (v (kept op 2 c))
    by_folded (At t) g i = i
    by_folded (Value x) g i = place_value v terms (Const (record { width = width x.width.0; bits = x.bits })) 0 0 0 g ∙ i
    by_folded New g i = place_value v terms op a b c g

-- folding keeps values, and gives those of operators
pub fold_gives : GivesValues AreValues fold
fold_gives = record {
  before = fold_meant;
  value = fold_value;
  number_before = λ v terms x h. place_meant v terms (Const x) 0 0 0 h;
  number_value = λ v terms x h. place_value v terms (Const x) 0 0 0 h.lawful;
}

-- ---- widths

-- what is folded is there with this width
abbrev pub IsIn : List Term → ℕ → Folded → Type 0
IsIn terms w (At t) = (t < length terms) × (bits_at terms t ≡ w)
IsIn terms w (Value x) = IsValue x × (x.width.0 ≡ w)
IsIn terms w New = Unit {0}

flag_in : (terms : List Term) (w : ℕ) (b : Bool) → 1 ≡ w → IsIn terms w (Value (flag b))
flag_in terms w true e = (((omega arith, omega arith), omega arith), e)
flag_in terms w false e = (((omega arith, omega arith), omega arith), e)

constant_in : (terms : List Term) (op : Op) (a b w : ℕ) (x : Bv) → IsIn terms w (At a) → IsIn terms w (At b) → IsIn terms w (with_constant op a b x)
constant_in terms And a b w x i j = cond_both (is_zero x) (At b) (cond (is_ones x) (At a) New) (IsIn terms w) (λ _. j) (λ _. cond_both (is_ones x) (At a) New (IsIn terms w) (λ _. i) (λ _. tt))
constant_in terms Or a b w x i j = cond_both (is_zero x) (At a) (cond (is_ones x) (At b) New) (IsIn terms w) (λ _. i) (λ _. cond_both (is_ones x) (At b) New (IsIn terms w) (λ _. j) (λ _. tt))
constant_in terms op a b w x i j = tt

-- the operands are there, with one width
record AreIn (terms : List Term) (a b : ℕ) : Type 0 where
  first : a < length terms
  second : b < length terms
  same : bits_at terms b ≡ bits_at terms a

and_in : (terms : List Term) (a b w : ℕ) (p q : Option Bv) → AreIn terms a b → bits_at terms a ≡ w → IsIn terms w (half_known terms And a b p q)
and_in terms a b w p q h e =
    let i : IsIn terms w (At a) = (h.first, e) in
    let j : IsIn terms w (At b) = (h.second, h.same ∙ e) in
    half_by (IsIn terms w) terms And a b p q (λ x _ _. constant_in terms And a b w x i j) (λ x _ _. constant_in terms And b a w x j i) (λ _. i) tt

or_in : (terms : List Term) (a b w : ℕ) (p q : Option Bv) → AreIn terms a b → bits_at terms a ≡ w → IsIn terms w (half_known terms Or a b p q)
or_in terms a b w p q h e =
    let i : IsIn terms w (At a) = (h.first, e) in
    let j : IsIn terms w (At b) = (h.second, h.same ∙ e) in
    half_by (IsIn terms w) terms Or a b p q (λ x _ _. constant_in terms Or a b w x i j) (λ x _ _. constant_in terms Or b a w x j i) (λ _. i) tt

less_in : (terms : List Term) (a b w : ℕ) (p q : Option Bv) → 1 ≡ w → IsIn terms w (half_known terms Ltu a b p q)
less_in terms a b w p q e =
    half_by (IsIn terms w) terms Ltu a b p q
    (λ x _ _. cond_both (is_zero x) (Value (flag false)) New (IsIn terms w) (λ _. flag_in terms w false e) (λ _. tt))
    (λ x _ _. cond_both (is_ones x) (Value (flag false)) New (IsIn terms w) (λ _. flag_in terms w false e) (λ _. tt))
    (λ _. flag_in terms w false e) tt

same_in : (terms : List Term) (a b w : ℕ) (p q : Option Bv) → 1 ≡ w → IsIn terms w (half_known terms Eq a b p q)
same_in terms a b w p q e = half_by (IsIn terms w) terms Eq a b p q (λ x _ _. tt) (λ x _ _. tt) (λ _. flag_in terms w true e) tt

both_in : (terms : List Term) (a b : ℕ) → ltb a (length terms) && (ltb b (length terms) && true) ≡ true → eqb (bits_at terms a) (bits_at terms b) ≡ true → AreIn terms a b
both_in terms a b n f =
    let p = and_parts (ltb a (length terms)) (ltb b (length terms) && true) n in
    let q = and_parts (ltb b (length terms)) true p.1 in
    record { first = ltb-true a (length terms) p.0; second = ltb-true b (length terms) q.0; same = sym (eqb-true _ _ f) }

half_in : (terms : List Term) (op : Op) (a b c w : ℕ) (p q : Option Bv) → are_named terms op a b c ≡ true → is_fit terms op a b c ≡ true → (width_of_term (node_of terms op a b c)).0 ≡ w → IsIn terms w (half_known terms op a b p q)
half_in terms And a b c w p q n f e = and_in terms a b w p q (both_in terms a b n f) e
half_in terms Or a b c w p q n f e = or_in terms a b w p q (both_in terms a b n f) e
half_in terms Eq a b c w p q n f e = same_in terms a b w p q e
half_in terms Ltu a b c w p q n f e = less_in terms a b w p q e
half_in terms op a b c w p q n f e = no_half (IsIn terms w) terms op a b p q (λ x. refl) (λ x. refl) refl tt

-- operands that are constants

operand_fits : (terms : List Term) (op : Op) (k t : ℕ) (x : Bv) → AreTerms terms → operand_at terms op k t ≡ Some x → IsValue x × (k < arity_of op → bits_at terms (kept op k t) ≡ x.width.0)
operand_fits terms op k t x h e = by_used (ltb k (arity_of op)) refl e
  where
    one_wide : IsValue nothing
    one_wide = ((omega arith, omega arith), omega arith)

    by_used : (u : Bool) → ltb k (arity_of op) ≡ u → cond u (constant_at terms t) (Some nothing) ≡ Some x → IsValue x × (k < arity_of op → bits_at terms (kept op k t) ≡ x.width.0)
    by_used true l f =
        let c = constant_fits terms t x h f in
        (c.value_is, λ _. ap (bits_at terms) (cond-true (ltb k (arity_of op)) t 0 l) ∙ c.bits)
    by_used false l f = (subst IsValue (some_is nothing x f) one_wide, λ m. absurd (false≢true (sym l ∙ lt-ltb k (arity_of op) m)))

known_in : (terms : List Term) (op : Op) (a b c w : ℕ) (x : Bv) → AreTerms terms → IsOp op → is_fit terms op a b c ≡ true → (width_of_term (node_of terms op a b c)).0 ≡ w → IsWidth w
    → known op (operand_at terms op 0 a) (operand_at terms op 1 b) (operand_at terms op 2 c) ≡ Some x → IsIn terms w (Value x)
known_in terms op a b c w x h i f e s k =
    let p = known_parts op _ _ _ x k in
    let first = operand_fits terms op 0 a p.0 h p.3 in
    let second = operand_fits terms op 1 b p.1 h p.4 in
    let third = operand_fits terms op 2 c p.2 h p.5 in
    let same = fits_same op (bits_at terms (kept op 0 a)) (bits_at terms (kept op 1 b)) (bits_at terms (kept op 2 c)) p.0.width.0 p.1.width.0 p.2.width.0 first.1 second.1 third.1 in
    let there : fits_of op (bits_at terms (kept op 0 a)) (bits_at terms (kept op 1 b)) (bits_at terms (kept op 2 c)) ≡ Some (width w) =
    cond-true (is_fit terms op a b c) (Some (width (width_of op (bits_at terms (kept op 0 a)) (bits_at terms (kept op 1 b)) (bits_at terms (kept op 2 c))))) None f ∙ ap (λ (n : ℕ). Some (width n)) e in
    let q = fits_parts op p.0.width.0 p.1.width.0 p.2.width.0 (width w) (sym same ∙ there) in
    let wide : width_of op p.0.width.0 p.1.width.0 p.2.width.0 ≡ w = ap (λ (z : Width). z.0) q.1 in
    subst (λ (y : Bv). IsIn terms w (Value y)) p.6
    ((subst IsWidth (sym wide) s, value_fits op p.0 p.1 p.2 i first.0 second.0 third.0 q.0), wide)

folded_in : (terms : List Term) (op : Op) (a b c w : ℕ) → AreTerms terms → IsOp op → are_named terms op a b c ≡ true → is_fit terms op a b c ≡ true → (width_of_term (node_of terms op a b c)).0 ≡ w → IsWidth w
    → IsIn terms w (folded terms op a b c)
folded_in terms op a b c w h i n f e s = by_known (known op (operand_at terms op 0 a) (operand_at terms op 1 b) (operand_at terms op 2 c)) refl
  where
    by_known : (o : Option Bv) → known op (operand_at terms op 0 a) (operand_at terms op 1 b) (operand_at terms op 2 c) ≡ o → IsIn terms w (known_or o (half_known terms op a b (constant_at terms a) (constant_at terms b)))
    by_known (Some x) k = known_in terms op a b c w x h i f e s k
    by_known None k = half_in terms op a b c w (constant_at terms a) (constant_at terms b) n f e

-- what is folded stands with the operator's width, and takes one term at most
pub fold_can : Puts fold
unfolding fold
fold_can terms op a b c w h i f e s =
    let p = fault_parts (are_named terms op a b c) (is_fit terms op a b c) f in
    let q = by_folded (folded terms op a b c) (folded_in terms op a b c w h i p.0 p.1 e s) in
    record { can = λ room. record { op_is = i; fits = f; room = omega (arith, q.grows.most, room) }; put_is = q }
  where
    by_folded : (r : Folded) → IsIn terms w r → IsPut terms (placed_folded terms op a b c r).terms (placed_folded terms op a b c r).at w 1
    by_folded (At t) j = record { grows = grows_within terms terms 0 1 (omega arith) (grows_none terms h); within = j.0; bits = j.1 }
    by_folded (Value x) j = (place_can terms (Const (record { width = width x.width.0; bits = x.bits })) 0 0 0 w h j.0 refl j.1 s).put_is
    by_folded New j = (place_can terms op a b c w h i f e s).put_is
