-- Values of terms that are put behind others.
use Rattle.std.proofs.Common.{◌≡◌, ℕ, Bool, true, false, not, ◌&&◌, ◌||◌, eqb, List, [], ◌∷◌, ◌++◌, length, refl, sym, ap, ◌∙◌, subst, arith, length-append}
use Rattle.std.proofs.Math.ListN.{get_or-append}
use Rattle.std.proofs.Math.Seq.{get_or-append_seam}
use Rattle.dt_bits.specs.Bits.{width}
use Rattle.dt_bits.specs.Ops.{arity_of, applied}
use Rattle.dt_bits.specs.declared.op.Op.{Op}
use Rattle.dt_bits.specs.declared.op.Op.TheVariants.{Const, Not, And, Or, Xor, Add, Sub, Slice, Concat, SignExt, Shl, Shr, Eq, Ltu, Ite}
use Rattle.dt_bits.specs.declared.value.Bv.{Bv}
use Rattle.dt_terms.specs.declared.term.Term.{Term}
use Rattle.dt_terms.specs.declared.term.Term.TheVariants.{Choice, Node}
use Rattle.dt_terms.specs.Terms.{term_at}
use Rattle.dt_terms.specs.Additions.{kept, node_of}
use Rattle.dt_forms.specs.Placing.{place, put, shared}
use Rattle.dt_forms.specs.Same.{same_op, same_term}
use Rattle.std.specs.Prelude.{position, Option, Some, None}
use Rattle.std.proofs.lemmas.List.Quantifiers.{position-Some}
use Rattle.std.proofs.lemmas.Bool.{and_parts, eqb-true, false≢true}
use Rattle.dt_forms.specs.Meaning.{Valuation, HasValue, IsLawful, flag, is_one}

-- earlier terms have their values
pub lawful_before : (v : Valuation) (terms more : List Term) → IsLawful v (terms ++ more) → IsLawful v terms
lawful_before v terms more h t l =
    subst (λ (x : Term). HasValue v x (v t)) (get_or-append terms more (Choice (record { 0 = 1 })) t l) (h t (omega (arith, length-append terms more)))

pub lawful_last : (v : Valuation) (terms : List Term) (x : Term) → IsLawful v (terms ++ x ∷ []) → HasValue v x (v (length terms))
lawful_last v terms x h =
    subst (λ (y : Term). HasValue v y (v (length terms))) (get_or-append_seam terms x [] (Choice (record { 0 = 1 }))) (h (length terms) (omega (arith, length-append terms (x ∷ []))))

same_op_is : (x y : Op) → same_op x y ≡ true → x ≡ y
same_op_is (Const x) (Const y) e =
    let p = and_parts (eqb x.width.0 y.width.0) (eqb x.bits y.bits) e in
    ap (λ (w : ℕ). Const (record { width = width w; bits = x.bits })) (eqb-true _ _ p.0) ∙ ap (λ (n : ℕ). Const (record { width = y.width; bits = n })) (eqb-true _ _ p.1)
same_op_is Not Not e = refl
same_op_is And And e = refl
same_op_is Or Or e = refl
same_op_is Xor Xor e = refl
same_op_is Add Add e = refl
same_op_is Sub Sub e = refl
same_op_is (Slice hi lo) (Slice h l) e =
    let p = and_parts (eqb hi h) (eqb lo l) e in
    ap (λ (n : ℕ). Slice n lo) (eqb-true hi h p.0) ∙ ap (λ (n : ℕ). Slice h n) (eqb-true lo l p.1)
same_op_is Concat Concat e = refl
same_op_is (SignExt x) (SignExt y) e = ap (λ (n : ℕ). SignExt n) (eqb-true x y e)
same_op_is (Shl x) (Shl y) e = ap (λ (n : ℕ). Shl n) (eqb-true x y e)
same_op_is (Shr x) (Shr y) e = ap (λ (n : ℕ). Shr n) (eqb-true x y e)
same_op_is Eq Eq e = refl
same_op_is Ltu Ltu e = refl
same_op_is Ite Ite e = refl
same_op_is _ _ e = absurd (false≢true e)

pub same_term_is : (x y : Term) → same_term x y ≡ true → x ≡ y
same_term_is (Choice w) (Choice x) e = ap (λ (n : ℕ). Choice (width n)) (eqb-true w.0 x.0 e)
same_term_is (Node op a b c w) (Node p i j k x) e =
    let q = and_parts (same_op op p) _ e in
    let r = and_parts (eqb a i) _ q.1 in
    let s = and_parts (eqb b j) _ r.1 in
    let t = and_parts (eqb c k) (eqb w.0 x.0) s.1 in
    ap (λ (o : Op). Node o a b c w) (same_op_is op p q.0) ∙ ap (λ (n : ℕ). Node p n b c w) (eqb-true a i r.0) ∙ ap (λ (n : ℕ). Node p i n c w) (eqb-true b j s.0)
    ∙ ap (λ (n : ℕ). Node p i j n w) (eqb-true c k t.0) ∙ ap (λ (n : ℕ). Node p i j k (width n)) (eqb-true w.0 x.0 t.1)
same_term_is _ _ e = absurd (false≢true e)

pub put_before : (v : Valuation) (terms : List Term) (x : Term) → IsLawful v (put terms x).terms → IsLawful v terms
put_before v terms x h = by_place (position (same_term x) terms) h
  where
    by_place : (o : Option ℕ) → IsLawful v (shared terms x o).terms → IsLawful v terms
    by_place (Some t) g = g
    by_place None g = lawful_before v terms (x ∷ []) g

pub put_value : (v : Valuation) (terms : List Term) (x : Term) → IsLawful v (put terms x).terms → HasValue v x (v (put terms x).at)
put_value v terms x h = by_place (position (same_term x) terms) refl h
  where
    by_place : (o : Option ℕ) → position (same_term x) terms ≡ o → IsLawful v (shared terms x o).terms → HasValue v x (v (shared terms x o).at)
    by_place (Some t) e g =
        let p = position-Some (same_term x) terms t (Choice (width 1)) e in
        subst (λ (y : Term). HasValue v y (v t)) (sym (same_term_is x (term_at terms t) p.1)) (g t p.0)
    by_place None e g = lawful_last v terms x g

-- a node has its operator's value
pub place_value : (v : Valuation) (terms : List Term) (op : Op) (a b c : ℕ) → IsLawful v (place terms op a b c).terms
    → v (place terms op a b c).at ≡ applied op (v (kept op 0 a)) (v (kept op 1 b)) (v (kept op 2 c))
place_value v terms op a b c h = put_value v terms (node_of terms op a b c) h

pub place_before : (v : Valuation) (terms : List Term) (op : Op) (a b c : ℕ) → IsLawful v (place terms op a b c).terms → IsLawful v terms
place_before v terms op a b c h = put_before v terms (node_of terms op a b c) h

-- ---- operands that an operator doesn't have

pub one_operand : (op : Op) (v : Valuation) (a : ℕ) (x y : Bv) → arity_of op ≡ 1 → applied op (v (kept op 0 a)) (v (kept op 1 0)) (v (kept op 2 0)) ≡ applied op (v a) x y
one_operand (Const n) v a x y e = absurd (omega (arith, e))
one_operand Not v a x y e = refl
one_operand And v a x y e = absurd (omega (arith, e))
one_operand Or v a x y e = absurd (omega (arith, e))
one_operand Xor v a x y e = absurd (omega (arith, e))
one_operand Add v a x y e = absurd (omega (arith, e))
one_operand Sub v a x y e = absurd (omega (arith, e))
one_operand (Slice hi lo) v a x y e = refl
one_operand Concat v a x y e = absurd (omega (arith, e))
one_operand (SignExt to) v a x y e = refl
one_operand (Shl by) v a x y e = refl
one_operand (Shr by) v a x y e = refl
one_operand Eq v a x y e = absurd (omega (arith, e))
one_operand Ltu v a x y e = absurd (omega (arith, e))
one_operand Ite v a x y e = absurd (omega (arith, e))

pub two_operands : (op : Op) (v : Valuation) (a b : ℕ) (x : Bv) → arity_of op ≡ 2 → applied op (v (kept op 0 a)) (v (kept op 1 b)) (v (kept op 2 0)) ≡ applied op (v a) (v b) x
two_operands (Const n) v a b x e = absurd (omega (arith, e))
two_operands Not v a b x e = absurd (omega (arith, e))
two_operands And v a b x e = refl
two_operands Or v a b x e = refl
two_operands Xor v a b x e = refl
two_operands Add v a b x e = refl
two_operands Sub v a b x e = refl
two_operands (Slice hi lo) v a b x e = absurd (omega (arith, e))
two_operands Concat v a b x e = refl
two_operands (SignExt to) v a b x e = absurd (omega (arith, e))
two_operands (Shl by) v a b x e = absurd (omega (arith, e))
two_operands (Shr by) v a b x e = absurd (omega (arith, e))
two_operands Eq v a b x e = refl
two_operands Ltu v a b x e = refl
two_operands Ite v a b x e = absurd (omega (arith, e))

pub three_operands : (op : Op) (v : Valuation) (a b c : ℕ) → arity_of op ≡ 3 → applied op (v (kept op 0 a)) (v (kept op 1 b)) (v (kept op 2 c)) ≡ applied op (v a) (v b) (v c)
three_operands (Const n) v a b c e = absurd (omega (arith, e))
three_operands Not v a b c e = absurd (omega (arith, e))
three_operands And v a b c e = absurd (omega (arith, e))
three_operands Or v a b c e = absurd (omega (arith, e))
three_operands Xor v a b c e = absurd (omega (arith, e))
three_operands Add v a b c e = absurd (omega (arith, e))
three_operands Sub v a b c e = absurd (omega (arith, e))
three_operands (Slice hi lo) v a b c e = absurd (omega (arith, e))
three_operands Concat v a b c e = absurd (omega (arith, e))
three_operands (SignExt to) v a b c e = absurd (omega (arith, e))
three_operands (Shl by) v a b c e = absurd (omega (arith, e))
three_operands (Shr by) v a b c e = absurd (omega (arith, e))
three_operands Eq v a b c e = absurd (omega (arith, e))
three_operands Ltu v a b c e = absurd (omega (arith, e))
three_operands Ite v a b c e = refl

-- ---- truths

pub flag_one : (b : Bool) → is_one (flag b) ≡ b
flag_one true = refl
flag_one false = refl

pub and_flags : (p q : Bool) (x : Bv) → applied And (flag p) (flag q) x ≡ flag (p && q)
and_flags true true x = refl
and_flags true false x = refl
and_flags false true x = refl
and_flags false false x = refl

pub or_flags : (p q : Bool) (x : Bv) → applied Or (flag p) (flag q) x ≡ flag (p || q)
or_flags true true x = refl
or_flags true false x = refl
or_flags false true x = refl
or_flags false false x = refl

pub not_flag : (p : Bool) (x y : Bv) → applied Not (flag p) x y ≡ flag (not p)
not_flag true x y = refl
not_flag false x y = refl

pub and_value : (v : Valuation) (terms : List Term) (a b : ℕ) (p q : Bool) → IsLawful v (place terms And a b 0).terms → v a ≡ flag p → v b ≡ flag q
    → v (place terms And a b 0).at ≡ flag (p && q)
and_value v terms a b p q h e f =
    place_value v terms And a b 0 h ∙ ap (λ (x : Bv). applied And x (v b) (v 0)) e ∙ ap (λ (x : Bv). applied And (flag p) x (v 0)) f ∙ and_flags p q (v 0)

pub or_value : (v : Valuation) (terms : List Term) (a b : ℕ) (p q : Bool) → IsLawful v (place terms Or a b 0).terms → v a ≡ flag p → v b ≡ flag q
    → v (place terms Or a b 0).at ≡ flag (p || q)
or_value v terms a b p q h e f =
    place_value v terms Or a b 0 h ∙ ap (λ (x : Bv). applied Or x (v b) (v 0)) e ∙ ap (λ (x : Bv). applied Or (flag p) x (v 0)) f ∙ or_flags p q (v 0)

pub not_value : (v : Valuation) (terms : List Term) (a : ℕ) (p : Bool) → IsLawful v (place terms Not a 0 0).terms → v a ≡ flag p
    → v (place terms Not a 0 0).at ≡ flag (not p)
not_value v terms a p h e =
    place_value v terms Not a 0 0 h ∙ ap (λ (x : Bv). applied Not x (v 0) (v 0)) e ∙ not_flag p (v 0) (v 0)
