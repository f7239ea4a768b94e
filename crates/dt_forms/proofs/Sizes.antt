-- Forms that have widths can be placed, within their sizes.
use Rattle.dt_forms.specs.Sizes.{Grows, IsPut}
use Rattle.std.proofs.Common.{◌≡◌, ℕ, ◌+◌, ◌<◌, ◌≤◌, Bool, true, false, not, cond, List, [], ◌∷◌, length, Option, Some, None, refl, sym, ap, ◌∙◌, subst, arith, length-append}
use Rattle.std.specs.Prelude.{position}
use Rattle.std.proofs.Math.ListN.{get_or-append}
use Rattle.std.proofs.Math.Seq.{get_or-append_seam}
use Rattle.std.proofs.lemmas.List.Quantifiers.{position-Some}
use Rattle.std.proofs.lemmas.Bool.{lt-ltb, le-leb, cond-true, false≢true, and_from, or_left, or_right}
use Rattle.dt_bits.specs.Bits.{IsWidth, width}
use Rattle.dt_terms.specs.declared.term.Term.{Term}
use Rattle.dt_terms.specs.declared.term.Term.TheVariants.{Choice}
use Rattle.dt_terms.specs.Terms.{AreTerms, IsTerm, term_at, bits_at, width_of_term}
use Rattle.dt_terms.proofs.Additions.{AreTerms-push, node_is}
use Rattle.dt_bits.specs.declared.op.Op.{Op}
use Rattle.dt_bits.specs.Ops.{arity_of, fits_at, fits_of, width_of}
use Rattle.dt_model.specs.Widths.{fitted}
use Rattle.dt_terms.specs.Additions.{kept, are_named, is_fit, operands_fault}
use Rattle.dt_terms.specs.declared.fault.TermFault.TheVariants.{Operand, Width}
use Rattle.dt_bits.proofs.Operators.{fits_same}
use Rattle.dt_terms.proofs.Placed.{fits_parts}
use Rattle.dt_terms.specs.Additions.{node_of}
use Rattle.dt_terms.specs.Problem.{most_terms}
use Rattle.dt_bits.specs.Ops.{IsOp}
use Rattle.dt_forms.specs.Placing.{place}
use Rattle.dt_forms.specs.Room.{FitsPlace}
use Rattle.dt_forms.specs.Forms.{Placing}
use Rattle.dt_forms.specs.Placing.{put, shared}
use Rattle.dt_forms.specs.Same.{same_term}
use Rattle.dt_forms.proofs.Lawful.{same_term_is}

pub grows_none : (terms : List Term) → AreTerms terms → Grows terms terms 0
grows_none terms h = record { terms_are = h; longer = omega arith; most = omega arith; same = λ t l. refl }

pub grows_on : (xs ys zs : List Term) (j k : ℕ) → Grows xs ys j → Grows ys zs k → Grows xs zs (j + k)
grows_on xs ys zs j k g h = record {
  terms_are = h.terms_are;
  longer = omega (arith, g.longer, h.longer);
  most = omega (arith, g.most, h.most);
  same = λ t l. h.same t (omega (arith, l, g.longer)) ∙ g.same t l;
}

pub grows_within : (xs ys : List Term) (j k : ℕ) → j ≤ k → Grows xs ys j → Grows xs ys k
grows_within xs ys j k l g = record { terms_are = g.terms_are; longer = g.longer; most = omega (arith, l, g.most); same = g.same }

pub put_grows : (terms : List Term) (x : Term) → AreTerms terms → IsTerm terms x → IsPut terms (put terms x).terms (put terms x).at (width_of_term x).0 1
put_grows terms x h i = by_place (position (same_term x) terms) refl
  where
    by_place : (o : Option ℕ) → position (same_term x) terms ≡ o → IsPut terms (shared terms x o).terms (shared terms x o).at (width_of_term x).0 1
    by_place (Some t) e =
        let p = position-Some (same_term x) terms t (Choice (width 1)) e in
        record {
          grows = record { terms_are = h; longer = omega arith; most = omega arith; same = λ u l. refl };
          within = p.0;
          bits = ap (λ (y : Term). (width_of_term y).0) (sym (same_term_is x (term_at terms t) p.1));
        }
    by_place None e =
        let n = length-append terms (x ∷ []) in
        record {
          grows = record {
            terms_are = AreTerms-push terms x h i;
            longer = omega (arith, n);
            most = omega (arith, n);
            same = λ u l. ap (λ (y : Term). (width_of_term y).0) (get_or-append terms (x ∷ []) (Choice (width 1)) u l);
          };
          within = omega (arith, n);
          bits = ap (λ (y : Term). (width_of_term y).0) (get_or-append_seam terms x [] (Choice (width 1)));
        }

-- ---- nodes

fit_from : (b q : Bool) → b ≡ true → q ≡ true → cond (not b) (Some Operand) (cond (not q) (Some Width) None) ≡ None
fit_from true true e f = refl
fit_from true false e f = absurd (false≢true f)
fit_from false q e f = absurd (false≢true e)

some_fit : (op : Op) (m n o w : ℕ) → fitted op (Some m) (Some n) (Some o) ≡ Some w → fits_of op m n o ≡ Some (width w)
some_fit op m n o w f = by_fit (fits_at op m n o) f
  where
    by_fit : (b : Bool) → cond b (Some (width_of op m n o)) None ≡ Some w → cond b (Some (width (width_of op m n o))) None ≡ Some (width w)
    by_fit true e = let z : width_of op m n o ≡ w = cc in ap (λ (k : ℕ). Some (width k)) z
    by_fit false e = absurd (cc)

-- an operator of one operand that fits
pub one_of : (terms : List Term) (op : Op) (a m w : ℕ) → arity_of op ≡ 1 → a < length terms → bits_at terms a ≡ m → fitted op (Some m) (Some 1) (Some 1) ≡ Some w → fits_of op (bits_at terms (kept op 0 a)) (bits_at terms (kept op 1 0)) (bits_at terms (kept op 2 0)) ≡ Some (width w)
one_of terms op a m w r l e f =
    let first : 0 < arity_of op → bits_at terms (kept op 0 a) ≡ m = λ z. ap (bits_at terms) (cond-true _ a 0 (lt-ltb 0 (arity_of op) z)) ∙ e in
    let all = fits_same op (bits_at terms (kept op 0 a)) (bits_at terms (kept op 1 0)) (bits_at terms (kept op 2 0)) m 1 1 first (λ z. absurd (omega (arith, z, r))) (λ z. absurd (omega (arith, z, r))) in
    all ∙ some_fit op m 1 1 w f

pub one_fits : (terms : List Term) (op : Op) (a m w : ℕ) → arity_of op ≡ 1 → a < length terms → bits_at terms a ≡ m → fitted op (Some m) (Some 1) (Some 1) ≡ Some w → operands_fault terms op a 0 0 ≡ None
one_fits terms op a m w r l e f =
    fit_from (are_named terms op a 0 0) (is_fit terms op a 0 0)
    (and_from _ _ (or_right _ _ (lt-ltb a (length terms) l)) (and_from _ _ (or_left _ _ (le-leb (arity_of op) 1 (omega (arith, r)))) (or_left _ _ (le-leb (arity_of op) 2 (omega (arith, r))))))
    (fits_parts op _ _ _ (width w) (one_of terms op a m w r l e f)).0

pub two_of : (terms : List Term) (op : Op) (a b m n w : ℕ) → arity_of op ≡ 2 → a < length terms → b < length terms → bits_at terms a ≡ m → bits_at terms b ≡ n → fitted op (Some m) (Some n) (Some 1) ≡ Some w → fits_of op (bits_at terms (kept op 0 a)) (bits_at terms (kept op 1 b)) (bits_at terms (kept op 2 0)) ≡ Some (width w)
two_of terms op a b m n w r l j e g f =
    let first : 0 < arity_of op → bits_at terms (kept op 0 a) ≡ m = λ z. ap (bits_at terms) (cond-true _ a 0 (lt-ltb 0 (arity_of op) z)) ∙ e in
    let second : 1 < arity_of op → bits_at terms (kept op 1 b) ≡ n = λ z. ap (bits_at terms) (cond-true _ b 0 (lt-ltb 1 (arity_of op) z)) ∙ g in
    let all = fits_same op (bits_at terms (kept op 0 a)) (bits_at terms (kept op 1 b)) (bits_at terms (kept op 2 0)) m n 1 first second (λ z. absurd (omega (arith, z, r))) in
    all ∙ some_fit op m n 1 w f

pub two_fits : (terms : List Term) (op : Op) (a b m n w : ℕ) → arity_of op ≡ 2 → a < length terms → b < length terms → bits_at terms a ≡ m → bits_at terms b ≡ n → fitted op (Some m) (Some n) (Some 1) ≡ Some w → operands_fault terms op a b 0 ≡ None
two_fits terms op a b m n w r l j e g f =
    fit_from (are_named terms op a b 0) (is_fit terms op a b 0)
    (and_from _ _ (or_right _ _ (lt-ltb a (length terms) l)) (and_from _ _ (or_right _ _ (lt-ltb b (length terms) j)) (or_left _ _ (le-leb (arity_of op) 2 (omega (arith, r))))))
    (fits_parts op _ _ _ (width w) (two_of terms op a b m n w r l j e g f)).0

pub three_of : (terms : List Term) (op : Op) (a b c m n o w : ℕ) → arity_of op ≡ 3 → a < length terms → b < length terms → c < length terms → bits_at terms a ≡ m → bits_at terms b ≡ n → bits_at terms c ≡ o → fitted op (Some m) (Some n) (Some o) ≡ Some w → fits_of op (bits_at terms (kept op 0 a)) (bits_at terms (kept op 1 b)) (bits_at terms (kept op 2 c)) ≡ Some (width w)
three_of terms op a b c m n o w r l j k e g h f =
    let first : 0 < arity_of op → bits_at terms (kept op 0 a) ≡ m = λ z. ap (bits_at terms) (cond-true _ a 0 (lt-ltb 0 (arity_of op) z)) ∙ e in
    let second : 1 < arity_of op → bits_at terms (kept op 1 b) ≡ n = λ z. ap (bits_at terms) (cond-true _ b 0 (lt-ltb 1 (arity_of op) z)) ∙ g in
    let third : 2 < arity_of op → bits_at terms (kept op 2 c) ≡ o = λ z. ap (bits_at terms) (cond-true _ c 0 (lt-ltb 2 (arity_of op) z)) ∙ h in
    let all = fits_same op (bits_at terms (kept op 0 a)) (bits_at terms (kept op 1 b)) (bits_at terms (kept op 2 c)) m n o first second third in
    all ∙ some_fit op m n o w f

pub three_fits : (terms : List Term) (op : Op) (a b c m n o w : ℕ) → arity_of op ≡ 3 → a < length terms → b < length terms → c < length terms → bits_at terms a ≡ m → bits_at terms b ≡ n → bits_at terms c ≡ o → fitted op (Some m) (Some n) (Some o) ≡ Some w → operands_fault terms op a b c ≡ None
three_fits terms op a b c m n o w r l j k e g h f =
    fit_from (are_named terms op a b c) (is_fit terms op a b c)
    (and_from _ _ (or_right _ _ (lt-ltb a (length terms) l)) (and_from _ _ (or_right _ _ (lt-ltb b (length terms) j)) (or_right _ _ (lt-ltb c (length terms) k))))
    (fits_parts op _ _ _ (width w) (three_of terms op a b c m n o w r l j k e g h f)).0

-- a node whose operands fit; it can be placed where there is room
pub record IsPlacedAt (placing : Placing) (terms : List Term) (op : Op) (a b c w : ℕ) : Type 0 where
  pub can : length terms + 1 ≤ most_terms → FitsPlace placing terms op a b c
  pub put_is : IsPut terms (placing terms op a b c).terms (placing terms op a b c).at w 1

-- nodes whose operands fit are put where there is room
abbrev pub Puts : Placing → Type 0
Puts placing = (terms : List Term) (op : Op) (a b c w : ℕ) → AreTerms terms → IsOp op → operands_fault terms op a b c ≡ None → (width_of_term (node_of terms op a b c)).0 ≡ w → IsWidth w → IsPlacedAt placing terms op a b c w

pub fault_parts : (b q : Bool) → cond (not b) (Some Operand) (cond (not q) (Some Width) None) ≡ None → (b ≡ true) × (q ≡ true)
fault_parts true true e = (refl, refl)
fault_parts true false e = absurd (cc)
fault_parts false q e = absurd (cc)

pub place_can : Puts place
place_can terms op a b c w h i f e k =
    let p = fault_parts (are_named terms op a b c) (is_fit terms op a b c) f in
    let q = put_grows terms (node_of terms op a b c) h (node_is terms op a b c i p.0 p.1 (subst IsWidth (sym e) k)) in
    record {
      can = λ room. record { op_is = i; fits = f; room = omega (arith, q.grows.most, room) };
      put_is = record { grows = q.grows; within = q.within; bits = q.bits ∙ e };
    }
