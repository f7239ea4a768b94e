-- A problem with one more term or requirement is one.
use Rattle.std.proofs.Common.{◌≡◌, ℕ, ◌<◌, ◌≤◌, true, ltb, leb, List, [], ◌∷◌, ◌++◌, length, take, get_or, Some, None, sym, ap, ◌∙◌, subst, arith, length-append, ◌⊎◌, inl, inr}
use Rattle.std.proofs.lemmas.List.{take-append-le}
use Rattle.std.proofs.lemmas.List.Elements.{All-push}
use Rattle.std.proofs.lemmas.Bool.{and_parts, or_cases, le-ltb, ltb-true, leb-true, cases_lt, cond-true, cond-false, lt-ltb}
use Rattle.std.proofs.Math.ListN.{get_or-append}
use Rattle.std.proofs.Math.Seq.{take-append_seam, get_or-append_seam}
use Rattle.dt_bits.specs.Bits.{IsWidth, width}
use Rattle.dt_bits.specs.Ops.{IsOp, arity_of}
use Rattle.dt_bits.specs.declared.op.Op.{Op}
use Rattle.dt_terms.specs.declared.term.Term.{Term}
use Rattle.dt_terms.specs.declared.term.Term.TheVariants.{Choice}
use Rattle.dt_terms.specs.Terms.{width_of_term, term_at, IsOperand, IsTerm, AreTerms}
use Rattle.dt_terms.specs.Problem.{ProblemData, IsProblem, IsTest, most_terms}
use Rattle.dt_terms.specs.Additions.{kept, is_named, are_named, is_fit, node_of, with_term, with_required}

-- earlier terms stay as they were
term_same : (xs : List Term) (x : Term) (t : ℕ) → t < length xs → IsTerm (take t xs) (term_at xs t)
    → IsTerm (take t (xs ++ x ∷ [])) (term_at (xs ++ x ∷ []) t)
term_same xs x t l h =
    rw (take-append-le t xs (x ∷ []) (omega arith), get_or-append xs (x ∷ []) (Choice (width 1)) t l) h

pub AreTerms-push : (xs : List Term) (x : Term) → AreTerms xs → IsTerm xs x → AreTerms (xs ++ x ∷ [])
AreTerms-push xs x h i t l = by_place (cases_lt t (length xs))
  where
    by_place : (t < length xs) ⊎ (length xs ≤ t) → IsTerm (take t (xs ++ x ∷ [])) (term_at (xs ++ x ∷ []) t)
    by_place (inl m) = term_same xs x t m (h t m)
    by_place (inr m) =
        let e : t ≡ length xs = omega (arith, length-append xs (x ∷ [])) in
        rw (e, take-append_seam xs (x ∷ []), get_or-append_seam xs x [] (Choice (width 1))) i

IsTest-push : (xs : List Term) (x : Term) (t : ℕ) → IsTest xs t → IsTest (xs ++ x ∷ []) t
IsTest-push xs x t h = (
  omega (arith, length-append xs (x ∷ []), h.0),
  ap (λ y. (width_of_term y).0) (get_or-append xs (x ∷ []) (Choice (width 1)) t h.0) ∙ h.1,
)

-- a problem with a term that may stand after the others, where there is room
pub problem_more : (p : ProblemData) (x : Term) → IsProblem p → length p.terms < most_terms → IsTerm p.terms x → IsProblem (with_term p x)
problem_more p x h l i = record {
  count = omega (arith, length-append p.terms (x ∷ []));
  terms = AreTerms-push p.terms x h.terms i;
  required = λ k d m. IsTest-push p.terms x (get_or p.required k d) (h.required k d m);
}

pub problem_requires : (p : ProblemData) (t : ℕ) → IsProblem p → IsTest p.terms t → IsProblem (with_required p t)
problem_requires p t h i = record {
  count = h.count;
  terms = h.terms;
  required = All-push (IsTest p.terms) p.required t h.required i;
}

-- a named operand is kept, and one that isn't used stands as 0
pub kept_is : (earlier : List Term) (op : Op) (k a : ℕ) → is_named earlier op k a ≡ true → IsOperand earlier op k (kept op k a)
kept_is earlier op k a e = record {
  used = λ m. subst (λ n. n < length earlier) (sym (cond-true _ a 0 (lt-ltb k (arity_of op) m))) (by_name m (or_cases (leb (arity_of op) k) _ e));
  unused = λ m. cond-false _ a 0 (le-ltb k (arity_of op) m);
}
  where
    by_name : k < arity_of op → (leb (arity_of op) k ≡ true) ⊎ (ltb a (length earlier) ≡ true) → a < length earlier
    by_name m (inl f) = absurd (omega (arith, leb-true _ _ f))
    by_name m (inr f) = ltb-true _ _ f

-- the node of an operator that fits named operands may stand after the terms
pub node_is : (terms : List Term) (op : Op) (a b c : ℕ) → IsOp op → are_named terms op a b c ≡ true → is_fit terms op a b c ≡ true
    → IsWidth (width_of_term (node_of terms op a b c)).0 → IsTerm terms (node_of terms op a b c)
node_is terms op a b c i n f w =
    let p = and_parts (is_named terms op 0 a) _ n in
    let q = and_parts (is_named terms op 1 b) _ p.1 in
    record {
      width_is = w;
      fitting = record {
        op_is = i;
        first = kept_is terms op 0 a p.0;
        second = kept_is terms op 1 b q.0;
        third = kept_is terms op 2 c q.1;
        fits = cond-true _ (Some _) None f;
      };
    }

pub problem_none : IsProblem (record { terms = []; required = [] })
problem_none = record { count = omega arith; terms = λ t l. absurd (omega arith); required = λ k d l. absurd (omega arith) }
