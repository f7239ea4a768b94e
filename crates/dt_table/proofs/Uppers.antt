-- What terms take their upper bits from: two blocks that are the same bits of two words are one where the words are equal.
use Rattle.std.proofs.Common.{◌≡◌, ℕ, ◌+◌, ◌-◌, ◌*◌, ◌/◌, ◌%◌, ◌<◌, ◌≤◌, ◌^◌, true, ◌&&◌, eqb, leb, ltb, List, length, take, Some, ◌⊎◌, inl, inr, refl, sym, ap, ◌∙◌, subst, arith}
use Rattle.std.proofs.Math.Nat.{div-one}
use Rattle.std.proofs.lemmas.Nat.{shr-shr, field_of, div-mul-add}
use Rattle.std.proofs.lemmas.Bool.{and_parts, leb-true, eqb-true, cases_lt}
use Rattle.std.proofs.lemmas.List.{length-take-le, get_or_past}
use Rattle.dt_lemmas.proofs.Options.{some_is, some_if}
use Rattle.dt_bits.specs.Bits.{width}
use Rattle.dt_bits.specs.declared.op.Op.TheVariants.{Const, Not, And, Or, Xor, Add, Sub, Slice, Concat, SignExt, Shl, Shr, Eq, Ltu, Ite}
use Rattle.dt_bits.specs.declared.value.Bv.{Bv}
use Rattle.dt_bits.specs.declared.value.Width.{Width}
use Rattle.dt_terms.specs.declared.term.Term.{Term}
use Rattle.dt_terms.specs.declared.term.Term.TheVariants.{Choice, Node}
use Rattle.dt_terms.specs.Terms.{AreTerms, IsNode, IsFitting, term_at, bits_at}
use Rattle.dt_forms.specs.Meaning.{Valuation, HasValue, IsLawful, AreValues}
use Rattle.dt_table.specs.declared.differing.Upper.{Upper}
use Rattle.dt_table.specs.Unlike.{upper_from, upper_of, upper_at, same_bits}

-- ---- slices

record IsSlice (from : ℕ) (x : Term) (u : Upper) : Type 0 where
  hi : ℕ
  lo : ℕ
  a : ℕ
  b : ℕ
  c : ℕ
  w : Width
  term_is : x ≡ Node (Slice hi lo) a b c w
  upper_is : record { from = from; word = a; hi = hi; lo = lo } ≡ u

slice_from : (from : ℕ) (x : Term) (u : Upper) → upper_from from x ≡ Some u → IsSlice from x u
slice_from from (Choice w) u e = absurd (cc)
slice_from from (Node (Const x) a b c w) u e = absurd (cc)
slice_from from (Node Not a b c w) u e = absurd (cc)
slice_from from (Node And a b c w) u e = absurd (cc)
slice_from from (Node Or a b c w) u e = absurd (cc)
slice_from from (Node Xor a b c w) u e = absurd (cc)
slice_from from (Node Add a b c w) u e = absurd (cc)
slice_from from (Node Sub a b c w) u e = absurd (cc)
slice_from from (Node Concat a b c w) u e = absurd (cc)
slice_from from (Node (SignExt to) a b c w) u e = absurd (cc)
slice_from from (Node (Shl by) a b c w) u e = absurd (cc)
slice_from from (Node (Shr by) a b c w) u e = absurd (cc)
slice_from from (Node Eq a b c w) u e = absurd (cc)
slice_from from (Node Ltu a b c w) u e = absurd (cc)
slice_from from (Node Ite a b c w) u e = absurd (cc)
slice_from from (Node (Slice hi lo) a b c w) u e = record { hi = hi; lo = lo; a = a; b = b; c = c; w = w; term_is = refl; upper_is = some_is _ u e }

-- a term that is a slice of an earlier one
record IsSliceAt (terms : List Term) (from t : ℕ) (u : Upper) : Type 0 where
  from_is : u.from ≡ from
  there : u.word < length terms
  value_is : (v : Valuation) → IsLawful v terms → (v t).bits ≡ (v u.word).bits % 2 ^ (u.hi + 1) / 2 ^ u.lo

slice_at : (terms : List Term) (from t : ℕ) (u : Upper) → AreTerms terms → t < length terms → upper_from from (term_at terms t) ≡ Some u → IsSliceAt terms from t u
slice_at terms from t u h l e =
    let s = slice_from from (term_at terms t) u e in
    let node : IsNode (take t terms) (Slice s.hi s.lo) s.a s.b s.c s.w = subst (IsFitting (take t terms)) s.term_is (h t l).fitting in
    let n : length (take t terms) ≡ t = length-take-le t terms (omega (arith, l)) in
    let first : s.a < length (take t terms) = node.first.used (omega arith) in
    let fit = some_if (leb s.lo s.hi && ltb s.hi (bits_at (take t terms) s.a)) (width (s.hi - s.lo + 1)) s.w node.fits in
    let order : s.lo ≤ s.hi = leb-true s.lo s.hi (and_parts (leb s.lo s.hi) (ltb s.hi (bits_at (take t terms) s.a)) fit.0).0 in
    let z : s.hi - s.lo + 1 + s.lo ≡ s.hi + 1 = omega (arith, order) in
    subst (λ (x : Upper). IsSliceAt terms from t x) s.upper_is (record {
      from_is = refl;
      there = omega (arith, first, n, l);
      value_is = λ v g.
          let is : HasValue v (Node (Slice s.hi s.lo) s.a s.b s.c s.w) (v t) = subst (λ (x : Term). HasValue v x (v t)) s.term_is (g t l) in
          ap (λ (x : Bv). x.bits) is ∙ sym (field_of (v s.a).bits (s.hi - s.lo + 1) s.lo) ∙ ap (λ (k : ℕ). (v s.a).bits % 2 ^ k / 2 ^ s.lo) z;
    })

-- ---- upper bits

record IsJoined (terms : List Term) (x : Term) (u : Upper) : Type 0 where
  a : ℕ
  b : ℕ
  c : ℕ
  w : Width
  term_is : x ≡ Node Concat a b c w
  first : upper_from (bits_at terms b) (term_at terms a) ≡ Some u

upper_cases : (terms : List Term) (x : Term) (u : Upper) → upper_of terms x ≡ Some u → IsJoined terms x u ⊎ (upper_from 0 x ≡ Some u)
upper_cases terms (Choice w) u e = inr e
upper_cases terms (Node (Const x) a b c w) u e = inr e
upper_cases terms (Node Not a b c w) u e = inr e
upper_cases terms (Node And a b c w) u e = inr e
upper_cases terms (Node Or a b c w) u e = inr e
upper_cases terms (Node Xor a b c w) u e = inr e
upper_cases terms (Node Add a b c w) u e = inr e
upper_cases terms (Node Sub a b c w) u e = inr e
upper_cases terms (Node (Slice hi lo) a b c w) u e = inr e
upper_cases terms (Node (SignExt to) a b c w) u e = inr e
upper_cases terms (Node (Shl by) a b c w) u e = inr e
upper_cases terms (Node (Shr by) a b c w) u e = inr e
upper_cases terms (Node Eq a b c w) u e = inr e
upper_cases terms (Node Ltu a b c w) u e = inr e
upper_cases terms (Node Ite a b c w) u e = inr e
upper_cases terms (Node Concat a b c w) u e = inl (record { a = a; b = b; c = c; w = w; term_is = refl; first = e })

-- a choice has none
upper_within : (terms : List Term) (t : ℕ) (u : Upper) → upper_at terms t ≡ Some u → t < length terms
upper_within terms t u e = by_place (cases_lt t (length terms))
  where
    by_place : (t < length terms) ⊎ (length terms ≤ t) → t < length terms
    by_place (inl l) = l
    by_place (inr l) = let z : upper_of terms (Choice (width 1)) ≡ Some u = ap (upper_of terms) (sym (get_or_past terms t (Choice (width 1)) l)) ∙ e in absurd (cc)

-- the word is a term, and where terms have their values the bits are its
pub record IsUpper (terms : List Term) (t : ℕ) (u : Upper) : Type 0 where
  pub there : u.word < length terms
  pub value_is : (v : Valuation) → AreValues v terms → (v t).bits / 2 ^ u.from ≡ (v u.word).bits % 2 ^ (u.hi + 1) / 2 ^ u.lo

pub upper_is : (terms : List Term) (t : ℕ) (u : Upper) → AreTerms terms → upper_at terms t ≡ Some u → IsUpper terms t u
upper_is terms t u h e = by_case (upper_cases terms (term_at terms t) u e)
  where
    l : t < length terms
    l = upper_within terms t u e

    by_case : IsJoined terms (term_at terms t) u ⊎ (upper_from 0 (term_at terms t) ≡ Some u) → IsUpper terms t u
    by_case (inr f) =
        let s = slice_at terms 0 t u h l f in
        record { there = s.there; value_is = λ v g. ap (λ (k : ℕ). (v t).bits / 2 ^ k) s.from_is ∙ div-one (v t).bits ∙ s.value_is v g.lawful }
    by_case (inl j) =
        let node : IsNode (take t terms) Concat j.a j.b j.c j.w = subst (IsFitting (take t terms)) j.term_is (h t l).fitting in
        let n : length (take t terms) ≡ t = length-take-le t terms (omega (arith, l)) in
        let first : j.a < length (take t terms) = node.first.used (omega arith) in
        let second : j.b < length (take t terms) = node.second.used (omega arith) in
        let s = slice_at terms (bits_at terms j.b) j.a u h (omega (arith, first, n, l)) j.first in
        record {
          there = s.there;
          value_is = λ v g.
              let is : HasValue v (Node Concat j.a j.b j.c j.w) (v t) = subst (λ (x : Term). HasValue v x (v t)) j.term_is (g.lawful t l) in
              let wide : (v j.b).width.0 ≡ u.from = g.wide j.b (omega (arith, second, n, l)) ∙ sym s.from_is in
              ap (λ (x : Bv). x.bits / 2 ^ u.from) is
              ∙ ap (λ (k : ℕ). ((v j.a).bits * 2 ^ k + (v j.b).bits) / 2 ^ u.from) wide
              ∙ div-mul-add (v j.a).bits (2 ^ u.from) (v j.b).bits (subst (λ (k : ℕ). (v j.b).bits < 2 ^ k) wide (g.ranged j.b))
              ∙ s.value_is v g.lawful;
        }

-- ---- blocks

block_from : (v : Valuation) (terms : List Term) (e t : ℕ) (u : Upper) → AreValues v terms → IsUpper terms t u → u.from ≤ e → (v t).bits / 2 ^ e ≡ (v u.word).bits % 2 ^ (u.hi + 1) / 2 ^ (u.lo + (e - u.from))
block_from v terms e t u h i l =
    let z : e ≡ u.from + (e - u.from) = omega (arith, l) in
    ap (λ (k : ℕ). (v t).bits / 2 ^ k) z ∙ sym (shr-shr (v t).bits u.from (e - u.from))
    ∙ ap (λ (n : ℕ). n / 2 ^ (e - u.from)) (i.value_is v h) ∙ shr-shr ((v u.word).bits % 2 ^ (u.hi + 1)) u.lo (e - u.from)

-- equal words give one block
pub one_block_of : (v : Valuation) (terms : List Term) (e s t : ℕ) (x y : Upper) → AreValues v terms → IsUpper terms s x → IsUpper terms t y → same_bits e x y ≡ true → (v x.word).bits ≡ (v y.word).bits → (v s).bits / 2 ^ e ≡ (v t).bits / 2 ^ e
one_block_of v terms e s t x y h i j same words =
    let p = and_parts (leb x.from e && leb y.from e) (eqb x.hi y.hi && eqb (x.lo + y.from) (y.lo + x.from)) same in
    let froms = and_parts (leb x.from e) (leb y.from e) p.0 in
    let bits = and_parts (eqb x.hi y.hi) (eqb (x.lo + y.from) (y.lo + x.from)) p.1 in
    let lx : x.from ≤ e = leb-true x.from e froms.0 in
    let ly : y.from ≤ e = leb-true y.from e froms.1 in
    let hi : x.hi ≡ y.hi = eqb-true x.hi y.hi bits.0 in
    let sum : x.lo + y.from ≡ y.lo + x.from = eqb-true (x.lo + y.from) (y.lo + x.from) bits.1 in
    let lo : x.lo + (e - x.from) ≡ y.lo + (e - y.from) = omega (arith, lx, ly, sum) in
    block_from v terms e s x h i lx
    ∙ ap (λ (n : ℕ). n % 2 ^ (x.hi + 1) / 2 ^ (x.lo + (e - x.from))) words
    ∙ ap (λ (k : ℕ). (v y.word).bits % 2 ^ (k + 1) / 2 ^ (x.lo + (e - x.from))) hi
    ∙ ap (λ (k : ℕ). (v y.word).bits % 2 ^ (y.hi + 1) / 2 ^ k) lo
    ∙ sym (block_from v terms e t y h j ly)
