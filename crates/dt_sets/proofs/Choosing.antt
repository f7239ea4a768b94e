-- The operands that an operator uses, and one of them that has one number.
use Rattle.std.proofs.Common.{◌≡◌, ℕ, zero, suc, ◌*◌, ◌<◌, ◌≤◌, Bool, true, false, not, ◌&&◌, ◌||◌, cond, eqb, ltb, leb, List, [], ◌∷◌, length, refl, sym, ap, ◌∙◌, subst, arith}
use Rattle.std.specs.List.{filter}
use Rattle.std.proofs.lemmas.Bool.{cond-true, cond-false, ltb-true, lt-ltb}
use Rattle.std.proofs.lemmas.List.Elements.{filter_agree}
use Rattle.std.proofs.lemmas.Nat.{pow_pos}
use Rattle.std.proofs.Math.Nat.{mul-le-mul}
use Rattle.dt_lemmas.proofs.Equalities.{three}
use Rattle.dt_bits.specs.Bits.{IsWidth, IsValue, width}
use Rattle.dt_bits.specs.Ops.{arity_of, fits_at, width_of, value_of, some_used}
use Rattle.dt_bits.specs.declared.op.Op.{Op}
use Rattle.dt_bits.specs.declared.value.Bv.{Bv}
use Rattle.dt_bits.specs.declared.value.Width.{Width}
use Rattle.dt_domain.specs.Domain.{Fitting, operand}
use Rattle.dt_sets.specs.declared.Sets.{Sets}
use Rattle.dt_sets.specs.Lists.{rising}
use Rattle.dt_sets.specs.Sets.{IsSets, listed, listing, sets_is_empty, no_sets, sets_full, gathered}
use Rattle.dt_sets.specs.Forward.{valued, width_after, value_with, numbers_at, some_used_empty, are_few, values, values_of, sets_forward}
use Rattle.dt_sets.specs.Backward.{some_give, partners, is_possible, fixed, fixed_gives, sets_backward}
use Rattle.dt_sets.specs.Ops.{sets_ops}
use Rattle.dt_sets.specs.Laws.Form.{listed_is, listing_of, one_of}
use Rattle.dt_sets.specs.Laws.Calls.{none_pass}

-- ---- used operands

-- u lists the numbers of s, or 0 alone where the operator doesn't use it
pub record Used (op : Op) (k : ℕ) (s u : Sets) : Type 0 where
  pub is : IsSets u
  pub width : u.width ≡ s.width
  pub few : u.many ≡ false
  pub numbers : listed u ≡ numbers_at op k s

zero_alone : (w : Width) → IsWidth w.0 → IsSets (listing w (0 ∷ []))
zero_alone w h = (listing_of w (0 ∷ []) h (record { short = omega arith; rises = (tt, tt); fits = (pow_pos w.0, tt) })).0

pub used_is : (op : Op) (k : ℕ) (s u : Sets) → IsSets s → (k < arity_of op → s.many ≡ false) → u ≡ cond (ltb k (arity_of op)) s (listing s.width (0 ∷ [])) → Used op k s u
used_is op k s u p m e = at (ltb k (arity_of op)) refl
  where
    at : (t : Bool) → ltb k (arity_of op) ≡ t → Used op k s u
    at true t =
        let f : u ≡ s = e ∙ cond-true (ltb k (arity_of op)) s (listing s.width (0 ∷ [])) t in
        record {
          is = subst IsSets (sym f) p;
          width = ap (λ (s : Sets). s.width) f;
          few = ap (λ (s : Sets). s.many) f ∙ m (ltb-true k (arity_of op) t);
          numbers = ap listed f ∙ sym (cond-true (ltb k (arity_of op)) (listed s) (0 ∷ []) t);
        }
    at false t =
        let f : u ≡ listing s.width (0 ∷ []) = e ∙ cond-false (ltb k (arity_of op)) s (listing s.width (0 ∷ [])) t in
        record {
          is = subst IsSets (sym f) (zero_alone s.width p.width);
          width = ap (λ (s : Sets). s.width) f;
          few = ap (λ (s : Sets). s.many) f;
          numbers = ap listed f ∙ listed_is s.width (0 ∷ []) ∙ sym (cond-false (ltb k (arity_of op)) (listed s) (0 ∷ []) t);
        }

bits_are : (op : Op) (k : ℕ) (s u : Sets) → Used op k s u → u.width.0 ≡ s.width.0
bits_are op k s u h = ap (λ (w : Width). w.0) h.width

pub fitting_used : (op : Op) (a b c u v w : Sets) → Fitting sets_ops op a b c → Used op 0 a u → Used op 1 b v → Used op 2 c w → Fitting sets_ops op u v w
fitting_used op a b c u v w f p q r = record {
  op_is = f.op_is;
  a_is = p.is;
  b_is = q.is;
  c_is = r.is;
  fits = three (fits_at op) (bits_are op 0 a u p) (bits_are op 1 b v q) (bits_are op 2 c w r) ∙ f.fits;
}

pub width_used : (op : Op) (a b c u v w : Sets) → Used op 0 a u → Used op 1 b v → Used op 2 c w → width_after op u v w ≡ width_after op a b c
width_used op a b c u v w p q r = three (λ x y z. width (width_of op x y z)) (bits_are op 0 a u p) (bits_are op 1 b v q) (bits_are op 2 c w r)

value_used : (op : Op) (a b c u v w : Sets) (x y z : ℕ) → Used op 0 a u → Used op 1 b v → Used op 2 c w → value_with op u v w x y z ≡ value_with op a b c x y z
value_used op a b c u v w x y z p q r = three (λ s t r. value_of op (valued s x) (valued t y) (valued r z)) p.width q.width r.width

pub selections_used : (op : Op) (a b c u v w : Sets) → Used op 0 a u → Used op 1 b v → Used op 2 c w
    → length (listed u) * length (listed v) * length (listed w) ≡ length (numbers_at op 0 a) * length (numbers_at op 1 b) * length (numbers_at op 2 c)
selections_used op a b c u v w p q r = three (λ xs ys zs. length xs * length ys * length zs) p.numbers q.numbers r.numbers

pub values_used : (op : Op) (a b c u v w : Sets) → Used op 0 a u → Used op 1 b v → Used op 2 c w
    → values op u v w (listed u) (listed v) (listed w) ≡ values op a b c (numbers_at op 0 a) (numbers_at op 1 b) (numbers_at op 2 c)
values_used op a b c u v w p q r =
    let g : Width → Width → Width → List ℕ = λ s t r. values op (listing s []) (listing t []) (listing r []) (listed u) (listed v) (listed w) in
    three g p.width q.width r.width ∙ three (values op a b c) p.numbers q.numbers r.numbers

-- ---- an operand that has one number

pub refit_first : (op : Op) (a b c t : Sets) → Fitting sets_ops op a b c → IsSets t → t.width ≡ a.width → Fitting sets_ops op t b c
refit_first op a b c t f p e = record { op_is = f.op_is; a_is = p; b_is = f.b_is; c_is = f.c_is; fits = ap (λ (w : Width). fits_at op w.0 b.width.0 c.width.0) e ∙ f.fits }

pub refit_second : (op : Op) (a b c t : Sets) → Fitting sets_ops op a b c → IsSets t → t.width ≡ b.width → Fitting sets_ops op a t c
refit_second op a b c t f p e = record { op_is = f.op_is; a_is = f.a_is; b_is = p; c_is = f.c_is; fits = ap (λ (w : Width). fits_at op a.width.0 w.0 c.width.0) e ∙ f.fits }

pub refit_third : (op : Op) (a b c t : Sets) → Fitting sets_ops op a b c → IsSets t → t.width ≡ c.width → Fitting sets_ops op a b t
refit_third op a b c t f p e = record { op_is = f.op_is; a_is = f.a_is; b_is = f.b_is; c_is = p; fits = ap (λ (w : Width). fits_at op a.width.0 b.width.0 w.0) e ∙ f.fits }

-- some selection gives a number of r, by the operands' widths
gives : Op → Sets → Width → Width → Width → List ℕ → List ℕ → List ℕ → Bool
gives op r s t u xs ys zs = some_give op r (listing s []) (listing t []) (listing u []) xs ys zs

pub fix_first : (op : Op) (r a b c t : Sets) (n : ℕ) → t.width ≡ a.width → listed t ≡ n ∷ [] → some_give op r t b c (listed t) (listed b) (listed c) ≡ fixed_gives op 0 r a b c n
unfolding gives
fix_first op r a b c t n w e =
    ap (λ xs. some_give op r t b c xs (listed b) (listed c)) e
    ∙ ap (λ w. gives op r w b.width c.width (n ∷ []) (listed b) (listed c)) w

pub fix_second : (op : Op) (r a b c t : Sets) (n : ℕ) → t.width ≡ b.width → listed t ≡ n ∷ [] → some_give op r a t c (listed a) (listed t) (listed c) ≡ fixed_gives op 1 r a b c n
unfolding gives
fix_second op r a b c t n w e =
    ap (λ xs. some_give op r a t c (listed a) xs (listed c)) e
    ∙ ap (λ w. gives op r a.width w c.width (listed a) (n ∷ []) (listed c)) w

pub fix_third : (op : Op) (r a b c t : Sets) (n : ℕ) → t.width ≡ c.width → listed t ≡ n ∷ [] → some_give op r a b t (listed a) (listed b) (listed t) ≡ fixed_gives op 2 r a b c n
unfolding gives
fix_third op r a b c t n w e =
    ap (λ xs. some_give op r a b t (listed a) (listed b) xs) e
    ∙ ap (λ w. gives op r a.width b.width w (listed a) (listed b) (n ∷ [])) w

fixed_used : (op : Op) (k n j : ℕ) (s u : Sets) → listed u ≡ numbers_at op j s → fixed k n j u ≡ partners op k n j s
fixed_used op k n j s u e = ap (cond (eqb k j) (n ∷ [])) e

-- what a number of an operand gives, with the used operands
pub possible_used : (op : Op) (k : ℕ) (r a b c u v w : Sets) (n : ℕ) → Used op 0 a u → Used op 1 b v → Used op 2 c w
    → fixed_gives op k r u v w n ≡ is_possible op k r a b c n
unfolding gives
possible_used op k r a b c u v w n p q s =
    three (λ x y z. gives op r x y z (fixed k n 0 u) (fixed k n 1 v) (fixed k n 2 w)) p.width q.width s.width
    ∙ three (some_give op r a b c) (fixed_used op k n 0 a u p.numbers) (fixed_used op k n 1 b v q.numbers) (fixed_used op k n 2 c w s.numbers)

-- the numbers of an operand that are kept
pub kept_used : (op : Op) (k : ℕ) (r a b c u v w s t : Sets) → Used op 0 a u → Used op 1 b v → Used op 2 c w → Used op k s t → k < arity_of op
    → listing t.width (filter (fixed_gives op k r u v w) (listed t)) ≡ listing s.width (filter (is_possible op k r a b c) (listed s))
kept_used op k r a b c u v w s t p q o h l =
    ap (λ x. listing x (filter (fixed_gives op k r u v w) (listed t))) h.width
    ∙ ap (listing s.width) (filter_agree (fixed_gives op k r u v w) (is_possible op k r a b c) (λ n. possible_used op k r a b c u v w n p q o) (listed t))
    ∙ ap (λ xs. listing s.width (filter (is_possible op k r a b c) xs)) (h.numbers ∙ cond-true (ltb k (arity_of op)) (listed s) (0 ∷ []) (lt-ltb k (arity_of op) l))

pub operand_few : (k : ℕ) (a b c : Sets) → a.many ≡ false → b.many ≡ false → c.many ≡ false → (operand k a b c).many ≡ false
operand_few zero a b c p q r = p
operand_few (suc zero) a b c p q r = q
operand_few (suc (suc k)) a b c p q r = r

-- ---- how many selections there are

pub two_counts : (m n : ℕ) → m ≤ 8 → n ≤ 8 → m * n ≤ 64
two_counts m n h k = mul-le-mul h k

pub three_counts : (m n o : ℕ) → m ≤ 8 → n ≤ 8 → o ≤ 8 → m * n * o ≤ 512
three_counts m n o h k l = mul-le-mul (two_counts m n h k) l

-- ---- forward and backward by their cases

pub forward_none : (op : Op) (a b c : Sets) → some_used_empty op a b c ≡ true → no_sets (width_after op a b c) ≡ sets_forward op a b c
forward_none op a b c e = sym (cond-true (some_used_empty op a b c) _ _ e)

unlisted_few : (p q : Bool) → p ≡ true → (not p && q) ≡ false
unlisted_few p q e = grind arith

listed_few : (p q : Bool) → p ≡ false → (not p && q) ≡ q
listed_few p q e = grind arith

abbrev pub selections : Op → Sets → Sets → Sets → Bool
selections op a b c = leb (length (numbers_at op 0 a) * length (numbers_at op 1 b) * length (numbers_at op 2 c)) 64

pub forward_unlisted : (op : Op) (a b c : Sets) → some_used_empty op a b c ≡ false → some_used op a.many b.many c.many ≡ true → sets_full (width_after op a b c) ≡ sets_forward op a b c
forward_unlisted op a b c e m = sym (
    cond-false (some_used_empty op a b c) (no_sets (width_after op a b c)) _ e
    ∙ cond-false (are_few op a b c) (gathered (width_after op a b c) (rising (values_of op a b c))) (sets_full (width_after op a b c)) (unlisted_few _ (selections op a b c) m))

pub forward_few : (op : Op) (a b c : Sets) → some_used_empty op a b c ≡ false → some_used op a.many b.many c.many ≡ false
    → cond (selections op a b c) (gathered (width_after op a b c) (rising (values_of op a b c))) (sets_full (width_after op a b c)) ≡ sets_forward op a b c
forward_few op a b c e m =
    let g = gathered (width_after op a b c) (rising (values_of op a b c)) in
    let f = sets_full (width_after op a b c) in
    sym (cond-false (some_used_empty op a b c) (no_sets (width_after op a b c)) _ e ∙ ap (λ t. cond t g f) (listed_few _ (selections op a b c) m))

pub backward_none : (op : Op) (k : ℕ) (r a b c s : Sets) → s ≡ operand k a b c → (sets_is_empty r || some_used_empty op a b c) ≡ true → no_sets s.width ≡ sets_backward op k r a b c
backward_none op k r a b c s d e = ap (λ (s : Sets). no_sets s.width) d ∙ sym (cond-true (sets_is_empty r || some_used_empty op a b c) _ _ e)

pub either_unlisted : (r p q : Bool) → (r || p) ≡ true → (not r && (not p && q)) ≡ false
either_unlisted r p q e = grind arith

neither_unlisted : (r p q : Bool) → (r || p) ≡ false → (not r && (not p && q)) ≡ q
neither_unlisted r p q e = grind arith

pub backward_unlisted : (op : Op) (k : ℕ) (r a b c s : Sets) → s ≡ operand k a b c → (sets_is_empty r || some_used_empty op a b c) ≡ false
    → (r.many || some_used op a.many b.many c.many) ≡ true → sets_full s.width ≡ sets_backward op k r a b c
backward_unlisted op k r a b c s d e m =
    let t = operand k a b c in
    ap (λ (s : Sets). sets_full s.width) d ∙ sym (
    cond-false (sets_is_empty r || some_used_empty op a b c) (no_sets t.width) _ e
    ∙ cond-false (not r.many && are_few op a b c) (listing t.width (filter (is_possible op k r a b c) (listed t))) (sets_full t.width)
    (either_unlisted r.many _ (selections op a b c) m))

pub backward_few : (op : Op) (k : ℕ) (r a b c s : Sets) → s ≡ operand k a b c → (sets_is_empty r || some_used_empty op a b c) ≡ false
    → (r.many || some_used op a.many b.many c.many) ≡ false
    → cond (selections op a b c) (listing s.width (filter (is_possible op k r a b c) (listed s))) (sets_full s.width) ≡ sets_backward op k r a b c
backward_few op k r a b c s d e m =
    let t = operand k a b c in
    let f : Sets → Bool → Sets = λ s q. cond q (listing s.width (filter (is_possible op k r a b c) (listed s))) (sets_full s.width) in
    ap (λ s. f s (selections op a b c)) d ∙ sym (
    cond-false (sets_is_empty r || some_used_empty op a b c) (no_sets t.width) _ e
    ∙ ap (f t) (neither_unlisted r.many _ (selections op a b c) m))

pub unlisted_none : (r p : Bool) → (r || p) ≡ false → p ≡ false
unlisted_none r p e = grind arith

-- the numbers that are kept of an operand, where there are few selections
pub kept_few : (op : Op) (k : ℕ) (r a b c u v w s t x : Sets) → Used op 0 a u → Used op 1 b v → Used op 2 c w → Used op k s t → k < arity_of op → x ≡ s
    → selections op a b c ≡ true
    → listing t.width (filter (fixed_gives op k r u v w) (listed t))
    ≡ cond (selections op a b c) (listing x.width (filter (is_possible op k r a b c) (listed x))) (sets_full x.width)
kept_few op k r a b c u v w s t x p q o h l e f =
    kept_used op k r a b c u v w s t p q o h l
    ∙ ap (λ (s : Sets). listing s.width (filter (is_possible op k r a b c) (listed s))) (sym e)
    ∙ sym (cond-true (selections op a b c) _ (sets_full x.width) f)

-- ---- all three operands

pub record AllUsed (op : Op) (a b c u v w : Sets) : Type 0 where
  pub first : Used op 0 a u
  pub second : Used op 1 b v
  pub third : Used op 2 c w

pub all_used : (op : Op) (a b c u v w : Sets) → Fitting sets_ops op a b c → some_used op a.many b.many c.many ≡ false
    → u ≡ cond (ltb 0 (arity_of op)) a (listing a.width (0 ∷ [])) → v ≡ cond (ltb 1 (arity_of op)) b (listing b.width (0 ∷ [])) → w ≡ cond (ltb 2 (arity_of op)) c (listing c.width (0 ∷ []))
    → AllUsed op a b c u v w
all_used op a b c u v w f m e g h =
    let n = none_pass op a.many b.many c.many m in
    record {
      first = used_is op 0 a u f.a_is n.first e;
      second = used_is op 1 b v f.b_is n.second g;
      third = used_is op 2 c w f.c_is n.third h;
    }

pub all_fitting : (op : Op) (a b c u v w : Sets) → Fitting sets_ops op a b c → AllUsed op a b c u v w → Fitting sets_ops op u v w
all_fitting op a b c u v w f h = fitting_used op a b c u v w f h.first h.second h.third

pub all_selections : (op : Op) (a b c u v w : Sets) (t q : Bool) → AllUsed op a b c u v w → t ≡ leb (length (listed u) * length (listed v) * length (listed w)) 64 → t ≡ q → selections op a b c ≡ q
all_selections op a b c u v w t q h e f = ap (λ n. leb n 64) (sym (selections_used op a b c u v w h.first h.second h.third)) ∙ sym e ∙ f

pub gathered_used : (op : Op) (a b c u v w x : Sets) → AllUsed op a b c u v w → selections op a b c ≡ true
    → x ≡ gathered (width_after op u v w) (rising (values op u v w (listed u) (listed v) (listed w)))
    → x ≡ cond (selections op a b c) (gathered (width_after op a b c) (rising (values_of op a b c))) (sets_full (width_after op a b c))
gathered_used op a b c u v w x h f e =
    e ∙ ap (λ y. gathered y (rising (values op u v w (listed u) (listed v) (listed w)))) (width_used op a b c u v w h.first h.second h.third)
    ∙ ap (λ xs. gathered (width_after op a b c) (rising xs)) (values_used op a b c u v w h.first h.second h.third)
    ∙ sym (cond-true (selections op a b c) _ (sets_full (width_after op a b c)) f)

-- ---- one number alone

pub record Alone (v : Bv) (t : Sets) : Type 0 where
  pub is : IsSets t
  pub width : t.width ≡ v.width
  pub few : t.many ≡ false
  pub number : listed t ≡ v.bits ∷ []

pub alone_is : (v : Bv) (t : Sets) → IsValue v → t ≡ listing v.width (v.bits ∷ []) → Alone v t
alone_is v t h e = record {
  is = subst IsSets (sym e) (one_of v h).0;
  width = ap (λ (s : Sets). s.width) e;
  few = ap (λ (s : Sets). s.many) e;
  number = ap listed e ∙ listed_is v.width (v.bits ∷ []);
}
