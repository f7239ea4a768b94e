-- Forward and backward make Sets of the right widths, and hold what they must.
use Rattle.std.proofs.Common.{◌≡◌, ℕ, zero, suc, ◌*◌, ◌^◌, ◌<◌, Bool, true, false, not, ◌&&◌, ◌||◌, cond, eqb, ltb, leb, List, [], ◌∷◌, length, map, refl, sym, ap, ◌∙◌, subst, arith}
use Rattle.std.specs.List.{AllByRecursion, filter, flat_map, list_any}
use Rattle.std.proofs.lemmas.Bool.{cond_both, cond-true, cond-false, and_parts, and_from, or_from, lt-ltb, ltb-true, le-leb, eqb-true, not-true}
use Rattle.std.proofs.lemmas.Nat.{pow_pos}
use Rattle.dt_bits.specs.Bits.{IsWidth}
use Rattle.dt_bits.specs.Ops.{arity_of, some_used}
use Rattle.dt_bits.specs.declared.op.Op.{Op}
use Rattle.dt_bits.specs.declared.value.Width.{Width}
use Rattle.dt_bits.proofs.Operators.{value_used, value_fits, result_is_width, none_used}
use Rattle.dt_domain.specs.Domain.{Fitting, FittingAt, HoldUsed, AreUsedKnown, IsAllKnown, operand}
use Rattle.dt_sets.specs.declared.Sets.{Sets}
use Rattle.dt_sets.specs.Lists.{has, rising}
use Rattle.dt_sets.specs.Sets.{capacity, IsSets, listed, listing, sets_holds, sets_is_empty, no_sets, sets_full, gathered}
use Rattle.dt_sets.specs.Forward.{valued, width_after, value_with, numbers_at, some_used_empty, most_selections, are_few, values, values_of, sets_forward}
use Rattle.dt_sets.specs.Backward.{some_give, partners, is_possible, sets_backward}
use Rattle.dt_sets.specs.Ops.{sets_ops}
use Rattle.dt_sets.specs.Laws.Lists.{any_has, here, has-flat, has-map, has-filter, has-inserted, all-flat, all-map, all-inserted, rising-inserted}
use Rattle.dt_sets.specs.Laws.Form.{IsOf, nothing_of, full_of, filtered_of, gathered_of, areas, few_holds, listing_holds, full_holds, held_fits}
use Rattle.dt_sets.specs.Laws.KnownBits.{single, lists_few, one_known}
use Rattle.dt_sets.specs.Laws.Meets.{held_not_empty}

-- ---- numbers of operands

-- a number that is used, or the one that stands for nothing
abbrev pub used : Op → ℕ → ℕ → ℕ
used op k x = cond (ltb k (arity_of op)) x 0

used_is : (op : Op) (k x : ℕ) → k < arity_of op → used op k x ≡ x
used_is op k x l = cond-true (ltb k (arity_of op)) x 0 (lt-ltb k (arity_of op) l)

pub used_same : (op : Op) (a b c : Sets) (x y z : ℕ) → value_with op a b c x y z ≡ value_with op a b c (used op 0 x) (used op 1 y) (used op 2 z)
used_same op a b c x y z = value_used op _ _ _ _ _ _
    (λ l. ap (valued a.width) (sym (used_is op 0 x l))) (λ l. ap (valued b.width) (sym (used_is op 1 y l))) (λ l. ap (valued c.width) (sym (used_is op 2 z l)))

used_fits : (op : Op) (k : ℕ) (s : Sets) (x : ℕ) → IsSets s → (k < arity_of op → sets_holds s x ≡ true) → used op k x < 2 ^ s.width.0
used_fits op k s x p h = cond_both (ltb k (arity_of op)) x 0 (λ n. n < 2 ^ s.width.0)
    (λ t. held_fits s x p (h (ltb-true k (arity_of op) t))) (λ _. pow_pos s.width.0)

either_has : (t : Bool) (xs : List ℕ) (x : ℕ) → (t ≡ true → has xs x ≡ true) → has (cond t xs (0 ∷ [])) (cond t x 0) ≡ true
either_has true xs x h = h refl
either_has false xs x h = refl

-- a number that is held is among the numbers of its operand
pub in_numbers : (op : Op) (k : ℕ) (s : Sets) (x : ℕ) → (k < arity_of op → s.many ≡ false) → (k < arity_of op → sets_holds s x ≡ true) → has (numbers_at op k s) (used op k x) ≡ true
in_numbers op k s x m h = either_has (ltb k (arity_of op)) (listed s) x
    (λ t. let l = ltb-true k (arity_of op) t in sym (few_holds s x (m l)) ∙ h l)

all_numbers : (op : Op) (k : ℕ) (s : Sets) → IsSets s → AllByRecursion (λ x. x < 2 ^ s.width.0) (numbers_at op k s)
all_numbers op k s p = cond_both (ltb k (arity_of op)) (listed s) (0 ∷ []) (AllByRecursion (λ x. x < 2 ^ s.width.0)) (λ _. p.fits) (λ _. (pow_pos s.width.0, tt))

-- ---- values

pub width_is : (op : Op) (a b c : Sets) → Fitting sets_ops op a b c → IsWidth (width_after op a b c).0
width_is op a b c f = result_is_width op a.width.0 b.width.0 c.width.0 f.op_is f.a_is.width f.b_is.width f.fits

fits_after : (op : Op) (a b c : Sets) (x y z : ℕ) → Fitting sets_ops op a b c → x < 2 ^ a.width.0 → y < 2 ^ b.width.0 → z < 2 ^ c.width.0
    → value_with op a b c x y z < 2 ^ (width_after op a b c).0
fits_after op a b c x y z f l m n =
    value_fits op (valued a.width x) (valued b.width y) (valued c.width z) f.op_is (f.a_is.width, l) (f.b_is.width, m) (f.c_is.width, n) f.fits

all_values : (op : Op) (a b c : Sets) → Fitting sets_ops op a b c → AllByRecursion (λ v. v < 2 ^ (width_after op a b c).0) (values_of op a b c)
all_values op a b c f =
    let P : ℕ → Type 0 = λ v. v < 2 ^ (width_after op a b c).0 in
    let A : ℕ → Type 0 = λ x. x < 2 ^ a.width.0 in
    let B : ℕ → Type 0 = λ y. y < 2 ^ b.width.0 in
    let C : ℕ → Type 0 = λ z. z < 2 ^ c.width.0 in
    all-flat P A (λ x. flat_map (λ y. map (λ z. value_with op a b c x y z) (numbers_at op 2 c)) (numbers_at op 1 b)) (numbers_at op 0 a)
    (λ x l. all-flat P B (λ y. map (λ z. value_with op a b c x y z) (numbers_at op 2 c)) (numbers_at op 1 b)
    (λ y m. all-map P C (λ z. value_with op a b c x y z) (numbers_at op 2 c) (λ z n. fits_after op a b c x y z f l m n) (all_numbers op 2 c f.c_is))
    (all_numbers op 1 b f.b_is))
    (all_numbers op 0 a f.a_is)

in_values : (op : Op) (a b c : Sets) (xs ys zs : List ℕ) (x y z : ℕ) → has xs x ≡ true → has ys y ≡ true → has zs z ≡ true
    → has (values op a b c xs ys zs) (value_with op a b c x y z) ≡ true
in_values op a b c xs ys zs x y z h k l =
    has-flat (λ x. flat_map (λ y. map (λ z. value_with op a b c x y z) zs) ys) xs x (value_with op a b c x y z) h
    (has-flat (λ y. map (λ z. value_with op a b c x y z) zs) ys y (value_with op a b c x y z) k
    (has-map (λ z. value_with op a b c x y z) zs z l))

-- ---- forward

pub forward_is : (op : Op) (a b c : Sets) → Fitting sets_ops op a b c → IsOf (width_after op a b c) (sets_forward op a b c)
forward_is op a b c f =
    let w = width_after op a b c in
    let h = width_is op a b c f in
    let vs = values_of op a b c in
    cond_both (some_used_empty op a b c) (no_sets w) (cond (are_few op a b c) (gathered w (rising vs)) (sets_full w)) (IsOf w)
    (λ _. nothing_of w h)
    (λ _. cond_both (are_few op a b c) (gathered w (rising vs)) (sets_full w) (IsOf w)
    (λ _. gathered_of w (rising vs) h (rising-inserted [] vs tt) (all-inserted (λ v. v < 2 ^ w.0) [] vs tt (all_values op a b c f)))
    (λ _. full_of w h))

pub full_used : (op : Op) (a b c : Sets) (x y z : ℕ) → HoldUsed sets_ops op a b c x y z → some_used_empty op a b c ≡ false
full_used op a b c x y z u = none_used op (sets_is_empty a) (sets_is_empty b) (sets_is_empty c)
    (λ l. held_not_empty a x (u.first l)) (λ l. held_not_empty b y (u.second l)) (λ l. held_not_empty c z (u.third l))

-- where no used operand passes, each that is used doesn't
pub record NoneUsed (op : Op) (p q r : Bool) : Type 0 where
  pub first : 0 < arity_of op → p ≡ false
  pub second : 1 < arity_of op → q ≡ false
  pub third : 2 < arity_of op → r ≡ false

none_of : (n : ℕ) (p q r : Bool) → (ltb 0 n && p || (ltb 1 n && q || ltb 2 n && r)) ≡ false
    → (0 < n → p ≡ false) × (1 < n → q ≡ false) × (2 < n → r ≡ false)
none_of n p q r h = (λ l. grind arith, λ l. grind arith, λ l. grind arith)

pub none_pass : (op : Op) (p q r : Bool) → some_used op p q r ≡ false → NoneUsed op p q r
none_pass op p q r h = let n = none_of (arity_of op) p q r h in record { first = n.0; second = n.1; third = n.2 }

few_used : (op : Op) (a b c : Sets) → are_few op a b c ≡ true → NoneUsed op a.many b.many c.many
few_used op a b c e =
    let p = and_parts (not (some_used op a.many b.many c.many)) (leb (length (numbers_at op 0 a) * length (numbers_at op 1 b) * length (numbers_at op 2 c)) most_selections) e in
    none_pass op a.many b.many c.many (not-true (some_used op a.many b.many c.many) p.0)

gathered_has : (w : Width) (vs : List ℕ) (v : ℕ) → v < 2 ^ w.0 → has vs v ≡ true → sets_holds (gathered w (rising vs)) v ≡ true
gathered_has w vs v l h = cond_both (leb (length (rising vs)) capacity) (listing w (rising vs)) (sets_full w) (λ s. sets_holds s v ≡ true)
    (λ _. listing_holds w (rising vs) v ∙ has-inserted [] vs v ∙ h)
    (λ _. full_holds w v l)

pub forward_holds : (op : Op) (a b c : Sets) (x y z : ℕ) → Fitting sets_ops op a b c → HoldUsed sets_ops op a b c x y z
    → sets_holds (sets_forward op a b c) (value_with op a b c x y z) ≡ true
forward_holds op a b c x y z f u =
    let w = width_after op a b c in
    let vs = values_of op a b c in
    let v = value_with op a b c (used op 0 x) (used op 1 y) (used op 2 z) in
    let l : v < 2 ^ w.0 = fits_after op a b c (used op 0 x) (used op 1 y) (used op 2 z) f
    (used_fits op 0 a x f.a_is u.first) (used_fits op 1 b y f.b_is u.second) (used_fits op 2 c z f.c_is u.third) in
    let s : sets_forward op a b c ≡ cond (are_few op a b c) (gathered w (rising vs)) (sets_full w) =
    cond-false (some_used_empty op a b c) (no_sets w) _ (full_used op a b c x y z u) in
    ap (sets_holds (sets_forward op a b c)) (used_same op a b c x y z)
    ∙ ap (λ t. sets_holds t v) s
    ∙ cond_both (are_few op a b c) (gathered w (rising vs)) (sets_full w) (λ t. sets_holds t v ≡ true)
    (λ e. let n = few_used op a b c e in
    gathered_has w vs v l (in_values op a b c (numbers_at op 0 a) (numbers_at op 1 b) (numbers_at op 2 c) (used op 0 x) (used op 1 y) (used op 2 z)
    (in_numbers op 0 a x n.first u.first) (in_numbers op 1 b y n.second u.second) (in_numbers op 2 c z n.third u.third)))
    (λ _. full_holds w v l)

-- ---- operands with all bits known

-- the numbers of an operand are one number
record IsOne (op : Op) (k : ℕ) (s : Sets) : Type 0 where
  number : ℕ
  is : numbers_at op k s ≡ number ∷ []

one_number : (op : Op) (k : ℕ) (s : Sets) → IsSets s → (k < arity_of op → IsAllKnown sets_ops s) → IsOne op k s
one_number op k s p h = at (ltb k (arity_of op)) refl
  where
    at : (t : Bool) → ltb k (arity_of op) ≡ t → IsOne op k s
    at true e = let o = single s p (h (ltb-true k (arity_of op) e)).1 in
        record { number = o.0; is = cond-true (ltb k (arity_of op)) (listed s) (0 ∷ []) e ∙ o.1 }
    at false e = record { number = 0; is = cond-false (ltb k (arity_of op)) (listed s) (0 ∷ []) e }

known_few : (s : Sets) → IsSets s → IsAllKnown sets_ops s → s.many ≡ false
known_few s p h = let o = single s p h.1 in lists_few s o.0 [] p o.1

three_ones : (op : Op) (a b c : Sets) (x y z : ℕ) → numbers_at op 0 a ≡ x ∷ [] → numbers_at op 1 b ≡ y ∷ [] → numbers_at op 2 c ≡ z ∷ []
    → (values_of op a b c ≡ value_with op a b c x y z ∷ []) × (length (numbers_at op 0 a) * length (numbers_at op 1 b) * length (numbers_at op 2 c) ≡ 1)
three_ones op a b c x y z e f g = (
  ap (λ xs. values op a b c xs (numbers_at op 1 b) (numbers_at op 2 c)) e
      ∙ ap (λ ys. values op a b c (x ∷ []) ys (numbers_at op 2 c)) f
      ∙ ap (values op a b c (x ∷ []) (y ∷ [])) g,
  ap (λ xs. length xs * length (numbers_at op 1 b) * length (numbers_at op 2 c)) e
      ∙ ap (λ ys. 1 * length ys * length (numbers_at op 2 c)) f
      ∙ ap (λ zs. 1 * 1 * length zs) g,
)

pub forward_known : (op : Op) (a b c : Sets) → Fitting sets_ops op a b c → AreUsedKnown sets_ops op a b c → IsAllKnown sets_ops (sets_forward op a b c)
forward_known op a b c f u =
    let w = width_after op a b c in
    let p = one_number op 0 a f.a_is u.first in
    let q = one_number op 1 b f.b_is u.second in
    let r = one_number op 2 c f.c_is u.third in
    let v = value_with op a b c p.number q.number r.number in
    let t = three_ones op a b c p.number q.number r.number p.is q.is r.is in
    let e : some_used_empty op a b c ≡ false = none_used op (sets_is_empty a) (sets_is_empty b) (sets_is_empty c) (λ l. (u.first l).0) (λ l. (u.second l).0) (λ l. (u.third l).0) in
    let m : some_used op a.many b.many c.many ≡ false = none_used op a.many b.many c.many
    (λ l. known_few a f.a_is (u.first l)) (λ l. known_few b f.b_is (u.second l)) (λ l. known_few c f.c_is (u.third l)) in
    let few : are_few op a b c ≡ true = and_from (not (some_used op a.many b.many c.many)) _ (ap not m) (le-leb _ most_selections (omega (arith, t.1))) in
    let s : sets_forward op a b c ≡ listing w (v ∷ []) =
    cond-false (some_used_empty op a b c) (no_sets w) _ e
    ∙ cond-true (are_few op a b c) (gathered w (rising (values_of op a b c))) (sets_full w) few
    ∙ ap (λ vs. gathered w (rising vs)) t.0 in
    subst (IsAllKnown sets_ops) (sym s) (one_known (record { width = w; bits = v }))

-- ---- backward

pub operand_is : (k : ℕ) (a b c : Sets) → IsSets a → IsSets b → IsSets c → IsSets (operand k a b c)
operand_is zero a b c p q r = p
operand_is (suc zero) a b c p q r = q
operand_is (suc (suc k)) a b c p q r = r

pub backward_is : (op : Op) (k : ℕ) (r a b c : Sets) → FittingAt sets_ops op k r a b c → IsOf (operand k a b c).width (sets_backward op k r a b c)
backward_is op k r a b c f =
    let s = operand k a b c in
    let p : IsSets s = operand_is k a b c f.operands.a_is f.operands.b_is f.operands.c_is in
    let w = s.width in
    cond_both (sets_is_empty r || some_used_empty op a b c) (no_sets w)
    (cond (not r.many && are_few op a b c) (listing w (filter (is_possible op k r a b c) (listed s))) (sets_full w)) (IsOf w)
    (λ _. nothing_of w p.width)
    (λ _. cond_both (not r.many && are_few op a b c) (listing w (filter (is_possible op k r a b c) (listed s))) (sets_full w) (IsOf w)
    (λ _. filtered_of (is_possible op k r a b c) w (listed s) p.width (areas s p))
    (λ _. full_of w p.width))

some_given : (op : Op) (r a b c : Sets) (xs ys zs : List ℕ) (x y z : ℕ) → has xs x ≡ true → has ys y ≡ true → has zs z ≡ true
    → sets_holds r (value_with op a b c x y z) ≡ true → some_give op r a b c xs ys zs ≡ true
some_given op r a b c xs ys zs x y z h k l t =
    any_has (λ x. list_any (λ y. list_any (λ z. sets_holds r (value_with op a b c x y z)) zs) ys) xs x h
    (any_has (λ y. list_any (λ z. sets_holds r (value_with op a b c x y z)) zs) ys y k
    (any_has (λ z. sets_holds r (value_with op a b c x y z)) zs z l t))

in_partners : (op : Op) (k n j : ℕ) (s : Sets) (x : ℕ) → (k ≡ j → n ≡ x) → has (numbers_at op j s) x ≡ true → has (partners op k n j s) x ≡ true
in_partners op k n j s x e h = cond_both (eqb k j) (n ∷ []) (numbers_at op j s) (λ xs. has xs x ≡ true)
    (λ t. subst (λ m. has (m ∷ []) x ≡ true) (sym (e (eqb-true k j t))) (here x []))
    (λ _. h)

-- what is held at a place
record AtPlace (op : Op) (k : ℕ) (a b c : Sets) (x y z : ℕ) : Type 0 where
  held : sets_holds (operand k a b c) (operand k x y z) ≡ true
  few : NoneUsed op a.many b.many c.many → (operand k a b c).many ≡ false
  first : k ≡ 0 → operand k x y z ≡ used op 0 x
  second : k ≡ 1 → operand k x y z ≡ used op 1 y
  third : k ≡ 2 → operand k x y z ≡ used op 2 z

at_place : (op : Op) (k : ℕ) (a b c : Sets) (x y z : ℕ) → k < arity_of op → HoldUsed sets_ops op a b c x y z → AtPlace op k a b c x y z
at_place op zero a b c x y z l u = record {
  held = u.first l;
  few = λ n. n.first l;
  first = λ _. sym (used_is op 0 x l);
  second = λ e. absurd (omega arith);
  third = λ e. absurd (omega arith);
}
at_place op (suc zero) a b c x y z l u = record {
  held = u.second l;
  few = λ n. n.second l;
  first = λ e. absurd (omega arith);
  second = λ _. sym (used_is op 1 y l);
  third = λ e. absurd (omega arith);
}
at_place op (suc (suc k)) a b c x y z l u = record {
  held = u.third (omega arith);
  few = λ n. n.third (omega arith);
  first = λ e. absurd (omega arith);
  second = λ e. absurd (omega arith);
  third = λ _. sym (used_is op 2 z (omega arith));
}

pub backward_holds : (op : Op) (k : ℕ) (r a b c : Sets) (x y z : ℕ) → FittingAt sets_ops op k r a b c → HoldUsed sets_ops op a b c x y z
    → sets_holds r (value_with op a b c x y z) ≡ true → sets_holds (sets_backward op k r a b c) (operand k x y z) ≡ true
backward_holds op k r a b c x y z f u h =
    let s = operand k a b c in
    let n = operand k x y z in
    let w = s.width in
    let p : IsSets s = operand_is k a b c f.operands.a_is f.operands.b_is f.operands.c_is in
    let q = at_place op k a b c x y z f.place u in
    let e : (sets_is_empty r || some_used_empty op a b c) ≡ false = or_from (sets_is_empty r) (some_used_empty op a b c) (held_not_empty r _ h) (full_used op a b c x y z u) in
    ap (λ t. sets_holds t n) (cond-false (sets_is_empty r || some_used_empty op a b c) (no_sets w)
    (cond (not r.many && are_few op a b c) (listing w (filter (is_possible op k r a b c) (listed s))) (sets_full w)) e)
    ∙ cond_both (not r.many && are_few op a b c) (listing w (filter (is_possible op k r a b c) (listed s))) (sets_full w) (λ t. sets_holds t n ≡ true)
    (λ t. let m = few_used op a b c (and_parts (not r.many) (are_few op a b c) t).1 in
    listing_holds w (filter (is_possible op k r a b c) (listed s)) n ∙ has-filter (is_possible op k r a b c) (listed s) n
    ∙ and_from (has (listed s) n) (is_possible op k r a b c n) (sym (few_holds s n (q.few m)) ∙ q.held)
    (some_given op r a b c (partners op k n 0 a) (partners op k n 1 b) (partners op k n 2 c) (used op 0 x) (used op 1 y) (used op 2 z)
    (in_partners op k n 0 a (used op 0 x) q.first (in_numbers op 0 a x m.first u.first))
    (in_partners op k n 1 b (used op 1 y) q.second (in_numbers op 1 b y m.second u.second))
    (in_partners op k n 2 c (used op 2 z) q.third (in_numbers op 2 c z m.third u.third))
    (ap (sets_holds r) (sym (used_same op a b c x y z)) ∙ h)))
    (λ _. full_holds w n (held_fits s n p q.held))
