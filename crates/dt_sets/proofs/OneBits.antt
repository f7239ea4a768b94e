-- A Triple of one bit is told by which of 0 and 1 it holds, and each step between such Triples is seen by trying all of them.
use Rattle.std.proofs.Common.{◌≡◌, ℕ, zero, suc, ◌^◌, ◌<◌, Bool, true, false, ◌&&◌, ◌||◌, not, eqb, Option, Some, None, refl, sym, ap, ◌∙◌, subst, ⊎_elim, arith}
use Rattle.std.proofs.lemmas.Bool.{cases_Bool, cond-false, leb-true, false_from_ne_true, and_parts, eqb-true, false≢true, true≢false}
use Rattle.dt_bits.specs.Bits.{IsWidth, width, bit, number_of, some_below}
use Rattle.dt_bits.specs.Ops.{arity_of, fits_at, width_of}
use Rattle.dt_bits.specs.declared.op.Op.{Op}
use Rattle.dt_bits.specs.declared.op.Op.TheVariants.{Const, Not, And, Or, Xor, Add, Sub, Slice, Concat, SignExt, Shl, Shr, Eq, Ltu, Ite}
use Rattle.dt_bits.specs.declared.value.Width.{Width}
use Rattle.dt_pair.specs.Pair.{normal, pair_full}
use Rattle.dt_pair.specs.Ends.{least_candidate, greatest_candidate}
use Rattle.dt_sets.specs.declared.Triple.{Triple}
use Rattle.dt_sets.specs.declared.one_bit.Held.{Held}
use Rattle.dt_sets.specs.declared.one_bit.Table.{Table}
use Rattle.dt_lemmas.proofs.Equalities.{two, three}
use Rattle.dt_sets.specs.Lists.{has, below}
use Rattle.dt_sets.specs.Sets.{is_narrow, listing, everything, sets_full}
use Rattle.dt_sets.specs.Laws.Form.{AreListed}
use Rattle.dt_sets.specs.Triple.{IsTriple, beside, triple_holds, reduced, triple_full, triple_one, triple_meet, triple_forward, triple_backward}
use Rattle.dt_sets.specs.TripleLaws.{triple_laws, triple_eq, triple_exact}
use Rattle.dt_sets.specs.TripleLaws.Numbers.{numbers_hold, numbers_is, numbers_width}
use Rattle.dt_sets.specs.TripleLaws.Reduced.{reduced_many, canonical}
use Rattle.dt_sets.specs.OneBit.{bits_list, of_bits, held, zero_alone, both_hold, table_of, bits_forward, bits_first, bits_second}

-- ---- what a Triple of one bit is

bits_listed : (z o : Bool) → AreListed (width 1) (bits_list z o)
bits_listed false false = record { short = omega arith; rises = tt; fits = tt }
bits_listed true false = record { short = omega arith; rises = (tt, tt); fits = (omega arith, tt) }
bits_listed false true = record { short = omega arith; rises = (tt, tt); fits = (omega arith, tt) }
bits_listed true true = record { short = omega arith; rises = ((omega arith, tt), (tt, tt)); fits = (omega arith, (omega arith, tt)) }

has_zero : (z o : Bool) → has (bits_list z o) 0 ≡ z
has_zero false false = refl
has_zero true false = refl
has_zero false true = refl
has_zero true true = refl

has_one : (z o : Bool) → has (bits_list z o) 1 ≡ o
has_one false false = refl
has_one true false = refl
has_one false true = refl
has_one true true = refl

zero_no_more : (n : ℕ) → eqb 0 (suc (suc n)) ≡ false
zero_no_more n = false_from_ne_true (eqb 0 (suc (suc n))) (λ h. let e = eqb-true 0 (suc (suc n)) h in omega arith)

one_no_more : (n : ℕ) → eqb 1 (suc (suc n)) ≡ false
one_no_more n = false_from_ne_true (eqb 1 (suc (suc n))) (λ h. let e = eqb-true 1 (suc (suc n)) h in omega arith)

has_no_more : (z o : Bool) (n : ℕ) → has (bits_list z o) (suc (suc n)) ≡ false
has_no_more false false n = refl
has_no_more true false n = ap (λ b. b || false) (zero_no_more n)
has_no_more false true n = ap (λ b. b || false) (one_no_more n)
has_no_more true true n = two (λ a b. a || (b || false)) (zero_no_more n) (one_no_more n)

lists_few : (z o : Bool) → (of_bits (held z o)).sets.many ≡ false
lists_few false false = refl
lists_few true false = refl
lists_few false true = refl
lists_few true true = refl

one_wide : IsWidth 1
one_wide = (omega arith, omega arith)

width_is : (w : Width) → w.0 ≡ 1 → w ≡ width 1
width_is w e = ap width e

is_few : (t : Triple) → IsTriple t → t.known.width.0 ≡ 1 → t.sets.many ≡ false
is_few t p e = ⊎_elim
    (λ (m : t.sets.many ≡ true). absurd (true≢false (sym (ap (λ (w : Width). is_narrow w) (sym p.widths ∙ width_is t.known.width e)) ∙ p.sets.wide m)))
    (λ (m : t.sets.many ≡ false). m)
    (cases_Bool t.sets.many)

no_more : (t : Triple) (n : ℕ) → IsTriple t → t.known.width.0 ≡ 1 → triple_holds t (suc (suc n)) ≡ false
no_more t n p e = ⊎_elim
    (λ (h : triple_holds t (suc (suc n)) ≡ true).
    let l : suc (suc n) < 2 ^ 1 = subst (λ w. suc (suc n) < 2 ^ w) e (triple_laws.held_fits t (suc (suc n)) p h) in absurd (omega arith))
    (λ (h : triple_holds t (suc (suc n)) ≡ false). h)
    (cases_Bool (triple_holds t (suc (suc n))))

pub bits_are : (t : Triple) → IsTriple t → t.known.width.0 ≡ 1 → t ≡ of_bits (held (triple_holds t 0) (triple_holds t 1))
bits_are t p e =
    let z = triple_holds t 0 in
    let o = triple_holds t 1 in
    canonical (of_bits (held z o)) (numbers_is (width 1) (bits_list z o) one_wide (bits_listed z o)) t p
    (width_is t.known.width e ∙ sym (numbers_width (width 1) (bits_list z o)))
    (is_few t p e ∙ sym (lists_few z o))
    (λ x. same z o x ∙ sym (numbers_hold (width 1) (bits_list z o) x (bits_listed z o)))
  where
    same : (z o : Bool) (x : ℕ) → triple_holds t x ≡ has (bits_list (triple_holds t 0) (triple_holds t 1)) x
    same z o zero = sym (has_zero (triple_holds t 0) (triple_holds t 1))
    same z o (suc zero) = sym (has_one (triple_holds t 0) (triple_holds t 1))
    same z o (suc (suc n)) = no_more t n p e ∙ sym (has_no_more (triple_holds t 0) (triple_holds t 1) n)

zero_is : (z o : Bool) → (not (of_bits (held z o)).known.empty && eqb (of_bits (held z o)).known.value 0) ≡ z
unfolding number_of bit
zero_is false false = refl
zero_is true false = refl
zero_is false true = refl
zero_is true true = refl

one_is : (z o : Bool) → (not (of_bits (held z o)).known.empty && eqb (of_bits (held z o)).known.value (of_bits (held z o)).known.mask) ≡ o
unfolding number_of bit
one_is false false = refl
one_is true false = refl
one_is false true = refl
one_is true true = refl

pub held_are : (t : Triple) (h : Held) → IsTriple t → t.known.width.0 ≡ 1
    → h.zero ≡ (not t.known.empty && eqb t.known.value 0) → h.one ≡ (not t.known.empty && eqb t.known.value t.known.mask) → t ≡ of_bits h
held_are t h p e f g =
    let z = triple_holds t 0 in
    let o = triple_holds t 1 in
    let b = bits_are t p e in
    let k : h.zero ≡ z = f ∙ ap (λ (t : Triple). not t.known.empty && eqb t.known.value 0) b ∙ zero_is z o in
    let l : h.one ≡ o = g ∙ ap (λ (t : Triple). not t.known.empty && eqb t.known.value t.known.mask) b ∙ one_is z o in
    b ∙ two (λ z o. of_bits (held z o)) (sym k) (sym l)

-- ---- all of them tried

abbrev all_held : (Held → Bool) → Bool
all_held p = (p (held false false) && p (held true false)) && (p (held false true) && p (held true true))

each : (p : Held → Bool) → all_held p ≡ true → (h : Held) → p h ≡ true
each p e h = at h.zero h.one
  where
    at : (z o : Bool) → p (held z o) ≡ true
    at false false = (and_parts (p (held false false)) (p (held true false)) (and_parts (p (held false false) && p (held true false)) (p (held false true) && p (held true true)) e).0).0
    at true false = (and_parts (p (held false false)) (p (held true false)) (and_parts (p (held false false) && p (held true false)) (p (held false true) && p (held true true)) e).0).1
    at false true = (and_parts (p (held false true)) (p (held true true)) (and_parts (p (held false false) && p (held true false)) (p (held false true) && p (held true true)) e).1).0
    at true true = (and_parts (p (held false true)) (p (held true true)) (and_parts (p (held false false) && p (held true false)) (p (held false true) && p (held true true)) e).1).1

-- two operands
abbrev forward_at : Op → Table → Triple → Held → Held → Bool
forward_at op t c h k = triple_eq (triple_forward op (of_bits h) (of_bits k) c) (of_bits (bits_forward t h k))

abbrev first_at : Op → Table → Triple → Held → Held → Held → Bool
first_at op t c r h k = triple_eq (triple_backward op 0 (of_bits r) (of_bits h) (of_bits k) c) (of_bits (bits_first t r h k))

abbrev second_at : Op → Table → Triple → Held → Held → Held → Bool
second_at op t c r h k = triple_eq (triple_backward op 1 (of_bits r) (of_bits h) (of_bits k) c) (of_bits (bits_second t r h k))

-- one
abbrev forward_of : Table → Triple → Triple → Held → Bool
forward_of t b c h = triple_eq (triple_forward Not (of_bits h) b c) (of_bits (bits_forward t h zero_alone))

abbrev backward_of : Table → Triple → Triple → Held → Held → Bool
backward_of t b c r h = triple_eq (triple_backward Not 0 (of_bits r) (of_bits h) b c) (of_bits (bits_first t r h zero_alone))

abbrev all_two : (Held → Held → Bool) → Bool
all_two p = all_held (λ h. all_held (λ k. p h k))

abbrev all_three : (Held → Held → Held → Bool) → Bool
all_three p = all_held (λ r. all_two (λ h k. p r h k))

each_two : (p : Held → Held → Bool) → all_two p ≡ true → (h k : Held) → p h k ≡ true
each_two p e h k = each (λ k. p h k) (each (λ h. all_held (λ k. p h k)) e h) k

each_three : (p : Held → Held → Held → Bool) → all_three p ≡ true → (r h k : Held) → p r h k ≡ true
each_three p e r h k = each_two (λ h k. p r h k) (each (λ r. all_two (λ h k. p r h k)) e r) h k

abbrev bits : Bool → Bool → Bool → Bool → Bool → Table
bits p q r s t = record { at_00 = p; at_01 = q; at_10 = r; at_11 = s; has_second = t }

-- every step of these operators between Triples of one bit
record AreTold (op : Op) (t : Table) (c : Triple) : Type 0 where
  forward : all_two (forward_at op t c) ≡ true
  first : all_three (first_at op t c) ≡ true
  second : all_three (second_at op t c) ≡ true

and_told : (c : Triple) → AreTold And (bits false false false true true) c
unfolding reduced normal below number_of bit some_below least_candidate greatest_candidate
and_told c = record { forward = refl; first = refl; second = refl }

or_told : (c : Triple) → AreTold Or (bits false true true true true) c
unfolding reduced normal below number_of bit some_below least_candidate greatest_candidate
or_told c = record { forward = refl; first = refl; second = refl }

xor_told : (c : Triple) → AreTold Xor (bits false true true false true) c
unfolding reduced normal below number_of bit some_below least_candidate greatest_candidate
xor_told c = record { forward = refl; first = refl; second = refl }

eq_told : (c : Triple) → AreTold Eq (bits true false false true true) c
unfolding reduced normal below number_of bit some_below least_candidate greatest_candidate
eq_told c = record { forward = refl; first = refl; second = refl }

record IsTold (b c : Triple) : Type 0 where
  forward : all_held (forward_of (bits true true false false false) b c) ≡ true
  backward : all_two (backward_of (bits true true false false false) b c) ≡ true

not_told : (b c : Triple) → IsTold b c
unfolding reduced normal below number_of bit some_below least_candidate greatest_candidate
not_told b c = record { forward = refl; backward = refl }

-- the operators of the table
only_some : (t u : Table) → Some t ≡ Some u → t ≡ u
only_some t u e = ap (λ o. or_else o t) e
  where
    or_else : Option Table → Table → Table
    or_else None t = t
    or_else (Some u) t = u

told : (op : Op) (t : Table) (c : Triple) → table_of op ≡ Some t → t.has_second ≡ true → AreTold op t c
told And t c e s = subst (λ t. AreTold And t c) (only_some _ t e) (and_told c)
told Or t c e s = subst (λ t. AreTold Or t c) (only_some _ t e) (or_told c)
told Xor t c e s = subst (λ t. AreTold Xor t c) (only_some _ t e) (xor_told c)
told Eq t c e s = subst (λ t. AreTold Eq t c) (only_some _ t e) (eq_told c)
told Not t c e s = absurd (false≢true (ap (λ (t : Table). t.has_second) (only_some _ t e) ∙ s))
told (Const n) t c e s = absurd cc
told Add t c e s = absurd cc
told Sub t c e s = absurd cc
told (Slice n o) t c e s = absurd cc
told Concat t c e s = absurd cc
told (SignExt n) t c e s = absurd cc
told (Shl n) t c e s = absurd cc
told (Shr n) t c e s = absurd cc
told Ltu t c e s = absurd cc
told Ite t c e s = absurd cc

single : (op : Op) (t : Table) → table_of op ≡ Some t → t.has_second ≡ false → (op ≡ Not) × (t ≡ bits true true false false false)
single Not t e s = (refl, sym (only_some _ t e))
single And t e s = absurd (true≢false (ap (λ (t : Table). t.has_second) (only_some _ t e) ∙ s))
single Or t e s = absurd (true≢false (ap (λ (t : Table). t.has_second) (only_some _ t e) ∙ s))
single Xor t e s = absurd (true≢false (ap (λ (t : Table). t.has_second) (only_some _ t e) ∙ s))
single Eq t e s = absurd (true≢false (ap (λ (t : Table). t.has_second) (only_some _ t e) ∙ s))
single (Const n) t e s = absurd cc
single Add t e s = absurd cc
single Sub t e s = absurd cc
single (Slice n o) t e s = absurd cc
single Concat t e s = absurd cc
single (SignExt n) t e s = absurd cc
single (Shl n) t e s = absurd cc
single (Shr n) t e s = absurd cc
single Ltu t e s = absurd cc
single Ite t e s = absurd cc

-- ---- what a step tells

pub forward_told : (op : Op) (t : Table) (a b c : Triple) (h k : Held) → table_of op ≡ Some t → a ≡ of_bits h
    → (t.has_second ≡ true → b ≡ of_bits k) → (t.has_second ≡ false → k ≡ zero_alone) → triple_forward op a b c ≡ of_bits (bits_forward t h k)
forward_told op t a b c h k e f g z = ⊎_elim
    (λ (s : t.has_second ≡ true). two (λ a b. triple_forward op a b c) f (g s)
    ∙ triple_exact.same (triple_forward op (of_bits h) (of_bits k) c) (of_bits (bits_forward t h k)) (each_two (forward_at op t c) (told op t c e s).forward h k))
    (λ (s : t.has_second ≡ false). let o = single op t e s in
    two (λ op a. triple_forward op a b c) o.0 f
    ∙ triple_exact.same (triple_forward Not (of_bits h) b c) (of_bits (bits_forward (bits true true false false false) h zero_alone))
    (each (forward_of (bits true true false false false) b c) (not_told b c).forward h)
    ∙ two (λ t k. of_bits (bits_forward t h k)) (sym o.1) (sym (z s)))
    (cases_Bool t.has_second)

pub first_told : (op : Op) (t : Table) (r a b c : Triple) (o h k : Held) → table_of op ≡ Some t → r ≡ of_bits o → a ≡ of_bits h
    → (t.has_second ≡ true → b ≡ of_bits k) → (t.has_second ≡ false → k ≡ zero_alone) → triple_backward op 0 r a b c ≡ of_bits (bits_first t o h k)
first_told op t r a b c o h k e d f g z = ⊎_elim
    (λ (s : t.has_second ≡ true). three (λ r a b. triple_backward op 0 r a b c) d f (g s)
    ∙ triple_exact.same (triple_backward op 0 (of_bits o) (of_bits h) (of_bits k) c) (of_bits (bits_first t o h k)) (each_three (first_at op t c) (told op t c e s).first o h k))
    (λ (s : t.has_second ≡ false). let i = single op t e s in
    three (λ op r a. triple_backward op 0 r a b c) i.0 d f
    ∙ triple_exact.same (triple_backward Not 0 (of_bits o) (of_bits h) b c) (of_bits (bits_first (bits true true false false false) o h zero_alone))
    (each_two (backward_of (bits true true false false false) b c) (not_told b c).backward o h)
    ∙ two (λ t k. of_bits (bits_first t o h k)) (sym i.1) (sym (z s)))
    (cases_Bool t.has_second)

pub second_told : (op : Op) (t : Table) (r a b c : Triple) (o h k : Held) → table_of op ≡ Some t → t.has_second ≡ true → r ≡ of_bits o → a ≡ of_bits h → b ≡ of_bits k
    → triple_backward op 1 r a b c ≡ of_bits (bits_second t o h k)
second_told op t r a b c o h k e s d f g =
    three (λ r a b. triple_backward op 1 r a b c) d f g
    ∙ triple_exact.same (triple_backward op 1 (of_bits o) (of_bits h) (of_bits k) c) (of_bits (bits_second t o h k)) (each_three (second_at op t c) (told op t c e s).second o h k)

-- ---- widths

-- where an operator of the table has a second operand, it is as wide as the first
pub second_width : (op : Op) (t : Table) (u v w : ℕ) → table_of op ≡ Some t → t.has_second ≡ true → fits_at op u v w ≡ true → u ≡ 1 → v ≡ 1
second_width And t u v w e s f g = sym (eqb-true u v f) ∙ g
second_width Or t u v w e s f g = sym (eqb-true u v f) ∙ g
second_width Xor t u v w e s f g = sym (eqb-true u v f) ∙ g
second_width Eq t u v w e s f g = sym (eqb-true u v f) ∙ g
second_width Not t u v w e s f g = absurd (false≢true (ap (λ (t : Table). t.has_second) (only_some _ t e) ∙ s))
second_width (Const n) t u v w e s f g = absurd cc
second_width Add t u v w e s f g = absurd cc
second_width Sub t u v w e s f g = absurd cc
second_width (Slice n o) t u v w e s f g = absurd cc
second_width Concat t u v w e s f g = absurd cc
second_width (SignExt n) t u v w e s f g = absurd cc
second_width (Shl n) t u v w e s f g = absurd cc
second_width (Shr n) t u v w e s f g = absurd cc
second_width Ltu t u v w e s f g = absurd cc
second_width Ite t u v w e s f g = absurd cc

-- its result has one bit
pub result_is : (op : Op) (t : Table) (u v w : ℕ) → table_of op ≡ Some t → u ≡ 1 → width_of op u v w ≡ 1
result_is And t u v w e g = g
result_is Or t u v w e g = g
result_is Xor t u v w e g = g
result_is Not t u v w e g = g
result_is Eq t u v w e g = refl
result_is (Const n) t u v w e g = absurd cc
result_is Add t u v w e g = absurd cc
result_is Sub t u v w e g = absurd cc
result_is (Slice n o) t u v w e g = absurd cc
result_is Concat t u v w e g = absurd cc
result_is (SignExt n) t u v w e g = absurd cc
result_is (Shl n) t u v w e g = absurd cc
result_is (Shr n) t u v w e g = absurd cc
result_is Ltu t u v w e g = absurd cc
result_is Ite t u v w e g = absurd cc

-- a place beside the first is the second
pub second_place : (op : Op) (t : Table) (k : ℕ) → table_of op ≡ Some t → k < arity_of op → 0 < k → (k ≡ 1) × (t.has_second ≡ true)
second_place And t k e l m = (omega arith, ap (λ (t : Table). t.has_second) (sym (only_some _ t e)))
second_place Or t k e l m = (omega arith, ap (λ (t : Table). t.has_second) (sym (only_some _ t e)))
second_place Xor t k e l m = (omega arith, ap (λ (t : Table). t.has_second) (sym (only_some _ t e)))
second_place Eq t k e l m = (omega arith, ap (λ (t : Table). t.has_second) (sym (only_some _ t e)))
second_place Not t k e l m = absurd (omega arith)
second_place (Const n) t k e l m = absurd cc
second_place Add t k e l m = absurd cc
second_place Sub t k e l m = absurd cc
second_place (Slice n o) t k e l m = absurd cc
second_place Concat t k e l m = absurd cc
second_place (SignExt n) t k e l m = absurd cc
second_place (Shl n) t k e l m = absurd cc
second_place (Shr n) t k e l m = absurd cc
second_place Ltu t k e l m = absurd cc
second_place Ite t k e l m = absurd cc

-- ---- the meet

abbrev meet_at : Held → Held → Bool
meet_at h k = triple_eq (triple_meet (of_bits h) (of_bits k)) (of_bits (both_hold h k))

meets : all_two meet_at ≡ true
unfolding reduced normal below number_of bit some_below least_candidate greatest_candidate
meets = refl

pub bits_meet : (h k : Held) → triple_meet (of_bits h) (of_bits k) ≡ of_bits (both_hold h k)
bits_meet h k = triple_exact.same (triple_meet (of_bits h) (of_bits k)) (of_bits (both_hold h k)) (each_two meet_at meets h k)

-- ---- the Triples that hold all, and one

pub full_bits : triple_full (width 1) ≡ of_bits (held true true)
unfolding reduced normal below number_of bit some_below least_candidate greatest_candidate
full_bits = refl

pub zero_bits : triple_one (record { width = width 1; bits = 0 }) ≡ of_bits (held true false)
unfolding reduced normal below number_of bit some_below least_candidate greatest_candidate
zero_bits = refl

pub one_bits : triple_one (record { width = width 1; bits = 1 }) ≡ of_bits (held false true)
unfolding reduced normal below number_of bit some_below least_candidate greatest_candidate
one_bits = refl

-- one of one bit is as wide
pub bits_width : (h : Held) → (of_bits h).known.width ≡ width 1
bits_width h = numbers_width (width 1) (bits_list h.zero h.one)

-- ---- all numbers of a width

full_narrow : (n : ℕ) → IsWidth n → is_narrow (width n) ≡ true → triple_full (width n) ≡ beside (pair_full (width n)) (sets_full (width n))
unfolding reduced normal below number_of bit some_below least_candidate greatest_candidate
full_narrow zero h e = absurd (omega (arith, h.0))
full_narrow (suc zero) h e = refl
full_narrow (suc (suc zero)) h e = refl
full_narrow (suc (suc (suc zero))) h e = refl
full_narrow (suc (suc (suc (suc n)))) h e = absurd (omega (arith, leb-true (suc (suc (suc (suc n)))) 3 e))

pub full_beside : (w : Width) → IsWidth w.0 → triple_full w ≡ beside (pair_full w) (sets_full w)
full_beside w h = ⊎_elim
    (λ (e : is_narrow w ≡ true). full_narrow w.0 h e)
    (λ (e : is_narrow w ≡ false). let s = cond-false (is_narrow w) (listing w (below (2 ^ w.0))) (everything w) e in
    ap (reduced (pair_full w)) s ∙ reduced_many (pair_full w) (everything w) refl ∙ ap (beside (pair_full w)) (sym s))
    (cases_Bool (is_narrow w))
