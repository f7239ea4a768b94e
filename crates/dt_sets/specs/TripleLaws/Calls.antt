-- Triple keeps the laws of a domain, since Pair and Sets do and the normal form holds what both hold.
use Rattle.std.proofs.Common.{◌≡◌, ℕ, zero, suc, ◌^◌, ◌<◌, ◌⊎◌, inl, inr, Bool, true, false, sym, refl, ap, ◌∙◌, subst, ⊎_elim}
use Rattle.std.specs.Prelude.{◌↔◌}
use Rattle.std.proofs.lemmas.Bool.{and_from, and_parts, cases_Bool}
use Rattle.dt_lemmas.proofs.Equalities.{three}
use Rattle.dt_bits.specs.Bits.{IsWidth, IsValue, bit, width}
use Rattle.dt_bits.specs.Ops.{fits_at, width_of, value_of}
use Rattle.dt_bits.specs.declared.op.Op.{Op}
use Rattle.dt_bits.specs.declared.value.Bv.{Bv}
use Rattle.dt_bits.specs.declared.value.Width.{Width}
use Rattle.dt_domain.specs.Domain.{Fitting, FittingAt, AreAlike, HoldUsed, AreUsedKnown, value_at, operand, IsAllKnown, KnowsBit, IsDomainOf, result_width}
use Rattle.dt_pair.specs.declared.Pair.{Pair}
use Rattle.dt_pair.specs.Pair.{pair_holds, pair_full, pair_one, pair_meet, pair_with_bit, pair_forward, pair_backward}
use Rattle.dt_pair.specs.Ops.{pair_ops}
use Rattle.dt_pair.specs.Laws.{pair_laws, pair_decides}
use Rattle.dt_sets.specs.declared.Sets.{Sets}
use Rattle.dt_sets.specs.declared.Triple.{Triple}
use Rattle.dt_sets.specs.Sets.{sets_holds, sets_full, sets_one, sets_meet, sets_with_bit}
use Rattle.dt_sets.specs.Forward.{valued, sets_forward}
use Rattle.dt_sets.specs.Backward.{sets_backward}
use Rattle.dt_sets.specs.Ops.{sets_ops}
use Rattle.dt_sets.specs.Laws.{sets_laws}
use Rattle.dt_sets.specs.Triple.{IsTriple, pair_of, reduced, triple_holds, triple_full, triple_one, triple_meet, triple_with_bit, triple_forward, triple_backward}
use Rattle.dt_sets.specs.TripleOps.{triple_ops}
use Rattle.dt_sets.specs.TripleLaws.Reduced.{Reduces, reduced_width, reduced_holds, reduced_is, reduced_empty, reduced_knows, reduced_all, pair_full as pair_not_empty, some_full, low_held}

-- ---- a Pair and Sets that are made

reduces_of : (w : Width) (p : Pair) (s : Sets) → IsDomainOf pair_ops w p → IsDomainOf sets_ops w s → Reduces p s
reduces_of w p s h k = record { pair = h.0; sets = k.0; widths = h.1 ∙ sym k.1 }

domain_of : (w : Width) (p : Pair) (s : Sets) → Reduces p s → p.known.width ≡ w → IsDomainOf triple_ops w (reduced p s)
domain_of w p s r e = (reduced_is p s r, reduced_width p s r ∙ e)

held : (p : Pair) (s : Sets) (x : ℕ) → Reduces p s → pair_holds p x ≡ true → sets_holds s x ≡ true → triple_holds (reduced p s) x ≡ true
held p s x r h k = reduced_holds p s x r ∙ and_from (pair_holds p x) (sets_holds s x) h k

pub in_pair : (t : Triple) (x : ℕ) → triple_holds t x ≡ true → pair_holds (pair_of t) x ≡ true
in_pair t x h = (and_parts (pair_holds (pair_of t) x) (sets_holds t.sets x) h).0

pub in_sets : (t : Triple) (x : ℕ) → triple_holds t x ≡ true → sets_holds t.sets x ≡ true
in_sets t x h = (and_parts (pair_holds (pair_of t) x) (sets_holds t.sets x) h).1

-- ---- all numbers, and one

pub full_red : (w : Width) → IsWidth w.0 → Reduces (pair_full w) (sets_full w)
full_red w h = reduces_of w (pair_full w) (sets_full w) (pair_laws.full_is w h) (sets_laws.full_is w h)

pub full_is : (w : Width) → IsWidth w.0 → IsDomainOf triple_ops w (triple_full w)
full_is w h = domain_of w (pair_full w) (sets_full w) (full_red w h) (pair_laws.full_is w h).1

pub full_holds : (w : Width) (x : ℕ) → IsWidth w.0 → x < 2 ^ w.0 → triple_holds (triple_full w) x ≡ true
full_holds w x h l = held (pair_full w) (sets_full w) x (full_red w h) (pair_laws.full_holds w x h l) (sets_laws.full_holds w x h l)

pub one_red : (v : Bv) → IsValue v → Reduces (pair_one v) (sets_one v)
one_red v h = reduces_of v.width (pair_one v) (sets_one v) (pair_laws.one_is v h) (sets_laws.one_is v h)

pub one_is : (v : Bv) → IsValue v → IsDomainOf triple_ops v.width (triple_one v)
one_is v h = domain_of v.width (pair_one v) (sets_one v) (one_red v h) (pair_laws.one_is v h).1

pub one_held : (v : Bv) (x : ℕ) → IsValue v → (triple_holds (triple_one v) x ≡ true) ↔ (x ≡ v.bits)
one_held v x h = (
  λ t. (pair_laws.one_holds v x h).0 (and_parts (pair_holds (pair_one v) x) (sets_holds (sets_one v) x) (sym (reduced_holds (pair_one v) (sets_one v) x (one_red v h)) ∙ t)).0,
  λ e. held (pair_one v) (sets_one v) x (one_red v h) ((pair_laws.one_holds v x h).1 e) ((sets_laws.one_holds v x h).1 e),
)

pub one_known : (v : Bv) → IsValue v → IsAllKnown triple_ops (triple_one v)
one_known v h = reduced_all (pair_one v) (sets_one v) (one_red v h)
    (some_full (triple_one v) v.bits (one_is v h).0 ((one_held v v.bits h).1 refl)) (pair_laws.one_known v h)

-- ---- meet

pub alike_pair : (a b : Triple) → AreAlike triple_ops a b → AreAlike pair_ops (pair_of a) (pair_of b)
alike_pair a b g = record { a_is = g.a_is.pair; b_is = g.b_is.pair; widths = g.widths }

pub alike_sets : (a b : Triple) → AreAlike triple_ops a b → AreAlike sets_ops a.sets b.sets
alike_sets a b g = record { a_is = g.a_is.sets; b_is = g.b_is.sets; widths = sym g.a_is.widths ∙ g.widths ∙ g.b_is.widths }

pub meet_red : (a b : Triple) → AreAlike triple_ops a b → Reduces (pair_meet (pair_of a) (pair_of b)) (sets_meet a.sets b.sets)
meet_red a b g =
    let k = sets_laws.meet_is a.sets b.sets (alike_sets a b g) in
    reduces_of a.known.width (pair_meet (pair_of a) (pair_of b)) (sets_meet a.sets b.sets)
    (pair_laws.meet_is (pair_of a) (pair_of b) (alike_pair a b g)) (k.0, k.1 ∙ sym g.a_is.widths)

pub meet_is : (a b : Triple) → AreAlike triple_ops a b → IsDomainOf triple_ops a.known.width (triple_meet a b)
meet_is a b g = domain_of a.known.width (pair_meet (pair_of a) (pair_of b)) (sets_meet a.sets b.sets) (meet_red a b g)
    (pair_laws.meet_is (pair_of a) (pair_of b) (alike_pair a b g)).1

pub meet_holds : (a b : Triple) (x : ℕ) → AreAlike triple_ops a b → triple_holds a x ≡ true → triple_holds b x ≡ true → triple_holds (triple_meet a b) x ≡ true
meet_holds a b x g h k = held (pair_meet (pair_of a) (pair_of b)) (sets_meet a.sets b.sets) x (meet_red a b g)
    (pair_laws.meet_holds (pair_of a) (pair_of b) x (alike_pair a b g) (in_pair a x h) (in_pair b x k))
    (sets_laws.meet_holds a.sets b.sets x (alike_sets a b g) (in_sets a x h) (in_sets b x k))

pub meet_empty : (a b : Triple) → AreAlike triple_ops a b → (a.known.empty ≡ true) ⊎ (b.known.empty ≡ true) → (triple_meet a b).known.empty ≡ true
meet_empty a b g e = reduced_empty (pair_meet (pair_of a) (pair_of b)) (sets_meet a.sets b.sets) (meet_red a b g)
    (pair_laws.meet_empty (pair_of a) (pair_of b) (alike_pair a b g) e)

pub meet_knows : (a b : Triple) (i : ℕ) (v : Bool) → AreAlike triple_ops a b → (triple_meet a b).known.empty ≡ false
    → KnowsBit triple_ops a i v ⊎ KnowsBit triple_ops b i v → KnowsBit triple_ops (triple_meet a b) i v
meet_knows a b i v g e s =
    let p = pair_meet (pair_of a) (pair_of b) in
    let r = meet_red a b g in
    reduced_knows p (sets_meet a.sets b.sets) i v r e
    (pair_laws.meet_knows (pair_of a) (pair_of b) i v (alike_pair a b g) (pair_not_empty p (sets_meet a.sets b.sets) r e) s)

-- ---- with_bit

pub bit_red : (a : Triple) (i : ℕ) (v : Bool) → IsTriple a → i < a.known.width.0 → Reduces (pair_with_bit (pair_of a) i v) (sets_with_bit a.sets i v)
bit_red a i v p l =
    let k = sets_laws.with_bit_is a.sets i v p.sets (subst (λ (w : Width). i < w.0) p.widths l) in
    reduces_of a.known.width (pair_with_bit (pair_of a) i v) (sets_with_bit a.sets i v)
    (pair_laws.with_bit_is (pair_of a) i v p.pair l) (k.0, k.1 ∙ sym p.widths)

pub bit_is : (a : Triple) (i : ℕ) (v : Bool) → IsTriple a → i < a.known.width.0 → IsDomainOf triple_ops a.known.width (triple_with_bit a i v)
bit_is a i v p l = domain_of a.known.width (pair_with_bit (pair_of a) i v) (sets_with_bit a.sets i v) (bit_red a i v p l)
    (pair_laws.with_bit_is (pair_of a) i v p.pair l).1

pub bit_holds : (a : Triple) (i : ℕ) (v : Bool) (x : ℕ) → IsTriple a → i < a.known.width.0 → bit x i ≡ v → triple_holds a x ≡ true → triple_holds (triple_with_bit a i v) x ≡ true
bit_holds a i v x p l e h = held (pair_with_bit (pair_of a) i v) (sets_with_bit a.sets i v) x (bit_red a i v p l)
    (pair_laws.with_bit_holds (pair_of a) i v x p.pair l e (in_pair a x h))
    (sets_laws.with_bit_holds a.sets i v x p.sets (subst (λ (w : Width). i < w.0) p.widths l) e (in_sets a x h))

abbrev Decided : Triple → ℕ → Bool → Type 0
Decided a i v =
    KnowsBit triple_ops (triple_with_bit a i v) i v × ((j : ℕ) (u : Bool) → KnowsBit triple_ops a j u → KnowsBit triple_ops (triple_with_bit a i v) j u)

pub bit_decides : (a : Triple) (i : ℕ) (v : Bool) → IsTriple a → i < a.known.width.0
    → ((triple_with_bit a i v).known.empty ≡ true) ⊎ Decided a i v
bit_decides a i v p l =
    let q = pair_with_bit (pair_of a) i v in
    let s = sets_with_bit a.sets i v in
    let r = bit_red a i v p l in
    ⊎_elim
    (λ (t : (triple_with_bit a i v).known.empty ≡ true). inl t)
    (λ (t : (triple_with_bit a i v).known.empty ≡ false). ⊎_elim
    (λ (e : q.known.empty ≡ true). inl (reduced_empty q s r e))
    (λ (d : KnowsBit pair_ops q i v × ((j : ℕ) (u : Bool) → KnowsBit pair_ops (pair_of a) j u → KnowsBit pair_ops q j u)). inr (
      reduced_knows q s i v r t d.0,
      λ j u k. reduced_knows q s j u r t (d.1 j u k),
    ))
    (pair_decides.with_bit_decides (pair_of a) i v p.pair l))
    (cases_Bool ((triple_with_bit a i v).known.empty))

-- ---- operands

pub fitting_pair : (op : Op) (a b c : Triple) → Fitting triple_ops op a b c → Fitting pair_ops op (pair_of a) (pair_of b) (pair_of c)
fitting_pair op a b c f = record { op_is = f.op_is; a_is = f.a_is.pair; b_is = f.b_is.pair; c_is = f.c_is.pair; fits = f.fits }

bits_are : (a : Triple) → IsTriple a → a.known.width.0 ≡ a.sets.width.0
bits_are a p = ap (λ (w : Width). w.0) p.widths

pub fitting_sets : (op : Op) (a b c : Triple) → Fitting triple_ops op a b c → Fitting sets_ops op a.sets b.sets c.sets
fitting_sets op a b c f = record {
  op_is = f.op_is;
  a_is = f.a_is.sets;
  b_is = f.b_is.sets;
  c_is = f.c_is.sets;
  fits = sym (three (fits_at op) (bits_are a f.a_is) (bits_are b f.b_is) (bits_are c f.c_is)) ∙ f.fits;
}

pub result_alike : (op : Op) (a b c : Triple) → Fitting triple_ops op a b c → result_width triple_ops op a b c ≡ result_width sets_ops op a.sets b.sets c.sets
result_alike op a b c f = three (λ x y z. width (width_of op x y z)) (bits_are a f.a_is) (bits_are b f.b_is) (bits_are c f.c_is)

value_alike : (op : Op) (a b c : Triple) (x y z : ℕ) → Fitting triple_ops op a b c → value_at triple_ops op a b c x y z ≡ value_at sets_ops op a.sets b.sets c.sets x y z
value_alike op a b c x y z f = three (λ u v w. value_of op (valued u x) (valued v y) (valued w z)) f.a_is.widths f.b_is.widths f.c_is.widths

used_pair : (op : Op) (a b c : Triple) (x y z : ℕ) → HoldUsed triple_ops op a b c x y z → HoldUsed pair_ops op (pair_of a) (pair_of b) (pair_of c) x y z
used_pair op a b c x y z u = record { first = λ l. in_pair a x (u.first l); second = λ l. in_pair b y (u.second l); third = λ l. in_pair c z (u.third l) }

used_sets : (op : Op) (a b c : Triple) (x y z : ℕ) → HoldUsed triple_ops op a b c x y z → HoldUsed sets_ops op a.sets b.sets c.sets x y z
used_sets op a b c x y z u = record { first = λ l. in_sets a x (u.first l); second = λ l. in_sets b y (u.second l); third = λ l. in_sets c z (u.third l) }

-- ---- forward

pub forward_red : (op : Op) (a b c : Triple) → Fitting triple_ops op a b c
    → Reduces (pair_forward op (pair_of a) (pair_of b) (pair_of c)) (sets_forward op a.sets b.sets c.sets)
forward_red op a b c f =
    let k = sets_laws.forward_is op a.sets b.sets c.sets (fitting_sets op a b c f) in
    reduces_of (result_width triple_ops op a b c) (pair_forward op (pair_of a) (pair_of b) (pair_of c)) (sets_forward op a.sets b.sets c.sets)
    (pair_laws.forward_is op (pair_of a) (pair_of b) (pair_of c) (fitting_pair op a b c f)) (k.0, k.1 ∙ sym (result_alike op a b c f))

pub forward_is : (op : Op) (a b c : Triple) → Fitting triple_ops op a b c → IsDomainOf triple_ops (result_width triple_ops op a b c) (triple_forward op a b c)
forward_is op a b c f = domain_of (result_width triple_ops op a b c) (pair_forward op (pair_of a) (pair_of b) (pair_of c)) (sets_forward op a.sets b.sets c.sets)
    (forward_red op a b c f) (pair_laws.forward_is op (pair_of a) (pair_of b) (pair_of c) (fitting_pair op a b c f)).1

pub forward_holds : (op : Op) (a b c : Triple) (x y z : ℕ) → Fitting triple_ops op a b c → HoldUsed triple_ops op a b c x y z
    → triple_holds (triple_forward op a b c) (value_at triple_ops op a b c x y z) ≡ true
forward_holds op a b c x y z f u =
    held (pair_forward op (pair_of a) (pair_of b) (pair_of c)) (sets_forward op a.sets b.sets c.sets) (value_at triple_ops op a b c x y z) (forward_red op a b c f)
    (pair_laws.forward_holds op (pair_of a) (pair_of b) (pair_of c) x y z (fitting_pair op a b c f) (used_pair op a b c x y z u))
    (subst (λ n. sets_holds (sets_forward op a.sets b.sets c.sets) n ≡ true) (sym (value_alike op a b c x y z f))
    (sets_laws.forward_holds op a.sets b.sets c.sets x y z (fitting_sets op a b c f) (used_sets op a b c x y z u)))

used_low : (op : Op) (a b c : Triple) → Fitting triple_ops op a b c → AreUsedKnown triple_ops op a b c → HoldUsed triple_ops op a b c a.range.lo b.range.lo c.range.lo
used_low op a b c f u = record {
  first = λ l. low_held a f.a_is (u.first l).0;
  second = λ l. low_held b f.b_is (u.second l).0;
  third = λ l. low_held c f.c_is (u.third l).0;
}

pub forward_known : (op : Op) (a b c : Triple) → Fitting triple_ops op a b c → AreUsedKnown triple_ops op a b c → IsAllKnown triple_ops (triple_forward op a b c)
forward_known op a b c f u =
    let p = pair_forward op (pair_of a) (pair_of b) (pair_of c) in
    let s = sets_forward op a.sets b.sets c.sets in
    reduced_all p s (forward_red op a b c f)
    (some_full (triple_forward op a b c) _ (forward_is op a b c f).0 (forward_holds op a b c a.range.lo b.range.lo c.range.lo f (used_low op a b c f u)))
    (pair_laws.forward_known op (pair_of a) (pair_of b) (pair_of c) (fitting_pair op a b c f) (record { first = u.first; second = u.second; third = u.third }))

-- ---- backward

pub at_pair : (op : Op) (k : ℕ) (r a b c : Triple) → FittingAt triple_ops op k r a b c → FittingAt pair_ops op k (pair_of r) (pair_of a) (pair_of b) (pair_of c)
at_pair op k r a b c f = record { operands = fitting_pair op a b c f.operands; place = f.place; r_is = f.r_is.pair; r_width = f.r_width }

pub at_sets : (op : Op) (k : ℕ) (r a b c : Triple) → FittingAt triple_ops op k r a b c → FittingAt sets_ops op k r.sets a.sets b.sets c.sets
at_sets op k r a b c f = record {
  operands = fitting_sets op a b c f.operands;
  place = f.place;
  r_is = f.r_is.sets;
  r_width = sym f.r_is.widths ∙ f.r_width ∙ result_alike op a b c f.operands;
}

-- the widths of the operand at a place
pub operand_widths : (k : ℕ) (a b c : Triple) → IsTriple a → IsTriple b → IsTriple c
    → ((operand k (pair_of a) (pair_of b) (pair_of c)).known.width ≡ (operand k a b c).known.width) × ((operand k a.sets b.sets c.sets).width ≡ (operand k a b c).known.width)
operand_widths zero a b c p q r = (refl, sym p.widths)
operand_widths (suc zero) a b c p q r = (refl, sym q.widths)
operand_widths (suc (suc k)) a b c p q r = (refl, sym r.widths)

pub backward_red : (op : Op) (k : ℕ) (r a b c : Triple) → FittingAt triple_ops op k r a b c
    → Reduces (pair_backward op k (pair_of r) (pair_of a) (pair_of b) (pair_of c)) (sets_backward op k r.sets a.sets b.sets c.sets)
backward_red op k r a b c f =
    let w = operand_widths k a b c f.operands.a_is f.operands.b_is f.operands.c_is in
    let p = pair_laws.backward_is op k (pair_of r) (pair_of a) (pair_of b) (pair_of c) (at_pair op k r a b c f) in
    let s = sets_laws.backward_is op k r.sets a.sets b.sets c.sets (at_sets op k r a b c f) in
    reduces_of (operand k a b c).known.width (pair_backward op k (pair_of r) (pair_of a) (pair_of b) (pair_of c)) (sets_backward op k r.sets a.sets b.sets c.sets)
    (p.0, p.1 ∙ w.0) (s.0, s.1 ∙ w.1)

pub backward_is : (op : Op) (k : ℕ) (r a b c : Triple) → FittingAt triple_ops op k r a b c → IsDomainOf triple_ops (operand k a b c).known.width (triple_backward op k r a b c)
backward_is op k r a b c f =
    let w = operand_widths k a b c f.operands.a_is f.operands.b_is f.operands.c_is in
    domain_of (operand k a b c).known.width (pair_backward op k (pair_of r) (pair_of a) (pair_of b) (pair_of c)) (sets_backward op k r.sets a.sets b.sets c.sets)
    (backward_red op k r a b c f)
    ((pair_laws.backward_is op k (pair_of r) (pair_of a) (pair_of b) (pair_of c) (at_pair op k r a b c f)).1 ∙ w.0)

pub backward_holds : (op : Op) (k : ℕ) (r a b c : Triple) (x y z : ℕ) → FittingAt triple_ops op k r a b c → HoldUsed triple_ops op a b c x y z
    → triple_holds r (value_at triple_ops op a b c x y z) ≡ true → triple_holds (triple_backward op k r a b c) (operand k x y z) ≡ true
backward_holds op k r a b c x y z f u h =
    held (pair_backward op k (pair_of r) (pair_of a) (pair_of b) (pair_of c)) (sets_backward op k r.sets a.sets b.sets c.sets) (operand k x y z) (backward_red op k r a b c f)
    (pair_laws.backward_holds op k (pair_of r) (pair_of a) (pair_of b) (pair_of c) x y z (at_pair op k r a b c f) (used_pair op a b c x y z u)
    (in_pair r (value_at triple_ops op a b c x y z) h))
    (sets_laws.backward_holds op k r.sets a.sets b.sets c.sets x y z (at_sets op k r a b c f) (used_sets op a b c x y z u)
    (subst (λ n. sets_holds r.sets n ≡ true) (value_alike op a b c x y z f.operands) (in_sets r (value_at triple_ops op a b c x y z) h)))
