-- The tables for one bit keep agreement.
use Rattle.std.proofs.Common.{◌≡◌, Bool, true, false, not, ◌&&◌, ◌||◌, cond, Option, None, is_some, arith, refl}
use Rattle.dt_bits.specs.Bits.{differs, majority}
use Rattle.dt_known.specs.Known.{is_one, is_zero, either, clash}
use Rattle.dt_known.specs.Forward.{not_bit, and_bit, or_bit, xor_bit, sum_bit, carry_bit, ite_bit}
use Rattle.dt_known.specs.Backward.{and_back, or_back}
use Rattle.dt_known.specs.Laws.Bits.{Agrees}

pub agree_not : (o : Option Bool) (p : Bool) → Agrees o p → Agrees (not_bit o) (not p)
agree_not o p h = grind arith

pub agree_and : (o u : Option Bool) (p q : Bool) → Agrees o p → Agrees u q → Agrees (and_bit o u) (p && q)
agree_and o u p q h k = grind arith

pub agree_or : (o u : Option Bool) (p q : Bool) → Agrees o p → Agrees u q → Agrees (or_bit o u) (p || q)
agree_or o u p q h k = grind arith

pub agree_xor : (o u : Option Bool) (p q : Bool) → Agrees o p → Agrees u q → Agrees (xor_bit o u) (differs p q)
agree_xor o u p q h k = grind arith

pub agree_carry : (o u r : Option Bool) (p q c : Bool) → Agrees o p → Agrees u q → Agrees r c → Agrees (carry_bit o u r) (majority p q c)
agree_carry o u r p q c h k l = grind arith

pub agree_ite : (o u r : Option Bool) (p q c : Bool) → Agrees o p → Agrees u q → Agrees r c → Agrees (ite_bit o u r) (cond p q c)
agree_ite o u r p q c h k l = grind arith

pub agree_either : (o u : Option Bool) (p : Bool) → Agrees o p → Agrees u p → Agrees (either o u) p
agree_either o u p h k = grind arith

pub no_clash : (o u : Option Bool) (p : Bool) → Agrees o p → Agrees u p → clash o u ≡ false
no_clash o u p h k = grind arith

pub clash_differs : (o u : Option Bool) (p q : Bool) → Agrees o p → Agrees u q → clash o u ≡ true → p ≡ q → ⊥
clash_differs o u p q h k e s = grind arith

-- where both are known and don't clash, the bits are equal
pub known_same : (o u : Option Bool) (p q : Bool) → Agrees o p → Agrees u q → clash o u ≡ false → is_some o ≡ true → is_some u ≡ true → p ≡ q
known_same o u p q h k e s t = grind arith

-- known operands give known results
pub some_not : (o : Option Bool) → is_some o ≡ true → is_some (not_bit o) ≡ true
some_not o h = grind arith

pub some_and : (o u : Option Bool) → is_some o ≡ true → is_some u ≡ true → is_some (and_bit o u) ≡ true
some_and o u h k = grind arith

pub some_or : (o u : Option Bool) → is_some o ≡ true → is_some u ≡ true → is_some (or_bit o u) ≡ true
some_or o u h k = grind arith

pub some_xor : (o u : Option Bool) → is_some o ≡ true → is_some u ≡ true → is_some (xor_bit o u) ≡ true
some_xor o u h k = grind arith

pub some_sum : (o u r : Option Bool) → is_some o ≡ true → is_some u ≡ true → is_some r ≡ true → is_some (sum_bit o u r) ≡ true
some_sum o u r h k l = grind arith

pub some_carry : (o u r : Option Bool) → is_some o ≡ true → is_some u ≡ true → is_some r ≡ true → is_some (carry_bit o u r) ≡ true
some_carry o u r h k l = grind arith

pub some_ite : (o u r : Option Bool) → is_some o ≡ true → is_some u ≡ true → is_some r ≡ true → is_some (ite_bit o u r) ≡ true
some_ite o u r h k l = grind arith

-- ---- backward

pub agree_and_back : (r o : Option Bool) (p q : Bool) → Agrees r (p && q) → Agrees o q → Agrees (and_back r o) p
agree_and_back r o p q h k = grind arith

pub agree_or_back : (r o : Option Bool) (p q : Bool) → Agrees r (p || q) → Agrees o q → Agrees (or_back r o) p
agree_or_back r o p q h k = grind arith

pub agree_xor_back : (r o : Option Bool) (p q : Bool) → Agrees r (differs p q) → Agrees o q → Agrees (xor_bit r o) p
agree_xor_back r o p q h k = grind arith

pub agree_where_one : (t r : Option Bool) (p q : Bool) → Agrees t p → (p ≡ true → Agrees r q) → Agrees (cond (is_one t) r None) q
agree_where_one t r p q h k = grind arith

pub agree_where_zero : (t r : Option Bool) (p q : Bool) → Agrees t p → (p ≡ false → Agrees r q) → Agrees (cond (is_zero t) r None) q
agree_where_zero t r p q h k = grind arith

pub agree_turned : (o : Option Bool) (p q : Bool) → Agrees o q → differs p q ≡ true → Agrees (not_bit o) p
agree_turned o p q h k = grind arith

pub one_says : (o : Option Bool) (p : Bool) → Agrees o p → is_one o ≡ true → p ≡ true
one_says o p h e = grind arith

pub zero_says : (o : Option Bool) (p : Bool) → Agrees o p → is_zero o ≡ true → p ≡ false
zero_says o p h e = grind arith

pub agree_cond : (b : Bool) (o u : Option Bool) (p : Bool) → (b ≡ true → Agrees o p) → (b ≡ false → Agrees u p) → Agrees (cond b o u) p
agree_cond true o u p h k = h refl
agree_cond false o u p h k = k refl
