-- What a domain is: one function for each call of the trait, on plain data, and the laws of these functions.
use Rattle.std.specs.Prelude.{◌≡◌, ℕ, zero, suc, ◌-◌, ◌^◌, ◌<◌, ◌↔◌, ◌⊎◌, Bool, true, false, Option, MatchOption, bit_and}
use Rattle.dt_bits.specs.Bits.{IsWidth, IsValue, bit, width}
use Rattle.dt_bits.specs.Ops.{IsOp, arity_of, fits_at, width_of, value_of}
use Rattle.dt_bits.specs.declared.op.Op.{Op}
use Rattle.dt_bits.specs.declared.value.Bv.{Bv}
use Rattle.dt_bits.specs.declared.value.Width.{Width}

-- what each call answers, and which data are domains
pub record DomainOps (D : Type 0) : Type 1 where
  pub IsDomain : D → Type 0
  pub full : Width → D
  pub one : Bv → D
  pub width : D → Width
  pub holds : D → ℕ → Bool
  pub is_empty : D → Bool
  pub known_mask : D → ℕ
  pub known_value : D → ℕ
  pub pick : D → Option ℕ
  pub meet : D → D → D
  pub with_bit : D → ℕ → Bool → D
  pub forward : Op → D → D → D → D
  pub backward : Op → ℕ → D → D → D → D → D

-- the operand at place 0, 1 or 2
abbrev pub operand : {A : Type 0} → ℕ → A → A → A → A
operand zero a b c = a
operand (suc zero) a b c = b
operand (suc (suc k)) a b c = c

-- how many bits the numbers of the domain have
abbrev pub bits_of : {D : Type 0} → DomainOps D → D → ℕ
bits_of ops d = (ops.width d).0

-- x is held by the domain
abbrev pub Holds : {D : Type 0} → DomainOps D → D → ℕ → Type 0
Holds ops d x = ops.holds d x ≡ true

-- x as a number of the domain's width
abbrev pub value_in : {D : Type 0} → DomainOps D → D → ℕ → Bv
value_in ops d x = record { width = ops.width d; bits = x }

-- the operator's value of x, y and z, which are numbers of the widths of a, b and c
abbrev pub value_at : {D : Type 0} → DomainOps D → Op → D → D → D → ℕ → ℕ → ℕ → ℕ
value_at ops op a b c x y z = value_of op (value_in ops a x) (value_in ops b y) (value_in ops c z)

-- each operand that the operator uses is held by its domain
pub record HoldUsed {D : Type 0} (ops : DomainOps D) (op : Op) (a b c : D) (x y z : ℕ) : Type 0 where
  pub first : 0 < arity_of op → Holds ops a x
  pub second : 1 < arity_of op → Holds ops b y
  pub third : 2 < arity_of op → Holds ops c z

-- bit i is known to be v
abbrev pub KnowsBit : {D : Type 0} → DomainOps D → D → ℕ → Bool → Type 0
KnowsBit ops d i v = (bit (ops.known_mask d) i ≡ true) × (bit (ops.known_value d) i ≡ v)

-- the domain isn't empty, and all its bits are known
abbrev pub IsAllKnown : {D : Type 0} → DomainOps D → D → Type 0
IsAllKnown ops d = (ops.is_empty d ≡ false) × (ops.known_mask d ≡ 2 ^ bits_of ops d - 1)

-- each operand that the operator uses has all its bits known, and isn't empty
pub record AreUsedKnown {D : Type 0} (ops : DomainOps D) (op : Op) (a b c : D) : Type 0 where
  pub first : 0 < arity_of op → IsAllKnown ops a
  pub second : 1 < arity_of op → IsAllKnown ops b
  pub third : 2 < arity_of op → IsAllKnown ops c

-- the operands are domains of widths that the operator fits
pub record Fitting {D : Type 0} (ops : DomainOps D) (op : Op) (a b c : D) : Type 0 where
  pub op_is : IsOp op
  pub a_is : ops.IsDomain a
  pub b_is : ops.IsDomain b
  pub c_is : ops.IsDomain c
  pub fits : fits_at op (bits_of ops a) (bits_of ops b) (bits_of ops c) ≡ true

-- the width of the operator's result
abbrev pub result_width : {D : Type 0} → DomainOps D → Op → D → D → D → Width
result_width ops op a b c = width (width_of op (bits_of ops a) (bits_of ops b) (bits_of ops c))

-- besides, r is a domain of the result's width, and k the place of an operand
pub record FittingAt {D : Type 0} (ops : DomainOps D) (op : Op) (k : ℕ) (r a b c : D) : Type 0 where
  pub operands : Fitting ops op a b c
  pub place : k < arity_of op
  pub r_is : ops.IsDomain r
  pub r_width : ops.width r ≡ result_width ops op a b c

-- a and b are domains of one width
pub record AreAlike {D : Type 0} (ops : DomainOps D) (a b : D) : Type 0 where
  pub a_is : ops.IsDomain a
  pub b_is : ops.IsDomain b
  pub widths : ops.width a ≡ ops.width b

-- d is a domain of width w
abbrev pub IsDomainOf : {D : Type 0} → DomainOps D → Width → D → Type 0
IsDomainOf ops w d = ops.IsDomain d × (ops.width d ≡ w)

-- the meet of a and b, or none where it is a itself
abbrev pub IsNarrowed : {D : Type 0} → DomainOps D → D → D → Option D → Type 0
IsNarrowed ops a b result = MatchOption result (ops.meet a b ≡ a) (λ d. d ≡ ops.meet a b)

pub record DomainLaws {D : Type 0} (ops : DomainOps D) : Type 0 where
  -- each call that makes a domain makes one, of this width
  pub full_is : (w : Width) → IsWidth w.0 → IsDomainOf ops w (ops.full w)
  pub one_is : (v : Bv) → IsValue v → IsDomainOf ops v.width (ops.one v)
  pub meet_is : (a b : D) → AreAlike ops a b → IsDomainOf ops (ops.width a) (ops.meet a b)
  pub with_bit_is : (a : D) (i : ℕ) (v : Bool) → ops.IsDomain a → i < bits_of ops a
      → IsDomainOf ops (ops.width a) (ops.with_bit a i v)
  pub forward_is : (op : Op) (a b c : D) → Fitting ops op a b c
      → IsDomainOf ops (result_width ops op a b c) (ops.forward op a b c)
  pub backward_is : (op : Op) (k : ℕ) (r a b c : D) → FittingAt ops op k r a b c
      → IsDomainOf ops (ops.width (operand k a b c)) (ops.backward op k r a b c)
  -- a domain has a width, and holds only numbers of that width
  pub width_is : (a : D) → ops.IsDomain a → IsWidth (bits_of ops a)
  pub held_fits : (a : D) (x : ℕ) → ops.IsDomain a → Holds ops a x → x < 2 ^ bits_of ops a
  -- the known bits are bits of the width
  pub mask_fits : (a : D) → ops.IsDomain a → ops.known_mask a < 2 ^ bits_of ops a
  -- full holds every number of its width
  pub full_holds : (w : Width) (x : ℕ) → IsWidth w.0 → x < 2 ^ w.0 → Holds ops (ops.full w) x
  -- one(v) holds v and nothing else, and all its bits are known
  pub one_holds : (v : Bv) (x : ℕ) → IsValue v → Holds ops (ops.one v) x ↔ (x ≡ v.bits)
  pub one_known : (v : Bv) → IsValue v → IsAllKnown ops (ops.one v)
  -- a meet holds every number that both hold
  pub meet_holds : (a b : D) (x : ℕ) → AreAlike ops a b → Holds ops a x → Holds ops b x → Holds ops (ops.meet a b) x
  -- it is empty where either is
  pub meet_empty : (a b : D) → AreAlike ops a b → (ops.is_empty a ≡ true) ⊎ (ops.is_empty b ≡ true)
      → ops.is_empty (ops.meet a b) ≡ true
  -- where it isn't empty, it knows each bit that either knows, with the same value
  pub meet_knows : (a b : D) (i : ℕ) (v : Bool) → AreAlike ops a b → ops.is_empty (ops.meet a b) ≡ false
      → KnowsBit ops a i v ⊎ KnowsBit ops b i v → KnowsBit ops (ops.meet a b) i v
  -- a domain is empty exactly where it holds nothing
  pub empty_holds_none : (a : D) (x : ℕ) → ops.IsDomain a → ops.is_empty a ≡ true → ops.holds a x ≡ false
  pub holds_some : (a : D) → ops.IsDomain a → ops.is_empty a ≡ false → (x : ℕ) × Holds ops a x
  -- each held number has the known bits
  pub held_agrees : (a : D) (x : ℕ) → ops.IsDomain a → Holds ops a x → bit_and x (ops.known_mask a) ≡ ops.known_value a
  -- an empty domain knows no bit
  pub empty_known : (a : D) → ops.IsDomain a → ops.is_empty a ≡ true
      → (ops.known_mask a ≡ 0) × (ops.known_value a ≡ 0)
  -- where all bits are known, at most one number is held
  pub known_one : (a : D) (x y : ℕ) → ops.IsDomain a → ops.known_mask a ≡ 2 ^ bits_of ops a - 1
      → Holds ops a x → Holds ops a y → x ≡ y
  -- forward holds the operator's value of all held operands
  pub forward_holds : (op : Op) (a b c : D) (x y z : ℕ) → Fitting ops op a b c → HoldUsed ops op a b c x y z
      → Holds ops (ops.forward op a b c) (value_at ops op a b c x y z)
  -- where the used operands aren't empty and have all bits known, so has the result
  pub forward_known : (op : Op) (a b c : D) → Fitting ops op a b c → AreUsedKnown ops op a b c
      → IsAllKnown ops (ops.forward op a b c)
  -- where held operands give a held result, backward holds the operand at the place
  pub backward_holds : (op : Op) (k : ℕ) (r a b c : D) (x y z : ℕ) → FittingAt ops op k r a b c
      → HoldUsed ops op a b c x y z → Holds ops r (value_at ops op a b c x y z)
      → Holds ops (ops.backward op k r a b c) (operand k x y z)
  -- pick gives a held number, and none exactly where the domain is empty
  pub pick_held : (a : D) → ops.IsDomain a → MatchOption (ops.pick a) (ops.is_empty a ≡ true) (λ x. Holds ops a x)
  -- with_bit holds every held number whose bit is so
  pub with_bit_holds : (a : D) (i : ℕ) (v : Bool) (x : ℕ) → ops.IsDomain a → i < bits_of ops a
      → bit x i ≡ v → Holds ops a x → Holds ops (ops.with_bit a i v) x

-- the law of a domain in which a bit that is set becomes known
pub record DecidingLaws {D : Type 0} (ops : DomainOps D) : Type 0 where
  -- after with_bit the domain is empty, or it knows the bit so, and all that it knew before
  pub with_bit_decides : (a : D) (i : ℕ) (v : Bool) → ops.IsDomain a → i < bits_of ops a
      → (ops.is_empty (ops.with_bit a i v) ≡ true)
      ⊎ (KnowsBit ops (ops.with_bit a i v) i v
      × ((j : ℕ) (u : Bool) → KnowsBit ops a j u → KnowsBit ops (ops.with_bit a i v) j u))

-- two values are `==` exactly where their data are equal
pub record IsExact {D : Type 0} (eq : D → D → Bool) : Type 0 where
  pub same : (a b : D) → eq a b ≡ true → a ≡ b
  pub refl : (a : D) → eq a a ≡ true
