-- Expressions as tokens: a name, a constant W:N, or an operator and its operands in parentheses.
use Rattle.std.specs.Prelude.{ℕ, zero, suc, ◌-◌, ◌^◌, ◌==◌, Bool, nat_lt, List, [], ◌∷◌, Option, Some, None, codes, if◌then◌else◌}
use Rattle.std.specs.List.{before_first, after_first}
use Rattle.std.specs.Option.{option_map, option_map_or}
use Rattle.std.specs.Str.{bytes_eq}
use Rattle.dt_bits.specs.declared.op.Op.{Op}
use Rattle.dt_bits.specs.declared.op.Op.TheVariants.{Not, And, Or, Xor, Add, Sub, Slice, Concat, SignExt, Shl, Shr, Eq, Ltu, Ite}
use Rattle.dt_bits.specs.Ops.{arity_of}
use Rattle.dt_lex.specs.declared.name.Name.{Name}
use Rattle.dt_lex.specs.Names.{name_of}
use Rattle.dt_lex.specs.Numeral.{is_hex, number_of}
use Rattle.dt_model.specs.ModelData.{Tree, value, reg, input, var, apply1, apply2, apply3}
use Rattle.dt_lex.specs.Frame.{◌>>=◌, Front, first_by, name_at}

-- ---- one token

-- a number below 2 ^ 32
abbrev pub below_32 : ℕ → Option ℕ
below_32 n = if nat_lt n (2 ^ 32) then Some n else None

unfoldable pub small_of : List ℕ → Option ℕ
small_of t = number_of t >>= below_32

-- such a number in decimal digits
unfoldable pub decimal_of : List ℕ → Option ℕ
decimal_of t = if is_hex t then None else small_of t

abbrev pub is_colon : ℕ → Bool
is_colon b = b == 58

-- a width, a colon and a number
unfoldable pub constant_of : List ℕ → Option Tree
constant_of t = do
  width ← decimal_of (before_first is_colon t)
  bits ← number_of (after_first is_colon t)
  Some (value width bits)

-- the position of what isn't declared
abbrev pub unknown : ℕ
unknown = 2 ^ 32 - 1

-- the positions that names have as registers, inputs, variables and nodes
pub record Positions : Type 0 where
  pub regs : Name → Option ℕ
  pub inputs : Name → Option ℕ
  pub vars : Name → Option ℕ
  pub nodes : Name → Option ℕ

-- a register, else an input, else a variable; a name that isn't declared is read as the register at no position
unfoldable pub named : Positions → Name → Tree
named s n = option_map_or reg (s.regs n) (option_map_or input (s.inputs n) (option_map_or var (s.vars n) (reg unknown)))

-- a name, or else a constant
abbrev pub named_or : Positions → Option Tree → Option Name → Option Tree
named_or s other None = other
named_or s other (Some n) = Some (named s n)

unfoldable pub atom_of : Positions → List ℕ → Option Tree
atom_of s t = named_or s (constant_of t) (name_of t)

-- ---- tokens from the front

abbrev pub small_at : List (List ℕ) → Front ℕ
small_at ts = first_by small_of ts

abbrev pub is_open : List ℕ → Bool
is_open t = bytes_eq t (codes "(")

-- the tokens after a closing parenthesis
abbrev pub closing : List (List ℕ) → Option (List (List ℕ))
closing [] = None
closing (t ∷ ts) = if bytes_eq t (codes ")") then Some ts else None

abbrev pub closed : Tree → List (List ℕ) → Front Tree
closed e ts = closing ts >>= λ us. Some (e, us)

-- the two numbers of a slice
unfoldable pub slice_at : List (List ℕ) → Front Op
slice_at ts = do
  hi ← small_at ts
  lo ← small_at hi.1
  Some (Slice hi.0 lo.0, lo.1)

-- an operator with one number
unfoldable pub counted_at : (ℕ → Op) → List (List ℕ) → Front Op
counted_at f ts = do
  n ← small_at ts
  Some (f n.0, n.1)

-- an operator of one word
unfoldable pub plain_of : List ℕ → Option Op
plain_of t =
    if bytes_eq t (codes "not") then Some Not
    else (if bytes_eq t (codes "and") then Some And
    else (if bytes_eq t (codes "or") then Some Or
    else (if bytes_eq t (codes "xor") then Some Xor
    else (if bytes_eq t (codes "add") then Some Add
    else (if bytes_eq t (codes "sub") then Some Sub
    else (if bytes_eq t (codes "concat") then Some Concat
    else (if bytes_eq t (codes "eq") then Some Eq
    else (if bytes_eq t (codes "ltu") then Some Ltu
    else (if bytes_eq t (codes "ite") then Some Ite
    else None)))))))))

-- an operator, with its numbers
unfoldable pub operator_at : List (List ℕ) → Front Op
operator_at [] = None
operator_at (t ∷ ts) =
    if bytes_eq t (codes "slice") then slice_at ts
    else (if bytes_eq t (codes "sext") then counted_at (λ to. SignExt to) ts
    else (if bytes_eq t (codes "shl") then counted_at (λ by. Shl by) ts
    else (if bytes_eq t (codes "shr") then counted_at (λ by. Shr by) ts
    else option_map (λ op. (op, ts)) (plain_of t))))

-- ---- operands, each of which is read by part, and the closing parenthesis

unfoldable pub one_at : (List (List ℕ) → Front Tree) → Op → List (List ℕ) → Front Tree
one_at part op ts = do
  a ← part ts
  closed (apply1 op a.0) a.1

unfoldable pub two_at : (List (List ℕ) → Front Tree) → Op → List (List ℕ) → Front Tree
two_at part op ts = do
  a ← part ts
  b ← part a.1
  closed (apply2 op a.0 b.0) b.1

unfoldable pub three_at : (List (List ℕ) → Front Tree) → Op → List (List ℕ) → Front Tree
three_at part op ts = do
  a ← part ts
  b ← part a.1
  c ← part b.1
  closed (apply3 op a.0 b.0 c.0) c.1

-- as many operands as the operator takes
unfoldable pub operands_at : (List (List ℕ) → Front Tree) → Op → List (List ℕ) → Front Tree
operands_at part op ts =
    if arity_of op == 1 then one_at part op ts
    else (if arity_of op == 2 then two_at part op ts
    else (if arity_of op == 3 then three_at part op ts
    else None))

-- what stands after an opening parenthesis
unfoldable pub applied_at : (List (List ℕ) → Front Tree) → List (List ℕ) → Front Tree
applied_at part ts = do
  op ← operator_at ts
  operands_at part op.0 op.1

-- ---- expressions

unfoldable pub level : Positions → (List (List ℕ) → Front Tree) → List (List ℕ) → Front Tree
level s part [] = None
level s part (t ∷ ts) = if is_open t then applied_at part ts else first_by (atom_of s) (t ∷ ts)

-- an expression of names in scope, with at most so many operators on one way from its root
unfoldable pub expr_at : Positions → ℕ → List (List ℕ) → Front Tree
expr_at s zero = first_by (atom_of s)
expr_at s (suc depth) = level s (expr_at s depth)
