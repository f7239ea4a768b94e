-- Forward: the values of all selections of listed numbers.
use Rattle.std.specs.Prelude.{ℕ, ◌*◌, Bool, not, ◌&&◌, nat_lt, nat_le, if◌then◌else◌, List, [], ◌∷◌, length, map}
use Rattle.std.specs.List.{flat_map}
use Rattle.dt_bits.specs.Bits.{width}
use Rattle.dt_bits.specs.Ops.{arity_of, width_of, value_of, some_used}
use Rattle.dt_bits.specs.declared.op.Op.{Op}
use Rattle.dt_bits.specs.declared.value.Bv.{Bv}
use Rattle.dt_bits.specs.declared.value.Width.{Width}
use Rattle.dt_sets.specs.Lists.{rising}
use Rattle.dt_sets.specs.declared.Sets.{Sets}
use Rattle.dt_sets.specs.Sets.{sets_is_empty, listed, no_sets, sets_full, gathered}

-- a number as a value of a width
abbrev pub valued : Width → ℕ → Bv
valued w x = record { width = w; bits = x }

abbrev pub width_after : Op → Sets → Sets → Sets → Width
width_after op a b c = width (width_of op a.width.0 b.width.0 c.width.0)

-- the operator's value of x, y and z, which are numbers of the widths of a, b and c
abbrev pub value_with : Op → Sets → Sets → Sets → ℕ → ℕ → ℕ → ℕ
value_with op a b c x y z = value_of op (valued a.width x) (valued b.width y) (valued c.width z)

-- the numbers of the operand at place k: the listed ones, and 0 alone where the operator doesn't use it
abbrev pub numbers_at : Op → ℕ → Sets → List ℕ
numbers_at op k s = if nat_lt k (arity_of op) then listed s else 0 ∷ []

abbrev pub some_used_empty : Op → Sets → Sets → Sets → Bool
some_used_empty op a b c = some_used op (sets_is_empty a) (sets_is_empty b) (sets_is_empty c)

-- how many selections of numbers are gone through at most
abbrev pub most_selections : ℕ
most_selections = 64

-- the numbers of each used operand are listed, and they have at most so many selections
abbrev pub are_few : Op → Sets → Sets → Sets → Bool
are_few op a b c =
    not (some_used op a.many b.many c.many)
    && nat_le (length (numbers_at op 0 a) * length (numbers_at op 1 b) * length (numbers_at op 2 c)) most_selections

-- the values of all selections
abbrev pub values : Op → Sets → Sets → Sets → List ℕ → List ℕ → List ℕ → List ℕ
values op a b c xs ys zs = flat_map (λ x. flat_map (λ y. map (λ z. value_with op a b c x y z) zs) ys) xs

abbrev pub values_of : Op → Sets → Sets → Sets → List ℕ
values_of op a b c = values op a b c (numbers_at op 0 a) (numbers_at op 1 b) (numbers_at op 2 c)

-- nothing where a used operand is empty; the values, where they are few
abbrev pub sets_forward : Op → Sets → Sets → Sets → Sets
sets_forward op a b c =
    if some_used_empty op a b c then no_sets (width_after op a b c)
    else (if are_few op a b c then gathered (width_after op a b c) (rising (values_of op a b c))
    else sets_full (width_after op a b c))
