-- Short words for the expressions of a model.
use Rattle.std.specs.Prelude.{ℕ}
use Rattle.dt_bits.specs.declared.op.Op.TheVariants.{Not, And, Or, Slice, Concat, Eq, Ite}
use Rattle.dt_model.specs.ModelData.{Tree, value, apply1, apply2, apply3}

abbrev pub part : ℕ → ℕ → Tree → Tree
part hi lo t = apply1 (Slice hi lo) t

abbrev pub bit : ℕ → Tree → Tree
bit k t = part k k t

abbrev pub no : Tree → Tree
no t = apply1 Not t

abbrev pub both : Tree → Tree → Tree
both a b = apply2 And a b

abbrev pub either : Tree → Tree → Tree
either a b = apply2 Or a b

abbrev pub is : Tree → ℕ → ℕ → Tree
is t width n = apply2 Eq t (value width n)

abbrev pub joined : Tree → Tree → Tree
joined a b = apply2 Concat a b

abbrev pub choose : Tree → Tree → Tree → Tree
choose a b c = apply3 Ite a b c
