-- One level of an expression.
use Rattle.std.proofs.Common.{◌≡◌, ℕ, zero, suc, ◌-◌, ◌<◌, List, refl, ap, arith}
use Rattle.dt_modeltext.specs.Expr.{Positions, atom_of, level, expr_at}
use Rattle.dt_lex.specs.Frame.{first_by}

pub at_depth : (s : Positions) (depth : ℕ) (ts : List (List ℕ)) → 0 < depth → expr_at s depth ts ≡ level s (expr_at s (depth - 1)) ts
unfolding expr_at
at_depth s zero ts h = absurd (omega arith)
at_depth s (suc depth) ts h = let e : depth ≡ suc depth - 1 = omega arith in ap (λ (n : ℕ). level s (expr_at s n) ts) e

pub no_depth : (s : Positions) (depth : ℕ) (ts : List (List ℕ)) → depth ≡ 0 → expr_at s depth ts ≡ first_by (atom_of s) ts
unfolding expr_at
no_depth s zero ts h = refl
no_depth s (suc depth) ts h = absurd (omega arith)
