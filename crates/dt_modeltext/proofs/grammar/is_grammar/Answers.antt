use Rattle.dt_modeltext.proofs.ExprSpellings.{expr_again, expr_takes}
use Rattle.dt_modeltext.proofs.Depths.{is_shallow_in}
use Rattle.dt_modeltext.proofs.grammar.is_grammar.Goals as goal

pub returns-clause-only : goal.returns-clause-only
returns-clause-only c = λ s most ts rest e h. let t = expr_takes s most ts (e, rest) h in (t.front, t.parts, t.spelled)

pub returns-clause-all : goal.returns-clause-all
returns-clause-all c = λ s most ts rest e h le. expr_again s most e ts rest h le

pub returns-clause-shallow : goal.returns-clause-shallow
returns-clause-shallow c = λ s e before ts after h flat. is_shallow_in s e 32 before ts after h flat
