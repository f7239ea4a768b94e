-- What a line may name is found where the code looks it up.
use Rattle.std.proofs.Common.{◌≡◌, ℕ, Option}
use Rattle.dt_lex.specs.declared.name.Name.{Name}
use Rattle.dt_model.specs.NameTable.{found_in}
use Rattle.dt_modeltext.specs.declared.draft.Draft.{Draft}
use Rattle.dt_modeltext.specs.Expr.{Positions}
use Rattle.dt_modeltext.specs.Entry.{declared_positions}
use Rattle.dt_modeltext.specs.Draft.{declared_by, IsIndexed}

same_positions : (a b : Positions) → ((n : Name) → a.regs n ≡ b.regs n) → ((n : Name) → a.inputs n ≡ b.inputs n) → ((n : Name) → a.vars n ≡ b.vars n) → a.nodes ≡ b.nodes → a ≡ b
same_positions a b r i v n = λ t. record { regs = λ x. r x t; inputs = λ x. i x t; vars = λ x. v x t; nodes = n t }

-- the tables of a draft have the positions of what was declared
pub tables_of_draft : (nodes : Name → Option ℕ) (d : Draft) → IsIndexed d.regs → IsIndexed d.inputs → IsIndexed d.vars → record { regs = found_in d.regs.table; inputs = found_in d.inputs.table; vars = found_in d.vars.table; nodes = nodes } ≡ declared_positions nodes (declared_by d).model
tables_of_draft nodes d r i v = same_positions _ (declared_positions nodes (declared_by d).model) r i v (λ t. nodes)
