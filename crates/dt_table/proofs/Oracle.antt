-- A walk whose words are told node by node.
use Rattle.std.proofs.Common.{ℕ, ◌+◌, Bool, cond, eqb, List, ◌∷◌, Some, None}
use Rattle.dt_model.specs.ModelData.{ActData, bind, read, branch, fault, done}
use Rattle.dt_walk.specs.declared.run.End.TheVariants.{Done, Fault}
use Rattle.dt_walk.specs.Meaning.{EnvData, Vars, bound, value_at}
use Rattle.dt_walk.specs.Walks.{RunData, visit, ended, read_of, branch_of}

abbrev pub acted_with : EnvData → (ℕ → Bool) → ℕ → ℕ → ActData → (ℕ → Vars → RunData) → Vars → RunData
acted_with s cells u n (bind x e to) go vars = visit n (go to (bound vars x (value_at s vars e).bits))
acted_with s cells u n (read x e g t o) go vars = visit n (read_of (cond (cells (value_at s vars e).bits) (Some u) None) n (value_at s vars e).bits x t o go vars)
acted_with s cells u n (branch e t o) go vars = visit n (branch_of (eqb (value_at s vars e).bits 1) n t o go vars)
acted_with s cells u n (fault c) go vars = ended n (Fault n c)
acted_with s cells u n (done e p) go vars = ended n (Done n (value_at s vars e).bits p)

-- the walk in which the read at each node that is left gives the number of that node, at cells that have words
abbrev pub walk_with : EnvData → (ℕ → Bool) → List ℕ → List ActData → ℕ → ℕ → Vars → RunData
walk_with s cells (u ∷ us) (p ∷ ps) at to vars = cond (eqb at to) (acted_with s cells u at p (walk_with s cells us ps (at + 1)) vars) (walk_with s cells us ps (at + 1) to vars)
walk_with s cells _ _ at to vars = ended to (Fault to 0)
