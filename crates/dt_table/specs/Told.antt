-- What the values of terms tell of a walk.
use Rattle.std.specs.Prelude.{ℕ, ◌+◌, if◌then◌else◌, Bool, List, [], ◌∷◌}
use Rattle.dt_model.specs.ModelData.{ActData, bind, read, branch, fault, done}
use Rattle.dt_walk.specs.declared.run.End.TheVariants.{Done, Fault}
use Rattle.dt_walk.specs.declared.run.ReadMade.{ReadMade}
use Rattle.dt_walk.specs.Walks.{RunData, visit, left}
use Rattle.dt_forms.specs.Meaning.{Valuation, is_one}
use Rattle.dt_table.specs.declared.out.Out.{Out}

abbrev pub made_if : Bool → ReadMade → List ReadMade → List ReadMade
made_if b m reads = if b then m ∷ reads else reads

-- a node that the walk comes to, before those that it comes to later
abbrev pub told_step : Valuation → ℕ → ActData → Out → RunData → RunData
told_step v n (bind x e to) o r = visit n r
told_step v n (branch e t f) o r = visit n (left n (is_one (v o.by_then)) r)
told_step v n (read x e g t f) o r = record { path = n ∷ r.path; sides = record { node = n; by_then = is_one (v o.by_then) } ∷ r.sides; reads = made_if (is_one (v o.by_then)) (record { node = n; cell = (v o.value).bits; word = (v o.word).bits }) r.reads; end = r.end }
told_step v n (fault c) o r = record { path = n ∷ r.path; sides = r.sides; reads = r.reads; end = Fault n c }
told_step v n (done e p) o r = record { path = n ∷ r.path; sides = r.sides; reads = r.reads; end = Done n (v o.value).bits p }

-- the run that the values of an access's terms tell
abbrev pub told : Valuation → List ActData → List Out → ℕ → RunData
told v (p ∷ ps) (o ∷ os) n = if is_one (v o.come) then told_step v n p o (told v ps os (n + 1)) else told v ps os (n + 1)
told v _ _ n = record { path = []; sides = []; reads = []; end = Fault n 0 }
