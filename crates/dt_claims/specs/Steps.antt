-- What one node adds to the lists of a walk.
use Rattle.std.specs.Prelude.{ℕ, ◌&&◌, Bool, not, if◌then◌else◌, List, [], ◌∷◌}
use Rattle.dt_model.specs.ModelData.{ActData, read, done}
use Rattle.dt_forms.specs.Forms.{Form, term}
use Rattle.dt_table.specs.declared.out.Out.{Out}
use Rattle.dt_reach.specs.declared.ways.Ways.{Ways}
use Rattle.dt_table.specs.Apart.{Sized}
use Rattle.dt_table.specs.Spots.{Spot, spot_at}
use Rattle.dt_ways.specs.Ends.{is_end}

-- the result, with its page
abbrev pub page_at : ActData → Out → List Sized
page_at (done e p) o = record { exponent = p; out = o } ∷ []
page_at _ o = []

-- the read, where the step is one
abbrev pub read_spot : List Ways → ℕ → ℕ → ActData → Out → List Spot
read_spot ws k n (read x e g t f) o = spot_at ws k n g o ∷ []
read_spot ws k n _ o = []

-- the result, where the step is one
abbrev pub page_spot : List Ways → ℕ → ℕ → ActData → Out → List Spot
page_spot ws k n (done e p) o = spot_at ws k n p o ∷ []
page_spot ws k n _ o = []

-- the walk doesn't come to an end that doesn't pass
abbrev pub end_forms : (ActData → Bool) → ActData → Out → List Form
end_forms test p o = if is_end p && not (test p) then term o.away ∷ [] else []
