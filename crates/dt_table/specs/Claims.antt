-- What is claimed of accesses, as forms over the terms of their nodes.
use Rattle.std.specs.Prelude.{Bool, not, ◌&&◌, if◌then◌else◌, List, [], ◌∷◌}
use Rattle.dt_model.specs.ModelData.{ActData, read}
use Rattle.dt_ways.specs.Ends.{is_end}
use Rattle.dt_table.specs.declared.out.Out.{Out}
use Rattle.dt_forms.specs.Forms.{Form, term, both_of, implies, same_of}

-- ---- ends

-- the walk comes to no end but those that pass
abbrev pub ends_only : (ActData → Bool) → List ActData → List Out → List Form
ends_only test (p ∷ ps) (o ∷ os) = if is_end p && not (test p) then term o.away ∷ ends_only test ps os else ends_only test ps os
ends_only test _ _ = []

-- ---- reads at one cell

abbrev pub pair_form : Out → Out → Form
pair_form a b = implies (both_of (both_of (term a.by_then) (term b.by_then)) (same_of (term a.value) (term b.value))) (same_of (term a.word) (term b.word))

-- what stands for the reads
abbrev pub reads_of : List ActData → List Out → List Out
reads_of (read x e g t f ∷ ps) (o ∷ os) = o ∷ reads_of ps os
reads_of (p ∷ ps) (o ∷ os) = reads_of ps os
reads_of _ _ = []
