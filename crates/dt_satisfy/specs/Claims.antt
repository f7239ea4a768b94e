-- The claims of a request list about an image, in order.
use Rattle.std.specs.Prelude.{ℕ, Bool, List, [], ◌∷◌, ◌++◌, map, slice_index_or}
use Rattle.std.specs.List.{flat_map, zip}
use Rattle.dt_model.specs.ModelData.{ModelData}
use Rattle.dt_model.specs.Faults.{steps}
use Rattle.dt_walk.specs.Meaning.{rule_holds}
use Rattle.dt_walk.specs.Walks.{RunData, walk_of}
use Rattle.dt_request.specs.declared.list.Requests.{Requests}
use Rattle.dt_image.specs.declared.image.Image.{Image}
use Rattle.dt_image.specs.declared.image.ImageAccess.{ImageAccess}
use Rattle.dt_satisfy.specs.Blocks.{are_apart, is_kept}
use Rattle.dt_satisfy.specs.Demands.{Made, meets}
use Rattle.dt_satisfy.specs.Links.{pages_of, tables_of, link_holds}

-- ---- runs

-- the values of the registers in an access's context
abbrev pub registers : Image → ImageAccess → List ℕ
registers i a = slice_index_or i.contexts a.context []

abbrev pub run_of : ModelData → Image → ImageAccess → RunData
run_of d i a = walk_of d (registers i a) a.inputs i.memory

-- the runs of all accesses
abbrev pub runs_of : ModelData → Image → List RunData
runs_of d i = map (run_of d i) i.accesses

-- an access, with its run
abbrev pub made_of : ModelData → Image → ImageAccess → Made
made_of d i a = record { regs = registers i a; inputs = a.inputs; run = run_of d i a }

abbrev pub all_made : ModelData → Image → List Made
all_made d i = map (made_of d i) i.accesses

-- ---- claims

-- for each context each context rule
abbrev pub context_claims : ModelData → Image → List Bool
context_claims d i = flat_map (λ regs. map (rule_holds d regs []) d.legal_context) i.contexts

-- for each access each access rule
abbrev pub access_claims : ModelData → Image → List Bool
access_claims d i = flat_map (λ a. map (rule_holds d (registers i a) a.inputs) d.legal_access) i.accesses

-- for each access each of its demands
abbrev pub demand_claims : ModelData → Requests → Image → List Bool
demand_claims d r i = flat_map (λ p. map (meets p.0) p.1.demands) (zip (all_made d i) r.accesses)

-- each link
abbrev pub link_claims : ModelData → Requests → Image → List Bool
link_claims d r i = map (link_holds (steps d) (runs_of d i)) r.links

-- no page of any run overlaps a table of any run
abbrev pub apart_claim : ModelData → Image → Bool
apart_claim d i = are_apart (pages_of (runs_of d i)) (tables_of (steps d) (runs_of d i))

-- for each kept range: no page and no table of any run touches it
abbrev pub kept_claims : ModelData → Requests → Image → List Bool
kept_claims d r i = map (is_kept (pages_of (runs_of d i)) (tables_of (steps d) (runs_of d i))) r.kept

abbrev pub claims : ModelData → Requests → Image → List Bool
claims d r i = context_claims d i ++ access_claims d i ++ demand_claims d r i ++ link_claims d r i ++ apart_claim d i ∷ kept_claims d r i
