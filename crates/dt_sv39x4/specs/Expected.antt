-- What a model's walk is to tell: the manual's walk of two stages, at the nodes of these names.
use Rattle.std.specs.Prelude.{ℕ, Bool, ◌&&◌, ◌==◌, if◌then◌else◌, List, [], ◌∷◌, ◌++◌, map, codes}
use Rattle.dt_model.specs.ModelData.{ModelData}
use Rattle.dt_manual.specs.declared.access.Kind.{Kind}
use Rattle.dt_manual.specs.declared.access.Kind.TheVariants.{Fetch, Load, Store}
use Rattle.dt_manual.specs.declared.access.Sv39x4Setting.{Sv39x4Setting}
use Rattle.dt_manual.specs.Levels.{Part, single, vs, of_entry, of_final, Entry, Cause, page_fault, guest_fault, access_fault, StageEnd, reached, stopped, Walked}
use Rattle.dt_manual.specs.Sv39.{code_of}
use Rattle.dt_walk.specs.declared.run.End.{End}
use Rattle.dt_walk.specs.declared.run.End.TheVariants.{Done, Fault}
use Rattle.dt_walk.specs.declared.run.ReadMade.{ReadMade}
use Rattle.dt_stage.specs.Tells.{Told}
use Rattle.dt_sv39.specs.Expected.{number, node_named, done_name}
use Rattle.dt_sv39.specs.Expected as sv39

abbrev pub regs_of : Sv39x4Setting → List ℕ
regs_of s = s.vsatp ∷ s.hgatp ∷ number s.sum ∷ number s.vmxr ∷ number s.hmxr ∷ []

-- ---- nodes by their names

-- a walk's letter: v for the VS-stage; a, b, c for the G-stages of its entries' addresses, from level 2 on; g for that of the final address
abbrev pub letter : Part → List ℕ
letter single = []
letter vs = codes "v"
letter (of_entry i) = if i == 2 then codes "a" else (if i == 1 then codes "b" else codes "c")
letter of_final = codes "g"

abbrev pub read_name : Part → ℕ → List ℕ
read_name p level = letter p ++ (if level == 2 then codes "2" else (if level == 1 then codes "1" else codes "0"))

abbrev pub fault_name : Cause → Kind → List ℕ
fault_name guest_fault Fetch = codes "gf20"
fault_name guest_fault Load = codes "gf21"
fault_name guest_fault Store = codes "gf23"
fault_name access_fault k = sv39.fault_name access_fault k
fault_name page_fault k = sv39.fault_name page_fault k

-- ---- reads and ends

-- an entry that was read, at the node of its walk and level
abbrev pub read_made : ModelData → Entry → ReadMade
read_made d e = record { node = node_named d (read_name e.part e.level); cell = e.address; word = e.word }

abbrev pub end_at : ModelData → Bool → Kind → StageEnd → End
end_at d bare k (reached pa page) = Done (node_named d (done_name bare page)) pa page
end_at d bare k (stopped c) = Fault (node_named d (fault_name c k)) (code_of c k)

-- both stages are Bare
abbrev pub both_bare : Sv39x4Setting → Bool
both_bare s = s.vsatp == 0 && s.hgatp == 0

abbrev pub expected : ModelData → Bool → Kind → Walked → Told
expected d bare k w = record { reads = map (read_made d) w.entries; end = end_at d bare k w.end }
