-- What a model's walk is to tell: the manual's walk, at the nodes of these names.
use Rattle.std.specs.Prelude.{ℕ, Bool, true, false, ◌==◌, if◌then◌else◌, List, [], ◌∷◌, map, codes, unwrap_or, length}
use Rattle.dt_lex.specs.Names.{padded_name}
use Rattle.dt_model.specs.ModelData.{ModelData}
use Rattle.dt_model.specs.Positions.{position_of}
use Rattle.dt_manual.specs.declared.access.Kind.{Kind}
use Rattle.dt_manual.specs.declared.access.Kind.TheVariants.{Fetch, Load, Store}
use Rattle.dt_manual.specs.declared.access.Access.{Access}
use Rattle.dt_manual.specs.declared.access.Sv39Setting.{Sv39Setting}
use Rattle.dt_manual.specs.Levels.{Entry, Cause, page_fault, guest_fault, access_fault, StageEnd, reached, stopped, Walked}
use Rattle.dt_manual.specs.Sv39.{code_of}
use Rattle.dt_walk.specs.declared.run.End.{End}
use Rattle.dt_walk.specs.declared.run.End.TheVariants.{Done, Fault}
use Rattle.dt_walk.specs.declared.run.ReadMade.{ReadMade}
use Rattle.dt_stage.specs.Tells.{Told}

-- ---- a setting and an access as registers and inputs

abbrev pub number : Bool → ℕ
number b = if b then 1 else 0

abbrev pub kind_number : Kind → ℕ
kind_number Fetch = 0
kind_number Load = 1
kind_number Store = 2

abbrev pub regs_of : Sv39Setting → List ℕ
regs_of s = s.satp ∷ number s.sum ∷ number s.mxr ∷ []

abbrev pub inputs_of : Access → List ℕ
inputs_of a = a.va ∷ kind_number a.kind ∷ number a.user ∷ []

-- ---- nodes by their names

-- the position of the first node of this name; behind all nodes, where none has it
abbrev pub node_named : ModelData → List ℕ → ℕ
node_named d name = unwrap_or (position_of (map (λ n. n.name) d.nodes) (padded_name name)) (length d.nodes)

abbrev pub read_name : ℕ → List ℕ
read_name level = if level == 2 then codes "r2" else (if level == 1 then codes "r1" else codes "r0")

-- by the page's exponent, and whether satp is Bare
abbrev pub done_name : Bool → ℕ → List ℕ
done_name bare page = if bare then codes "dbare" else (if page == 30 then codes "d30" else (if page == 21 then codes "d21" else (if page == 16 then codes "d16" else codes "d12")))

-- Sv39 has no guest-page fault
abbrev pub fault_name : Cause → Kind → List ℕ
fault_name access_fault Fetch = codes "af1"
fault_name access_fault Load = codes "af5"
fault_name access_fault Store = codes "af7"
fault_name page_fault Fetch = codes "pf12"
fault_name page_fault Load = codes "pf13"
fault_name page_fault Store = codes "pf15"
fault_name guest_fault k = []

-- ---- reads and ends

-- an entry that was read, at the node of its level
abbrev pub read_made : ModelData → Entry → ReadMade
read_made d e = record { node = node_named d (read_name e.level); cell = e.address; word = e.word }

abbrev pub end_at : ModelData → Bool → Kind → StageEnd → End
end_at d bare k (reached pa page) = Done (node_named d (done_name bare page)) pa page
end_at d bare k (stopped c) = Fault (node_named d (fault_name c k)) (code_of c k)

abbrev pub expected : ModelData → Bool → Kind → Walked → Told
expected d bare k w = record { reads = map (read_made d) w.entries; end = end_at d bare k w.end }
