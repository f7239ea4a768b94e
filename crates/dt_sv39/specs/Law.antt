-- That a model walks as the manual says of Sv39, and that its rules are the manual's settings.
use Rattle.std.specs.Prelude.{◌≡◌, ℕ, ◌<◌, ◌^◌, Bool, not, ◌==◌, ◌||◌, [], ◌∷◌}
use Rattle.std.specs.List.{list_all}
use Rattle.dt_bits.specs.Memory.{Memory}
use Rattle.dt_model.specs.ModelData.{ModelData}
use Rattle.dt_walk.specs.Meaning.{rule_holds}
use Rattle.dt_walk.specs.Walks.{walk_of}
use Rattle.dt_manual.specs.declared.access.Access.{Access}
use Rattle.dt_manual.specs.declared.access.Sv39Setting.{Sv39Setting}
use Rattle.dt_manual.specs.Entry.{field}
use Rattle.dt_manual.specs.Sv39.{sv39_walk}
use Rattle.dt_stage.specs.Tells.{told}
use Rattle.dt_sv39.specs.Expected.{regs_of, inputs_of, expected}

-- For every setting, table memory and access of 64 bits: the manual's end with its address and page, or
-- its code, at the node of that end; and the manual's entries in order, each at the node of its level.
abbrev pub WalksAsManual : ModelData → Type 0
WalksAsManual d = (s : Sv39Setting) (m : Memory) (a : Access) → a.va < 2 ^ 64 → told (walk_of d (regs_of s) (inputs_of a) m) ≡ expected d (s.satp == 0) a.kind (sv39_walk s m a)

-- MODE is 8, or the register is 0
abbrev pub is_legal_satp : ℕ → Bool
is_legal_satp satp = field 63 60 satp == 8 || satp == 0

-- The rules hold of exactly the legal settings, and of exactly the accesses of one of the three kinds.
abbrev pub IsLegalAsManual : ModelData → Type 0
IsLegalAsManual d =
    (s : Sv39Setting) (va kind user : ℕ)
    → (list_all (rule_holds d (regs_of s) []) d.legal_context ≡ is_legal_satp s.satp) × (list_all (rule_holds d (regs_of s) (va ∷ kind ∷ user ∷ [])) d.legal_access ≡ not (kind == 3))
