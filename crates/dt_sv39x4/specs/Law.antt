-- That a model walks as the manual says of two stages, and that its rules are the manual's settings.
use Rattle.std.specs.Prelude.{◌≡◌, ℕ, ◌<◌, ◌^◌, Bool, true, not, ◌==◌, ◌&&◌, ◌||◌, [], ◌∷◌}
use Rattle.std.specs.List.{list_all}
use Rattle.dt_bits.specs.Memory.{Memory}
use Rattle.dt_model.specs.ModelData.{ModelData}
use Rattle.dt_walk.specs.Meaning.{rule_holds}
use Rattle.dt_walk.specs.Walks.{walk_of}
use Rattle.dt_manual.specs.declared.access.Access.{Access}
use Rattle.dt_manual.specs.declared.access.Sv39x4Setting.{Sv39x4Setting}
use Rattle.dt_manual.specs.Entry.{field}
use Rattle.dt_manual.specs.TwoStages.{sv39x4_walk}
use Rattle.dt_stage.specs.Tells.{told}
use Rattle.dt_sv39.specs.Expected.{inputs_of}
use Rattle.dt_sv39.specs.Law.{is_legal_satp}
use Rattle.dt_sv39x4.specs.Expected.{regs_of, both_bare, expected}

-- MODE is 8 with bits 59, 58, 1 and 0 clear, or the register is 0
abbrev pub is_legal_hgatp : ℕ → Bool
is_legal_hgatp hgatp = field 63 60 hgatp == 8 && (field 59 58 hgatp == 0 && field 1 0 hgatp == 0) || hgatp == 0

abbrev pub is_legal : Sv39x4Setting → Bool
is_legal s = is_legal_satp s.vsatp && is_legal_hgatp s.hgatp

-- For every legal setting, table memory and access of 64 bits: the manual's end with its address and
-- page, or its code, at the node of that end; and the manual's entries in order, each at the node of
-- its walk and level.
abbrev pub WalksAsManual : ModelData → Type 0
WalksAsManual d = (s : Sv39x4Setting) (m : Memory) (a : Access) → is_legal s ≡ true → a.va < 2 ^ 64 → told (walk_of d (regs_of s) (inputs_of a) m) ≡ expected d (both_bare s) a.kind (sv39x4_walk s m a)

-- The rules hold of exactly the legal settings, and of exactly the accesses of one of the three kinds.
abbrev pub IsLegalAsManual : ModelData → Type 0
IsLegalAsManual d =
    (s : Sv39x4Setting) (va kind user : ℕ)
    → (list_all (rule_holds d (regs_of s) []) d.legal_context ≡ is_legal s) × (list_all (rule_holds d (regs_of s) (va ∷ kind ∷ user ∷ [])) d.legal_access ≡ not (kind == 3))
