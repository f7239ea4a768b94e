-- The manual's walk of two stages: Sv39 under Sv39x4 (sections 8.4 and 8.5).
use Rattle.std.specs.Prelude.{ℕ, ◌*◌, Bool, false, not, ◌&&◌, ◌||◌, ◌==◌, nat_lt, if◌then◌else◌, List}
use Rattle.dt_bits.specs.Memory.{Memory}
use Rattle.dt_manual.specs.declared.access.Access.{Access}
use Rattle.dt_manual.specs.declared.access.Sv39x4Setting.{Sv39x4Setting}
use Rattle.dt_manual.specs.declared.two_stages.Use.{Use}
use Rattle.dt_manual.specs.declared.two_stages.Use.TheVariants.{Explicit, Implicit}
use Rattle.dt_manual.specs.Entry.{field, U, R}
use Rattle.dt_manual.specs.Levels.{Part, vs, of_entry, of_final, Entry, Walked, page_fault, guest_fault, access_fault, StageEnd, reached, stopped, Stage, Fetched, before, ending, levels_by, direct, at_result}
use Rattle.dt_manual.specs.Sv39.{is_store, allows, serves, index, canonical}

-- ---- the G-stage (section 8.5.1): of a guest physical address x

-- An access of the guest is checked by its kind, with MXR of HS-level alone; the read of an entry of the
-- VS-stage needs a readable page, whatever MXR says.
abbrev pub g_allows : Use → Bool → ℕ → Bool
g_allows Implicit mxr e = R e
g_allows (Explicit k) mxr e = allows k mxr e

abbrev pub g_stores : Use → Bool
g_stores Implicit = false
g_stores (Explicit k) = is_store k

-- each page is one for U-mode
abbrev pub g_stage : Sv39x4Setting → Use → Stage
g_stage s u = record {
  bits = 9;
  bytes = 8;
  cause = guest_fault;
  permits = λ e. U e && g_allows u s.hmxr e;
  stores = g_stores u;
}

-- the root's table is four times as large as the others, so its index has 11 bits
abbrev pub g_index : ℕ → ℕ → ℕ
g_index x i = if i == 2 then field 40 30 x else index x i

-- Bare where hgatp is 0: the address itself, of 56 bits, in no page, which the exponent 0 stands for. Else
-- three levels of an address of 41 bits, from the table that hgatp names.
abbrev pub g_walk : Sv39x4Setting → Memory → Part → Use → ℕ → Walked
g_walk s m p u x =
    if s.hgatp == 0 then
    (if not (field 63 56 x == 0) then ending (stopped access_fault) else ending (reached x 0))
    else if not (field 63 41 x == 0) then ending (stopped guest_fault)
    else levels_by p (g_stage s u) (direct m) x (g_index x) 3 (field 43 0 s.hgatp * 4096)

-- ---- the VS-stage

-- with MXR of VS-level or of HS-level
abbrev pub vs_stage : Sv39x4Setting → Access → Stage
vs_stage s a = record {
  bits = 9;
  bytes = 8;
  cause = page_fault;
  permits = λ e. serves a.kind a.user s.sum e && allows a.kind (s.vmxr || s.hmxr) e;
  stores = is_store a.kind;
}

-- the entry at a guest physical address lies where the G-stage leads it
abbrev pub vs_fetch : Sv39x4Setting → Memory → ℕ → ℕ → Fetched
vs_fetch s m i a = let w = g_walk s m (of_entry i) Implicit a in at_result m w.entries w.end

-- Bare where vsatp is 0: the address itself, in no page. Else three levels of a sign-extended address.
abbrev pub vs_walk : Sv39x4Setting → Memory → Access → Walked
vs_walk s m a =
    if s.vsatp == 0 then ending (reached a.va 0)
    else if not (canonical a.va) then ending (stopped page_fault)
    else levels_by vs (vs_stage s a) (vs_fetch s m) a.va (index a.va) 3 (field 43 0 s.vsatp * 4096)

-- ---- both stages

-- the smaller of the pages that there are, and that of 2^12 bytes where there is none
abbrev pub smaller : ℕ → ℕ → ℕ
smaller v g = if v == 0 then (if g == 0 then 12 else g) else (if g == 0 then v else (if nat_lt v g then v else g))

abbrev pub paged : ℕ → StageEnd → StageEnd
paged v (reached a g) = reached a (smaller v g)
paged v (stopped c) = stopped c

-- the guest physical address to which the VS-stage leads goes through the G-stage, as the access itself
abbrev pub then_final : Sv39x4Setting → Memory → Access → List Entry → StageEnd → Walked
then_final s m a es (stopped c) = before es (ending (stopped c))
then_final s m a es (reached x v) = let w = g_walk s m of_final (Explicit a.kind) x in before es (record { entries = w.entries; end = paged v w.end })

abbrev pub sv39x4_walk : Sv39x4Setting → Memory → Access → Walked
sv39x4_walk s m a = let w = vs_walk s m a in then_final s m a w.entries w.end
