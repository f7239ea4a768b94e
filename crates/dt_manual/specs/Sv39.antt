-- The manual's walk of Sv39 (sections 4.3.2 and 4.4).
use Rattle.std.specs.Prelude.{ℕ, ◌+◌, ◌-◌, ◌*◌, ◌^◌, Bool, true, false, not, ◌&&◌, ◌||◌, ◌==◌, if◌then◌else◌}
use Rattle.dt_bits.specs.Memory.{Memory}
use Rattle.dt_manual.specs.declared.access.Kind.{Kind}
use Rattle.dt_manual.specs.declared.access.Kind.TheVariants.{Fetch, Load, Store}
use Rattle.dt_manual.specs.declared.access.Access.{Access}
use Rattle.dt_manual.specs.declared.access.Sv39Setting.{Sv39Setting}
use Rattle.dt_manual.specs.declared.access.ManualEnd.{ManualEnd}
use Rattle.dt_manual.specs.declared.access.ManualEnd.TheVariants.{Page, Fault}
use Rattle.dt_manual.specs.Entry.{field, R, W, X, U}
use Rattle.dt_manual.specs.Levels.{Stage, Cause, page_fault, guest_fault, access_fault, StageEnd, reached, stopped, Walked, single, ending, direct, levels_by}

-- ---- the access against a leaf entry (step 5, and SUM and MXR of section 4.1.1.2)

abbrev pub is_fetch : Kind → Bool
is_fetch Fetch = true
is_fetch _ = false

abbrev pub is_store : Kind → Bool
is_store Store = true
is_store _ = false

-- the page is executable, readable, or writable, as the kind asks; with MXR an executable page may be loaded from
abbrev pub allows : Kind → Bool → ℕ → Bool
allows Fetch mxr e = X e
allows Load mxr e = R e || mxr && X e
allows Store mxr e = W e

-- U-mode uses the pages of U-mode alone; S-mode uses the others, and with SUM also those of U-mode, though never to fetch
abbrev pub serves : Kind → Bool → Bool → ℕ → Bool
serves kind user sum e = if user then U e else (not (U e) || sum && not (is_fetch kind))

abbrev pub sv39_stage : Bool → Bool → Access → Stage
sv39_stage sum mxr a = record {
  bits = 9;
  bytes = 8;
  cause = page_fault;
  permits = λ e. serves a.kind a.user sum e && allows a.kind mxr e;
  stores = is_store a.kind;
}

-- ---- the walk

-- the virtual page number of level i
abbrev pub index : ℕ → ℕ → ℕ
index x i = field (20 + 9 * i) (12 + 9 * i) x

-- bits 63 to 39 are all equal to bit 38 (section 4.4.1)
abbrev pub canonical : ℕ → Bool
canonical va = field 63 38 va == 0 || field 63 38 va == 2 ^ 26 - 1

-- Bare where satp is 0: the address itself, of 56 bits. Else three levels, from the table that satp names.
abbrev pub sv39_walk : Sv39Setting → Memory → Access → Walked
sv39_walk s m a =
    if s.satp == 0 then
    (if not (field 63 56 a.va == 0) then ending (stopped access_fault) else ending (reached a.va 12))
    else if not (canonical a.va) then ending (stopped page_fault)
    else levels_by single (sv39_stage s.sum s.mxr a) (direct m) a.va (index a.va) 3 (field 43 0 s.satp * 4096)

-- ---- the end, with the code of the exception (table 4.2, and table 8.7 for guest-page faults)

abbrev pub code_of : Cause → Kind → ℕ
code_of access_fault Fetch = 1
code_of access_fault Load = 5
code_of access_fault Store = 7
code_of page_fault Fetch = 12
code_of page_fault Load = 13
code_of page_fault Store = 15
code_of guest_fault Fetch = 20
code_of guest_fault Load = 21
code_of guest_fault Store = 23

abbrev pub end_of : Kind → StageEnd → ManualEnd
end_of k (reached a p) = Page a p
end_of k (stopped c) = Fault (code_of c k)
