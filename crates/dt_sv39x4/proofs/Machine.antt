-- The shipped model under a setting and an access: its registers and inputs, its tests, its faults.
use Rattle.std.proofs.Common.{◌≡◌, ℕ, Bool, ◌||◌, eqb, refl, ap, ◌∙◌}
use Rattle.std.specs.Prelude.{if◌then◌else◌}
use Rattle.dt_bits.specs.Memory.{Memory}
use Rattle.dt_model.specs.ModelData.{Tree, var}
use Rattle.dt_model.specs.Faults.{steps}
use Rattle.dt_model.specs.Widths.{width_at}
use Rattle.std.proofs.Common.{Some}
use Rattle.dt_walk.specs.declared.run.End.TheVariants.{Fault}
use Rattle.dt_walk.specs.Meaning.{EnvData, env_of, Vars}
use Rattle.dt_manual.specs.declared.access.Kind.{Kind}
use Rattle.dt_manual.specs.declared.access.Kind.TheVariants.{Fetch, Load, Store}
use Rattle.dt_manual.specs.declared.access.Access.{Access}
use Rattle.dt_manual.specs.declared.access.Sv39x4Setting.{Sv39x4Setting}
use Rattle.dt_manual.specs.declared.two_stages.Use.TheVariants.{Explicit, Implicit}
use Rattle.dt_manual.specs.Levels.{page_fault, guest_fault, access_fault}
use Rattle.dt_manual.specs.Sv39.{allows, code_of}
use Rattle.dt_manual.specs.TwoStages.{g_stage, vs_stage}
use Rattle.dt_stage.specs.Stage.{Forward, Tested}
use Rattle.dt_stage.specs.Tells.{Graph, ends, tells}
use Rattle.dt_stage.specs.Trees.{is}
use Rattle.dt_stage.proofs.Goes.{goes_branch, goes_fault}
use Rattle.dt_stage.proofs.Values.{Has, Says, s_bit, s_no, s_both, s_either, s_is, s_choose, s_as}
use Rattle.dt_sv39.specs.Expected.{kind_number, inputs_of}
use Rattle.dt_sv39.specs.Shipped as sv39
use Rattle.dt_sv39.proofs.Machine.{fetches, storing, allowing}
use Rattle.dt_sv39x4.specs.declared.permission.Permission.TheVariants.{Virtual, Implicit as OfRead, Explicit as OfGuest}
use Rattle.dt_sv39x4.specs.Shipped as shipped
use Rattle.dt_sv39x4.specs.Shipped.{sv39x4_data, level}
use Rattle.dt_sv39x4.specs.Expected.{regs_of}
use Rattle.dt_sv39x4.proofs.Acceptance.{sv39x4_sound}
use Rattle.dt_sv39x4.proofs.Places.{fault_node}

abbrev pub env : Sv39x4Setting → Access → EnvData
env c a = env_of sv39x4_data (regs_of c) (inputs_of a)

abbrev pub graph : Sv39x4Setting → Memory → Access → Graph
graph c m a = record { env = env c a; memory = m; steps = steps sv39x4_data }

pub forward : (c : Sv39x4Setting) (m : Memory) (a : Access) → Forward (graph c m a)
forward c m a = sv39x4_sound

-- ---- registers and inputs

pub h_vsatp : (c : Sv39x4Setting) (a : Access) (w : Vars) → Has (env c a) w shipped.vsatp 64 c.vsatp
h_vsatp c a w = record { is = refl }

pub h_hgatp : (c : Sv39x4Setting) (a : Access) (w : Vars) → Has (env c a) w shipped.hgatp 64 c.hgatp
h_hgatp c a w = record { is = refl }

pub h_va : (c : Sv39x4Setting) (a : Access) (w : Vars) → Has (env c a) w sv39.va 64 a.va
h_va c a w = record { is = refl }

h_kind : (c : Sv39x4Setting) (a : Access) (w : Vars) → Has (env c a) w sv39.kind 2 (kind_number a.kind)
h_kind c a w = record { is = refl }

s_user : (c : Sv39x4Setting) (a : Access) (w : Vars) → Says (env c a) w sv39.user a.user
s_user c a w = record { is = refl }

s_sum : (c : Sv39x4Setting) (a : Access) (w : Vars) → Says (env c a) w shipped.sum c.sum
s_sum c a w = record { is = refl }

s_vmxr : (c : Sv39x4Setting) (a : Access) (w : Vars) → Says (env c a) w shipped.vmxr c.vmxr
s_vmxr c a w = record { is = refl }

s_hmxr : (c : Sv39x4Setting) (a : Access) (w : Vars) → Says (env c a) w shipped.hmxr c.hmxr
s_hmxr c a w = record { is = refl }

-- ---- which leaf entries may be used

s_store : (c : Sv39x4Setting) (a : Access) (w : Vars) → Says (env c a) w sv39.is_store (vs_stage c a).stores
s_store c a w = s_as (s_is 2 2 (h_kind c a w)) (storing a.kind)

s_allows : (c : Sv39x4Setting) (a : Access) (w : Vars) (mxr : Tree) (b : Bool) (t : Tree) (e : ℕ) → Says (env c a) w mxr b → Has (env c a) w t 64 e → Says (env c a) w (sv39.allows mxr t) (allows a.kind b e)
s_allows c a w mxr b t e s h =
    s_as (s_choose (s_is 2 0 (h_kind c a w)) (s_bit 3 h) (s_choose (s_is 2 2 (h_kind c a w)) (s_bit 2 h) (s_either (s_bit 1 h) (s_both s (s_bit 3 h))))) (allowing a.kind b e)

pub virtual_tested : (c : Sv39x4Setting) (a : Access) (x : ℕ) (cell : Tree) (granule leaf : ℕ) → width_at (env c a).scope.vars x ≡ Some 64 → Tested (env c a) (level Virtual x cell granule leaf) (vs_stage c a)
virtual_tested c a x cell granule leaf wide = record {
  wide = wide;
  may = λ w e h. s_both
      (s_choose (s_user c a w) (s_bit 4 h) (s_either (s_no (s_bit 4 h)) (s_both (s_sum c a w) (s_no (s_as (s_is 2 0 (h_kind c a w)) (fetches a.kind))))))
      (s_allows c a w _ (c.vmxr || c.hmxr) (var x) e (s_either (s_vmxr c a w) (s_hmxr c a w)) h);
  store = s_store c a;
}

pub read_tested : (c : Sv39x4Setting) (a : Access) (x : ℕ) (cell : Tree) (granule leaf : ℕ) → width_at (env c a).scope.vars x ≡ Some 64 → Tested (env c a) (level OfRead x cell granule leaf) (g_stage c Implicit)
read_tested c a x cell granule leaf wide = record { wide = wide; may = λ w e h. s_both (s_bit 4 h) (s_bit 1 h); store = λ w. record { is = refl } }

pub guest_tested : (c : Sv39x4Setting) (a : Access) (x : ℕ) (cell : Tree) (granule leaf : ℕ) → width_at (env c a).scope.vars x ≡ Some 64 → Tested (env c a) (level OfGuest x cell granule leaf) (g_stage c (Explicit a.kind))
guest_tested c a x cell granule leaf wide = record {
  wide = wide;
  may = λ w e h. s_both (s_bit 4 h) (s_allows c a w _ c.hmxr (var x) e (s_hmxr c a w) h);
  store = s_store c a;
}

-- ---- faults

pub page_faults : (c : Sv39x4Setting) (m : Memory) (a : Access) (w : Vars) → tells (graph c m a) 136 w ≡ ends (Fault (fault_node page_fault a.kind) (code_of page_fault a.kind))
page_faults c m a w =
    goes_branch (graph c m a) (forward c m a) 136 (is sv39.kind 2 0) 137 138 w (eqb (kind_number a.kind) 0) refl (s_is 2 0 (h_kind c a w)).is
    ∙ ap (λ t. if eqb (kind_number a.kind) 0 then tells (graph c m a) 137 w else t) (goes_branch (graph c m a) (forward c m a) 138 (is sv39.kind 2 1) 139 140 w (eqb (kind_number a.kind) 1) refl (s_is 2 1 (h_kind c a w)).is)
    ∙ by a.kind
  where
    by : (k : Kind) → (if eqb (kind_number k) 0 then tells (graph c m a) 137 w else (if eqb (kind_number k) 1 then tells (graph c m a) 139 w else tells (graph c m a) 140 w)) ≡ ends (Fault (fault_node page_fault k) (code_of page_fault k))
    by Fetch = goes_fault (graph c m a) 137 12 w refl
    by Load = goes_fault (graph c m a) 139 13 w refl
    by Store = goes_fault (graph c m a) 140 15 w refl

pub access_faults : (c : Sv39x4Setting) (m : Memory) (a : Access) (w : Vars) → tells (graph c m a) 141 w ≡ ends (Fault (fault_node access_fault a.kind) (code_of access_fault a.kind))
access_faults c m a w =
    goes_branch (graph c m a) (forward c m a) 141 (is sv39.kind 2 0) 142 143 w (eqb (kind_number a.kind) 0) refl (s_is 2 0 (h_kind c a w)).is
    ∙ ap (λ t. if eqb (kind_number a.kind) 0 then tells (graph c m a) 142 w else t) (goes_branch (graph c m a) (forward c m a) 143 (is sv39.kind 2 1) 144 145 w (eqb (kind_number a.kind) 1) refl (s_is 2 1 (h_kind c a w)).is)
    ∙ by a.kind
  where
    by : (k : Kind) → (if eqb (kind_number k) 0 then tells (graph c m a) 142 w else (if eqb (kind_number k) 1 then tells (graph c m a) 144 w else tells (graph c m a) 145 w)) ≡ ends (Fault (fault_node access_fault k) (code_of access_fault k))
    by Fetch = goes_fault (graph c m a) 142 1 w refl
    by Load = goes_fault (graph c m a) 144 5 w refl
    by Store = goes_fault (graph c m a) 145 7 w refl

pub guest_faults : (c : Sv39x4Setting) (m : Memory) (a : Access) (w : Vars) → tells (graph c m a) 146 w ≡ ends (Fault (fault_node guest_fault a.kind) (code_of guest_fault a.kind))
guest_faults c m a w =
    goes_branch (graph c m a) (forward c m a) 146 (is sv39.kind 2 0) 147 148 w (eqb (kind_number a.kind) 0) refl (s_is 2 0 (h_kind c a w)).is
    ∙ ap (λ t. if eqb (kind_number a.kind) 0 then tells (graph c m a) 147 w else t) (goes_branch (graph c m a) (forward c m a) 148 (is sv39.kind 2 1) 149 150 w (eqb (kind_number a.kind) 1) refl (s_is 2 1 (h_kind c a w)).is)
    ∙ by a.kind
  where
    by : (k : Kind) → (if eqb (kind_number k) 0 then tells (graph c m a) 147 w else (if eqb (kind_number k) 1 then tells (graph c m a) 149 w else tells (graph c m a) 150 w)) ≡ ends (Fault (fault_node guest_fault k) (code_of guest_fault k))
    by Fetch = goes_fault (graph c m a) 147 20 w refl
    by Load = goes_fault (graph c m a) 149 21 w refl
    by Store = goes_fault (graph c m a) 150 23 w refl
