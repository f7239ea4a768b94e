-- The shipped model under a setting and an access: its registers and inputs, its tests, its faults.
use Rattle.std.proofs.Common.{◌≡◌, ℕ, ◌+◌, ◌/◌, ◌%◌, Bool, true, false, not, ◌&&◌, ◌||◌, eqb, List, length, refl, sym, ap, ◌∙◌, subst, arith}
use Rattle.std.specs.Prelude.{if◌then◌else◌, ◌++◌}
use Rattle.dt_bits.specs.Memory.{Memory}
use Rattle.dt_model.specs.ModelData.{NodeData, var}
use Rattle.dt_model.specs.Faults.{steps}
use Rattle.dt_walk.specs.declared.run.End.TheVariants.{Fault}
use Rattle.dt_walk.specs.Meaning.{EnvData, env_of, Vars}
use Rattle.dt_manual.specs.declared.access.Kind.{Kind}
use Rattle.dt_manual.specs.declared.access.Kind.TheVariants.{Fetch, Load, Store}
use Rattle.dt_manual.specs.declared.access.Access.{Access}
use Rattle.dt_manual.specs.declared.access.Sv39Setting.{Sv39Setting}
use Rattle.dt_manual.specs.Entry.{R, W, X}
use Rattle.dt_manual.specs.Levels.{Cause, page_fault, access_fault, Stage}
use Rattle.dt_manual.specs.Sv39.{is_fetch, is_store, allows, serves, sv39_stage, code_of}
use Rattle.dt_stage.specs.Level.{Level}
use Rattle.dt_stage.specs.Stage.{StandFrom, Forward, Tested, stage_nodes}
use Rattle.dt_stage.specs.Tells.{Graph, Told, ends, tells}
use Rattle.dt_stage.specs.Trees.{is}
use Rattle.dt_stage.proofs.Goes.{goes_branch, goes_fault}
use Rattle.dt_stage.proofs.GoesByLevels.{stand_front, stand_after, stand_whole}
use Rattle.dt_stage.proofs.Values.{Has, Says, s_bit, s_no, s_both, s_either, s_is, s_choose, s_as}
use Rattle.dt_sv39.specs.Shipped as shipped
use Rattle.dt_sv39.specs.Shipped.{sv39_data}
use Rattle.dt_sv39.specs.Expected.{kind_number, regs_of, inputs_of, node_named, fault_name}
use Rattle.dt_sv39.proofs.Acceptance.{sv39_sound}

abbrev pub env : Sv39Setting → Access → EnvData
env s a = env_of sv39_data (regs_of s) (inputs_of a)

abbrev pub graph : Sv39Setting → Memory → Access → Graph
graph s m a = record { env = env s a; memory = m; steps = steps sv39_data }

pub forward : (s : Sv39Setting) (m : Memory) (a : Access) → Forward (graph s m a)
forward s m a = sv39_sound

-- the stage's nodes stand in it
abbrev behind : List NodeData
behind = shipped.results ++ (shipped.page_faults shipped.at_page_fault ++ shipped.access_faults shipped.at_access_fault)

pub stand : (s : Sv39Setting) (m : Memory) (a : Access) → StandFrom (graph s m a).steps 4 (stage_nodes shipped.stage)
stand s m a = stand_front (steps sv39_data) 4 (stage_nodes shipped.stage) behind (stand_after (steps sv39_data) 0 shipped.head (stage_nodes shipped.stage ++ behind) (stand_whole shipped.nodes))

-- ---- registers and inputs

h_kind : (s : Sv39Setting) (a : Access) (vars : Vars) → Has (env s a) vars shipped.kind 2 (kind_number a.kind)
h_kind s a vars = record { is = refl }

pub h_va : (s : Sv39Setting) (a : Access) (vars : Vars) → Has (env s a) vars shipped.va 64 a.va
h_va s a vars = record { is = refl }

pub h_satp : (s : Sv39Setting) (a : Access) (vars : Vars) → Has (env s a) vars shipped.satp 64 s.satp
h_satp s a vars = record { is = refl }

s_user : (s : Sv39Setting) (a : Access) (vars : Vars) → Says (env s a) vars shipped.user a.user
s_user s a vars = record { is = refl }

s_sum : (s : Sv39Setting) (a : Access) (vars : Vars) → Says (env s a) vars shipped.sum s.sum
s_sum s a vars = record { is = refl }

s_mxr : (s : Sv39Setting) (a : Access) (vars : Vars) → Says (env s a) vars shipped.mxr s.mxr
s_mxr s a vars = record { is = refl }

-- ---- what a leaf entry permits

pub fetches : (k : Kind) → eqb (kind_number k) 0 ≡ is_fetch k
fetches Fetch = refl
fetches Load = refl
fetches Store = refl

pub storing : (k : Kind) → eqb (kind_number k) 2 ≡ is_store k
storing Fetch = refl
storing Load = refl
storing Store = refl

pub allowing : (k : Kind) (mxr : Bool) (e : ℕ) → (if eqb (kind_number k) 0 then X e else (if eqb (kind_number k) 2 then W e else (R e || mxr && X e))) ≡ allows k mxr e
allowing Fetch mxr e = refl
allowing Load mxr e = refl
allowing Store mxr e = refl

abbrev pub stage_of : Sv39Setting → Access → Stage
stage_of s a = sv39_stage s.sum s.mxr a

s_store : (s : Sv39Setting) (a : Access) (vars : Vars) → Says (env s a) vars shipped.is_store (is_store a.kind)
s_store s a vars = s_as (s_is 2 2 (h_kind s a vars)) (storing a.kind)

s_permits : (s : Sv39Setting) (a : Access) (x : ℕ) (vars : Vars) (e : ℕ) → Has (env s a) vars (var x) 64 e → Says (env s a) vars (shipped.permits (var x)) ((stage_of s a).permits e)
s_permits s a x vars e h =
    let fetch = s_is 2 0 (h_kind s a vars) in
    let store = s_is 2 2 (h_kind s a vars) in
    s_both
    (s_choose (s_user s a vars) (s_bit 4 h) (s_either (s_no (s_bit 4 h)) (s_both (s_sum s a vars) (s_no (s_as fetch (fetches a.kind))))))
    (s_as (s_choose fetch (s_bit 3 h) (s_choose store (s_bit 2 h) (s_either (s_bit 1 h) (s_both (s_mxr s a vars) (s_bit 3 h))))) (allowing a.kind s.mxr e))

pub tested_2 : (s : Sv39Setting) (a : Access) → Tested (env s a) shipped.stage.level2 (stage_of s a)
tested_2 s a = record { wide = refl; may = s_permits s a 0; store = s_store s a }

pub tested_1 : (s : Sv39Setting) (a : Access) → Tested (env s a) shipped.stage.level1 (stage_of s a)
tested_1 s a = record { wide = refl; may = s_permits s a 1; store = s_store s a }

pub tested_0 : (s : Sv39Setting) (a : Access) → Tested (env s a) shipped.stage.level0 (stage_of s a)
tested_0 s a = record { wide = refl; may = s_permits s a 2; store = s_store s a }

-- ---- faults

pub page_faults : (s : Sv39Setting) (m : Memory) (a : Access) (vars : Vars) → tells (graph s m a) 23 vars ≡ ends (Fault (node_named sv39_data (fault_name page_fault a.kind)) (code_of page_fault a.kind))
page_faults s m a vars =
    goes_branch (graph s m a) (forward s m a) 23 (is shipped.kind 2 0) 24 25 vars (eqb (kind_number a.kind) 0) refl (s_is 2 0 (h_kind s a vars)).is
    ∙ ap (λ t. if eqb (kind_number a.kind) 0 then tells (graph s m a) 24 vars else t) (goes_branch (graph s m a) (forward s m a) 25 (is shipped.kind 2 1) 26 27 vars (eqb (kind_number a.kind) 1) refl (s_is 2 1 (h_kind s a vars)).is)
    ∙ by a.kind
  where
    by : (k : Kind) → (if eqb (kind_number k) 0 then tells (graph s m a) 24 vars else (if eqb (kind_number k) 1 then tells (graph s m a) 26 vars else tells (graph s m a) 27 vars)) ≡ ends (Fault (node_named sv39_data (fault_name page_fault k)) (code_of page_fault k))
    by Fetch = goes_fault (graph s m a) 24 12 vars refl
    by Load = goes_fault (graph s m a) 26 13 vars refl
    by Store = goes_fault (graph s m a) 27 15 vars refl

pub access_faults : (s : Sv39Setting) (m : Memory) (a : Access) (vars : Vars) → tells (graph s m a) 28 vars ≡ ends (Fault (node_named sv39_data (fault_name access_fault a.kind)) (code_of access_fault a.kind))
access_faults s m a vars =
    goes_branch (graph s m a) (forward s m a) 28 (is shipped.kind 2 0) 29 30 vars (eqb (kind_number a.kind) 0) refl (s_is 2 0 (h_kind s a vars)).is
    ∙ ap (λ t. if eqb (kind_number a.kind) 0 then tells (graph s m a) 29 vars else t) (goes_branch (graph s m a) (forward s m a) 30 (is shipped.kind 2 1) 31 32 vars (eqb (kind_number a.kind) 1) refl (s_is 2 1 (h_kind s a vars)).is)
    ∙ by a.kind
  where
    by : (k : Kind) → (if eqb (kind_number k) 0 then tells (graph s m a) 29 vars else (if eqb (kind_number k) 1 then tells (graph s m a) 31 vars else tells (graph s m a) 32 vars)) ≡ ends (Fault (node_named sv39_data (fault_name access_fault k)) (code_of access_fault k))
    by Fetch = goes_fault (graph s m a) 29 1 vars refl
    by Load = goes_fault (graph s m a) 31 5 vars refl
    by Store = goes_fault (graph s m a) 32 7 vars refl
