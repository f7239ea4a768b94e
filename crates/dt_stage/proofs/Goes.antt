-- How a walk goes on from each kind of node.
use Rattle.std.proofs.Common.{◌≡◌, ℕ, ◌+◌, ◌<◌, ◌≤◌, Bool, true, false, eqb, cond, List, length, drop, Option, Some, None, refl, sym, ap, ◌∙◌, subst, arith}
use Rattle.std.specs.Prelude.{slice_get, if◌then◌else◌}
use Rattle.dt_bits.specs.declared.value.Bv.{Bv}
use Rattle.dt_bits.specs.Memory.{word_of}
use Rattle.dt_model.specs.ModelData.{Tree, ActData, bind, read, branch, fault, done}
use Rattle.dt_walk.specs.declared.run.End.{End}
use Rattle.dt_walk.specs.declared.run.End.TheVariants.{Done, Fault}
use Rattle.dt_walk.specs.Meaning.{EnvData, Vars, bound, value_at}
use Rattle.dt_walk.specs.Sound.{IsLater}
use Rattle.dt_walk.specs.Walks.{RunData, walk_from, acted, read_of}
use Rattle.dt_walk.proofs.Walks.{here, skip}
use Rattle.dt_stage.specs.Stage.{Forward}
use Rattle.dt_stage.specs.Tells.{Graph, Told, told, ends, with_read, tells, bv, truth, after_read}

lands : (g : Graph) (n to : ℕ) (vars : Vars) → IsLater (length g.steps) n to → told (walk_from g.env g.memory (drop (n + 1) g.steps) (n + 1) to vars) ≡ tells g to vars
lands g n to vars l = ap told (skip g.env g.memory g.steps (n + 1) to vars (omega arith) l.1)

pub goes_branch : (g : Graph) → Forward g → (n : ℕ) (e : Tree) (t o : ℕ) (vars : Vars) (b : Bool) → slice_get g.steps n ≡ Some (branch e t o) → value_at g.env vars e ≡ truth b → tells g n vars ≡ (if b then tells g t vars else tells g o vars)
goes_branch g f n e t o vars b at v =
    ap told (here g.env g.memory g.steps n (branch e t o) vars at)
    ∙ ap (λ (x : Bv). told (walk_from g.env g.memory (drop (n + 1) g.steps) (n + 1) (if eqb x.bits 1 then t else o) vars)) v
    ∙ to_side b
  where
    to_side : (b : Bool) → told (walk_from g.env g.memory (drop (n + 1) g.steps) (n + 1) (if eqb (truth b).bits 1 then t else o) vars) ≡ (if b then tells g t vars else tells g o vars)
    to_side true = lands g n t vars (f n (branch e t o) at).2
    to_side false = lands g n o vars (f n (branch e t o) at).3

pub goes_read : (g : Graph) → Forward g → (n x : ℕ) (e : Tree) (gr t o : ℕ) (vars : Vars) (w c : ℕ) → slice_get g.steps n ≡ Some (read x e gr t o) → value_at g.env vars e ≡ bv w c → tells g n vars ≡ after_read g n c x t o vars (word_of g.memory c)
goes_read g f n x e gr t o vars w c at v =
    ap told (here g.env g.memory g.steps n (read x e gr t o) vars at)
    ∙ ap (λ (y : Bv). told (read_of (word_of g.memory y.bits) n y.bits x t o (walk_from g.env g.memory (drop (n + 1) g.steps) (n + 1)) vars)) v
    ∙ by_word (word_of g.memory c)
  where
    by_word : (q : Option ℕ) → told (read_of q n c x t o (walk_from g.env g.memory (drop (n + 1) g.steps) (n + 1)) vars) ≡ after_read g n c x t o vars q
    by_word None = lands g n o vars (f n (read x e gr t o) at).4
    by_word (Some q) = ap (with_read (record { node = n; cell = c; word = q })) (lands g n t (bound vars x q) (f n (read x e gr t o) at).3)

pub goes_bind : (g : Graph) → Forward g → (n x : ℕ) (e : Tree) (t : ℕ) (vars : Vars) (w v : ℕ) → slice_get g.steps n ≡ Some (bind x e t) → value_at g.env vars e ≡ bv w v → tells g n vars ≡ tells g t (bound vars x v)
goes_bind g f n x e t vars w v at h =
    ap told (here g.env g.memory g.steps n (bind x e t) vars at)
    ∙ ap (λ (y : Bv). told (walk_from g.env g.memory (drop (n + 1) g.steps) (n + 1) t (bound vars x y.bits))) h
    ∙ lands g n t (bound vars x v) (f n (bind x e t) at).1

pub goes_fault : (g : Graph) (n code : ℕ) (vars : Vars) → slice_get g.steps n ≡ Some (fault code) → tells g n vars ≡ ends (Fault n code)
goes_fault g n code vars at = ap told (here g.env g.memory g.steps n (fault code) vars at)

pub goes_done : (g : Graph) (n : ℕ) (e : Tree) (page : ℕ) (vars : Vars) (w pa : ℕ) → slice_get g.steps n ≡ Some (done e page) → value_at g.env vars e ≡ bv w pa → tells g n vars ≡ ends (Done n pa page)
goes_done g n e page vars w pa at v =
    ap told (here g.env g.memory g.steps n (done e page) vars at)
    ∙ ap (λ (y : Bv). ends (Done n y.bits page)) v
