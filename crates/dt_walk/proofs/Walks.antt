-- A walk that goes on, and what it did before.
use Rattle.std.proofs.Common.{◌≡◌, ℕ, zero, suc, ◌+◌, ◌-◌, ◌<◌, ◌≤◌, List, [], ◌∷◌, length, get_or, drop, Some, true, false, eqb, cond, refl, sym, ap, ◌∙◌, subst, arith}
use Rattle.std.specs.Prelude.{slice_get}
use Rattle.std.proofs.lemmas.Bool.{ne_eqb, eq-eqb}
use Rattle.std.proofs.lemmas.List.{drop_more, length-map}
use Rattle.dt_model.specs.declared.model.Node.{Node}
use Rattle.dt_model.specs.Flow.{steps_of}
use Rattle.dt_model.specs.ModelData.{ActData, fault}
use Rattle.dt_bits.specs.Memory.{Memory}
use Rattle.dt_walk.specs.Meaning.{EnvData, Vars}
use Rattle.dt_walk.specs.Walks.{acted, walk_from}

-- what is left from an element on
pub drop_at_step : (ps : List ActData) (k : ℕ) (p : ActData) → slice_get ps k ≡ Some p → drop k ps ≡ p ∷ drop (k + 1) ps
drop_at_step [] k p e = cc
drop_at_step (q ∷ ps) zero p e = let s : q ≡ p = cc in ap (λ (t : ActData). t ∷ ps) s
drop_at_step (q ∷ ps) (suc k) p e = let m : suc (k + 1) ≡ suc k + 1 = omega arith in subst (λ j. drop (suc k) (q ∷ ps) ≡ p ∷ drop j (q ∷ ps)) m (drop_at_step ps k p e)

-- the node that is waited for
pub here : (s : EnvData) (m : Memory) (ps : List ActData) (k : ℕ) (p : ActData) (vars : Vars) → slice_get ps k ≡ Some p → walk_from s m (drop k ps) k k vars ≡ acted s m k p (walk_from s m (drop (k + 1) ps) (k + 1)) vars
here s m ps k p vars e =
    let t : eqb k k ≡ true = eq-eqb k k refl in
    ap (λ (l : List ActData). walk_from s m l k k vars) (drop_at_step ps k p e) ∙ ap (λ b. cond b (acted s m k p (walk_from s m (drop (k + 1) ps) (k + 1)) vars) (walk_from s m (drop (k + 1) ps) (k + 1) k vars)) t

-- nodes before the one that is waited for
skip_some : (s : EnvData) (m : Memory) (ps : List ActData) (n k : ℕ) (vars : Vars) → n + k < length ps → walk_from s m (drop k ps) k (n + k) vars ≡ walk_from s m (drop (n + k) ps) (n + k) (n + k) vars
skip_some s m ps zero k vars l = let e : 0 + k ≡ k = omega arith in subst (λ j. walk_from s m (drop k ps) k j vars ≡ walk_from s m (drop j ps) j j vars) (sym e) refl
skip_some s m ps (suc n) k vars l =
    let d : drop k ps ≡ get_or ps k (fault 0) ∷ drop (k + 1) ps = drop_more ps k (fault 0) (omega arith) in
    let t : eqb k (suc n + k) ≡ false = ne_eqb _ _ (λ e. omega arith) in
    let e : n + (k + 1) ≡ suc n + k = omega arith in
    ap (λ (q : List ActData). walk_from s m q k (suc n + k) vars) d
    ∙ ap (λ b. cond b (acted s m k (get_or ps k (fault 0)) (walk_from s m (drop (k + 1) ps) (k + 1)) vars) (walk_from s m (drop (k + 1) ps) (k + 1) (suc n + k) vars)) t
    ∙ subst (λ j. walk_from s m (drop (k + 1) ps) (k + 1) j vars ≡ walk_from s m (drop j ps) j j vars) e (skip_some s m ps n (k + 1) vars (omega arith))

pub skip : (s : EnvData) (m : Memory) (ps : List ActData) (k to : ℕ) (vars : Vars) → k ≤ to → to < length ps → walk_from s m (drop k ps) k to vars ≡ walk_from s m (drop to ps) to to vars
skip s m ps k to vars h l = let e : to - k + k ≡ to = omega arith in subst (λ j. walk_from s m (drop k ps) k j vars ≡ walk_from s m (drop j ps) j j vars) e (skip_some s m ps (to - k) k vars (omega arith))

pub length_steps : (nodes : List Node) → length (steps_of nodes) ≡ length nodes
length_steps nodes = length-map nodes _
