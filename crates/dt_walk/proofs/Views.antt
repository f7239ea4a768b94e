-- What is env of an accepted model stands for its data.
use Rattle.std.proofs.Common.{◌≡◌, ℕ, List, length, sym, ap, ◌∙◌, subst}
use Rattle.std.proofs.lemmas.List.{length-map}
use Rattle.std.proofs.lemmas.Simd.{map-map}
use Rattle.dt_bits.specs.Memory.{Memory}
use Rattle.dt_model.specs.declared.model.Node.{Node}
use Rattle.dt_model.specs.declared.model.Model.{Model}
use Rattle.dt_model.specs.declared.model.Named.{Named}
use Rattle.dt_model.specs.ModelData.{ModelData, ActData, NodeData, node_of, data_of}
use Rattle.dt_model.specs.Flow.{steps_of}
use Rattle.dt_model.specs.Widths.{Scope}
use Rattle.dt_model.specs.Faults.{IsAccepted, HaveArities, node_scope, steps}
use Rattle.dt_walk.specs.Meaning.{unbound}
use Rattle.dt_walk.specs.Walks.{walk_from, walk_of}
use Rattle.dt_walk.specs.Sound.{AreSound}
use Rattle.dt_walk.proofs.Sound.{accepted_sound}

-- the names and nodes are those of the model
pub record Stands (d : ModelData) (regs inputs vars : List Named) (nodes : List Node) : Type 0 where
  pub scope : record { regs = regs; inputs = inputs; vars = vars } ≡ node_scope d
  pub steps : steps_of nodes ≡ steps d
  pub count : length nodes ≡ length d.nodes

pub view_steps : (m : Model) (d : ModelData) (nodes : List Node) → data_of m ≡ d → nodes ≡ m.nodes → steps_of nodes ≡ steps d
view_steps m d nodes e n = ap steps_of n ∙ sym (map-map (λ (s : NodeData). s.step) node_of m.nodes) ∙ ap steps e

pub stands : (m : Model) (d : ModelData) (regs inputs vars : List Named) (nodes : List Node) → data_of m ≡ d → regs ≡ m.regs → inputs ≡ m.inputs → vars ≡ m.vars → nodes ≡ m.nodes → Stands d regs inputs vars nodes
stands m d regs inputs vars nodes e r i v n = record {
  scope = (cc);
  steps = view_steps m d nodes e n;
  count = ap length n ∙ sym (length-map m.nodes node_of) ∙ ap (λ (x : ModelData). length x.nodes) e;
}

pub view_sound : (d : ModelData) (regs inputs vars : List Named) (nodes : List Node) (w : ℕ) → Stands d regs inputs vars nodes → d.word ≡ w → IsAccepted d → HaveArities d → AreSound (record { regs = regs; inputs = inputs; vars = vars }) w (steps_of nodes)
view_sound d regs inputs vars nodes w s e a h =
    subst (λ (c : Scope). AreSound c w (steps_of nodes)) (sym s.scope)
    (subst (λ (ps : List ActData). AreSound (node_scope d) w ps) (sym s.steps)
    (subst (λ n. AreSound (node_scope d) n (steps d)) e (accepted_sound d a h)))

pub view_walk : (d : ModelData) (regs inputs vars : List Named) (nodes : List Node) (rs is : List ℕ) (m : Memory) → Stands d regs inputs vars nodes → walk_from (record { scope = record { regs = regs; inputs = inputs; vars = vars }; regs = rs; inputs = is }) m (steps_of nodes) 0 0 unbound ≡ walk_of d rs is m
view_walk d regs inputs vars nodes rs is m s =
    ap (λ (c : Scope). walk_from (record { scope = c; regs = rs; inputs = is }) m (steps_of nodes) 0 0 unbound) s.scope
    ∙ ap (λ (ps : List ActData). walk_from (record { scope = node_scope d; regs = rs; inputs = is }) m ps 0 0 unbound) s.steps
