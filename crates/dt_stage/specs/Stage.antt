-- A stage of three levels, as nodes, and what these owe: they go on at the given exits as the stage's walk by level says, with the same entries read.
use Rattle.std.specs.Prelude.{ℕ, ◌≡◌, ◌+◌, ◌*◌, Bool, true, List, ◌++◌, length, map, Some, slice_get}
use Rattle.dt_model.specs.ModelData.{ActData, NodeData, node_of, var}
use Rattle.dt_model.specs.Widths.{width_at}
use Rattle.dt_walk.specs.Meaning.{EnvData, Vars, bound}
use Rattle.dt_walk.specs.Sound.{AreSound}
use Rattle.dt_manual.specs.Entry.{leaf, judged, table_at, led, page_of}
use Rattle.dt_manual.specs.Levels.{Part, Walked, Stage, StageEnd, Fetched, reached, stopped, access_fault, fetched, direct, levels_by}
use Rattle.dt_stage.specs.Level.{Level, level_of, Placed, upper_nodes, last_nodes}
use Rattle.dt_stage.specs.Parts.{goes}
use Rattle.dt_stage.specs.Tells.{Graph, Told, tells}
use Rattle.dt_stage.specs.Values.{Has, Says}
use Rattle.dt_stage.specs.declared.stages.StageNames.{StageNames}
use Rattle.dt_stage.specs.declared.stages.StagePlan.{StagePlan}

-- ---- its nodes

-- the names, the first position, the levels from the top, the nodes that find each entry's address
-- before it is read, and the nodes for an entry that can't be read and for the stage's fault
pub record Shape : Type 0 where
  pub names : StageNames
  pub at : ℕ
  pub level2 : Level
  pub level1 : Level
  pub level0 : Level
  pub fetch2 : List NodeData
  pub fetch1 : List NodeData
  pub fetch0 : List NodeData
  pub unread : ℕ
  pub fault : ℕ

-- what the code asks for
abbrev pub shape_of : StagePlan → Shape
shape_of p = record {
  names = p.names;
  at = p.at;
  level2 = level_of p.level2;
  level1 = level_of p.level1;
  level0 = level_of p.level0;
  fetch2 = map node_of p.fetch2.items;
  fetch1 = map node_of p.fetch1.items;
  fetch0 = map node_of p.fetch0.items;
  unread = p.unread;
  fault = p.fault;
}

-- where the levels stand, the reads first
abbrev pub at_2 : Shape → ℕ
at_2 s = s.at + length s.fetch2

abbrev pub at_1 : Shape → ℕ
at_1 s = at_2 s + 5 + length s.fetch1

abbrev pub at_0 : Shape → ℕ
at_0 s = at_1 s + 5 + length s.fetch0

abbrev pub placed_2 : Shape → Placed
placed_2 s = record { level = s.level2; at = at_2 s; unread = s.unread; fault = s.fault; next = at_2 s + 5 }

abbrev pub placed_1 : Shape → Placed
placed_1 s = record { level = s.level1; at = at_1 s; unread = s.unread; fault = s.fault; next = at_1 s + 5 }

abbrev pub placed_0 : Shape → Placed
placed_0 s = record { level = s.level0; at = at_0 s; unread = s.unread; fault = s.fault; next = s.fault }

abbrev pub stage_nodes : Shape → List NodeData
stage_nodes s =
    s.fetch2 ++ (upper_nodes s.names.level2 1 (placed_2 s)
    ++ (s.fetch1 ++ (upper_nodes s.names.level1 0 (placed_1 s)
    ++ (s.fetch0 ++ last_nodes s.names.level0 (placed_0 s)))))

-- ---- a graph in which they stand

-- the graph has the acts of these nodes from a position on
abbrev pub StandFrom : List ActData → ℕ → List NodeData → Type 0
StandFrom g at nodes = (i : ℕ) (n : NodeData) → slice_get nodes i ≡ Some n → slice_get g (at + i) ≡ Some n.step

-- each edge of the graph leads to a later node of it, and expressions have their widths
abbrev pub Forward : Graph → Type 0
Forward g = AreSound g.env.scope 64 g.steps

-- a level's tests say what the stage permits, and whether the access stores
pub record Tested (s : EnvData) (l : Level) (st : Stage) : Type 0 where
  pub wide : width_at s.scope.vars l.entry ≡ Some 64
  pub may : (vars : Vars) (e : ℕ) → Has s vars (var l.entry) 64 e → Says s vars l.permits (st.permits e)
  pub store : (vars : Vars) → Says s vars l.stores st.stores

-- the same stage, with tables of 2^9 entries
abbrev pub nine_bits : Stage → Stage
nine_bits st = record { bits = 9; bytes = st.bytes; cause = st.cause; permits = st.permits; stores = st.stores }

-- from a level's read on, whatever address it has; `keeps` is what the exits need of a map
abbrev pub ReadsAs : Graph → Part → Stage → ℕ → ℕ → Placed → (Part → ℕ → ℕ) → (Vars → Bool) → (StageEnd → Told) → (ℕ → Walked) → Type 0
ReadsAs g part st i x p nodes keeps k next =
    (v : Vars) (a : ℕ) → keeps v ≡ true → Has g.env v p.level.cell 56 a → tells g p.at v ≡ goes nodes k (fetched part (nine_bits st) i x next (direct g.memory i a))

-- The stage's nodes stand in a graph. Before a read, its fetch's nodes find the address that the
-- stage's fetch says, and go on at the read. An exit tells what comes after its end (`k`), from every
-- map that has what the exits need, which the entries leave as it was.
pub record StageStands (g : Graph) (s : Shape) (st : Stage) (part : Part) (x table : ℕ) (index : ℕ → ℕ) (fetch : ℕ → ℕ → Fetched) (nodes : Part → ℕ → ℕ) (keeps : Vars → Bool) (k : StageEnd → Told) : Type 0 where
  pub stand : StandFrom g.steps s.at (stage_nodes s)
  pub tested2 : Tested g.env s.level2 st
  pub tested1 : Tested g.env s.level1 st
  pub tested0 : Tested g.env s.level0 st
  pub node2 : nodes part 2 ≡ at_2 s
  pub node1 : nodes part 1 ≡ at_1 s
  pub node0 : nodes part 0 ≡ at_0 s
  pub keep2 : (w : Vars) (e : ℕ) → keeps w ≡ true → keeps (bound w s.level2.entry e) ≡ true
  pub keep1 : (w : Vars) (e : ℕ) → keeps w ≡ true → keeps (bound w s.level1.entry e) ≡ true
  pub keep0 : (w : Vars) (e : ℕ) → keeps w ≡ true → keeps (bound w s.level0.entry e) ≡ true
  pub fetch2 : (w : Vars) (next : ℕ → Walked) → keeps w ≡ true → ReadsAs g part st 2 x (placed_2 s) nodes keeps k next → tells g s.at w ≡ goes nodes k (fetched part (nine_bits st) 2 x next (fetch 2 (table + index 2 * st.bytes)))
  pub fetch1 : (w : Vars) (e : ℕ) (next : ℕ → Walked) → keeps w ≡ true → w s.level2.entry ≡ e → ReadsAs g part st 1 x (placed_1 s) nodes keeps k next → tells g (at_2 s + 5) w ≡ goes nodes k (fetched part (nine_bits st) 1 x next (fetch 1 (table_at e + index 1 * st.bytes)))
  pub fetch0 : (w : Vars) (e : ℕ) (next : ℕ → Walked) → keeps w ≡ true → w s.level1.entry ≡ e → ReadsAs g part st 0 x (placed_0 s) nodes keeps k next → tells g (at_1 s + 5) w ≡ goes nodes k (fetched part (nine_bits st) 0 x next (fetch 0 (table_at e + index 0 * st.bytes)))
  pub unread : (w : Vars) → keeps w ≡ true → tells g s.unread w ≡ k (stopped access_fault)
  pub fault : (w : Vars) → keeps w ≡ true → tells g s.fault w ≡ k (stopped st.cause)
  pub leaf2 : (w : Vars) (e : ℕ) → keeps w ≡ true → w s.level2.entry ≡ e → judged st.permits st.stores 9 2 e ≡ leaf → tells g s.level2.leaf w ≡ k (reached (led 9 2 e x) (page_of 9 2 e))
  pub leaf1 : (w : Vars) (e : ℕ) → keeps w ≡ true → w s.level1.entry ≡ e → judged st.permits st.stores 9 1 e ≡ leaf → tells g s.level1.leaf w ≡ k (reached (led 9 1 e x) (page_of 9 1 e))
  pub leaf0 : (w : Vars) (e : ℕ) → keeps w ≡ true → w s.level0.entry ≡ e → judged st.permits st.stores 9 0 e ≡ leaf → tells g s.level0.leaf w ≡ k (reached (led 9 0 e x) (page_of 9 0 e))

-- ---- what they owe

-- In every graph in which the stage's nodes stand, from every map that has what the exits need, they
-- go on at the exits as the walk by level says, with the same entries read, each at its level's read.
abbrev pub GoesByLevels : Shape → Type 0
GoesByLevels s =
    (g : Graph) (st : Stage) (part : Part) (x table : ℕ) (index : ℕ → ℕ) (fetch : ℕ → ℕ → Fetched) (nodes : Part → ℕ → ℕ) (keeps : Vars → Bool) (k : StageEnd → Told)
    → Forward g → StageStands g s st part x table index fetch nodes keeps k
    → (w : Vars) → keeps w ≡ true → tells g s.at w ≡ goes nodes k (levels_by part (nine_bits st) fetch x index 3 table)
