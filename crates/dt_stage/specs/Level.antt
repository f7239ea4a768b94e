-- One level of a stage, as nodes: the entry is read, and then judged.
use Rattle.std.specs.Prelude.{ℕ, ◌+◌, ◌*◌, List, [], ◌∷◌}
use Rattle.dt_lex.specs.declared.name.Name.{Name}
use Rattle.dt_model.specs.ModelData.{Tree, tree_of, ActData, var, read, branch, NodeData}
use Rattle.dt_stage.specs.Trees.{bit, part, no, both, either, is}
use Rattle.dt_stage.specs.declared.levels.Level.{Level as Found}
use Rattle.dt_stage.specs.declared.levels.Place.{Place}
use Rattle.dt_stage.specs.declared.levels.UpperNames.{UpperNames}
use Rattle.dt_stage.specs.declared.levels.LastNames.{LastNames}

-- ---- the tests of an entry e, each of one bit

-- V isn't set, or W is and R isn't
abbrev pub bad_flags : Tree → Tree
bad_flags e = either (no (bit 0 e)) (both (no (bit 1 e)) (bit 2 e))

-- a reserved bit, or the reserved memory type
abbrev pub is_reserved : Tree → Tree
is_reserved e = either (no (is (part 60 54 e) 7 0)) (is (part 62 61 e) 2 3)

-- the entry isn't valid, or has a reserved bit or encoding
abbrev pub invalid : Tree → Tree
invalid e = either (bad_flags e) (is_reserved e)

-- it is a pointer
abbrev pub points : Tree → Tree
points e = both (no (bit 1 e)) (no (bit 3 e))

-- N or a memory type
abbrev pub has_high : Tree → Tree
has_high e = either (bit 63 e) (no (is (part 62 61 e) 2 0))

-- a pointer with U, A, D, N or a memory type
abbrev pub bad_pointer : Tree → Tree
bad_pointer e = either (bit 4 e) (either (bit 6 e) (either (bit 7 e) (has_high e)))

-- A isn't set, or the access stores and D isn't set
abbrev pub stale : Tree → Tree → Tree
stale stores e = either (no (bit 6 e)) (both stores (no (bit 7 e)))

-- a part of the page number below level i + 1
abbrev pub is_misaligned : ℕ → Tree → Tree
is_misaligned i e = no (is (part (18 + 9 * i) 10 e) (9 + 9 * i) 0)

-- a leaf at level i + 1: N, no permission, misaligned, or stale
abbrev pub bad_upper_leaf : Tree → Tree → ℕ → Tree → Tree
bad_upper_leaf permits stores i e = either (bit 63 e) (either (no permits) (either (is_misaligned i e) (stale stores e)))

-- N for another size than 2^16 bytes
abbrev pub bad_napot : Tree → Tree
bad_napot e = both (bit 63 e) (no (is (part 13 10 e) 4 8))

-- a leaf at level 0: N for another size, no permission, or stale
abbrev pub bad_last_leaf : Tree → Tree → Tree → Tree
bad_last_leaf permits stores e = either (bad_napot e) (either (no permits) (stale stores e))

-- ---- a level

-- the variable of its entry, the entry's address and the exponent of its table's block, whether the
-- access may use the entry as a leaf and whether it stores, and the node to which a leaf leads
pub record Level : Type 0 where
  pub entry : ℕ
  pub cell : Tree
  pub granule : ℕ
  pub permits : Tree
  pub stores : Tree
  pub leaf : ℕ

-- what the code asks for
abbrev pub level_of : Found → Level
level_of l = record { entry = l.entry; cell = tree_of l.cell; granule = l.granule; permits = tree_of l.permits; stores = tree_of l.stores; leaf = l.leaf }

-- a level whose first node stands at a position, and the nodes to which it leads: where the entry
-- can't be read, where the stage faults, and, above level 0, where the next level begins
pub record Placed : Type 0 where
  pub level : Level
  pub at : ℕ
  pub unread : ℕ
  pub fault : ℕ
  pub next : ℕ

abbrev pub placed_of : Found → Place → Placed
placed_of l p = record { level = level_of l; at = p.at; unread = p.unread; fault = p.fault; next = p.next }

abbrev pub read_act : Placed → ActData
read_act p = read p.level.entry p.level.cell p.level.granule (p.at + 1) p.unread

abbrev pub invalid_act : Placed → ActData
invalid_act p = branch (invalid (var p.level.entry)) p.fault (p.at + 2)

-- ---- its nodes

abbrev pub node : Name → ActData → NodeData
node n a = record { name = n; step = a }

-- a test that goes one way or the other
abbrev pub decides : Tree → ℕ → ℕ → ActData
decides test then other = branch test then other

-- the tests of the entry in variable e, before those of a leaf: at level i + 1, and at level 0, where
-- each pointer is a fault
abbrev pub upper_tests : UpperNames → ℕ → Place → List NodeData
upper_tests n e p =
    node n.invalid (branch (invalid (var e)) p.fault (p.at + 2))
    ∷ node n.pointer (branch (points (var e)) (p.at + 3) (p.at + 4))
    ∷ node n.bad_pointer (branch (bad_pointer (var e)) p.fault p.next)
    ∷ []

abbrev pub last_tests : LastNames → ℕ → Place → List NodeData
last_tests n e p =
    node n.invalid (branch (invalid (var e)) p.fault (p.at + 2))
    ∷ node n.pointer (branch (points (var e)) p.fault (p.at + 3))
    ∷ []

-- level i + 1
abbrev pub upper_nodes : UpperNames → ℕ → Placed → List NodeData
upper_nodes n i p =
    node n.read (read_act p)
    ∷ node n.invalid (invalid_act p)
    ∷ node n.pointer (branch (points (var p.level.entry)) (p.at + 3) (p.at + 4))
    ∷ node n.bad_pointer (branch (bad_pointer (var p.level.entry)) p.fault p.next)
    ∷ node n.bad_leaf (branch (bad_upper_leaf p.level.permits p.level.stores i (var p.level.entry)) p.fault p.level.leaf)
    ∷ []

-- level 0, where each pointer is a fault
abbrev pub last_nodes : LastNames → Placed → List NodeData
last_nodes n p =
    node n.read (read_act p)
    ∷ node n.invalid (invalid_act p)
    ∷ node n.pointer (branch (points (var p.level.entry)) p.fault (p.at + 3))
    ∷ node n.bad_leaf (branch (bad_last_leaf p.level.permits p.level.stores (var p.level.entry)) p.fault p.level.leaf)
    ∷ []
