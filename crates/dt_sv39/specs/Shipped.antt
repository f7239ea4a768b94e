-- The shipped model of Sv39, as plain data.
use Rattle.std.specs.Prelude.{ℕ, ◌+◌, List, [], ◌∷◌, ◌++◌, codes}
use Rattle.dt_lex.specs.Names.{padded_name}
use Rattle.dt_model.specs.declared.model.Named.{Named}
use Rattle.dt_model.specs.ModelData.{ModelData, Tree, value, reg, input, var, ActData, branch, fault, done, NodeData}
use Rattle.dt_stage.specs.declared.levels.LastNames.{LastNames}
use Rattle.dt_stage.specs.declared.levels.UpperNames.{UpperNames}
use Rattle.dt_stage.specs.declared.stages.StageNames.{StageNames}
use Rattle.dt_stage.specs.Level.{Level, node}
use Rattle.dt_stage.specs.Stage.{Shape, stage_nodes}
use Rattle.dt_stage.specs.Trees.{bit, part, no, both, either, is, joined, choose}

abbrev pub named : List ℕ → ℕ → Named
named n w = record { name = padded_name n; width = w }

abbrev pub acts : List ℕ → ActData → NodeData
acts n a = node (padded_name n) a

-- ---- registers, inputs and variables, by their positions

abbrev pub satp : Tree
satp = reg 0

abbrev pub sum : Tree
sum = reg 1

abbrev pub mxr : Tree
mxr = reg 2

abbrev pub va : Tree
va = input 0

-- 0 for a fetch, 1 for a load, 2 for a store
abbrev pub kind : Tree
kind = input 1

-- 1 in U-mode, 0 in S-mode
abbrev pub user : Tree
user = input 2

-- ---- where nodes stand

abbrev pub at_dbare : ℕ
at_dbare = 2

abbrev pub at_stage : ℕ
at_stage = 4

abbrev pub at_d30 : ℕ
at_d30 = 18

abbrev pub at_d21 : ℕ
at_d21 = 19

abbrev pub at_napot : ℕ
at_napot = 20

abbrev pub at_d16 : ℕ
at_d16 = 21

abbrev pub at_d12 : ℕ
at_d12 = 22

abbrev pub at_page_fault : ℕ
at_page_fault = 23

abbrev pub at_access_fault : ℕ
at_access_fault = 28

-- ---- before the first table

-- satp is 0
abbrev pub is_bare : Tree
is_bare = is satp 64 0

-- bits 63 to 38 of the address are all equal
abbrev pub is_sign_extended : Tree
is_sign_extended = either (is (part 63 38 va) 26 0) (is (part 63 38 va) 26 67108863)

abbrev pub head : List NodeData
head =
    acts (codes "mode") (branch is_bare 1 3)
    ∷ acts (codes "bare") (branch (is (part 63 56 va) 8 0) at_dbare at_access_fault)
    ∷ acts (codes "dbare") (done (part 55 0 va) 12)
    ∷ acts (codes "sign") (branch is_sign_extended at_stage at_page_fault)
    ∷ []

-- ---- the tables

abbrev pub is_store : Tree
is_store = is kind 2 2

-- the mode may use the page: U and, in S-mode, this SUM
abbrev pub serves : Tree → Tree → Tree
serves sum e = choose user (bit 4 e) (either (no (bit 4 e)) (both sum (no (is kind 2 0))))

-- the page is executable, writable or readable as the kind asks, or executable with this MXR
abbrev pub allows : Tree → Tree → Tree
allows mxr e = choose (is kind 2 0) (bit 3 e) (choose is_store (bit 2 e) (either (bit 1 e) (both mxr (bit 3 e))))

abbrev pub permits : Tree → Tree
permits e = both (serves sum e) (allows mxr e)

-- the entry of this index in the table of this page number
abbrev pub entry_at : Tree → Tree → Tree
entry_at ppn index = joined ppn (joined index (value 3 0))

-- a level with the variable of its entry, the entry's address, and the node of its leaves
abbrev pub level : ℕ → Tree → ℕ → Level
level x cell leaf = record { entry = x; cell = cell; granule = 12; permits = permits (var x); stores = is_store; leaf = leaf }

abbrev pub upper_names : List ℕ → List ℕ → List ℕ → List ℕ → List ℕ → UpperNames
upper_names r i p b l = record { read = padded_name r; invalid = padded_name i; pointer = padded_name p; bad_pointer = padded_name b; bad_leaf = padded_name l }

abbrev pub stage_names : StageNames
stage_names = record {
  level2 = upper_names (codes "r2") (codes "invalid2") (codes "pointer2") (codes "bad_pointer2") (codes "bad_leaf2");
  level1 = upper_names (codes "r1") (codes "invalid1") (codes "pointer1") (codes "bad_pointer1") (codes "bad_leaf1");
  level0 = record { read = padded_name (codes "r0"); invalid = padded_name (codes "invalid0"); pointer = padded_name (codes "pointer0"); bad_leaf = padded_name (codes "bad_leaf0") };
}

-- the root's number is that of satp, a table's that of the pointer to it
abbrev pub stage : Shape
stage = record {
  names = stage_names;
  at = at_stage;
  level2 = level 0 (entry_at (part 43 0 satp) (part 38 30 va)) at_d30;
  level1 = level 1 (entry_at (part 53 10 (var 0)) (part 29 21 va)) at_d21;
  level0 = level 2 (entry_at (part 53 10 (var 1)) (part 20 12 va)) at_napot;
  fetch2 = [];
  fetch1 = [];
  fetch0 = [];
  unread = at_access_fault;
  fault = at_page_fault;
}

-- ---- results

-- the page number of entry x from bit lo of the entry on, above the low bits of the address
abbrev pub result : List ℕ → ℕ → ℕ → ℕ → ℕ → NodeData
result name lo x low page = acts name (done (joined (part 53 lo (var x)) (part low 0 va)) page)

abbrev pub results : List NodeData
results =
    result (codes "d30") 28 0 29 30
    ∷ result (codes "d21") 19 1 20 21
    ∷ acts (codes "napot") (branch (bit 63 (var 2)) at_d16 at_d12)
    ∷ result (codes "d16") 14 2 15 16
    ∷ result (codes "d12") 10 2 11 12
    ∷ []

-- ---- faults

-- by the kind of the access, the first node at this position
abbrev pub by_kind : List ℕ → List ℕ → List ℕ → List ℕ → List ℕ → ℕ → ℕ → ℕ → ℕ → List NodeData
by_kind n f d l s at fetch load store =
    acts n (branch (is kind 2 0) (at + 1) (at + 2))
    ∷ acts f (fault fetch)
    ∷ acts d (branch (is kind 2 1) (at + 3) (at + 4))
    ∷ acts l (fault load)
    ∷ acts s (fault store)
    ∷ []

abbrev pub page_faults : ℕ → List NodeData
page_faults at = by_kind (codes "page_fault") (codes "pf12") (codes "page_fault_data") (codes "pf13") (codes "pf15") at 12 13 15

abbrev pub access_faults : ℕ → List NodeData
access_faults at = by_kind (codes "access_fault") (codes "af1") (codes "access_fault_data") (codes "af5") (codes "af7") at 1 5 7

-- ---- the model

abbrev pub nodes : List NodeData
nodes = head ++ (stage_nodes stage ++ (results ++ (page_faults at_page_fault ++ access_faults at_access_fault)))

-- MODE is 8, or satp is 0
abbrev pub context_rule : Tree
context_rule = either (is (part 63 60 satp) 4 8) is_bare

-- the kind is one of the three
abbrev pub access_rule : Tree
access_rule = no (is kind 2 3)

-- with these registers, variables, rules of contexts and nodes: what each model of Sv39's accesses has besides
abbrev pub model_of : List Named → List Named → List Tree → List NodeData → ModelData
model_of regs vars context nodes = record {
  word = 64;
  address = 56;
  regs = regs;
  inputs = named (codes "va") 64 ∷ named (codes "kind") 2 ∷ named (codes "user") 1 ∷ [];
  vars = vars;
  legal_context = context;
  legal_access = access_rule ∷ [];
  nodes = nodes;
}

abbrev pub regs : List Named
regs = named (codes "satp") 64 ∷ named (codes "sum") 1 ∷ named (codes "mxr") 1 ∷ []

abbrev pub vars : List Named
vars = named (codes "pte2") 64 ∷ named (codes "pte1") 64 ∷ named (codes "pte0") 64 ∷ []

abbrev pub sv39_data : ModelData
sv39_data = model_of regs vars (context_rule ∷ []) nodes
