-- The shipped model of two stages, as plain data.
use Rattle.std.specs.Prelude.{ℕ, ◌+◌, List, [], ◌∷◌, ◌++◌, codes}
use Rattle.dt_model.specs.declared.model.Named.{Named}
use Rattle.dt_model.specs.ModelData.{ModelData, Tree, value, reg, var, bind, branch, done, NodeData}
use Rattle.dt_stage.specs.Level.{Level, node}
use Rattle.dt_stage.specs.Stage.{Shape, stage_nodes}
use Rattle.dt_stage.specs.Trees.{bit, part, both, either, is, joined}
use Rattle.dt_sv39.specs.Shipped.{named, acts, va, is_store, serves, allows, entry_at, is_sign_extended, by_kind, page_faults, access_faults, model_of}
use Rattle.dt_sv39x4.specs.Names.{stage_names, result_names, guest_names}
use Rattle.dt_sv39x4.specs.declared.permission.Permission.{Permission}
use Rattle.dt_sv39x4.specs.declared.permission.Permission.TheVariants.{Virtual, Implicit, Explicit}
use Rattle.dt_sv39x4.specs.declared.results.Address.{Address}
use Rattle.dt_sv39x4.specs.declared.results.Address.TheVariants.{OfAccess, OfGuest}
use Rattle.dt_sv39x4.specs.declared.results.Results.{Results}
use Rattle.dt_sv39x4.specs.declared.guest.Guest.{Guest}

-- ---- registers, by their positions

abbrev pub vsatp : Tree
vsatp = reg 0

abbrev pub hgatp : Tree
hgatp = reg 1

abbrev pub sum : Tree
sum = reg 2

abbrev pub vmxr : Tree
vmxr = reg 3

abbrev pub hmxr : Tree
hmxr = reg 4

-- ---- where nodes stand

abbrev pub at_page_fault : ℕ
at_page_fault = 136

abbrev pub at_access_fault : ℕ
at_access_fault = 141

abbrev pub at_guest_fault : ℕ
at_guest_fault = 146

-- ---- which leaf entries may be used

-- by the access in the VS-stage; by the read of an entry in the G-stage; by the access in the G-stage
abbrev pub permits : Permission → Tree → Tree
permits Virtual e = both (serves sum e) (allows (either vmxr hmxr) e)
permits Implicit e = both (bit 4 e) (bit 1 e)
permits Explicit e = both (bit 4 e) (allows hmxr e)

abbrev pub stores : Permission → Tree
stores Virtual = is_store
stores Implicit = value 1 0
stores Explicit = is_store

-- a level with the variable of its entry, the entry's address, the exponent of its table's block, and the node of its leaves
abbrev pub level : Permission → ℕ → Tree → ℕ → ℕ → Level
level p x cell granule leaf = record { entry = x; cell = cell; granule = granule; permits = permits p (var x); stores = stores p; leaf = leaf }

-- ---- the results of a stage

-- the address that a stage leads: of the access, or of the guest, which a variable holds
abbrev pub leads : Address → Tree
leads OfAccess = va
leads (OfGuest x) = var x

-- an address of 56 bits as one of 64
abbrev pub wide : Tree → Tree
wide t = joined (value 8 0) t

-- where it is led, as its variable holds it: the guest physical address that the VS-stage gives has 64 bits
abbrev pub held : Address → Tree → Tree
held OfAccess t = wide t
held (OfGuest x) t = t

-- the page number of an entry from its bit lo on, above the address's bits low to 0
abbrev pub led : Address → ℕ → ℕ → ℕ → Tree
led a entry lo low = held a (joined (part 53 lo (var entry)) (part low 0 (leads a)))

-- the variables of the entries of levels 2, 1, 0 stand side by side
abbrev pub result_nodes : Results → List NodeData
result_nodes r =
    node r.names.led30 (bind r.out (led r.address r.entry 28 29) r.exits.page30)
    ∷ node r.names.led21 (bind r.out (led r.address (r.entry + 1) 19 20) r.exits.page21)
    ∷ node r.names.napot (branch (bit 63 (var (r.entry + 2))) (r.at + 3) (r.at + 4))
    ∷ node r.names.led16 (bind r.out (led r.address (r.entry + 2) 14 15) r.exits.page16)
    ∷ node r.names.led12 (bind r.out (led r.address (r.entry + 2) 10 11) r.exits.page12)
    ∷ []

-- ---- a G-stage, of the address in the variable `base`; the entries' variables are the next three, and the result's the one after

-- hgatp is 0
abbrev pub is_bare : Tree
is_bare = is hgatp 64 0

-- Bare or not
abbrev pub guest_mode : Guest → NodeData
guest_mode g = node g.names.mode (branch is_bare (g.at + 1) (g.at + 3))

-- where it is Bare, the width of the address, and the result
abbrev pub guest_high : Guest → NodeData
guest_high g = node g.names.high (branch (is (part 63 56 (var g.base)) 8 0) (g.at + 2) at_access_fault)

abbrev pub guest_whole : Guest → NodeData
guest_whole g = node g.names.bare (bind (g.base + 4) (part 55 0 (var g.base)) g.bare)

-- where it isn't, the range of addresses
abbrev pub guest_range : Guest → NodeData
guest_range g = node g.names.range (branch (is (part 63 41 (var g.base)) 23 0) (g.at + 4) at_guest_fault)

abbrev pub guest_head : Guest → List NodeData
guest_head g = guest_mode g ∷ guest_high g ∷ guest_whole g ∷ guest_range g ∷ []

-- the root's block has 2^14 bytes and an index of 11 bits
abbrev pub guest_stage : Guest → Shape
guest_stage g = record {
  names = g.names.stage;
  at = g.at + 4;
  level2 = level g.permission (g.base + 1) (joined (part 43 2 hgatp) (joined (part 40 30 (var g.base)) (value 3 0))) 14 (g.at + 18);
  level1 = level g.permission (g.base + 1 + 1) (entry_at (part 53 10 (var (g.base + 1))) (part 29 21 (var g.base))) 12 (g.at + 18 + 1);
  level0 = level g.permission (g.base + 1 + 2) (entry_at (part 53 10 (var (g.base + 1 + 1))) (part 20 12 (var g.base))) 12 (g.at + 18 + 2);
  fetch2 = [];
  fetch1 = [];
  fetch0 = [];
  unread = at_access_fault;
  fault = at_guest_fault;
}

abbrev pub guest_results : Guest → Results
guest_results g = record { names = g.names.results; at = g.at + 18; address = OfGuest g.base; entry = g.base + 1; out = g.base + 4; exits = g.exits }

abbrev pub guest_nodes : Guest → List NodeData
guest_nodes g = guest_head g ++ (stage_nodes (guest_stage g) ++ result_nodes (guest_results g))

-- that of a VS entry goes on at the entry's read, whatever its page
abbrev pub entry_guest : List ℕ → ℕ → ℕ → ℕ → Guest
entry_guest letter at base read = record { names = guest_names letter; permission = Implicit; at = at; base = base; bare = read; exits = record { page30 = read; page21 = read; page16 = read; page12 = read } }

abbrev pub guest_a : Guest
guest_a = entry_guest (codes "a") 4 0 27

abbrev pub guest_b : Guest
guest_b = entry_guest (codes "b") 33 5 56

abbrev pub guest_c : Guest
guest_c = entry_guest (codes "c") 62 10 85

-- that of the final address
abbrev pub guest_final : Guest
guest_final = record { names = guest_names (codes "g"); permission = Explicit; at = 99; base = 15; bare = 122; exits = record { page30 = 123; page21 = 124; page16 = 125; page12 = 126 } }

-- ---- the VS-stage

-- an entry's address, and then its G-stage
abbrev pub fetch2 : List NodeData
fetch2 = acts (codes "a_address") (bind 0 (wide (entry_at (part 43 0 vsatp) (part 38 30 va))) 4) ∷ guest_nodes guest_a

abbrev pub fetch1 : List NodeData
fetch1 = acts (codes "b_address") (bind 5 (wide (entry_at (part 53 10 (var 20)) (part 29 21 va))) 33) ∷ guest_nodes guest_b

abbrev pub fetch0 : List NodeData
fetch0 = acts (codes "c_address") (bind 10 (wide (entry_at (part 53 10 (var 21)) (part 20 12 va))) 62) ∷ guest_nodes guest_c

-- each entry is read where its G-stage ended
abbrev pub virtual_stage : Shape
virtual_stage = record {
  names = stage_names (codes "v");
  at = 3;
  level2 = level Virtual 20 (var 4) 12 89;
  level1 = level Virtual 21 (var 9) 12 90;
  level0 = level Virtual 22 (var 14) 12 91;
  fetch2 = fetch2;
  fetch1 = fetch1;
  fetch0 = fetch0;
  unread = at_access_fault;
  fault = at_page_fault;
}

abbrev pub virtual_results : Results
virtual_results = record { names = result_names (codes "v"); at = 89; address = OfAccess; entry = 20; out = 15; exits = record { page30 = 95; page21 = 96; page16 = 97; page12 = 98 } }

-- vsatp is 0; bits 63 to 38 of the address are all equal
abbrev pub head : List NodeData
head =
    acts (codes "mode") (branch (is vsatp 64 0) 1 2)
    ∷ acts (codes "bare") (bind 15 va 94)
    ∷ acts (codes "sign") (branch is_sign_extended 3 at_page_fault)
    ∷ []

-- ---- the pages of both stages, and the ends

-- the exponent of a stage's page, 0 for none
abbrev pub page_is : List ℕ → ℕ → ℕ → ℕ → NodeData
page_is name x page next = acts name (bind x (value 5 page) next)

abbrev pub virtual_pages : List NodeData
virtual_pages =
    page_is (codes "v_page0") 23 0 99
    ∷ page_is (codes "v_page30") 23 30 99
    ∷ page_is (codes "v_page21") 23 21 99
    ∷ page_is (codes "v_page16") 23 16 99
    ∷ page_is (codes "v_page12") 23 12 99
    ∷ []

abbrev pub guest_pages : List NodeData
guest_pages =
    page_is (codes "g_page0") 24 0 127
    ∷ page_is (codes "g_page30") 24 30 127
    ∷ page_is (codes "g_page21") 24 21 127
    ∷ page_is (codes "g_page16") 24 16 127
    ∷ page_is (codes "g_page12") 24 12 127
    ∷ []

-- one of the two pages is this one
abbrev pub one_is : ℕ → Tree
one_is page = either (is (var 23) 5 page) (is (var 24) 5 page)

-- the smaller page
abbrev pub no_page : NodeData
no_page = acts (codes "no_page") (branch (both (is (var 23) 5 0) (is (var 24) 5 0)) 131 128)

abbrev pub page_chosen : List ℕ → ℕ → ℕ → ℕ → NodeData
page_chosen name page then_to other = acts name (branch (one_is page) then_to other)

abbrev pub choice : List NodeData
choice =
    no_page
    ∷ page_chosen (codes "page12") 12 135 129
    ∷ page_chosen (codes "page16") 16 134 130
    ∷ page_chosen (codes "page21") 21 133 132
    ∷ []

abbrev pub result : List ℕ → ℕ → NodeData
result name page = acts name (done (var 19) page)

abbrev pub results : List NodeData
results = result (codes "dbare") 12 ∷ result (codes "d30") 30 ∷ result (codes "d21") 21 ∷ result (codes "d16") 16 ∷ result (codes "d12") 12 ∷ []

abbrev pub guest_faults : List NodeData
guest_faults = by_kind (codes "guest_fault") (codes "gf20") (codes "guest_fault_data") (codes "gf21") (codes "gf23") at_guest_fault 20 21 23

abbrev pub faults : List NodeData
faults = page_faults at_page_fault ++ (access_faults at_access_fault ++ guest_faults)

-- ---- the model

-- from the VS-stage's results on
abbrev pub behind : List NodeData
behind = result_nodes virtual_results ++ (virtual_pages ++ (guest_nodes guest_final ++ (guest_pages ++ (choice ++ (results ++ faults)))))

abbrev pub nodes : List NodeData
nodes = head ++ (stage_nodes virtual_stage ++ behind)

abbrev pub guest_vars : List ℕ → List Named
guest_vars l = named (l ++ codes "_at") 64 ∷ named (l ++ codes "_pte2") 64 ∷ named (l ++ codes "_pte1") 64 ∷ named (l ++ codes "_pte0") 64 ∷ named (l ++ codes "_pa") 56 ∷ []

abbrev pub virtual_vars : List Named
virtual_vars = named (codes "v_pte2") 64 ∷ named (codes "v_pte1") 64 ∷ named (codes "v_pte0") 64 ∷ named (codes "v_page") 5 ∷ named (codes "g_page") 5 ∷ []

abbrev pub vars : List Named
vars = guest_vars (codes "a") ++ (guest_vars (codes "b") ++ (guest_vars (codes "c") ++ (guest_vars (codes "g") ++ virtual_vars)))

-- MODE is 8, or vsatp is 0
abbrev pub vsatp_rule : Tree
vsatp_rule = either (is (part 63 60 vsatp) 4 8) (is vsatp 64 0)

-- MODE is 8 and bits 59, 58, 1 and 0 are clear, or hgatp is 0
abbrev pub hgatp_rule : Tree
hgatp_rule = either (both (is (part 63 60 hgatp) 4 8) (both (is (part 59 58 hgatp) 2 0) (is (part 1 0 hgatp) 2 0))) is_bare

abbrev pub regs : List Named
regs = named (codes "vsatp") 64 ∷ named (codes "hgatp") 64 ∷ named (codes "sum") 1 ∷ named (codes "vmxr") 1 ∷ named (codes "hmxr") 1 ∷ []

-- the accesses are those of Sv39: user is 1 in VU-mode and 0 in VS-mode
abbrev pub sv39x4_data : ModelData
sv39x4_data = model_of regs vars (vsatp_rule ∷ hgatp_rule ∷ []) nodes
