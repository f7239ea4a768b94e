-- The shipped model has a certificate.
use Rattle.std.proofs.Common.{◌≡◌, ℕ, ◌+◌, List, [], ◌∷◌, ◌++◌, length, refl, sym, subst}
use Rattle.std.specs.Prelude.{replicate}
use Rattle.dt_model.specs.Certificate.{Sets, no_sets, Certifies, IsCertified}
use Rattle.dt_model.specs.Faults.{node_scope, steps}
use Rattle.dt_model.specs.ModelData.{ModelData}
use Rattle.dt_model.proofs.Certified.{certified_is, certified_has_arities}
use Rattle.dt_walk.specs.Sound.{AreSound}
use Rattle.dt_walk.proofs.Sound.{accepted_sound}
use Rattle.dt_sv39x4.specs.Shipped.{sv39x4_data}

abbrev sets : List ℕ → List ℕ → Sets
sets s m = record { sure = s; maybe = m }

abbrev times : ℕ → Sets → List Sets
times n s = replicate n s

-- a G-stage with its first variable b, after its first node; c is what else is sure, and m what else some path may have assigned
abbrev guest_sets : ℕ → List ℕ → List ℕ → List Sets
guest_sets b c m =
    times 5 (sets (b ∷ c) (b ∷ m))
    ++ (times 5 (sets (b ∷ (b + 1) ∷ c) (b ∷ (b + 1) ∷ m))
    ++ (times 5 (sets (b ∷ (b + 2) ∷ c) (b ∷ (b + 1) ∷ (b + 2) ∷ m))
    ++ (times 3 (sets (b ∷ (b + 3) ∷ c) (b ∷ (b + 1) ∷ (b + 2) ∷ (b + 3) ∷ m))
    ++ (sets (b ∷ (b + 1) ∷ c) (b ∷ (b + 1) ∷ (b + 2) ∷ (b + 3) ∷ m)
    ∷ sets (b ∷ (b + 2) ∷ c) (b ∷ (b + 1) ∷ (b + 2) ∷ (b + 3) ∷ m)
    ∷ times 3 (sets (b ∷ (b + 3) ∷ c) (b ∷ (b + 1) ∷ (b + 2) ∷ (b + 3) ∷ m))))))

abbrev five : ℕ → List ℕ → List ℕ
five b m = b ∷ (b + 1) ∷ (b + 2) ∷ (b + 3) ∷ (b + 4) ∷ m

-- what some path may have assigned after the G-stages of the VS entries, after the last VS entry, and at the end
abbrev a_set : List ℕ
a_set = five 0 []

abbrev b_set : List ℕ
b_set = five 5 (20 ∷ a_set)

abbrev c_set : List ℕ
c_set = five 10 (21 ∷ b_set)

abbrev v_set : List ℕ
v_set = 22 ∷ c_set

abbrev all_set : List ℕ
all_set = 24 ∷ five 15 (23 ∷ v_set)

abbrev certificate : List Sets
certificate =
    times 4 no_sets
    ++ (guest_sets 0 [] []
    ++ (sets (4 ∷ []) a_set ∷ (times 5 (sets (20 ∷ []) (20 ∷ a_set))
    ++ (guest_sets 5 [] (20 ∷ a_set)
    ++ (sets (9 ∷ []) b_set ∷ (times 5 (sets (21 ∷ []) (21 ∷ b_set))
    ++ (guest_sets 10 [] (21 ∷ b_set)
    ++ (sets (14 ∷ []) c_set ∷ (times 3 (sets (22 ∷ []) v_set)
    ++ (sets (20 ∷ []) v_set ∷ sets (21 ∷ []) v_set ∷ (times 3 (sets (22 ∷ []) v_set)
    ++ (times 5 (sets (15 ∷ []) (15 ∷ v_set))
    ++ (guest_sets 15 (23 ∷ []) (23 ∷ v_set)
    ++ (times 5 (sets (19 ∷ 23 ∷ []) (five 15 (23 ∷ v_set)))
    ++ (times 9 (sets (19 ∷ 23 ∷ 24 ∷ []) all_set) ++ times 15 (sets [] all_set))))))))))))))))

-- as many as there are nodes
count : length sv39x4_data.nodes ≡ 151
count = refl

certified_count : length certificate ≡ 151
certified_count = refl

certifies : Certifies sv39x4_data certificate
certifies = record { header = refl; regs = refl; inputs = refl; vars = refl; context = refl; access = refl; start = refl; nodes = refl; arities = refl; names = refl }

pub sv39x4_certified : IsCertified sv39x4_data
sv39x4_certified = (certificate, certifies)

pub sv39x4_sound : AreSound (node_scope sv39x4_data) 64 (steps sv39x4_data)
sv39x4_sound = accepted_sound sv39x4_data (certified_is sv39x4_data sv39x4_certified) (certified_has_arities sv39x4_data sv39x4_certified)

pub certified_as : (d : ModelData) → d ≡ sv39x4_data → IsCertified d
certified_as d e = subst IsCertified (sym e) sv39x4_certified
