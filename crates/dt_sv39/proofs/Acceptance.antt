-- The shipped model has a certificate.
use Rattle.std.proofs.Common.{◌≡◌, ℕ, List, [], ◌∷◌, ◌++◌, refl, sym, subst}
use Rattle.std.specs.Prelude.{replicate}
use Rattle.dt_model.specs.Certificate.{Sets, no_sets, Certifies, IsCertified}
use Rattle.dt_model.specs.Faults.{node_scope, steps}
use Rattle.dt_model.specs.ModelData.{ModelData}
use Rattle.dt_model.proofs.Certified.{certified_is, certified_has_arities}
use Rattle.dt_walk.specs.Sound.{AreSound}
use Rattle.dt_walk.proofs.Sound.{accepted_sound}
use Rattle.dt_sv39.specs.Shipped.{sv39_data}

-- the same variables on each path
abbrev all : List ℕ → Sets
all xs = record { sure = xs; maybe = xs }

-- up to the first read; after each level's read; the results; and the faults, to which all paths may lead
abbrev certificate : List Sets
certificate =
    replicate 5 no_sets
    ++ (replicate 5 (all (0 ∷ []))
    ++ (replicate 5 (all (1 ∷ 0 ∷ []))
    ++ (replicate 3 (all (2 ∷ 1 ∷ 0 ∷ []))
    ++ (all (0 ∷ []) ∷ all (1 ∷ 0 ∷ []) ∷ replicate 3 (all (2 ∷ 1 ∷ 0 ∷ []))
    ++ replicate 10 (record { sure = []; maybe = 2 ∷ 1 ∷ 0 ∷ [] })))))

certifies : Certifies sv39_data certificate
certifies = record { header = refl; regs = refl; inputs = refl; vars = refl; context = refl; access = refl; start = refl; nodes = refl; arities = refl; names = refl }

pub sv39_certified : IsCertified sv39_data
sv39_certified = (certificate, certifies)

pub sv39_sound : AreSound (node_scope sv39_data) 64 (steps sv39_data)
sv39_sound = accepted_sound sv39_data (certified_is sv39_data sv39_certified) (certified_has_arities sv39_data sv39_certified)

pub certified_as : (d : ModelData) → d ≡ sv39_data → IsCertified d
certified_as d e = subst IsCertified (sym e) sv39_certified
