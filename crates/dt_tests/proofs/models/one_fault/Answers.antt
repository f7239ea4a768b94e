use Rattle.std.proofs.Common.{◌≡◌, [], ◌∷◌, map, refl, sym, ap, ◌∙◌, subst}
use Rattle.std.specs.Prelude.{codes}
use Rattle.dt_lex.specs.Names.{padded_name}
use Rattle.dt_model.specs.ModelData.{fault, node_of, tree_of}
use Rattle.dt_model.specs.Certificate.{no_sets, IsCertified}
use Rattle.dt_tests.proofs.models.one_fault.Goals as goal

certified : IsCertified (record { word = 8; address = 8; regs = []; inputs = []; vars = []; legal_context = []; legal_access = []; nodes = record { name = padded_name (codes "f"); step = fault 7 } ∷ [] })
certified = (no_sets ∷ [], record { header = refl; regs = refl; inputs = refl; vars = refl; context = refl; access = refl; start = refl; nodes = refl; arities = refl; names = refl })

pub certified-requires : goal.certified-requires
certified-requires c =
    let nodes : map node_of c.from_vec.result ≡ record { name = padded_name (codes "f"); step = fault 7 } ∷ [] = ap (map node_of) (c.from_vec.ensures ∙ c.in_ok-nodes.ensures.items) ∙ ap (λ n. record { name = n; step = fault 7 } ∷ []) c.spelled.ensures.value in
    let same : record { word = 8; address = 8; regs = c.new.result; inputs = c.new-2.result; vars = c.new-3.result; legal_context = map tree_of c.new-4.result; legal_access = map tree_of c.new-5.result; nodes = map node_of c.from_vec.result } ≡ record { word = 8; address = 8; regs = []; inputs = []; vars = []; legal_context = []; legal_access = []; nodes = record { name = padded_name (codes "f"); step = fault 7 } ∷ [] } = (λ i. record { word = 8; address = 8; regs = c.new.ensures i; inputs = c.new-2.ensures i; vars = c.new-3.ensures i; legal_context = map tree_of (c.new-4.ensures i); legal_access = map tree_of (c.new-5.ensures i); nodes = nodes i }) in
    subst IsCertified (sym same) certified
