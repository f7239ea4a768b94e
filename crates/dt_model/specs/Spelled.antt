-- That each name of a model can be spelled.
use Rattle.std.specs.Coded.{Coded, Coded-set, code_by, coded×, coded_ℕ, coded_list, coded_option}
use Rattle.dt_lex.specs.declared.name.Name.{Name}
use Rattle.std.specs.Prelude.{ℕ, List, All, Option, refl}
use Rattle.dt_lex.specs.Names.{IsName}
use Rattle.dt_model.specs.ModelData.{ModelData}

pub record HaveNames (d : ModelData) : Type 0 where
  pub regs : All (λ n. IsName n.name) d.regs
  pub inputs : All (λ n. IsName n.name) d.inputs
  pub vars : All (λ n. IsName n.name) d.vars
  pub nodes : All (λ n. IsName n.name) d.nodes

-- a name as its bytes and their number
coded_name : Coded Name
coded_name = code_by (List ℕ × ℕ) (coded× (coded_list coded_ℕ) coded_ℕ) (λ n. (n.bytes, n.len)) (λ p. record { bytes = p.0; len = p.1 }) (λ n. refl)

-- two proofs that names are spelled are one
pub HaveNames-prop : (d : ModelData) → IsProp (HaveNames d)
HaveNames-prop d = let h : IsSet (Option Name) = Coded-set (coded_option coded_name) in hlevel h
