-- The shipped model's rules hold of exactly the legal settings and accesses.
use Rattle.std.proofs.Common.{◌≡◌, ℕ, Bool, true, false, not, ◌&&◌, ◌||◌, eqb, [], ◌∷◌, refl, sym, ap, ◌∙◌, subst}
use Rattle.dt_bits.specs.declared.value.Bv.{Bv}
use Rattle.dt_model.specs.ModelData.{ModelData, Tree}
use Rattle.dt_walk.specs.Meaning.{EnvData, env_of, unbound, value_at}
use Rattle.dt_manual.specs.declared.access.Sv39Setting.{Sv39Setting}
use Rattle.dt_manual.specs.Entry.{field}
use Rattle.dt_stage.specs.Tells.{truth}
use Rattle.dt_stage.proofs.Values.{Has, Says, h_part, s_no, s_either, s_is}
use Rattle.dt_sv39.specs.Law.{IsLegalAsManual}
use Rattle.dt_sv39.specs.Shipped as shipped
use Rattle.dt_sv39.specs.Shipped.{sv39_data}
use Rattle.dt_sv39.specs.Expected.{regs_of}

pub is_one : (b : Bool) → (eqb (truth b).bits 1 && true) ≡ b
is_one true = refl
is_one false = refl

pub only_rule : (e : EnvData) (t : Tree) (b : Bool) → Says e unbound t b → (eqb (value_at e unbound t).bits 1 && true) ≡ b
only_rule e t b h = ap (λ (x : Bv). eqb x.bits 1 && true) h.is ∙ is_one b

satp_in : (s : Sv39Setting) → Has (env_of sv39_data (regs_of s) []) unbound shipped.satp 64 s.satp
satp_in s = record { is = refl }

kind_in : (s : Sv39Setting) (va kind user : ℕ) → Has (env_of sv39_data (regs_of s) (va ∷ kind ∷ user ∷ [])) unbound shipped.kind 2 kind
kind_in s va kind user = record { is = refl }

sv39_legal : IsLegalAsManual sv39_data
sv39_legal s va kind user = (
  only_rule _ shipped.context_rule (eqb (field 63 60 s.satp) 8 || eqb s.satp 0) (s_either (s_is 4 8 (h_part 63 60 (satp_in s))) (s_is 64 0 (satp_in s))),
  only_rule _ shipped.access_rule (not (eqb kind 3)) (s_no (s_is 2 3 (kind_in s va kind user))),
)

pub legal_as_manual : (d : ModelData) → d ≡ sv39_data → IsLegalAsManual d
legal_as_manual d e = subst IsLegalAsManual (sym e) sv39_legal
