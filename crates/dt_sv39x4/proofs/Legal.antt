-- The shipped model's rules hold of exactly the legal settings and accesses.
use Rattle.std.proofs.Common.{◌≡◌, ℕ, Bool, true, false, not, ◌&&◌, eqb, [], ◌∷◌, refl, sym, ap, ◌∙◌, subst}
use Rattle.dt_bits.specs.declared.value.Bv.{Bv}
use Rattle.dt_model.specs.ModelData.{ModelData, Tree}
use Rattle.dt_walk.specs.Meaning.{EnvData, env_of, unbound, value_at}
use Rattle.dt_manual.specs.declared.access.Sv39x4Setting.{Sv39x4Setting}
use Rattle.dt_stage.specs.Tells.{truth}
use Rattle.dt_stage.proofs.Values.{Has, Says, h_part, s_no, s_both, s_either, s_is}
use Rattle.dt_sv39.specs.Law.{is_legal_satp}
use Rattle.dt_sv39.specs.Shipped.{kind as kind_input, access_rule}
use Rattle.dt_sv39.proofs.Legal.{only_rule}
use Rattle.dt_sv39x4.specs.Expected.{regs_of}
use Rattle.dt_sv39x4.specs.Law.{is_legal_hgatp, IsLegalAsManual}
use Rattle.dt_sv39x4.specs.Shipped as shipped
use Rattle.dt_sv39x4.specs.Shipped.{sv39x4_data}

is_one : (b : Bool) → eqb (truth b).bits 1 ≡ b
is_one true = refl
is_one false = refl

with_more : (e : EnvData) (t : Tree) (b q r : Bool) → Says e unbound t b → q ≡ r → (eqb (value_at e unbound t).bits 1 && q) ≡ (b && r)
with_more e t b q r h k = ap (λ (x : Bv). eqb x.bits 1 && q) h.is ∙ ap (λ p. p && q) (is_one b) ∙ ap (λ p. b && p) k

abbrev context : Sv39x4Setting → EnvData
context s = env_of sv39x4_data (regs_of s) []

vsatp_in : (s : Sv39x4Setting) → Has (context s) unbound shipped.vsatp 64 s.vsatp
vsatp_in s = record { is = refl }

hgatp_in : (s : Sv39x4Setting) → Has (context s) unbound shipped.hgatp 64 s.hgatp
hgatp_in s = record { is = refl }

kind_in : (s : Sv39x4Setting) (va kind user : ℕ) → Has (env_of sv39x4_data (regs_of s) (va ∷ kind ∷ user ∷ [])) unbound kind_input 2 kind
kind_in s va kind user = record { is = refl }

sv39x4_legal : IsLegalAsManual sv39x4_data
sv39x4_legal s va kind user = (
  with_more (context s) shipped.vsatp_rule (is_legal_satp s.vsatp) _ (is_legal_hgatp s.hgatp) (s_either (s_is 4 8 (h_part 63 60 (vsatp_in s))) (s_is 64 0 (vsatp_in s)))
      (only_rule (context s) shipped.hgatp_rule (is_legal_hgatp s.hgatp) (s_either (s_both (s_is 4 8 (h_part 63 60 (hgatp_in s))) (s_both (s_is 2 0 (h_part 59 58 (hgatp_in s))) (s_is 2 0 (h_part 1 0 (hgatp_in s))))) (s_is 64 0 (hgatp_in s)))),
  only_rule _ access_rule (not (eqb kind 3)) (s_no (s_is 2 3 (kind_in s va kind user))),
)

pub legal_as_manual : (d : ModelData) → d ≡ sv39x4_data → IsLegalAsManual d
legal_as_manual d e = subst IsLegalAsManual (sym e) sv39x4_legal
