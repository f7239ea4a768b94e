-- The values that rules of an accepted model have.
use Rattle.std.proofs.Common.{◌≡◌, ℕ, List, [], eqb, sym, ap, subst}
use Rattle.std.specs.Prelude.{IsSome, slice_index}
use Rattle.std.proofs.lemmas.Bool.{false≢true}
use Rattle.dt_bits.specs.declared.value.Bv.{Bv}
use Rattle.dt_model.specs.declared.model.Named.{Named}
use Rattle.dt_model.specs.ModelData.{ModelData, Tree}
use Rattle.dt_model.specs.Widths.{AreWidths, tree_width, width_at}
use Rattle.dt_model.specs.Values.{FitNames}
use Rattle.dt_walk.specs.Meaning.{env_of, unbound, valued, value_at, rule_holds}
use Rattle.dt_walk.specs.Sound.{AreValues}
use Rattle.dt_walk.proofs.Sound.{IsRule, values_from}
use Rattle.dt_walk.proofs.Narrow.{same_value}

-- names that are those of a list
pub values_at : (names ns : List Named) (vs : List ℕ) → names ≡ ns → AreWidths ns → FitNames ns vs → AreValues names vs
values_at names ns vs e w f = subst (λ (l : List Named). AreValues l vs) (sym e) (values_from ns vs w f)

pub context_width : (d : ModelData) (t : Tree) (regs : List Named) → regs ≡ d.regs → IsRule (record { regs = d.regs; inputs = []; vars = [] }) t → IsRule (record { regs = regs; inputs = []; vars = [] }) t
context_width d t regs e h = subst (λ (l : List Named). IsRule (record { regs = l; inputs = []; vars = [] }) t) (sym e) h

pub access_width : (d : ModelData) (t : Tree) (regs inputs : List Named) → regs ≡ d.regs → inputs ≡ d.inputs → IsRule (record { regs = d.regs; inputs = d.inputs; vars = [] }) t → IsRule (record { regs = regs; inputs = inputs; vars = [] }) t
access_width d t regs inputs e f h = subst (λ (l : List Named). IsRule (record { regs = l; inputs = inputs; vars = [] }) t) (sym e) (subst (λ (l : List Named). IsRule (record { regs = d.regs; inputs = l; vars = [] }) t) (sym f) h)

pub context_value : (d : ModelData) (t : Tree) (regs : List Named) (rs : List ℕ) → regs ≡ d.regs → IsSome (tree_width (record { regs = regs; inputs = []; vars = [] }) t) → eqb (value_at (record { scope = record { regs = regs; inputs = []; vars = [] }; regs = rs; inputs = [] }) (slice_index []) t).bits 1 ≡ rule_holds d rs [] t
context_value d t regs rs e w =
    ap (λ (v : Bv). eqb v.bits 1) (same_value (record { scope = record { regs = regs; inputs = []; vars = [] }; regs = rs; inputs = [] }) (env_of d rs []) (slice_index []) unbound t (record {
      regs = λ i h. ap (λ (l : List Named). valued (width_at l i) (slice_index rs i)) e;
      inputs = λ i h. absurd (false≢true h);
      vars = λ i h. absurd (false≢true h);
    }) w)

pub access_value : (d : ModelData) (t : Tree) (regs inputs : List Named) (rs is : List ℕ) → regs ≡ d.regs → inputs ≡ d.inputs → IsSome (tree_width (record { regs = regs; inputs = inputs; vars = [] }) t) → eqb (value_at (record { scope = record { regs = regs; inputs = inputs; vars = [] }; regs = rs; inputs = is }) (slice_index []) t).bits 1 ≡ rule_holds d rs is t
access_value d t regs inputs rs is e f w =
    ap (λ (v : Bv). eqb v.bits 1) (same_value (record { scope = record { regs = regs; inputs = inputs; vars = [] }; regs = rs; inputs = is }) (env_of d rs is) (slice_index []) unbound t (record {
      regs = λ i h. ap (λ (l : List Named). valued (width_at l i) (slice_index rs i)) e;
      inputs = λ i h. ap (λ (l : List Named). valued (width_at l i) (slice_index is i)) f;
      vars = λ i h. absurd (false≢true h);
    }) w)
