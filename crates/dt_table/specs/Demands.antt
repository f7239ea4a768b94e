-- Demands as forms over the terms of an access.
use Rattle.std.specs.Prelude.{ℕ, ◌+◌, List, [], ◌∷◌, ◌++◌, map, unwrap_or}
use Rattle.dt_bits.specs.declared.op.Op.TheVariants.{Or}
use Rattle.dt_model.specs.ModelData.{ModelData}
use Rattle.dt_model.specs.Faults.{steps}
use Rattle.dt_request.specs.declared.list.Demand.{Demand}
use Rattle.dt_request.specs.declared.list.Demand.TheVariants.{Via, Avoid, Take, EndDone, EndFault, Page, Bits, Span}
use Rattle.dt_request.specs.declared.list.Quantity.{Quantity}
use Rattle.dt_request.specs.declared.list.Quantity.TheVariants.{Reg, Input, Word, Cell, Pa}
use Rattle.dt_request.specs.Lists.{width_of}
use Rattle.dt_forms.specs.Forms.{Form, term, number, form2, not_of, both_of, same_of, less_of}
use Rattle.dt_table.specs.declared.out.Out.{Out}
use Rattle.dt_table.specs.Passing.{Access}
use Rattle.dt_table.specs.Claims.{ends_only}
use Rattle.dt_ways.specs.Ends.{ends_done, ends_fault, ends_page}
use Rattle.dt_table.specs.Apart.{Sized, pages_at}
use Rattle.dt_table.specs.Outs.{out_at, edge_at}

-- ---- tests of a number of w bits, by the position of its term

-- it has this value in the bits of the mask
abbrev pub is_masked_form : ℕ → ℕ → ℕ → ℕ → Form
is_masked_form w mask value t = same_of (both_of (term t) (number w mask)) (number w value)

-- it is from lo to hi, both among them
abbrev pub is_within_form : ℕ → ℕ → ℕ → ℕ → Form
is_within_form w lo hi t = both_of (not_of (less_of (term t) (number w lo))) (not_of (less_of (number w hi) (term t)))

-- ---- quantities

-- the test holds of the result, where the walk comes to it
abbrev pub result_form : (ℕ → Form) → Sized → Form
result_form test x = form2 Or (term x.out.away) (test x.out.value)

-- there is such a number, and the test holds of it
abbrev pub quantity_forms : ModelData → Access → List Out → Quantity → (ℕ → Form) → List Form
quantity_forms d a os (Reg i) test = test (a.regs + i) ∷ []
quantity_forms d a os (Input i) test = test (a.inputs + i) ∷ []
quantity_forms d a os (Word n) test = term (out_at os n).by_then ∷ test (out_at os n).word ∷ []
quantity_forms d a os (Cell n) test = term (out_at os n).by_then ∷ test (out_at os n).value ∷ []
quantity_forms d a os Pa test = ends_only ends_done (steps d) os ++ map (result_form test) (pages_at (steps d) os)

-- how many bits a quantity of the model has
abbrev pub quantity_width : ModelData → Quantity → ℕ
quantity_width d q = unwrap_or (width_of d q) 1

-- ---- demands

-- what must be 1 for a demand
abbrev pub demand_forms : ModelData → Access → List Out → Demand → List Form
demand_forms d a os (Via n) = term (out_at os n).come ∷ []
demand_forms d a os (Avoid n) = term (out_at os n).away ∷ []
demand_forms d a os (Take n by_then) = term (edge_at by_then (out_at os n)) ∷ []
demand_forms d a os EndDone = ends_only ends_done (steps d) os
demand_forms d a os (EndFault code) = ends_only (ends_fault code) (steps d) os
demand_forms d a os (Page exponent) = ends_only (ends_page exponent) (steps d) os
demand_forms d a os (Bits q mask value) = quantity_forms d a os q (is_masked_form (quantity_width d q) mask value)
demand_forms d a os (Span q lo hi) = quantity_forms d a os q (is_within_form (quantity_width d q) lo hi)
