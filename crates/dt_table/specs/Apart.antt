-- Blocks as forms: no page that a walk ends in overlaps a table that a walk reads.
use Rattle.std.specs.Prelude.{ℕ, nat_le, max, if◌then◌else◌, List, [], ◌∷◌}
use Rattle.dt_bits.specs.declared.op.Op.TheVariants.{Shr}
use Rattle.dt_model.specs.ModelData.{ActData, read, done}
use Rattle.dt_table.specs.declared.out.Out.{Out}
use Rattle.dt_table.specs.Passing.{Access}
use Rattle.dt_forms.specs.Forms.{Form, term, form1, not_of, both_of, same_of}

-- ---- blocks: two addresses have the same whole quotient by 2 ^ e

abbrev pub same_block : Access → ℕ → ℕ → ℕ → Form
same_block a e s t = if nat_le a.address e then term a.one_term else same_of (form1 (Shr e) (term s)) (form1 (Shr e) (term t))

-- what stands for a node, with the exponent of its page or table
pub record Sized : Type 0 where
  pub exponent : ℕ
  pub out : Out

-- where the walks come to a result and to another node, which a term of that node tells, the two blocks don't overlap
abbrev pub apart_form : Access → (Out → ℕ) → Sized → Sized → Form
apart_form a key x y = not_of (both_of (both_of (term x.out.come) (term (key y.out))) (same_block a (max x.exponent y.exponent) x.out.value y.out.value))

abbrev pub pages_at : List ActData → List Out → List Sized
pages_at (done e p ∷ ps) (o ∷ os) = record { exponent = p; out = o } ∷ pages_at ps os
pages_at (p ∷ ps) (o ∷ os) = pages_at ps os
pages_at _ _ = []

abbrev pub tables_at : List ActData → List Out → List Sized
tables_at (read x e g t f ∷ ps) (o ∷ os) = record { exponent = g; out = o } ∷ tables_at ps os
tables_at (p ∷ ps) (o ∷ os) = tables_at ps os
tables_at _ _ = []
