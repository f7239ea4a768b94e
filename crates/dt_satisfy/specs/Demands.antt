-- When the walk of an access meets a demand.
use Rattle.std.specs.Prelude.{ℕ, ◌==◌, nat_le, bit_and, Bool, true, false, not, ◌&&◌, List, Option, Some, None, option_map, slice_get, find}
use Rattle.std.specs.List.{list_any}
use Rattle.dt_walk.specs.declared.run.End.{End}
use Rattle.dt_walk.specs.declared.run.End.TheVariants.{Done, Fault}
use Rattle.dt_walk.specs.declared.run.ReadMade.{ReadMade}
use Rattle.dt_walk.specs.declared.run.SideTaken.{SideTaken}
use Rattle.dt_walk.specs.Walks.{RunData}
use Rattle.dt_request.specs.declared.list.Quantity.{Quantity}
use Rattle.dt_request.specs.declared.list.Quantity.TheVariants.{Reg, Input, Word, Cell, Pa}
use Rattle.dt_request.specs.declared.list.Demand.{Demand}
use Rattle.dt_request.specs.declared.list.Demand.TheVariants.{Via, Avoid, Take, EndDone, EndFault, Page, Bits, Span}

-- an access as it is made: the values of its context's registers and of its inputs, and its run
pub record Made : Type 0 where
  pub regs : List ℕ
  pub inputs : List ℕ
  pub run : RunData

-- ---- ends

abbrev pub is_done : End → Bool
is_done (Done n pa page) = true
is_done (Fault n code) = false

abbrev pub is_fault : ℕ → End → Bool
is_fault asked (Done n pa page) = false
is_fault asked (Fault n code) = code == asked

abbrev pub is_page : ℕ → End → Bool
is_page asked (Done n pa page) = page == asked
is_page asked (Fault n code) = false

abbrev pub pa_of : End → Option ℕ
pa_of (Done n pa page) = Some pa
pa_of (Fault n code) = None

-- ---- quantities

abbrev pub visits : RunData → ℕ → Bool
visits run n = list_any (λ m. m == n) run.path

-- the side is this node's `then` (true), or its other side
abbrev pub is_side : ℕ → Bool → SideTaken → Bool
is_side n true s = s.node == n && s.by_then
is_side n false s = s.node == n && not s.by_then

-- the run leaves the node, an if or a read, by that side
abbrev pub leaves : RunData → ℕ → Bool → Bool
leaves run n by_then = list_any (is_side n by_then) run.sides

-- the read that is made at a node, which a walk visits once at most
abbrev pub read_at : RunData → ℕ → Option ReadMade
read_at run n = find (λ m. m.node == n) run.reads

-- the number that a quantity has, where the read is made or the end is a result
abbrev pub value_of : Made → Quantity → Option ℕ
value_of a (Reg i) = slice_get a.regs i
value_of a (Input i) = slice_get a.inputs i
value_of a (Word n) = option_map (λ m. m.word) (read_at a.run n)
value_of a (Cell n) = option_map (λ m. m.cell) (read_at a.run n)
value_of a Pa = pa_of a.run.end

-- there is a number, and the test holds of it
abbrev pub has : Option ℕ → (ℕ → Bool) → Bool
has None test = false
has (Some n) test = test n

abbrev pub is_masked : ℕ → ℕ → ℕ → Bool
is_masked mask value n = bit_and n mask == value

abbrev pub is_within : ℕ → ℕ → ℕ → Bool
is_within lo hi n = nat_le lo n && nat_le n hi

-- ---- demands

abbrev pub meets : Made → Demand → Bool
meets a (Via n) = visits a.run n
meets a (Avoid n) = not (visits a.run n)
meets a (Take n by_then) = leaves a.run n by_then
meets a EndDone = is_done a.run.end
meets a (EndFault code) = is_fault code a.run.end
meets a (Page exponent) = is_page exponent a.run.end
meets a (Bits q mask value) = has (value_of a q) (is_masked mask value)
meets a (Span q lo hi) = has (value_of a q) (is_within lo hi)
