-- The lines of a request list, each by itself, with names and numbers as they are spelled.
use Rattle.std.specs.Prelude.{ℕ, Bool, true, false, List, [], ◌∷◌, Option, Some, None, option_map, codes, if◌then◌else◌}
use Rattle.std.specs.Str.{bytes_eq}
use Rattle.dt_lex.specs.declared.name.Name.{Name}
use Rattle.dt_lex.specs.Numeral.{number_of}
use Rattle.dt_lex.specs.Names.{name_of}
use Rattle.dt_lex.specs.Frame.{is_alone, is_nothing, given, ◌>>=◌, Front, first_by, name_at, number_at, lone}
use Rattle.dt_request.specs.declared.asked.AskedQuantity.{AskedQuantity}
use Rattle.dt_request.specs.declared.asked.AskedQuantity.TheVariants.{Reg, Input, Word, Cell, Pa}
use Rattle.dt_request.specs.declared.asked.AskedDemand.{AskedDemand}
use Rattle.dt_request.specs.declared.asked.AskedDemand.TheVariants.{Via, Avoid, Take, EndDone, EndFault, Page, Bits, Span}
use Rattle.dt_request.specs.declared.asked.AskedSide.{AskedSide}
use Rattle.dt_request.specs.declared.asked.AskedLink.{AskedLink}
use Rattle.dt_request.specs.declared.asked.AskedLink.TheVariants.{ShareTable, ShareCell, SharePage, ApartTable, ApartPage}
use Rattle.dt_request.specs.declared.asked.Line.{Line}
use Rattle.dt_request.specs.declared.asked.Line.TheVariants.{Header, Tables, Keep, Context, Access, Demand, Link, End}

-- ---- tokens from the front

unfoldable pub names_at : List (List ℕ) → Front (Name × Name)
names_at ts = do
  first ← name_at ts
  second ← name_at first.1
  Some ((first.0, second.0), second.1)

unfoldable pub numbers_at : List (List ℕ) → Front (ℕ × ℕ)
numbers_at ts = do
  first ← number_at ts
  second ← number_at first.1
  Some ((first.0, second.0), second.1)

-- ---- demands

-- reg NAME, in NAME, word NODE or cell NODE
unfoldable pub named_quantity : List ℕ → Name → Option AskedQuantity
named_quantity t name =
    if bytes_eq t (codes "reg") then Some (Reg name)
    else (if bytes_eq t (codes "in") then Some (Input name)
    else (if bytes_eq t (codes "word") then Some (Word name)
    else (if bytes_eq t (codes "cell") then Some (Cell name)
    else None)))

unfoldable pub quantity_behind : List ℕ → List (List ℕ) → Front AskedQuantity
quantity_behind t ts = do
  name ← name_at ts
  of ← named_quantity t name.0
  Some (of, name.1)

-- such a pair, or pa
unfoldable pub quantity_at : List (List ℕ) → Front AskedQuantity
quantity_at [] = None
quantity_at (t ∷ ts) = if bytes_eq t (codes "pa") then Some (Pa, ts) else quantity_behind t ts

-- Q and two numbers
unfoldable pub measured_at : List (List ℕ) → Front (AskedQuantity × (ℕ × ℕ))
measured_at ts = do
  of ← quantity_at ts
  numbers ← numbers_at of.1
  Some ((of.0, numbers.0), numbers.1)

-- then or else, and nothing after it
abbrev pub branch_of : List (List ℕ) → Option Bool
branch_of ts = if is_alone (codes "then") ts then Some true else (if is_alone (codes "else") ts then Some false else None)

-- NODE then, or NODE else
unfoldable pub take_of : List (List ℕ) → Option AskedDemand
take_of ts = do
  node ← name_at ts
  by_then ← branch_of node.1
  Some (Take node.0 by_then)

-- done, or fault CODE
abbrev pub ends_of : List (List ℕ) → Option AskedDemand
ends_of (t ∷ []) = if bytes_eq t (codes "done") then Some EndDone else None
ends_of (t ∷ u ∷ []) = if bytes_eq t (codes "fault") then option_map (λ code. EndFault code) (number_of u) else None
ends_of _ = None

-- the demand that a first token and the others spell
unfoldable pub demand_of : List ℕ → List (List ℕ) → Option AskedDemand
demand_of t ts =
    if bytes_eq t (codes "via") then option_map (λ node. Via node) (lone (name_at ts))
    else (if bytes_eq t (codes "avoid") then option_map (λ node. Avoid node) (lone (name_at ts))
    else (if bytes_eq t (codes "take") then take_of ts
    else (if bytes_eq t (codes "ends") then ends_of ts
    else (if bytes_eq t (codes "page") then option_map (λ exponent. Page exponent) (lone (number_at ts))
    else (if bytes_eq t (codes "bits") then option_map (λ x. Bits x.0 x.1.0 x.1.1) (lone (measured_at ts))
    else (if bytes_eq t (codes "range") then option_map (λ x. Span x.0 x.1.0 x.1.1) (lone (measured_at ts))
    else None))))))

-- ---- links

-- A NODE
unfoldable pub side_at : List (List ℕ) → Front AskedSide
side_at ts = do
  names ← names_at ts
  Some (record { access = names.0.0; node = names.0.1 }, names.1)

unfoldable pub sides_at : List (List ℕ) → Front (AskedSide × AskedSide)
sides_at ts = do
  first ← side_at ts
  second ← side_at first.1
  Some ((first.0, second.0), second.1)

-- table A NODE B NODE, cell A NODE B NODE, or page A B
unfoldable pub share_of : List (List ℕ) → Option AskedLink
share_of [] = None
share_of (t ∷ ts) =
    if bytes_eq t (codes "table") then option_map (λ x. ShareTable x.0 x.1) (lone (sides_at ts))
    else (if bytes_eq t (codes "cell") then option_map (λ x. ShareCell x.0 x.1) (lone (sides_at ts))
    else (if bytes_eq t (codes "page") then option_map (λ x. SharePage x.0 x.1) (lone (names_at ts))
    else None))

-- table A NODE B NODE, or page A B
unfoldable pub apart_of : List (List ℕ) → Option AskedLink
apart_of [] = None
apart_of (t ∷ ts) =
    if bytes_eq t (codes "table") then option_map (λ x. ApartTable x.0 x.1) (lone (sides_at ts))
    else (if bytes_eq t (codes "page") then option_map (λ x. ApartPage x.0 x.1) (lone (names_at ts))
    else None)

-- ---- lines

-- the very token 1, or 2, behind which kept ranges may stand
abbrev pub header_of : List (List ℕ) → Option Line
header_of ts = if is_alone (codes "1") ts then Some (Header false) else (if is_alone (codes "2") ts then Some (Header true) else None)

-- the line that a first token and the others spell
unfoldable pub spelled : List ℕ → List (List ℕ) → Option Line
spelled t ts =
    if bytes_eq t (codes "requests") then header_of ts
    else (if bytes_eq t (codes "tables") then option_map (λ x. Tables x.0 x.1) (lone (numbers_at ts))
    else (if bytes_eq t (codes "keep") then option_map (λ x. Keep x.0 x.1) (lone (numbers_at ts))
    else (if bytes_eq t (codes "context") then option_map (λ name. Context name) (lone (name_at ts))
    else (if bytes_eq t (codes "access") then option_map (λ x. Access x.0 x.1) (lone (names_at ts))
    else (if bytes_eq t (codes "share") then option_map (λ x. Link x) (share_of ts)
    else (if bytes_eq t (codes "apart") then option_map (λ x. Link x) (apart_of ts)
    else (if bytes_eq t (codes "end") then given (is_nothing ts) End
    else option_map (λ x. Demand x) (demand_of t ts))))))))
