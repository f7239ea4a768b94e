-- A line that is spelled is read as what it spells.
use Rattle.std.proofs.Common.{◌≡◌, ℕ, ◌^◌, ◌<◌, Bool, true, false, cond, ◌&&◌, ltb, leb, List, [], ◌∷◌, ◌++◌, length, Option, Some, None, Result, Ok, Err, refl, ap, ◌∙◌}
use Rattle.std.specs.Prelude.{codes, slice_get, option_map, IsTrue, IsSomeAnd}
use Rattle.std.specs.Option.{option_map_or}
use Rattle.std.proofs.lemmas.Bool.{and_from, cond-true, lt-ltb, le-leb}
use Rattle.dt_lex.specs.declared.name.Name.{Name}
use Rattle.dt_lex.specs.Names.{name_of}
use Rattle.dt_lex.specs.Numeral.{number_of}
use Rattle.dt_lex.specs.Reading.{◌>>=◌}
use Rattle.dt_model.specs.ModelData.{ModelData, ActData}
use Rattle.dt_model.specs.Faults.{steps, is_read, names_of}
use Rattle.dt_model.specs.Positions.{position_of}
use Rattle.dt_request.specs.declared.fault.Cause.{Cause}
use Rattle.dt_request.specs.declared.fault.Cause.TheVariants as causes
use Rattle.dt_request.specs.declared.list.Quantity.{Quantity}
use Rattle.dt_request.specs.declared.list.Quantity.TheVariants as quantity
use Rattle.dt_request.specs.declared.list.Demand.{Demand}
use Rattle.dt_request.specs.declared.list.Demand.TheVariants as demand
use Rattle.dt_request.specs.declared.list.Side.{Side}
use Rattle.dt_request.specs.declared.list.Link.{Link}
use Rattle.dt_request.specs.declared.list.Link.TheVariants as link
use Rattle.dt_request.specs.declared.list.Requests.{Requests}
use Rattle.dt_request.specs.declared.asked.AskedQuantity.{AskedQuantity}
use Rattle.dt_request.specs.declared.asked.AskedQuantity.TheVariants.{Reg, Input, Word, Cell, Pa}
use Rattle.dt_request.specs.declared.asked.AskedDemand.{AskedDemand}
use Rattle.dt_request.specs.declared.asked.AskedDemand.TheVariants.{Via, Avoid, Take, EndDone, EndFault, Page, Bits, Span}
use Rattle.dt_request.specs.declared.asked.AskedSide.{AskedSide}
use Rattle.dt_request.specs.declared.asked.AskedLink.{AskedLink}
use Rattle.dt_request.specs.declared.asked.AskedLink.TheVariants.{ShareTable, ShareCell, SharePage, ApartTable, ApartPage}
use Rattle.dt_request.specs.declared.asked.Line.{Line}
use Rattle.dt_request.specs.declared.asked.Line.TheVariants as line
use Rattle.dt_request.specs.Lists.{is_fork, read_width, width_of, CanBe, IsDemand, access_names, IsSide, IsLink}
use Rattle.dt_request.specs.Line.{names_at, numbers_at, named_quantity, quantity_behind, quantity_at, measured_at, branch_of, take_of, demand_of, side_at, sides_at, share_of, apart_of, spelled}
use Rattle.dt_request.specs.Entry.{node_names, is_step, step_where, quantity_in, side_in, sides_in, pages_in, link_in, known, in_range, can_be, measured_in, demand_in}
use Rattle.dt_request.specs.Spelling.{Row, SpellsQuantity, SpellsMeasured, SpellsDemand, SpellsSides, SpellsLink}
use Rattle.dt_request.proofs.Places.{ArePlaced}
use Rattle.dt_lex.specs.Frame.{Front, lone}

abbrev pub spelled_row : Row → Option Line
spelled_row [] = None
spelled_row (t ∷ ts) = spelled t ts

-- the names of the model are found where they stand
pub record IsPlaced (d : ModelData) : Type 0 where
  pub regs : ArePlaced (names_of d.regs)
  pub inputs : ArePlaced (names_of d.inputs)
  pub nodes : ArePlaced (node_names d)

-- ---- lines by their tokens

numbers_are : (t u : List ℕ) (m n : ℕ) → number_of t ≡ Some m → number_of u ≡ Some n → numbers_at (t ∷ u ∷ []) ≡ Some ((m, n), [])
unfolding numbers_at
numbers_are t u m n p q = rw (p, q) refl

names_are : (t u : List ℕ) (m n : Name) (rest : Row) → name_of t ≡ Some m → name_of u ≡ Some n → names_at (t ∷ u ∷ rest) ≡ Some ((m, n), rest)
unfolding names_at
names_are t u m n rest p q = rw (p, q) refl

pub tables_line : (t u : List ℕ) (lo hi : ℕ) → number_of t ≡ Some lo → number_of u ≡ Some hi → spelled (codes "tables") (t ∷ u ∷ []) ≡ Some (line.Tables lo hi)
unfolding spelled
tables_line t u lo hi p q = ap (λ (o : Front (ℕ × ℕ)). option_map (λ x. line.Tables x.0 x.1) (lone o)) (numbers_are t u lo hi p q)

pub keep_line : (t u : List ℕ) (lo hi : ℕ) → number_of t ≡ Some lo → number_of u ≡ Some hi → spelled (codes "keep") (t ∷ u ∷ []) ≡ Some (line.Keep lo hi)
unfolding spelled
keep_line t u lo hi p q = ap (λ (o : Front (ℕ × ℕ)). option_map (λ x. line.Keep x.0 x.1) (lone o)) (numbers_are t u lo hi p q)

pub context_line : (t : List ℕ) (n : Name) → name_of t ≡ Some n → spelled (codes "context") (t ∷ []) ≡ Some (line.Context n)
unfolding spelled
context_line t n p = rw p refl

pub access_line : (t u : List ℕ) (m n : Name) → name_of t ≡ Some m → name_of u ≡ Some n → spelled (codes "access") (t ∷ u ∷ []) ≡ Some (line.Access m n)
unfolding spelled
access_line t u m n p q = ap (λ (o : Front (Name × Name)). option_map (λ x. line.Access x.0 x.1) (lone o)) (names_are t u m n [] p q)

pub header_line : spelled (codes "requests") (codes "1" ∷ []) ≡ Some (line.Header false)
unfolding spelled
header_line = refl

pub second_header_line : spelled (codes "requests") (codes "2" ∷ []) ≡ Some (line.Header true)
unfolding spelled
second_header_line = refl

pub end_line : spelled (codes "end") [] ≡ Some line.End
unfolding spelled
end_line = refl

-- ---- demands by their tokens

via_line : (t : List ℕ) (n : Name) → name_of t ≡ Some n → spelled (codes "via") (t ∷ []) ≡ Some (line.Demand (Via n))
unfolding spelled demand_of
via_line t n p = rw p refl

avoid_line : (t : List ℕ) (n : Name) → name_of t ≡ Some n → spelled (codes "avoid") (t ∷ []) ≡ Some (line.Demand (Avoid n))
unfolding spelled demand_of
avoid_line t n p = rw p refl

then_line : (t : List ℕ) (n : Name) → name_of t ≡ Some n → spelled (codes "take") (t ∷ codes "then" ∷ []) ≡ Some (line.Demand (Take n true))
unfolding spelled demand_of take_of branch_of
then_line t n p = rw p refl

else_line : (t : List ℕ) (n : Name) → name_of t ≡ Some n → spelled (codes "take") (t ∷ codes "else" ∷ []) ≡ Some (line.Demand (Take n false))
unfolding spelled demand_of take_of branch_of
else_line t n p = rw p refl

done_line : spelled (codes "ends") (codes "done" ∷ []) ≡ Some (line.Demand EndDone)
unfolding spelled demand_of
done_line = refl

fault_line : (t : List ℕ) (code : ℕ) → number_of t ≡ Some code → spelled (codes "ends") (codes "fault" ∷ t ∷ []) ≡ Some (line.Demand (EndFault code))
unfolding spelled demand_of
fault_line t code p = rw p refl

page_line : (t : List ℕ) (exponent : ℕ) → number_of t ≡ Some exponent → spelled (codes "page") (t ∷ []) ≡ Some (line.Demand (Page exponent))
unfolding spelled demand_of
page_line t exponent p = rw p refl

bits_line : (ts : Row) (q : AskedQuantity) (m n : ℕ) → measured_at ts ≡ Some ((q, (m, n)), []) → spelled (codes "bits") ts ≡ Some (line.Demand (Bits q m n))
unfolding spelled demand_of
bits_line ts q m n p = ap (λ (o : Front (AskedQuantity × (ℕ × ℕ))). option_map (λ x. line.Demand x) (option_map (λ x. Bits x.0 x.1.0 x.1.1) (lone o))) p

range_line : (ts : Row) (q : AskedQuantity) (m n : ℕ) → measured_at ts ≡ Some ((q, (m, n)), []) → spelled (codes "range") ts ≡ Some (line.Demand (Span q m n))
unfolding spelled demand_of
range_line ts q m n p = ap (λ (o : Front (AskedQuantity × (ℕ × ℕ))). option_map (λ x. line.Demand x) (option_map (λ x. Span x.0 x.1.0 x.1.1) (lone o))) p

reg_front : (t : List ℕ) (n : Name) (rest : Row) → name_of t ≡ Some n → quantity_at (codes "reg" ∷ t ∷ rest) ≡ Some (Reg n, rest)
unfolding quantity_at quantity_behind named_quantity
reg_front t n rest p = rw p refl

input_front : (t : List ℕ) (n : Name) (rest : Row) → name_of t ≡ Some n → quantity_at (codes "in" ∷ t ∷ rest) ≡ Some (Input n, rest)
unfolding quantity_at quantity_behind named_quantity
input_front t n rest p = rw p refl

word_front : (t : List ℕ) (n : Name) (rest : Row) → name_of t ≡ Some n → quantity_at (codes "word" ∷ t ∷ rest) ≡ Some (Word n, rest)
unfolding quantity_at quantity_behind named_quantity
word_front t n rest p = rw p refl

cell_front : (t : List ℕ) (n : Name) (rest : Row) → name_of t ≡ Some n → quantity_at (codes "cell" ∷ t ∷ rest) ≡ Some (Cell n, rest)
unfolding quantity_at quantity_behind named_quantity
cell_front t n rest p = rw p refl

pa_front : (rest : Row) → quantity_at (codes "pa" ∷ rest) ≡ Some (Pa, rest)
unfolding quantity_at
pa_front rest = refl

measured_front : (ts : Row) (q : AskedQuantity) (t u : List ℕ) (m n : ℕ) → quantity_at ts ≡ Some (q, t ∷ u ∷ []) → number_of t ≡ Some m → number_of u ≡ Some n → measured_at ts ≡ Some ((q, (m, n)), [])
unfolding measured_at numbers_at
measured_front ts q t u m n h p r = rw (h, p, r) refl

-- ---- what names stand for

step_found : (kind : ActData → Bool) (o : Option ActData) → IsSomeAnd o (λ p. IsTrue (kind p)) → option_map_or kind o false ≡ true
step_found kind None h = absurd h
step_found kind (Some p) h = h

where_is : (kind : ActData → Bool) (d : ModelData) (n : Name) (i : ℕ) → position_of (node_names d) n ≡ Some i → IsSomeAnd (slice_get (steps d) i) (λ p. IsTrue (kind p)) → step_where kind d n ≡ Some i
where_is kind d n i at is =
    rw at (cond-true (is_step kind d i) (Some i) None (step_found kind (slice_get (steps d) i) is))

read_is : (w : ℕ) (o : Option ActData) (P : ℕ → Type 0) → IsSomeAnd (read_width w o) P → IsSomeAnd o (λ p. IsTrue (is_read p))
read_is w None P h = absurd h
read_is w (Some p) P h = choose (is_read p) h
  where
    choose : (b : Bool) → IsSomeAnd (cond b (Some w) None) P → IsTrue b
    choose true h = refl
    choose false h = absurd h

can_from : (o : Option ℕ) (n : ℕ) → IsSomeAnd o (λ w. n < 2 ^ w) → option_map_or (λ w. ltb n (2 ^ w)) o false ≡ true
can_from None n h = absurd h
can_from (Some w) n h = lt-ltb n (2 ^ w) h

-- ---- demands

-- the quantity is read at the front, and its names stand for it
record IsAsked (d : ModelData) (of : Quantity) (q : Row) : Type 0 where
  asked : AskedQuantity
  front : (rest : Row) → quantity_at (q ++ rest) ≡ Some (asked, rest)
  stands : quantity_in d asked ≡ Some of

abbrev from_name : (d : ModelData) (of : Quantity) (q : Row) (asked : AskedQuantity) (word t : List ℕ) → q ≡ word ∷ t ∷ [] → ((rest : Row) → quantity_at (word ∷ t ∷ rest) ≡ Some (asked, rest)) → quantity_in d asked ≡ Some of → IsAsked d of q
from_name d of q asked word t row front stands = record {
  asked = asked;
  front = λ rest. ap (λ (x : Row). quantity_at (x ++ rest)) row ∙ front rest;
  stands = stands;
}

quantity_read : (d : ModelData) → IsPlaced d → (of : Quantity) (q : Row) (n : ℕ) → CanBe d of n → SpellsQuantity d of q → IsAsked d of q
quantity_read d k (quantity.Reg i) q n can h =
    from_name d (quantity.Reg i) q (Reg h.1.0) (codes "reg") h.0 h.2 (λ rest. reg_front h.0 h.1.0 rest h.1.2) (ap (option_map (λ i. quantity.Reg i)) (k.regs i h.1.0 h.1.1))
quantity_read d k (quantity.Input i) q n can h =
    from_name d (quantity.Input i) q (Input h.1.0) (codes "in") h.0 h.2 (λ rest. input_front h.0 h.1.0 rest h.1.2) (ap (option_map (λ i. quantity.Input i)) (k.inputs i h.1.0 h.1.1))
quantity_read d k (quantity.Word i) q n can h =
    from_name d (quantity.Word i) q (Word h.1.0) (codes "word") h.0 h.2 (λ rest. word_front h.0 h.1.0 rest h.1.2) (ap (option_map (λ i. quantity.Word i)) (where_is is_read d h.1.0 i (k.nodes i h.1.0 h.1.1) (read_is d.word (slice_get (steps d) i) (λ w. n < 2 ^ w) can)))
quantity_read d k (quantity.Cell i) q n can h =
    from_name d (quantity.Cell i) q (Cell h.1.0) (codes "cell") h.0 h.2 (λ rest. cell_front h.0 h.1.0 rest h.1.2) (ap (option_map (λ i. quantity.Cell i)) (where_is is_read d h.1.0 i (k.nodes i h.1.0 h.1.1) (read_is d.address (slice_get (steps d) i) (λ w. n < 2 ^ w) can)))
quantity_read d k quantity.Pa q n can row = record {
  asked = Pa;
  front = λ rest. ap (λ (x : Row). quantity_at (x ++ rest)) row ∙ pa_front rest;
  stands = refl;
}

-- a demand as it is read, and what it stands for
pub record IsDemandRead (d : ModelData) (x : Demand) (row : Row) : Type 0 where
  pub asked : AskedDemand
  pub line : spelled_row row ≡ Some (line.Demand asked)
  pub stands : demand_in d asked ≡ Ok x

range_is : {X : Type 0} (b : Bool) (x : X) → b ≡ true → in_range b x ≡ Ok x
range_is b x e = cond-true b (Ok x) (Err causes.OutOfRange) e

measured_stands : (d : ModelData) (of : Quantity) (asked : AskedQuantity) (m n : ℕ) → CanBe d of m → CanBe d of n → quantity_in d asked ≡ Some of → measured_in d asked m n ≡ Ok of
measured_stands d of asked m n first second stands =
    ap (λ (o : Option Quantity). known o >>= λ q. in_range (can_be d q m && can_be d q n) q) stands
    ∙ range_is (can_be d of m && can_be d of n) of (and_from (can_be d of m) (can_be d of n) (can_from (width_of d of) m first) (can_from (width_of d of) n second))

measured_read : (d : ModelData) (k : IsPlaced d) (word : List ℕ) (of : Quantity) (m n : ℕ) (row : Row) (first : CanBe d of m) → (h : SpellsMeasured word d of m n row) → measured_at (h.0 ++ h.1 ∷ h.2 ∷ []) ≡ Some (((quantity_read d k of h.0 m first h.3).asked, (m, n)), [])
measured_read d k word of m n row first h =
    let q = quantity_read d k of h.0 m first h.3 in
    measured_front (h.0 ++ h.1 ∷ h.2 ∷ []) q.asked h.1 h.2 m n (q.front (h.1 ∷ h.2 ∷ [])) h.4 h.5

named_stands : (d : ModelData) (kind : ℕ → Demand) (n : Name) (i : ℕ) → position_of (node_names d) n ≡ Some i → (known (position_of (node_names d) n) >>= λ i. Ok (kind i)) ≡ Ok (kind i)
named_stands d kind n i at = rw at refl

pub demand_read : (d : ModelData) → IsPlaced d → (x : Demand) (row : Row) → IsDemand d x → SpellsDemand d x row → IsDemandRead d x row
demand_read d k (demand.Via i) row is h = record {
  asked = Via h.1.0;
  line = ap spelled_row h.2 ∙ via_line h.0 h.1.0 h.1.2;
  stands = named_stands d (λ i. demand.Via i) h.1.0 i (k.nodes i h.1.0 h.1.1);
}
demand_read d k (demand.Avoid i) row is h = record {
  asked = Avoid h.1.0;
  line = ap spelled_row h.2 ∙ avoid_line h.0 h.1.0 h.1.2;
  stands = named_stands d (λ i. demand.Avoid i) h.1.0 i (k.nodes i h.1.0 h.1.1);
}
demand_read d k (demand.Take i true) row is h = record {
  asked = Take h.1.0 true;
  line = ap spelled_row h.2 ∙ then_line h.0 h.1.0 h.1.2;
  stands = ap (λ (o : Option ℕ). known o >>= λ i. Ok (demand.Take i true)) (where_is is_fork d h.1.0 i (k.nodes i h.1.0 h.1.1) is);
}
demand_read d k (demand.Take i false) row is h = record {
  asked = Take h.1.0 false;
  line = ap spelled_row h.2 ∙ else_line h.0 h.1.0 h.1.2;
  stands = ap (λ (o : Option ℕ). known o >>= λ i. Ok (demand.Take i false)) (where_is is_fork d h.1.0 i (k.nodes i h.1.0 h.1.1) is);
}
demand_read d k demand.EndDone row is h = record { asked = EndDone; line = ap spelled_row h ∙ done_line; stands = refl }
demand_read d k (demand.EndFault code) row is h = record {
  asked = EndFault code;
  line = ap spelled_row h.2 ∙ fault_line h.0 code h.1;
  stands = range_is (leb code 65535) (demand.EndFault code) (le-leb code 65535 is);
}
demand_read d k (demand.Page exponent) row is h = record {
  asked = Page exponent;
  line = ap spelled_row h.2 ∙ page_line h.0 exponent h.1;
  stands = range_is (leb exponent d.address) (demand.Page exponent) (le-leb exponent d.address is);
}
demand_read d k (demand.Bits of mask value) row is h =
    let q = quantity_read d k of h.0 mask is.0 h.3 in
    record {
      asked = Bits q.asked mask value;
      line = ap spelled_row h.6 ∙ bits_line (h.0 ++ h.1 ∷ h.2 ∷ []) q.asked mask value (measured_read d k (codes "bits") of mask value row is.0 h);
      stands = ap (λ (r : Result Quantity Cause). r >>= λ q. Ok (demand.Bits q mask value)) (measured_stands d of q.asked mask value is.0 is.1 q.stands);
    }
demand_read d k (demand.Span of lo hi) row is h =
    let q = quantity_read d k of h.0 lo is.0 h.3 in
    record {
      asked = Span q.asked lo hi;
      line = ap spelled_row h.6 ∙ range_line (h.0 ++ h.1 ∷ h.2 ∷ []) q.asked lo hi (measured_read d k (codes "range") of lo hi row is.0 h);
      stands = ap (λ (r : Result Quantity Cause). r >>= λ q. Ok (demand.Span q lo hi)) (measured_stands d of q.asked lo hi is.0 is.1 q.stands);
    }

-- ---- links

-- a link as it is read, and what it stands for
pub record IsLinkRead (d : ModelData) (so : Requests) (x : Link) (row : Row) : Type 0 where
  pub asked : AskedLink
  pub line : spelled_row row ≡ Some (line.Link asked)
  pub stands : link_in d so asked ≡ Some x

sides_front : (t u v w : List ℕ) (a m b n : Name) → name_of t ≡ Some a → name_of u ≡ Some m → name_of v ≡ Some b → name_of w ≡ Some n → lone (sides_at (t ∷ u ∷ v ∷ w ∷ [])) ≡ Some (record { access = a; node = m }, record { access = b; node = n })
unfolding sides_at side_at names_at
sides_front t u v w a m b n p q r s = rw (p, q, r, s) refl

pages_front : (t u : List ℕ) (a b : Name) → name_of t ≡ Some a → name_of u ≡ Some b → lone (names_at (t ∷ u ∷ [])) ≡ Some (a, b)
unfolding names_at
pages_front t u a b p q = rw (p, q) refl

abbrev two_sides : (AskedSide → AskedSide → AskedLink) → Option (AskedSide × AskedSide) → Option Line
two_sides kind o = option_map (λ x. line.Link x) (option_map (λ (x : AskedSide × AskedSide). kind x.0 x.1) o)

abbrev two_names : (Name → Name → AskedLink) → Option (Name × Name) → Option Line
two_names kind o = option_map (λ x. line.Link x) (option_map (λ (x : Name × Name). kind x.0 x.1) o)

share_table_line : (ts : Row) → spelled (codes "share") (codes "table" ∷ ts) ≡ two_sides (λ x y. ShareTable x y) (lone (sides_at ts))
unfolding spelled share_of
share_table_line ts = refl

share_cell_line : (ts : Row) → spelled (codes "share") (codes "cell" ∷ ts) ≡ two_sides (λ x y. ShareCell x y) (lone (sides_at ts))
unfolding spelled share_of
share_cell_line ts = refl

share_page_line : (ts : Row) → spelled (codes "share") (codes "page" ∷ ts) ≡ two_names (λ x y. SharePage x y) (lone (names_at ts))
unfolding spelled share_of
share_page_line ts = refl

apart_table_line : (ts : Row) → spelled (codes "apart") (codes "table" ∷ ts) ≡ two_sides (λ x y. ApartTable x y) (lone (sides_at ts))
unfolding spelled apart_of
apart_table_line ts = refl

apart_page_line : (ts : Row) → spelled (codes "apart") (codes "page" ∷ ts) ≡ two_names (λ x y. ApartPage x y) (lone (names_at ts))
unfolding spelled apart_of
apart_page_line ts = refl

abbrev Named : Name → Name → AskedSide
Named a n = record { access = a; node = n }

side_stands : (d : ModelData) → IsPlaced d → (so : Requests) → ArePlaced (access_names so.accesses) → (s : Side) (a n : Name) → IsSide d (length so.accesses) s → slice_get (access_names so.accesses) s.access ≡ Some a → slice_get (node_names d) s.node ≡ Some n → side_in d so (Named a n) ≡ Some s
side_stands d k so placed s a n is at node =
    rw (placed s.access a at) (rw (where_is is_read d n s.node (k.nodes s.node n node) is.1) refl)

sides_stand : (d : ModelData) (so : Requests) (first second : AskedSide) (a b : Side) → side_in d so first ≡ Some a → side_in d so second ≡ Some b → sides_in d so first second ≡ Some (a, b)
sides_stand d so first second a b p q = rw (p, q) refl

pages_stand : (so : Requests) → ArePlaced (access_names so.accesses) → (a b : ℕ) (m n : Name) → slice_get (access_names so.accesses) a ≡ Some m → slice_get (access_names so.accesses) b ≡ Some n → pages_in so m n ≡ Some (a, b)
pages_stand so placed a b m n p q = rw (placed a m p, placed b n q) refl

-- both sides of a link as they are read
record AreSides (d : ModelData) (so : Requests) (a b : Side) (ts : Row) : Type 0 where
  first : AskedSide
  second : AskedSide
  front : lone (sides_at ts) ≡ Some (first, second)
  stand : sides_in d so first second ≡ Some (a, b)

abbrev SidesRow : (word kind : List ℕ) (d : ModelData) (names : List Name) (a b : Side) (row : Row) → SpellsSides word kind d names a b row → Row
SidesRow word kind d names a b row h = h.0 ∷ h.1 ∷ h.2 ∷ h.3 ∷ []

sides_read : (d : ModelData) → IsPlaced d → (so : Requests) → ArePlaced (access_names so.accesses) → (word kind : List ℕ) (a b : Side) (row : Row) → IsSide d (length so.accesses) a → IsSide d (length so.accesses) b → (h : SpellsSides word kind d (access_names so.accesses) a b row) → AreSides d so a b (SidesRow word kind d (access_names so.accesses) a b row h)
sides_read d k so placed word kind a b row is isnt h = record {
  first = Named h.4.0 h.5.0;
  second = Named h.6.0 h.7.0;
  front = sides_front h.0 h.1 h.2 h.3 h.4.0 h.5.0 h.6.0 h.7.0 h.4.2 h.5.2 h.6.2 h.7.2;
  stand = sides_stand d so (Named h.4.0 h.5.0) (Named h.6.0 h.7.0) a b (side_stands d k so placed a h.4.0 h.5.0 is h.4.1 h.5.1) (side_stands d k so placed b h.6.0 h.7.0 isnt h.6.1 h.7.1);
}

pub link_read : (d : ModelData) → IsPlaced d → (so : Requests) → ArePlaced (access_names so.accesses) → (x : Link) (row : Row) → IsLink d (length so.accesses) x → SpellsLink d (access_names so.accesses) x row → IsLinkRead d so x row
link_read d k so placed (link.ShareTable a b) row is h =
    let s = sides_read d k so placed (codes "share") (codes "table") a b row is.0 is.1 h in
    record {
      asked = ShareTable s.first s.second;
      line = ap spelled_row h.8 ∙ share_table_line _ ∙ ap (two_sides (λ x y. ShareTable x y)) s.front;
      stands = ap (option_map (λ (x : Side × Side). link.ShareTable x.0 x.1)) s.stand;
    }
link_read d k so placed (link.ShareCell a b) row is h =
    let s = sides_read d k so placed (codes "share") (codes "cell") a b row is.0 is.1 h in
    record {
      asked = ShareCell s.first s.second;
      line = ap spelled_row h.8 ∙ share_cell_line _ ∙ ap (two_sides (λ x y. ShareCell x y)) s.front;
      stands = ap (option_map (λ (x : Side × Side). link.ShareCell x.0 x.1)) s.stand;
    }
link_read d k so placed (link.SharePage a b) row is h = record {
  asked = SharePage h.2.0 h.3.0;
  line = ap spelled_row h.4 ∙ share_page_line _ ∙ ap (two_names (λ x y. SharePage x y)) (pages_front h.0 h.1 h.2.0 h.3.0 h.2.2 h.3.2);
  stands = ap (option_map (λ (x : ℕ × ℕ). link.SharePage x.0 x.1)) (pages_stand so placed a b h.2.0 h.3.0 h.2.1 h.3.1);
}
link_read d k so placed (link.ApartTable a b) row is h =
    let s = sides_read d k so placed (codes "apart") (codes "table") a b row is.0 is.1 h in
    record {
      asked = ApartTable s.first s.second;
      line = ap spelled_row h.8 ∙ apart_table_line _ ∙ ap (two_sides (λ x y. ApartTable x y)) s.front;
      stands = ap (option_map (λ (x : Side × Side). link.ApartTable x.0 x.1)) s.stand;
    }
link_read d k so placed (link.ApartPage a b) row is h = record {
  asked = ApartPage h.2.0 h.3.0;
  line = ap spelled_row h.4 ∙ apart_page_line _ ∙ ap (two_names (λ x y. ApartPage x y)) (pages_front h.0 h.1 h.2.0 h.3.0 h.2.2 h.3.2);
  stands = ap (option_map (λ (x : ℕ × ℕ). link.ApartPage x.0 x.1)) (pages_stand so placed a b h.2.0 h.3.0 h.2.1 h.3.1);
}
