-- What the tokens of a line are, where they spell one.
use Rattle.std.proofs.Common.{◌≡◌, ℕ, Bool, true, false, cond, List, [], ◌∷◌, ◌++◌, Option, Some, None, refl, ap, ◌∙◌}
use Rattle.std.specs.Prelude.{IfSome, option_map, codes}
use Rattle.std.specs.Str.{bytes_eq}
use Rattle.std.proofs.lemmas.Slice.Eq.{bytes_eq-Decides}
use Rattle.dt_lemmas.proofs.Options.{chosen_some, mapped_some, made_some}
use Rattle.dt_lex.specs.declared.name.Name.{Name}
use Rattle.dt_lex.specs.Frame.{is_alone, is_nothing, given, ◌>>=◌, Front, name_at, number_at, lone}
use Rattle.dt_lex.specs.Names.{name_of}
use Rattle.dt_lex.specs.Numeral.{number_of}
use Rattle.dt_request.specs.declared.asked.AskedQuantity.{AskedQuantity}
use Rattle.dt_request.specs.declared.asked.AskedQuantity.TheVariants.{Reg, Input, Word, Cell, Pa}
use Rattle.dt_request.specs.declared.asked.AskedDemand.{AskedDemand}
use Rattle.dt_request.specs.declared.asked.AskedDemand.TheVariants.{Via, Avoid, Take, EndDone, EndFault, Page, Bits, Span}
use Rattle.dt_request.specs.declared.asked.AskedSide.{AskedSide}
use Rattle.dt_request.specs.declared.asked.AskedLink.{AskedLink}
use Rattle.dt_request.specs.declared.asked.AskedLink.TheVariants.{ShareTable, ShareCell, SharePage, ApartTable, ApartPage}
use Rattle.dt_request.specs.declared.asked.Line.{Line}
use Rattle.dt_request.specs.declared.asked.Line.TheVariants as line
use Rattle.dt_request.specs.Line.{names_at, numbers_at, named_quantity, quantity_behind, quantity_at, measured_at, branch_of, take_of, ends_of, demand_of, side_at, sides_at, share_of, apart_of, header_of, spelled}
use Rattle.dt_request.specs.Spelling.{Row, SpellsBounds, SpellsContext}
use Rattle.dt_lex.proofs.Fronts.{chained}

-- ---- shapes

-- a word and a name
abbrev pub NamedShape : List ℕ → Name → Row → Type 0
NamedShape word n row = (t : List ℕ) × (name_of t ≡ Some n) × (row ≡ word ∷ t ∷ [])

abbrev pub QuantityShape : AskedQuantity → Row → Type 0
QuantityShape (Reg n) row = NamedShape (codes "reg") n row
QuantityShape (Input n) row = NamedShape (codes "in") n row
QuantityShape (Word n) row = NamedShape (codes "word") n row
QuantityShape (Cell n) row = NamedShape (codes "cell") n row
QuantityShape Pa row = row ≡ codes "pa" ∷ []

abbrev pub MeasuredShape : List ℕ → AskedQuantity → ℕ → ℕ → Row → Type 0
MeasuredShape word of m n row = (q : Row) × (t u : List ℕ) × QuantityShape of q × (number_of t ≡ Some m) × (number_of u ≡ Some n) × (row ≡ word ∷ (q ++ t ∷ u ∷ []))

abbrev pub DemandShape : AskedDemand → Row → Type 0
DemandShape (Via n) row = NamedShape (codes "via") n row
DemandShape (Avoid n) row = NamedShape (codes "avoid") n row
DemandShape (Take n true) row = (t : List ℕ) × (name_of t ≡ Some n) × (row ≡ codes "take" ∷ t ∷ codes "then" ∷ [])
DemandShape (Take n false) row = (t : List ℕ) × (name_of t ≡ Some n) × (row ≡ codes "take" ∷ t ∷ codes "else" ∷ [])
DemandShape EndDone row = row ≡ codes "ends" ∷ codes "done" ∷ []
DemandShape (EndFault code) row = (t : List ℕ) × (number_of t ≡ Some code) × (row ≡ codes "ends" ∷ codes "fault" ∷ t ∷ [])
DemandShape (Page exponent) row = (t : List ℕ) × (number_of t ≡ Some exponent) × (row ≡ codes "page" ∷ t ∷ [])
DemandShape (Bits of mask value) row = MeasuredShape (codes "bits") of mask value row
DemandShape (Span of lo hi) row = MeasuredShape (codes "range") of lo hi row

abbrev pub SidesShape : List ℕ → List ℕ → AskedSide → AskedSide → Row → Type 0
SidesShape word kind a b row =
    (t u v w : List ℕ) × (name_of t ≡ Some a.access) × (name_of u ≡ Some a.node) × (name_of v ≡ Some b.access) × (name_of w ≡ Some b.node) × (row ≡ word ∷ kind ∷ t ∷ u ∷ v ∷ w ∷ [])

abbrev pub PagesShape : List ℕ → Name → Name → Row → Type 0
PagesShape word a b row = (t u : List ℕ) × (name_of t ≡ Some a) × (name_of u ≡ Some b) × (row ≡ word ∷ codes "page" ∷ t ∷ u ∷ [])

abbrev pub LinkShape : AskedLink → Row → Type 0
LinkShape (ShareTable a b) row = SidesShape (codes "share") (codes "table") a b row
LinkShape (ShareCell a b) row = SidesShape (codes "share") (codes "cell") a b row
LinkShape (SharePage a b) row = PagesShape (codes "share") a b row
LinkShape (ApartTable a b) row = SidesShape (codes "apart") (codes "table") a b row
LinkShape (ApartPage a b) row = PagesShape (codes "apart") a b row

-- the row of a line
abbrev pub Shape : Line → Row → Type 0
Shape (line.Header false) row = row ≡ codes "requests" ∷ codes "1" ∷ []
Shape (line.Header true) row = row ≡ codes "requests" ∷ codes "2" ∷ []
Shape (line.Tables lo hi) row = SpellsBounds (codes "tables") lo hi row
Shape (line.Keep lo hi) row = SpellsBounds (codes "keep") lo hi row
Shape (line.Context n) row = SpellsContext n row
Shape (line.Access n context) row = (t u : List ℕ) × (name_of t ≡ Some n) × (name_of u ≡ Some context) × (row ≡ codes "access" ∷ t ∷ u ∷ [])
Shape (line.Demand x) row = DemandShape x row
Shape (line.Link x) row = LinkShape x row
Shape line.End row = row ≡ codes "end" ∷ []

-- ---- tokens from the front

same : (t w : List ℕ) → bytes_eq t w ≡ true → t ≡ w
same t w e = (bytes_eq-Decides t w).0 e

-- a row that begins with this word
with_word : (t w : List ℕ) (ts us : Row) → bytes_eq t w ≡ true → ts ≡ us → t ∷ ts ≡ w ∷ us
with_word t w ts us e f = λ i. same t w e i ∷ f i

-- the first token is a name
abbrev OneName : Row → Name × Row → Type 0
OneName ts x = (t : List ℕ) × (name_of t ≡ Some x.0) × (ts ≡ t ∷ x.1)

abbrev OneNumber : Row → ℕ × Row → Type 0
OneNumber ts x = (t : List ℕ) × (number_of t ≡ Some x.0) × (ts ≡ t ∷ x.1)

name_front : (ts : Row) → IfSome (name_at ts) (OneName ts)
name_front [] = tt
name_front (t ∷ ts) = mapped_some (OneName (t ∷ ts)) (λ n. (n, ts)) (name_of t) (λ n e. (t, e, refl))

number_front : (ts : Row) → IfSome (number_at ts) (OneNumber ts)
number_front [] = tt
number_front (t ∷ ts) = mapped_some (OneNumber (t ∷ ts)) (λ n. (n, ts)) (number_of t) (λ n e. (t, e, refl))

abbrev TwoNames : Row → (Name × Name) × Row → Type 0
TwoNames ts x = (t u : List ℕ) × (name_of t ≡ Some x.0.0) × (name_of u ≡ Some x.0.1) × (ts ≡ t ∷ u ∷ x.1)

names_front : (ts : Row) → IfSome (names_at ts) (TwoNames ts)
unfolding names_at
names_front ts =
    chained (OneName ts) (TwoNames ts) (name_at ts) _ (name_front ts) (λ a p.
    chained (OneName a.1) (TwoNames ts) (name_at a.1) _ (name_front a.1) (λ b q. (p.0, q.0, p.1, q.1, p.2 ∙ ap (λ (us : Row). p.0 ∷ us) q.2)))

abbrev TwoNumbers : Row → (ℕ × ℕ) × Row → Type 0
TwoNumbers ts x = (t u : List ℕ) × (number_of t ≡ Some x.0.0) × (number_of u ≡ Some x.0.1) × (ts ≡ t ∷ u ∷ x.1)

numbers_front : (ts : Row) → IfSome (numbers_at ts) (TwoNumbers ts)
unfolding numbers_at
numbers_front ts =
    chained (OneNumber ts) (TwoNumbers ts) (number_at ts) _ (number_front ts) (λ a p.
    chained (OneNumber a.1) (TwoNumbers ts) (number_at a.1) _ (number_front a.1) (λ b q. (p.0, q.0, p.1, q.1, p.2 ∙ ap (λ (us : Row). p.0 ∷ us) q.2)))

-- what is read alone is all of the tokens
lone_is : {X : Type 0} (P : X × Row → Type 0) (r : Front X) → IfSome r P → IfSome (lone r) (λ x. P (x, []))
lone_is P None h = tt
lone_is P (Some (x, [])) h = h
lone_is P (Some (x, t ∷ ts)) h = tt

one_name : (ts : Row) → IfSome (lone (name_at ts)) (λ n. (t : List ℕ) × (name_of t ≡ Some n) × (ts ≡ t ∷ []))
one_name ts = lone_is (OneName ts) (name_at ts) (name_front ts)

one_number : (ts : Row) → IfSome (lone (number_at ts)) (λ n. (t : List ℕ) × (number_of t ≡ Some n) × (ts ≡ t ∷ []))
one_number ts = lone_is (OneNumber ts) (number_at ts) (number_front ts)

two_names : (ts : Row) → IfSome (lone (names_at ts)) (λ x. TwoNames ts (x, []))
two_names ts = lone_is (TwoNames ts) (names_at ts) (names_front ts)

two_numbers : (ts : Row) → IfSome (lone (numbers_at ts)) (λ x. TwoNumbers ts (x, []))
two_numbers ts = lone_is (TwoNumbers ts) (numbers_at ts) (numbers_front ts)

-- the one token
alone_is : (w : List ℕ) (ts : Row) → is_alone w ts ≡ true → ts ≡ w ∷ []
alone_is w [] e = absurd cc
alone_is w (t ∷ []) e = ap (λ (x : List ℕ). x ∷ []) (same t w e)
alone_is w (t ∷ u ∷ ts) e = absurd cc

-- ---- quantities

abbrev QuantityFront : Row → AskedQuantity × Row → Type 0
QuantityFront ts x = (q : Row) × QuantityShape x.0 q × (ts ≡ q ++ x.1)

named_shape : (t : List ℕ) (n : Name) → IfSome (named_quantity t n) (λ of. (u : List ℕ) → name_of u ≡ Some n → QuantityShape of (t ∷ u ∷ []))
unfolding named_quantity
named_shape t n =
    let Q : AskedQuantity → Type 0 = λ of. (u : List ℕ) → name_of u ≡ Some n → QuantityShape of (t ∷ u ∷ []) in
    chosen_some Q (bytes_eq t (codes "reg")) _ _ (λ e u is. (u, is, with_word t (codes "reg") (u ∷ []) (u ∷ []) e refl))
    (λ _. chosen_some Q (bytes_eq t (codes "in")) _ _ (λ e u is. (u, is, with_word t (codes "in") (u ∷ []) (u ∷ []) e refl))
    (λ _. chosen_some Q (bytes_eq t (codes "word")) _ _ (λ e u is. (u, is, with_word t (codes "word") (u ∷ []) (u ∷ []) e refl))
    (λ _. chosen_some Q (bytes_eq t (codes "cell")) _ _ (λ e u is. (u, is, with_word t (codes "cell") (u ∷ []) (u ∷ []) e refl)) (λ _. tt))))

behind_front : (t : List ℕ) (ts : Row) → IfSome (quantity_behind t ts) (QuantityFront (t ∷ ts))
unfolding quantity_behind
behind_front t ts =
    chained (OneName ts) (QuantityFront (t ∷ ts)) (name_at ts) _ (name_front ts) (λ n p.
    chained (λ of. (u : List ℕ) → name_of u ≡ Some n.0 → QuantityShape of (t ∷ u ∷ [])) (QuantityFront (t ∷ ts)) (named_quantity t n.0) _ (named_shape t n.0) (λ of h.
    (t ∷ p.0 ∷ [], h p.0 p.1, ap (λ (us : Row). t ∷ us) p.2)))

quantity_front : (ts : Row) → IfSome (quantity_at ts) (QuantityFront ts)
unfolding quantity_at
quantity_front [] = tt
quantity_front (t ∷ ts) =
    chosen_some (QuantityFront (t ∷ ts)) (bytes_eq t (codes "pa")) (Some (Pa, ts)) (quantity_behind t ts) (λ e. (codes "pa" ∷ [], refl, with_word t (codes "pa") ts ts e refl)) (λ _. behind_front t ts)

abbrev MeasuredFront : Row → (AskedQuantity × (ℕ × ℕ)) × Row → Type 0
MeasuredFront ts x = (q : Row) × (t u : List ℕ) × QuantityShape x.0.0 q × (number_of t ≡ Some x.0.1.0) × (number_of u ≡ Some x.0.1.1) × (ts ≡ q ++ t ∷ u ∷ x.1)

measured_front : (ts : Row) → IfSome (measured_at ts) (MeasuredFront ts)
unfolding measured_at
measured_front ts =
    chained (QuantityFront ts) (MeasuredFront ts) (quantity_at ts) _ (quantity_front ts) (λ q p.
    chained (TwoNumbers q.1) (MeasuredFront ts) (numbers_at q.1) _ (numbers_front q.1) (λ n r. (p.0, r.0, r.1, p.1, r.2, r.3, p.2 ∙ ap (λ (us : Row). p.0 ++ us) r.4)))

one_measured : (ts : Row) → IfSome (lone (measured_at ts)) (λ x. MeasuredFront ts (x, []))
one_measured ts = lone_is (MeasuredFront ts) (measured_at ts) (measured_front ts)

-- ---- demands

take_shape : (t : List ℕ) (ts : Row) → bytes_eq t (codes "take") ≡ true → IfSome (take_of ts) (λ x. DemandShape x (t ∷ ts))
unfolding take_of branch_of
take_shape t ts is =
    chained (OneName ts) (λ x. DemandShape x (t ∷ ts)) (name_at ts) _ (name_front ts) (λ n p. branch n p (is_alone (codes "then") n.1) refl (is_alone (codes "else") n.1) refl)
  where
    branch : (n : Name × Row) → OneName ts n → (a : Bool) → is_alone (codes "then") n.1 ≡ a → (b : Bool) → is_alone (codes "else") n.1 ≡ b → IfSome (cond a (Some true) (cond b (Some false) None) >>= λ by_then. Some (Take n.0 by_then)) (λ x. DemandShape x (t ∷ ts))
    branch n p true e b f = (p.0, p.1, with_word t (codes "take") ts _ is (p.2 ∙ ap (λ (us : Row). p.0 ∷ us) (alone_is (codes "then") n.1 e)))
    branch n p false e true f = (p.0, p.1, with_word t (codes "take") ts _ is (p.2 ∙ ap (λ (us : Row). p.0 ∷ us) (alone_is (codes "else") n.1 f)))
    branch n p false e false f = tt

ends_shape : (t : List ℕ) (ts : Row) → bytes_eq t (codes "ends") ≡ true → IfSome (ends_of ts) (λ x. DemandShape x (t ∷ ts))
ends_shape t [] is = tt
ends_shape t (u ∷ []) is =
    chosen_some (λ x. DemandShape x (t ∷ u ∷ [])) (bytes_eq u (codes "done")) (Some EndDone) None (λ e. with_word t (codes "ends") (u ∷ []) _ is (ap (λ (x : List ℕ). x ∷ []) (same u (codes "done") e))) (λ _. tt)
ends_shape t (u ∷ v ∷ []) is =
    chosen_some (λ x. DemandShape x (t ∷ u ∷ v ∷ [])) (bytes_eq u (codes "fault")) _ None
    (λ e. mapped_some (λ x. DemandShape x (t ∷ u ∷ v ∷ [])) (λ code. EndFault code) (number_of v) (λ code n. (v, n, with_word t (codes "ends") (u ∷ v ∷ []) _ is (ap (λ (x : List ℕ). x ∷ v ∷ []) (same u (codes "fault") e)))))
    (λ _. tt)
ends_shape t (u ∷ v ∷ w ∷ ts) is = tt

demand_shape : (t : List ℕ) (ts : Row) → IfSome (demand_of t ts) (λ x. DemandShape x (t ∷ ts))
unfolding demand_of
demand_shape t ts =
    let Q : AskedDemand → Type 0 = λ x. DemandShape x (t ∷ ts) in
    chosen_some Q (bytes_eq t (codes "via")) _ _ (λ e. made_some _ Q (lone (name_at ts)) (λ n. Via n) (one_name ts) (λ n p. (p.0, p.1, with_word t (codes "via") ts _ e p.2)))
    (λ _. chosen_some Q (bytes_eq t (codes "avoid")) _ _ (λ e. made_some _ Q (lone (name_at ts)) (λ n. Avoid n) (one_name ts) (λ n p. (p.0, p.1, with_word t (codes "avoid") ts _ e p.2)))
    (λ _. chosen_some Q (bytes_eq t (codes "take")) _ _ (λ e. take_shape t ts e)
    (λ _. chosen_some Q (bytes_eq t (codes "ends")) _ _ (λ e. ends_shape t ts e)
    (λ _. chosen_some Q (bytes_eq t (codes "page")) _ _ (λ e. made_some _ Q (lone (number_at ts)) (λ n. Page n) (one_number ts) (λ n p. (p.0, p.1, with_word t (codes "page") ts _ e p.2)))
    (λ _. chosen_some Q (bytes_eq t (codes "bits")) _ _ (λ e. made_some _ Q (lone (measured_at ts)) (λ x. Bits x.0 x.1.0 x.1.1) (one_measured ts) (λ x p. (p.0, p.1, p.2, p.3, p.4, p.5, with_word t (codes "bits") ts _ e p.6)))
    (λ _. chosen_some Q (bytes_eq t (codes "range")) _ _ (λ e. made_some _ Q (lone (measured_at ts)) (λ x. Span x.0 x.1.0 x.1.1) (one_measured ts) (λ x p. (p.0, p.1, p.2, p.3, p.4, p.5, with_word t (codes "range") ts _ e p.6))) (λ _. tt)))))))

-- ---- links

abbrev OneSide : Row → AskedSide × Row → Type 0
OneSide ts x = (t u : List ℕ) × (name_of t ≡ Some x.0.access) × (name_of u ≡ Some x.0.node) × (ts ≡ t ∷ u ∷ x.1)

side_front : (ts : Row) → IfSome (side_at ts) (OneSide ts)
unfolding side_at
side_front ts = chained (TwoNames ts) (OneSide ts) (names_at ts) _ (names_front ts) (λ x p. p)

abbrev TwoSides : Row → (AskedSide × AskedSide) × Row → Type 0
TwoSides ts x = (t u v w : List ℕ) × (name_of t ≡ Some x.0.0.access) × (name_of u ≡ Some x.0.0.node) × (name_of v ≡ Some x.0.1.access) × (name_of w ≡ Some x.0.1.node) × (ts ≡ t ∷ u ∷ v ∷ w ∷ x.1)

sides_front : (ts : Row) → IfSome (sides_at ts) (TwoSides ts)
unfolding sides_at
sides_front ts =
    chained (OneSide ts) (TwoSides ts) (side_at ts) _ (side_front ts) (λ a p.
    chained (OneSide a.1) (TwoSides ts) (side_at a.1) _ (side_front a.1) (λ b q. (p.0, p.1, q.0, q.1, p.2, p.3, q.2, q.3, p.4 ∙ ap (λ (us : Row). p.0 ∷ p.1 ∷ us) q.4)))

two_sides : (ts : Row) → IfSome (lone (sides_at ts)) (λ x. TwoSides ts (x, []))
two_sides ts = lone_is (TwoSides ts) (sides_at ts) (sides_front ts)

-- a row that begins with two words
with_words : (t w u k : List ℕ) (ts us : Row) → bytes_eq t w ≡ true → bytes_eq u k ≡ true → ts ≡ us → t ∷ u ∷ ts ≡ w ∷ k ∷ us
with_words t w u k ts us e f g = λ i. same t w e i ∷ same u k f i ∷ g i

share_shape : (t : List ℕ) (ts : Row) → bytes_eq t (codes "share") ≡ true → IfSome (share_of ts) (λ x. LinkShape x (t ∷ ts))
unfolding share_of
share_shape t [] is = tt
share_shape t (u ∷ ts) is =
    let Q : AskedLink → Type 0 = λ x. LinkShape x (t ∷ u ∷ ts) in
    chosen_some Q (bytes_eq u (codes "table")) _ _ (λ e. made_some _ Q (lone (sides_at ts)) (λ x. ShareTable x.0 x.1) (two_sides ts) (λ x p. (p.0, p.1, p.2, p.3, p.4, p.5, p.6, p.7, with_words t (codes "share") u (codes "table") ts _ is e p.8)))
    (λ _. chosen_some Q (bytes_eq u (codes "cell")) _ _ (λ e. made_some _ Q (lone (sides_at ts)) (λ x. ShareCell x.0 x.1) (two_sides ts) (λ x p. (p.0, p.1, p.2, p.3, p.4, p.5, p.6, p.7, with_words t (codes "share") u (codes "cell") ts _ is e p.8)))
    (λ _. chosen_some Q (bytes_eq u (codes "page")) _ _ (λ e. made_some _ Q (lone (names_at ts)) (λ x. SharePage x.0 x.1) (two_names ts) (λ x p. (p.0, p.1, p.2, p.3, with_words t (codes "share") u (codes "page") ts _ is e p.4))) (λ _. tt)))

apart_shape : (t : List ℕ) (ts : Row) → bytes_eq t (codes "apart") ≡ true → IfSome (apart_of ts) (λ x. LinkShape x (t ∷ ts))
unfolding apart_of
apart_shape t [] is = tt
apart_shape t (u ∷ ts) is =
    let Q : AskedLink → Type 0 = λ x. LinkShape x (t ∷ u ∷ ts) in
    chosen_some Q (bytes_eq u (codes "table")) _ _ (λ e. made_some _ Q (lone (sides_at ts)) (λ x. ApartTable x.0 x.1) (two_sides ts) (λ x p. (p.0, p.1, p.2, p.3, p.4, p.5, p.6, p.7, with_words t (codes "apart") u (codes "table") ts _ is e p.8)))
    (λ _. chosen_some Q (bytes_eq u (codes "page")) _ _ (λ e. made_some _ Q (lone (names_at ts)) (λ x. ApartPage x.0 x.1) (two_names ts) (λ x p. (p.0, p.1, p.2, p.3, with_words t (codes "apart") u (codes "page") ts _ is e p.4))) (λ _. tt))

-- ---- lines

header_shape : (t : List ℕ) (ts : Row) → bytes_eq t (codes "requests") ≡ true → IfSome (header_of ts) (λ l. Shape l (t ∷ ts))
header_shape t ts is =
    chosen_some (λ l. Shape l (t ∷ ts)) (is_alone (codes "1") ts) _ _ (λ e. with_word t (codes "requests") ts _ is (alone_is (codes "1") ts e))
    (λ _. chosen_some (λ l. Shape l (t ∷ ts)) (is_alone (codes "2") ts) _ _ (λ e. with_word t (codes "requests") ts _ is (alone_is (codes "2") ts e)) (λ _. tt))

end_shape : (t : List ℕ) (ts : Row) → bytes_eq t (codes "end") ≡ true → IfSome (given (is_nothing ts) line.End) (λ l. Shape l (t ∷ ts))
end_shape t [] is = ap (λ (x : List ℕ). x ∷ []) (same t (codes "end") is)
end_shape t (u ∷ ts) is = tt

-- a line that is spelled has the shape of its kind
pub spelled_shape : (t : List ℕ) (ts : Row) → IfSome (spelled t ts) (λ l. Shape l (t ∷ ts))
unfolding spelled
spelled_shape t ts =
    let Q : Line → Type 0 = λ l. Shape l (t ∷ ts) in
    chosen_some Q (bytes_eq t (codes "requests")) _ _ (λ e. header_shape t ts e)
    (λ _. chosen_some Q (bytes_eq t (codes "tables")) _ _ (λ e. made_some _ Q (lone (numbers_at ts)) (λ x. line.Tables x.0 x.1) (two_numbers ts) (λ x p. (p.0, p.1, p.2, p.3, with_word t (codes "tables") ts _ e p.4)))
    (λ _. chosen_some Q (bytes_eq t (codes "keep")) _ _ (λ e. made_some _ Q (lone (numbers_at ts)) (λ x. line.Keep x.0 x.1) (two_numbers ts) (λ x p. (p.0, p.1, p.2, p.3, with_word t (codes "keep") ts _ e p.4)))
    (λ _. chosen_some Q (bytes_eq t (codes "context")) _ _ (λ e. made_some _ Q (lone (name_at ts)) (λ n. line.Context n) (one_name ts) (λ n p. (p.0, p.1, with_word t (codes "context") ts _ e p.2)))
    (λ _. chosen_some Q (bytes_eq t (codes "access")) _ _ (λ e. made_some _ Q (lone (names_at ts)) (λ x. line.Access x.0 x.1) (two_names ts) (λ x p. (p.0, p.1, p.2, p.3, with_word t (codes "access") ts _ e p.4)))
    (λ _. chosen_some Q (bytes_eq t (codes "share")) _ _ (λ e. made_some _ Q (share_of ts) (λ x. line.Link x) (share_shape t ts e) (λ x p. p))
    (λ _. chosen_some Q (bytes_eq t (codes "apart")) _ _ (λ e. made_some _ Q (apart_of ts) (λ x. line.Link x) (apart_shape t ts e) (λ x p. p))
    (λ _. chosen_some Q (bytes_eq t (codes "end")) _ _ (λ e. end_shape t ts e)
    (λ _. made_some _ Q (demand_of t ts) (λ x. line.Demand x) (demand_shape t ts) (λ x p. p)))))))))
