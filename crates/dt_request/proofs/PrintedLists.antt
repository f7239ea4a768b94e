-- A printed list spells the list, in short rows of words.
use Rattle.std.proofs.Common.{◌≡◌, ℕ, zero, suc, ◌-◌, ◌*◌, ◌^◌, ◌<◌, ◌≤◌, Bool, true, false, cond, List, [], ◌∷◌, ◌++◌, length, Option, Some, None, Ok, refl, sym, ap, subst, ◌∙◌, arith, inl, inr}
use Rattle.std.specs.Prelude.{map, codes, slice_get, option_map, All, IsSomeAnd, IsTrue}
use Rattle.std.specs.List.{flat_map, AllByRecursion}
use Rattle.std.specs.Option.{option_map_or}
use Rattle.std.proofs.lemmas.Option.{slice_get_within}
use Rattle.std.proofs.lemmas.List.{length-append, length-map}
use Rattle.std.proofs.lemmas.List.Elements.{All-head, All-tail, All-map}
use Rattle.std.proofs.Math.Pow.{pow_mono}
use Rattle.dt_lemmas.proofs.Lists.{element, all_at, AllByRecursion-append}
use Rattle.dt_lemmas.proofs.Powers.{wide}
use Rattle.dt_lex.specs.declared.name.Name.{Name}
use Rattle.dt_lex.specs.Names.{name_of, bytes_of, IsName}
use Rattle.dt_lex.specs.Numeral.{decimal, hex}
use Rattle.dt_lex.specs.Printing.{all_plain, body_of, spaced, row_text, text_of, IsWord, IsRow}
use Rattle.dt_lex.proofs.NameWords.{name_word}
use Rattle.dt_lex.proofs.Printed.{number_of-hex, number_of-decimal, IsWord-hex, IsWord-decimal, length-hex-le, length-decimal-le, spaced_le, reading_printed}
use Rattle.dt_model.specs.declared.model.Named.{Named}
use Rattle.dt_model.specs.ModelData.{ModelData, ActData}
use Rattle.dt_model.specs.Widths.{AreWidths, width_at}
use Rattle.dt_model.specs.Faults.{IsAccepted, names_of, steps, is_read}
use Rattle.dt_model.specs.Spelled.{HaveNames}
use Rattle.dt_model.proofs.Accepting.{reg_widths, input_widths, accepted_address}
use Rattle.dt_request.specs.declared.list.Quantity.{Quantity}
use Rattle.dt_request.specs.declared.list.Quantity.TheVariants as quantity
use Rattle.dt_request.specs.declared.list.Demand.{Demand}
use Rattle.dt_request.specs.declared.list.Demand.TheVariants as demand
use Rattle.dt_request.specs.declared.list.Side.{Side}
use Rattle.dt_request.specs.declared.list.Link.{Link}
use Rattle.dt_request.specs.declared.list.Link.TheVariants as link
use Rattle.dt_request.specs.declared.list.KeptRange.{KeptRange}
use Rattle.dt_request.specs.declared.list.AccessWish.{AccessWish}
use Rattle.dt_request.specs.declared.list.Requests.{Requests}
use Rattle.dt_request.specs.Lists.{is_fork, read_width, CanBe, IsDemand, IsWish, access_names, IsSide, IsLink, IsKept, IsList}
use Rattle.dt_request.specs.Entry.{node_names}
use Rattle.dt_request.specs.Draft.{declared, nothing, added}
use Rattle.dt_request.specs.Read.{grammar, finished, reading}
use Rattle.dt_request.specs.Laws.{adds_up}
use Rattle.dt_request.specs.Spelling.{Row, SpellsName, SpellsNamed, SpellsQuantity, SpellsMeasured, SpellsDemand, SpellsSides, SpellsPages, SpellsLink, SpellsHeader, SpellsBounds, SpellsKept, SpellsContext, SpellsAccess, SpellEach, SpellWish, SpellWishes, Spell}
use Rattle.dt_request.specs.Print.{name_text, quantity_row, demand_row, access_rows, sides_row, pages_row, link_row, version_of, keep_row, context_row, rows_of, printed}
use Rattle.dt_request.proofs.Choosing.{word_few}
use Rattle.dt_request.proofs.SpelledLists.{state, list_read}
use Rattle.dt_request.proofs.ReadLists.{rows_run}

-- ---- tokens

-- a token of few bytes
pub record IsToken (t : List ℕ) : Type 0 where
  pub word : IsWord t
  pub short : length t ≤ 39

abbrev AreTokens : Row → Type 0
AreTokens row = AllByRecursion IsToken row

hex_token : (n : ℕ) → n < 2 ^ 128 → IsToken (hex n)
hex_token n lt = record { word = IsWord-hex n; short = omega (arith, length-hex-le n lt) }

decimal_token : (n : ℕ) → n < 2 ^ 128 → IsToken (decimal n)
decimal_token n lt = record { word = IsWord-decimal n; short = length-decimal-le n lt }

spelling_token : (t : List ℕ) (n : Name) → name_of t ≡ Some n → IsToken t
spelling_token t n is = let w = name_word t n is in record { word = w.0; short = omega (arith, w.1) }

text_spells : (names : List Name) (i : ℕ) → All IsName names → i < length names → SpellsName names i (name_text names i)
text_spells names i are lt =
    let e = element names i lt in
    (e.0, e.1, ap (λ (o : Option Name). name_of (option_map_or (λ n. bytes_of n) o [])) e.1 ∙ all_at IsName names i e.0 are e.1)

name_token : (names : List Name) (i : ℕ) → All IsName names → i < length names → IsToken (name_text names i)
name_token names i are lt = let s = text_spells names i are lt in spelling_token (name_text names i) s.0 s.2

-- a row of few tokens has room in a line
all_words : (row : Row) → AreTokens row → AllByRecursion IsWord row
all_words [] h = tt
all_words (t ∷ ts) h = (h.0.word, all_words ts h.1)

all_short : (row : Row) → AreTokens row → AllByRecursion (λ t. length t ≤ 39) row
all_short [] h = tt
all_short (t ∷ ts) h = (h.0.short, all_short ts h.1)

row_ok : (t : List ℕ) (ts : Row) → AreTokens (t ∷ ts) → length ts ≤ 9 → IsRow (t ∷ ts)
row_ok t ts h few = record {
  words = all_words (t ∷ ts) h;
  short = omega (arith, length-append t (spaced ts), spaced_le 39 ts (all_short ts h.1), h.0.short, few);
}

word_token : (t : List ℕ) → (some : 0 < length t) → all_plain t ≡ true → length t ≤ 39 → IsToken t
word_token t some plain short = record { word = record { some = some; plain = plain }; short = short }

-- ---- names and numbers of a list

-- what the names of a model are
record AreSpelled (d : ModelData) : Type 0 where
  regs : All IsName (names_of d.regs)
  inputs : All IsName (names_of d.inputs)
  nodes : All IsName (node_names d)

spelled_model : (d : ModelData) → HaveNames d → AreSpelled d
spelled_model d h = record {
  regs = All-map IsName (λ n. n.name) d.regs h.regs;
  inputs = All-map IsName (λ n. n.name) d.inputs h.inputs;
  nodes = All-map IsName (λ n. n.name) d.nodes h.nodes;
}

within_names : (names : List Named) (i : ℕ) (P : ℕ → Type 0) → IsSomeAnd (width_at names i) P → i < length (names_of names)
within_names names i P h = choose (slice_get names i) refl h
  where
    choose : (o : Option Named) → slice_get names i ≡ o → IsSomeAnd (option_map (λ n. n.width) o) P → i < length (names_of names)
    choose None e k = absurd k
    choose (Some n) e k = omega (arith, slice_get_within names i n e, length-map names (λ m. m.name))

within_steps : (d : ModelData) (i : ℕ) (P : ActData → Type 0) → IsSomeAnd (slice_get (steps d) i) P → i < length (node_names d)
within_steps d i P h = choose (slice_get (steps d) i) refl h
  where
    choose : (o : Option ActData) → slice_get (steps d) i ≡ o → IsSomeAnd o P → i < length (node_names d)
    choose None e k = absurd k
    choose (Some p) e k = omega (arith, slice_get_within (steps d) i p e, length-map d.nodes (λ n. n.step), length-map d.nodes (λ n. n.name))

read_within : (w : ℕ) (o : Option ActData) (P : ℕ → Type 0) → IsSomeAnd (read_width w o) P → IsSomeAnd o (λ p. Unit {0})
read_within w None P h = absurd h
read_within w (Some p) P h = tt

named_small : (names : List Named) (i n : ℕ) → AreWidths names → IsSomeAnd (width_at names i) (λ w. n < 2 ^ w) → n < 2 ^ 128
named_small [] i n w h = absurd h
named_small (x ∷ xs) zero n w h = wide x.width n w.0.1 h
named_small (x ∷ xs) (suc i) n w h = named_small xs i n w.1 h

read_small : (w : ℕ) (o : Option ActData) (n : ℕ) → w ≤ 128 → IsSomeAnd (read_width w o) (λ w. n < 2 ^ w) → n < 2 ^ 128
read_small w None n few h = absurd h
read_small w (Some p) n few h = choose (is_read p) h
  where
    choose : (b : Bool) → IsSomeAnd (cond b (Some w) None) (λ w. n < 2 ^ w) → n < 2 ^ 128
    choose true k = wide w n few k
    choose false k = absurd k

can_small : (d : ModelData) → IsAccepted d → (q : Quantity) (n : ℕ) → CanBe d q n → n < 2 ^ 128
can_small d a (quantity.Reg i) n h = named_small d.regs i n (reg_widths d a) h
can_small d a (quantity.Input i) n h = named_small d.inputs i n (input_widths d a) h
can_small d a (quantity.Word i) n h = read_small d.word (slice_get (steps d) i) n (omega (arith, word_few d a)) h
can_small d a (quantity.Cell i) n h = read_small d.address (slice_get (steps d) i) n (omega (arith, (accepted_address d a).1)) h
can_small d a quantity.Pa n h = wide d.address n (omega (arith, (accepted_address d a).1)) h

address_small : (d : ModelData) (n : ℕ) → IsAccepted d → n ≤ 2 ^ d.address → n < 2 ^ 128
address_small d n a le = let most : 2 ^ d.address ≤ 2 ^ 64 = pow_mono (accepted_address d a).1 in omega (arith, le, most)

-- ---- demands

-- the row is a short one that spells so
pub record Prints (S : Row → Type 0) (row : Row) : Type 0 where
  pub spells : S row
  pub short : IsRow row

record IsQuantityPrinted (d : ModelData) (q : Quantity) (row : Row) : Type 0 where
  spells : SpellsQuantity d q row
  tokens : AreTokens row
  few : length row ≤ 2

quantity_printed : (d : ModelData) → AreSpelled d → (q : Quantity) (n : ℕ) → CanBe d q n → IsQuantityPrinted d q (quantity_row d q)
quantity_printed d s (quantity.Reg i) n h =
    let lt = within_names d.regs i (λ w. n < 2 ^ w) h in
    record { spells = (name_text (names_of d.regs) i, text_spells (names_of d.regs) i s.regs lt, refl); tokens = (word_token (codes "reg") (omega arith) refl (omega arith), (name_token (names_of d.regs) i s.regs lt, tt)); few = omega arith }
quantity_printed d s (quantity.Input i) n h =
    let lt = within_names d.inputs i (λ w. n < 2 ^ w) h in
    record { spells = (name_text (names_of d.inputs) i, text_spells (names_of d.inputs) i s.inputs lt, refl); tokens = (word_token (codes "in") (omega arith) refl (omega arith), (name_token (names_of d.inputs) i s.inputs lt, tt)); few = omega arith }
quantity_printed d s (quantity.Word i) n h =
    let lt = within_steps d i (λ p. Unit {0}) (read_within d.word (slice_get (steps d) i) (λ w. n < 2 ^ w) h) in
    record { spells = (name_text (node_names d) i, text_spells (node_names d) i s.nodes lt, refl); tokens = (word_token (codes "word") (omega arith) refl (omega arith), (name_token (node_names d) i s.nodes lt, tt)); few = omega arith }
quantity_printed d s (quantity.Cell i) n h =
    let lt = within_steps d i (λ p. Unit {0}) (read_within d.address (slice_get (steps d) i) (λ w. n < 2 ^ w) h) in
    record { spells = (name_text (node_names d) i, text_spells (node_names d) i s.nodes lt, refl); tokens = (word_token (codes "cell") (omega arith) refl (omega arith), (name_token (node_names d) i s.nodes lt, tt)); few = omega arith }
quantity_printed d s quantity.Pa n h = record { spells = refl; tokens = (word_token (codes "pa") (omega arith) refl (omega arith), tt); few = omega arith }

measured_printed : (d : ModelData) → IsAccepted d → AreSpelled d → (word : List ℕ) → IsToken word → (q : Quantity) (m n : ℕ) → CanBe d q m → CanBe d q n → Prints (SpellsMeasured word d q m n) (word ∷ (quantity_row d q ++ hex m ∷ hex n ∷ []))
measured_printed d a s word w q m n first second =
    let p = quantity_printed d s q m first in
    let mt = hex_token m (can_small d a q m first) in
    let nt = hex_token n (can_small d a q n second) in
    record {
      spells = (quantity_row d q, hex m, hex n, p.spells, number_of-hex m (can_small d a q m first), number_of-hex n (can_small d a q n second), refl);
      short = row_ok word (quantity_row d q ++ hex m ∷ hex n ∷ []) (w, AllByRecursion-append IsToken (quantity_row d q) (hex m ∷ hex n ∷ []) p.tokens (mt, (nt, tt))) (omega (arith, p.few, length-append (quantity_row d q) (hex m ∷ hex n ∷ [])));
    }

node_printed : (d : ModelData) → AreSpelled d → (word : List ℕ) → IsToken word → (i : ℕ) → i < length d.nodes → Prints (SpellsNamed word (node_names d) i) (word ∷ name_text (node_names d) i ∷ [])
node_printed d s word w i lt =
    let in_names : i < length (node_names d) = omega (arith, lt, length-map d.nodes (λ n. n.name)) in
    record {
      spells = (name_text (node_names d) i, text_spells (node_names d) i s.nodes in_names, refl);
      short = row_ok word (name_text (node_names d) i ∷ []) (w, (name_token (node_names d) i s.nodes in_names, tt)) (omega arith);
    }

demand_printed : (d : ModelData) → IsAccepted d → AreSpelled d → (x : Demand) → IsDemand d x → Prints (SpellsDemand d x) (demand_row d x)
demand_printed d a s (demand.Via i) h = let p = node_printed d s (codes "via") (word_token (codes "via") (omega arith) refl (omega arith)) i h in record { spells = p.spells; short = p.short }
demand_printed d a s (demand.Avoid i) h = let p = node_printed d s (codes "avoid") (word_token (codes "avoid") (omega arith) refl (omega arith)) i h in record { spells = p.spells; short = p.short }
demand_printed d a s (demand.Take i true) h =
    let lt = within_steps d i (λ p. IsTrue (is_fork p)) h in
    record {
      spells = (name_text (node_names d) i, text_spells (node_names d) i s.nodes lt, refl);
      short = row_ok (codes "take") (name_text (node_names d) i ∷ codes "then" ∷ []) (word_token (codes "take") (omega arith) refl (omega arith), (name_token (node_names d) i s.nodes lt, (word_token (codes "then") (omega arith) refl (omega arith), tt))) (omega arith);
    }
demand_printed d a s (demand.Take i false) h =
    let lt = within_steps d i (λ p. IsTrue (is_fork p)) h in
    record {
      spells = (name_text (node_names d) i, text_spells (node_names d) i s.nodes lt, refl);
      short = row_ok (codes "take") (name_text (node_names d) i ∷ codes "else" ∷ []) (word_token (codes "take") (omega arith) refl (omega arith), (name_token (node_names d) i s.nodes lt, (word_token (codes "else") (omega arith) refl (omega arith), tt))) (omega arith);
    }
demand_printed d a s demand.EndDone h = record { spells = refl; short = row_ok (codes "ends") (codes "done" ∷ []) (word_token (codes "ends") (omega arith) refl (omega arith), (word_token (codes "done") (omega arith) refl (omega arith), tt)) (omega arith) }
demand_printed d a s (demand.EndFault code) h =
    let small : code < 2 ^ 128 = omega (arith, h) in
    record {
      spells = (decimal code, number_of-decimal code small, refl);
      short = row_ok (codes "ends") (codes "fault" ∷ decimal code ∷ []) (word_token (codes "ends") (omega arith) refl (omega arith), (word_token (codes "fault") (omega arith) refl (omega arith), (decimal_token code small, tt))) (omega arith);
    }
demand_printed d a s (demand.Page exponent) h =
    let small : exponent < 2 ^ 128 = omega (arith, h, (accepted_address d a).1) in
    record {
      spells = (decimal exponent, number_of-decimal exponent small, refl);
      short = row_ok (codes "page") (decimal exponent ∷ []) (word_token (codes "page") (omega arith) refl (omega arith), (decimal_token exponent small, tt)) (omega arith);
    }
demand_printed d a s (demand.Bits of mask value) h =
    let p = measured_printed d a s (codes "bits") (word_token (codes "bits") (omega arith) refl (omega arith)) of mask value h.0 h.1 in
    record { spells = p.spells; short = p.short }
demand_printed d a s (demand.Span of lo hi) h =
    let p = measured_printed d a s (codes "range") (word_token (codes "range") (omega arith) refl (omega arith)) of lo hi h.0 h.1 in
    record { spells = p.spells; short = p.short }

-- ---- links

sides_printed : (d : ModelData) → AreSpelled d → (names : List Name) → All IsName names → (word kind : List ℕ) → IsToken word → IsToken kind → (a b : Side) → IsSide d (length names) a → IsSide d (length names) b → Prints (SpellsSides word kind d names a b) (word ∷ kind ∷ sides_row d names a b)
sides_printed d s names are word kind w k a b first second =
    let m = within_steps d a.node (λ p. IsTrue (is_read p)) first.1 in
    let n = within_steps d b.node (λ p. IsTrue (is_read p)) second.1 in
    record {
      spells = (name_text names a.access, name_text (node_names d) a.node, name_text names b.access, name_text (node_names d) b.node, text_spells names a.access are first.0, text_spells (node_names d) a.node s.nodes m, text_spells names b.access are second.0, text_spells (node_names d) b.node s.nodes n, refl);
      short = row_ok word (kind ∷ sides_row d names a b) (w, (k, (name_token names a.access are first.0, (name_token (node_names d) a.node s.nodes m, (name_token names b.access are second.0, (name_token (node_names d) b.node s.nodes n, tt)))))) (omega arith);
    }

pages_printed : (names : List Name) → All IsName names → (word : List ℕ) → IsToken word → (a b : ℕ) → a < length names → b < length names → Prints (SpellsPages word names a b) (word ∷ codes "page" ∷ pages_row names a b)
pages_printed names are word w a b first second = record {
  spells = (name_text names a, name_text names b, text_spells names a are first, text_spells names b are second, refl);
  short = row_ok word (codes "page" ∷ pages_row names a b) (w, (word_token (codes "page") (omega arith) refl (omega arith), (name_token names a are first, (name_token names b are second, tt)))) (omega arith);
}

share_token : IsToken (codes "share")
share_token = word_token (codes "share") (omega arith) refl (omega arith)

apart_token : IsToken (codes "apart")
apart_token = word_token (codes "apart") (omega arith) refl (omega arith)

table_token : IsToken (codes "table")
table_token = word_token (codes "table") (omega arith) refl (omega arith)

link_printed : (d : ModelData) → AreSpelled d → (names : List Name) → All IsName names → (x : Link) → IsLink d (length names) x → Prints (SpellsLink d names x) (link_row d names x)
link_printed d s names are (link.ShareTable a b) h = let p = sides_printed d s names are (codes "share") (codes "table") share_token table_token a b h.0 h.1 in record { spells = p.spells; short = p.short }
link_printed d s names are (link.ShareCell a b) h = let p = sides_printed d s names are (codes "share") (codes "cell") share_token (word_token (codes "cell") (omega arith) refl (omega arith)) a b h.0 h.1 in record { spells = p.spells; short = p.short }
link_printed d s names are (link.SharePage a b) h = let p = pages_printed names are (codes "share") share_token a b h.0 h.1 in record { spells = p.spells; short = p.short }
link_printed d s names are (link.ApartTable a b) h = let p = sides_printed d s names are (codes "apart") (codes "table") apart_token table_token a b h.0 h.1 in record { spells = p.spells; short = p.short }
link_printed d s names are (link.ApartPage a b) h = let p = pages_printed names are (codes "apart") apart_token a b h.0 h.1 in record { spells = p.spells; short = p.short }

-- ---- other lines

bounds_printed : (word : List ℕ) → IsToken word → (lo hi : ℕ) → lo < 2 ^ 128 → hi < 2 ^ 128 → Prints (SpellsBounds word lo hi) (word ∷ hex lo ∷ hex hi ∷ [])
bounds_printed word w lo hi p q = record {
  spells = (hex lo, hex hi, number_of-hex lo p, number_of-hex hi q, refl);
  short = row_ok word (hex lo ∷ hex hi ∷ []) (w, (hex_token lo p, (hex_token hi q, tt))) (omega arith);
}

kept_printed : (d : ModelData) → IsAccepted d → (k : KeptRange) → IsKept d k → Prints (SpellsKept k) (keep_row k)
kept_printed d a k h =
    let high = address_small d k.hi a h.within in
    let p = bounds_printed (codes "keep") (word_token (codes "keep") (omega arith) refl (omega arith)) k.lo k.hi (omega (arith, h.rising, high)) high in
    record { spells = p.spells; short = p.short }

context_printed : (n : Name) → IsName n → Prints (SpellsContext n) (context_row n)
context_printed n is = record {
  spells = (bytes_of n, is, refl);
  short = row_ok (codes "context") (bytes_of n ∷ []) (word_token (codes "context") (omega arith) refl (omega arith), (spelling_token (bytes_of n) n is, tt)) (omega arith);
}

access_printed : (contexts : List Name) → All IsName contexts → (a : AccessWish) → IsName a.name → a.context < length contexts → Prints (SpellsAccess contexts a) (codes "access" ∷ bytes_of a.name ∷ name_text contexts a.context ∷ [])
access_printed contexts are a is lt = record {
  spells = (bytes_of a.name, name_text contexts a.context, is, text_spells contexts a.context are lt, refl);
  short = row_ok (codes "access") (bytes_of a.name ∷ name_text contexts a.context ∷ []) (word_token (codes "access") (omega arith) refl (omega arith), (spelling_token (bytes_of a.name) a.name is, (name_token contexts a.context are lt, tt))) (omega arith);
}

-- ---- blocks of lines

-- the rows are short ones that spell so, and are so many at most
pub record PrintsAll (S : List Row → Type 0) (most : ℕ) (rows : List Row) : Type 0 where
  pub spells : S rows
  pub short : AllByRecursion IsRow rows
  pub few : length rows ≤ most

each_printed : {X : Type 0} (R : X → Row → Type 0) (P : X → Type 0) (row : X → Row) (xs : List X) → ((x : X) → P x → Prints (R x) (row x)) → All P xs → PrintsAll (SpellEach R xs) (length xs) (map row xs)
each_printed R P row [] h are = record { spells = tt; short = tt; few = omega arith }
each_printed R P row (x ∷ xs) h are =
    let p = h x (All-head P x xs are) in
    let q = each_printed R P row xs h (All-tail P x xs are) in
    record { spells = (p.spells, q.spells); short = (p.short, q.short); few = omega (arith, q.few) }

wish_printed : (d : ModelData) → IsAccepted d → AreSpelled d → (contexts : List Name) → All IsName contexts → (a : AccessWish) → IsName a.name → IsWish d (length contexts) a → PrintsAll (SpellWish d contexts a) 65 (access_rows d contexts a)
wish_printed d acc s contexts are a name is =
    let p = access_printed contexts are a name is.context in
    let q = each_printed (SpellsDemand d) (IsDemand d) (demand_row d) a.demands (demand_printed d acc s) is.demands in
    record { spells = (p.spells, q.spells); short = (p.short, q.short); few = omega (arith, q.few, is.few_demands) }

wishes_printed : (d : ModelData) → IsAccepted d → AreSpelled d → (contexts : List Name) → All IsName contexts → (wishes : List AccessWish) → All IsName (access_names wishes) → All (IsWish d (length contexts)) wishes → PrintsAll (SpellWishes d contexts wishes) (length wishes * 65) (flat_map (access_rows d contexts) wishes)
wishes_printed d acc s contexts are [] names is = record { spells = refl; short = tt; few = omega arith }
wishes_printed d acc s contexts are (a ∷ wishes) names is =
    let p = wish_printed d acc s contexts are a (All-head IsName a.name (access_names wishes) names) (All-head (IsWish d (length contexts)) a wishes is) in
    let q = wishes_printed d acc s contexts are wishes (All-tail IsName a.name (access_names wishes) names) (All-tail (IsWish d (length contexts)) a wishes is) in
    record {
      spells = (access_rows d contexts a, flat_map (access_rows d contexts) wishes, p.spells, q.spells, refl);
      short = AllByRecursion-append IsRow (access_rows d contexts a) (flat_map (access_rows d contexts) wishes) p.short q.short;
      few = omega (arith, p.few, q.few, length-append (access_rows d contexts a) (flat_map (access_rows d contexts) wishes));
    }

-- ---- the whole list

header_printed : (kept : List KeptRange) → Prints (SpellsHeader kept) (codes "requests" ∷ version_of kept ∷ [])
header_printed [] = record { spells = inl (refl, refl); short = row_ok (codes "requests") (codes "1" ∷ []) (word_token (codes "requests") (omega arith) refl (omega arith), (word_token (codes "1") (omega arith) refl (omega arith), tt)) (omega arith) }
header_printed (k ∷ ks) = record { spells = inr refl; short = row_ok (codes "requests") (codes "2" ∷ []) (word_token (codes "requests") (omega arith) refl (omega arith), (word_token (codes "2") (omega arith) refl (omega arith), tt)) (omega arith) }

pub list_printed : (d : ModelData) (r : Requests) → IsAccepted d → HaveNames d → IsList d r → PrintsAll (Spell d r) 4451 (rows_of d r)
list_printed d r a names is =
    let s = spelled_model d names in
    let count = length-map r.accesses (λ (w : AccessWish). w.name) in
    let high = address_small d r.hi a is.bounds.within in
    let bounds = bounds_printed (codes "tables") (word_token (codes "tables") (omega arith) refl (omega arith)) r.lo r.hi (omega (arith, is.bounds.rising, high)) high in
    let header = header_printed r.kept in
    let kept = each_printed SpellsKept (IsKept d) keep_row r.kept (kept_printed d a) is.kept in
    let contexts = each_printed SpellsContext IsName context_row r.contexts context_printed is.contexts.spelled in
    let accesses = wishes_printed d a s r.contexts is.contexts.spelled r.accesses is.names.spelled is.accesses in
    let links = each_printed (SpellsLink d (access_names r.accesses)) (IsLink d (length (access_names r.accesses))) (link_row d (access_names r.accesses)) r.links (link_printed d s (access_names r.accesses) is.names.spelled) (subst (λ (n : ℕ). All (IsLink d n) r.links) (sym count) is.links) in
    let end : IsRow (codes "end" ∷ []) = row_ok (codes "end") [] (word_token (codes "end") (omega arith) refl (omega arith), tt) (omega arith) in
    let ks = map keep_row r.kept in
    let cs = map context_row r.contexts in
    let accs = flat_map (access_rows d r.contexts) r.accesses in
    let ls = map (link_row d (access_names r.accesses)) r.links in
    let last : List Row = (codes "end" ∷ []) ∷ [] in
    record {
      spells = record {
        header = codes "requests" ∷ version_of r.kept ∷ [];
        bounds = codes "tables" ∷ hex r.lo ∷ hex r.hi ∷ [];
        kept = ks;
        contexts = cs;
        accesses = accs;
        links = ls;
        in_order = refl;
        header_spelled = header.spells;
        bounds_spelled = bounds.spells;
        kept_spelled = kept.spells;
        contexts_spelled = contexts.spells;
        accesses_spelled = accesses.spells;
        links_spelled = links.spells;
      };
      short = (header.short, (bounds.short, AllByRecursion-append IsRow ks _ kept.short (AllByRecursion-append IsRow cs _ contexts.short (AllByRecursion-append IsRow accs _ accesses.short (AllByRecursion-append IsRow ls last links.short (end, tt))))));
      few = omega (arith, length-append ks (cs ++ (accs ++ (ls ++ last))), length-append cs (accs ++ (ls ++ last)), length-append accs (ls ++ last), length-append ls last, kept.few, contexts.few, accesses.few, links.few, is.few_kept, is.few_contexts, is.few_accesses, is.few_links);
    }

text_short : (rows : List Row) → AllByRecursion IsRow rows → length (text_of rows) ≤ length rows * 16385
text_short [] h = omega arith
text_short (row ∷ rows) h =
    let more = text_short rows h.1 in
    omega (arith, more, h.0.short, length-append (row_text row) (text_of rows), length-append (body_of row) (10 ∷ []))

-- a printed list is no longer than a text that is read may be
pub printed_short : (d : ModelData) (r : Requests) → IsAccepted d → HaveNames d → IsList d r → length (printed d r) < 2 ^ 32 - 1
unfolding printed
printed_short d r a names is = let p = list_printed d r a names is in omega (arith, text_short (rows_of d r) p.short, p.few)

-- and reads back as the list
pub reads_back : (d : ModelData) (r : Requests) → IsAccepted d → HaveNames d → IsList d r → reading d (printed d r) ≡ Ok r
unfolding printed reading declared
reads_back d r a names is =
    let p = list_printed d r a names is in
    let to = list_read d r (rows_of d r) a is p.spells in
    reading_printed (grammar d) added finished (rows_of d r) (state 7 to.0 r) adds_up p.short (rows_run d 1 nothing (state 7 to.0 r) (rows_of d r) to.1)
