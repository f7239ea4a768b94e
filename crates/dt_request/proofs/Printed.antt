-- What the printer appends, one piece and one row after the other.
use Rattle.std.proofs.Common.{◌≡◌, ℕ, ◌+◌, ◌<◌, List, [], ◌∷◌, ◌++◌, length, take, get_or, Option, None, refl, sym, ap, ◌∙◌, append_assoc}
use Rattle.std.specs.Prelude.{map, codes, slice_get}
use Rattle.std.specs.List.{flat_map}
use Rattle.std.specs.Option.{option_map, option_map_or}
use Rattle.std.proofs.lemmas.Option.{slice_get-map, slice_get_read}
use Rattle.std.proofs.lemmas.List.{append-nil, take_more, map_push}
use Rattle.std.proofs.lemmas.List.Concat.{flat_map-append}
use Rattle.dt_lex.specs.declared.name.Name.{Name}
use Rattle.dt_lex.specs.Names.{bytes_of}
use Rattle.dt_lex.specs.Numeral.{hex}
use Rattle.dt_lex.specs.Printing.{row_text, text_of}
use Rattle.dt_model.specs.declared.model.Named.{Named}
use Rattle.dt_model.specs.declared.model.Node.{Node}
use Rattle.dt_model.specs.declared.model.Model.{Model}
use Rattle.dt_model.specs.ModelData.{ModelData, data_of}
use Rattle.dt_model.specs.Faults.{names_of}
use Rattle.dt_request.specs.declared.list.AccessWish.{AccessWish}
use Rattle.dt_request.specs.declared.list.Requests.{Requests}
use Rattle.dt_request.specs.Lists.{access_names}
use Rattle.dt_request.specs.Entry.{node_names}
use Rattle.dt_request.specs.Print.{name_text, access_rows, link_row, version_of, keep_row, context_row, printed}
use Rattle.dt_request.proofs.Steps.{names_are}
use Rattle.dt_lex.proofs.Rows.{rows-append}

-- ---- names by their positions

text_some : {X : Type 0} (f : X → Name) (xs : List X) (i : ℕ) (x : X) → i < length xs → x ≡ get_or xs i x → name_text (map f xs) i ≡ bytes_of (f x)
text_some f xs i x lt e =
    ap (λ (o : Option Name). option_map_or (λ (n : Name). bytes_of n) o []) (slice_get-map f xs i ∙ ap (option_map f) (slice_get_read xs (length xs) i x refl lt e))

text_none : {X : Type 0} (f : X → Name) (xs : List X) (i : ℕ) → slice_get xs i ≡ None → name_text (map f xs) i ≡ []
text_none f xs i e =
    ap (λ (o : Option Name). option_map_or (λ (n : Name). bytes_of n) o []) (slice_get-map f xs i ∙ ap (option_map f) e)

pub node_some : (m : Model) (i : ℕ) (n : Node) → i < length m.nodes → n ≡ get_or m.nodes i n → name_text (node_names (data_of m)) i ≡ bytes_of n.name
node_some m i n lt e = ap (λ (ns : List Name). name_text ns i) (names_are m.nodes) ∙ text_some (λ (x : Node). x.name) m.nodes i n lt e

pub node_none : (m : Model) (i : ℕ) → slice_get m.nodes i ≡ None → name_text (node_names (data_of m)) i ≡ []
node_none m i e = ap (λ (ns : List Name). name_text ns i) (names_are m.nodes) ∙ text_none (λ (x : Node). x.name) m.nodes i e

pub named_some : (names : List Named) (i : ℕ) (n : Named) → i < length names → n ≡ get_or names i n → name_text (names_of names) i ≡ bytes_of n.name
named_some names i n lt e = text_some (λ (x : Named). x.name) names i n lt e

pub named_none : (names : List Named) (i : ℕ) → slice_get names i ≡ None → name_text (names_of names) i ≡ []
named_none names i e = text_none (λ (x : Named). x.name) names i e

pub access_some : (wishes : List AccessWish) (i : ℕ) (a : AccessWish) → i < length wishes → a ≡ get_or wishes i a → name_text (access_names wishes) i ≡ bytes_of a.name
access_some wishes i a lt e = text_some (λ (x : AccessWish). x.name) wishes i a lt e

pub access_none : (wishes : List AccessWish) (i : ℕ) → slice_get wishes i ≡ None → name_text (access_names wishes) i ≡ []
access_none wishes i e = text_none (λ (x : AccessWish). x.name) wishes i e

-- ---- rows

-- the rows of one more element
pub blocks_more : {X : Type 0} (rows : X → List (List (List ℕ))) (xs : List X) (i : ℕ) (d : X) → i < length xs → text_of (flat_map rows (take (i + 1) xs)) ≡ text_of (flat_map rows (take i xs)) ++ text_of (rows (get_or xs i d))
blocks_more {X = X} rows xs i d lt =
    ap (λ (ys : List X). text_of (flat_map rows ys)) (take_more xs i d lt)
    ∙ ap text_of (flat_map-append rows (take i xs) (get_or xs i d ∷ []) ∙ ap (λ (ys : List (List (List ℕ))). flat_map rows (take i xs) ++ ys) (append-nil (rows (get_or xs i d))))
    ∙ rows-append (flat_map rows (take i xs)) (rows (get_or xs i d))

-- ---- the whole text

blocks_are : (a b c d : List (List (List ℕ))) → text_of (a ++ (b ++ (c ++ (d ++ (codes "end" ∷ []) ∷ [])))) ≡ text_of a ++ (text_of b ++ (text_of c ++ (text_of d ++ row_text (codes "end" ∷ []))))
blocks_are a b c d =
    rows-append a _
    ∙ ap (λ (t : List ℕ). text_of a ++ t) (rows-append b _
    ∙ ap (λ (t : List ℕ). text_of b ++ t) (rows-append c _
    ∙ ap (λ (t : List ℕ). text_of c ++ t) (rows-append d _)))

printed_is : (d : ModelData) (r : Requests) → printed d r ≡ row_text (codes "requests" ∷ version_of r.kept ∷ []) ++ (row_text (codes "tables" ∷ hex r.lo ∷ hex r.hi ∷ []) ++ (text_of (map keep_row r.kept) ++ (text_of (map context_row r.contexts) ++ (text_of (flat_map (access_rows d r.contexts) r.accesses) ++ (text_of (map (link_row d (access_names r.accesses)) r.links) ++ row_text (codes "end" ∷ []))))))
unfolding printed
printed_is d r =
    ap (λ (t : List ℕ). row_text (codes "requests" ∷ version_of r.kept ∷ []) ++ (row_text (codes "tables" ∷ hex r.lo ∷ hex r.hi ∷ []) ++ t)) (blocks_are (map keep_row r.kept) (map context_row r.contexts) (flat_map (access_rows d r.contexts) r.accesses) (map (link_row d (access_names r.accesses)) r.links))

chain : (o a b c d e f g : List ℕ) → ((((((o ++ a) ++ b) ++ c) ++ d) ++ e) ++ f) ++ g ≡ o ++ (a ++ (b ++ (c ++ (d ++ (e ++ (f ++ g))))))
chain o a b c d e f g = simp append_assoc

abbrev header_text : Requests → List ℕ
header_text r = row_text (codes "requests" ∷ version_of r.kept ∷ [])

abbrev bounds_text : Requests → List ℕ
bounds_text r = row_text (codes "tables" ∷ hex r.lo ∷ hex r.hi ∷ [])

abbrev kept_text : Requests → List ℕ
kept_text r = text_of (map keep_row r.kept)

abbrev contexts_text : Requests → List ℕ
contexts_text r = text_of (map context_row r.contexts)

abbrev accesses_text : ModelData → Requests → List ℕ
accesses_text d r = text_of (flat_map (access_rows d r.contexts) r.accesses)

abbrev links_text : ModelData → Requests → List ℕ
links_text d r = text_of (map (link_row d (access_names r.accesses)) r.links)

abbrev end_text : List ℕ
end_text = row_text (codes "end" ∷ [])

-- the text after each of the calls that append its parts
pub printed_after : (d : ModelData) (r : Requests) (o a b c e f g h : List ℕ) → a ≡ o ++ header_text r → b ≡ a ++ bounds_text r → c ≡ b ++ kept_text r → e ≡ c ++ contexts_text r → f ≡ e ++ accesses_text d r → g ≡ f ++ links_text d r → h ≡ g ++ end_text → h ≡ o ++ printed d r
printed_after d r o a b c e f g h pa pb pc pe pf pg ph =
    ph
    ∙ ap (λ (x : List ℕ). x ++ end_text) (pg ∙ ap (λ (x : List ℕ). x ++ links_text d r) (pf ∙ ap (λ (x : List ℕ). x ++ accesses_text d r) (pe ∙ ap (λ (x : List ℕ). x ++ contexts_text r) (pc ∙ ap (λ (x : List ℕ). x ++ kept_text r) (pb ∙ ap (λ (x : List ℕ). x ++ bounds_text r) pa)))))
    ∙ chain o (header_text r) (bounds_text r) (kept_text r) (contexts_text r) (accesses_text d r) (links_text d r) end_text
    ∙ ap (λ (x : List ℕ). o ++ x) (sym (printed_is d r))
