-- Lines that spell a list of the model are read as the list.
use Rattle.std.proofs.Common.{◌≡◌, ℕ, ◌+◌, ◌^◌, ◌<◌, ◌≤◌, Bool, true, false, ◌&&◌, ltb, leb, List, [], ◌∷◌, ◌++◌, length, Option, Some, Result, Ok, Err, refl, sym, ap, subst, ◌∙◌, append_assoc, arith, ⊎_elim}
use Rattle.std.specs.Prelude.{map, codes, slice_get, All}
use Rattle.std.proofs.lemmas.Bool.{and_from, cond-true, cond-false, lt-ltb, le-leb}
use Rattle.std.proofs.lemmas.List.{append-nil, length-append, map-append}
use Rattle.std.proofs.lemmas.List.Elements.{All-head, All-tail}
use Rattle.dt_lemmas.proofs.Numbers.{passes_from, passes_at}
use Rattle.dt_lex.specs.declared.name.Name.{Name}
use Rattle.dt_lex.specs.declared.section.Standing.TheVariants.{In}
use Rattle.dt_lex.specs.Reading.{last_of, ◌>>=◌}
use Rattle.dt_lex.specs.Sections.{may_follow}
use Rattle.dt_lex.proofs.Blocks.{place_after, stays, within}
use Rattle.dt_lex.proofs.Loop.{last_push}
use Rattle.dt_model.specs.ModelData.{ModelData}
use Rattle.dt_model.specs.Bounds.{bounds_fit}
use Rattle.dt_model.specs.Faults.{IsAccepted, is_named}
use Rattle.dt_model.proofs.BoundsFit.{bounds_test}
use Rattle.dt_request.specs.declared.fault.Cause.{Cause}
use Rattle.dt_request.specs.declared.fault.Cause.TheVariants.{Form, TooMany, Twice, OutOfRange}
use Rattle.dt_request.specs.declared.list.Demand.{Demand}
use Rattle.dt_request.specs.declared.list.Link.{Link}
use Rattle.dt_request.specs.declared.list.KeptRange.{KeptRange}
use Rattle.dt_request.specs.declared.list.AccessWish.{AccessWish}
use Rattle.dt_request.specs.declared.list.Requests.{Requests}
use Rattle.dt_request.specs.declared.asked.AskedDemand.{AskedDemand}
use Rattle.dt_request.specs.declared.asked.Line.{Line}
use Rattle.dt_request.specs.declared.asked.Line.TheVariants as line
use Rattle.dt_request.specs.declared.entry.Entry.{Entry}
use Rattle.dt_request.specs.declared.entry.Entry.TheVariants as entry
use Rattle.dt_request.specs.Lists.{AreNames, IsDemand, IsWish, access_names, IsLink, IsKept, IsList}
use Rattle.dt_request.specs.Entry.{Declared, sections, standing, is_allowed, known, demand_in, access_at, last_demands, entry_of, meaning}
use Rattle.dt_request.specs.Draft.{nothing, with_demand, added}
use Rattle.dt_request.specs.Spelling.{Row, SpellsKept, SpellsContext, SpellsDemand, SpellsLink, SpellEach, SpellWish, SpellWishes, Spell}
use Rattle.dt_request.proofs.Places.{ArePlaced, regs_placed, inputs_placed, nodes_placed, names_placed, fresh_next}
use Rattle.dt_request.proofs.SpelledRows.{spelled_row, IsPlaced, tables_line, keep_line, context_line, access_line, header_line, second_header_line, end_line, demand_read, link_read}

-- ---- lines that are read one after the other

-- what lines so far declare
abbrev pub state : ℕ → Bool → Requests → Declared
state p keeps r = record { place = p; keeps = keeps; list = r }

-- none of these lines is bad behind what is declared, and then this is declared
abbrev pub AreRead : ModelData → Declared → List Row → Declared → Type 0
AreRead d so [] to = so ≡ to
AreRead d so (row ∷ rows) to = (e : Entry) × (meaning d so (spelled_row row) ≡ Ok e) × AreRead d (added so e) rows to

pub read-append : (d : ModelData) (so mid to : Declared) (xs ys : List Row) → AreRead d so xs mid → AreRead d mid ys to → AreRead d so (xs ++ ys) to
read-append d so mid to [] ys h k = subst (λ (x : Declared). AreRead d x ys to) (sym h) k
read-append d so mid to (x ∷ xs) ys h k = (h.0, h.1, read-append d (added so h.0) mid to xs ys h.2 k)

-- what is declared, said otherwise
read_to : (d : ModelData) (so to other : Declared) (rows : List Row) → to ≡ other → AreRead d so rows to → AreRead d so rows other
read_to d so to other rows e h = subst (λ (x : Declared). AreRead d so rows x) e h

-- a line that may stand here
meaning_is : (d : ModelData) (so : Declared) (row : Row) (l : Line) (e : Entry) → spelled_row row ≡ Some l → may_follow sections so.place (standing l) ≡ true → is_allowed so.keeps l ≡ true → entry_of d so.list l ≡ Ok e → meaning d so (spelled_row row) ≡ Ok e
meaning_is d so row l e line at allowed is =
    ap (meaning d so) line
    ∙ cond-true (may_follow sections so.place (standing l) && is_allowed so.keeps l) (entry_of d so.list l) (Err Form) (and_from _ _ at allowed)
    ∙ is

-- lines of a section may stand at these places
follows : (section count p : ℕ) → passes_from (λ q. may_follow sections q (In section)) 2 count ≡ true → 2 ≤ p → p < 2 + count → may_follow sections p (In section) ≡ true
follows section count p h low high = passes_at (λ q. may_follow sections q (In section)) 2 count p h low high

-- ---- kept ranges

kept_entry_is : (d : ModelData) (r : Requests) (range : KeptRange) → length r.kept < 16 → IsKept d range → entry_of d r (line.Keep range.lo range.hi) ≡ Ok (entry.Keep range)
kept_entry_is d r range few is =
    cond-true (ltb (length r.kept) 16) _ (Err TooMany) (lt-ltb (length r.kept) 16 few)
    ∙ cond-true (leb range.lo range.hi && leb range.hi (2 ^ d.address)) (Ok (entry.Keep range)) (Err OutOfRange) (and_from _ _ (le-leb range.lo range.hi is.rising) (le-leb range.hi (2 ^ d.address) is.within))

kept_read : (d : ModelData) (p : ℕ) (r : Requests) (ks : List KeptRange) (rows : List Row) → 2 ≤ p → p ≤ 3 → length r.kept + length ks ≤ 16 → All (IsKept d) ks → SpellEach SpellsKept ks rows → AreRead d (state p true r) rows (state (place_after p 3 ks) true (record r { kept = r.kept ++ ks }))
kept_read d p r [] [] low high few are h = λ i. state p true (record r { kept = sym (append-nil r.kept) i })
kept_read d p r [] (row ∷ rows) low high few are h = absurd h
kept_read d p r (k ∷ ks) [] low high few are h = absurd h
kept_read d p r (k ∷ ks) (row ∷ rows) low high few are h = (
  entry.Keep k,
  meaning_is d (state p true r) row (line.Keep k.lo k.hi) (entry.Keep k) (ap spelled_row h.0.4 ∙ keep_line h.0.0 h.0.1 k.lo k.hi h.0.2 h.0.3) (follows 2 2 p refl low (omega arith)) refl (kept_entry_is d r k (omega arith) (All-head (IsKept d) k ks are)),
  read_to d _ _ _ rows
      (λ i. state (stays 3 ks i) true (record r { kept = append_assoc r.kept (k ∷ []) ks i }))
      (kept_read d 3 (record r { kept = r.kept ++ k ∷ [] }) ks rows (omega arith) (omega arith) (omega (arith, length-append r.kept (k ∷ []))) (All-tail (IsKept d) k ks are) h.1),
)

-- ---- contexts

context_entry_is : (d : ModelData) (r : Requests) (c : Name) (cs : List Name) → length r.contexts < 16 → AreNames (r.contexts ++ c ∷ cs) → entry_of d r (line.Context c) ≡ Ok (entry.Context c)
context_entry_is d r c cs few names =
    cond-true (ltb (length r.contexts) 16) _ (Err TooMany) (lt-ltb (length r.contexts) 16 few)
    ∙ cond-false (is_named r.contexts c) (Err Twice) (Ok (entry.Context c)) (fresh_next r.contexts c cs names)

contexts_read : (d : ModelData) (p : ℕ) (keeps : Bool) (r : Requests) (cs : List Name) (rows : List Row) → 2 ≤ p → p ≤ 4 → length r.contexts + length cs ≤ 16 → AreNames (r.contexts ++ cs) → SpellEach SpellsContext cs rows → AreRead d (state p keeps r) rows (state (place_after p 4 cs) keeps (record r { contexts = r.contexts ++ cs }))
contexts_read d p keeps r [] [] low high few names h = λ i. state p keeps (record r { contexts = sym (append-nil r.contexts) i })
contexts_read d p keeps r [] (row ∷ rows) low high few names h = absurd h
contexts_read d p keeps r (c ∷ cs) [] low high few names h = absurd h
contexts_read d p keeps r (c ∷ cs) (row ∷ rows) low high few names h = (
  entry.Context c,
  meaning_is d (state p keeps r) row (line.Context c) (entry.Context c) (ap spelled_row h.0.2 ∙ context_line h.0.0 c h.0.1) (follows 3 3 p refl low (omega arith)) refl (context_entry_is d r c cs (omega arith) names),
  read_to d _ _ _ rows
      (λ i. state (stays 4 cs i) keeps (record r { contexts = append_assoc r.contexts (c ∷ []) cs i }))
      (contexts_read d 4 keeps (record r { contexts = r.contexts ++ c ∷ [] }) cs rows (omega arith) (omega arith) (omega (arith, length-append r.contexts (c ∷ []))) (subst AreNames (sym (append_assoc r.contexts (c ∷ []) cs)) names) h.1),
)

-- ---- demands

abbrev wanting : AccessWish → List Demand → AccessWish
wanting a xs = record a { demands = xs }

with_last : (before : List AccessWish) (w : AccessWish) (x : Demand) → with_demand (before ++ w ∷ []) x ≡ before ++ wanting w (w.demands ++ x ∷ []) ∷ []
with_last [] w x = refl
with_last (a ∷ []) w x = refl
with_last (a ∷ b ∷ before) w x = ap (λ (l : List AccessWish). a ∷ l) (with_last (b ∷ before) w x)

last_is : (before : List AccessWish) (w : AccessWish) → last_demands (before ++ w ∷ []) ≡ w.demands
last_is before w = ap (last_of []) (map-append (λ (a : AccessWish). a.demands) before (w ∷ [])) ∙ last_push [] (map (λ (a : AccessWish). a.demands) before) w.demands

demand_entry_is : (d : ModelData) (r : Requests) (before : List AccessWish) (w : AccessWish) (asked : AskedDemand) (x : Demand) → r.accesses ≡ before ++ w ∷ [] → length w.demands < 64 → demand_in d asked ≡ Ok x → entry_of d r (line.Demand asked) ≡ Ok (entry.Demand x)
demand_entry_is d r before w asked x is few stands =
    let count : length (last_demands r.accesses) ≡ length w.demands = ap (λ (l : List AccessWish). length (last_demands l)) is ∙ ap length (last_is before w) in
    cond-true (ltb (length (last_demands r.accesses)) 64) _ (Err TooMany) (lt-ltb (length (last_demands r.accesses)) 64 (omega (arith, count)))
    ∙ ap (λ (y : Result Demand Cause). y >>= λ z. Ok (entry.Demand z)) stands

demands_read : (d : ModelData) → IsPlaced d → (keeps : Bool) (r : Requests) (before : List AccessWish) (w : AccessWish) (xs : List Demand) (rows : List Row) → r.accesses ≡ before ++ w ∷ [] → length w.demands + length xs ≤ 64 → All (IsDemand d) xs → SpellEach (SpellsDemand d) xs rows → AreRead d (state 5 keeps r) rows (state 5 keeps (record r { accesses = before ++ wanting w (w.demands ++ xs) ∷ [] }))
demands_read d k keeps r before w [] [] is few are h = λ i. state 5 keeps (record r { accesses = (is ∙ ap (λ (ds : List Demand). before ++ wanting w ds ∷ []) (sym (append-nil w.demands))) i })
demands_read d k keeps r before w [] (row ∷ rows) is few are h = absurd h
demands_read d k keeps r before w (x ∷ xs) [] is few are h = absurd h
demands_read d k keeps r before w (x ∷ xs) (row ∷ rows) is few are h =
    let q = demand_read d k x row (All-head (IsDemand d) x xs are) h.0 in (
      entry.Demand x,
      meaning_is d (state 5 keeps r) row (line.Demand q.asked) (entry.Demand x) q.line refl refl (demand_entry_is d r before w q.asked x is (omega arith) q.stands),
      read_to d _ _ _ rows
          (λ i. state 5 keeps (record r { accesses = before ++ wanting w (append_assoc w.demands (x ∷ []) xs i) ∷ [] }))
          (demands_read d k keeps (record r { accesses = with_demand r.accesses x }) before (wanting w (w.demands ++ x ∷ [])) xs rows (ap (λ (l : List AccessWish). with_demand l x) is ∙ with_last before w x) (omega (arith, length-append w.demands (x ∷ []))) (All-tail (IsDemand d) x xs are) h.1),
    )

-- ---- accesses

access_entry_is : (d : ModelData) (r : Requests) (a : AccessWish) (wishes : List AccessWish) (context : Name) → length r.accesses < 64 → ArePlaced r.contexts → slice_get r.contexts a.context ≡ Some context → AreNames (access_names (r.accesses ++ a ∷ wishes)) → entry_of d r (line.Access a.name context) ≡ Ok (entry.Access a.name a.context)
access_entry_is d r a wishes context few placed at names =
    cond-true (ltb (length r.accesses) 64) _ (Err TooMany) (lt-ltb (length r.accesses) 64 few)
    ∙ ap (access_at r a.name) (placed a.context context at)
    ∙ cond-false (is_named (access_names r.accesses) a.name) (Err Twice) (Ok (entry.Access a.name a.context)) (fresh_next (access_names r.accesses) a.name (access_names wishes) (subst AreNames (map-append (λ (w : AccessWish). w.name) r.accesses (a ∷ wishes)) names))

wish_read : (d : ModelData) → IsPlaced d → (p : ℕ) (keeps : Bool) (r : Requests) (a : AccessWish) (wishes : List AccessWish) (rows : List Row) → 2 ≤ p → p ≤ 5 → length r.accesses < 64 → ArePlaced r.contexts → IsWish d (length r.contexts) a → AreNames (access_names (r.accesses ++ a ∷ wishes)) → SpellWish d r.contexts a rows → AreRead d (state p keeps r) rows (state 5 keeps (record r { accesses = r.accesses ++ a ∷ [] }))
wish_read d k p keeps r a wishes [] low high few placed is names h = absurd h
wish_read d k p keeps r a wishes (row ∷ rows) low high few placed is names h = (
  entry.Access a.name a.context,
  meaning_is d (state p keeps r) row (line.Access a.name h.0.3.0) (entry.Access a.name a.context) (ap spelled_row h.0.4 ∙ access_line h.0.0 h.0.1 a.name h.0.3.0 h.0.2 h.0.3.2) (follows 4 4 p refl low (omega arith)) refl (access_entry_is d r a wishes h.0.3.0 few placed h.0.3.1 names),
  demands_read d k keeps (record r { accesses = r.accesses ++ wanting a [] ∷ [] }) r.accesses (wanting a []) a.demands rows refl (omega (arith, is.few_demands)) is.demands h.1,
)

wishes_read : (d : ModelData) → IsPlaced d → (p : ℕ) (keeps : Bool) (r : Requests) (wishes : List AccessWish) (rows : List Row) → 2 ≤ p → p ≤ 5 → length r.accesses + length wishes ≤ 64 → ArePlaced r.contexts → All (IsWish d (length r.contexts)) wishes → AreNames (access_names (r.accesses ++ wishes)) → SpellWishes d r.contexts wishes rows → AreRead d (state p keeps r) rows (state (place_after p 5 wishes) keeps (record r { accesses = r.accesses ++ wishes }))
wishes_read d k p keeps r [] rows low high few placed are names h =
    subst (λ (x : List Row). AreRead d (state p keeps r) x (state p keeps (record r { accesses = r.accesses ++ [] }))) (sym h) (λ i. state p keeps (record r { accesses = sym (append-nil r.accesses) i }))
wishes_read d k p keeps r (a ∷ wishes) rows low high few placed are names h =
    let next : Requests = record r { accesses = r.accesses ++ a ∷ [] } in
    let first = wish_read d k p keeps r a wishes h.0 low high (omega arith) placed (All-head (IsWish d (length r.contexts)) a wishes are) names h.2 in
    let rest = wishes_read d k 5 keeps next wishes h.1 (omega arith) (omega arith) (omega (arith, length-append r.accesses (a ∷ []))) placed (All-tail (IsWish d (length r.contexts)) a wishes are) (subst (λ (l : List AccessWish). AreNames (access_names l)) (sym (append_assoc r.accesses (a ∷ []) wishes)) names) h.3 in
    subst (λ (x : List Row). AreRead d (state p keeps r) x (state 5 keeps (record r { accesses = r.accesses ++ a ∷ wishes }))) (sym h.4)
    (read-append d (state p keeps r) (state 5 keeps next) _ h.0 h.1 first
    (read_to d _ _ _ h.1 (λ i. state (stays 5 wishes i) keeps (record r { accesses = append_assoc r.accesses (a ∷ []) wishes i })) rest))

-- ---- links

links_read : (d : ModelData) → IsPlaced d → (p : ℕ) (keeps : Bool) (r : Requests) (ls : List Link) (rows : List Row) → 2 ≤ p → p ≤ 6 → length r.links + length ls ≤ 256 → ArePlaced (access_names r.accesses) → All (IsLink d (length r.accesses)) ls → SpellEach (SpellsLink d (access_names r.accesses)) ls rows → AreRead d (state p keeps r) rows (state (place_after p 6 ls) keeps (record r { links = r.links ++ ls }))
links_read d k p keeps r [] [] low high few placed are h = λ i. state p keeps (record r { links = sym (append-nil r.links) i })
links_read d k p keeps r [] (row ∷ rows) low high few placed are h = absurd h
links_read d k p keeps r (l ∷ ls) [] low high few placed are h = absurd h
links_read d k p keeps r (l ∷ ls) (row ∷ rows) low high few placed are h =
    let q = link_read d k r placed l row (All-head (IsLink d (length r.accesses)) l ls are) h.0 in (
      entry.Link l,
      meaning_is d (state p keeps r) row (line.Link q.asked) (entry.Link l) q.line (follows 5 5 p refl low (omega arith)) refl
          (cond-true (ltb (length r.links) 256) _ (Err TooMany) (lt-ltb (length r.links) 256 (omega arith)) ∙ ap (λ (o : Option Link). known o >>= λ y. Ok (entry.Link y)) q.stands),
      read_to d _ _ _ rows
          (λ i. state (stays 6 ls i) keeps (record r { links = append_assoc r.links (l ∷ []) ls i }))
          (links_read d k 6 keeps (record r { links = r.links ++ l ∷ [] }) ls rows (omega arith) (omega arith) (omega (arith, length-append r.links (l ∷ []))) placed (All-tail (IsLink d (length r.accesses)) l ls are) h.1),
    )

-- ---- the whole list

names_known : (d : ModelData) → IsAccepted d → IsPlaced d
names_known d a = record { regs = regs_placed d a; inputs = inputs_placed d a; nodes = nodes_placed d a }

kept_either : (d : ModelData) (keeps : Bool) (r : Requests) (ks : List KeptRange) (rows : List Row) → (keeps ≡ false → ks ≡ []) → length r.kept + length ks ≤ 16 → All (IsKept d) ks → SpellEach SpellsKept ks rows → AreRead d (state 2 keeps r) rows (state (place_after 2 3 ks) keeps (record r { kept = r.kept ++ ks }))
kept_either d true r ks rows none few are h = kept_read d 2 r ks rows (omega arith) (omega arith) few are h
kept_either d false r [] [] none few are h = λ i. state 2 false (record r { kept = sym (append-nil r.kept) i })
kept_either d false r [] (row ∷ rows) none few are h = absurd h
kept_either d false r (k ∷ ks) rows none few are h = absurd (let bad = none refl in cc)

abbrev with_bounds : Requests → Requests
with_bounds r = record { lo = r.lo; hi = r.hi; kept = []; contexts = []; accesses = []; links = [] }

abbrev with_kept : Requests → Requests
with_kept r = record (with_bounds r) { kept = r.kept }

abbrev with_contexts : Requests → Requests
with_contexts r = record (with_kept r) { contexts = r.contexts }

abbrev with_accesses : Requests → Requests
with_accesses r = record (with_contexts r) { accesses = r.accesses }

abbrev place_3 : Requests → ℕ
place_3 r = place_after 2 3 r.kept

abbrev place_4 : Requests → ℕ
place_4 r = place_after (place_3 r) 4 r.contexts

abbrev place_5 : Requests → ℕ
place_5 r = place_after (place_4 r) 5 r.accesses

abbrev place_6 : Requests → ℕ
place_6 r = place_after (place_5 r) 6 r.links

at_3 : (r : Requests) → (2 ≤ place_3 r) × (place_3 r ≤ 3)
at_3 r = within 2 2 3 r.kept (omega arith) (omega arith)

at_4 : (r : Requests) → (2 ≤ place_4 r) × (place_4 r ≤ 4)
at_4 r = within 2 (place_3 r) 4 r.contexts (at_3 r).0 (omega (arith, (at_3 r).1))

at_5 : (r : Requests) → (2 ≤ place_5 r) × (place_5 r ≤ 5)
at_5 r = within 2 (place_4 r) 5 r.accesses (at_4 r).0 (omega (arith, (at_4 r).1))

at_6 : (r : Requests) → (2 ≤ place_6 r) × (place_6 r ≤ 6)
at_6 r = within 2 (place_5 r) 6 r.links (at_5 r).0 (omega (arith, (at_5 r).1))

end_read : (d : ModelData) (keeps : Bool) (r : Requests) → AreRead d (state (place_6 r) keeps r) ((codes "end" ∷ []) ∷ []) (state 7 keeps r)
end_read d keeps r = (
  entry.End,
  meaning_is d (state (place_6 r) keeps r) (codes "end" ∷ []) line.End entry.End end_line (follows 6 5 (place_6 r) refl (at_6 r).0 (omega (arith, (at_6 r).1))) refl refl,
  refl,
)

body_read : (d : ModelData) → IsAccepted d → (keeps : Bool) (r : Requests) (rows : List Row) → (keeps ≡ false → r.kept ≡ []) → IsList d r → (h : Spell d r rows) → AreRead d (state 2 keeps (with_bounds r)) (h.kept ++ (h.contexts ++ (h.accesses ++ (h.links ++ (codes "end" ∷ []) ∷ [])))) (state 7 keeps r)
body_read d a keeps r rows none is h =
    let k = names_known d a in
    let contexts = names_placed r.contexts is.contexts in
    let accesses = names_placed (access_names r.accesses) is.names in
    read-append d _ (state (place_3 r) keeps (with_kept r)) _ h.kept _ (kept_either d keeps (with_bounds r) r.kept h.kept none (omega (arith, is.few_kept)) is.kept h.kept_spelled)
    (read-append d _ (state (place_4 r) keeps (with_contexts r)) _ h.contexts _ (contexts_read d (place_3 r) keeps (with_kept r) r.contexts h.contexts (at_3 r).0 (omega (arith, (at_3 r).1)) (omega (arith, is.few_contexts)) is.contexts h.contexts_spelled)
    (read-append d _ (state (place_5 r) keeps (with_accesses r)) _ h.accesses _ (wishes_read d k (place_4 r) keeps (with_contexts r) r.accesses h.accesses (at_4 r).0 (omega (arith, (at_4 r).1)) (omega (arith, is.few_accesses)) contexts is.accesses is.names h.accesses_spelled)
    (read-append d _ (state (place_6 r) keeps r) _ h.links _ (links_read d k (place_5 r) keeps (with_accesses r) r.links h.links (at_5 r).0 (omega (arith, (at_5 r).1)) (omega (arith, is.few_links)) accesses is.links h.links_spelled)
    (end_read d keeps r))))

tables_read : (d : ModelData) → IsAccepted d → (keeps : Bool) (r : Requests) (rows : List Row) → (keeps ≡ false → r.kept ≡ []) → IsList d r → (h : Spell d r rows) → AreRead d (state 1 keeps (nothing).list) (h.bounds ∷ (h.kept ++ (h.contexts ++ (h.accesses ++ (h.links ++ (codes "end" ∷ []) ∷ []))))) (state 7 keeps r)
tables_read d a keeps r rows none is h =
    let b = h.bounds_spelled in (
      entry.Tables r.lo r.hi,
      meaning_is d (state 1 keeps (nothing).list) h.bounds (line.Tables r.lo r.hi) (entry.Tables r.lo r.hi) (ap spelled_row b.4 ∙ tables_line b.0 b.1 r.lo r.hi b.2 b.3) refl refl (cond-true (bounds_fit d r.lo r.hi) (Ok (entry.Tables r.lo r.hi)) (Err OutOfRange) (bounds_test d r.lo r.hi is.bounds)),
      body_read d a keeps r rows none is h,
    )

-- what the lines of a list declare in the end
pub list_read : (d : ModelData) (r : Requests) (rows : List Row) → IsAccepted d → IsList d r → Spell d r rows → (keeps : Bool) × AreRead d nothing rows (state 7 keeps r)
list_read d r rows a is h =
    ⊎_elim
    (λ first. (false, subst (λ (x : List Row). AreRead d nothing x (state 7 false r)) (sym h.in_order) (entry.Header false, meaning_is d nothing h.header (line.Header false) (entry.Header false) (ap spelled_row first.0 ∙ header_line) refl refl refl, tables_read d a false r rows (λ e. first.1) is h)))
    (λ second. (true, subst (λ (x : List Row). AreRead d nothing x (state 7 true r)) (sym h.in_order) (entry.Header true, meaning_is d nothing h.header (line.Header true) (entry.Header true) (ap spelled_row second ∙ second_header_line) refl refl refl, tables_read d a true r rows (λ e. absurd cc) is h)))
    h.header_spelled
