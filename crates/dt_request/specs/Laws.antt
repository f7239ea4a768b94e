-- The reader of lists keeps the laws of readers: what one more entry declares is added to what those before it declare.
use Rattle.std.proofs.Common.{◌≡◌, ℕ, Bool, false, List, [], ◌∷◌, ◌++◌, refl, ap, ◌∙◌}
use Rattle.std.specs.List.{flat_map}
use Rattle.dt_lex.specs.declared.name.Name.{Name}
use Rattle.dt_lex.specs.Reading.{last_of}
use Rattle.dt_lemmas.proofs.Lists.{flat_map_one, flat_map_none}
use Rattle.dt_lex.proofs.Loop.{last_push, last_map_push}
use Rattle.dt_request.specs.declared.list.Demand.{Demand}
use Rattle.dt_request.specs.declared.list.Link.{Link}
use Rattle.dt_request.specs.declared.list.KeptRange.{KeptRange}
use Rattle.dt_request.specs.declared.list.AccessWish.{AccessWish}
use Rattle.dt_request.specs.declared.entry.Entry.{Entry}
use Rattle.dt_request.specs.declared.entry.Entry.TheVariants.{Header, Tables, Keep, Context, Access, Demand as Wanted, Link as Linked, End}
use Rattle.dt_request.specs.Draft.{place_behind, keeps_in, bounds_in, kept_in, contexts_in, links_in, demands_in, accesses_in, declared, with_demand, added}

-- ---- what the last line of a kind says

abbrev keeps_of : List Entry → Bool
keeps_of es = last_of false (flat_map keeps_in es)

keeps_stay : (es : List Entry) (e : Entry) → keeps_in e ≡ [] → keeps_of (es ++ e ∷ []) ≡ keeps_of es
keeps_stay es e none = ap (last_of false) (flat_map_none keeps_in es e none)

keeps_push : (es : List Entry) (keeps : Bool) → keeps_of (es ++ Header keeps ∷ []) ≡ keeps
keeps_push es keeps = ap (last_of false) (flat_map_one keeps_in es (Header keeps) keeps refl) ∙ last_push false (flat_map keeps_in es) keeps

abbrev bounds_of : List Entry → ℕ × ℕ
bounds_of es = last_of (0, 0) (flat_map bounds_in es)

bounds_stay : (es : List Entry) (e : Entry) → bounds_in e ≡ [] → bounds_of (es ++ e ∷ []) ≡ bounds_of es
bounds_stay es e none = ap (last_of (0, 0)) (flat_map_none bounds_in es e none)

bounds_push : (es : List Entry) (lo hi : ℕ) → bounds_of (es ++ Tables lo hi ∷ []) ≡ (lo, hi)
bounds_push es lo hi = ap (last_of (0, 0)) (flat_map_one bounds_in es (Tables lo hi) (lo, hi) refl) ∙ last_push (0, 0) (flat_map bounds_in es) (lo, hi)

-- ---- accesses and their demands

-- an entry that adds no access and no demand
abbrev IsQuiet : Entry → Type 0
IsQuiet e = (demands_in (e ∷ []) ≡ []) × (accesses_in (e ∷ []) ≡ [])

demands_stay : (es : List Entry) (e : Entry) → demands_in (e ∷ []) ≡ [] → demands_in (es ++ e ∷ []) ≡ demands_in es
demands_stay [] e none = none
demands_stay (Header keeps ∷ es) e none = demands_stay es e none
demands_stay (Tables lo hi ∷ es) e none = demands_stay es e none
demands_stay (Keep range ∷ es) e none = demands_stay es e none
demands_stay (Context name ∷ es) e none = demands_stay es e none
demands_stay (Access name context ∷ es) e none = refl
demands_stay (Wanted demand ∷ es) e none = ap (λ (ds : List Demand). demand ∷ ds) (demands_stay es e none)
demands_stay (Linked link ∷ es) e none = demands_stay es e none
demands_stay (End ∷ es) e none = demands_stay es e none

abbrev wish : Name → ℕ → List Demand → AccessWish
wish name context demands = record { name = name; context = context; demands = demands }

both : (name : Name) (context : ℕ) (ds es : List Demand) (xs ys : List AccessWish) → ds ≡ es → xs ≡ ys → wish name context ds ∷ xs ≡ wish name context es ∷ ys
both name context ds es xs ys p q = λ i. wish name context (p i) ∷ q i

accesses_stay : (es : List Entry) (e : Entry) → IsQuiet e → accesses_in (es ++ e ∷ []) ≡ accesses_in es
accesses_stay [] e quiet = quiet.1
accesses_stay (Header keeps ∷ es) e quiet = accesses_stay es e quiet
accesses_stay (Tables lo hi ∷ es) e quiet = accesses_stay es e quiet
accesses_stay (Keep range ∷ es) e quiet = accesses_stay es e quiet
accesses_stay (Context name ∷ es) e quiet = accesses_stay es e quiet
accesses_stay (Access name context ∷ es) e quiet = both name context _ _ _ _ (demands_stay es e quiet.0) (accesses_stay es e quiet)
accesses_stay (Wanted demand ∷ es) e quiet = accesses_stay es e quiet
accesses_stay (Linked link ∷ es) e quiet = accesses_stay es e quiet
accesses_stay (End ∷ es) e quiet = accesses_stay es e quiet

accesses_push : (es : List Entry) (n : Name) (k : ℕ) → accesses_in (es ++ Access n k ∷ []) ≡ accesses_in es ++ wish n k [] ∷ []
accesses_push [] n k = refl
accesses_push (Header keeps ∷ es) n k = accesses_push es n k
accesses_push (Tables lo hi ∷ es) n k = accesses_push es n k
accesses_push (Keep range ∷ es) n k = accesses_push es n k
accesses_push (Context name ∷ es) n k = accesses_push es n k
accesses_push (Access name context ∷ es) n k = both name context _ _ _ _ (demands_stay es (Access n k) refl) (accesses_push es n k)
accesses_push (Wanted demand ∷ es) n k = accesses_push es n k
accesses_push (Linked link ∷ es) n k = accesses_push es n k
accesses_push (End ∷ es) n k = accesses_push es n k

-- a demand is the last one of the first access where no other access follows
demands_push : (es : List Entry) (x : Demand) → accesses_in es ≡ [] → demands_in (es ++ Wanted x ∷ []) ≡ demands_in es ++ x ∷ []
demands_push [] x none = refl
demands_push (Header keeps ∷ es) x none = demands_push es x none
demands_push (Tables lo hi ∷ es) x none = demands_push es x none
demands_push (Keep range ∷ es) x none = demands_push es x none
demands_push (Context name ∷ es) x none = demands_push es x none
demands_push (Access name context ∷ es) x none = absurd cc
demands_push (Wanted demand ∷ es) x none = ap (λ (ds : List Demand). demand ∷ ds) (demands_push es x none)
demands_push (Linked link ∷ es) x none = demands_push es x none
demands_push (End ∷ es) x none = demands_push es x none

-- and where one follows it is none of the first
demands_kept : (es : List Entry) (x : Demand) (b : AccessWish) (bs : List AccessWish) → accesses_in es ≡ b ∷ bs → demands_in (es ++ Wanted x ∷ []) ≡ demands_in es
demands_kept [] x b bs some = absurd cc
demands_kept (Header keeps ∷ es) x b bs some = demands_kept es x b bs some
demands_kept (Tables lo hi ∷ es) x b bs some = demands_kept es x b bs some
demands_kept (Keep range ∷ es) x b bs some = demands_kept es x b bs some
demands_kept (Context name ∷ es) x b bs some = demands_kept es x b bs some
demands_kept (Access name context ∷ es) x b bs some = refl
demands_kept (Wanted demand ∷ es) x b bs some = ap (λ (ds : List Demand). demand ∷ ds) (demands_kept es x b bs some)
demands_kept (Linked link ∷ es) x b bs some = demands_kept es x b bs some
demands_kept (End ∷ es) x b bs some = demands_kept es x b bs some

first_with : (name : Name) (context : ℕ) (ds es : List Demand) (x : Demand) (wishes : List AccessWish) → (wishes ≡ [] → es ≡ ds ++ x ∷ []) → ((b : AccessWish) (bs : List AccessWish) → wishes ≡ b ∷ bs → es ≡ ds) → wish name context es ∷ with_demand wishes x ≡ with_demand (wish name context ds ∷ wishes) x
first_with name context ds es x [] last kept = ap (λ (l : List Demand). wish name context l ∷ []) (last refl)
first_with name context ds es x (b ∷ bs) last kept = ap (λ (l : List Demand). wish name context l ∷ with_demand (b ∷ bs) x) (kept b bs refl)

accesses_demand : (es : List Entry) (x : Demand) → accesses_in (es ++ Wanted x ∷ []) ≡ with_demand (accesses_in es) x
accesses_demand [] x = refl
accesses_demand (Header keeps ∷ es) x = accesses_demand es x
accesses_demand (Tables lo hi ∷ es) x = accesses_demand es x
accesses_demand (Keep range ∷ es) x = accesses_demand es x
accesses_demand (Context name ∷ es) x = accesses_demand es x
accesses_demand (Access name context ∷ es) x =
    both name context _ _ _ _ refl (accesses_demand es x)
    ∙ first_with name context (demands_in es) (demands_in (es ++ Wanted x ∷ [])) x (accesses_in es) (demands_push es x) (demands_kept es x)
accesses_demand (Wanted demand ∷ es) x = accesses_demand es x
accesses_demand (Linked link ∷ es) x = accesses_demand es x
accesses_demand (End ∷ es) x = accesses_demand es x

-- ---- all of it

-- what is declared, by its parts
parts : (es : List Entry) (e : Entry) (keeps : Bool) (bounds : ℕ × ℕ) (kept : List KeptRange) (contexts : List Name) (accesses : List AccessWish) (links : List Link)
    → keeps_of (es ++ e ∷ []) ≡ keeps
    → bounds_of (es ++ e ∷ []) ≡ bounds
    → flat_map kept_in (es ++ e ∷ []) ≡ kept
    → flat_map contexts_in (es ++ e ∷ []) ≡ contexts
    → accesses_in (es ++ e ∷ []) ≡ accesses
    → flat_map links_in (es ++ e ∷ []) ≡ links
    → declared (es ++ e ∷ []) ≡ record { place = place_behind e; keeps = keeps; list = record { lo = bounds.0; hi = bounds.1; kept = kept; contexts = contexts; accesses = accesses; links = links } }
unfolding declared
parts es e keeps bounds kept contexts accesses links k b r c a l = λ i. record {
  place = last_map_push place_behind 0 es e i;
  keeps = k i;
  list = record { lo = (b i).0; hi = (b i).1; kept = r i; contexts = c i; accesses = a i; links = l i };
}

pub adds_up : (es : List Entry) (e : Entry) → declared (es ++ e ∷ []) ≡ added (declared es) e
unfolding declared
adds_up es (Header keeps) =
    let e = Header keeps in
    parts es e _ _ _ _ _ _ (keeps_push es keeps) (bounds_stay es e refl) (flat_map_none kept_in es e refl) (flat_map_none contexts_in es e refl) (accesses_stay es e (refl, refl)) (flat_map_none links_in es e refl)
adds_up es (Tables lo hi) =
    let e = Tables lo hi in
    parts es e _ _ _ _ _ _ (keeps_stay es e refl) (bounds_push es lo hi) (flat_map_none kept_in es e refl) (flat_map_none contexts_in es e refl) (accesses_stay es e (refl, refl)) (flat_map_none links_in es e refl)
adds_up es (Keep range) =
    let e = Keep range in
    parts es e _ _ _ _ _ _ (keeps_stay es e refl) (bounds_stay es e refl) (flat_map_one kept_in es e range refl) (flat_map_none contexts_in es e refl) (accesses_stay es e (refl, refl)) (flat_map_none links_in es e refl)
adds_up es (Context name) =
    let e = Context name in
    parts es e _ _ _ _ _ _ (keeps_stay es e refl) (bounds_stay es e refl) (flat_map_none kept_in es e refl) (flat_map_one contexts_in es e name refl) (accesses_stay es e (refl, refl)) (flat_map_none links_in es e refl)
adds_up es (Access name context) =
    let e = Access name context in
    parts es e _ _ _ _ _ _ (keeps_stay es e refl) (bounds_stay es e refl) (flat_map_none kept_in es e refl) (flat_map_none contexts_in es e refl) (accesses_push es name context) (flat_map_none links_in es e refl)
adds_up es (Wanted demand) =
    let e = Wanted demand in
    parts es e _ _ _ _ _ _ (keeps_stay es e refl) (bounds_stay es e refl) (flat_map_none kept_in es e refl) (flat_map_none contexts_in es e refl) (accesses_demand es demand) (flat_map_none links_in es e refl)
adds_up es (Linked link) =
    let e = Linked link in
    parts es e _ _ _ _ _ _ (keeps_stay es e refl) (bounds_stay es e refl) (flat_map_none kept_in es e refl) (flat_map_none contexts_in es e refl) (accesses_stay es e (refl, refl)) (flat_map_one links_in es e link refl)
adds_up es End =
    parts es End _ _ _ _ _ _ (keeps_stay es End refl) (bounds_stay es End refl) (flat_map_none kept_in es End refl) (flat_map_none contexts_in es End refl) (accesses_stay es End (refl, refl)) (flat_map_none links_in es End refl)
