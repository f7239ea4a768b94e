-- A table that finds names where they stand, with one more name.
use Rattle.std.proofs.Common.{◌≡◌, ℕ, Bool, true, false, cond, List, [], ◌∷◌, ◌++◌, length, Option, Some, None, refl, sym, ap, ◌∙◌}
use Rattle.std.specs.Map.{lookup}
use Rattle.std.specs.Option.{is_some}
use Rattle.std.proofs.lemmas.Bool.{cond-true, cond-false}
use Rattle.indexmap.specs.IndexMap.{insert_entry}
use Rattle.indexmap.proofs.CallerLemmas.{insert_entry-new}
use Rattle.dt_lemmas.proofs.Positions.{position_push_some, position_push_here, position_push_none, lookup_push_some, lookup_push_none}
use Rattle.dt_lex.specs.declared.name.Name.{Name}
use Rattle.dt_lex.specs.Names.{same_name}
use Rattle.dt_lex.proofs.Padded.{same_name_is}
use Rattle.dt_model.specs.declared.name_table.NameTable.{NameTable}
use Rattle.dt_model.specs.Positions.{position_of}
use Rattle.dt_model.specs.NameTable.{found_in, Finds}

-- a new name goes behind the others
pub finds_new : (m new : NameTable) (name : Name) (at : ℕ) (names : List Name) → found_in m name ≡ None → new.places.entries ≡ insert_entry same_name m.places.entries name at → Finds m names → length names ≡ at → Finds new (names ++ name ∷ [])
finds_new m new name at names none made h count n = choose (position_of names n) refl
  where
    entries : new.places.entries ≡ m.places.entries ++ (name, at) ∷ []
    entries = made ∙ insert_entry-new same_name m.places name at none

    now : found_in new n ≡ lookup (same_name n) (m.places.entries ++ (name, at) ∷ [])
    now = ap (lookup (same_name n)) entries

    here : (b : Bool) → same_name n name ≡ b → position_of names n ≡ None → cond (same_name n name) (Some at) None ≡ position_of (names ++ name ∷ []) n
    here true is e = cond-true (same_name n name) (Some at) None is ∙ ap (λ (k : ℕ). Some k) (sym count) ∙ sym (position_push_here (same_name n) names name e is)
    here false isnt e = cond-false (same_name n name) (Some at) None isnt ∙ sym (position_push_none (same_name n) names name e isnt)

    choose : (o : Option ℕ) → position_of names n ≡ o → found_in new n ≡ position_of (names ++ name ∷ []) n
    choose (Some i) e = now ∙ lookup_push_some (same_name n) m.places.entries (name, at) i (h n ∙ e) ∙ sym (position_push_some (same_name n) names name i e)
    choose None e = now ∙ lookup_push_none (same_name n) m.places.entries (name, at) (h n ∙ e) ∙ here (same_name n name) refl e

-- a name that is there keeps its position
pub finds_old : (m : NameTable) (name : Name) (names : List Name) → is_some (found_in m name) ≡ true → Finds m names → Finds m (names ++ name ∷ [])
finds_old m name names there h n = choose (position_of names n) refl
  where
    other : (b : Bool) → same_name n name ≡ b → position_of names n ≡ None → same_name n name ≡ false
    other false isnt e = isnt
    other true is e =
        let none : found_in m name ≡ None = ap (found_in m) (sym (same_name_is n name is)) ∙ h n ∙ e in
        let bad : false ≡ true = sym (ap is_some none) ∙ there in
        absurd cc

    choose : (o : Option ℕ) → position_of names n ≡ o → found_in m n ≡ position_of (names ++ name ∷ []) n
    choose (Some i) e = h n ∙ e ∙ sym (position_push_some (same_name n) names name i e)
    choose None e = h n ∙ e ∙ sym (position_push_none (same_name n) names name e (other (same_name n name) refl e))
