-- The names of a line can be spelled, and a new name makes a list of names longer.
use Rattle.std.proofs.Common.{◌≡◌, ◌≢◌, ℕ, zero, suc, ◌<◌, ◌≤◌, Bool, true, false, ◌||◌, List, [], ◌∷◌, ◌++◌, length, get_or, Option, Some, None, refl, sym, ap, ◌∙◌, arith, inl, inr}
use Rattle.std.specs.Prelude.{IfSome, option_map, codes}
use Rattle.std.specs.List.{list_any, position_or_len}
use Rattle.std.specs.Option.{is_some}
use Rattle.std.specs.Str.{bytes_eq}
use Rattle.std.proofs.lemmas.Bool.{or_parts, false≢true, cases_Bool}
use Rattle.std.proofs.lemmas.List.Elements.{All-push}
use Rattle.std.proofs.lemmas.List.Quantifiers.{all_pairs_push}
use Rattle.dt_lemmas.proofs.Options.{chosen_some, mapped_some}
use Rattle.dt_lemmas.proofs.Positions.{position_none, missing, stops_here, goes_by}
use Rattle.dt_lex.specs.declared.name.Name.{Name}
use Rattle.dt_lex.specs.Frame.{is_alone, is_nothing, given, ◌>>=◌, name_at, lone}
use Rattle.dt_lex.specs.Names.{name_of, same_name, IsName}
use Rattle.dt_lex.proofs.NameWords.{same_self}
use Rattle.dt_lex.proofs.Padded.{name_of_again}
use Rattle.dt_model.specs.declared.name_table.NameTable.{NameTable}
use Rattle.dt_model.specs.NameTable.{found_in, Finds}
use Rattle.dt_model.specs.Faults.{is_named}
use Rattle.dt_model.specs.Positions.{position_of}
use Rattle.dt_request.specs.declared.asked.Line.{Line}
use Rattle.dt_request.specs.declared.asked.Line.TheVariants as line
use Rattle.dt_request.specs.Lists.{AreNames}
use Rattle.dt_request.specs.Line.{names_at, numbers_at, demand_of, share_of, apart_of, header_of, spelled}
use Rattle.dt_lex.proofs.Fronts.{chained, given_some}

-- ---- the names of a line can be spelled

abbrev pub HasNames : Line → Type 0
HasNames (line.Context name) = IsName name
HasNames (line.Access name context) = IsName name
HasNames _ = Unit {0}

name_spelled : (ts : List (List ℕ)) → IfSome (name_at ts) (λ x. IsName x.0)
name_spelled [] = tt
name_spelled (t ∷ ts) = mapped_some (λ x. IsName x.0) (λ n. (n, ts)) (name_of t) (name_of_again t)

names_spelled : (ts : List (List ℕ)) → IfSome (names_at ts) (λ x. IsName x.0.0)
unfolding names_at
names_spelled ts =
    chained (λ x. IsName x.0) (λ x. IsName x.0.0) (name_at ts) _ (name_spelled ts) (λ first is.
    chained (λ x. Unit {0}) (λ x. IsName x.0.0) (name_at first.1) _ (any_some (name_at first.1)) (λ second _. is))
  where
    any_some : {X : Type 0} (o : Option X) → IfSome o (λ x. Unit {0})
    any_some None = tt
    any_some (Some x) = tt

lone_context : (ts : List (List ℕ)) → IfSome (option_map (λ name. line.Context name) (lone (name_at ts))) HasNames
lone_context ts =
    mapped_from HasNames (λ n. IsName n) (λ name. line.Context name) (lone (name_at ts))
    (chained (λ x. IsName x.0) (λ n. IsName n) (name_at ts) _ (name_spelled ts) (λ x is. given_some (λ n. IsName n) (is_nothing x.1) x.0 is))
    (λ n is. is)
  where
    mapped_from : {X Y : Type 0} (P : Y → Type 0) (Q : X → Type 0) (f : X → Y) (o : Option X) → IfSome o Q → ((x : X) → Q x → P (f x)) → IfSome (option_map f o) P
    mapped_from P Q f None h k = tt
    mapped_from P Q f (Some x) h k = k x h

lone_access : (ts : List (List ℕ)) → IfSome (option_map (λ x. line.Access x.0 x.1) (lone (names_at ts))) HasNames
lone_access ts = on_names (names_at ts) (names_spelled ts)
  where
    on_pair : (b : Bool) (x : Name × Name) → IsName x.0 → IfSome (option_map (λ y. line.Access y.0 y.1) (given b x)) HasNames
    on_pair true x h = h
    on_pair false x h = tt

    on_names : (o : Option ((Name × Name) × List (List ℕ))) → IfSome o (λ x. IsName x.0.0) → IfSome (option_map (λ x. line.Access x.0 x.1) (lone o)) HasNames
    on_names None h = tt
    on_names (Some x) h = on_pair (is_nothing x.1) x.0 h

header_names : (ts : List (List ℕ)) → IfSome (header_of ts) HasNames
header_names ts =
    chosen_some HasNames (is_alone (codes "1") ts) _ _ (λ e. tt) (λ e. chosen_some HasNames (is_alone (codes "2") ts) _ _ (λ e. tt) (λ e. tt))

pub spelled_names : (t : List ℕ) (ts : List (List ℕ)) → IfSome (spelled t ts) HasNames
unfolding spelled
spelled_names t ts =
    chosen_some HasNames (bytes_eq t (codes "requests")) _ _ (λ e. header_names ts)
    (λ e. chosen_some HasNames (bytes_eq t (codes "tables")) _ _ (λ e. mapped_some HasNames (λ x. line.Tables x.0 x.1) (lone (numbers_at ts)) (λ x e. tt))
    (λ e. chosen_some HasNames (bytes_eq t (codes "keep")) _ _ (λ e. mapped_some HasNames (λ x. line.Keep x.0 x.1) (lone (numbers_at ts)) (λ x e. tt))
    (λ e. chosen_some HasNames (bytes_eq t (codes "context")) _ _ (λ e. lone_context ts)
    (λ e. chosen_some HasNames (bytes_eq t (codes "access")) _ _ (λ e. lone_access ts)
    (λ e. chosen_some HasNames (bytes_eq t (codes "share")) _ _ (λ e. mapped_some HasNames (λ x. line.Link x) (share_of ts) (λ x e. tt))
    (λ e. chosen_some HasNames (bytes_eq t (codes "apart")) _ _ (λ e. mapped_some HasNames (λ x. line.Link x) (apart_of ts) (λ x e. tt))
    (λ e. chosen_some HasNames (bytes_eq t (codes "end")) _ _ (λ e. given_some HasNames (is_nothing ts) line.End tt)
    (λ e. mapped_some HasNames (λ x. line.Demand x) (demand_of t ts) (λ x e. tt)))))))))

-- ---- one more name

is_new : (names : List Name) (n : Name) → is_named names n ≡ false → (k : ℕ) (d : Name) → k < length names → get_or names k d ≢ n
is_new [] n none k d l = absurd (omega arith)
is_new (m ∷ names) n none zero d l = λ e. false≢true (sym (or_parts (same_name n m) (is_named names n) none).0 ∙ ap (λ (x : Name). same_name n x) e ∙ same_self n)
is_new (m ∷ names) n none (suc k) d l = is_new names n (or_parts (same_name n m) (is_named names n) none).1 k d (omega arith)

pub names_push : (names : List Name) (n : Name) → IsName n → is_named names n ≡ false → AreNames names → AreNames (names ++ n ∷ [])
names_push names n name none h = record {
  spelled = All-push IsName names n h.spelled name;
  distinct = all_pairs_push (λ (a : Name) (b : Name). a ≢ b) names n h.distinct (is_new names n none);
}

none_any : {X : Type 0} (p : X → Bool) (xs : List X) → length xs ≤ position_or_len p xs → list_any p xs ≡ false
none_any p [] past = refl
none_any p (x ∷ xs) past =
    elim (cases_Bool (p x)) [
      | inl is ↦ let at = stops_here p x xs is in absurd (omega (arith, past, at))
      | inr isnt ↦ let at = goes_by p x xs isnt in ap (λ (b : Bool). b || list_any p xs) isnt ∙ none_any p xs (omega (arith, past, at))
    ]

-- a name has a position where it is among the names
named_is : (names : List Name) (n : Name) → is_some (position_of names n) ≡ is_named names n
named_is names n = choose (position_of names n) refl
  where
    choose : (o : Option ℕ) → position_of names n ≡ o → is_some o ≡ is_named names n
    choose None e = sym (none_any (same_name n) names (missing (same_name n) names e))
    choose (Some i) e =
        elim (cases_Bool (is_named names n)) [
          | inl is ↦ sym is
          | inr isnt ↦ let bad : None ≡ Some i = sym (position_none (same_name n) names isnt) ∙ e in absurd cc
        ]

pub named_found : (t : NameTable) (names : List Name) (n : Name) → Finds t names → is_some (found_in t n) ≡ is_named names n
named_found t names n h = ap is_some (h n) ∙ named_is names n
