-- Each name of an accepted model, and of a list, is found where it stands.
use Rattle.std.proofs.Common.{◌≡◌, ℕ, ◌<◌, false, List, [], ◌∷◌, ◌++◌, length, take, get_or, Option, Some, None, refl, sym, ap, subst, ◌∙◌, arith}
use Rattle.std.specs.Prelude.{map, slice_get, IsSomeAnd}
use Rattle.std.specs.List.{list_any}
use Rattle.std.specs.Option.{option_map}
use Rattle.std.proofs.lemmas.Bool.{or_parts, false_from_ne_true}
use Rattle.std.proofs.lemmas.Option.{slice_get-map, slice_get_within, get_or_from_slice_get}
use Rattle.std.proofs.Math.Seq.{take-append_seam}
use Rattle.std.proofs.lemmas.List.{length-take, get_or-take}
use Rattle.std.proofs.lemmas.List.Folds.{list_any-append, list_any_none}
use Rattle.dt_lemmas.proofs.Options.{some_is, unbroken}
use Rattle.dt_lemmas.proofs.Positions.{position_at}
use Rattle.dt_lex.specs.declared.name.Name.{Name}
use Rattle.dt_lex.specs.Names.{same_name}
use Rattle.dt_lex.proofs.NameWords.{same_self}
use Rattle.dt_lex.proofs.Padded.{same_name_is}
use Rattle.dt_model.specs.declared.model.Named.{Named}
use Rattle.dt_model.specs.declared.refusal.ModelRefusal.TheVariants.{NameTwice}
use Rattle.dt_model.specs.declared.refusal.Place.TheVariants.{Reg, Input, Node}
use Rattle.dt_model.specs.ModelData.{ModelData, NodeData}
use Rattle.dt_model.specs.Faults.{IsAccepted, is_named, names_of}
use Rattle.dt_model.specs.Positions.{position_of}
use Rattle.dt_request.specs.Lists.{AreNames}
use Rattle.dt_request.specs.Entry.{node_names}

-- the position of the name at a place is this place
abbrev pub ArePlaced : List Name → Type 0
ArePlaced names = (i : ℕ) (n : Name) → slice_get names i ≡ Some n → position_of names n ≡ Some i

-- no earlier name is this one
abbrev AreFresh : {X : Type 0} → (X → Name) → List X → Type 0
AreFresh {X} f xs = (i : ℕ) (x : X) → slice_get xs i ≡ Some x → list_any (same_name (f x)) (map f (take i xs)) ≡ false

placed_from : {X : Type 0} (f : X → Name) (xs : List X) → AreFresh f xs → ArePlaced (map f xs)
placed_from {X} f xs fresh i n at = choose (slice_get xs i) refl
  where
    choose : (o : Option X) → slice_get xs i ≡ o → position_of (map f xs) n ≡ Some i
    choose None e =
        let bad : None ≡ Some n = sym (slice_get-map f xs i ∙ ap (option_map f) e) ∙ at in
        absurd cc
    choose (Some x) e =
        let is : f x ≡ n = some_is (f x) n (sym (slice_get-map f xs i ∙ ap (option_map f) e) ∙ at) in
        subst (λ (m : Name). position_of (map f xs) m ≡ Some i) is (position_at f (same_name (f x)) xs i x e (fresh i x e) (same_self (f x)))

-- ---- names of a model

pub regs_placed : (d : ModelData) → IsAccepted d → ArePlaced (names_of d.regs)
regs_placed d a = placed_from (λ (n : Named). n.name) d.regs (λ i n at. false_from_ne_true _ (unbroken (slice_get d.regs i) n _ at (a (Reg i) NameTwice)))

pub inputs_placed : (d : ModelData) → IsAccepted d → ArePlaced (names_of d.inputs)
inputs_placed d a =
    placed_from (λ (n : Named). n.name) d.inputs (λ i n at.
    let p = same_name n.name in
    let none : list_any p (names_of d.regs ++ names_of (take i d.inputs)) ≡ false = false_from_ne_true _ (unbroken (slice_get d.inputs i) n _ at (a (Input i) NameTwice)) in
    (or_parts (list_any p (names_of d.regs)) (list_any p (names_of (take i d.inputs))) (sym (list_any-append p (names_of d.regs) (names_of (take i d.inputs))) ∙ none)).1)

pub nodes_placed : (d : ModelData) → IsAccepted d → ArePlaced (node_names d)
nodes_placed d a = placed_from (λ (n : NodeData). n.name) d.nodes (λ i n at. false_from_ne_true _ (unbroken (slice_get d.nodes i) n _ at (a (Node i) NameTwice)))

-- ---- names of a list

-- no earlier name is the one at a place
pub fresh_at : (names : List Name) (i : ℕ) (n : Name) → AreNames names → slice_get names i ≡ Some n → list_any (same_name n) (take i names) ≡ false
fresh_at names i n h at =
    let within = slice_get_within names i n at in
    list_any_none (same_name n) (take i names) (λ k d l.
    let before : k < i = omega (arith, l, length-take i names) in
    false_from_ne_true (same_name n (get_or (take i names) k d)) (λ e.
    h.distinct k i d before within (sym (get_or-take i names k d before) ∙ sym (same_name_is n (get_or (take i names) k d) e) ∙ sym (get_or_from_slice_get names i n d at))))

map_same : {X : Type 0} (xs : List X) → map (λ x. x) xs ≡ xs
map_same [] = refl
map_same {X = X} (x ∷ xs) = ap (λ (ys : List X). x ∷ ys) (map_same xs)

pub names_placed : (names : List Name) → AreNames names → ArePlaced names
names_placed names h =
    subst ArePlaced (map_same names) (placed_from (λ (n : Name). n) names (λ i n at. ap (list_any (same_name n)) (map_same (take i names)) ∙ fresh_at names i n h at))

at_seam : {X : Type 0} (xs : List X) (y : X) (ys : List X) → slice_get (xs ++ y ∷ ys) (length xs) ≡ Some y
at_seam [] y ys = refl
at_seam (x ∷ xs) y ys = at_seam xs y ys

-- the next name isn't among those before it
pub fresh_next : (xs : List Name) (n : Name) (ys : List Name) → AreNames (xs ++ n ∷ ys) → is_named xs n ≡ false
fresh_next xs n ys h = ap (list_any (same_name n)) (sym (take-append_seam xs (n ∷ ys))) ∙ fresh_at (xs ++ n ∷ ys) (length xs) n h (at_seam xs n ys)
