-- What spells a name is a word of few bytes.
use Rattle.std.proofs.Common.{◌≡◌, ℕ, ◌<◌, ◌≤◌, true, ◌&&◌, eqb, ltb, List, [], ◌∷◌, ◌++◌, length, get_or, Some, None, refl, sym, ◌∙◌, arith, inl, inr}
use Rattle.std.specs.List.{list_all}
use Rattle.std.specs.Str.{bytes_eq}
use Rattle.std.proofs.lemmas.Bool.{cases_Bool, and_from, and_parts, cond-false, ltb-true, eq-eqb, false≢true}
use Rattle.std.proofs.lemmas.Slice.Eq.{bytes_eq-Decides}
use Rattle.dt_lex.specs.declared.name.Name.{Name}
use Rattle.dt_lex.specs.Names.{is_lower, goes_on, spells_name, padded_name, name_of, same_name}
use Rattle.dt_lex.specs.Printing.{is_plain, all_plain, IsWord}

pub plain_append : (xs ys : List ℕ) → all_plain xs ≡ true → all_plain ys ≡ true → all_plain (xs ++ ys) ≡ true
plain_append [] ys h k = k
plain_append (x ∷ xs) ys h k =
    let p = and_parts (is_plain x) (all_plain xs) h in
    and_from (is_plain x) (all_plain (xs ++ ys)) p.0 (plain_append xs ys p.1 k)

some_spells : (t : List ℕ) (n : Name) → name_of t ≡ Some n → spells_name t ≡ true
unfolding name_of
some_spells t n h =
    elim (cases_Bool (spells_name t)) [
      | inl is ↦ is
      | inr isnt ↦ let bad : None ≡ Some n = sym (cond-false (spells_name t) (Some (padded_name t)) None isnt) ∙ h in absurd cc
    ]

goes_plain : (b : ℕ) → goes_on b ≡ true → is_plain b ≡ true
goes_plain b h = grind arith

all_go_plain : (bs : List ℕ) → list_all goes_on bs ≡ true → all_plain bs ≡ true
all_go_plain [] h = refl
all_go_plain (b ∷ bs) h =
    let p = and_parts (goes_on b) (list_all goes_on bs) h in
    and_from (is_plain b) (all_plain bs) (goes_plain b p.0) (all_go_plain bs p.1)

first_lower : (t : List ℕ) → is_lower (get_or t 0 0) ≡ true → 0 < length t
first_lower [] h = absurd (false≢true h)
first_lower (b ∷ bs) h = omega arith

-- what spells a name is a word of at most 31 bytes
pub name_word : (t : List ℕ) (n : Name) → name_of t ≡ Some n → IsWord t × (length t ≤ 31)
name_word t n h =
    let p = and_parts (is_lower (get_or t 0 0) && list_all goes_on t) (ltb (length t) 32) (some_spells t n h) in
    let q = and_parts (is_lower (get_or t 0 0)) (list_all goes_on t) p.0 in
    let few : length t < 32 = ltb-true (length t) 32 p.1 in
    (record { some = first_lower t q.0; plain = all_go_plain t q.1 }, omega arith)

pub same_self : (n : Name) → same_name n n ≡ true
same_self n = and_from (bytes_eq n.bytes n.bytes) (eqb n.len n.len) ((bytes_eq-Decides n.bytes n.bytes).1 refl) (eq-eqb n.len n.len refl)
