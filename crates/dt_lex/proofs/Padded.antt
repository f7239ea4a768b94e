-- A name's bytes, with zeros after them, and the token that spells it.
use Rattle.std.proofs.Common.{◌≡◌, ℕ, ◌-◌, ◌<◌, ◌≤◌, true, false, ◌&&◌, ltb, List, [], ◌∷◌, ◌++◌, length, drop, get_or, replicate, Some, None, refl, sym, ap, ◌∙◌, arith, Bool, bytes_eq, eqb}
use Rattle.std.specs.List.{list_all}
use Rattle.std.proofs.lemmas.Bool.{and_parts, and_right, cond-true, cond-false, lt-ltb, le-ltb, ltb-true, eqb-true}
use Rattle.std.proofs.lemmas.Slice.Eq.{bytes_eq-Decides}
use Rattle.std.proofs.lemmas.List.{drop-replicate}
use Rattle.std.proofs.lemmas.Option.{cond_some}
use Rattle.std.proofs.Math.Bool.{and-true}
use Rattle.std.proofs.Math.Seq.{take-append_seam}
use Rattle.dt_lex.specs.declared.name.Name.{Name}
use Rattle.dt_lex.specs.Names.{is_lower, goes_on, spells_name, padded_name, name_of, bytes_of, same_name, IsName}

pub name_of_not : (t : List ℕ) → spells_name t ≡ false → name_of t ≡ None
unfolding name_of
name_of_not t h = cond-false (spells_name t) (Some (padded_name t)) None h

pub name_of_spells : (t : List ℕ) → spells_name t ≡ true → name_of t ≡ Some (padded_name t)
unfolding name_of
name_of_spells t h = cond-true (spells_name t) (Some (padded_name t)) None h

pub spells_short : (t : List ℕ) → length t ≤ 31 → spells_name t ≡ (is_lower (get_or t 0 0) && list_all goes_on t)
spells_short t h = rw (lt-ltb (length t) 32 (omega arith)) (and-true (is_lower (get_or t 0 0) && list_all goes_on t))

pub spells_long : (t : List ℕ) → 31 < length t → spells_name t ≡ false
spells_long t h = and_right (is_lower (get_or t 0 0) && list_all goes_on t) (ltb (length t) 32) (le-ltb (length t) 32 (omega arith))

pub spells_none : (t : List ℕ) → length t ≡ 0 → spells_name t ≡ false
spells_none [] h = refl
spells_none (b ∷ bs) h = absurd (omega arith)

pub spelled_short : (t : List ℕ) → spells_name t ≡ true → length t < 32
spelled_short t h = ltb-true (length t) 32 (and_parts (is_lower (get_or t 0 0) && list_all goes_on t) (ltb (length t) 32) h).1

-- the bytes that were copied, and the zeros that were left
pub padded_at : (t a b : List ℕ) → a ≡ t → b ≡ drop (length t) (replicate 31 0) → record { bytes = a ++ b; len = length t } ≡ padded_name t
padded_at t a b same zeros = λ i. record { bytes = same i ++ (zeros ∙ drop-replicate (length t) 31 0) i; len = length t }

-- a name that was read has the token as its bytes
pub bytes_of-name_of : (t : List ℕ) (n : Name) → name_of t ≡ Some n → bytes_of n ≡ t
unfolding name_of
bytes_of-name_of t n h =
    let p = cond_some (spells_name t) (padded_name t) n h in
    ap bytes_of (sym p.1) ∙ take-append_seam t (replicate (31 - length t) 0)

-- and its bytes spell it
pub name_of_again : (t : List ℕ) (n : Name) → name_of t ≡ Some n → IsName n
name_of_again t n h = ap name_of (bytes_of-name_of t n h) ∙ h

pub padded_is : (t : List ℕ) → spells_name t ≡ true → IsName (padded_name t)
padded_is t h = name_of_again t (padded_name t) (name_of_spells t h)

pub padded_bytes : (t : List ℕ) → bytes_of (padded_name t) ≡ t
padded_bytes t = take-append_seam t (replicate (31 - length t) 0)

-- names that are compared as one are one
pub same_name_is : (m n : Name) → same_name m n ≡ true → m ≡ n
same_name_is m n h =
    let p = and_parts (bytes_eq m.bytes n.bytes) (eqb m.len n.len) h in
    let bytes : m.bytes ≡ n.bytes = (bytes_eq-Decides m.bytes n.bytes).0 p.0 in
    let len : m.len ≡ n.len = eqb-true m.len n.len p.1 in
    λ i. record { bytes = bytes i; len = len i }
