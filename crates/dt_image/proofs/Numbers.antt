-- Tokens read as numbers, one by one.
use Rattle.std.proofs.Common.{◌≡◌, ℕ, length, get_or, arith, List, [], ◌∷◌, ◌++◌, Option, Some, None, refl, sym, ap, append_assoc}
use Rattle.std.specs.Option.{option_map}
use Rattle.std.proofs.lemmas.List.{append-nil}
use Rattle.dt_lex.specs.Numeral.{number_of}
use Rattle.dt_image.specs.Line.{numbers_of, two_of}

-- the numbers of front, and then those that were read
unfoldable pub with_front : List ℕ → Option (List ℕ) → Option (List ℕ)
with_front front o = option_map (λ ns. front ++ ns) o

pub numbers_start : (o : Option (List ℕ)) → with_front [] o ≡ o
unfolding with_front
numbers_start None = refl
numbers_start (Some ns) = refl

push_front : (front : List ℕ) (n : ℕ) (o : Option (List ℕ)) → with_front front (option_map (λ ns. n ∷ ns) o) ≡ with_front (front ++ n ∷ []) o
unfolding with_front
push_front front n None = refl
push_front front n (Some ns) = ap (λ (xs : List ℕ). Some xs) (sym (append_assoc front (n ∷ []) ns))

pub numbers_more : (front : List ℕ) (n : ℕ) (t : List ℕ) (ts us : List (List ℕ)) → ts ≡ t ∷ us → number_of t ≡ Some n → with_front front (numbers_of ts) ≡ with_front (front ++ n ∷ []) (numbers_of us)
unfolding numbers_of
numbers_more front n t ts us e h = rw (e, h) (push_front front n (numbers_of us))

pub numbers_stop : (front : List ℕ) (t : List ℕ) (ts us : List (List ℕ)) → ts ≡ t ∷ us → number_of t ≡ None → with_front front (numbers_of ts) ≡ None
unfolding numbers_of with_front
numbers_stop front t ts us e h = rw (e, h) refl

pub numbers_end : (front : List ℕ) (ts : List (List ℕ)) → ts ≡ [] → with_front front (numbers_of ts) ≡ Some front
unfolding numbers_of with_front
numbers_end front ts e = rw e (ap (λ (xs : List ℕ). Some xs) (append-nil front))

pub two_at : (ns : List ℕ) → length ns ≡ 2 → Some (get_or ns 0 0, get_or ns 1 0) ≡ two_of ns
two_at [] h = absurd (omega arith)
two_at (a ∷ []) h = absurd (omega arith)
two_at (a ∷ b ∷ []) h = refl
two_at (a ∷ b ∷ c ∷ ns) h = absurd (omega arith)

pub two_else : (ns : List ℕ) → (length ns ≡ 2 → ⊥) → None ≡ two_of ns
two_else [] h = refl
two_else (a ∷ []) h = refl
two_else (a ∷ b ∷ []) h = absurd (h refl)
two_else (a ∷ b ∷ c ∷ ns) h = refl
