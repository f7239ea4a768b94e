-- No claim is broken exactly where all hold.
use Rattle.std.proofs.Common.{◌≡◌, ℕ, suc, ◌<◌, ◌≤◌, Bool, true, false, not, List, [], ◌∷◌, length, Option, Some, None, ltb, refl, sym, ap, ◌∙◌, arith}
use Rattle.std.specs.Prelude.{IsTrue, position}
use Rattle.std.specs.List.{All, position_or_len}
use Rattle.std.proofs.lemmas.Bool.{ltb-false, ltb-true, false_from_ne_true, cond-false, cond-true}
use Rattle.std.proofs.lemmas.List.Elements.{All-cons}
use Rattle.dt_satisfy.specs.declared.verdict.Judged.{Judged}
use Rattle.dt_satisfy.specs.declared.verdict.Judged.TheVariants as judged
use Rattle.dt_satisfy.specs.Satisfies.{verdict_of}

all_held : (xs : List Bool) → All IsTrue xs → length xs ≤ position_or_len not xs
all_held [] h = omega arith
all_held (true ∷ xs) h = let r = all_held xs (λ k d l. h (suc k) d (omega arith)) in omega (arith, r)
all_held (false ∷ xs) h = absurd (let e : false ≡ true = h 0 false (omega arith) in cc)

held_all : (xs : List Bool) → length xs ≤ position_or_len not xs → All IsTrue xs
held_all [] l = λ k d m. absurd (omega arith)
held_all (true ∷ xs) l = All-cons IsTrue true xs refl (held_all xs (omega arith))
held_all (false ∷ xs) l = absurd (omega arith)

none_from : (xs : List Bool) → length xs ≤ position_or_len not xs → position not xs ≡ None
none_from xs l = cond-false (ltb (position_or_len not xs) (length xs)) (Some (position_or_len not xs)) None (false_from_ne_true _ (λ t. absurd (let h : position_or_len not xs < length xs = ltb-true _ _ t in omega arith)))

from_none : (xs : List Bool) → position not xs ≡ None → length xs ≤ position_or_len not xs
from_none xs e = ltb-false _ _ (false_from_ne_true (ltb (position_or_len not xs) (length xs)) (λ t. let n : Some (position_or_len not xs) ≡ None = sym (cond-true (ltb (position_or_len not xs) (length xs)) (Some (position_or_len not xs)) None t) ∙ e in absurd (cc)))

satisfied : (o : Option ℕ) → verdict_of o ≡ judged.Satisfies → o ≡ None
satisfied None e = refl
satisfied (Some k) e = absurd (cc)

pub satisfies_all : (xs : List Bool) (found : Judged) → found ≡ verdict_of (position not xs) → found ≡ judged.Satisfies → All IsTrue xs
satisfies_all xs found v e = held_all xs (from_none xs (satisfied (position not xs) (sym v ∙ e)))

pub all_satisfy : (xs : List Bool) (found : Judged) → found ≡ verdict_of (position not xs) → All IsTrue xs → found ≡ judged.Satisfies
all_satisfy xs found v h = v ∙ ap verdict_of (none_from xs (all_held xs h))
