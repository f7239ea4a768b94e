use Rattle.std.proofs.Common.{◌≡◌, ℕ, zero, suc, ◌<◌, ◌-◌, List, [], ◌∷◌, Option, Some, None, length, get_or, sym, ap, ◌∙◌, subst, arith}
use Rattle.std.specs.Prelude.{IfSome, slice_get}
use Rattle.std.proofs.lemmas.List.FromFn.{length-map-range_with_len}
use Rattle.dt_box.specs.Stillness.{IsStillAt}
use Rattle.dt_box.specs.Watching.{users_of}
use Rattle.dt_box.proofs.Watching.{users_at_term}
use Rattle.dt_box.proofs.near.last_user.Goals as goal

at_place : (P : ℕ → Type 0) (xs : List ℕ) (i x : ℕ) → slice_get xs i ≡ Some x → ((k : ℕ) → k < length xs → P (get_or xs k 0)) → P x
at_place P [] i x e h = absurd (cc)
at_place P (y ∷ ys) zero x e h = let s : y ≡ x = cc in subst P s (h 0 (omega arith))
at_place P (y ∷ ys) (suc i) x e h = at_place P ys i x e (λ k l. h (suc k) (omega arith))

at_last : (P : ℕ → Type 0) (xs : List ℕ) (o : Option ℕ) → o ≡ slice_get xs (length xs - 1) → ((k : ℕ) → k < length xs → P (get_or xs k 0)) → IfSome o P
at_last P xs None e h = tt
at_last P xs (Some x) e h = at_place P xs (length xs - 1) x (sym e) h

pub users-requires : goal.users-requires
users-requires g c =
    let terms = c.args.terms.now in
    let n = length-map-range_with_len (users_of terms) 0 (length terms) in
    let e = ap (λ (xs : List (List ℕ)). length xs) c.requires.watches in
    omega (arith, c.requires.term)

pub returns : goal.returns
returns g c =
    let terms = c.args.terms.now in
    let e = c.users.ensures ∙ ap (λ (xs : List (List ℕ)). get_or xs c.args.term []) c.requires.watches ∙ users_at_term terms c.args.term c.requires.term in
    at_last (λ n. IsStillAt g.D.Domain.ops terms n c.args.cells.now) (users_of terms c.args.term) c.copied.result
    (c.copied.ensures ∙ c.last.ensures.value ∙ ap (λ us. slice_get us (length us - 1)) e) c.requires.near.users
