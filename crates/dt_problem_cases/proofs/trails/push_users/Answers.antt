use Rattle.std.proofs.Common.{◌≡◌, ℕ, ◌<◌, List, length, ap, arith}
use Rattle.std.proofs.lemmas.List.FromFn.{length-map-range_with_len}
use Rattle.dt_box.specs.Watching.{users_of}
use Rattle.dt_problem_cases.proofs.trails.push_users.Goals as goal

pub users-users-requires : goal.users-users-requires
users-users-requires c =
    let terms = c.args.problem.now.terms in
    let n = length-map-range_with_len (users_of terms) 0 (length terms) in
    let e = ap (λ (xs : List (List ℕ)). length xs) c.requires in
    let v = ap (λ p. length p.terms) c.problem.view_is in
    omega (arith, c.len-term-end.ensures)
