use Rattle.std.proofs.Common.{◌≡◌, ℕ, length, replicate, false, ap, ◌∙◌}
use Rattle.dt_terms.specs.Problem.{ProblemData}
use Rattle.dt_check.proofs.trial.Trial.new.Goals as goal

pub mark_choices-requires : goal.mark_choices-requires
mark_choices-requires c =
    let n : c.len.result ≡ length c.args.problem.now.terms = c.len.ensures ∙ ap (λ (p : ProblemData). length p.terms) c.problem.view_is in
    c.in_ok-changed.ensures ∙ ap (λ (n : ℕ). replicate n false) n
