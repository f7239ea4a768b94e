use Rattle.std.proofs.Common.{◌≡◌, true, ℕ, List, sym, ap, ◌∙◌, subst}
use Rattle.std.specs.List.{list_all}
use Rattle.dt_terms.specs.Values.{solves}
use Rattle.dt_check.specs.Trials.{tried, picks}
use Rattle.dt_solve.specs.Tries.{tries_from}
use Rattle.dt_check.specs.Tests.{is_try}
use Rattle.dt_solve.proofs.Fails.{tries_pass, tried_are}
use Rattle.dt_solve.proofs.tried.Tried.try_numbers.Goals as goal

pub solves-requires-clause-tries : goal.solves-requires-clause-tries
solves-requires-clause-tries g c =
    let p = c.args.problem.now in
    let ops = g.D.Domain.ops in
    let cells = c.args.cells.now in
    let pairs = c.deref-2.ensures.value ∙ c.in_ok-note_tries.ensures ∙ ap (tries_from 0 (picks ops p.terms cells)) c.deref.ensures.value in
    subst (λ (ps : List (ℕ × ℕ)). list_all (is_try ops p.terms cells) ps ≡ true) (sym pairs) (tries_pass g.row.D.Denot ops p cells c.ask.new.self.numbers.items c.ask.ensures.held)

pub returns-clause-solves : goal.returns-clause-solves
returns-clause-solves g c =
    let p = c.args.problem.now in
    let ops = g.D.Domain.ops in
    let cells = c.args.cells.now in
    let pairs = c.deref-2.ensures.value ∙ c.in_ok-note_tries.ensures ∙ ap (tries_from 0 (picks ops p.terms cells)) c.deref.ensures.value in
    c.solves.ensures.solves ∙ ap (λ (ps : List (ℕ × ℕ)). solves p (tried ops p.terms cells ps)) pairs ∙ ap (solves p) (tried_are g.row.D.Denot ops p cells c.ask.new.self.numbers.items c.ask.ensures.held.count)
