use Rattle.std.proofs.Common.{◌≡◌, ◌+◌, ◌-◌, sym, ap, ◌∙◌, subst}
use Rattle.dt_terms.specs.Problem.{ProblemData}
use Rattle.dt_terms.specs.Additions.{with_term}
use Rattle.dt_forms.specs.Placing.{Placed, place}
use Rattle.dt_build.specs.Building.{placed_in}
use Rattle.dt_build.proofs.Entered.{place_old, place_new}
use Rattle.dt_build.proofs.builder.Builder.place.Goals as goal

pub returns-then-not-added-clause-at : goal.returns-then-not-added-clause-at
returns-then-not-added-clause-at c =
    let is = place_old c.self.inside.problem.terms c.self.inside.nodes c.args.op c.args.a c.args.b c.args.c c.in_ok-node.node c.self.invariant c.in_ok-node.ensures (sym c.in_ok-place.ensures.added ∙ c.if-not-added.true) in
    subst (λ (p : ProblemData). (c.term_count.result - c.len.result) + c.in_ok-place.place ≡ (place p.terms c.args.op c.args.a c.args.b c.args.c).at) c.self.view_is
    (let e = ap (λ (x : Placed). x.at) is in
    let f = c.in_ok-place.ensures.place in
    let g = c.term_count.ensures.count in
    let h = c.len.ensures.count in
    cc)

pub returns-then-not-added-clause-placed : goal.returns-then-not-added-clause-placed
returns-then-not-added-clause-placed c =
    let is = place_old c.self.inside.problem.terms c.self.inside.nodes c.args.op c.args.a c.args.b c.args.c c.in_ok-node.node c.self.invariant c.in_ok-node.ensures (sym c.in_ok-place.ensures.added ∙ c.if-not-added.true) in
    subst (λ (p : ProblemData). c.self.inside.problem ≡ placed_in p (place p.terms c.args.op c.args.a c.args.b c.args.c)) c.self.view_is
    (ap (placed_in c.self.inside.problem) (sym is))

pub returns-in-Ok-clause-at : goal.returns-in-Ok-clause-at
returns-in-Ok-clause-at c =
    let is = place_new c.self.inside.problem.terms c.self.inside.nodes c.args.op c.args.a c.args.b c.args.c c.in_ok-node.node c.self.invariant c.in_ok-node.ensures (sym c.in_ok-place.ensures.added ∙ c.if-not-added.false) in
    subst (λ (p : ProblemData). c.in-Ok.position ≡ (place p.terms c.args.op c.args.a c.args.b c.args.c).at) c.self.view_is
    (c.in-Ok.ensures.position ∙ sym (ap (λ (x : Placed). x.at) is))

pub returns-in-Ok-clause-placed : goal.returns-in-Ok-clause-placed
returns-in-Ok-clause-placed c =
    let is = place_new c.self.inside.problem.terms c.self.inside.nodes c.args.op c.args.a c.args.b c.args.c c.in_ok-node.node c.self.invariant c.in_ok-node.ensures (sym c.in_ok-place.ensures.added ∙ c.if-not-added.false) in
    subst (λ (p : ProblemData). c.add.new.self ≡ placed_in p (place p.terms c.args.op c.args.a c.args.b c.args.c)) c.self.view_is
    (c.in-Ok.ensures.added ∙ ap (with_term c.self.inside.problem) (sym c.in_ok-node.ensures) ∙ ap (placed_in c.self.inside.problem) (sym is))
