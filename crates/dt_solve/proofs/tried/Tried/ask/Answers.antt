use Rattle.std.proofs.Common.{◌≡◌, length, sym, ap, ◌∙◌, subst, arith}
use Rattle.dt_lemmas.proofs.Lists.{written}
use Rattle.dt_terms.specs.Terms.{AreTerms}
use Rattle.dt_terms.specs.Values.{IsAssignment}
use Rattle.dt_check.specs.Trials.{HoldChoices}
use Rattle.dt_solve.proofs.Held.{held_holds, held_fits}
use Rattle.dt_solve.proofs.tried.Tried.ask.Goals as goal

pub returns-clause-held : goal.returns-clause-held
returns-clause-held g c =
    let terms = c.args.problem.now.terms in
    let right : AreTerms terms = subst (λ p. AreTerms p.terms) c.problem.view_is c.problem.invariant.0.terms in
    let h = subst (HoldChoices g.D.Domain.ops terms c.args.cells.now) (sym c.hold_all.ensures) (held_holds g.row.D.Denot g.D.Domain.ops g.met.D.Domain.laws terms right c.args.cells.now c.propose.new.out c.requires.cells c.requires.held) in
    let size : c.args.self.now.numbers.len ≡ length c.args.self.now.numbers.items = omega (arith, c.as_mut_slice-numbers.ensures.len, ap length c.as_mut_slice-numbers.ensures.value) in
    let same = written c.args.self.now.numbers.len c.hold_all.new.out c.args.self.now.numbers.items size (h.count ∙ sym c.requires.numbers) in
    subst (HoldChoices g.D.Domain.ops terms c.args.cells.now) (sym same) h

pub returns-clause-assignment : goal.returns-clause-assignment
returns-clause-assignment g c =
    let terms = c.args.problem.now.terms in
    let right : AreTerms terms = subst (λ p. AreTerms p.terms) c.problem.view_is c.problem.invariant.0.terms in
    let h = subst (IsAssignment terms) (sym c.hold_all.ensures) (held_fits g.row.D.Denot g.D.Domain.ops g.met.D.Domain.laws terms right c.args.cells.now c.propose.new.out c.requires.cells c.requires.held) in
    let size : c.args.self.now.numbers.len ≡ length c.args.self.now.numbers.items = omega (arith, c.as_mut_slice-numbers.ensures.len, ap length c.as_mut_slice-numbers.ensures.value) in
    let same = written c.args.self.now.numbers.len c.hold_all.new.out c.args.self.now.numbers.items size (h.count ∙ sym c.requires.numbers) in
    subst (IsAssignment terms) (sym same) h
