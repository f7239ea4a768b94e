use Rattle.std.proofs.Common.{◌≡◌, ◌<◌, ℕ, Bool, List, Some, None, length, get_or, set, sym, ap, ◌∙◌, subst, arith}
use Rattle.std.proofs.lemmas.Option.{get_or_from_slice_get, slice_get-get_or}
use Rattle.dt_domain.specs.Domain.{Holds}
use Rattle.dt_terms.specs.Terms.{choices_of}
use Rattle.dt_box.specs.Cells.{cell_at}
use Rattle.dt_check.specs.Evaluating.{numbers_of}
use Rattle.dt_check.specs.Trying.{ArePicked}
use Rattle.dt_check.proofs.Testing.{try_is}
use Rattle.dt_check.proofs.Evaluating.{numbers_set}
use Rattle.dt_check.proofs.Trying.{held_fits, picked_tried}
use Rattle.dt_check.proofs.trial.Trial.take_try.Goals as goal

pub set_choice-requires-clause-number : goal.set_choice-requires-clause-number
set_choice-requires-clause-number g c =
    let D = g.row.D.Denot in
    let ops = g.D.Domain.ops in
    let terms = c.args.problem.now.terms in
    let cells = c.args.cells.now in
    let e = get_or_from_slice_get (choices_of terms) c.args.choice c.in-Some.term 0 (sym c.in-Some.ensures.value) in
    let try = try_is D ops terms cells (c.args.choice, c.args.number) c.requires.held in
    held_fits D ops g.met.D.Domain.laws terms cells c.in-Some.term c.args.number c.requires.cells c.in-Some.ensures.there.0
    (subst (λ t. Holds ops (cell_at ops cells t) c.args.number) e try.1)

pub returns-in-Some-clause-trying : goal.returns-in-Some-clause-trying
returns-in-Some-clause-trying g c =
    let D = g.row.D.Denot in
    let ops = g.D.Domain.ops in
    let terms = c.args.problem.now.terms in
    let cells = c.args.cells.now in
    let marks = c.args.self.now.changed.marks.items in
    let values = c.args.self.now.evaluation.values.items in
    let t = c.in-Some.term in
    let v = c.args.number in
    let l : t < length marks = omega (arith, c.in-Some.ensures.there.0, c.requires.trying.picked.count) in
    record {
      watches = c.requires.trying.watches;
      seen_to = c.set_choice.ensures.seen_to;
      picked = subst (λ (vs : List ℕ). ArePicked ops terms cells c.mark.new.self.marks.items vs) (sym c.set_choice.ensures.values)
          (subst (λ (ms : List Bool). ArePicked ops terms cells ms (set values t v)) (sym c.mark.ensures) (picked_tried D ops terms cells marks values t v l c.in-Some.ensures.there.1 c.requires.trying.picked));
    }

pub returns-in-Some-clause-numbers : goal.returns-in-Some-clause-numbers
returns-in-Some-clause-numbers g c =
    let terms = c.args.problem.now.terms in
    let values = c.args.self.now.evaluation.values.items in
    let e = get_or_from_slice_get (choices_of terms) c.args.choice c.in-Some.term 0 (sym c.in-Some.ensures.value) in
    let try = try_is g.row.D.Denot g.D.Domain.ops terms c.args.cells.now (c.args.choice, c.args.number) c.requires.held in
    ap (numbers_of terms) c.set_choice.ensures.values ∙ numbers_set terms values c.args.choice c.in-Some.term c.args.number c.requires.trying.seen_to.are.count try.0 (sym e)

pub returns-in-None-clause-numbers : goal.returns-in-None-clause-numbers
returns-in-None-clause-numbers g c =
    let terms = c.args.problem.now.terms in
    let k = c.args.choice in
    let try = try_is g.row.D.Denot g.D.Domain.ops terms c.args.cells.now (k, c.args.number) c.requires.held in
    let f : None ≡ Some (get_or (choices_of terms) k 0) = c.in-None.ensures.value ∙ slice_get-get_or (choices_of terms) k 0 try.0 in
    absurd cc
