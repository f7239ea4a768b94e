use Rattle.std.proofs.Common.{refl, sym, ◌∙◌, arith}
use Rattle.std.proofs.lemmas.List.{length-map, get_or-map}
use Rattle.dt_terms.specs.Terms.{choices_of}
use Rattle.dt_check.specs.Trials.{pick_at, picks}
use Rattle.dt_solve.proofs.Numbers.{tries_next, tries_end}
use Rattle.dt_solve.proofs.tried.note_tries.Goals as goal

pub loop-choice-preserved : goal.loop-choice-preserved
loop-choice-preserved g c =
    let ops = g.D.Domain.ops in
    let choices = choices_of c.args.problem.now.terms in
    let end = c.choice_count-choice-end.ensures in
    let n = length-map choices (pick_at ops c.args.cells.now) in
    let l = c.loop-choice-test.true in
    let count = c.requires.count in
    tries_next c.loop-choice.choice (picks ops c.args.problem.now.terms c.args.cells.now) c.args.numbers.now c.loop-choice.pairs.items _ _ _ (omega arith) (omega arith)
    (get_or-map (pick_at ops c.args.cells.now) choices c.loop-choice.choice 0 0 (omega arith) ∙ sym c.pick_of-pick.ensures) refl c.in_ok-note_try.ensures
    ∙ c.loop-choice.invariant

pub returns : goal.returns
returns g c =
    let ops = g.D.Domain.ops in
    let end = c.choice_count-choice-end.ensures in
    let past = c.loop-choice-test.false in
    let n = length-map (choices_of c.args.problem.now.terms) (pick_at ops c.args.cells.now) in
    sym (tries_end c.loop-choice.choice (picks ops c.args.problem.now.terms c.args.cells.now) c.args.numbers.now c.loop-choice.pairs.items (omega arith)) ∙ c.loop-choice.invariant
