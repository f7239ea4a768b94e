use Rattle.std.proofs.Common.{◌+◌, ℕ, List, drop, refl, sym, ap, ◌∙◌}
use Rattle.dt_check.specs.Trials.{with_tries}
use Rattle.dt_check.specs.Tests.{is_try}
use Rattle.dt_check.specs.Evaluating.{numbers_of}
use Rattle.dt_check.proofs.Testing.{all_at}
use Rattle.dt_check.proofs.Overwriting.{next_try, last_try}
use Rattle.dt_check.proofs.trial.Trial.take_tries.Goals as goal

pub loop-pair-init : goal.loop-pair-init
loop-pair-init g c = record {
  trying = c.requires.trying;
  rest = ap (λ (ns : List ℕ). with_tries ns c.args.tries.now) c.requires.numbers;
  seen = refl;
}

pub take_try-requires-clause-held : goal.take_try-requires-clause-held
take_try-requires-clause-held g c =
    all_at (is_try g.D.Domain.ops c.args.problem.now.terms c.args.cells.now) c.args.tries.now c.loop-pair.pair-index (0, 0) c.requires.tries c.loop-pair-test.true

pub loop-pair-preserved : goal.loop-pair-preserved
loop-pair-preserved g c =
    let terms = c.args.problem.now.terms in
    let tries = c.args.tries.now in
    let k = c.loop-pair.pair-index in
    let numbers = numbers_of terms c.loop-pair.self.evaluation.values.items in
    record {
      trying = c.take_try.ensures.trying;
      rest = ap (λ (ns : List ℕ). with_tries ns (drop (k + 1) tries)) c.take_try.ensures.numbers ∙ next_try numbers tries k (0, 0) c.loop-pair-test.true ∙ c.loop-pair.invariant.rest;
      seen = c.take_try.ensures.seen ∙ c.loop-pair.invariant.seen;
    }

pub returns-clause-numbers : goal.returns-clause-numbers
returns-clause-numbers g c =
    sym (last_try (numbers_of c.args.problem.now.terms c.loop-pair.self.evaluation.values.items) c.args.tries.now c.loop-pair.pair-index c.loop-pair-test.false) ∙ c.loop-pair.invariant.rest
