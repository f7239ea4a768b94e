use Rattle.std.proofs.Common.{sym, ap, ◌∙◌, subst}
use Rattle.std.specs.List.{filter}
use Rattle.dt_pair.specs.Pair.{pair_holds}
use Rattle.dt_sets.specs.declared.Sets.{Sets}
use Rattle.dt_sets.specs.Sets.{IsSets, listed}
use Rattle.dt_sets.specs.Triple.{of_numbers}
use Rattle.dt_sets.specs.Laws.Form.{areas, filtered_of, listed_is}
use Rattle.dt_sets.specs.TripleLaws.Reduced.{reduced_many, reduced_few}
use Rattle.dt_sets.proofs.Triple.reduced.Goals as goal

pub held_by_pair-requires-clause-self_is : goal.held_by_pair-requires-clause-self_is
held_by_pair-requires-clause-self_is c = c.requires.sets

pub held_by_pair-requires-clause-few : goal.held_by_pair-requires-clause-few
held_by_pair-requires-clause-few c = c.if-sets.false

pub held_by_pair-requires-clause-pair : goal.held_by_pair-requires-clause-pair
held_by_pair-requires-clause-pair c = c.requires.pair

pub of_numbers-requires-clause-sets : goal.of_numbers-requires-clause-sets
of_numbers-requires-clause-sets c =
    let s = c.args.sets.now in
    subst IsSets (sym c.held_by_pair.ensures) (filtered_of (pair_holds c.args.pair.now) s.width (listed s) c.requires.sets.width (areas s c.requires.sets)).0

pub of_numbers-requires-clause-few : goal.of_numbers-requires-clause-few
of_numbers-requires-clause-few c = ap (λ (s : Sets). s.many) c.held_by_pair.ensures

pub returns-then-sets : goal.returns-then-sets
returns-then-sets c = c.of_pair.ensures ∙ sym (reduced_many c.args.pair.now c.args.sets.now c.if-sets.true)

pub returns-else-sets : goal.returns-else-sets
returns-else-sets c =
    let s = c.args.sets.now in
    c.of_numbers.ensures ∙ ap (λ (t : Sets). of_numbers t.width (listed t)) c.held_by_pair.ensures
    ∙ ap (of_numbers s.width) (listed_is s.width (filter (pair_holds c.args.pair.now) (listed s))) ∙ sym (reduced_few c.args.pair.now s c.if-sets.false)
