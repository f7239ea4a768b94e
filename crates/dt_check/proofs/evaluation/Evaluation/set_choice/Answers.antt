use Rattle.dt_check.proofs.Evaluating.{but_one, all_seen, choice_in_line}
use Rattle.dt_check.proofs.evaluation.Evaluation.set_choice.Goals as goal

pub set_value-requires-clause-seen_to : goal.set_value-requires-clause-seen_to
set_value-requires-clause-seen_to c = but_one c.args.problem.now.terms c.args.self.now.values.items c.args.self.now.marks.marks.items c.args.term c.requires.seen_to

pub returns-clause-seen_to : goal.returns-clause-seen_to
returns-clause-seen_to c =
    let terms = c.args.problem.now.terms in
    let values = c.set_value.new.self.values.items in
    all_seen terms values c.set_value.new.self.marks.marks.items c.args.term c.set_value.ensures.seen_to (choice_in_line terms values c.args.term c.requires.choice)
