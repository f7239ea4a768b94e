use Rattle.std.proofs.Common.{length, rules}
use Rattle.dt_unroll.specs.Fronts.{access_data}
use Rattle.dt_unroll.proofs.Steps.{none_yet, only_first, first_same}
use Rattle.dt_unroll.proofs.front.Front.new.Goals as goal

pub returns-clause-state : goal.returns-clause-state
returns-clause-state c p =
    first_same (access_data c.args.frame.now) p.terms _ _ c.args.word
    (none_yet (length c.args.frame.now.places.names.vars.now) c.in_ok-vars.vars.items (c.in_ok-vars.ensures.items_if_clones_equal (λ y h. search rules)))
    (only_first c.args.nodes c.args.frame.now.zero c.args.frame.now.one c.in_ok-come.come.items c.requires (c.in_ok-come.ensures.items_if_clones_equal (λ y e. e)))
