use Rattle.dt_model.specs.ModelData.{data_of}
use Rattle.dt_model.proofs.Certified.{certified_is, certified_has_arities, certified_has_names}
use Rattle.dt_model.proofs.accepted.Accepted.certified.Goals as goal

pub new-requires-clause-accepted : goal.new-requires-clause-accepted
new-requires-clause-accepted c = certified_is (data_of c.args.model) c.requires

pub new-requires-clause-arities : goal.new-requires-clause-arities
new-requires-clause-arities c = certified_has_arities (data_of c.args.model) c.requires

pub new-requires-clause-names : goal.new-requires-clause-names
new-requires-clause-names c = certified_has_names (data_of c.args.model) c.requires
