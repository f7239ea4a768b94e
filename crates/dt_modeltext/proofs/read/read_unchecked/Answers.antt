use Rattle.dt_modeltext.proofs.ReadResults.{reads_by_table, has_arities, has_names, has_nodes}
use Rattle.dt_modeltext.proofs.read.read_unchecked.Goals as goal

pub returns-clause-value : goal.returns-clause-value
returns-clause-value c =
    reads_by_table c.read_text.result c.args.text.now c.in_ok-nodes.nodes c.in_ok-nodes.ensures c.read_text.ensures.value

pub returns-clause-arities : goal.returns-clause-arities
returns-clause-arities c = has_arities c.read_text.result c.args.text.now (returns-clause-value c)

pub returns-clause-names : goal.returns-clause-names
returns-clause-names c = has_names c.read_text.result c.args.text.now (returns-clause-value c)

pub returns-clause-nodes : goal.returns-clause-nodes
returns-clause-nodes c = has_nodes c.read_text.result c.args.text.now (returns-clause-value c)
