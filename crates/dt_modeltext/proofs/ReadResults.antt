-- What is known of the model that was read.
use Rattle.std.proofs.Common.{◌≡◌, ℕ, List, Option, Result, Ok, Err, subst}
use Rattle.std.specs.Prelude.{IfOk, map}
use Rattle.dt_lex.specs.Text.{lines_of}
use Rattle.dt_lex.specs.declared.name.Name.{Name}
use Rattle.dt_lex.specs.Reading.{Gives, reading_of}
use Rattle.dt_model.specs.declared.model.Model.{Model}
use Rattle.dt_model.specs.ModelData.{NodeData, data_of}
use Rattle.dt_model.specs.Faults.{HaveArities}
use Rattle.dt_model.specs.Positions.{position_of}
use Rattle.dt_model.specs.NameTable.{found_in, Finds}
use Rattle.dt_model.specs.declared.name_table.NameTable.{NameTable}
use Rattle.dt_model.specs.Spelled.{HaveNames}
use Rattle.dt_modeltext.specs.declared.origins.Origins.{Origins}
use Rattle.dt_modeltext.specs.declared.fault.ModelFault.{ModelFault}
use Rattle.dt_modeltext.specs.Line.{node_names}
use Rattle.dt_modeltext.specs.Read.{grammar, finished, reading}
use Rattle.dt_modeltext.specs.Fault.{is_memory}
use Rattle.dt_modeltext.specs.Draft.{read_as}
use Rattle.dt_modeltext.proofs.ReadModels.{read_arities, read_names}
use Rattle.dt_modeltext.proofs.ReadNodes.{nodes_named}

abbrev Answer : Type 0
Answer = Result (Model × Origins) ModelFault

-- a table that finds the nodes of a text serves as their names do
pub reads_by_table : (r : Answer) (text : List ℕ) (table : NameTable) → Finds table (node_names (lines_of text)) → Gives is_memory read_as r (reading_of (grammar (found_in table)) finished text) → Gives is_memory read_as r (reading text)
unfolding reading
reads_by_table r text table finds h =
    let same : found_in table ≡ position_of (node_names (lines_of text)) = λ i n. finds n i in
    subst (λ (f : Name → Option ℕ). Gives is_memory read_as r (reading_of (grammar f) finished text)) same h

pub has_arities : (r : Answer) (text : List ℕ) → Gives is_memory read_as r (reading text) → IfOk r (λ x. HaveArities (data_of x.0))
has_arities (Ok x) text h = read_arities text (read_as x) h
has_arities (Err e) text h = tt

pub has_names : (r : Answer) (text : List ℕ) → Gives is_memory read_as r (reading text) → IfOk r (λ x. HaveNames (data_of x.0))
has_names (Ok x) text h = read_names text (read_as x) h
has_names (Err e) text h = tt

pub has_nodes : (r : Answer) (text : List ℕ) → Gives is_memory read_as r (reading text) → IfOk r (λ x. node_names (lines_of text) ≡ map (λ (n : NodeData). n.name) (data_of x.0).nodes)
has_nodes (Ok x) text h = nodes_named text (read_as x) h
has_nodes (Err e) text h = tt
