-- Drafts and lines of the code, without where they lie in memory.
use Rattle.std.specs.Prelude.{◌<◌, ℕ, [], ◌∷◌, ◌++◌, map, length, vec_len}
use Rattle.dt_model.specs.declared.model.Model.{Model}
use Rattle.dt_model.specs.ModelData.{ModelData, tree_of, node_of, data_of}
use Rattle.dt_model.specs.Faults.{names_of}
use Rattle.dt_model.specs.NameTable.{found_in, Finds}
use Rattle.dt_modeltext.specs.declared.symbols.Symbols.{Symbols}
use Rattle.dt_modeltext.specs.declared.line.Line.{Line}
use Rattle.dt_modeltext.specs.declared.line.Line.TheVariants as code
use Rattle.dt_modeltext.specs.declared.declarations.Declarations.{Declarations}
use Rattle.dt_modeltext.specs.declared.origins.Origins.{Origins}
use Rattle.dt_modeltext.specs.declared.draft.Draft.{Draft}
use Rattle.dt_modeltext.specs.Expr.{Positions}
use Rattle.dt_modeltext.specs.Line.{LineData, header, word, address, new_reg, new_input, new_var, context_rule, access_rule, new_node, ended}
use Rattle.dt_modeltext.specs.Entry.{Entry, OriginsData, Declared, sections, place_behind}

-- the positions that a line's names have
abbrev pub positions_of : Symbols → Positions
positions_of k = record { regs = found_in k.regs.now; inputs = found_in k.inputs.now; vars = found_in k.vars.now; nodes = found_in k.nodes.now }

abbrev pub line_data : Line → LineData
line_data code.Header = header
line_data (code.Word w) = word w
line_data (code.Address a) = address a
line_data (code.Reg n) = new_reg n
line_data (code.Input n) = new_input n
line_data (code.Var n) = new_var n
line_data (code.ContextRule e) = context_rule (tree_of e)
line_data (code.AccessRule e) = access_rule (tree_of e)
line_data (code.Node n) = new_node (node_of n)
line_data code.End = ended

abbrev pub origins_of : Origins → OriginsData
origins_of l = record { regs = l.regs.items; inputs = l.inputs.items; vars = l.vars.items; legal_context = l.legal_context.items; legal_access = l.legal_access.items; nodes = l.nodes.items }

abbrev pub declared_by : Draft → Declared
declared_by d = record {
  place = d.place;
  model = record { word = d.word; address = d.address; regs = d.regs.items.items; inputs = d.inputs.items.items; vars = d.vars.items.items; legal_context = map tree_of d.legal_context.items; legal_access = map tree_of d.legal_access.items; nodes = map node_of d.nodes.items };
  origins = record { regs = d.regs.lines.items; inputs = d.inputs.lines.items; vars = d.vars.lines.items; legal_context = d.context_lines.items; legal_access = d.access_lines.items; nodes = d.node_lines.items };
}

-- a whole text's model and the lines of its parts
abbrev pub read_as : Model × Origins → Declared
read_as x = record { place = length sections; model = data_of x.0; origins = origins_of x.1 }

-- each name is found where the first that is the same stands
abbrev pub IsIndexed : Declarations → Type 0
IsIndexed d = Finds d.table (names_of d.items.items)

-- a draft of the lines before the n-th
pub record IsDraft (n : ℕ) (d : Draft) : Type 0 where
  pub regs : IsIndexed d.regs
  pub inputs : IsIndexed d.inputs
  pub vars : IsIndexed d.vars
  pub few_regs : vec_len d.regs.items < n
  pub few_inputs : vec_len d.inputs.items < n
  pub few_vars : vec_len d.vars.items < n

-- ---- one more line

-- what a line adds to a model
abbrev pub model_with : ModelData → LineData → ModelData
model_with m header = m
model_with m (word w) = record m { word = w }
model_with m (address a) = record m { address = a }
model_with m (new_reg x) = record m { regs = m.regs ++ x ∷ [] }
model_with m (new_input x) = record m { inputs = m.inputs ++ x ∷ [] }
model_with m (new_var x) = record m { vars = m.vars ++ x ∷ [] }
model_with m (context_rule e) = record m { legal_context = m.legal_context ++ e ∷ [] }
model_with m (access_rule e) = record m { legal_access = m.legal_access ++ e ∷ [] }
model_with m (new_node x) = record m { nodes = m.nodes ++ x ∷ [] }
model_with m ended = m

-- and the n-th line to the numbers of lines
abbrev pub origins_with : OriginsData → ℕ → LineData → OriginsData
origins_with o n header = o
origins_with o n (word w) = o
origins_with o n (address a) = o
origins_with o n (new_reg x) = record o { regs = o.regs ++ n ∷ [] }
origins_with o n (new_input x) = record o { inputs = o.inputs ++ n ∷ [] }
origins_with o n (new_var x) = record o { vars = o.vars ++ n ∷ [] }
origins_with o n (context_rule e) = record o { legal_context = o.legal_context ++ n ∷ [] }
origins_with o n (access_rule e) = record o { legal_access = o.legal_access ++ n ∷ [] }
origins_with o n (new_node x) = record o { nodes = o.nodes ++ n ∷ [] }
origins_with o n ended = o

-- what is declared with one more line, the n-th
abbrev pub with_line : Declared → ℕ → LineData → Declared
with_line d n l = record { place = place_behind l; model = model_with d.model l; origins = origins_with d.origins n l }

abbrev pub added : Declared → Entry → Declared
added d e = with_line d e.number e.line
