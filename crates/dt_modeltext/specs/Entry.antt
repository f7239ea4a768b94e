-- The entries of a model text: which lines may follow which, and what they declare.
use Rattle.std.specs.Prelude.{ℕ, List, [], ◌∷◌, map, slice_index, Option, Some, None, Result, Ok, Err, if◌then◌else◌}
use Rattle.std.specs.List.{flat_map}
use Rattle.dt_lex.specs.declared.name.Name.{Name}
use Rattle.dt_lex.specs.declared.section.Section.{Section}
use Rattle.dt_lex.specs.declared.section.Standing.{Standing}
use Rattle.dt_lex.specs.declared.section.Standing.TheVariants.{In}
use Rattle.dt_lex.specs.Sections.{one, any, place_of, may_follow}
use Rattle.dt_lex.specs.Reading.{last_of, with_place}
use Rattle.dt_model.specs.declared.model.Named.{Named}
use Rattle.dt_model.specs.declared.refusal.Place.{Place}
use Rattle.dt_model.specs.declared.refusal.Place.TheVariants.{Header, Reg, Input, Var, LegalContext, LegalAccess, Node}
use Rattle.dt_model.specs.ModelData.{Tree, NodeData, ModelData}
use Rattle.dt_model.specs.Faults.{names_of}
use Rattle.dt_model.specs.Positions.{position_of}
use Rattle.dt_modeltext.specs.Expr.{Positions}
use Rattle.dt_modeltext.specs.Depth.{is_too_deep}
use Rattle.dt_modeltext.specs.declared.fault.ModelFault.{ModelFault}
use Rattle.dt_modeltext.specs.Fault.{Cause, form, too_deep, fault_at}
use Rattle.dt_modeltext.specs.Line.{LineData, header, word, address, new_reg, new_input, new_var, context_rule, access_rule, new_node, ended, spelled}

-- ---- what lines declare

-- the order of the lines: a header, the two sizes, registers, inputs, variables, rules on contexts and on accesses, nodes, and the end
abbrev pub sections : List Section
sections = one ∷ one ∷ one ∷ any ∷ any ∷ any ∷ any ∷ any ∷ any ∷ one ∷ []

-- where a kind of line stands among them
abbrev pub section_of : LineData → ℕ
section_of header = 0
section_of (word w) = 1
section_of (address a) = 2
section_of (new_reg n) = 3
section_of (new_input n) = 4
section_of (new_var n) = 5
section_of (context_rule e) = 6
section_of (access_rule e) = 7
section_of (new_node n) = 8
section_of ended = 9

abbrev pub standing : LineData → Standing
standing l = In (section_of l)

-- the place of a text whose last line is this
abbrev pub place_behind : LineData → ℕ
place_behind l = place_of (standing l)

abbrev pub word_in : LineData → List ℕ
word_in (word w) = w ∷ []
word_in _ = []

abbrev pub address_in : LineData → List ℕ
address_in (address a) = a ∷ []
address_in _ = []

abbrev pub reg_in : LineData → List Named
reg_in (new_reg n) = n ∷ []
reg_in _ = []

abbrev pub input_in : LineData → List Named
input_in (new_input n) = n ∷ []
input_in _ = []

abbrev pub var_in : LineData → List Named
var_in (new_var n) = n ∷ []
var_in _ = []

abbrev pub context_rule_in : LineData → List Tree
context_rule_in (context_rule e) = e ∷ []
context_rule_in _ = []

abbrev pub access_rule_in : LineData → List Tree
access_rule_in (access_rule e) = e ∷ []
access_rule_in _ = []

abbrev pub node_in : LineData → List NodeData
node_in (new_node n) = n ∷ []
node_in _ = []

-- a line, and its number
pub record Entry : Type 0 where
  pub number : ℕ
  pub line : LineData

-- all of one kind that lines declare
abbrev pub items : {X : Type 0} → (LineData → List X) → List Entry → List X
items f es = flat_map (λ e. f e.line) es

-- the numbers of the lines that declare them
abbrev pub numbers : {X : Type 0} → (LineData → List X) → List Entry → List ℕ
numbers f es = flat_map (λ e. map (λ x. e.number) (f e.line)) es

-- the numbers of the lines that declare each of a model's parts
pub record OriginsData : Type 0 where
  pub regs : List ℕ
  pub inputs : List ℕ
  pub vars : List ℕ
  pub legal_context : List ℕ
  pub legal_access : List ℕ
  pub nodes : List ℕ

-- what lines declare and where, and the place of the text behind them
pub record Declared : Type 0 where
  pub place : ℕ
  pub model : ModelData
  pub origins : OriginsData

unfoldable pub declared : List Entry → Declared
declared es = record {
  place = last_of 0 (map (λ e. place_behind e.line) es);
  model = record {
    word = last_of 0 (items word_in es);
    address = last_of 0 (items address_in es);
    regs = items reg_in es;
    inputs = items input_in es;
    vars = items var_in es;
    legal_context = items context_rule_in es;
    legal_access = items access_rule_in es;
    nodes = items node_in es;
  };
  origins = record {
    regs = numbers reg_in es;
    inputs = numbers input_in es;
    vars = numbers var_in es;
    legal_context = numbers context_rule_in es;
    legal_access = numbers access_rule_in es;
    nodes = numbers node_in es;
  };
}

-- the line of a place; the header is line 1
abbrev pub origin_of : OriginsData → Place → ℕ
origin_of o Header = 1
origin_of o (Reg i) = slice_index o.regs i
origin_of o (Input i) = slice_index o.inputs i
origin_of o (Var i) = slice_index o.vars i
origin_of o (LegalContext i) = slice_index o.legal_context i
origin_of o (LegalAccess i) = slice_index o.legal_access i
origin_of o (Node i) = slice_index o.nodes i

-- ---- what names stand for

-- a line may name what the lines before it declare, and all nodes, which have these positions
abbrev pub declared_positions : (Name → Option ℕ) → ModelData → Positions
declared_positions nodes d = record { regs = position_of (names_of d.regs); inputs = position_of (names_of d.inputs); vars = position_of (names_of d.vars); nodes = nodes }

-- ---- the entry of a line

-- the n-th line where it may stand behind the lines before
abbrev pub entry_of : ℕ → Declared → Option LineData → Result Entry Cause
entry_of n d None = Err form
entry_of n d (Some l) = if may_follow sections d.place (standing l) then Ok (record { number = n; line = l }) else Err form

-- the n-th line, by its first token and those behind it, after what was declared: too deep is looked for before all else
abbrev pub entry_at : (Name → Option ℕ) → ℕ → Declared → List ℕ → List (List ℕ) → Result Entry Cause
entry_at nodes n d t ts = if is_too_deep (t ∷ ts) then Err too_deep else entry_of n d (spelled (declared_positions nodes d.model) t ts)

-- the same, or its fault
abbrev pub placed_entry : (Name → Option ℕ) → ℕ → Declared → List ℕ → List (List ℕ) → Result Entry ModelFault
placed_entry nodes n d t ts = with_place (fault_at n) (entry_at nodes n d t ts)
