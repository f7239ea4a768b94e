-- The lines of a model text, each by itself.
use Rattle.std.specs.Prelude.{ℕ, List, [], ◌∷◌, Option, Some, None, codes, if◌then◌else◌}
use Rattle.std.specs.List.{flat_map}
use Rattle.std.specs.Option.{option_map, option_to_list}
use Rattle.std.specs.Str.{bytes_eq}
use Rattle.dt_lex.specs.declared.name.Name.{Name}
use Rattle.dt_lex.specs.Names.{name_of}
use Rattle.dt_lex.specs.Text.{tokens_of}
use Rattle.dt_lex.specs.Frame.{is_alone, is_nothing, given, lone, ◌>>=◌, Front, name_at}
use Rattle.dt_model.specs.declared.model.Named.{Named}
use Rattle.dt_model.specs.ModelData.{Tree, NodeData}
use Rattle.dt_model.specs.Limits.{most_depth}
use Rattle.dt_modeltext.specs.Expr.{Positions, small_at, expr_at}
use Rattle.dt_modeltext.specs.Act.{act_at}

pub data LineData : Type 0 where
  header : LineData
  word : ℕ → LineData
  address : ℕ → LineData
  new_reg : Named → LineData
  new_input : Named → LineData
  new_var : Named → LineData
  context_rule : Tree → LineData
  access_rule : Tree → LineData
  new_node : NodeData → LineData
  ended : LineData

-- what is read where no token follows it
abbrev pub alone : {X : Type 0} → X → List (List ℕ) → Option X
alone x ts = given (is_nothing ts) x

-- ---- names of nodes

-- the name that a node line gives
abbrev pub node_name : List (List ℕ) → List Name
node_name [] = []
node_name (t ∷ []) = []
node_name (t ∷ u ∷ us) = if bytes_eq t (codes "node") then option_to_list (name_of u) else []

-- the names of the nodes of a text, given its lines
unfoldable pub node_names : List (List ℕ) → List Name
node_names lines = flat_map (λ line. node_name (tokens_of line)) lines

-- ---- lines

-- NAME WIDTH
unfoldable pub named_at : List (List ℕ) → Front Named
named_at ts = do
  name ← name_at ts
  width ← small_at name.1
  Some (record { name = name.0; width = width.0 }, width.1)

-- NAME ACT
unfoldable pub node_at : Positions → List (List ℕ) → Front NodeData
node_at s ts = do
  name ← name_at ts
  step ← act_at s name.1
  Some (record { name = name.0; step = step.0 }, step.1)

-- the very token 1
abbrev pub header_of : List (List ℕ) → Option LineData
header_of ts = given (is_alone (codes "1") ts) header

-- a line of this first token that needs no names
unfoldable pub plain_line : List ℕ → List (List ℕ) → Option LineData
plain_line t ts =
    if bytes_eq t (codes "model") then header_of ts
    else (if bytes_eq t (codes "word") then option_map (λ w. word w) (lone (small_at ts))
    else (if bytes_eq t (codes "address") then option_map (λ a. address a) (lone (small_at ts))
    else (if bytes_eq t (codes "reg") then option_map (λ n. new_reg n) (lone (named_at ts))
    else (if bytes_eq t (codes "input") then option_map (λ n. new_input n) (lone (named_at ts))
    else (if bytes_eq t (codes "var") then option_map (λ n. new_var n) (lone (named_at ts))
    else (if bytes_eq t (codes "end") then alone ended ts
    else None))))))

-- context EXPR, or access EXPR
unfoldable pub rule_of : Positions → List (List ℕ) → Option LineData
rule_of s [] = None
rule_of s (t ∷ ts) =
    if bytes_eq t (codes "context") then option_map (λ e. context_rule e) (lone (expr_at s most_depth ts))
    else (if bytes_eq t (codes "access") then option_map (λ e. access_rule e) (lone (expr_at s most_depth ts))
    else None)

-- the line that a first token and the others spell, where names have these positions
unfoldable pub spelled : Positions → List ℕ → List (List ℕ) → Option LineData
spelled s t ts =
    if bytes_eq t (codes "legal") then rule_of s ts
    else (if bytes_eq t (codes "node") then option_map (λ n. new_node n) (lone (node_at s ts))
    else plain_line t ts)
