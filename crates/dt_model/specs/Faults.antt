-- Which models are accepted, and where and why the others are refused.
use Rattle.std.specs.Prelude.{◌≡◌, ℕ, ◌+◌, ◌<◌, Bool, true, false, not, ◌&&◌, ◌||◌, ◌==◌, nat_lt, nat_le, if◌then◌else◌, List, [], ◌∷◌, ◌++◌, map, take, length, Option, Some, None, slice_get, IsTrue, IsSomeAnd, sum_by, count_by}
use Rattle.std.specs.List.{All, list_any}
use Rattle.dt_lex.specs.declared.name.Name.{Name}
use Rattle.dt_lex.specs.Names.{same_name}
use Rattle.dt_model.specs.declared.model.Named.{Named}
use Rattle.dt_model.specs.declared.refusal.ModelRefusal.{ModelRefusal}
use Rattle.dt_model.specs.declared.refusal.ModelRefusal.TheVariants.{NameTwice, UnknownName, WidthMismatch, WidthRange, BackEdge, Unassigned, AssignedTwice, NoNode, TooMany, TooDeep}
use Rattle.dt_model.specs.declared.refusal.Place.{Place}
use Rattle.dt_model.specs.declared.refusal.Place.TheVariants.{Header, Reg, Input, Var, LegalContext, LegalAccess, Node}
use Rattle.dt_model.specs.ModelData.{ModelData, Tree, ActData, NodeData, bind, read, branch, fault, done}
use Rattle.dt_model.specs.Limits.{most_regs, most_inputs, most_vars, most_rules, most_nodes, most_reads, most_dones, most_operators, most_model_operators, most_depth, most_code}
use Rattle.dt_model.specs.Paths.{SomePath}
use Rattle.dt_model.specs.Widths.{Scope, is_width, width_at, tree_width, differs, has_unknown, has_mismatch, has_bad_range, uses, operators, depth, HasArities}

-- ---- the orders of refusals and of places

abbrev pub number_of : ModelRefusal → ℕ
number_of NameTwice = 1
number_of UnknownName = 2
number_of WidthMismatch = 3
number_of WidthRange = 4
number_of BackEdge = 5
number_of Unassigned = 6
number_of AssignedTwice = 7
number_of NoNode = 8
number_of TooMany = 9
number_of TooDeep = 10

abbrev pub group_of : Place → ℕ
group_of Header = 0
group_of (Reg i) = 1
group_of (Input i) = 2
group_of (Var i) = 3
group_of (LegalContext i) = 4
group_of (LegalAccess i) = 5
group_of (Node i) = 6

abbrev pub index_of : Place → ℕ
index_of Header = 0
index_of (Reg i) = i
index_of (Input i) = i
index_of (Var i) = i
index_of (LegalContext i) = i
index_of (LegalAccess i) = i
index_of (Node i) = i

-- by group, and within a group by position
abbrev pub comes_before : Place → Place → Bool
comes_before p q = nat_lt (group_of p) (group_of q) || (group_of p == group_of q && nat_lt (index_of p) (index_of q))

-- ---- the header

abbrev pub is_word : ℕ → Bool
is_word w = w == 8 || (w == 16 || (w == 32 || w == 64))

abbrev pub is_address : ℕ → Bool
is_address a = nat_le 8 a && nat_le a 64

abbrev pub HeaderBreaks : ModelData → ModelRefusal → Type 0
HeaderBreaks d WidthRange = IsTrue (not (is_word d.word && is_address d.address))
HeaderBreaks d NoNode = IsTrue (length d.nodes == 0)
HeaderBreaks d _ = ⊥

-- ---- registers, inputs and variables

abbrev pub is_named : List Name → Name → Bool
is_named names n = list_any (same_name n) names

abbrev pub names_of : List Named → List Name
names_of ns = map (λ n. n.name) ns

-- the name at position i of its list, after the names that were declared earlier
abbrev pub NameBreaks : ℕ → ℕ → List Name → Named → ModelRefusal → Type 0
NameBreaks limit i earlier n NameTwice = IsTrue (is_named earlier n.name)
NameBreaks limit i earlier n WidthRange = IsTrue (not (is_width n.width))
NameBreaks limit i earlier n TooMany = IsTrue (nat_le limit i)
NameBreaks limit i earlier n _ = ⊥

-- ---- rules

-- a context rule may name registers
abbrev pub context_scope : ModelData → Scope
context_scope d = record { regs = d.regs; inputs = []; vars = [] }

-- an access rule may name registers and inputs
abbrev pub access_scope : ModelData → Scope
access_scope d = record { regs = d.regs; inputs = d.inputs; vars = [] }

abbrev pub rule_operators : List Tree → ℕ
rule_operators ts = sum_by operators ts

-- the rule at position i of its list, where earlier rules have `before` operators
abbrev pub RuleBreaks : Scope → ℕ → ℕ → Tree → ModelRefusal → Type 0
RuleBreaks s i before t UnknownName = IsTrue (has_unknown s t)
RuleBreaks s i before t WidthMismatch = IsTrue (has_mismatch s t || differs (tree_width s t) (Some 1))
RuleBreaks s i before t WidthRange = IsTrue (has_bad_range s t)
RuleBreaks s i before t TooMany = IsTrue (nat_le most_rules i || nat_lt most_operators (operators t) || nat_lt most_model_operators (before + operators t))
RuleBreaks s i before t TooDeep = IsTrue (nat_lt most_depth (depth t))
RuleBreaks s i before t _ = ⊥

-- ---- nodes

-- a node may name registers, inputs and variables
abbrev pub node_scope : ModelData → Scope
node_scope d = record { regs = d.regs; inputs = d.inputs; vars = d.vars }

abbrev pub steps : ModelData → List ActData
steps d = map (λ n. n.step) d.nodes

-- the expression of a step
abbrev pub tree_in : ActData → Option Tree
tree_in (bind x e n) = Some e
tree_in (read x e g t o) = Some e
tree_in (branch e t o) = Some e
tree_in (fault c) = None
tree_in (done e p) = Some e

-- the test holds of the step's expression
abbrev pub on_tree : ActData → (Tree → Bool) → Bool
on_tree (bind x e n) f = f e
on_tree (read x e g t o) f = f e
on_tree (branch e t o) f = f e
on_tree (fault c) f = false
on_tree (done e p) f = f e

abbrev pub step_operators : ActData → ℕ
step_operators (bind x e n) = operators e
step_operators (read x e g t o) = operators e
step_operators (branch e t o) = operators e
step_operators (fault c) = 0
step_operators (done e p) = operators e

-- the variable that a step assigns
abbrev pub assigned : ActData → Option ℕ
assigned (bind x e n) = Some x
assigned (read x e g t o) = Some x
assigned _ = None

-- the nodes that a step names
abbrev pub targets : ActData → List ℕ
targets (bind x e n) = n ∷ []
targets (read x e g t o) = t ∷ o ∷ []
targets (branch e t o) = t ∷ o ∷ []
targets _ = []

abbrev pub any : List ℕ → (ℕ → Bool) → Bool
any [] f = false
any (n ∷ ns) f = f n || any ns f

-- the variable that is assigned isn't declared
abbrev pub var_unknown : ℕ → ActData → Bool
var_unknown count (bind x e n) = nat_le count x
var_unknown count (read x e g t o) = nat_le count x
var_unknown count _ = false

-- a value, a cell, a test or pa, or the variable of a read, has another width than is asked
abbrev pub step_mismatch : ℕ → ℕ → Scope → ActData → Bool
step_mismatch word address s (bind x e n) = differs (tree_width s e) (width_at s.vars x)
step_mismatch word address s (read x e g t o) = differs (tree_width s e) (Some address) || differs (width_at s.vars x) (Some word)
step_mismatch word address s (branch e t o) = differs (tree_width s e) (Some 1)
step_mismatch word address s (fault c) = false
step_mismatch word address s (done e p) = differs (tree_width s e) (Some address)

-- a word has 2 to this exponent bytes
abbrev pub word_exponent : ℕ → ℕ
word_exponent w = if w == 8 then 0 else (if w == 16 then 1 else (if w == 32 then 2 else 3))

-- a granule, a code or a page exponent is out of its range
abbrev pub step_range : ℕ → ℕ → ActData → Bool
step_range word address (read x e g t o) = nat_lt g (word_exponent word) || nat_lt address g
step_range word address (fault c) = nat_lt most_code c
step_range word address (done e p) = nat_lt address p
step_range word address _ = false

abbrev pub is_read : ActData → Bool
is_read (read x e g t o) = true
is_read _ = false

abbrev pub is_done : ActData → Bool
is_done (done e p) = true
is_done _ = false

abbrev pub count_of : (ActData → Bool) → List NodeData → ℕ
count_of f ns = count_by (λ n. f n.step) ns

abbrev pub node_operators : List NodeData → ℕ
node_operators ns = sum_by (λ n. step_operators n.step) ns

-- the operators of all rules and of the first i nodes
abbrev pub operators_to : ModelData → ℕ → ℕ
operators_to d i = rule_operators d.legal_context + rule_operators d.legal_access + node_operators (take i d.nodes)

-- the step uses one of the declared variables, which some path leaves unassigned
abbrev pub UsesLeft : List ActData → ℕ → ℕ → Option Tree → Type 0
UsesLeft g count i None = ⊥
UsesLeft g count i (Some t) = (v : ℕ) × (v < count) × (uses t v ≡ true) × SomePath g i v false

-- the step assigns one of the declared variables, which some path has assigned
abbrev pub AssignsAgain : List ActData → ℕ → ℕ → Option ℕ → Type 0
AssignsAgain g count i None = ⊥
AssignsAgain g count i (Some v) = (v < count) × SomePath g i v true

-- the node at position i
abbrev pub NodeBreaks : ModelData → ℕ → NodeData → ModelRefusal → Type 0
NodeBreaks d i n NameTwice = IsTrue (is_named (map (λ m. m.name) (take i d.nodes)) n.name)
NodeBreaks d i n UnknownName = IsTrue (on_tree n.step (has_unknown (node_scope d)) || var_unknown (length d.vars) n.step)
NodeBreaks d i n WidthMismatch = IsTrue (on_tree n.step (has_mismatch (node_scope d)) || step_mismatch d.word d.address (node_scope d) n.step)
NodeBreaks d i n WidthRange = IsTrue (on_tree n.step (has_bad_range (node_scope d)) || step_range d.word d.address n.step)
NodeBreaks d i n BackEdge = IsTrue (any (targets n.step) (λ t. nat_lt t (length d.nodes) && nat_le t i))
NodeBreaks d i n Unassigned = UsesLeft (steps d) (length d.vars) i (tree_in n.step)
NodeBreaks d i n AssignedTwice = AssignsAgain (steps d) (length d.vars) i (assigned n.step)
NodeBreaks d i n NoNode = IsTrue (any (targets n.step) (λ t. nat_le (length d.nodes) t))
NodeBreaks d i n TooMany = IsTrue (nat_le most_nodes i || nat_lt most_reads (count_of is_read (take (i + 1) d.nodes)) || nat_lt most_dones (count_of is_done (take (i + 1) d.nodes)) || nat_lt most_operators (step_operators n.step) || nat_lt most_model_operators (operators_to d (i + 1)))
NodeBreaks d i n TooDeep = IsTrue (on_tree n.step (λ t. nat_lt most_depth (depth t)))

-- ---- the whole model

-- the refusal applies at the place
abbrev pub Breaks : ModelData → Place → ModelRefusal → Type 0
Breaks d Header r = HeaderBreaks d r
Breaks d (Reg i) r = IsSomeAnd (slice_get d.regs i) (λ n. NameBreaks most_regs i (names_of (take i d.regs)) n r)
Breaks d (Input i) r = IsSomeAnd (slice_get d.inputs i) (λ n. NameBreaks most_inputs i (names_of d.regs ++ names_of (take i d.inputs)) n r)
Breaks d (Var i) r = IsSomeAnd (slice_get d.vars i) (λ n. NameBreaks most_vars i (names_of d.regs ++ names_of d.inputs ++ names_of (take i d.vars)) n r)
Breaks d (LegalContext i) r = IsSomeAnd (slice_get d.legal_context i) (λ t. RuleBreaks (context_scope d) i (rule_operators (take i d.legal_context)) t r)
Breaks d (LegalAccess i) r = IsSomeAnd (slice_get d.legal_access i) (λ t. RuleBreaks (access_scope d) i (rule_operators d.legal_context + rule_operators (take i d.legal_access)) t r)
Breaks d (Node i) r = IsSomeAnd (slice_get d.nodes i) (λ n. NodeBreaks d i n r)

-- accepted: no refusal applies anywhere
abbrev pub IsAccepted : ModelData → Type 0
IsAccepted d = (p : Place) (r : ModelRefusal) → Breaks d p r → ⊥

-- refused at the first place where one applies, by the smallest there
pub record IsRefused (d : ModelData) (p : Place) (r : ModelRefusal) : Type 0 where
  pub breaks : Breaks d p r
  pub smallest : (s : ModelRefusal) → number_of s < number_of r → Breaks d p s → ⊥
  pub first : (q : Place) (s : ModelRefusal) → IsTrue (comes_before q p) → Breaks d q s → ⊥

-- ---- operands

abbrev pub StepArities : ActData → Type 0
StepArities (bind x e n) = HasArities e
StepArities (read x e g t o) = HasArities e
StepArities (branch e t o) = HasArities e
StepArities (fault c) = Unit {0}
StepArities (done e p) = HasArities e

-- each operator of the model has as many operands as it takes
pub record HaveArities (d : ModelData) : Type 0 where
  pub context : All HasArities d.legal_context
  pub access : All HasArities d.legal_access
  pub nodes : All (λ n. StepArities n.step) d.nodes
