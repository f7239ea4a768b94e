-- The problem of a request list: its terms in a fixed order, and those that must be 1.
use Rattle.std.specs.Prelude.{ℕ, zero, suc, ◌+◌, ◌*◌, ◌==◌, if◌then◌else◌, List, [], ◌∷◌, ◌++◌, length, map, None, replicate}
use Rattle.std.specs.List.{flat_map}
use Rattle.dt_bits.specs.Bits.{width}
use Rattle.dt_model.specs.declared.model.Named.{Named as NamedWidth}
use Rattle.dt_model.specs.ModelData.{ModelData}
use Rattle.dt_model.specs.Widths.{Scope}
use Rattle.dt_model.specs.Faults.{steps, node_scope, context_scope, access_scope}
use Rattle.dt_request.specs.declared.list.AccessWish.{AccessWish}
use Rattle.dt_request.specs.declared.list.Requests.{Requests}
use Rattle.dt_request.specs.Choices.{read_nodes}
use Rattle.dt_terms.specs.declared.term.Term.{Term}
use Rattle.dt_terms.specs.declared.term.Term.TheVariants.{Choice}
use Rattle.dt_terms.specs.Problem.{ProblemData}
use Rattle.dt_bits.specs.declared.op.Op.TheVariants.{Const}
use Rattle.dt_terms.specs.Additions.{node_of}
use Rattle.dt_table.specs.Expressions.{Named}
use Rattle.dt_forms.specs.Forms.{Form, Placing, required_by}
use Rattle.dt_forms.specs.Folding.{fold}
use Rattle.dt_forms.specs.Placing.{place}
use Rattle.dt_table.specs.Expressions.{form_of}
use Rattle.dt_table.specs.declared.out.Out.{Out}
use Rattle.dt_table.specs.Passing.{Access, State, walk_placed}
use Rattle.dt_table.specs.Demands.{demand_forms}
use Rattle.dt_table.specs.Links.{link_forms}
use Rattle.dt_table.specs.Pairs.{pair_forms, apart_forms}
use Rattle.dt_table.specs.Spots.{all_reads, all_pages}
use Rattle.dt_table.specs.Kept.{kept_forms}
use Rattle.dt_table.specs.Extras.{all_extras}
use Rattle.dt_table.specs.Unlike.{all_unlikes, unlike_forms}

-- ---- choices: for each context its registers, and then for each access its inputs and a word for each read node

abbrev pub names_chosen : List NamedWidth → List Term
names_chosen ns = map (λ n. Choice (width n.width)) ns

abbrev pub access_chosen : ModelData → List Term
access_chosen d = names_chosen d.inputs ++ replicate (read_nodes d) (Choice (width d.word))

abbrev pub choices : ModelData → Requests → List Term
choices d r = flat_map (λ _. names_chosen d.regs) r.contexts ++ flat_map (λ _. access_chosen d) r.accesses

-- where they stand
abbrev pub regs_at : ModelData → ℕ → ℕ
regs_at d c = c * length d.regs

abbrev pub inputs_at : ModelData → Requests → ℕ → ℕ
inputs_at d r k = length r.contexts * length d.regs + k * (length d.inputs + read_nodes d)

abbrev pub words_at : ModelData → Requests → ℕ → ℕ
words_at d r k = inputs_at d r k + length d.inputs

-- ---- rules

abbrev pub rule_named : Scope → ℕ → ℕ → Named
rule_named s regs inputs = record { scope = s; regs = regs; inputs = inputs; vars = λ _. None }

abbrev pub context_rules : ModelData → ℕ → List Form
context_rules d c = map (form_of (rule_named (context_scope d) (regs_at d c) 0)) d.legal_context

abbrev pub access_rules : ModelData → Requests → ℕ → AccessWish → List Form
access_rules d r k a = map (form_of (rule_named (access_scope d) (regs_at d a.context) (inputs_at d r k))) d.legal_access

-- ---- walks

-- the power of two that a word's bytes are
abbrev pub align_of : ℕ → ℕ
align_of word = if word == 8 then 0 else (if word == 16 then 1 else (if word == 32 then 2 else 3))

abbrev pub access_of : ModelData → Requests → ℕ → AccessWish → Access
access_of d r k a = record {
  scope = node_scope d;
  regs = regs_at d a.context;
  inputs = inputs_at d r k;
  address = d.address;
  align = align_of d.word;
  lo = r.lo;
  hi = r.hi;
  zero_term = length (choices d r);
  one_term = length (choices d r) + 1;
}

-- the walk comes to node 0
abbrev pub first_state : Access → List Term → ℕ → State
first_state a terms word = record { terms = terms; vars = λ _. None; come = λ n. if n == 0 then a.one_term else a.zero_term; word = word; away = a.zero_term }

-- ---- the whole

-- what is built while the list is gone through: terms, what must be 1, and what stands for the nodes of each access
pub record Built : Type 0 where
  pub terms : List Term
  pub required : List ℕ
  pub outs : List (List Out)

-- with these forms too, put behind the terms in turn and required
abbrev pub with_by : Placing → Built → List Form → Built
with_by placing b fs =
    let q = required_by placing b.terms fs in
    record { terms = q.terms; required = b.required ++ q.required; outs = b.outs }

abbrev pub with_forms : Built → List Form → Built
with_forms b fs = with_by place b fs

-- the same, with constant operands folded
abbrev pub with_claims : Built → List Form → Built
with_claims b fs = with_by fold b fs

abbrev pub contexts_built : ModelData → Built → ℕ → ℕ → Built
contexts_built d b zero c = b
contexts_built d b (suc n) c = contexts_built d (with_forms b (context_rules d c)) n (c + 1)

abbrev pub access_built : ModelData → Requests → Built → ℕ → AccessWish → Built
access_built d r b k a =
    let q = with_forms b (access_rules d r k a) in
    let w = walk_placed (access_of d r k a) (first_state (access_of d r k a) q.terms (words_at d r k)) (steps d) 0 in
    record { terms = w.terms; required = q.required; outs = q.outs ++ w.outs ∷ [] }

abbrev pub accesses_built : ModelData → Requests → Built → ℕ → List AccessWish → Built
accesses_built d r b k [] = b
accesses_built d r b k (a ∷ more) = accesses_built d r (access_built d r b k a) (k + 1) more

-- what must be 1 for the demands of these accesses, of which the first is number k
abbrev pub wish_forms : ModelData → Requests → ℕ → List AccessWish → List (List Out) → List Form
wish_forms d r k (a ∷ more) (os ∷ oss) = flat_map (demand_forms d (access_of d r k a) os) a.demands ++ wish_forms d r (k + 1) more oss
wish_forms d r k _ _ = []

-- what blocks need to know
abbrev pub list_access : ModelData → Requests → Access
list_access d r = record { scope = node_scope d; regs = 0; inputs = 0; address = d.address; align = align_of d.word; lo = r.lo; hi = r.hi; zero_term = length (choices d r); one_term = length (choices d r) + 1 }

-- no page is on a table
abbrev pub page_forms : ModelData → Requests → List (List Out) → List Form
page_forms d r outs = apart_forms (list_access d r) (all_pages d r 0 outs) (all_reads d r 0 outs)

-- no page and no table touches a kept range
abbrev pub keep_forms : ModelData → Requests → List (List Out) → List Form
keep_forms d r outs = flat_map (kept_forms (list_access d r) (all_pages d r 0 outs) (all_reads d r 0 outs)) r.kept

-- demands, links, pages and kept ranges
abbrev pub list_forms : ModelData → Requests → List (List Out) → List Form
list_forms d r outs =
    wish_forms d r 0 r.accesses outs ++ (flat_map (link_forms d r (list_access d r) outs) r.links ++ (page_forms d r outs ++ keep_forms d r outs))

-- the claims that are no rule: made reads at one cell have one word, and what the list asks
abbrev pub claim_forms : ModelData → Requests → List (List Out) → List Form
claim_forms d r outs = pair_forms (all_reads d r 0 outs) ++ list_forms d r outs

-- further forms that hold of each image that satisfies; what words blocks are bits of is seen from the terms
abbrev pub extra_forms : ModelData → Requests → List Term → List (List Out) → List Form
extra_forms d r terms outs = all_extras d r 0 outs ++ unlike_forms (list_access d r) (all_unlikes d r terms outs)

abbrev pub bit_node : ℕ → Term
bit_node n = node_of [] (Const (record { width = width 1; bits = n })) 0 0 0

-- the choices, and then the constants 0 and 1 of one bit
abbrev pub start : ModelData → Requests → Built
start d r = record { terms = choices d r ++ bit_node 0 ∷ bit_node 1 ∷ []; required = []; outs = [] }

abbrev pub built : ModelData → Requests → Built
built d r = accesses_built d r (contexts_built d (start d r) (length r.contexts) 0) 0 r.accesses

-- the problem of the list
unfoldable pub table : ModelData → Requests → ProblemData
table d r =
    let b = built d r in
    let c = with_claims b (claim_forms d r b.outs ++ extra_forms d r b.terms b.outs) in
    record { terms = c.terms; required = c.required }
