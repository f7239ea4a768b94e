-- A criterion of acceptance: for each node, which variables every path to it has surely assigned, and which some path may have assigned, tested edge by edge, and all other faults place by place.
use Rattle.std.specs.Prelude.{◌≡◌, ℕ, zero, suc, ◌+◌, Bool, true, false, not, ◌&&◌, ◌||◌, ◌==◌, nat_lt, nat_le, List, [], ◌∷◌, ◌++◌, map, take, length, Option, Some, None}
use Rattle.std.specs.List.{list_any, list_all}
use Rattle.dt_lex.specs.declared.name.Name.{Name}
use Rattle.dt_lex.specs.Names.{spells_name, padded_name, bytes_of, same_name}
use Rattle.dt_model.specs.declared.model.Named.{Named}
use Rattle.dt_model.specs.ModelData.{ModelData, Tree, var, apply1, apply2, apply3, ActData, bind, read, branch, NodeData}
use Rattle.dt_bits.specs.Ops.{arity_of}
use Rattle.dt_model.specs.Limits.{most_regs, most_inputs, most_vars, most_rules, most_nodes, most_reads, most_dones, most_operators, most_model_operators, most_depth}
use Rattle.dt_model.specs.Widths.{Scope, is_width, tree_width, differs, has_unknown, has_mismatch, has_bad_range, operators, depth}
use Rattle.dt_model.specs.Faults.{is_word, is_address, is_named, names_of, context_scope, access_scope, rule_operators, node_scope, tree_in, on_tree, step_operators, assigned, targets, any, var_unknown, step_mismatch, step_range, is_read, is_done, count_of, operators_to}

-- the variables that every path to a node has assigned, and those that some path may have
pub record Sets : Type 0 where
  pub sure : List ℕ
  pub maybe : List ℕ

abbrev pub no_sets : Sets
no_sets = record { sure = []; maybe = [] }

abbrev pub among : List ℕ → ℕ → Bool
among xs v = list_any (λ x. x == v) xs

abbrev pub sets_at : List Sets → ℕ → Sets
sets_at [] n = no_sets
sets_at (s ∷ ss) zero = s
sets_at (s ∷ ss) (suc n) = sets_at ss n

-- after an edge that assigns this variable, or none
abbrev pub with_one : Option ℕ → List ℕ → List ℕ
with_one None xs = xs
with_one (Some x) xs = x ∷ xs

-- an edge from a node with the first sets, that assigns a variable or none, to a node with the second
abbrev pub edge_fine : Sets → Option ℕ → Sets → Bool
edge_fine s x t = list_all (among (with_one x s.sure)) t.sure && list_all (among t.maybe) (with_one x s.maybe)

abbrev pub edges_fine : List Sets → Sets → ActData → Bool
edges_fine c s (bind x e n) = edge_fine s (Some x) (sets_at c n)
edges_fine c s (read x e g t o) = edge_fine s (Some x) (sets_at c t) && edge_fine s None (sets_at c o)
edges_fine c s (branch e t o) = edge_fine s None (sets_at c t) && edge_fine s None (sets_at c o)
edges_fine c s _ = true

-- each variable of the expression is among these
abbrev pub uses_fine : List ℕ → Tree → Bool
uses_fine xs (var i) = among xs i
uses_fine xs (apply1 op a) = uses_fine xs a
uses_fine xs (apply2 op a b) = uses_fine xs a && uses_fine xs b
uses_fine xs (apply3 op a b c) = uses_fine xs a && (uses_fine xs b && uses_fine xs c)
uses_fine xs _ = true

abbrev pub tree_fine : List ℕ → Option Tree → Bool
tree_fine xs None = true
tree_fine xs (Some t) = uses_fine xs t

abbrev pub again_fine : List ℕ → Option ℕ → Bool
again_fine xs None = true
again_fine xs (Some x) = not (among xs x)

-- a test of each place of a list
abbrev pub every : {X : Type 0} → (ℕ → X → Bool) → ℕ → List X → Bool
every f k [] = true
every f k (x ∷ xs) = f k x && every f (k + 1) xs

abbrev pub names_fine : ℕ → List Name → ℕ → Named → Bool
names_fine limit earlier i n = not (is_named earlier n.name) && (is_width n.width && not (nat_le limit i))

abbrev pub rule_fine : Scope → ℕ → ℕ → Tree → Bool
rule_fine s before i t =
    not (has_unknown s t) && (not (has_mismatch s t || differs (tree_width s t) (Some 1)) && (not (has_bad_range s t)
    && (not (nat_le most_rules i || nat_lt most_operators (operators t) || nat_lt most_model_operators (before + operators t)) && not (nat_lt most_depth (depth t)))))

abbrev pub node_fine : ModelData → List Sets → ℕ → NodeData → Bool
node_fine d c i n =
    not (is_named (map (λ m. m.name) (take i d.nodes)) n.name)
    && (not (on_tree n.step (has_unknown (node_scope d)) || var_unknown (length d.vars) n.step)
    && (not (on_tree n.step (has_mismatch (node_scope d)) || step_mismatch d.word d.address (node_scope d) n.step)
    && (not (on_tree n.step (has_bad_range (node_scope d)) || step_range d.word d.address n.step)
    && (not (any (targets n.step) (λ t. nat_lt t (length d.nodes) && nat_le t i))
    && (tree_fine (sets_at c i).sure (tree_in n.step)
    && (again_fine (sets_at c i).maybe (assigned n.step)
    && (not (any (targets n.step) (λ t. nat_le (length d.nodes) t))
    && (not (nat_le most_nodes i || nat_lt most_reads (count_of is_read (take (i + 1) d.nodes)) || nat_lt most_dones (count_of is_done (take (i + 1) d.nodes)) || nat_lt most_operators (step_operators n.step) || nat_lt most_model_operators (operators_to d (i + 1)))
    && (not (on_tree n.step (λ t. nat_lt most_depth (depth t)))
    && edges_fine c (sets_at c i) n.step)))))))))

abbrev pub nodes_fine : ModelData → List Sets → Bool
nodes_fine d c = every (node_fine d c) 0 d.nodes

-- each operator has as many operands as it takes
abbrev pub arities_fine : Tree → Bool
arities_fine (apply1 op a) = arity_of op == 1 && arities_fine a
arities_fine (apply2 op a b) = arity_of op == 2 && (arities_fine a && arities_fine b)
arities_fine (apply3 op a b c) = arity_of op == 3 && (arities_fine a && (arities_fine b && arities_fine c))
arities_fine _ = true

abbrev pub step_arities_fine : Option Tree → Bool
step_arities_fine None = true
step_arities_fine (Some t) = arities_fine t

-- the name is the one that its own bytes spell
abbrev pub spelled_fine : Name → Bool
spelled_fine n = spells_name (bytes_of n) && same_name n (padded_name (bytes_of n))

-- The sets of each node, in order, certify the model: each test of it passes. For a fixed model each
-- of these equations holds by computation.
pub record Certifies (d : ModelData) (c : List Sets) : Type 0 where
  pub header : (is_word d.word && (is_address d.address && not (length d.nodes == 0))) ≡ true
  pub regs : every (λ i n. names_fine most_regs (names_of (take i d.regs)) i n) 0 d.regs ≡ true
  pub inputs : every (λ i n. names_fine most_inputs (names_of d.regs ++ names_of (take i d.inputs)) i n) 0 d.inputs ≡ true
  pub vars : every (λ i n. names_fine most_vars (names_of d.regs ++ names_of d.inputs ++ names_of (take i d.vars)) i n) 0 d.vars ≡ true
  pub context : every (λ i t. rule_fine (context_scope d) (rule_operators (take i d.legal_context)) i t) 0 d.legal_context ≡ true
  pub access : every (λ i t. rule_fine (access_scope d) (rule_operators d.legal_context + rule_operators (take i d.legal_access)) i t) 0 d.legal_access ≡ true
  pub start : list_all (λ v. false) (sets_at c 0).sure ≡ true
  pub nodes : nodes_fine d c ≡ true
  pub arities : (list_all arities_fine d.legal_context && (list_all arities_fine d.legal_access && list_all (λ n. step_arities_fine (tree_in n.step)) d.nodes)) ≡ true
  pub names : (list_all (λ n. spelled_fine n.name) d.regs && (list_all (λ n. spelled_fine n.name) d.inputs && (list_all (λ n. spelled_fine n.name) d.vars && list_all (λ n. spelled_fine n.name) d.nodes))) ≡ true

-- some sets certify the model
abbrev pub IsCertified : ModelData → Type 0
IsCertified d = (c : List Sets) × Certifies d c
