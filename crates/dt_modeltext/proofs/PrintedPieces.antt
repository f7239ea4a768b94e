-- What the printer appends, one piece after the other.
use Rattle.std.proofs.Common.{◌≡◌, ℕ, ◌+◌, ◌<◌, List, [], ◌∷◌, ◌++◌, length, take, get_or, Option, None, refl, sym, ap, ◌∙◌, append_assoc, arith}
use Rattle.std.specs.Prelude.{map, codes, slice_get}
use Rattle.std.specs.Option.{option_map, option_map_or}
use Rattle.std.proofs.lemmas.Option.{slice_get-map, slice_get_read}
use Rattle.std.proofs.lemmas.List.{append-nil, take_more, map_push}
use Rattle.std.proofs.lemmas.List.Concat.{flat_map-append}
use Rattle.std.proofs.lemmas.Simd.{map-map}
use Rattle.dt_lex.specs.Names.{bytes_of}
use Rattle.dt_lex.specs.Printing.{row_text, text_of}
use Rattle.dt_model.specs.declared.model.Node.{Node}
use Rattle.dt_model.specs.declared.model.Model.{Model}
use Rattle.dt_model.specs.declared.expr.Expr.{Expr}
use Rattle.dt_model.specs.ModelData.{NodeData, tree_of, node_of, data_of}
use Rattle.dt_model.specs.Faults.{node_scope}
use Rattle.dt_modeltext.specs.Print.{node_text, in_parens, size_row, named_row, rule_row, node_row, printed}
use Rattle.dt_lex.proofs.Rows.{rows-append}

pub target_some : (nodes : List Node) (i : ℕ) (n : Node) → i < length nodes → n ≡ get_or nodes i n → node_text (map node_of nodes) i ≡ bytes_of n.name
target_some nodes i n lt e =
    ap (λ (o : Option NodeData). option_map_or (λ (m : NodeData). bytes_of m.name) o []) (slice_get-map node_of nodes i ∙ ap (option_map node_of) (slice_get_read nodes (length nodes) i n refl lt e))

pub target_none : (nodes : List Node) (i : ℕ) → slice_get nodes i ≡ None → node_text (map node_of nodes) i ≡ []
target_none nodes i e =
    ap (λ (o : Option NodeData). option_map_or (λ (m : NodeData). bytes_of m.name) o []) (slice_get-map node_of nodes i ∙ ap (option_map node_of) e)

-- an operator and its operands, each behind a blank, between parentheses
pub parens_one : (out op a : List ℕ) → ((out ++ 32 ∷ 40 ∷ op) ++ 32 ∷ a) ++ 41 ∷ [] ≡ out ++ 32 ∷ in_parens (op ∷ a ∷ [])
parens_one out op a = grind (arith, append_assoc, append-nil)

pub parens_two : (out op a b : List ℕ) → (((out ++ 32 ∷ 40 ∷ op) ++ 32 ∷ a) ++ 32 ∷ b) ++ 41 ∷ [] ≡ out ++ 32 ∷ in_parens (op ∷ a ∷ b ∷ [])
parens_two out op a b = grind (arith, append_assoc, append-nil)

pub parens_three : (out op a b c : List ℕ) → ((((out ++ 32 ∷ 40 ∷ op) ++ 32 ∷ a) ++ 32 ∷ b) ++ 32 ∷ c) ++ 41 ∷ [] ≡ out ++ 32 ∷ in_parens (op ∷ a ∷ b ∷ c ∷ [])
parens_three out op a b c = grind (arith, append_assoc, append-nil)

-- ---- the whole text

blocks_are : (a b c d e f : List (List (List ℕ))) → text_of (a ++ (b ++ (c ++ (d ++ (e ++ (f ++ (codes "end" ∷ []) ∷ [])))))) ≡ text_of a ++ (text_of b ++ (text_of c ++ (text_of d ++ (text_of e ++ (text_of f ++ codes "end\n")))))
blocks_are a b c d e f =
    rows-append a _
    ∙ ap (λ (t : List ℕ). text_of a ++ t) (rows-append b _
    ∙ ap (λ (t : List ℕ). text_of b ++ t) (rows-append c _
    ∙ ap (λ (t : List ℕ). text_of c ++ t) (rows-append d _
    ∙ ap (λ (t : List ℕ). text_of d ++ t) (rows-append e _
    ∙ ap (λ (t : List ℕ). text_of e ++ t) (rows-append f _)))))

abbrev pub rule_rows : Model → List ℕ → List Expr → List (List (List ℕ))
rule_rows m kind es = map (λ e. rule_row kind (node_scope (data_of m)) (tree_of e)) es

abbrev pub node_rows : Model → List (List (List ℕ))
node_rows m = map (λ n. node_row (node_scope (data_of m)) (data_of m).nodes (node_of n)) m.nodes

printed_is : (m : Model) → printed (data_of m) ≡ codes "model 1\n" ++ (row_text (size_row (codes "word") m.word) ++ (row_text (size_row (codes "address") m.address) ++ (text_of (map (named_row (codes "reg")) m.regs) ++ (text_of (map (named_row (codes "input")) m.inputs) ++ (text_of (map (named_row (codes "var")) m.vars) ++ (text_of (rule_rows m (codes "context") m.legal_context) ++ (text_of (rule_rows m (codes "access") m.legal_access) ++ (text_of (node_rows m) ++ codes "end\n"))))))))
unfolding printed
printed_is m =
    let s = node_scope (data_of m) in
    let nodes = (data_of m).nodes in
    let front : List ℕ → List ℕ = λ t. codes "model 1\n" ++ (row_text (size_row (codes "word") m.word) ++ (row_text (size_row (codes "address") m.address) ++ t)) in
    ap front (blocks_are (map (named_row (codes "reg")) m.regs) (map (named_row (codes "input")) m.inputs) (map (named_row (codes "var")) m.vars) (map (rule_row (codes "context") s) (map tree_of m.legal_context)) (map (rule_row (codes "access") s) (map tree_of m.legal_access)) (map (node_row s nodes) nodes)
    ∙ (λ i. text_of (map (named_row (codes "reg")) m.regs) ++ (text_of (map (named_row (codes "input")) m.inputs) ++ (text_of (map (named_row (codes "var")) m.vars) ++ (text_of (map-map (rule_row (codes "context") s) tree_of m.legal_context i) ++ (text_of (map-map (rule_row (codes "access") s) tree_of m.legal_access i) ++ (text_of (map-map (node_row s nodes) node_of m.nodes i) ++ codes "end\n")))))))

chain : (o a b c d e f g h i j : List ℕ) → (((((((((o ++ a) ++ b) ++ c) ++ d) ++ e) ++ f) ++ g) ++ h) ++ i) ++ j ≡ o ++ (a ++ (b ++ (c ++ (d ++ (e ++ (f ++ (g ++ (h ++ (i ++ j)))))))))
chain o a b c d e f g h i j = simp append_assoc

-- the text after each of the calls that append its parts
pub printed_after : (m : Model) (o a b c d e f g h i j : List ℕ) → a ≡ o ++ codes "model 1\n" → b ≡ a ++ row_text (size_row (codes "word") m.word) → c ≡ b ++ row_text (size_row (codes "address") m.address) → d ≡ c ++ text_of (map (named_row (codes "reg")) m.regs) → e ≡ d ++ text_of (map (named_row (codes "input")) m.inputs) → f ≡ e ++ text_of (map (named_row (codes "var")) m.vars) → g ≡ f ++ text_of (rule_rows m (codes "context") m.legal_context) → h ≡ g ++ text_of (rule_rows m (codes "access") m.legal_access) → i ≡ h ++ text_of (node_rows m) → j ≡ i ++ codes "end\n" → j ≡ o ++ printed (data_of m)
printed_after m o a b c d e f g h i j pa pb pc pd pe pf pg ph pi pj =
    let all = pj ∙ ap (λ (x : List ℕ). x ++ codes "end\n") (pi ∙ ap (λ (x : List ℕ). x ++ text_of (node_rows m)) (ph ∙ ap (λ (x : List ℕ). x ++ text_of (rule_rows m (codes "access") m.legal_access)) (pg ∙ ap (λ (x : List ℕ). x ++ text_of (rule_rows m (codes "context") m.legal_context)) (pf ∙ ap (λ (x : List ℕ). x ++ text_of (map (named_row (codes "var")) m.vars)) (pe ∙ ap (λ (x : List ℕ). x ++ text_of (map (named_row (codes "input")) m.inputs)) (pd ∙ ap (λ (x : List ℕ). x ++ text_of (map (named_row (codes "reg")) m.regs)) (pc ∙ ap (λ (x : List ℕ). x ++ row_text (size_row (codes "address") m.address)) (pb ∙ ap (λ (x : List ℕ). x ++ row_text (size_row (codes "word") m.word)) pa)))))))) in
    all ∙ chain o (codes "model 1\n") (row_text (size_row (codes "word") m.word)) (row_text (size_row (codes "address") m.address)) (text_of (map (named_row (codes "reg")) m.regs)) (text_of (map (named_row (codes "input")) m.inputs)) (text_of (map (named_row (codes "var")) m.vars)) (text_of (rule_rows m (codes "context") m.legal_context)) (text_of (rule_rows m (codes "access") m.legal_access)) (text_of (node_rows m)) (codes "end\n") ∙ ap (λ (x : List ℕ). o ++ x) (sym (printed_is m))
