-- The one printed text of a model.
use Rattle.std.specs.Prelude.{ℕ, List, [], ◌∷◌, ◌++◌, map, codes, slice_get}
use Rattle.std.specs.Option.{option_map_or}
use Rattle.dt_bits.specs.declared.op.Op.{Op}
use Rattle.dt_bits.specs.declared.op.Op.TheVariants.{Const, Not, And, Or, Xor, Add, Sub, Slice, Concat, SignExt, Shl, Shr, Eq, Ltu, Ite}
use Rattle.dt_lex.specs.Names.{bytes_of}
use Rattle.dt_lex.specs.Numeral.{decimal, hex}
use Rattle.dt_lex.specs.Printing.{body_of, text_of}
use Rattle.dt_model.specs.declared.model.Named.{Named}
use Rattle.dt_model.specs.ModelData.{Tree, value, reg, input, var, apply1, apply2, apply3, ActData, bind, read, branch, fault, done, NodeData, ModelData}
use Rattle.dt_model.specs.Widths.{Scope}
use Rattle.dt_model.specs.Faults.{node_scope}

-- ---- names by their positions; a position that has none is printed as nothing

abbrev pub name_text : List Named → ℕ → List ℕ
name_text names i = option_map_or (λ n. bytes_of n.name) (slice_get names i) []

abbrev pub node_text : List NodeData → ℕ → List ℕ
node_text nodes i = option_map_or (λ n. bytes_of n.name) (slice_get nodes i) []

-- ---- expressions

-- a constant stands as W:N, never as an operator
abbrev pub operator_word : Op → List ℕ
operator_word (Const v) = []
operator_word Not = codes "not"
operator_word And = codes "and"
operator_word Or = codes "or"
operator_word Xor = codes "xor"
operator_word Add = codes "add"
operator_word Sub = codes "sub"
operator_word (Slice hi lo) = codes "slice"
operator_word Concat = codes "concat"
operator_word (SignExt to) = codes "sext"
operator_word (Shl by) = codes "shl"
operator_word (Shr by) = codes "shr"
operator_word Eq = codes "eq"
operator_word Ltu = codes "ltu"
operator_word Ite = codes "ite"

abbrev pub operator_numbers : Op → List ℕ
operator_numbers (Slice hi lo) = hi ∷ lo ∷ []
operator_numbers (SignExt to) = to ∷ []
operator_numbers (Shl by) = by ∷ []
operator_numbers (Shr by) = by ∷ []
operator_numbers _ = []

-- an operator and its numbers
abbrev pub operator_text : Op → List ℕ
operator_text op = body_of (operator_word op ∷ map decimal (operator_numbers op))

-- pieces with one blank between them, in parentheses
abbrev pub in_parens : List (List ℕ) → List ℕ
in_parens pieces = 40 ∷ (body_of pieces ++ 41 ∷ [])

unfoldable pub expr_text : Scope → Tree → List ℕ
expr_text s (value w n) = decimal w ++ 58 ∷ hex n
expr_text s (reg i) = name_text s.regs i
expr_text s (input i) = name_text s.inputs i
expr_text s (var i) = name_text s.vars i
expr_text s (apply1 op a) = in_parens (operator_text op ∷ expr_text s a ∷ [])
expr_text s (apply2 op a b) = in_parens (operator_text op ∷ expr_text s a ∷ expr_text s b ∷ [])
expr_text s (apply3 op a b c) = in_parens (operator_text op ∷ expr_text s a ∷ expr_text s b ∷ expr_text s c ∷ [])

-- ---- lines, each as its pieces

abbrev pub act_pieces : Scope → List NodeData → ActData → List (List ℕ)
act_pieces s nodes (bind x e n) = codes "let" ∷ name_text s.vars x ∷ expr_text s e ∷ node_text nodes n ∷ []
act_pieces s nodes (read x e g t o) = codes "read" ∷ name_text s.vars x ∷ expr_text s e ∷ decimal g ∷ node_text nodes t ∷ node_text nodes o ∷ []
act_pieces s nodes (branch e t o) = codes "if" ∷ expr_text s e ∷ node_text nodes t ∷ node_text nodes o ∷ []
act_pieces s nodes (fault c) = codes "fault" ∷ decimal c ∷ []
act_pieces s nodes (done e p) = codes "done" ∷ expr_text s e ∷ decimal p ∷ []

abbrev pub size_row : List ℕ → ℕ → List (List ℕ)
size_row kind n = kind ∷ decimal n ∷ []

abbrev pub named_row : List ℕ → Named → List (List ℕ)
named_row kind n = kind ∷ bytes_of n.name ∷ decimal n.width ∷ []

abbrev pub rule_row : List ℕ → Scope → Tree → List (List ℕ)
rule_row kind s e = codes "legal" ∷ kind ∷ expr_text s e ∷ []

abbrev pub node_row : Scope → List NodeData → NodeData → List (List ℕ)
node_row s nodes n = codes "node" ∷ bytes_of n.name ∷ act_pieces s nodes n.step

-- ---- the whole text

abbrev pub rows_of : ModelData → List (List (List ℕ))
rows_of d =
    (codes "model" ∷ codes "1" ∷ [])
    ∷ size_row (codes "word") d.word
    ∷ size_row (codes "address") d.address
    ∷ (map (named_row (codes "reg")) d.regs
    ++ (map (named_row (codes "input")) d.inputs
    ++ (map (named_row (codes "var")) d.vars
    ++ (map (rule_row (codes "context") (node_scope d)) d.legal_context
    ++ (map (rule_row (codes "access") (node_scope d)) d.legal_access
    ++ (map (node_row (node_scope d) d.nodes) d.nodes
    ++ (codes "end" ∷ []) ∷ []))))))

unfoldable pub printed : ModelData → List ℕ
printed d = text_of (rows_of d)
