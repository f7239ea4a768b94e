-- A printed line is a short line of its tokens, which are not too deep and spell the line again.
use Rattle.std.proofs.Common.{◌≡◌, ℕ, ◌+◌, ◌^◌, ◌<◌, ◌≤◌, true, false, List, [], ◌∷◌, ◌++◌, length, Option, Some, None, Ok, refl, ap, ◌∙◌, arith, lit≤, length-append}
use Rattle.std.specs.Prelude.{codes, unwrap_or}
use Rattle.std.specs.List.{AllByRecursion}
use Rattle.dt_lex.specs.declared.name.Name.{Name}
use Rattle.dt_lex.specs.Names.{bytes_of, IsName}
use Rattle.dt_lex.specs.Numeral.{decimal}
use Rattle.dt_lex.specs.Printing.{IsWord, spaced, body_of}
use Rattle.dt_lex.specs.Reading.{row_entry}
use Rattle.dt_lex.proofs.NameWords.{name_word}
use Rattle.dt_lex.proofs.Printed.{IsLine, IsWord-decimal, numeral_le}
use Rattle.dt_lex.proofs.Pieces.{IsPiece, word_piece, AreNext, no_piece, one_piece, body_piece, line_piece}
use Rattle.dt_model.specs.declared.model.Named.{Named}
use Rattle.dt_model.specs.ModelData.{Tree, ActData, bind, read, branch, fault, done, NodeData, ModelData}
use Rattle.dt_model.specs.Widths.{Scope, operators, depth}
use Rattle.dt_model.specs.Faults.{node_scope}
use Rattle.dt_modeltext.specs.Expr.{Positions, small_of, unknown, expr_at}
use Rattle.dt_modeltext.specs.Depth.{opens_above, is_too_deep}
use Rattle.dt_modeltext.specs.Act.{target, variable, targets_at, let_at, read_at, branch_at, fault_at, done_at, act_at}
use Rattle.dt_modeltext.specs.Line.{LineData, header, word, address, new_reg, new_input, new_var, context_rule, access_rule, new_node, ended, named_at, node_at, plain_line, rule_of, spelled}
use Rattle.dt_lex.specs.Sections.{may_follow}
use Rattle.dt_modeltext.specs.Entry.{Declared, sections, standing, declared_positions}
use Rattle.dt_modeltext.specs.Read.{grammar}
use Rattle.dt_modeltext.specs.Print.{name_text, node_text, expr_text, act_pieces, size_row, named_row, rule_row, node_row}
use Rattle.dt_modeltext.proofs.ExprSpellings.{expr_again}
use Rattle.dt_modeltext.proofs.PrintedTokens.{small_decimal}
use Rattle.dt_modeltext.proofs.PrintedExprs.{IsFound, AreFound, IsPrintable, expr_tokens, expr_spelled, expr_piece, expr_short, word_passes, expr_passes}

abbrev Tokens : Type 0
Tokens = List (List ℕ)

-- ---- lines, as they are printed, and their tokens

abbrev pub line_row : ModelData → LineData → List (List ℕ)
line_row d header = codes "model" ∷ codes "1" ∷ []
line_row d (word w) = size_row (codes "word") w
line_row d (address a) = size_row (codes "address") a
line_row d (new_reg n) = named_row (codes "reg") n
line_row d (new_input n) = named_row (codes "input") n
line_row d (new_var n) = named_row (codes "var") n
line_row d (context_rule e) = rule_row (codes "context") (node_scope d) e
line_row d (access_rule e) = rule_row (codes "access") (node_scope d) e
line_row d (new_node n) = node_row (node_scope d) d.nodes n
line_row d ended = codes "end" ∷ []

abbrev pub step_tokens : Scope → List NodeData → ActData → Tokens
step_tokens sc nodes (bind x e n) = codes "let" ∷ name_text sc.vars x ∷ (expr_tokens sc e ++ node_text nodes n ∷ [])
step_tokens sc nodes (read x e g t o) = codes "read" ∷ name_text sc.vars x ∷ (expr_tokens sc e ++ decimal g ∷ node_text nodes t ∷ node_text nodes o ∷ [])
step_tokens sc nodes (branch e t o) = codes "if" ∷ (expr_tokens sc e ++ node_text nodes t ∷ node_text nodes o ∷ [])
step_tokens sc nodes (fault c) = codes "fault" ∷ decimal c ∷ []
step_tokens sc nodes (done e p) = codes "done" ∷ (expr_tokens sc e ++ decimal p ∷ [])

abbrev pub line_tokens : ModelData → LineData → Tokens
line_tokens d header = codes "model" ∷ codes "1" ∷ []
line_tokens d (word w) = codes "word" ∷ decimal w ∷ []
line_tokens d (address a) = codes "address" ∷ decimal a ∷ []
line_tokens d (new_reg n) = codes "reg" ∷ bytes_of n.name ∷ decimal n.width ∷ []
line_tokens d (new_input n) = codes "input" ∷ bytes_of n.name ∷ decimal n.width ∷ []
line_tokens d (new_var n) = codes "var" ∷ bytes_of n.name ∷ decimal n.width ∷ []
line_tokens d (context_rule e) = codes "legal" ∷ codes "context" ∷ (expr_tokens (node_scope d) e ++ [])
line_tokens d (access_rule e) = codes "legal" ∷ codes "access" ∷ (expr_tokens (node_scope d) e ++ [])
line_tokens d (new_node n) = codes "node" ∷ bytes_of n.name ∷ step_tokens (node_scope d) d.nodes n.step
line_tokens d ended = codes "end" ∷ []

-- ---- what is asked of a line

-- the names of the model are found at their positions
pub record AreKnown (s : Positions) (d : ModelData) : Type 0 where
  pub scope : AreFound s (node_scope d)
  pub nodes : (i : ℕ) → i < length d.nodes → IsFound s.nodes (node_text d.nodes i) i

-- an expression that is neither too deep nor too long
pub record IsShort (sc : Scope) (e : Tree) : Type 0 where
  pub printable : IsPrintable sc e
  pub depth : depth e ≤ 32
  pub operators : operators e ≤ 64

abbrev pub IsSized : Named → Type 0
IsSized n = IsName n.name × (n.width ≤ 65535)

abbrev pub CanAct : ModelData → ActData → Type 0
CanAct d (bind x e n) = (x < length d.vars) × IsShort (node_scope d) e × (n < length d.nodes)
CanAct d (read x e g t o) = (x < length d.vars) × IsShort (node_scope d) e × (g ≤ 65535) × (t < length d.nodes) × (o < length d.nodes)
CanAct d (branch e t o) = IsShort (node_scope d) e × (t < length d.nodes) × (o < length d.nodes)
CanAct d (fault c) = c ≤ 65535
CanAct d (done e p) = IsShort (node_scope d) e × (p ≤ 65535)

abbrev pub CanLine : ModelData → LineData → Type 0
CanLine d header = Unit {0}
CanLine d (word w) = w ≤ 65535
CanLine d (address a) = a ≤ 65535
CanLine d (new_reg n) = IsSized n
CanLine d (new_input n) = IsSized n
CanLine d (new_var n) = IsSized n
CanLine d (context_rule e) = IsShort (node_scope d) e
CanLine d (access_rule e) = IsShort (node_scope d) e
CanLine d (new_node n) = IsName n.name × CanAct d n.step
CanLine d ended = Unit {0}

-- ---- words

abbrev AreWords : Tokens → Type 0
AreWords ts = AllByRecursion IsWord ts

words_next : (ts : Tokens) → AreWords ts → AreNext ts ts
words_next [] h = no_piece
words_next (t ∷ ts) h = one_piece t (t ∷ []) ts ts (word_piece t h.0) (words_next ts h.1)

words_row : (t : List ℕ) (ts : Tokens) → IsWord t → AreWords ts → IsPiece (body_of (t ∷ ts)) (t ∷ ts)
words_row t ts h hs = body_piece t (t ∷ []) ts ts (word_piece t h) (words_next ts hs)

-- a word before others
then_word : (t : List ℕ) (ps : List (List ℕ)) (ts : Tokens) → IsWord t → AreNext ps ts → AreNext (t ∷ ps) (t ∷ ts)
then_word t ps ts h k = one_piece t (t ∷ []) ps ts (word_piece t h) k

first_word : (t : List ℕ) (ps : List (List ℕ)) (ts : Tokens) → IsWord t → AreNext ps ts → IsPiece (body_of (t ∷ ps)) (t ∷ ts)
first_word t ps ts h k = body_piece t (t ∷ []) ps ts (word_piece t h) k

name_is : (n : Name) → IsName n → IsWord (bytes_of n)
name_is n h = (name_word (bytes_of n) n h).0

found_is : (p : Name → Option ℕ) (t : List ℕ) (i : ℕ) → IsFound p t i → IsWord t
found_is p t i f = (name_word t f.name f.spelled).0

var_is : (s : Positions) (d : ModelData) → AreKnown s d → (x : ℕ) → x < length d.vars → IsFound s.vars (name_text d.vars x) x
var_is s d k x lt = (k.scope.vars x lt).0.found

node_is : (s : Positions) (d : ModelData) → AreKnown s d → (i : ℕ) → i < length d.nodes → IsWord (node_text d.nodes i)
node_is s d k i lt = found_is s.nodes (node_text d.nodes i) i (k.nodes i lt)

-- ---- a line is a piece

expr_next : (s : Positions) (d : ModelData) → AreKnown s d → (e : Tree) → IsShort (node_scope d) e → (ws : Tokens) → AreWords ws → AreNext (expr_text (node_scope d) e ∷ ws) (expr_tokens (node_scope d) e ++ ws)
expr_next s d k e h ws words = one_piece (expr_text (node_scope d) e) (expr_tokens (node_scope d) e) ws ws (expr_piece s (node_scope d) k.scope e h.printable) (words_next ws words)

step_next : (s : Positions) (d : ModelData) → AreKnown s d → (p : ActData) → CanAct d p → AreNext (act_pieces (node_scope d) d.nodes p) (step_tokens (node_scope d) d.nodes p)
step_next s d k (bind x e n) c =
    then_word (codes "let") _ _ (record { some = omega arith; plain = refl }) (then_word (name_text d.vars x) _ _ (found_is s.vars (name_text d.vars x) x (var_is s d k x c.0)) (expr_next s d k e c.1 (node_text d.nodes n ∷ []) (node_is s d k n c.2, tt)))
step_next s d k (read x e g t o) c =
    then_word (codes "read") _ _ (record { some = omega arith; plain = refl }) (then_word (name_text d.vars x) _ _ (found_is s.vars (name_text d.vars x) x (var_is s d k x c.0)) (expr_next s d k e c.1 (decimal g ∷ node_text d.nodes t ∷ node_text d.nodes o ∷ []) (IsWord-decimal g, (node_is s d k t c.3, (node_is s d k o c.4, tt)))))
step_next s d k (branch e t o) c =
    then_word (codes "if") _ _ (record { some = omega arith; plain = refl }) (expr_next s d k e c.0 (node_text d.nodes t ∷ node_text d.nodes o ∷ []) (node_is s d k t c.1, (node_is s d k o c.2, tt)))
step_next s d k (fault n) c = words_next (codes "fault" ∷ decimal n ∷ []) (record { some = omega arith; plain = refl }, (IsWord-decimal n, tt))
step_next s d k (done e p) c =
    then_word (codes "done") _ _ (record { some = omega arith; plain = refl }) (expr_next s d k e c.0 (decimal p ∷ []) (IsWord-decimal p, tt))

named_piece : (kind : List ℕ) (n : Named) → IsWord kind → IsSized n → IsPiece (body_of (named_row kind n)) (named_row kind n)
named_piece kind n h c = words_row kind (bytes_of n.name ∷ decimal n.width ∷ []) h (name_is n.name c.0, (IsWord-decimal n.width, tt))

rule_piece : (s : Positions) (d : ModelData) → AreKnown s d → (kind : List ℕ) (e : Tree) → IsWord kind → IsShort (node_scope d) e → IsPiece (body_of (rule_row kind (node_scope d) e)) (codes "legal" ∷ kind ∷ (expr_tokens (node_scope d) e ++ []))
rule_piece s d k kind e h c =
    first_word (codes "legal") _ _ (record { some = omega arith; plain = refl }) (then_word kind _ _ h (expr_next s d k e c [] tt))

row_piece : (s : Positions) (d : ModelData) → AreKnown s d → (l : LineData) → CanLine d l → IsPiece (body_of (line_row d l)) (line_tokens d l)
row_piece s d k header c = words_row (codes "model") (codes "1" ∷ []) (record { some = omega arith; plain = refl }) (record { some = omega arith; plain = refl }, tt)
row_piece s d k (word w) c = words_row (codes "word") (decimal w ∷ []) (record { some = omega arith; plain = refl }) (IsWord-decimal w, tt)
row_piece s d k (address a) c = words_row (codes "address") (decimal a ∷ []) (record { some = omega arith; plain = refl }) (IsWord-decimal a, tt)
row_piece s d k (new_reg n) c = named_piece (codes "reg") n (record { some = omega arith; plain = refl }) c
row_piece s d k (new_input n) c = named_piece (codes "input") n (record { some = omega arith; plain = refl }) c
row_piece s d k (new_var n) c = named_piece (codes "var") n (record { some = omega arith; plain = refl }) c
row_piece s d k (context_rule e) c = rule_piece s d k (codes "context") e (record { some = omega arith; plain = refl }) c
row_piece s d k (access_rule e) c = rule_piece s d k (codes "access") e (record { some = omega arith; plain = refl }) c
row_piece s d k (new_node n) c = first_word (codes "node") _ _ (record { some = omega arith; plain = refl }) (then_word (bytes_of n.name) _ _ (name_is n.name c.0) (step_next s d k n.step c.1))
row_piece s d k ended c = words_row (codes "end") [] (record { some = omega arith; plain = refl }) tt

-- ---- a line is short

-- the bytes of pieces with a blank before each
abbrev total : List (List ℕ) → ℕ
total [] = 0
total (p ∷ ps) = 1 + length p + total ps

spaced_total : (ps : List (List ℕ)) → length (spaced ps) ≡ total ps
spaced_total [] = refl
spaced_total (p ∷ ps) = omega (arith, length-append p (spaced ps), spaced_total ps)

row_total : (p : List ℕ) (ps : List (List ℕ)) → length (body_of (p ∷ ps)) ≡ length p + total ps
row_total p ps = omega (arith, length-append p (spaced ps), spaced_total ps)

little : (n : ℕ) → n ≤ 65535 → length (decimal n) ≤ 5
little n le = numeral_le 10 5 n (omega arith) (omega arith) (let k : 65535 < 10 ^ 5 = lit≤ tt in omega arith)

name_short : (n : Name) → IsName n → length (bytes_of n) ≤ 31
name_short n h = (name_word (bytes_of n) n h).1

found_short : (p : Name → Option ℕ) (t : List ℕ) (i : ℕ) → IsFound p t i → length t ≤ 31
found_short p t i f = (name_word t f.name f.spelled).1

node_short : (s : Positions) (d : ModelData) → AreKnown s d → (i : ℕ) → i < length d.nodes → length (node_text d.nodes i) ≤ 31
node_short s d k i lt = found_short s.nodes (node_text d.nodes i) i (k.nodes i lt)

text_short : (s : Positions) (d : ModelData) → AreKnown s d → (e : Tree) → IsShort (node_scope d) e → length (expr_text (node_scope d) e) ≤ 6118
text_short s d k e h = omega (arith, expr_short s (node_scope d) k.scope e h.printable, h.operators)

step_short : (s : Positions) (d : ModelData) → AreKnown s d → (p : ActData) → CanAct d p → total (act_pieces (node_scope d) d.nodes p) ≤ 6300
step_short s d k (bind x e n) c = omega (arith, found_short s.vars (name_text d.vars x) x (var_is s d k x c.0), text_short s d k e c.1, node_short s d k n c.2)
step_short s d k (read x e g t o) c = omega (arith, found_short s.vars (name_text d.vars x) x (var_is s d k x c.0), text_short s d k e c.1, little g c.2, node_short s d k t c.3, node_short s d k o c.4)
step_short s d k (branch e t o) c = omega (arith, text_short s d k e c.0, node_short s d k t c.1, node_short s d k o c.2)
step_short s d k (fault n) c = omega (arith, little n c)
step_short s d k (done e p) c = omega (arith, text_short s d k e c.0, little p c.1)

row_short : (s : Positions) (d : ModelData) → AreKnown s d → (l : LineData) → CanLine d l → length (body_of (line_row d l)) ≤ 16384
row_short s d k header c = omega arith
row_short s d k (word w) c = omega (arith, row_total (codes "word") (decimal w ∷ []), little w c)
row_short s d k (address a) c = omega (arith, row_total (codes "address") (decimal a ∷ []), little a c)
row_short s d k (new_reg n) c = omega (arith, row_total (codes "reg") (bytes_of n.name ∷ decimal n.width ∷ []), name_short n.name c.0, little n.width c.1)
row_short s d k (new_input n) c = omega (arith, row_total (codes "input") (bytes_of n.name ∷ decimal n.width ∷ []), name_short n.name c.0, little n.width c.1)
row_short s d k (new_var n) c = omega (arith, row_total (codes "var") (bytes_of n.name ∷ decimal n.width ∷ []), name_short n.name c.0, little n.width c.1)
row_short s d k (context_rule e) c = omega (arith, row_total (codes "legal") (codes "context" ∷ expr_text (node_scope d) e ∷ []), text_short s d k e c)
row_short s d k (access_rule e) c = omega (arith, row_total (codes "legal") (codes "access" ∷ expr_text (node_scope d) e ∷ []), text_short s d k e c)
row_short s d k (new_node n) c = omega (arith, row_total (codes "node") (bytes_of n.name ∷ act_pieces (node_scope d) d.nodes n.step), name_short n.name c.0, step_short s d k n.step c.1)
row_short s d k ended c = omega arith

-- each printed line has at most 16,384 bytes and is cut into its tokens again
pub row_line : (s : Positions) (d : ModelData) → AreKnown s d → (l : LineData) → CanLine d l → IsLine (body_of (line_row d l)) (line_tokens d l)
row_line s d k l c = line_piece (body_of (line_row d l)) (line_tokens d l) (row_piece s d k l c) (row_short s d k l c)

-- ---- a line is not too deep

words_shallow : (ts : Tokens) → AreWords ts → is_too_deep ts ≡ false
unfolding opens_above
words_shallow [] h = refl
words_shallow (t ∷ ts) h = word_passes 32 0 t ts h.0 (omega arith) ∙ words_shallow ts h.1

then_shallow : (t : List ℕ) (ts : Tokens) → IsWord t → is_too_deep ts ≡ false → is_too_deep (t ∷ ts) ≡ false
then_shallow t ts h k = word_passes 32 0 t ts h (omega arith) ∙ k

expr_shallow : (s : Positions) (d : ModelData) → AreKnown s d → (e : Tree) → IsShort (node_scope d) e → (ws : Tokens) → AreWords ws → is_too_deep (expr_tokens (node_scope d) e ++ ws) ≡ false
expr_shallow s d k e h ws words =
    expr_passes s (node_scope d) k.scope e h.printable 32 0 ws (omega (arith, h.depth)) ∙ words_shallow ws words

step_shallow : (s : Positions) (d : ModelData) → AreKnown s d → (p : ActData) → CanAct d p → is_too_deep (step_tokens (node_scope d) d.nodes p) ≡ false
step_shallow s d k (bind x e n) c =
    then_shallow (codes "let") _ (record { some = omega arith; plain = refl }) (then_shallow (name_text d.vars x) _ (found_is s.vars (name_text d.vars x) x (var_is s d k x c.0)) (expr_shallow s d k e c.1 (node_text d.nodes n ∷ []) (node_is s d k n c.2, tt)))
step_shallow s d k (read x e g t o) c =
    then_shallow (codes "read") _ (record { some = omega arith; plain = refl }) (then_shallow (name_text d.vars x) _ (found_is s.vars (name_text d.vars x) x (var_is s d k x c.0)) (expr_shallow s d k e c.1 (decimal g ∷ node_text d.nodes t ∷ node_text d.nodes o ∷ []) (IsWord-decimal g, (node_is s d k t c.3, (node_is s d k o c.4, tt)))))
step_shallow s d k (branch e t o) c =
    then_shallow (codes "if") _ (record { some = omega arith; plain = refl }) (expr_shallow s d k e c.0 (node_text d.nodes t ∷ node_text d.nodes o ∷ []) (node_is s d k t c.1, (node_is s d k o c.2, tt)))
step_shallow s d k (fault n) c = words_shallow (codes "fault" ∷ decimal n ∷ []) (record { some = omega arith; plain = refl }, (IsWord-decimal n, tt))
step_shallow s d k (done e p) c =
    then_shallow (codes "done") _ (record { some = omega arith; plain = refl }) (expr_shallow s d k e c.0 (decimal p ∷ []) (IsWord-decimal p, tt))

named_shallow : (kind : List ℕ) (n : Named) → IsWord kind → IsSized n → is_too_deep (named_row kind n) ≡ false
named_shallow kind n h c = words_shallow (named_row kind n) (h, (name_is n.name c.0, (IsWord-decimal n.width, tt)))

rule_shallow : (s : Positions) (d : ModelData) → AreKnown s d → (kind : List ℕ) (e : Tree) → IsWord kind → IsShort (node_scope d) e → is_too_deep (codes "legal" ∷ kind ∷ (expr_tokens (node_scope d) e ++ [])) ≡ false
rule_shallow s d k kind e h c =
    then_shallow (codes "legal") _ (record { some = omega arith; plain = refl }) (then_shallow kind _ h (expr_shallow s d k e c [] tt))

pub row_shallow : (s : Positions) (d : ModelData) → AreKnown s d → (l : LineData) → CanLine d l → is_too_deep (line_tokens d l) ≡ false
row_shallow s d k header c = words_shallow (codes "model" ∷ codes "1" ∷ []) (record { some = omega arith; plain = refl }, (record { some = omega arith; plain = refl }, tt))
row_shallow s d k (word w) c = words_shallow (codes "word" ∷ decimal w ∷ []) (record { some = omega arith; plain = refl }, (IsWord-decimal w, tt))
row_shallow s d k (address a) c = words_shallow (codes "address" ∷ decimal a ∷ []) (record { some = omega arith; plain = refl }, (IsWord-decimal a, tt))
row_shallow s d k (new_reg n) c = named_shallow (codes "reg") n (record { some = omega arith; plain = refl }) c
row_shallow s d k (new_input n) c = named_shallow (codes "input") n (record { some = omega arith; plain = refl }) c
row_shallow s d k (new_var n) c = named_shallow (codes "var") n (record { some = omega arith; plain = refl }) c
row_shallow s d k (context_rule e) c = rule_shallow s d k (codes "context") e (record { some = omega arith; plain = refl }) c
row_shallow s d k (access_rule e) c = rule_shallow s d k (codes "access") e (record { some = omega arith; plain = refl }) c
row_shallow s d k (new_node n) c = then_shallow (codes "node") _ (record { some = omega arith; plain = refl }) (then_shallow (bytes_of n.name) _ (name_is n.name c.0) (step_shallow s d k n.step c.1))
row_shallow s d k ended c = words_shallow (codes "end" ∷ []) (record { some = omega arith; plain = refl }, tt)

-- ---- a line is spelled again

fits_32 : (n : ℕ) → n ≤ 65535 → n < 2 ^ 32
fits_32 n le = let most : 65535 < 2 ^ 32 = lit≤ tt in omega arith

small_again : (n : ℕ) → n ≤ 65535 → small_of (decimal n) ≡ Some n
small_again n le = small_decimal n (fits_32 n le)

tree_again : (s : Positions) (d : ModelData) → AreKnown s d → (e : Tree) → IsShort (node_scope d) e → (ws : Tokens) → expr_at s 32 (expr_tokens (node_scope d) e ++ ws) ≡ Some (e, ws)
tree_again s d k e h ws = expr_again s 32 e (expr_tokens (node_scope d) e) ws (expr_spelled s (node_scope d) k.scope e h.printable) h.depth

var_place : (s : Positions) (t : List ℕ) (x : ℕ) → (f : IsFound s.vars t x) → variable s f.name ≡ x
unfolding variable
var_place s t x f = ap (λ (o : Option ℕ). unwrap_or o unknown) f.place

node_place : (s : Positions) (t : List ℕ) (x : ℕ) → (f : IsFound s.nodes t x) → target s f.name ≡ x
unfolding target
node_place s t x f = ap (λ (o : Option ℕ). unwrap_or o unknown) f.place

targets_again : (s : Positions) (d : ModelData) → AreKnown s d → (t o : ℕ) → t < length d.nodes → o < length d.nodes → targets_at s (node_text d.nodes t ∷ node_text d.nodes o ∷ []) ≡ Some ((t, o), [])
unfolding targets_at
targets_again s d k t o p q =
    let f = k.nodes t p in
    let g = k.nodes o q in
    rw (f.spelled, g.spelled, node_place s (node_text d.nodes t) t f, node_place s (node_text d.nodes o) o g) refl

step_again : (s : Positions) (d : ModelData) → AreKnown s d → (p : ActData) → CanAct d p → act_at s (step_tokens (node_scope d) d.nodes p) ≡ Some (p, [])
unfolding act_at let_at read_at branch_at fault_at done_at
step_again s d k (bind x e n) c =
    let v = var_is s d k x c.0 in
    let f = k.nodes n c.2 in
    let tree = tree_again s d k e c.1 (node_text d.nodes n ∷ []) in
    rw (v.spelled, tree, f.spelled, var_place s (name_text d.vars x) x v, node_place s (node_text d.nodes n) n f) refl
step_again s d k (read x e g t o) c =
    let v = var_is s d k x c.0 in
    let tree = tree_again s d k e c.1 (decimal g ∷ node_text d.nodes t ∷ node_text d.nodes o ∷ []) in
    rw (v.spelled, tree, small_again g c.2, targets_again s d k t o c.3 c.4, var_place s (name_text d.vars x) x v) refl
step_again s d k (branch e t o) c =
    let tree = tree_again s d k e c.0 (node_text d.nodes t ∷ node_text d.nodes o ∷ []) in
    rw (tree, targets_again s d k t o c.1 c.2) refl
step_again s d k (fault n) c = rw (small_again n c) refl
step_again s d k (done e p) c =
    let tree = tree_again s d k e c.0 (decimal p ∷ []) in
    rw (tree, small_again p c.1) refl

abbrev pub spelled_row : Positions → Tokens → Option LineData
spelled_row s [] = None
spelled_row s (t ∷ ts) = spelled s t ts

-- a line that names nothing is spelled so whatever is declared

pub header_again : (s : Positions) (d : ModelData) → spelled_row s (line_tokens d header) ≡ Some header
unfolding spelled plain_line
header_again s d = refl

pub word_again : (s : Positions) (d : ModelData) (w : ℕ) → w ≤ 65535 → spelled_row s (line_tokens d (word w)) ≡ Some (word w)
unfolding spelled plain_line
word_again s d w c = rw (small_again w c) refl

pub address_again : (s : Positions) (d : ModelData) (a : ℕ) → a ≤ 65535 → spelled_row s (line_tokens d (address a)) ≡ Some (address a)
unfolding spelled plain_line
address_again s d a c = rw (small_again a c) refl

pub reg_again : (s : Positions) (d : ModelData) (n : Named) → IsSized n → spelled_row s (line_tokens d (new_reg n)) ≡ Some (new_reg n)
unfolding spelled plain_line named_at
reg_again s d n c = rw (c.0, small_again n.width c.1) refl

pub input_again : (s : Positions) (d : ModelData) (n : Named) → IsSized n → spelled_row s (line_tokens d (new_input n)) ≡ Some (new_input n)
unfolding spelled plain_line named_at
input_again s d n c = rw (c.0, small_again n.width c.1) refl

pub new_var_again : (s : Positions) (d : ModelData) (n : Named) → IsSized n → spelled_row s (line_tokens d (new_var n)) ≡ Some (new_var n)
unfolding spelled plain_line named_at
new_var_again s d n c = rw (c.0, small_again n.width c.1) refl

pub ended_again : (s : Positions) (d : ModelData) → spelled_row s (line_tokens d ended) ≡ Some ended
unfolding spelled plain_line
ended_again s d = refl

-- and one that does, where all is declared

pub context_again : (s : Positions) (d : ModelData) → AreKnown s d → (e : Tree) → IsShort (node_scope d) e → spelled_row s (line_tokens d (context_rule e)) ≡ Some (context_rule e)
unfolding spelled rule_of
context_again s d k e c = rw (tree_again s d k e c []) refl

pub access_again : (s : Positions) (d : ModelData) → AreKnown s d → (e : Tree) → IsShort (node_scope d) e → spelled_row s (line_tokens d (access_rule e)) ≡ Some (access_rule e)
unfolding spelled rule_of
access_again s d k e c = rw (tree_again s d k e c []) refl

pub node_again : (s : Positions) (d : ModelData) → AreKnown s d → (n : NodeData) → IsName n.name → CanAct d n.step → spelled_row s (line_tokens d (new_node n)) ≡ Some (new_node n)
unfolding spelled node_at
node_again s d k n c h = rw (c, step_again s d k n.step h) refl

-- ---- a line is read as it is spelled

pub row_again : (nodes : Name → Option ℕ) (n : ℕ) (d : Declared) (ts : Tokens) (l : LineData) → is_too_deep ts ≡ false → spelled_row (declared_positions nodes d.model) ts ≡ Some l → may_follow sections d.place (standing l) ≡ true → row_entry (grammar nodes) n d ts ≡ Ok (Some (record { number = n; line = l }))
row_again nodes n d [] l shallow is follows = absurd cc
row_again nodes n d (t ∷ ts) l shallow is follows = rw (shallow, is, follows) refl
