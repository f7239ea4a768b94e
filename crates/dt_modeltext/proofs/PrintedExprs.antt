-- A printed expression is a piece of its tokens, which spell it and are as deep and as long as it is.
use Rattle.std.proofs.Common.{◌≡◌, ℕ, suc, ◌+◌, ◌-◌, ◌*◌, ◌^◌, ◌<◌, ◌≤◌, Bool, false, ◌||◌, ltb, List, [], ◌∷◌, ◌++◌, length, Option, Some, None, refl, sym, ap, subst, ◌∙◌, append_assoc, arith, lit≤, inl, inr, length-append}
use Rattle.std.specs.Prelude.{map, codes}
use Rattle.std.specs.List.{AllByRecursion}
use Rattle.std.specs.Str.{bytes_eq}
use Rattle.std.proofs.lemmas.Bool.{cases_Bool, cond-false, le-ltb, false≢true}
use Rattle.std.proofs.lemmas.List.{append-nil}
use Rattle.std.proofs.lemmas.Slice.Eq.{bytes_eq-Decides}
use Rattle.dt_bits.specs.declared.op.Op.{Op}
use Rattle.dt_bits.specs.declared.op.Op.TheVariants.{Const, Not, And, Or, Xor, Add, Sub, Slice, Concat, SignExt, Shl, Shr, Eq, Ltu, Ite}
use Rattle.dt_bits.specs.Ops.{arity_of}
use Rattle.dt_lex.specs.declared.name.Name.{Name}
use Rattle.dt_lex.specs.Names.{name_of}
use Rattle.dt_lex.specs.Numeral.{decimal, hex}
use Rattle.dt_lex.specs.Printing.{all_plain, IsWord, spaced}
use Rattle.dt_lex.proofs.NameWords.{name_word}
use Rattle.dt_lex.proofs.Printed.{IsWord-decimal, numeral_le, length-hex-le}
use Rattle.dt_lex.proofs.Pieces.{IsPiece, word_piece, AreNext, no_piece, one_piece, body_piece, paren_piece}
use Rattle.dt_model.specs.ModelData.{Tree, value, reg, input, var, apply1, apply2, apply3}
use Rattle.dt_model.specs.Widths.{Scope, operators, depth}
use Rattle.dt_modeltext.specs.Expr.{Positions, named, named_or, constant_of, atom_of}
use Rattle.dt_modeltext.specs.Depth.{unclosed, opens_above}
use Rattle.dt_modeltext.specs.Spelling.{SpellsCounted, SpellsOperator, Spells}
use Rattle.dt_modeltext.specs.Print.{name_text, operator_word, operator_numbers, operator_text, in_parens, expr_text}
use Rattle.dt_modeltext.proofs.PrintedTokens.{small_decimal, constant_text, constant_again, constant_no_name, IsWord-constant}

abbrev Tokens : Type 0
Tokens = List (List ℕ)

-- ---- what is asked of an expression

-- a printed name spells a name that has this position
pub record IsFound (position : Name → Option ℕ) (t : List ℕ) (i : ℕ) : Type 0 where
  pub name : Name
  pub spelled : name_of t ≡ Some name
  pub place : position name ≡ Some i

-- and it has none among these
pub record IsFoundPast (position other : Name → Option ℕ) (t : List ℕ) (i : ℕ) : Type 0 where
  pub found : IsFound position t i
  pub past : other found.name ≡ None

-- each name that is in scope is found at its position, a register before an input, and both before a variable
pub record AreFound (s : Positions) (sc : Scope) : Type 0 where
  pub regs : (i : ℕ) → i < length sc.regs → IsFound s.regs (name_text sc.regs i) i
  pub inputs : (i : ℕ) → i < length sc.inputs → IsFoundPast s.inputs s.regs (name_text sc.inputs i) i
  pub vars : (i : ℕ) → i < length sc.vars → IsFoundPast s.vars s.regs (name_text sc.vars i) i × IsFoundPast s.vars s.inputs (name_text sc.vars i) i

abbrev pub AreSmall : List ℕ → Type 0
AreSmall ns = AllByRecursion (λ n. n ≤ 128) ns

-- the expression names what is in scope, has as many operands as its operators take, and no large number
abbrev pub IsPrintable : Scope → Tree → Type 0
IsPrintable sc (value w n) = (w ≤ 128) × (n < 2 ^ 128)
IsPrintable sc (reg i) = i < length sc.regs
IsPrintable sc (input i) = i < length sc.inputs
IsPrintable sc (var i) = i < length sc.vars
IsPrintable sc (apply1 op a) = (arity_of op ≡ 1) × AreSmall (operator_numbers op) × IsPrintable sc a
IsPrintable sc (apply2 op a b) = (arity_of op ≡ 2) × AreSmall (operator_numbers op) × IsPrintable sc a × IsPrintable sc b
IsPrintable sc (apply3 op a b c) = (arity_of op ≡ 3) × AreSmall (operator_numbers op) × IsPrintable sc a × IsPrintable sc b × IsPrintable sc c

-- ---- tokens

abbrev pub operator_tokens : Op → Tokens
operator_tokens op = operator_word op ∷ map decimal (operator_numbers op)

abbrev pub expr_tokens : Scope → Tree → Tokens
expr_tokens sc (value w n) = constant_text w n ∷ []
expr_tokens sc (reg i) = name_text sc.regs i ∷ []
expr_tokens sc (input i) = name_text sc.inputs i ∷ []
expr_tokens sc (var i) = name_text sc.vars i ∷ []
expr_tokens sc (apply1 op a) = codes "(" ∷ (operator_tokens op ++ (expr_tokens sc a ++ codes ")" ∷ []))
expr_tokens sc (apply2 op a b) = codes "(" ∷ (operator_tokens op ++ (expr_tokens sc a ++ (expr_tokens sc b ++ codes ")" ∷ [])))
expr_tokens sc (apply3 op a b c) = codes "(" ∷ (operator_tokens op ++ (expr_tokens sc a ++ (expr_tokens sc b ++ (expr_tokens sc c ++ codes ")" ∷ []))))

-- ---- one token

-- a token that spells an atom
pub record IsAtom (s : Positions) (e : Tree) (t : List ℕ) : Type 0 where
  pub reads : atom_of s t ≡ Some e
  pub word : IsWord t
  pub short : length t ≤ 38

name_atom : (s : Positions) (t : List ℕ) (n : Name) (e : Tree) → name_of t ≡ Some n → named s n ≡ e → IsAtom s e t
unfolding atom_of
name_atom s t n e spelled is =
    let w = name_word t n spelled in
    record {
      reads = ap (named_or s (constant_of t)) spelled ∙ ap (λ (x : Tree). Some x) is;
      word = w.0;
      short = omega (arith, w.1);
    }

reg_atom : (s : Positions) (sc : Scope) → AreFound s sc → (i : ℕ) → i < length sc.regs → IsAtom s (reg i) (name_text sc.regs i)
unfolding named
reg_atom s sc h i lt =
    let f = h.regs i lt in
    name_atom s (name_text sc.regs i) f.name (reg i) f.spelled (rw f.place refl)

same_found : (p q r : Name → Option ℕ) (t : List ℕ) (i : ℕ) → (f : IsFoundPast p q t i) (g : IsFoundPast p r t i) → f.found.name ≡ g.found.name
same_found p q r t i f g = let e : Some f.found.name ≡ Some g.found.name = sym f.found.spelled ∙ g.found.spelled in cc

input_atom : (s : Positions) (sc : Scope) → AreFound s sc → (i : ℕ) → i < length sc.inputs → IsAtom s (input i) (name_text sc.inputs i)
unfolding named
input_atom s sc h i lt =
    let f = h.inputs i lt in
    name_atom s (name_text sc.inputs i) f.found.name (input i) f.found.spelled (rw (f.past, f.found.place) refl)

var_atom : (s : Positions) (sc : Scope) → AreFound s sc → (i : ℕ) → i < length sc.vars → IsAtom s (var i) (name_text sc.vars i)
unfolding named
var_atom s sc h i lt =
    let f = (h.vars i lt).0 in
    let g = (h.vars i lt).1 in
    let none : s.inputs f.found.name ≡ None = ap s.inputs (same_found s.vars s.regs s.inputs (name_text sc.vars i) i f g) ∙ g.past in
    name_atom s (name_text sc.vars i) f.found.name (var i) f.found.spelled (rw (f.past, none, f.found.place) refl)

length-small-le : (n : ℕ) → n ≤ 128 → length (decimal n) ≤ 3
length-small-le n le = numeral_le 10 3 n (omega arith) (omega arith) (let k : 128 < 10 ^ 3 = lit≤ tt in omega arith)

constant_atom : (s : Positions) (w n : ℕ) → w ≤ 128 → n < 2 ^ 128 → IsAtom s (value w n) (constant_text w n)
unfolding atom_of
constant_atom s w n le lt = record {
  reads = ap (named_or s (constant_of (constant_text w n))) (constant_no_name w n) ∙ constant_again w n (let most : 128 < 2 ^ 32 = lit≤ tt in omega arith) lt;
  word = IsWord-constant w n;
  short = omega (arith, length-append (decimal w) (58 ∷ hex n), length-small-le w le, length-hex-le n lt);
}

-- ---- operators

word_plain : (op : Op) (k : ℕ) → arity_of op ≡ suc k → IsWord (operator_word op) × (length (operator_word op) ≤ 6)
word_plain (Const v) k h = absurd (omega arith)
word_plain Not k h = (record { some = omega arith; plain = refl }, omega arith)
word_plain And k h = (record { some = omega arith; plain = refl }, omega arith)
word_plain Or k h = (record { some = omega arith; plain = refl }, omega arith)
word_plain Xor k h = (record { some = omega arith; plain = refl }, omega arith)
word_plain Add k h = (record { some = omega arith; plain = refl }, omega arith)
word_plain Sub k h = (record { some = omega arith; plain = refl }, omega arith)
word_plain (Slice hi lo) k h = (record { some = omega arith; plain = refl }, omega arith)
word_plain Concat k h = (record { some = omega arith; plain = refl }, omega arith)
word_plain (SignExt to) k h = (record { some = omega arith; plain = refl }, omega arith)
word_plain (Shl by) k h = (record { some = omega arith; plain = refl }, omega arith)
word_plain (Shr by) k h = (record { some = omega arith; plain = refl }, omega arith)
word_plain Eq k h = (record { some = omega arith; plain = refl }, omega arith)
word_plain Ltu k h = (record { some = omega arith; plain = refl }, omega arith)
word_plain Ite k h = (record { some = omega arith; plain = refl }, omega arith)

numbers_next : (ns : List ℕ) → AreNext (map decimal ns) (map decimal ns)
numbers_next [] = no_piece
numbers_next (n ∷ ns) = one_piece (decimal n) (decimal n ∷ []) (map decimal ns) (map decimal ns) (word_piece (decimal n) (IsWord-decimal n)) (numbers_next ns)

operator_piece : (op : Op) (k : ℕ) → arity_of op ≡ suc k → IsPiece (operator_text op) (operator_tokens op)
operator_piece op k h =
    body_piece (operator_word op) (operator_word op ∷ []) (map decimal (operator_numbers op)) (map decimal (operator_numbers op)) (word_piece (operator_word op) (word_plain op k h).0) (numbers_next (operator_numbers op))

fits_32 : (n : ℕ) → n ≤ 128 → n < 2 ^ 32
fits_32 n le = let most : 128 < 2 ^ 32 = lit≤ tt in omega arith

counted_again : (word : List ℕ) (n : ℕ) → n ≤ 128 → SpellsCounted word n (word ∷ decimal n ∷ [])
counted_again word n le = (decimal n, small_decimal n (fits_32 n le), refl)

operator_spelled : (op : Op) (k : ℕ) → arity_of op ≡ suc k → AreSmall (operator_numbers op) → SpellsOperator op (operator_tokens op)
operator_spelled (Const v) k h small = absurd (omega arith)
operator_spelled Not k h small = refl
operator_spelled And k h small = refl
operator_spelled Or k h small = refl
operator_spelled Xor k h small = refl
operator_spelled Add k h small = refl
operator_spelled Sub k h small = refl
operator_spelled (Slice hi lo) k h small = (decimal hi, decimal lo, small_decimal hi (fits_32 hi small.0), small_decimal lo (fits_32 lo small.1.0), refl)
operator_spelled Concat k h small = refl
operator_spelled (SignExt to) k h small = counted_again (codes "sext") to small.0
operator_spelled (Shl by) k h small = counted_again (codes "shl") by small.0
operator_spelled (Shr by) k h small = counted_again (codes "shr") by small.0
operator_spelled Eq k h small = refl
operator_spelled Ltu k h small = refl
operator_spelled Ite k h small = refl

-- ---- the tokens spell the expression

pub expr_spelled : (s : Positions) (sc : Scope) → AreFound s sc → (e : Tree) → IsPrintable sc e → Spells s e (expr_tokens sc e)
unfolding Spells
expr_spelled s sc h (value w n) c = (constant_text w n, (constant_atom s w n c.0 c.1).reads, refl)
expr_spelled s sc h (reg i) c = (name_text sc.regs i, (reg_atom s sc h i c).reads, refl)
expr_spelled s sc h (input i) c = (name_text sc.inputs i, (input_atom s sc h i c).reads, refl)
expr_spelled s sc h (var i) c = (name_text sc.vars i, (var_atom s sc h i c).reads, refl)
expr_spelled s sc h (apply1 op a) c = (operator_tokens op, expr_tokens sc a, c.0, operator_spelled op 0 c.0 c.1, expr_spelled s sc h a c.2, refl)
expr_spelled s sc h (apply2 op a b) c = (operator_tokens op, expr_tokens sc a, expr_tokens sc b, c.0, operator_spelled op 1 c.0 c.1, expr_spelled s sc h a c.2, expr_spelled s sc h b c.3, refl)
expr_spelled s sc h (apply3 op a b d) c = (operator_tokens op, expr_tokens sc a, expr_tokens sc b, expr_tokens sc d, c.0, operator_spelled op 2 c.0 c.1, expr_spelled s sc h a c.2, expr_spelled s sc h b c.3, expr_spelled s sc h d c.4, refl)

-- ---- the text is a piece

inner_one : (os us : Tokens) → (os ++ (us ++ [])) ++ codes ")" ∷ [] ≡ os ++ (us ++ codes ")" ∷ [])
inner_one os us = grind (arith, append_assoc, append-nil)

inner_two : (os us vs : Tokens) → (os ++ (us ++ (vs ++ []))) ++ codes ")" ∷ [] ≡ os ++ (us ++ (vs ++ codes ")" ∷ []))
inner_two os us vs = grind (arith, append_assoc, append-nil)

inner_three : (os us vs ws : Tokens) → (os ++ (us ++ (vs ++ (ws ++ [])))) ++ codes ")" ∷ [] ≡ os ++ (us ++ (vs ++ (ws ++ codes ")" ∷ [])))
inner_three os us vs ws = grind (arith, append_assoc, append-nil)

abbrev opened : Tokens → Tokens
opened ts = codes "(" ∷ ts

pub expr_piece : (s : Positions) (sc : Scope) → AreFound s sc → (e : Tree) → IsPrintable sc e → IsPiece (expr_text sc e) (expr_tokens sc e)
unfolding expr_text
expr_piece s sc h (value w n) c = word_piece (constant_text w n) (IsWord-constant w n)
expr_piece s sc h (reg i) c = word_piece (name_text sc.regs i) (reg_atom s sc h i c).word
expr_piece s sc h (input i) c = word_piece (name_text sc.inputs i) (input_atom s sc h i c).word
expr_piece s sc h (var i) c = word_piece (name_text sc.vars i) (var_atom s sc h i c).word
expr_piece s sc h (apply1 op a) c =
    let ta = expr_text sc a in
    let us = expr_tokens sc a in
    let next : AreNext (ta ∷ []) (us ++ []) = one_piece ta us [] [] (expr_piece s sc h a c.2) no_piece in
    let lone = paren_piece _ _ (body_piece (operator_text op) (operator_tokens op) (ta ∷ []) (us ++ []) (operator_piece op 0 c.0) next) in
    subst (λ (ts : Tokens). IsPiece (in_parens (operator_text op ∷ ta ∷ [])) (opened ts)) (inner_one (operator_tokens op) us) lone
expr_piece s sc h (apply2 op a b) c =
    let ta = expr_text sc a in
    let tb = expr_text sc b in
    let us = expr_tokens sc a in
    let vs = expr_tokens sc b in
    let last : AreNext (tb ∷ []) (vs ++ []) = one_piece tb vs [] [] (expr_piece s sc h b c.3) no_piece in
    let next : AreNext (ta ∷ tb ∷ []) (us ++ (vs ++ [])) = one_piece ta us (tb ∷ []) (vs ++ []) (expr_piece s sc h a c.2) last in
    let lone = paren_piece _ _ (body_piece (operator_text op) (operator_tokens op) (ta ∷ tb ∷ []) (us ++ (vs ++ [])) (operator_piece op 1 c.0) next) in
    subst (λ (ts : Tokens). IsPiece (in_parens (operator_text op ∷ ta ∷ tb ∷ [])) (opened ts)) (inner_two (operator_tokens op) us vs) lone
expr_piece s sc h (apply3 op a b d) c =
    let ta = expr_text sc a in
    let tb = expr_text sc b in
    let td = expr_text sc d in
    let us = expr_tokens sc a in
    let vs = expr_tokens sc b in
    let ws = expr_tokens sc d in
    let last : AreNext (td ∷ []) (ws ++ []) = one_piece td ws [] [] (expr_piece s sc h d c.4) no_piece in
    let middle : AreNext (tb ∷ td ∷ []) (vs ++ (ws ++ [])) = one_piece tb vs (td ∷ []) (ws ++ []) (expr_piece s sc h b c.3) last in
    let next : AreNext (ta ∷ tb ∷ td ∷ []) (us ++ (vs ++ (ws ++ []))) = one_piece ta us (tb ∷ td ∷ []) (vs ++ (ws ++ [])) (expr_piece s sc h a c.2) middle in
    let lone = paren_piece _ _ (body_piece (operator_text op) (operator_tokens op) (ta ∷ tb ∷ td ∷ []) (us ++ (vs ++ (ws ++ []))) (operator_piece op 2 c.0) next) in
    subst (λ (ts : Tokens). IsPiece (in_parens (operator_text op ∷ ta ∷ tb ∷ td ∷ [])) (opened ts)) (inner_three (operator_tokens op) us vs ws) lone

-- ---- how long it is

numbers_short : (ns : List ℕ) → AreSmall ns → length (spaced (map decimal ns)) ≤ 4 * length ns
numbers_short [] h = omega arith
numbers_short (n ∷ ns) h = omega (arith, length-append (decimal n) (spaced (map decimal ns)), length-small-le n h.0, numbers_short ns h.1)

few_numbers : (op : Op) → length (operator_numbers op) ≤ 2
few_numbers (Const v) = omega arith
few_numbers Not = omega arith
few_numbers And = omega arith
few_numbers Or = omega arith
few_numbers Xor = omega arith
few_numbers Add = omega arith
few_numbers Sub = omega arith
few_numbers (Slice hi lo) = omega arith
few_numbers Concat = omega arith
few_numbers (SignExt to) = omega arith
few_numbers (Shl by) = omega arith
few_numbers (Shr by) = omega arith
few_numbers Eq = omega arith
few_numbers Ltu = omega arith
few_numbers Ite = omega arith

operator_short : (op : Op) (k : ℕ) → arity_of op ≡ suc k → AreSmall (operator_numbers op) → length (operator_text op) ≤ 14
operator_short op k h small =
    omega (arith, length-append (operator_word op) (spaced (map decimal (operator_numbers op))), (word_plain op k h).1, numbers_short (operator_numbers op) small, few_numbers op)

parens_length : (op : List ℕ) (ps : List (List ℕ)) → length (in_parens (op ∷ ps)) ≡ length op + length (spaced ps) + 2
parens_length op ps = omega (arith, length-append (op ++ spaced ps) (41 ∷ []), length-append op (spaced ps))

next_length : (p : List ℕ) (ps : List (List ℕ)) → length (spaced (p ∷ ps)) ≡ 1 + length p + length (spaced ps)
next_length p ps = omega (arith, length-append p (spaced ps))

pub expr_short : (s : Positions) (sc : Scope) → AreFound s sc → (e : Tree) → IsPrintable sc e → length (expr_text sc e) ≤ 38 + 95 * operators e
unfolding expr_text
expr_short s sc h (value w n) c = let a = constant_atom s w n c.0 c.1 in omega (arith, a.short)
expr_short s sc h (reg i) c = let a = reg_atom s sc h i c in omega (arith, a.short)
expr_short s sc h (input i) c = let a = input_atom s sc h i c in omega (arith, a.short)
expr_short s sc h (var i) c = let a = var_atom s sc h i c in omega (arith, a.short)
expr_short s sc h (apply1 op a) c =
    let ta = expr_text sc a in
    omega (arith, parens_length (operator_text op) (ta ∷ []), next_length ta [], operator_short op 0 c.0 c.1, expr_short s sc h a c.2)
expr_short s sc h (apply2 op a b) c =
    let ta = expr_text sc a in
    let tb = expr_text sc b in
    omega (arith, parens_length (operator_text op) (ta ∷ tb ∷ []), next_length ta (tb ∷ []), next_length tb [], operator_short op 1 c.0 c.1, expr_short s sc h a c.2, expr_short s sc h b c.3)
expr_short s sc h (apply3 op a b d) c =
    let ta = expr_text sc a in
    let tb = expr_text sc b in
    let td = expr_text sc d in
    omega (arith, parens_length (operator_text op) (ta ∷ tb ∷ td ∷ []), next_length ta (tb ∷ td ∷ []), next_length tb (td ∷ []), next_length td [], operator_short op 2 c.0 c.1, expr_short s sc h a c.2, expr_short s sc h b c.3, expr_short s sc h d c.4)

-- ---- how deep it is

not_paren : (b : ℕ) (t : List ℕ) → all_plain (b ∷ []) ≡ false → IsWord t → bytes_eq t (b ∷ []) ≡ false
not_paren b t other h =
    elim (cases_Bool (bytes_eq t (b ∷ []))) [
      | inl is ↦
          let same : t ≡ b ∷ [] = (bytes_eq-Decides t (b ∷ [])).0 is in
          absurd (false≢true (sym other ∙ ap all_plain (sym same) ∙ h.plain))
      | inr isnt ↦ isnt
    ]

word_level : (n : ℕ) (t : List ℕ) → IsWord t → unclosed n t ≡ n
word_level n t h =
    cond-false (bytes_eq t (codes "(")) (n + 1) _ (not_paren 40 t refl h) ∙ cond-false (bytes_eq t (codes ")")) (n - 1) n (not_paren 41 t refl h)

level_step : (most n m : ℕ) (t : List ℕ) (rest : Tokens) → unclosed n t ≡ m → m ≤ most → opens_above most n (t ∷ rest) ≡ opens_above most m rest
unfolding opens_above
level_step most n m t rest e le =
    ap (λ (k : ℕ). ltb most k || opens_above most k rest) e ∙ ap (λ (b : Bool). b || opens_above most m rest) (le-ltb most m le)

pub word_passes : (most n : ℕ) (t : List ℕ) (rest : Tokens) → IsWord t → n ≤ most → opens_above most n (t ∷ rest) ≡ opens_above most n rest
word_passes most n t rest h le = level_step most n n t rest (word_level n t h) le

numbers_pass : (most n : ℕ) (ns : List ℕ) (rest : Tokens) → n ≤ most → opens_above most n (map decimal ns ++ rest) ≡ opens_above most n rest
numbers_pass most n [] rest le = refl
numbers_pass most n (k ∷ ns) rest le = word_passes most n (decimal k) (map decimal ns ++ rest) (IsWord-decimal k) le ∙ numbers_pass most n ns rest le

operator_passes : (most n : ℕ) (op : Op) (k : ℕ) (rest : Tokens) → arity_of op ≡ suc k → n ≤ most → opens_above most n (operator_tokens op ++ rest) ≡ opens_above most n rest
operator_passes most n op k rest h le =
    word_passes most n (operator_word op) (map decimal (operator_numbers op) ++ rest) (word_plain op k h).0 le ∙ numbers_pass most n (operator_numbers op) rest le

opens_here : (most n : ℕ) (rest : Tokens) → n + 1 ≤ most → opens_above most n (codes "(" ∷ rest) ≡ opens_above most (n + 1) rest
opens_here most n rest le = level_step most n (n + 1) (codes "(") rest refl le

closes_here : (most n : ℕ) (rest : Tokens) → n ≤ most → opens_above most (n + 1) (codes ")" ∷ rest) ≡ opens_above most n rest
closes_here most n rest le = level_step most (n + 1) n (codes ")") rest (let e : n + 1 - 1 ≡ n = omega arith in e) le

pub expr_passes : (s : Positions) (sc : Scope) → AreFound s sc → (e : Tree) → IsPrintable sc e → (most n : ℕ) (rest : Tokens) → n + depth e ≤ most → opens_above most n (expr_tokens sc e ++ rest) ≡ opens_above most n rest
expr_passes s sc h (value w n) c most m rest le = word_passes most m (constant_text w n) rest (IsWord-constant w n) (omega arith)
expr_passes s sc h (reg i) c most m rest le = word_passes most m (name_text sc.regs i) rest (reg_atom s sc h i c).word (omega arith)
expr_passes s sc h (input i) c most m rest le = word_passes most m (name_text sc.inputs i) rest (input_atom s sc h i c).word (omega arith)
expr_passes s sc h (var i) c most m rest le = word_passes most m (name_text sc.vars i) rest (var_atom s sc h i c).word (omega arith)
expr_passes s sc h (apply1 op a) c most m rest le =
    let os = operator_tokens op in
    let us = expr_tokens sc a in
    let grouped : (os ++ (us ++ codes ")" ∷ [])) ++ rest ≡ os ++ (us ++ codes ")" ∷ rest) = append_assoc os _ rest ∙ ap (λ (xs : Tokens). os ++ xs) (append_assoc us _ rest) in
    ap (λ (xs : Tokens). opens_above most m (codes "(" ∷ xs)) grouped
    ∙ opens_here most m _ (omega arith)
    ∙ operator_passes most (m + 1) op 0 _ c.0 (omega arith)
    ∙ expr_passes s sc h a c.2 most (m + 1) _ (omega arith)
    ∙ closes_here most m rest (omega arith)
expr_passes s sc h (apply2 op a b) c most m rest le =
    let os = operator_tokens op in
    let us = expr_tokens sc a in
    let vs = expr_tokens sc b in
    let grouped : (os ++ (us ++ (vs ++ codes ")" ∷ []))) ++ rest ≡ os ++ (us ++ (vs ++ codes ")" ∷ rest)) = append_assoc os _ rest ∙ ap (λ (xs : Tokens). os ++ xs) (append_assoc us _ rest ∙ ap (λ (xs : Tokens). us ++ xs) (append_assoc vs _ rest)) in
    ap (λ (xs : Tokens). opens_above most m (codes "(" ∷ xs)) grouped
    ∙ opens_here most m _ (omega arith)
    ∙ operator_passes most (m + 1) op 1 _ c.0 (omega arith)
    ∙ expr_passes s sc h a c.2 most (m + 1) _ (omega arith)
    ∙ expr_passes s sc h b c.3 most (m + 1) _ (omega arith)
    ∙ closes_here most m rest (omega arith)
expr_passes s sc h (apply3 op a b d) c most m rest le =
    let os = operator_tokens op in
    let us = expr_tokens sc a in
    let vs = expr_tokens sc b in
    let ws = expr_tokens sc d in
    let grouped : (os ++ (us ++ (vs ++ (ws ++ codes ")" ∷ [])))) ++ rest ≡ os ++ (us ++ (vs ++ (ws ++ codes ")" ∷ rest))) = append_assoc os _ rest ∙ ap (λ (xs : Tokens). os ++ xs) (append_assoc us _ rest ∙ ap (λ (xs : Tokens). us ++ xs) (append_assoc vs _ rest ∙ ap (λ (xs : Tokens). vs ++ xs) (append_assoc ws _ rest))) in
    ap (λ (xs : Tokens). opens_above most m (codes "(" ∷ xs)) grouped
    ∙ opens_here most m _ (omega arith)
    ∙ operator_passes most (m + 1) op 2 _ c.0 (omega arith)
    ∙ expr_passes s sc h a c.2 most (m + 1) _ (omega arith)
    ∙ expr_passes s sc h b c.3 most (m + 1) _ (omega arith)
    ∙ expr_passes s sc h d c.4 most (m + 1) _ (omega arith)
    ∙ closes_here most m rest (omega arith)
