-- The tokens that spell an expression, whatever reads them.
use Rattle.std.specs.Prelude.{◌≡◌, ℕ, ◌≤◌, false, List, [], ◌∷◌, ◌++◌, Some, codes}
use Rattle.dt_bits.specs.declared.op.Op.{Op}
use Rattle.dt_bits.specs.declared.op.Op.TheVariants.{Not, And, Or, Xor, Add, Sub, Slice, Concat, SignExt, Shl, Shr, Eq, Ltu, Ite, Const}
use Rattle.dt_bits.specs.Ops.{arity_of}
use Rattle.dt_model.specs.ModelData.{Tree, value, reg, input, var, apply1, apply2, apply3}
use Rattle.dt_model.specs.Widths.{depth}
use Rattle.dt_model.specs.Limits.{most_depth}
use Rattle.dt_modeltext.specs.Depth.{is_too_deep}
use Rattle.dt_modeltext.specs.Expr.{Positions, small_of, atom_of, expr_at}

-- a word and one number
abbrev pub SpellsCounted : List ℕ → ℕ → List (List ℕ) → Type 0
SpellsCounted word n ts = (t : List ℕ) × (small_of t ≡ Some n) × (ts ≡ word ∷ t ∷ [])

-- an operator, with its numbers
abbrev pub SpellsOperator : Op → List (List ℕ) → Type 0
SpellsOperator Not ts = ts ≡ codes "not" ∷ []
SpellsOperator And ts = ts ≡ codes "and" ∷ []
SpellsOperator Or ts = ts ≡ codes "or" ∷ []
SpellsOperator Xor ts = ts ≡ codes "xor" ∷ []
SpellsOperator Add ts = ts ≡ codes "add" ∷ []
SpellsOperator Sub ts = ts ≡ codes "sub" ∷ []
SpellsOperator (Slice hi lo) ts = (h l : List ℕ) × (small_of h ≡ Some hi) × (small_of l ≡ Some lo) × (ts ≡ codes "slice" ∷ h ∷ l ∷ [])
SpellsOperator Concat ts = ts ≡ codes "concat" ∷ []
SpellsOperator (SignExt to) ts = SpellsCounted (codes "sext") to ts
SpellsOperator (Shl by) ts = SpellsCounted (codes "shl") by ts
SpellsOperator (Shr by) ts = SpellsCounted (codes "shr") by ts
SpellsOperator Eq ts = ts ≡ codes "eq" ∷ []
SpellsOperator Ltu ts = ts ≡ codes "ltu" ∷ []
SpellsOperator Ite ts = ts ≡ codes "ite" ∷ []
SpellsOperator (Const bv) ts = ⊥

-- one token, a name or a constant
abbrev pub SpellsAtom : Positions → Tree → List (List ℕ) → Type 0
SpellsAtom s e ts = (t : List ℕ) × (atom_of s t ≡ Some e) × (ts ≡ t ∷ [])

-- an expression of names in scope: one token, or an operator and as many operands as it takes in parentheses
unfoldable pub Spells : Positions → Tree → List (List ℕ) → Type 0
Spells s (value w n) ts = SpellsAtom s (value w n) ts
Spells s (reg i) ts = SpellsAtom s (reg i) ts
Spells s (input i) ts = SpellsAtom s (input i) ts
Spells s (var i) ts = SpellsAtom s (var i) ts
Spells s (apply1 op a) ts = (os us : List (List ℕ)) × (arity_of op ≡ 1) × SpellsOperator op os × Spells s a us × (ts ≡ codes "(" ∷ (os ++ (us ++ codes ")" ∷ [])))
Spells s (apply2 op a b) ts = (os us vs : List (List ℕ)) × (arity_of op ≡ 2) × SpellsOperator op os × Spells s a us × Spells s b vs × (ts ≡ codes "(" ∷ (os ++ (us ++ (vs ++ codes ")" ∷ []))))
Spells s (apply3 op a b c) ts = (os us vs ws : List (List ℕ)) × (arity_of op ≡ 3) × SpellsOperator op os × Spells s a us × Spells s b vs × Spells s c ws × (ts ≡ codes "(" ∷ (os ++ (us ++ (vs ++ (ws ++ codes ")" ∷ [])))))

-- what is read at the front of some tokens is spelled there
abbrev pub ReadsOnlySpelled : Type 0
ReadsOnlySpelled = (s : Positions) (most : ℕ) (ts rest : List (List ℕ)) (e : Tree) → expr_at s most ts ≡ Some (e, rest) → (front : List (List ℕ)) × (ts ≡ front ++ rest) × Spells s e front

-- what is spelled and not too deep is read, whatever follows
abbrev pub ReadsAllSpelled : Type 0
ReadsAllSpelled = (s : Positions) (most : ℕ) (ts rest : List (List ℕ)) (e : Tree) → Spells s e ts → depth e ≤ most → expr_at s most (ts ++ rest) ≡ Some (e, rest)

-- an expression that is spelled in a line which isn't too deep isn't deeper than a model's may be
abbrev pub IsShallowSpelled : Type 0
IsShallowSpelled = (s : Positions) (e : Tree) (before ts after : List (List ℕ)) → Spells s e ts → is_too_deep (before ++ (ts ++ after)) ≡ false → depth e ≤ most_depth
