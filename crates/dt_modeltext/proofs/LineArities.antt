-- Each operator that is read has as many operands as it takes, and each declared name is one that a token spells.
use Rattle.std.proofs.Common.{◌≡◌, ℕ, zero, suc, Bool, true, false, eqb, List, [], ◌∷◌, Option, Some, None, refl}
use Rattle.std.specs.Prelude.{IfSome, codes, ⊤}
use Rattle.std.specs.Option.{option_map, option_map_or}
use Rattle.std.specs.Str.{bytes_eq}
use Rattle.std.proofs.lemmas.Bool.{eqb-true}
use Rattle.dt_lemmas.proofs.Options.{at_some, mapped_some, chosen_some}
use Rattle.dt_bits.specs.declared.op.Op.{Op}
use Rattle.dt_bits.specs.Ops.{arity_of}
use Rattle.dt_lex.specs.declared.name.Name.{Name}
use Rattle.dt_lex.specs.Names.{name_of, IsName}
use Rattle.dt_lex.specs.Numeral.{number_of}
use Rattle.dt_lex.specs.Frame.{is_alone, given, Front, ◌>>=◌, first_by, name_at, lone}
use Rattle.dt_lex.proofs.Padded.{name_of_again}
use Rattle.std.specs.List.{before_first, after_first}
use Rattle.dt_model.specs.declared.model.Named.{Named}
use Rattle.dt_model.specs.ModelData.{Tree, NodeData, reg, input, var, apply1, apply2, apply3}
use Rattle.dt_model.specs.Limits.{most_depth}
use Rattle.dt_model.specs.Widths.{HasArities}
use Rattle.dt_model.specs.Faults.{StepArities}
use Rattle.dt_modeltext.specs.Expr.{Positions, decimal_of, is_colon, unknown, small_at, named, named_or, atom_of, constant_of, closed, closing, is_open, operator_at, one_at, two_at, three_at, operands_at, applied_at, level, expr_at}
use Rattle.dt_modeltext.specs.Act.{targets_at, let_at, read_at, branch_at, fault_at, done_at, act_at}
use Rattle.dt_modeltext.specs.Line.{LineData, header, word, address, new_reg, new_input, new_var, context_rule, access_rule, new_node, ended, alone, named_at, node_at, plain_line, rule_of, spelled}
use Rattle.dt_lex.proofs.Fronts.{given_some}

abbrev Tokens : Type 0
Tokens = List (List ℕ)

-- ---- what may fail

pub bound : {A B : Type 0} (P : B → Type 0) (r : Option A) (f : A → Option B) → ((a : A) → r ≡ Some a → IfSome (f a) P) → IfSome (r >>= f) P
bound P None f h = tt
bound P (Some a) f h = h a refl

-- ---- expressions

abbrev Whole : Tree × Tokens → Type 0
Whole x = HasArities x.0

abbrev IsSound : (Tokens → Front Tree) → Type 0
IsSound part = (ts : Tokens) (x : Tree × Tokens) → part ts ≡ Some x → HasArities x.0

or_arities : (f : ℕ → Tree) → ((i : ℕ) → HasArities (f i)) → (o : Option ℕ) (t : Tree) → HasArities t → HasArities (option_map_or f o t)
or_arities f h None t k = k
or_arities f h (Some i) t k = h i

named_arities : (s : Positions) (n : Name) → HasArities (named s n)
unfolding named
named_arities s n =
    or_arities (λ i. reg i) (λ i. tt) (s.regs n) _ (or_arities (λ i. input i) (λ i. tt) (s.inputs n) _ (or_arities (λ i. var i) (λ i. tt) (s.vars n) (reg unknown) tt))

constant_arities : (t : List ℕ) → IfSome (constant_of t) HasArities
unfolding constant_of
constant_arities t = bound HasArities (decimal_of (before_first is_colon t)) _ (λ w _. bound HasArities (number_of (after_first is_colon t)) _ (λ n _. tt))

either_arities : (s : Positions) (other : Option Tree) (o : Option Name) → IfSome other HasArities → IfSome (named_or s other o) HasArities
either_arities s other None h = h
either_arities s other (Some n) h = named_arities s n

atom_arities : (s : Positions) (t : List ℕ) → IfSome (atom_of s t) HasArities
unfolding atom_of
atom_arities s t = either_arities s (constant_of t) (name_of t) (constant_arities t)

first_arities : (s : Positions) (ts : Tokens) → IfSome (first_by (atom_of s) ts) Whole
first_arities s [] = tt
first_arities s (t ∷ ts) = mapped_some Whole (λ x. (x, ts)) (atom_of s t) (λ x is. at_some HasArities (atom_of s t) x (atom_arities s t) is)

closed_arities : (e : Tree) (ts : Tokens) → HasArities e → IfSome (closed e ts) Whole
closed_arities e ts h = bound Whole (closing ts) _ (λ us _. h)

one_arities : (part : Tokens → Front Tree) → IsSound part → (op : Op) (ts : Tokens) → arity_of op ≡ 1 → IfSome (one_at part op ts) Whole
unfolding one_at
one_arities part sound op ts e =
    bound Whole (part ts) _ (λ a is. closed_arities (apply1 op a.0) a.1 (e, sound ts a is))

two_arities : (part : Tokens → Front Tree) → IsSound part → (op : Op) (ts : Tokens) → arity_of op ≡ 2 → IfSome (two_at part op ts) Whole
unfolding two_at
two_arities part sound op ts e =
    bound Whole (part ts) _ (λ a is. bound Whole (part a.1) _ (λ b js. closed_arities (apply2 op a.0 b.0) b.1 (e, sound ts a is, sound a.1 b js)))

three_arities : (part : Tokens → Front Tree) → IsSound part → (op : Op) (ts : Tokens) → arity_of op ≡ 3 → IfSome (three_at part op ts) Whole
unfolding three_at
three_arities part sound op ts e =
    bound Whole (part ts) _ (λ a is. bound Whole (part a.1) _ (λ b js. bound Whole (part b.1) _ (λ c ks. closed_arities (apply3 op a.0 b.0 c.0) c.1 (e, sound ts a is, sound a.1 b js, sound b.1 c ks))))

operands_arities : (part : Tokens → Front Tree) → IsSound part → (op : Op) (ts : Tokens) → IfSome (operands_at part op ts) Whole
unfolding operands_at
operands_arities part sound op ts =
    chosen_some Whole (eqb (arity_of op) 1) _ _
    (λ h. one_arities part sound op ts (eqb-true (arity_of op) 1 h))
    (λ _. chosen_some Whole (eqb (arity_of op) 2) _ _
    (λ h. two_arities part sound op ts (eqb-true (arity_of op) 2 h))
    (λ _. chosen_some Whole (eqb (arity_of op) 3) _ _ (λ h. three_arities part sound op ts (eqb-true (arity_of op) 3 h)) (λ _. tt)))

applied_arities : (part : Tokens → Front Tree) → IsSound part → (ts : Tokens) → IfSome (applied_at part ts) Whole
unfolding applied_at
applied_arities part sound ts = bound Whole (operator_at ts) _ (λ op _. operands_arities part sound op.0 op.1)

level_arities : (s : Positions) (part : Tokens → Front Tree) → IsSound part → (ts : Tokens) → IfSome (level s part ts) Whole
unfolding level
level_arities s part sound [] = tt
level_arities s part sound (t ∷ ts) =
    chosen_some Whole (is_open t) (applied_at part ts) (first_by (atom_of s) (t ∷ ts)) (λ _. applied_arities part sound ts) (λ _. first_arities s (t ∷ ts))

pub expr_arities : (s : Positions) (depth : ℕ) → IsSound (expr_at s depth)
unfolding expr_at
expr_arities s zero ts x h = at_some Whole (first_by (atom_of s) ts) x (first_arities s ts) h
expr_arities s (suc depth) ts x h = at_some Whole (level s (expr_at s depth) ts) x (level_arities s (expr_at s depth) (expr_arities s depth) ts) h

-- ---- nodes

let_arities : (s : Positions) (ts : Tokens) → IfSome (let_at s ts) (λ x. StepArities x.0)
unfolding let_at
let_arities s ts =
    bound _ (name_at ts) _ (λ v _. bound _ (expr_at s most_depth v.1) _ (λ e is. bound _ (name_at e.1) _ (λ n _. expr_arities s most_depth v.1 e is)))

read_arities : (s : Positions) (ts : Tokens) → IfSome (read_at s ts) (λ x. StepArities x.0)
unfolding read_at
read_arities s ts =
    bound _ (name_at ts) _ (λ v _. bound _ (expr_at s most_depth v.1) _ (λ e is. bound _ (small_at e.1) _ (λ g _. bound _ (targets_at s g.1) _ (λ to _. expr_arities s most_depth v.1 e is))))

branch_arities : (s : Positions) (ts : Tokens) → IfSome (branch_at s ts) (λ x. StepArities x.0)
unfolding branch_at
branch_arities s ts =
    bound _ (expr_at s most_depth ts) _ (λ e is. bound _ (targets_at s e.1) _ (λ to _. expr_arities s most_depth ts e is))

fault_arities : (ts : Tokens) → IfSome (fault_at ts) (λ x. StepArities x.0)
unfolding fault_at
fault_arities ts = bound _ (small_at ts) _ (λ c _. tt)

done_arities : (s : Positions) (ts : Tokens) → IfSome (done_at s ts) (λ x. StepArities x.0)
unfolding done_at
done_arities s ts =
    bound _ (expr_at s most_depth ts) _ (λ e is. bound _ (small_at e.1) _ (λ p _. expr_arities s most_depth ts e is))

step_arities : (s : Positions) (ts : Tokens) → IfSome (act_at s ts) (λ x. StepArities x.0)
unfolding act_at
step_arities s [] = tt
step_arities s (t ∷ ts) =
    chosen_some _ (bytes_eq t (codes "let")) _ _ (λ _. let_arities s ts)
    (λ _. chosen_some _ (bytes_eq t (codes "read")) _ _ (λ _. read_arities s ts)
    (λ _. chosen_some _ (bytes_eq t (codes "if")) _ _ (λ _. branch_arities s ts)
    (λ _. chosen_some _ (bytes_eq t (codes "fault")) _ _ (λ _. fault_arities ts)
    (λ _. chosen_some _ (bytes_eq t (codes "done")) _ _ (λ _. done_arities s ts) (λ _. tt)))))

first_spelled : (ts : Tokens) → IfSome (name_at ts) (λ x. IsName x.0)
first_spelled [] = tt
first_spelled (t ∷ ts) = mapped_some (λ x. IsName x.0) (λ n. (n, ts)) (name_of t) (λ n is. name_of_again t n is)

abbrev SpotSound : NodeData → Type 0
SpotSound n = IsName n.name × StepArities n.step

node_arities : (s : Positions) (ts : Tokens) → IfSome (node_at s ts) (λ x. SpotSound x.0)
unfolding node_at
node_arities s ts =
    bound _ (name_at ts) _ (λ n at. bound _ (act_at s n.1) _ (λ a is. (at_some (λ x. IsName x.0) (name_at ts) n (first_spelled ts) at, at_some (λ x. StepArities x.0) (act_at s n.1) a (step_arities s n.1) is)))

named_spelled : (ts : Tokens) → IfSome (named_at ts) (λ x. IsName x.0.name)
unfolding named_at
named_spelled ts =
    bound _ (name_at ts) _ (λ n at. bound _ (small_at n.1) _ (λ w is. at_some (λ x. IsName x.0) (name_at ts) n (first_spelled ts) at))

-- ---- lines

abbrev pub LineHolds : LineData → Type 0
LineHolds (context_rule e) = HasArities e
LineHolds (access_rule e) = HasArities e
LineHolds (new_node n) = SpotSound n
LineHolds (new_reg n) = IsName n.name
LineHolds (new_input n) = IsName n.name
LineHolds (new_var n) = IsName n.name
LineHolds _ = ⊤

pub alone_is : {X : Type 0} (P : X → Type 0) (x : X) (ts : Tokens) → P x → IfSome (alone x ts) P
alone_is P x [] h = h
alone_is P x (t ∷ ts) h = tt

whole_expr : (s : Positions) (ts : Tokens) → IfSome (lone (expr_at s most_depth ts)) HasArities
whole_expr s ts =
    bound _ (expr_at s most_depth ts) _ (λ x is. alone_is HasArities x.0 x.1 (expr_arities s most_depth ts x is))

rule_arities : (s : Positions) (ts : Tokens) → IfSome (rule_of s ts) LineHolds
unfolding rule_of
rule_arities s [] = tt
rule_arities s (t ∷ ts) =
    chosen_some LineHolds (bytes_eq t (codes "context")) _ _ (λ _. mapped_some LineHolds (λ e. context_rule e) (lone (expr_at s most_depth ts)) (λ e is. at_some HasArities (lone (expr_at s most_depth ts)) e (whole_expr s ts) is))
    (λ _. chosen_some LineHolds (bytes_eq t (codes "access")) _ _ (λ _. mapped_some LineHolds (λ e. access_rule e) (lone (expr_at s most_depth ts)) (λ e is. at_some HasArities (lone (expr_at s most_depth ts)) e (whole_expr s ts) is)) (λ _. tt))

whole_node : (s : Positions) (ts : Tokens) → IfSome (lone (node_at s ts)) SpotSound
whole_node s ts =
    bound _ (node_at s ts) _ (λ x is. alone_is SpotSound x.0 x.1 (at_some (λ y. SpotSound y.0) (node_at s ts) x (node_arities s ts) is))

whole_named : (ts : Tokens) → IfSome (lone (named_at ts)) (λ n. IsName n.name)
whole_named ts =
    bound _ (named_at ts) _ (λ x is. alone_is (λ n. IsName n.name) x.0 x.1 (at_some (λ y. IsName y.0.name) (named_at ts) x (named_spelled ts) is))

named_line : (f : Named → LineData) → ((n : Named) → IsName n.name → LineHolds (f n)) → (ts : Tokens) → IfSome (option_map f (lone (named_at ts))) LineHolds
named_line f h ts = mapped_some LineHolds f (lone (named_at ts)) (λ n is. h n (at_some (λ m. IsName m.name) (lone (named_at ts)) n (whole_named ts) is))

plain_arities : (t : List ℕ) (ts : Tokens) → IfSome (plain_line t ts) LineHolds
unfolding plain_line
plain_arities t ts =
    chosen_some LineHolds (bytes_eq t (codes "model")) _ _ (λ _. given_some LineHolds (is_alone (codes "1") ts) header tt)
    (λ _. chosen_some LineHolds (bytes_eq t (codes "word")) _ _ (λ _. mapped_some LineHolds (λ w. word w) (lone (small_at ts)) (λ _ _. tt))
    (λ _. chosen_some LineHolds (bytes_eq t (codes "address")) _ _ (λ _. mapped_some LineHolds (λ a. address a) (lone (small_at ts)) (λ _ _. tt))
    (λ _. chosen_some LineHolds (bytes_eq t (codes "reg")) _ _ (λ _. named_line (λ n. new_reg n) (λ n h. h) ts)
    (λ _. chosen_some LineHolds (bytes_eq t (codes "input")) _ _ (λ _. named_line (λ n. new_input n) (λ n h. h) ts)
    (λ _. chosen_some LineHolds (bytes_eq t (codes "var")) _ _ (λ _. named_line (λ n. new_var n) (λ n h. h) ts)
    (λ _. chosen_some LineHolds (bytes_eq t (codes "end")) _ _ (λ _. alone_is LineHolds ended ts tt) (λ _. tt)))))))

pub spelled_arities : (s : Positions) (t : List ℕ) (ts : Tokens) → IfSome (spelled s t ts) LineHolds
unfolding spelled
spelled_arities s t ts =
    chosen_some LineHolds (bytes_eq t (codes "legal")) _ _ (λ _. rule_arities s ts)
    (λ _. chosen_some LineHolds (bytes_eq t (codes "node")) _ _ (λ _. mapped_some LineHolds (λ n. new_node n) (lone (node_at s ts)) (λ n is. at_some SpotSound (lone (node_at s ts)) n (whole_node s ts) is)) (λ _. plain_arities t ts))
