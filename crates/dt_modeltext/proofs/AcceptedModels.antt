-- An accepted model whose names can be spelled can be printed, and its text is read as the model.
use Rattle.std.proofs.Common.{◌≡◌, ℕ, zero, suc, ◌+◌, ◌-◌, ◌^◌, ◌<◌, ◌≤◌, Bool, true, false, cond, ◌||◌, ltb, leb, List, [], ◌∷◌, ◌++◌, length, take, Option, Some, None, refl, sym, ap, subst, ◌∙◌, ⊎_elim, arith}
use Rattle.std.specs.Prelude.{map, IsSome, IsSomeAnd, slice_get}
use Rattle.std.specs.List.{All, AllByRecursion, list_any}
use Rattle.std.specs.Option.{option_map_or}
use Rattle.std.proofs.lemmas.Bool.{or_parts, and_parts, false_from_ne_true, false≢true, not-false, leb-true, leb-false, ltb-true, ltb-false}
use Rattle.std.proofs.lemmas.List.Folds.{list_any-append}
use Rattle.std.proofs.Math.Pow.{pow_mono}
use Rattle.dt_bits.specs.declared.op.Op.{Op}
use Rattle.dt_bits.specs.declared.op.Op.TheVariants.{Const, Not, And, Or, Xor, Add, Sub, Slice, Concat, SignExt, Shl, Shr, Eq, Ltu, Ite}
use Rattle.dt_bits.specs.Ops.{arity_of, fits_at, width_of}
use Rattle.dt_lex.specs.declared.name.Name.{Name}
use Rattle.dt_lex.specs.Names.{name_of, bytes_of, IsName, same_name}
use Rattle.dt_lex.specs.Text.{lines_of}
use Rattle.dt_model.specs.declared.model.Named.{Named}
use Rattle.dt_model.specs.declared.refusal.ModelRefusal.{ModelRefusal}
use Rattle.dt_model.specs.declared.refusal.ModelRefusal.TheVariants.{NameTwice, UnknownName, WidthMismatch, WidthRange, NoNode, TooMany, TooDeep}
use Rattle.dt_model.specs.declared.refusal.Place.TheVariants.{Reg, Input, Var, LegalContext, LegalAccess, Node}
use Rattle.dt_model.specs.ModelData.{Tree, value, reg, input, var, apply1, apply2, apply3, ActData, bind, read, branch, fault, done, NodeData, ModelData}
use Rattle.dt_model.specs.Widths.{Scope, AreWidths, is_width, is_constant, width_at, fitted, tree_width, out_of_range, has_unknown, has_mismatch, has_bad_range, operators, depth, HasArities}
use Rattle.dt_model.specs.Faults.{IsAccepted, HaveArities, StepArities, RuleBreaks, NodeBreaks, names_of, context_scope, access_scope, node_scope, rule_operators, step_operators, count_of, is_read, is_done, operators_to}
use Rattle.dt_model.specs.Spelled.{HaveNames}
use Rattle.dt_model.proofs.Accepting.{few_regs, few_inputs, few_vars, few_context_rules, few_access_rules, few_nodes, reg_widths, input_widths, var_widths, accepted_word, accepted_address, context_arities, access_arities}
use Rattle.dt_model.proofs.Fitting.{tree_fits}
use Rattle.dt_model.specs.Positions.{position_of}
use Rattle.dt_modeltext.specs.Entry.{declared_positions}
use Rattle.dt_modeltext.specs.Read.{IsModelText}
use Rattle.dt_modeltext.specs.Print.{name_text, node_text, operator_numbers, printed}
use Rattle.dt_lemmas.proofs.Positions.{position_at, position_none}
use Rattle.dt_lemmas.proofs.Lists.{element, all_at, each_has, all_of}
use Rattle.dt_lex.proofs.NameWords.{same_self}
use Rattle.dt_modeltext.proofs.PrintedExprs.{IsFound, IsFoundPast, AreSmall, IsPrintable}
use Rattle.dt_modeltext.proofs.PrintedLines.{AreKnown, IsShort, IsSized, CanAct}
use Rattle.dt_modeltext.proofs.RoundTrip.{CanPrint, printed_short, printed_length, printed_again}
use Rattle.dt_lemmas.proofs.Options.{unbroken}

-- ---- names

reg_fresh : (d : ModelData) (i : ℕ) (n : Named) → IsAccepted d → slice_get d.regs i ≡ Some n → list_any (same_name n.name) (names_of (take i d.regs)) ≡ false
reg_fresh d i n a at = false_from_ne_true _ (unbroken (slice_get d.regs i) n _ at (a (Reg i) NameTwice))

input_fresh : (d : ModelData) (i : ℕ) (n : Named) → IsAccepted d → slice_get d.inputs i ≡ Some n → (list_any (same_name n.name) (names_of d.regs) ≡ false) × (list_any (same_name n.name) (names_of (take i d.inputs)) ≡ false)
input_fresh d i n a at =
    let p = same_name n.name in
    let none : list_any p (names_of d.regs ++ names_of (take i d.inputs)) ≡ false = false_from_ne_true _ (unbroken (slice_get d.inputs i) n _ at (a (Input i) NameTwice)) in
    or_parts (list_any p (names_of d.regs)) (list_any p (names_of (take i d.inputs))) (sym (list_any-append p (names_of d.regs) (names_of (take i d.inputs))) ∙ none)

var_fresh : (d : ModelData) (i : ℕ) (n : Named) → IsAccepted d → slice_get d.vars i ≡ Some n → (list_any (same_name n.name) (names_of d.regs) ≡ false) × (list_any (same_name n.name) (names_of d.inputs) ≡ false) × (list_any (same_name n.name) (names_of (take i d.vars)) ≡ false)
var_fresh d i n a at =
    let p = same_name n.name in
    let front = names_of d.regs ++ names_of d.inputs in
    let none : list_any p (front ++ names_of (take i d.vars)) ≡ false = false_from_ne_true _ (unbroken (slice_get d.vars i) n _ at (a (Var i) NameTwice)) in
    let q = or_parts (list_any p front) (list_any p (names_of (take i d.vars))) (sym (list_any-append p front (names_of (take i d.vars))) ∙ none) in
    let r = or_parts (list_any p (names_of d.regs)) (list_any p (names_of d.inputs)) (sym (list_any-append p (names_of d.regs) (names_of d.inputs)) ∙ q.0) in
    (r.0, r.1, q.1)

node_fresh : (d : ModelData) (i : ℕ) (n : NodeData) → IsAccepted d → slice_get d.nodes i ≡ Some n → list_any (same_name n.name) (map (λ m. m.name) (take i d.nodes)) ≡ false
node_fresh d i n a at = false_from_ne_true _ (unbroken (slice_get d.nodes i) n _ at (a (Node i) NameTwice))

named_found : (ns : List Named) (i : ℕ) (n : Named) → slice_get ns i ≡ Some n → IsName n.name → list_any (same_name n.name) (names_of (take i ns)) ≡ false → IsFound (position_of (names_of ns)) (name_text ns i) i
named_found ns i n at spelled fresh = record {
  name = n.name;
  spelled = ap (λ (o : Option Named). name_of (option_map_or (λ m. bytes_of m.name) o [])) at ∙ spelled;
  place = position_at (λ m. m.name) (same_name n.name) ns i n at fresh (same_self n.name);
}

node_found : (ns : List NodeData) (i : ℕ) (n : NodeData) → slice_get ns i ≡ Some n → IsName n.name → list_any (same_name n.name) (map (λ m. m.name) (take i ns)) ≡ false → IsFound (position_of (map (λ m. m.name) ns)) (node_text ns i) i
node_found ns i n at spelled fresh = record {
  name = n.name;
  spelled = ap (λ (o : Option NodeData). name_of (option_map_or (λ m. bytes_of m.name) o [])) at ∙ spelled;
  place = position_at (λ m. m.name) (same_name n.name) ns i n at fresh (same_self n.name);
}

abbrev NamedIs : Named → Type 0
NamedIs n = IsName n.name

abbrev SpotIs : NodeData → Type 0
SpotIs n = IsName n.name

found_reg : (d : ModelData) → IsAccepted d → HaveNames d → (i : ℕ) → i < length d.regs → IsFound (position_of (names_of d.regs)) (name_text d.regs i) i
found_reg d a h i lt =
    let e = element d.regs i lt in
    named_found d.regs i e.0 e.1 (all_at NamedIs d.regs i e.0 h.regs e.1) (reg_fresh d i e.0 a e.1)

found_input : (d : ModelData) → IsAccepted d → HaveNames d → (i : ℕ) → i < length d.inputs → IsFoundPast (position_of (names_of d.inputs)) (position_of (names_of d.regs)) (name_text d.inputs i) i
unfolding named_found
found_input d a h i lt =
    let e = element d.inputs i lt in
    let fresh = input_fresh d i e.0 a e.1 in
    record {
      found = named_found d.inputs i e.0 e.1 (all_at NamedIs d.inputs i e.0 h.inputs e.1) fresh.1;
      past = position_none (same_name e.0.name) (names_of d.regs) fresh.0;
    }

found_var : (d : ModelData) → IsAccepted d → HaveNames d → (i : ℕ) → i < length d.vars → IsFoundPast (position_of (names_of d.vars)) (position_of (names_of d.regs)) (name_text d.vars i) i × IsFoundPast (position_of (names_of d.vars)) (position_of (names_of d.inputs)) (name_text d.vars i) i
unfolding named_found
found_var d a h i lt =
    let e = element d.vars i lt in
    let fresh = var_fresh d i e.0 a e.1 in
    let found = named_found d.vars i e.0 e.1 (all_at NamedIs d.vars i e.0 h.vars e.1) fresh.2 in
    (record { found = found; past = position_none (same_name e.0.name) (names_of d.regs) fresh.0 }, record { found = found; past = position_none (same_name e.0.name) (names_of d.inputs) fresh.1 })

found_node : (d : ModelData) → IsAccepted d → HaveNames d → (i : ℕ) → i < length d.nodes → IsFound (position_of (map (λ m. m.name) d.nodes)) (node_text d.nodes i) i
found_node d a h i lt =
    let e = element d.nodes i lt in
    node_found d.nodes i e.0 e.1 (all_at SpotIs d.nodes i e.0 h.nodes e.1) (node_fresh d i e.0 a e.1)

all_known : (d : ModelData) → IsAccepted d → HaveNames d → AreKnown (declared_positions (position_of (map (λ n. n.name) d.nodes)) d) d
all_known d a h = record {
  scope = record { regs = found_reg d a h; inputs = found_input d a h; vars = found_var d a h };
  nodes = found_node d a h;
}

all_sized : (ns : List Named) → All NamedIs ns → AreWidths ns → AllByRecursion IsSized ns
all_sized [] h w = tt
all_sized (n ∷ ns) h w = ((h 0 n (omega arith), omega (arith, w.0.1)), all_sized ns (λ k x l. h (suc k) x (omega arith)) w.1)

-- ---- widths are at most 128

abbrev Below : Option ℕ → Type 0
Below None = Unit {0}
Below (Some w) = w ≤ 128

width_below : (op : Op) (a b c k : ℕ) → arity_of op ≡ suc k → a ≤ 128 → b ≤ 128 → fits_at op a b c ≡ true → width_of op a b c ≤ 128
width_below (Const v) a b c k h p q f = absurd (omega arith)
width_below Not a b c k h p q f = p
width_below And a b c k h p q f = p
width_below Or a b c k h p q f = p
width_below Xor a b c k h p q f = p
width_below Add a b c k h p q f = p
width_below Sub a b c k h p q f = p
width_below (Slice hi lo) a b c k h p q f = let r = and_parts (leb lo hi) (ltb hi a) f in let lt : hi < a = ltb-true hi a r.1 in omega arith
width_below Concat a b c k h p q f = leb-true (a + b) 128 f
width_below (SignExt to) a b c k h p q f = leb-true to 128 (and_parts (leb a to) (leb to 128) f).1
width_below (Shl by) a b c k h p q f = p
width_below (Shr by) a b c k h p q f = p
width_below Eq a b c k h p q f = omega arith
width_below Ltu a b c k h p q f = omega arith
width_below Ite a b c k h p q f = q

chosen_below : (b : Bool) (w : ℕ) → (b ≡ true → w ≤ 128) → Below (cond b (Some w) None)
chosen_below true w h = h refl
chosen_below false w h = tt

fitted_below : (op : Op) (k : ℕ) (a b c : Option ℕ) → arity_of op ≡ suc k → Below a → Below b → Below (fitted op a b c)
fitted_below op k (Some a) (Some b) (Some c) h p q = chosen_below (fits_at op a b c) (width_of op a b c) (width_below op a b c k h p q)
fitted_below op k None b c h p q = tt
fitted_below op k (Some a) None c h p q = tt
fitted_below op k (Some a) (Some b) None h p q = tt

named_below : (ns : List Named) (i : ℕ) → AreWidths ns → Below (width_at ns i)
named_below [] i w = tt
named_below (n ∷ ns) zero w = w.0.1
named_below (n ∷ ns) (suc i) w = named_below ns i w.1

record AreSized (s : Scope) : Type 0 where
  regs : AreWidths s.regs
  inputs : AreWidths s.inputs
  vars : AreWidths s.vars

constant_is : (w n : ℕ) → is_constant w n ≡ true → (w ≤ 128) × (n < 2 ^ w)
constant_is w n h =
    let p = and_parts (is_width w) (ltb n (2 ^ w)) h in
    (leb-true w 128 (and_parts (leb 1 w) (leb w 128) p.0).1, ltb-true n (2 ^ w) p.1)

tree_below : (s : Scope) (t : Tree) → AreSized s → HasArities t → Below (tree_width s t)
tree_below s (value w n) z h = chosen_below (is_constant w n) w (λ e. (constant_is w n e).0)
tree_below s (reg i) z h = named_below s.regs i z.regs
tree_below s (input i) z h = named_below s.inputs i z.inputs
tree_below s (var i) z h = named_below s.vars i z.vars
tree_below s (apply1 op a) z h = fitted_below op 0 (tree_width s a) (Some 1) (Some 1) h.0 (tree_below s a z h.1) (omega arith)
tree_below s (apply2 op a b) z h = fitted_below op 1 (tree_width s a) (tree_width s b) (Some 1) h.0 (tree_below s a z h.1) (tree_below s b z h.2)
tree_below s (apply3 op a b c) z h = fitted_below op 2 (tree_width s a) (tree_width s b) (tree_width s c) h.0 (tree_below s a z h.1) (tree_below s b z h.2)

-- ---- numbers of operators are at most 128

one_small : (op : Op) (a : Option ℕ) → IsSome a → Below a → out_of_range op a (Some 1) ≡ false → AreSmall (operator_numbers op)
one_small (Const v) a p q r = tt
one_small Not a p q r = tt
one_small And a p q r = tt
one_small Or a p q r = tt
one_small Xor a p q r = tt
one_small Add a p q r = tt
one_small Sub a p q r = tt
one_small (Slice hi lo) None p q r = absurd (false≢true p)
one_small (Slice hi lo) (Some a) p q r =
    let x = or_parts (ltb hi lo) (ltb a (hi + 1)) r in
    let order : lo ≤ hi = ltb-false hi lo x.0 in
    let room : hi + 1 ≤ a = ltb-false a (hi + 1) x.1 in
    (omega arith, (omega arith, tt))
one_small Concat a p q r = tt
one_small (SignExt to) a p q r = (ltb-false 128 to (or_parts (ltb 128 to) _ r).0, tt)
one_small (Shl by) None p q r = absurd (false≢true p)
one_small (Shl by) (Some a) p q r = let room : by + 1 ≤ a = ltb-false a (by + 1) r in (omega arith, tt)
one_small (Shr by) None p q r = absurd (false≢true p)
one_small (Shr by) (Some a) p q r = let room : by + 1 ≤ a = ltb-false a (by + 1) r in (omega arith, tt)
one_small Eq a p q r = tt
one_small Ltu a p q r = tt
one_small Ite a p q r = tt

-- an operator of several operands has no numbers
more_small : (op : Op) (k : ℕ) → arity_of op ≡ suc (suc k) → AreSmall (operator_numbers op)
more_small (Const v) k h = tt
more_small Not k h = tt
more_small And k h = tt
more_small Or k h = tt
more_small Xor k h = tt
more_small Add k h = tt
more_small Sub k h = tt
more_small (Slice hi lo) k h = absurd (omega arith)
more_small Concat k h = tt
more_small (SignExt to) k h = absurd (omega arith)
more_small (Shl by) k h = absurd (omega arith)
more_small (Shr by) k h = absurd (omega arith)
more_small Eq k h = tt
more_small Ltu k h = tt
more_small Ite k h = tt

-- ---- expressions in which nothing is at fault can be shown

can_print_tree : (s : Scope) (t : Tree) → AreSized s → HasArities t → has_unknown s t ≡ false → has_mismatch s t ≡ false → has_bad_range s t ≡ false → IsPrintable s t
can_print_tree s (value w n) z h u m r =
    let c = constant_is w n (not-false (is_constant w n) r) in
    (c.0, let most : 2 ^ w ≤ 2 ^ 128 = pow_mono c.0 in omega (arith, c.1))
can_print_tree s (reg i) z h u m r = leb-false (length s.regs) i u
can_print_tree s (input i) z h u m r = leb-false (length s.inputs) i u
can_print_tree s (var i) z h u m r = leb-false (length s.vars) i u
can_print_tree s (apply1 op a) z h u m r =
    let p = or_parts _ (has_mismatch s a) m in
    let q = or_parts _ (has_bad_range s a) r in
    (h.0, one_small op (tree_width s a) (tree_fits s a h.1 u p.1 q.1) (tree_below s a z h.1) q.0, can_print_tree s a z h.1 u p.1 q.1)
can_print_tree s (apply2 op a b) z h u m r =
    let v = or_parts (has_unknown s a) _ u in
    let p = or_parts _ (has_mismatch s a || has_mismatch s b) m in
    let q = or_parts _ (has_bad_range s a || has_bad_range s b) r in
    let p2 = or_parts (has_mismatch s a) _ p.1 in
    let q2 = or_parts (has_bad_range s a) _ q.1 in
    (h.0, more_small op 0 h.0, can_print_tree s a z h.1 v.0 p2.0 q2.0, can_print_tree s b z h.2 v.1 p2.1 q2.1)
can_print_tree s (apply3 op a b c) z h u m r =
    let v = or_parts (has_unknown s a) _ u in
    let v2 = or_parts (has_unknown s b) _ v.1 in
    let p = or_parts _ (has_mismatch s a || (has_mismatch s b || has_mismatch s c)) m in
    let p2 = or_parts (has_mismatch s a) _ p.1 in
    let p3 = or_parts (has_mismatch s b) _ p2.1 in
    let q = or_parts (has_bad_range s a) _ r in
    let q2 = or_parts (has_bad_range s b) _ q.1 in
    (h.0, more_small op 1 h.0, can_print_tree s a z h.1 v.0 p2.0 q.0, can_print_tree s b z h.2 v2.0 p3.0 q2.0, can_print_tree s c z h.3 v2.1 p3.1 q2.1)

-- and in every larger scope
wider : (s l : Scope) (t : Tree) → length s.regs ≤ length l.regs → length s.inputs ≤ length l.inputs → length s.vars ≤ length l.vars → IsPrintable s t → IsPrintable l t
wider s l (value w n) x y z c = c
wider s l (reg i) x y z c = omega arith
wider s l (input i) x y z c = omega arith
wider s l (var i) x y z c = omega arith
wider s l (apply1 op a) x y z c = (c.0, c.1, wider s l a x y z c.2)
wider s l (apply2 op a b) x y z c = (c.0, c.1, wider s l a x y z c.2, wider s l b x y z c.3)
wider s l (apply3 op a b e) x y z c = (c.0, c.1, wider s l a x y z c.2, wider s l b x y z c.3, wider s l e x y z c.4)

-- ---- rules

rule_prints : (s : Scope) (i before : ℕ) (t : Tree) → AreSized s → HasArities t → ((r : ModelRefusal) → RuleBreaks s i before t r → ⊥) → IsShort s t
rule_prints s i before t z h none =
    let m = or_parts (has_mismatch s t) _ (false_from_ne_true _ (none WidthMismatch)) in
    let many = or_parts _ _ (false_from_ne_true _ (none TooMany)) in
    let ops = or_parts (leb 32 i) (ltb 64 (operators t)) many.0 in
    record {
      printable = can_print_tree s t z h (false_from_ne_true _ (none UnknownName)) m.0 (false_from_ne_true _ (none WidthRange));
      depth = ltb-false 32 (depth t) (false_from_ne_true _ (none TooDeep));
      operators = ltb-false 64 (operators t) ops.1;
    }

wider_short : (s l : Scope) (t : Tree) → length s.regs ≤ length l.regs → length s.inputs ≤ length l.inputs → length s.vars ≤ length l.vars → IsShort s t → IsShort l t
wider_short s l t x y z h = record { printable = wider s l t x y z h.printable; depth = h.depth; operators = h.operators }

all_context : (d : ModelData) → IsAccepted d → HaveArities d → AllByRecursion (IsShort (node_scope d)) d.legal_context
all_context d a h =
    each_has (IsShort (node_scope d)) d.legal_context (λ i t at.
    let s = context_scope d in
    let before = rule_operators (take i d.legal_context) in
    let z : AreSized s = record { regs = reg_widths d a; inputs = tt; vars = tt } in
    let none : (r : ModelRefusal) → RuleBreaks s i before t r → ⊥ = λ r. unbroken (slice_get d.legal_context i) t (λ u. RuleBreaks s i before u r) at (a (LegalContext i) r) in
    wider_short s (node_scope d) t (omega arith) (omega arith) (omega arith) (rule_prints s i before t z (context_arities d i t h at) none))

all_access : (d : ModelData) → IsAccepted d → HaveArities d → AllByRecursion (IsShort (node_scope d)) d.legal_access
all_access d a h =
    each_has (IsShort (node_scope d)) d.legal_access (λ i t at.
    let s = access_scope d in
    let before = rule_operators d.legal_context + rule_operators (take i d.legal_access) in
    let z : AreSized s = record { regs = reg_widths d a; inputs = input_widths d a; vars = tt } in
    let none : (r : ModelRefusal) → RuleBreaks s i before t r → ⊥ = λ r. unbroken (slice_get d.legal_access i) t (λ u. RuleBreaks s i before u r) at (a (LegalAccess i) r) in
    wider_short s (node_scope d) t (omega arith) (omega arith) (omega arith) (rule_prints s i before t z (access_arities d i t h at) none))

-- ---- nodes

abbrev NoneBreaks : ModelData → ℕ → Name → ActData → Type 0
NoneBreaks d i name p = (r : ModelRefusal) → NodeBreaks d i (record { name = name; step = p }) r → ⊥

-- a node has few operators
few_operators : (d : ModelData) (i : ℕ) (name : Name) (p : ActData) → NoneBreaks d i name p → ltb 64 (step_operators p) ≡ false
few_operators d i name p none =
    let n : NodeData = record { name = name; step = p } in
    let nodes = leb 1024 i in
    let reads = ltb 64 (count_of is_read (take (i + 1) d.nodes)) in
    let dones = ltb 16 (count_of is_done (take (i + 1) d.nodes)) in
    let ops = ltb 64 (step_operators p) in
    let all = ltb 8192 (operators_to d (i + 1)) in
    let none_at : (nodes || reads || dones || ops || all) ≡ false = false_from_ne_true (nodes || reads || dones || ops || all) (none TooMany) in
    (or_parts (nodes || reads || dones) ops (or_parts (nodes || reads || dones || ops) all none_at).0).1

tree_prints : (s : Scope) (t : Tree) → AreSized s → HasArities t → has_unknown s t ≡ false → has_mismatch s t ≡ false → has_bad_range s t ≡ false → ltb 64 (operators t) ≡ false → ltb 32 (depth t) ≡ false → IsShort s t
tree_prints s t z h u m r o e = record {
  printable = can_print_tree s t z h u m r;
  depth = ltb-false 32 (depth t) e;
  operators = ltb-false 64 (operators t) o;
}

act_prints : (d : ModelData) (i : ℕ) (name : Name) (p : ActData) → d.address ≤ 64 → AreSized (node_scope d) → StepArities p → NoneBreaks d i name p → CanAct d p
act_prints d i name (bind x e n) small z h none =
    let s = node_scope d in
    let u = or_parts (has_unknown s e) (leb (length d.vars) x) (false_from_ne_true _ (none UnknownName)) in
    let m = or_parts (has_mismatch s e) _ (false_from_ne_true _ (none WidthMismatch)) in
    let r = or_parts (has_bad_range s e) _ (false_from_ne_true _ (none WidthRange)) in
    let o : ltb 64 (operators e) ≡ false = few_operators d i name (bind x e n) none in
    let t = or_parts (leb (length d.nodes) n) _ (false_from_ne_true _ (none NoNode)) in
    (leb-false (length d.vars) x u.1, tree_prints s e z h u.0 m.0 r.0 o (false_from_ne_true _ (none TooDeep)), leb-false (length d.nodes) n t.0)
act_prints d i name (read x e g t o) small z h none =
    let s = node_scope d in
    let u = or_parts (has_unknown s e) (leb (length d.vars) x) (false_from_ne_true _ (none UnknownName)) in
    let m = or_parts (has_mismatch s e) _ (false_from_ne_true _ (none WidthMismatch)) in
    let r = or_parts (has_bad_range s e) _ (false_from_ne_true _ (none WidthRange)) in
    let k : ltb 64 (operators e) ≡ false = few_operators d i name (read x e g t o) none in
    let first = or_parts (leb (length d.nodes) t) _ (false_from_ne_true _ (none NoNode)) in
    let second = or_parts (leb (length d.nodes) o) _ first.1 in
    let granule : g ≤ d.address = ltb-false d.address g (or_parts _ (ltb d.address g) r.1).1 in
    (leb-false (length d.vars) x u.1, tree_prints s e z h u.0 m.0 r.0 k (false_from_ne_true _ (none TooDeep)), omega arith, leb-false (length d.nodes) t first.0, leb-false (length d.nodes) o second.0)
act_prints d i name (branch e t o) small z h none =
    let s = node_scope d in
    let u = or_parts (has_unknown s e) _ (false_from_ne_true _ (none UnknownName)) in
    let m = or_parts (has_mismatch s e) _ (false_from_ne_true _ (none WidthMismatch)) in
    let r = or_parts (has_bad_range s e) _ (false_from_ne_true _ (none WidthRange)) in
    let k : ltb 64 (operators e) ≡ false = few_operators d i name (branch e t o) none in
    let first = or_parts (leb (length d.nodes) t) _ (false_from_ne_true _ (none NoNode)) in
    let second = or_parts (leb (length d.nodes) o) _ first.1 in
    (tree_prints s e z h u.0 m.0 r.0 k (false_from_ne_true _ (none TooDeep)), leb-false (length d.nodes) t first.0, leb-false (length d.nodes) o second.0)
act_prints d i name (fault c) small z h none = ltb-false 65535 c (false_from_ne_true _ (none WidthRange))
act_prints d i name (done e p) small z h none =
    let s = node_scope d in
    let u = or_parts (has_unknown s e) _ (false_from_ne_true _ (none UnknownName)) in
    let m = or_parts (has_mismatch s e) _ (false_from_ne_true _ (none WidthMismatch)) in
    let r = or_parts (has_bad_range s e) (ltb d.address p) (false_from_ne_true _ (none WidthRange)) in
    let k : ltb 64 (operators e) ≡ false = few_operators d i name (done e p) none in
    let page : p ≤ d.address = ltb-false d.address p r.1 in
    (tree_prints s e z h u.0 m.0 r.0 k (false_from_ne_true _ (none TooDeep)), omega arith)

abbrev SpotArities : NodeData → Type 0
SpotArities n = StepArities n.step

all_nodes : (d : ModelData) → IsAccepted d → HaveArities d → HaveNames d → AllByRecursion (λ n. IsName n.name × CanAct d n.step) d.nodes
all_nodes d a h names =
    each_has (λ n. IsName n.name × CanAct d n.step) d.nodes (λ i n at.
    let z : AreSized (node_scope d) = record { regs = reg_widths d a; inputs = input_widths d a; vars = var_widths d a } in
    let none : NoneBreaks d i n.name n.step = λ r. unbroken (slice_get d.nodes i) n (λ m. NodeBreaks d i m r) at (a (Node i) r) in
    (all_at SpotIs d.nodes i n names.nodes at, act_prints d i n.name n.step (accepted_address d a).1 z (all_at SpotArities d.nodes i n h.nodes at) none))

-- ---- the whole model

word_little : (d : ModelData) → IsAccepted d → d.word ≤ 65535
word_little d a =
    ⊎_elim (λ (e : d.word ≡ 8). omega arith)
    (λ r. ⊎_elim (λ (e : d.word ≡ 16). omega arith)
    (λ s. ⊎_elim (λ (e : d.word ≡ 32). omega arith) (λ (e : d.word ≡ 64). omega arith) s)
    r)
    (accepted_word d a)

can_print : (d : ModelData) → IsAccepted d → HaveArities d → HaveNames d → CanPrint d
can_print d a h names = record {
  known = all_known d a names;
  word = word_little d a;
  address = omega (arith, (accepted_address d a).1);
  regs = all_sized d.regs names.regs (reg_widths d a);
  inputs = all_sized d.inputs names.inputs (input_widths d a);
  vars = all_sized d.vars names.vars (var_widths d a);
  context = all_context d a h;
  access = all_access d a h;
  nodes = all_nodes d a h names;
}

-- the printed text of an accepted model is a text of the model
pub reads_back : (d : ModelData) → IsAccepted d → HaveArities d → HaveNames d → IsModelText (printed d) d
reads_back d a h names = record { spelled = printed_again d (can_print d a h names); accepted = a }

-- and has no line of more than 16,384 bytes
pub lines_short : (d : ModelData) → IsAccepted d → HaveArities d → HaveNames d → All (λ line. length line ≤ 16384) (lines_of (printed d))
lines_short d a h names = all_of (λ line. length line ≤ 16384) (lines_of (printed d)) (printed_short d (can_print d a h names))

-- and is no longer than a text that is read may be
pub text_short : (d : ModelData) → IsAccepted d → HaveArities d → HaveNames d → length (printed d) < 2 ^ 32 - 1
text_short d a h names =
    omega (arith, printed_length d (can_print d a h names), few_regs d a, few_inputs d a, few_vars d a, few_context_rules d a, few_access_rules d a, few_nodes d a)
