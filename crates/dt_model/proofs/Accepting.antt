-- What a model that is accepted has: widths, few of each thing, a word, and rules of one bit.
use Rattle.std.proofs.Common.{◌≡◌, ◌≢◌, ℕ, zero, suc, ◌+◌, ◌*◌, ◌/◌, ◌<◌, ◌≤◌, true, false, not, eqb, List, [], ◌∷◌, Option, Some, None, length, take, ◌++◌, ◌⊎◌, ⊎_elim, inl, inr, refl, sym, ap, subst, arith}
use Rattle.std.specs.Prelude.{IsSome, IsSomeAnd, slice_get}
use Rattle.std.proofs.lemmas.Bool.{false_from_ne_true, true_from_ne_false, or_parts, and_parts, false≢true, leb-true, eqb-true, eqb-false, not-false, cases_lt, or_cases}
use Rattle.dt_bits.specs.Memory.{IsWordSize}
use Rattle.dt_lex.specs.declared.name.Name.{Name}
use Rattle.dt_model.specs.declared.model.Named.{Named}
use Rattle.dt_model.specs.declared.refusal.ModelRefusal.{ModelRefusal}
use Rattle.dt_model.specs.declared.refusal.ModelRefusal.TheVariants.{UnknownName, WidthMismatch, WidthRange, NoNode, TooMany}
use Rattle.dt_model.specs.declared.refusal.Place.{Place}
use Rattle.dt_model.specs.declared.refusal.Place.TheVariants.{Header, Reg, Input, Var, LegalContext, LegalAccess, Node}
use Rattle.dt_model.specs.ModelData.{ModelData, Tree, ActData, NodeData, bind, read, branch, fault, done}
use Rattle.dt_model.specs.Widths.{Scope, AreWidths, is_width, tree_width, differs, has_unknown, has_mismatch, has_bad_range, HasArities}
use Rattle.dt_model.specs.Faults.{IsAccepted, HaveArities, StepArities, Breaks, NameBreaks, RuleBreaks, NodeBreaks, names_of, is_word, is_address, context_scope, access_scope, rule_operators, tree_in}
use Rattle.dt_lemmas.proofs.Lists.{all_at}
use Rattle.dt_model.proofs.Fitting.{tree_fits}

-- no place of this list is at fault
abbrev pub Clean : ModelData → (ℕ → Place) → Type 0
Clean d at = (i : ℕ) (r : ModelRefusal) → Breaks d (at i) r → ⊥

-- ---- lists of names

widths_from : (ns : List Named) → ((i : ℕ) (n : Named) → slice_get ns i ≡ Some n → is_width n.width ≡ true) → AreWidths ns
widths_from [] h = tt
widths_from (n ∷ ns) h = (let p = and_parts _ _ (h 0 n refl) in (leb-true 1 n.width p.0, leb-true n.width 128 p.1), widths_from ns (λ i m e. h (suc i) m e))

clean_widths : (limit : ℕ) (earlier : ℕ → List Name) (ns : List Named) → ((i : ℕ) (r : ModelRefusal) → IsSomeAnd (slice_get ns i) (λ n. NameBreaks limit i (earlier i) n r) → ⊥) → AreWidths ns
clean_widths limit earlier ns h = widths_from ns (λ i n e. true_from_ne_false _ (λ b. h i WidthRange (subst (λ (o : Option Named). IsSomeAnd o (λ m. NameBreaks limit i (earlier i) m WidthRange)) (sym e) (ap not b))))

pub clean_reg_widths : (d : ModelData) → Clean d Reg → AreWidths d.regs
clean_reg_widths d h = clean_widths 32 (λ i. names_of (take i d.regs)) d.regs h

pub clean_input_widths : (d : ModelData) → Clean d Input → AreWidths d.inputs
clean_input_widths d h = clean_widths 16 (λ i. names_of d.regs ++ names_of (take i d.inputs)) d.inputs h

pub clean_var_widths : (d : ModelData) → Clean d Var → AreWidths d.vars
clean_var_widths d h = clean_widths 512 (λ i. names_of d.regs ++ names_of d.inputs ++ names_of (take i d.vars)) d.vars h

-- ---- how many there are

-- a list whose place at the limit would be at fault ends there
few : {X : Type 0} (limit : ℕ) (xs : List X) (Q : X → Type 0) → ((x : X) → Q x) → (IsSomeAnd (slice_get xs limit) Q → ⊥) → length xs ≤ limit
few {X} limit xs Q all none = ⊎_elim (λ (l : limit < length xs). absurd (none (there xs limit l))) (λ (l : length xs ≤ limit). l) (cases_lt limit (length xs))
  where
    there : (ys : List X) (i : ℕ) → i < length ys → IsSomeAnd (slice_get ys i) Q
    there [] i l = absurd (omega arith)
    there (y ∷ ys) zero l = all y
    there (y ∷ ys) (suc i) l = there ys i (omega arith)

pub clean_few_vars : (d : ModelData) → Clean d Var → length d.vars ≤ 512
clean_few_vars d h = few 512 d.vars (λ n. NameBreaks 512 512 (names_of d.regs ++ names_of d.inputs ++ names_of (take 512 d.vars)) n TooMany) (λ n. refl) (h 512 TooMany)

pub few_regs : (d : ModelData) → IsAccepted d → length d.regs ≤ 32
few_regs d a = few 32 d.regs (λ n. NameBreaks 32 32 (names_of (take 32 d.regs)) n TooMany) (λ n. refl) (a (Reg 32) TooMany)

pub few_inputs : (d : ModelData) → IsAccepted d → length d.inputs ≤ 16
few_inputs d a = few 16 d.inputs (λ n. NameBreaks 16 16 (names_of d.regs ++ names_of (take 16 d.inputs)) n TooMany) (λ n. refl) (a (Input 16) TooMany)

pub few_vars : (d : ModelData) → IsAccepted d → length d.vars ≤ 512
few_vars d a = clean_few_vars d (λ i. a (Var i))

pub few_context_rules : (d : ModelData) → IsAccepted d → length d.legal_context ≤ 32
few_context_rules d a = few 32 d.legal_context (λ t. RuleBreaks (context_scope d) 32 (rule_operators (take 32 d.legal_context)) t TooMany) (λ t. refl) (a (LegalContext 32) TooMany)

pub few_access_rules : (d : ModelData) → IsAccepted d → length d.legal_access ≤ 32
few_access_rules d a = few 32 d.legal_access (λ t. RuleBreaks (access_scope d) 32 (rule_operators d.legal_context + rule_operators (take 32 d.legal_access)) t TooMany) (λ t. refl) (a (LegalAccess 32) TooMany)

pub few_nodes : (d : ModelData) → IsAccepted d → length d.nodes ≤ 1024
few_nodes d a = few 1024 d.nodes (λ n. NodeBreaks d 1024 n TooMany) (λ n. refl) (a (Node 1024) TooMany)

pub some_nodes : (d : ModelData) → IsAccepted d → 0 < length d.nodes
some_nodes d a = let n : length d.nodes ≢ 0 = eqb-false _ _ (false_from_ne_true _ (a Header NoNode)) in omega arith

-- ---- widths

pub reg_widths : (d : ModelData) → IsAccepted d → AreWidths d.regs
reg_widths d a = clean_reg_widths d (λ i. a (Reg i))

pub input_widths : (d : ModelData) → IsAccepted d → AreWidths d.inputs
input_widths d a = clean_input_widths d (λ i. a (Input i))

pub var_widths : (d : ModelData) → IsAccepted d → AreWidths d.vars
var_widths d a = clean_var_widths d (λ i. a (Var i))

header_range : (d : ModelData) → IsAccepted d → (is_word d.word ≡ true) × (is_address d.address ≡ true)
header_range d a = and_parts _ _ (true_from_ne_false _ (λ e. a Header WidthRange (ap not e)))

pub word_cases : (w : ℕ) → is_word w ≡ true → (w ≡ 8) ⊎ ((w ≡ 16) ⊎ ((w ≡ 32) ⊎ (w ≡ 64)))
word_cases w e =
    ⊎_elim (λ h. inl (eqb-true w 8 h))
    (λ r. ⊎_elim (λ h. inr (inl (eqb-true w 16 h)))
    (λ s. ⊎_elim (λ h. inr (inr (inl (eqb-true w 32 h)))) (λ h. inr (inr (inr (eqb-true w 64 h)))) (or_cases (eqb w 32) _ s))
    (or_cases (eqb w 16) _ r))
    (or_cases (eqb w 8) _ e)

-- the word has 8, 16, 32 or 64 bits
pub accepted_word : (d : ModelData) → IsAccepted d → (d.word ≡ 8) ⊎ ((d.word ≡ 16) ⊎ ((d.word ≡ 32) ⊎ (d.word ≡ 64)))
accepted_word d a = word_cases d.word (header_range d a).0

-- it is whole bytes, of a number that words of table memory have
pub word_bytes : (w : ℕ) → (w ≡ 8) ⊎ ((w ≡ 16) ⊎ ((w ≡ 32) ⊎ (w ≡ 64))) → IsWordSize (w / 8) × (w ≡ 8 * (w / 8))
word_bytes w (inl e) = (inl (ap (λ n. n / 8) e), subst (λ n. n ≡ 8 * (n / 8)) (sym e) refl)
word_bytes w (inr (inl e)) = (inr (inl (ap (λ n. n / 8) e)), subst (λ n. n ≡ 8 * (n / 8)) (sym e) refl)
word_bytes w (inr (inr (inl e))) = (inr (inr (inl (ap (λ n. n / 8) e))), subst (λ n. n ≡ 8 * (n / 8)) (sym e) refl)
word_bytes w (inr (inr (inr e))) = (inr (inr (inr (ap (λ n. n / 8) e))), subst (λ n. n ≡ 8 * (n / 8)) (sym e) refl)

pub accepted_bytes : (d : ModelData) → IsAccepted d → IsWordSize (d.word / 8) × (d.word ≡ 8 * (d.word / 8))
accepted_bytes d a = word_bytes d.word (accepted_word d a)

pub accepted_address : (d : ModelData) → IsAccepted d → (8 ≤ d.address) × (d.address ≤ 64)
accepted_address d a = let p = and_parts _ _ (header_range d a).1 in (leb-true 8 d.address p.0, leb-true d.address 64 p.1)

-- ---- rules

pub same_width : (a : Option ℕ) (b : ℕ) → IsSome a → differs a (Some b) ≡ false → a ≡ Some b
same_width (Some a) b p e = ap (λ (n : ℕ). Some n) (eqb-true a b (not-false (eqb a b) e))
same_width None b p e = absurd (false≢true p)

rule_width : (s : Scope) (t : Tree) (i before : ℕ) → HasArities t → ((r : ModelRefusal) → RuleBreaks s i before t r → ⊥) → tree_width s t ≡ Some 1
rule_width s t i before h none =
    let m = or_parts (has_mismatch s t) _ (false_from_ne_true _ (none WidthMismatch)) in
    let known : has_unknown s t ≡ false = false_from_ne_true _ (none UnknownName) in
    let range : has_bad_range s t ≡ false = false_from_ne_true _ (none WidthRange) in
    same_width (tree_width s t) 1 (tree_fits s t h known m.0 range) m.1

-- a context rule is one bit wide
pub context_rule_width : (d : ModelData) (i : ℕ) (t : Tree) → IsAccepted d → HaveArities d → slice_get d.legal_context i ≡ Some t → tree_width (context_scope d) t ≡ Some 1
context_rule_width d i t a h e =
    let before = rule_operators (take i d.legal_context) in
    rule_width (context_scope d) t i before (all_at HasArities d.legal_context i t h.context e)
    (λ r b. a (LegalContext i) r (subst (λ (o : Option Tree). IsSomeAnd o (λ u. RuleBreaks (context_scope d) i before u r)) (sym e) b))

-- an access rule is one bit wide
pub access_rule_width : (d : ModelData) (i : ℕ) (t : Tree) → IsAccepted d → HaveArities d → slice_get d.legal_access i ≡ Some t → tree_width (access_scope d) t ≡ Some 1
access_rule_width d i t a h e =
    let before = rule_operators d.legal_context + rule_operators (take i d.legal_access) in
    rule_width (access_scope d) t i before (all_at HasArities d.legal_access i t h.access e)
    (λ r b. a (LegalAccess i) r (subst (λ (o : Option Tree). IsSomeAnd o (λ u. RuleBreaks (access_scope d) i before u r)) (sym e) b))

-- ---- operands

pub context_arities : (d : ModelData) (i : ℕ) (t : Tree) → HaveArities d → slice_get d.legal_context i ≡ Some t → HasArities t
context_arities d i t h e = all_at HasArities d.legal_context i t h.context e

pub access_arities : (d : ModelData) (i : ℕ) (t : Tree) → HaveArities d → slice_get d.legal_access i ≡ Some t → HasArities t
access_arities d i t h e = all_at HasArities d.legal_access i t h.access e

tree_arities : (p : ActData) (t : Tree) → StepArities p → tree_in p ≡ Some t → HasArities t
tree_arities (bind x e n) t h q = let s : e ≡ t = cc in subst HasArities s h
tree_arities (read x e g u o) t h q = let s : e ≡ t = cc in subst HasArities s h
tree_arities (branch e u o) t h q = let s : e ≡ t = cc in subst HasArities s h
tree_arities (fault c) t h q = absurd (cc)
tree_arities (done e p) t h q = let s : e ≡ t = cc in subst HasArities s h

pub node_arities : (d : ModelData) (i : ℕ) (n : NodeData) (t : Tree) → HaveArities d → slice_get d.nodes i ≡ Some n → tree_in n.step ≡ Some t → HasArities t
node_arities d i n t h e q = tree_arities n.step t (all_at (λ (m : NodeData). StepArities m.step) d.nodes i n h.nodes e) q
