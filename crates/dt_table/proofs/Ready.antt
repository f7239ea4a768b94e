-- What a model and a list give to the values of the list's choices.
use Rattle.std.proofs.Common.{◌≡◌, ℕ, zero, suc, ◌+◌, ◌*◌, ◌/◌, ◌<◌, ◌≤◌, ◌^◌, Bool, true, false, cond, List, [], ◌∷◌, length, map, replicate, Some, refl, sym, ap, ◌∙◌, subst, arith, length-append}
use Rattle.std.specs.Prelude.{IsSome, slice_get}
use Rattle.std.specs.List.{flat_map, AllByRecursion}
use Rattle.std.proofs.lemmas.List.Recursion.{is_count_by}
use Rattle.dt_bits.specs.Bits.{width}
use Rattle.dt_bits.specs.declared.value.Width.{Width}
use Rattle.dt_bits.specs.Memory.{Memory, is_place}
use Rattle.dt_model.specs.ModelData.{ModelData, Tree, ActData, NodeData, bind, read, branch, fault, done}
use Rattle.dt_model.specs.Faults.{steps, is_read, count_of, node_scope, context_scope, access_scope, tree_in}
use Rattle.dt_model.specs.Widths.{HasArities, tree_width}
use Rattle.dt_request.specs.declared.list.AccessWish.{AccessWish}
use Rattle.dt_request.specs.declared.list.Requests.{Requests}
use Rattle.dt_request.specs.Choices.{read_nodes}
use Rattle.dt_terms.specs.declared.term.Term.{Term}
use Rattle.dt_terms.specs.declared.term.Term.TheVariants.{Choice}
use Rattle.dt_walk.specs.Meaning.{env_of}
use Rattle.dt_forms.specs.Meaning.{Valuation, IsLawful, flag}
use Rattle.dt_table.specs.Passing.{Access, State, passed, noted}
use Rattle.dt_table.specs.Table.{names_chosen, access_chosen, choices, regs_at, inputs_at, words_at, align_of, access_of, first_state, bit_node, start}
use Rattle.dt_table.specs.Images.{bits_from}
use Rattle.dt_table.proofs.Nodes.{IsStep, IsClean, AreLeft, IsOf, WordsWide}
use Rattle.dt_table.proofs.CellValues.{cell_value}
use Rattle.dt_table.proofs.Stand.{Stand, lawful_stand, stand_split, repeated_stand, repeated_length, names_length, name_value, replicated_stand}

-- what is asked of the model; each accepted model has it
pub record IsReady (d : ModelData) : Type 0 where
  pub sound : (i : ℕ) (p : ActData) → slice_get (steps d) i ≡ Some p → IsStep (node_scope d) d.address d.word (length (steps d)) i p
  pub clean : (i : ℕ) (p : ActData) → slice_get (steps d) i ≡ Some p → IsClean (steps d) i (tree_in p)
  pub nonempty : 0 < length (steps d)
  pub bytes : d.word / 8 ≡ 2 ^ align_of d.word
  pub word : d.word ≡ 8 * (d.word / 8)
  pub context_rules : AllByRecursion (λ (t : Tree). HasArities t × IsSome (tree_width (context_scope d) t)) d.legal_context
  pub access_rules : AllByRecursion (λ (t : Tree). HasArities t × IsSome (tree_width (access_scope d) t)) d.legal_access

-- values whose choices stand where the arithmetic of positions says
pub record AreSet (v : Valuation) (d : ModelData) (r : Requests) : Type 0 where
  pub range : (t : ℕ) → (v t).bits < 2 ^ (v t).width.0
  pub zero_is : v (length (choices d r)) ≡ flag false
  pub one_is : v (length (choices d r) + 1) ≡ flag true
  pub regs : (c : ℕ) → c < length r.contexts → Stand v (regs_at d c) (names_chosen d.regs)
  pub inputs : (k : ℕ) → k < length r.accesses → Stand v (inputs_at d r k) (names_chosen d.inputs)
  pub words : (k : ℕ) → k < length r.accesses → (j : ℕ) → j < read_nodes d → (v (words_at d r k + j)).width.0 ≡ d.word

zero_add : (n : ℕ) → 0 + n ≡ n
zero_add n = omega arith

replicated_length : (n : ℕ) (x : Term) → length (replicate n x) ≡ n
replicated_length zero x = refl
replicated_length (suc n) x = ap suc (replicated_length n x)

pub access_length : (d : ModelData) → length (access_chosen d) ≡ length d.inputs + read_nodes d
access_length d =
    length-append (names_chosen d.inputs) (replicate (read_nodes d) (Choice (width d.word)))
    ∙ ap (λ (n : ℕ). n + length (replicate (read_nodes d) (Choice (width d.word)))) (names_length d.inputs)
    ∙ ap (λ (n : ℕ). length d.inputs + n) (replicated_length (read_nodes d) (Choice (width d.word)))

pub set_from : (v : Valuation) (d : ModelData) (r : Requests) → ((t : ℕ) → (v t).bits < 2 ^ (v t).width.0) → IsLawful v (start d r).terms → AreSet v d r
set_from v d r g h =
    let all = stand_split v (choices d r) (bit_node 0 ∷ bit_node 1 ∷ []) 0 (lawful_stand v (start d r).terms h) in
    let parts = stand_split v (flat_map (λ _. names_chosen d.regs) r.contexts) (flat_map (λ _. access_chosen d) r.accesses) 0 all.0 in
    let first : length (flat_map (λ _. names_chosen d.regs) r.contexts) ≡ length r.contexts * length d.regs =
    repeated_length (names_chosen d.regs) r.contexts ∙ ap (λ (n : ℕ). length r.contexts * n) (names_length d.regs) in
    let one_access : (k : ℕ) → k < length r.accesses → Stand v (inputs_at d r k) (access_chosen d) = λ k l.
    let s = repeated_stand v (access_chosen d) r.accesses (0 + length (flat_map (λ _. names_chosen d.regs) r.contexts)) parts.1 k l in
    let e : 0 + length (flat_map (λ _. names_chosen d.regs) r.contexts) + k * length (access_chosen d) ≡ inputs_at d r k =
    ap (λ (n : ℕ). 0 + n + k * length (access_chosen d)) first ∙ ap (λ (n : ℕ). 0 + length r.contexts * length d.regs + k * n) (access_length d)
    ∙ ap (λ (n : ℕ). n + k * (length d.inputs + read_nodes d)) (zero_add (length r.contexts * length d.regs)) in
    subst (λ (j : ℕ). Stand v j (access_chosen d)) e s in
    record {
      range = g;
      zero_is = ap v (sym (zero_add (length (choices d r)))) ∙ all.1.0;
      one_is = ap (λ (n : ℕ). v (n + 1)) (sym (zero_add (length (choices d r)))) ∙ all.1.1.0;
      regs = λ c l.
          let e : 0 + c * length (names_chosen d.regs) ≡ regs_at d c = ap (λ (n : ℕ). 0 + c * n) (names_length d.regs) ∙ zero_add (c * length d.regs) in
          subst (λ (j : ℕ). Stand v j (names_chosen d.regs)) e (repeated_stand v (names_chosen d.regs) r.contexts 0 parts.0 c l);
      inputs = λ k l. (stand_split v (names_chosen d.inputs) (replicate (read_nodes d) (Choice (width d.word))) (inputs_at d r k) (one_access k l)).0;
      words = λ k l j m.
          let s = (stand_split v (names_chosen d.inputs) (replicate (read_nodes d) (Choice (width d.word))) (inputs_at d r k) (one_access k l)).1 in
          let e : inputs_at d r k + length (names_chosen d.inputs) ≡ words_at d r k = ap (λ (n : ℕ). inputs_at d r k + n) (names_length d.inputs) in
          ap (λ (w : Width). w.0) (replicated_stand v (read_nodes d) (width d.word) (words_at d r k) j (subst (λ (i : ℕ). Stand v i (replicate (read_nodes d) (Choice (width d.word)))) e s) m);
    }

-- ---- one access

-- a memory of the model with the list's bounds
pub record Fits (d : ModelData) (r : Requests) (m : Memory) : Type 0 where
  pub bytes : m.bytes ≡ d.word / 8
  pub lo : m.lo ≡ r.lo
  pub hi : m.hi ≡ r.hi

pub access_is : (v : Valuation) (d : ModelData) (r : Requests) (k : ℕ) (a : AccessWish) (m : Memory) → IsReady d → AreSet v d r → a.context < length r.contexts → k < length r.accesses → Fits d r m
    → IsOf v (access_of d r k a) (env_of d (bits_from v (regs_at d a.context) d.regs) (bits_from v (inputs_at d r k) d.inputs)) (is_place m)
access_is v d r k a m ready set c l fit = record {
  range = set.range;
  zero_is = set.zero_is;
  one_is = set.one_is;
  scope = refl;
  reg_is = λ i s. name_value v d.regs (regs_at d a.context) i (set.regs a.context c) s;
  input_is = λ i s. name_value v d.inputs (inputs_at d r k) i (set.inputs k l) s;
  cells_are = λ terms cell h w. cell_value v (access_of d r k a) m terms cell set.zero_is set.one_is (fit.bytes ∙ ready.bytes) fit.lo fit.hi (subst (λ (n : ℕ). (v cell).bits < 2 ^ n) w (set.range cell)) h;
}

pub access_left : (d : ModelData) (r : Requests) (k : ℕ) (a : AccessWish) → IsReady d → AreLeft (access_of d r k a) d.word (steps d) (steps d) 0
access_left d r k a ready = record {
  at = λ i p e. let z : i ≡ 0 + i = omega arith in subst (λ (j : ℕ). slice_get (steps d) j ≡ Some p) z e;
  count = omega arith;
  sound = ready.sound;
  clean = ready.clean;
}

-- how many of the steps are reads
abbrev pub reads_in : List ActData → ℕ
reads_in [] = 0
reads_in (p ∷ ps) = cond (is_read p) 1 0 + reads_in ps

one_more : (b : Bool) (n : ℕ) → cond b 1 0 + n ≡ cond b (1 + n) n
one_more true n = refl
one_more false n = omega arith

pub reads_in_nodes : (ns : List NodeData) → reads_in (map (λ n. n.step) ns) ≡ count_of is_read ns
reads_in_nodes ns = is_count_by (λ (ms : List NodeData). reads_in (map (λ n. n.step) ms)) (λ (n : NodeData). is_read n.step) refl (λ x xs. one_more (is_read x.step) _) ns

pub word_next : (a : Access) (s : State) (n : ℕ) (p : ActData) → (passed a s n p).state.word ≡ cond (is_read p) 1 0 + s.word
word_next a s n (bind x e to) = omega arith
word_next a s n (read x e g t o) = omega arith
word_next a s n (branch e t o) = omega arith
word_next a s n (fault c) = omega arith
word_next a s n (done e p) = omega arith

pub words_wide : (v : Valuation) (a : Access) (word base total : ℕ) (ps : List ActData) (s : State) (n used : ℕ) → s.word ≡ base + used → used + reads_in ps ≤ total → ((j : ℕ) → j < total → (v (base + j)).width.0 ≡ word)
    → WordsWide v a word s ps n
words_wide v a word base total [] s n used e l h = tt
words_wide v a word base total (p ∷ ps) s n used e l h = (
  λ q. ap (λ (t : ℕ). (v t).width.0) e ∙ h used (let z = ap (λ (b : Bool). cond {A = ℕ} b 1 0) q in omega (arith, l, z)),
  words_wide v a word base total ps (passed a (noted s n) n p).state (n + 1) (cond (is_read p) 1 0 + used) (word_next a (noted s n) n p ∙ ap (λ (t : ℕ). cond (is_read p) 1 0 + t) e ∙ omega arith) (omega (arith, l)) h,
)

pub access_wide : (v : Valuation) (d : ModelData) (r : Requests) (k : ℕ) (a : AccessWish) (terms : List Term) → AreSet v d r → k < length r.accesses
    → WordsWide v (access_of d r k a) d.word (first_state (access_of d r k a) terms (words_at d r k)) (steps d) 0
access_wide v d r k a terms set l =
    words_wide v (access_of d r k a) d.word (words_at d r k) (read_nodes d) (steps d) (first_state (access_of d r k a) terms (words_at d r k)) 0 0 (omega arith)
    (let z = reads_in_nodes d.nodes in omega (arith, z)) (set.words k l)
