-- The numbers of an image are an assignment of its list's choices.
use Rattle.std.proofs.Common.{◌≡◌, ℕ, zero, suc, ◌+◌, ◌*◌, ◌<◌, ◌≤◌, ◌^◌, Bool, true, false, cond, eqb, List, [], ◌∷◌, ◌++◌, length, get_or, replicate, ⊎_elim, refl, sym, ap, ◌∙◌, subst, arith, length-append}
use Rattle.std.specs.List.{flat_map, AllByRecursion}
use Rattle.std.proofs.lemmas.Bool.{false≢true, cases_lt}
use Rattle.std.proofs.lemmas.Nat.{pow_pos}
use Rattle.dt_bits.specs.Bits.{width}
use Rattle.dt_bits.specs.declared.memory.Word.{Word}
use Rattle.dt_bits.specs.Memory.{Memory, Fit, listed}
use Rattle.dt_model.specs.declared.model.Named.{Named as NamedWidth}
use Rattle.dt_model.specs.ModelData.{ModelData, ActData}
use Rattle.dt_model.specs.Faults.{steps, is_read}
use Rattle.dt_model.specs.Values.{FitNames}
use Rattle.dt_request.specs.Choices.{read_nodes}
use Rattle.dt_terms.specs.declared.term.Term.{Term}
use Rattle.dt_terms.specs.declared.term.Term.TheVariants.{Choice}
use Rattle.dt_terms.specs.Terms.{term_at, bits_at, width_of_term, is_choice, choices_from, choices_of, choice_at}
use Rattle.dt_terms.specs.Values.{IsAssignment}
use Rattle.dt_terms.proofs.Choices.{choices_from-append, choice_stands}
use Rattle.dt_walk.specs.declared.run.ReadMade.{ReadMade}
use Rattle.dt_image.specs.declared.image.Image.{Image}
use Rattle.dt_image.specs.declared.image.ImageAccess.{ImageAccess}
use Rattle.dt_satisfy.specs.Claims.{run_of}
use Rattle.dt_table.specs.Table.{names_chosen, access_chosen}
use Rattle.dt_table.specs.Numbers.{word_in, words_for, access_numbers}
use Rattle.dt_table.proofs.Remembered.{Remembers}
use Rattle.dt_table.proofs.Ready.{reads_in, reads_in_nodes}
use Rattle.dt_table.proofs.Extends.{AreChoices}

-- each number has the width of its term
abbrev pub FitTerms : List Term → List ℕ → Type 0
FitTerms [] [] = Unit {0}
FitTerms (t ∷ ts) (n ∷ ns) = (n < 2 ^ (width_of_term t).0) × FitTerms ts ns
FitTerms _ _ = ⊥

pub terms_join : (xs ys : List Term) (ms ns : List ℕ) → FitTerms xs ms → FitTerms ys ns → FitTerms (xs ++ ys) (ms ++ ns)
terms_join [] ys [] ns h k = k
terms_join [] ys (m ∷ ms) ns h k = absurd h
terms_join (x ∷ xs) ys [] ns h k = absurd h
terms_join (x ∷ xs) ys (m ∷ ms) ns h k = (h.0, terms_join xs ys ms ns h.1 k)

pub terms_length : (xs : List Term) (ms : List ℕ) → FitTerms xs ms → length ms ≡ length xs
terms_length [] [] h = refl
terms_length [] (m ∷ ms) h = absurd h
terms_length (x ∷ xs) [] h = absurd h
terms_length (x ∷ xs) (m ∷ ms) h = ap suc (terms_length xs ms h.1)

names_terms : (ns : List NamedWidth) (vs : List ℕ) → FitNames ns vs → FitTerms (names_chosen ns) vs
names_terms [] [] h = tt
names_terms [] (v ∷ vs) h = absurd h
names_terms (n ∷ ns) [] h = absurd h
names_terms (n ∷ ns) (v ∷ vs) h = (h.0, names_terms ns vs h.1)

pub contexts_terms : {A : Type 0} (regs : List NamedWidth) (names : List A) (cs : List (List ℕ)) → length cs ≡ length names → AllByRecursion (FitNames regs) cs → FitTerms (flat_map (λ (_ : A). names_chosen regs) names) (flat_map (λ vs. vs) cs)
contexts_terms regs [] [] e h = tt
contexts_terms regs [] (c ∷ cs) e h = absurd (omega (arith, e))
contexts_terms regs (n ∷ ns) [] e h = absurd (omega (arith, e))
contexts_terms {A} regs (n ∷ ns) (c ∷ cs) e h = terms_join (names_chosen regs) (flat_map (λ (_ : A). names_chosen regs) ns) c (flat_map (λ vs. vs) cs) (names_terms regs c h.0) (contexts_terms regs ns cs (omega (arith, e)) h.1)

-- ---- words

pub listed_fits : (bytes : ℕ) (ws : List Word) (a : ℕ) → Fit bytes ws → listed ws a < 2 ^ (8 * bytes)
listed_fits bytes [] a h = pow_pos (8 * bytes)
listed_fits bytes (w ∷ ws) a h = by_cell (eqb w.address a) (listed_fits bytes ws a h.1)
  where
    by_cell : (b : Bool) → listed ws a < 2 ^ (8 * bytes) → cond b w.value (listed ws a) < 2 ^ (8 * bytes)
    by_cell true k = h.0
    by_cell false k = k

word_fits : (m : Memory) (rs : List ReadMade) (n : ℕ) → Fit m.bytes m.words → Remembers m rs → word_in rs n < 2 ^ (8 * m.bytes)
word_fits m [] n f h = pow_pos (8 * m.bytes)
word_fits m (r ∷ rs) n f h = by_node (eqb r.node n) (word_fits m rs n f h.1)
  where
    by_node : (b : Bool) → word_in rs n < 2 ^ (8 * m.bytes) → cond b r.word (word_in rs n) < 2 ^ (8 * m.bytes)
    by_node true k = subst (λ (x : ℕ). x < 2 ^ (8 * m.bytes)) h.0 (listed_fits m.bytes m.words r.cell f)
    by_node false k = k

words_terms : (w : ℕ) (rs : List ReadMade) (ps : List ActData) (n : ℕ) → ((k : ℕ) → word_in rs k < 2 ^ w) → FitTerms (replicate (reads_in ps) (Choice (width w))) (words_for ps rs n)
words_terms w rs [] n h = tt
words_terms w rs (p ∷ ps) n h = by_step (is_read p) (words_terms w rs ps (n + 1) h)
  where
    by_step : (b : Bool) → FitTerms (replicate (reads_in ps) (Choice (width w))) (words_for ps rs (n + 1)) → FitTerms (replicate (cond b 1 0 + reads_in ps) (Choice (width w))) (cond b (word_in rs n ∷ words_for ps rs (n + 1)) (words_for ps rs (n + 1)))
    by_step true k = let z : suc (reads_in ps) ≡ 1 + reads_in ps = omega arith in subst (λ (j : ℕ). FitTerms (replicate j (Choice (width w))) (word_in rs n ∷ words_for ps rs (n + 1))) z (h n, k)
    by_step false k = let z : reads_in ps ≡ 0 + reads_in ps = omega arith in subst (λ (j : ℕ). FitTerms (replicate j (Choice (width w))) (words_for ps rs (n + 1))) z k

pub accesses_terms : {A : Type 0} (d : ModelData) (i : Image) (wishes : List A) (accesses : List ImageAccess) → length accesses ≡ length wishes → AllByRecursion (λ (a : ImageAccess). (a.context < length i.contexts) × FitNames d.inputs a.inputs) accesses
    → d.word ≡ 8 * i.memory.bytes → Fit i.memory.bytes i.memory.words → ((a : ImageAccess) → Remembers i.memory (run_of d i a).reads)
    → FitTerms (flat_map (λ (_ : A). access_chosen d) wishes) (flat_map (access_numbers d i) accesses)
accesses_terms d i [] [] e h w f g = tt
accesses_terms d i [] (a ∷ more) e h w f g = absurd (omega (arith, e))
accesses_terms d i (x ∷ xs) [] e h w f g = absurd (omega (arith, e))
accesses_terms {A} d i (x ∷ xs) (a ∷ more) e h w f g =
    let reads = (run_of d i a).reads in
    let words = subst (λ (j : ℕ). FitTerms (replicate j (Choice (width d.word))) (words_for (steps d) reads 0)) (reads_in_nodes d.nodes)
    (words_terms d.word reads (steps d) 0 (λ k. subst (λ (j : ℕ). word_in reads k < 2 ^ j) (sym w) (word_fits i.memory reads k f (g a)))) in
    terms_join (access_chosen d) (flat_map (λ (_ : A). access_chosen d) xs) (access_numbers d i a) (flat_map (access_numbers d i) more)
    (terms_join (names_chosen d.inputs) (replicate (read_nodes d) (Choice (width d.word))) a.inputs (words_for (steps d) reads 0) (names_terms d.inputs a.inputs h.0.1) words)
    (accesses_terms d i xs more (omega (arith, e)) h.1 w f g)

-- ---- choices that come first

none_after : (n : ℕ) (ts : List Term) → AllByRecursion (λ (t : Term). is_choice t ≡ false) ts → length (choices_from n ts) ≡ 0
unfolding choices_from
none_after n [] h = refl
none_after n (t ∷ ts) h = ap (λ (b : Bool). length (cond b (n ∷ choices_from (n + 1) ts) (choices_from (n + 1) ts))) h.0 ∙ none_after (n + 1) ts h.1

all_before : (n : ℕ) (ts : List Term) → AreChoices ts → length (choices_from n ts) ≡ length ts
unfolding choices_from
all_before n [] h = refl
all_before n (t ∷ ts) h = ap (λ (b : Bool). length (cond b (n ∷ choices_from (n + 1) ts) (choices_from (n + 1) ts))) h.0 ∙ ap suc (all_before (n + 1) ts h.1)

pub choice_total : (xs more : List Term) → AreChoices xs → AllByRecursion (λ (t : Term). is_choice t ≡ false) more → length (choices_of (xs ++ more)) ≡ length xs
choice_total xs more h k =
    let a = all_before 0 xs h in
    let b = none_after (0 + length xs) more k in
    ap length (choices_from-append 0 xs more) ∙ length-append (choices_from 0 xs) (choices_from (0 + length xs) more) ∙ omega (arith, a, b)

node_after : (xs more : List Term) (t : ℕ) → AllByRecursion (λ (x : Term). is_choice x ≡ false) more → length xs ≤ t → t < length (xs ++ more) → is_choice (term_at (xs ++ more) t) ≡ false
node_after [] [] t h l m = absurd (omega (arith, m))
node_after [] (y ∷ ys) zero h l m = h.0
node_after [] (y ∷ ys) (suc t) h l m = node_after [] ys t h.1 (omega arith) (omega (arith, m))
node_after (x ∷ xs) more zero h l m = absurd (omega (arith, l))
node_after (x ∷ xs) more (suc t) h l m = node_after xs more t h (omega (arith, l)) (omega (arith, m))

fit_at : (xs more : List Term) (ns : List ℕ) (k : ℕ) → FitTerms xs ns → k < length ns → get_or ns k 0 < 2 ^ bits_at (xs ++ more) k
fit_at [] more [] k h l = absurd (omega (arith, l))
fit_at [] more (n ∷ ns) k h l = absurd h
fit_at (x ∷ xs) more [] k h l = absurd h
fit_at (x ∷ xs) more (n ∷ ns) zero h l = h.0
fit_at (x ∷ xs) more (n ∷ ns) (suc k) h l = fit_at xs more ns k h.1 (omega (arith, l))

-- numbers that fit the choices which come first are an assignment
pub first_assigned : (xs more : List Term) (ns : List ℕ) → ((t : ℕ) → t ≤ length xs → choice_at (xs ++ more) t ≡ t) → AreChoices xs → AllByRecursion (λ (t : Term). is_choice t ≡ false) more → FitTerms xs ns → IsAssignment (xs ++ more) ns
first_assigned xs more ns place h k f =
    let e = terms_length xs ns f in
    let total = choice_total xs more h k in
    record {
      count = e ∙ sym total;
      fit = λ j l.
          let s = choice_stands (xs ++ more) j (omega (arith, l, e, total)) in
          let at = get_or (choices_of (xs ++ more)) j 0 in
          let within : at < length xs = ⊎_elim (λ (q : at < length xs). q) (λ (q : length xs ≤ at). absurd (false≢true (sym (node_after xs more at k q s.0) ∙ s.1))) (cases_lt at (length xs)) in
          let same : j ≡ at = sym s.2 ∙ place at (omega (arith, within)) in
          subst (λ (q : ℕ). get_or ns j 0 < 2 ^ bits_at (xs ++ more) q) same (fit_at xs more ns j f l);
    }
