-- The widths of a list's choices are widths, and the choices of these widths are the list's.
use Rattle.std.proofs.Common.{◌≡◌, ℕ, zero, suc, ◌+◌, ◌<◌, List, [], ◌∷◌, ◌++◌, length, take, get_or, map, replicate, refl, ap, ◌∙◌, arith}
use Rattle.std.specs.List.{flat_map, AllByRecursion}
use Rattle.std.proofs.lemmas.List.{map-append}
use Rattle.dt_lemmas.proofs.Lists.{AllByRecursion-append, element, flat_pushed}
use Rattle.dt_bits.specs.Bits.{IsWidth, width}
use Rattle.dt_bits.specs.declared.value.Width.{Width}
use Rattle.dt_model.specs.declared.model.Named.{Named}
use Rattle.dt_model.specs.ModelData.{ModelData}
use Rattle.dt_model.specs.Widths.{AreWidths}
use Rattle.dt_model.specs.Faults.{IsAccepted}
use Rattle.dt_model.proofs.Accepting.{reg_widths, input_widths}
use Rattle.dt_request.specs.declared.list.Requests.{Requests}
use Rattle.dt_request.specs.Choices.{read_nodes}
use Rattle.dt_terms.specs.declared.term.Term.{Term}
use Rattle.dt_terms.specs.declared.term.Term.TheVariants.{Choice}
use Rattle.dt_table.specs.Table.{names_chosen, access_chosen, choices}
use Rattle.dt_table.proofs.FineTable.{word_wide}
use Rattle.dt_encode.specs.Widths.{name_widths, access_widths, choice_widths}

-- ---- as terms

abbrev chosen : List Width → List Term
chosen ws = map (λ w. Choice w) ws

names_are : (ns : List Named) → chosen (name_widths ns) ≡ names_chosen ns
names_are [] = refl
names_are (n ∷ ns) = ap (λ (l : List Term). Choice (width n.width) ∷ l) (names_are ns)

words_are : (n : ℕ) (w : Width) → chosen (replicate n w) ≡ replicate n (Choice w)
words_are zero w = refl
words_are (suc n) w = ap (λ (l : List Term). Choice w ∷ l) (words_are n w)

repeated_are : {A : Type 0} (ws : List Width) (ts : List Term) (xs : List A) → chosen ws ≡ ts → chosen (flat_map (λ (_ : A). ws) xs) ≡ flat_map (λ (_ : A). ts) xs
repeated_are ws ts [] e = refl
repeated_are {A} ws ts (x ∷ xs) e =
    map-append (λ (w : Width). Choice w) ws (flat_map (λ (_ : A). ws) xs)
    ∙ ap (λ (l : List Term). l ++ chosen (flat_map (λ (_ : A). ws) xs)) e
    ∙ ap (λ (l : List Term). ts ++ l) (repeated_are ws ts xs e)

access_are : (d : ModelData) → chosen (access_widths d) ≡ access_chosen d
access_are d =
    map-append (λ (w : Width). Choice w) (name_widths d.inputs) (replicate (read_nodes d) (width d.word))
    ∙ ap (λ (l : List Term). l ++ chosen (replicate (read_nodes d) (width d.word))) (names_are d.inputs)
    ∙ ap (λ (l : List Term). names_chosen d.inputs ++ l) (words_are (read_nodes d) (width d.word))

-- choices of these widths are those of the list
pub choices_are : (d : ModelData) (r : Requests) → map (λ w. Choice w) (choice_widths d r) ≡ choices d r
choices_are d r =
    map-append (λ (w : Width). Choice w) (flat_map (λ _. name_widths d.regs) r.contexts) (flat_map (λ _. access_widths d) r.accesses)
    ∙ ap (λ (l : List Term). l ++ chosen (flat_map (λ _. access_widths d) r.accesses)) (repeated_are (name_widths d.regs) (names_chosen d.regs) r.contexts (names_are d.regs))
    ∙ ap (λ (l : List Term). flat_map (λ _. names_chosen d.regs) r.contexts ++ l) (repeated_are (access_widths d) (access_chosen d) r.accesses (access_are d))

-- ---- are widths

abbrev Are : List Width → Type 0
Are ws = AllByRecursion (λ (w : Width). IsWidth w.0) ws

names_fit : (ns : List Named) → AreWidths ns → Are (name_widths ns)
names_fit [] h = tt
names_fit (n ∷ ns) h = (h.0, names_fit ns h.1)

words_fit : (n w : ℕ) → IsWidth w → Are (replicate n (width w))
words_fit zero w h = tt
words_fit (suc n) w h = (h, words_fit n w h)

repeated_fit : {A : Type 0} (ws : List Width) (xs : List A) → Are ws → Are (flat_map (λ (_ : A). ws) xs)
repeated_fit ws [] h = tt
repeated_fit {A} ws (x ∷ xs) h = AllByRecursion-append (λ (w : Width). IsWidth w.0) ws (flat_map (λ (_ : A). ws) xs) h (repeated_fit ws xs h)

pub widths_fit : (d : ModelData) (r : Requests) → IsAccepted d → AllByRecursion (λ w. IsWidth w.0) (choice_widths d r)
widths_fit d r a =
    AllByRecursion-append (λ (w : Width). IsWidth w.0) (flat_map (λ _. name_widths d.regs) r.contexts) (flat_map (λ _. access_widths d) r.accesses)
    (repeated_fit (name_widths d.regs) r.contexts (names_fit d.regs (reg_widths d a)))
    (repeated_fit (access_widths d) r.accesses (AllByRecursion-append (λ (w : Width). IsWidth w.0) (name_widths d.inputs) (replicate (read_nodes d) (width d.word)) (names_fit d.inputs (input_widths d a)) (words_fit (read_nodes d) d.word (word_wide d a))))

-- ---- a list that is put once for each element

pub repeated_pushed : {X A : Type 0} (ys before now next : List A) (xs : List X) (i : ℕ) → i < length xs → now ≡ before ++ flat_map (λ _. ys) (take i xs) → next ≡ now ++ ys → next ≡ before ++ flat_map (λ _. ys) (take (i + 1) xs)
repeated_pushed {X} ys before now next xs i l e f =
    let x = element xs i l in
    flat_pushed (λ (_ : X). ys) before now next xs i (get_or xs i x.0) l (get_same xs i x.0 l) e f
  where
    get_same : (zs : List X) (k : ℕ) (d : X) → k < length zs → get_or zs k d ≡ get_or zs k (get_or zs k d)
    get_same [] k d m = absurd (omega (arith, m))
    get_same (z ∷ zs) zero d m = refl
    get_same (z ∷ zs) (suc k) d m = get_same zs k d (omega (arith, m))
