-- The choices of a list and its two constants are well formed, and stand where the arithmetic of positions says with their widths.
use Rattle.std.proofs.Common.{◌≡◌, ℕ, zero, suc, ◌+◌, ◌*◌, ◌<◌, true, List, [], ◌∷◌, ◌++◌, length, replicate, take, Option, Some, None, refl, ap, ◌∙◌, subst, arith}
use Rattle.std.specs.Prelude.{slice_get, option_map}
use Rattle.std.specs.List.{flat_map, AllByRecursion}
use Rattle.std.proofs.lemmas.List.{append_assoc}
use Rattle.std.proofs.lemmas.Option.{slice_get-map, slice_get_within, get_or_from_slice_get}
use Rattle.dt_lemmas.proofs.Lists.{AllByRecursion-append}
use Rattle.dt_bits.specs.Bits.{IsWidth, width}
use Rattle.dt_bits.specs.declared.op.Op.TheVariants.{Const}
use Rattle.dt_model.specs.declared.model.Named.{Named as NamedWidth}
use Rattle.dt_model.specs.ModelData.{ModelData}
use Rattle.dt_model.specs.Widths.{AreWidths, width_at}
use Rattle.dt_request.specs.declared.list.Requests.{Requests}
use Rattle.dt_request.specs.Choices.{read_nodes}
use Rattle.dt_terms.specs.declared.term.Term.{Term}
use Rattle.dt_terms.specs.declared.term.Term.TheVariants.{Choice, Node}
use Rattle.dt_terms.specs.Terms.{AreTerms, IsTerm, term_at, width_of_term, is_choice}
use Rattle.dt_terms.proofs.Additions.{AreTerms-push, node_is}
use Rattle.dt_forms.specs.Sizes.{Grows}
use Rattle.dt_forms.proofs.Fine.{IsSized, sized_on, mul_more}
use Rattle.dt_table.specs.Table.{names_chosen, access_chosen, choices, regs_at, inputs_at, words_at, bit_node, start}
use Rattle.dt_table.proofs.Ready.{access_length}
use Rattle.dt_table.proofs.Stand.{names_length, repeated_length}

-- ---- terms that lie from a position on

abbrev Lie : List Term → ℕ → List Term → Type 0
Lie terms at xs = (j : ℕ) (x : Term) → slice_get xs j ≡ Some x → slice_get terms (at + j) ≡ Some x

get_front : (xs ys : List Term) (j : ℕ) (x : Term) → slice_get xs j ≡ Some x → slice_get (xs ++ ys) j ≡ Some x
get_front [] ys j x e = absurd (cc)
get_front (y ∷ xs) ys zero x e = e
get_front (y ∷ xs) ys (suc j) x e = get_front xs ys j x e

get_back : (xs ys : List Term) (j : ℕ) (x : Term) → slice_get ys j ≡ Some x → slice_get (xs ++ ys) (length xs + j) ≡ Some x
get_back [] ys j x e = let z : j ≡ 0 + j = omega arith in subst (λ (i : ℕ). slice_get ys i ≡ Some x) z e
get_back (y ∷ xs) ys j x e = let z : suc (length xs + j) ≡ suc (length xs) + j = omega arith in subst (λ (i : ℕ). slice_get (y ∷ xs ++ ys) i ≡ Some x) z (get_back xs ys j x e)

lie_front : (terms : List Term) (at : ℕ) (xs ys : List Term) → Lie terms at (xs ++ ys) → Lie terms at xs
lie_front terms at xs ys h j x e = h j x (get_front xs ys j x e)

lie_back : (terms : List Term) (at : ℕ) (xs ys : List Term) → Lie terms at (xs ++ ys) → Lie terms (at + length xs) ys
lie_back terms at xs ys h j x e =
    let z : at + (length xs + j) ≡ at + length xs + j = omega arith in
    subst (λ (i : ℕ). slice_get terms i ≡ Some x) z (h (length xs + j) x (get_back xs ys j x e))

lie_at : (terms : List Term) (at other : ℕ) (xs : List Term) → at ≡ other → Lie terms at xs → Lie terms other xs
lie_at terms at other xs e h = subst (λ (i : ℕ). Lie terms i xs) e h

lie_copy : {A : Type 0} (terms xs : List Term) (cs : List A) (at c : ℕ) → Lie terms at (flat_map (λ (_ : A). xs) cs) → c < length cs → Lie terms (at + c * length xs) xs
lie_copy terms xs [] at c h l = absurd (omega (arith, l))
lie_copy terms xs (y ∷ cs) at zero h l = lie_at terms at (at + 0 * length xs) xs (omega arith) (lie_front terms at xs _ h)
lie_copy terms xs (y ∷ cs) at (suc c) h l =
    let m = mul_more c (length xs) in
    lie_at terms (at + length xs + c * length xs) (at + suc c * length xs) xs (omega (arith, m)) (lie_copy terms xs cs (at + length xs) c (lie_back terms at xs _ h) (omega (arith, l)))

lie_sized : (terms : List Term) (t : ℕ) (x : Term) (w : ℕ) → slice_get terms t ≡ Some x → (width_of_term x).0 ≡ w → IsSized terms t w
lie_sized terms t x w e f = record {
  within = slice_get_within terms t x e;
  bits = ap (λ (y : Term). (width_of_term y).0) (get_or_from_slice_get terms t x (Choice (width 1)) e) ∙ f;
}

name_there : (o : Option NamedWidth) (w : ℕ) → option_map (λ n. n.width) o ≡ Some w → (n : NamedWidth) × (o ≡ Some n) × (n.width ≡ w)
name_there None w e = absurd (cc)
name_there (Some n) w e = let z : n.width ≡ w = cc in (n, refl, z)

name_sized : (terms : List Term) (at : ℕ) (ns : List NamedWidth) (i w : ℕ) → Lie terms at (names_chosen ns) → width_at ns i ≡ Some w → IsSized terms (at + i) w
name_sized terms at ns i w h e =
    let n = name_there (slice_get ns i) w e in
    lie_sized terms (at + i) (Choice (width n.0.width)) w
    (h i (Choice (width n.0.width)) (slice_get-map (λ (m : NamedWidth). Choice (width m.width)) ns i ∙ ap (option_map (λ (m : NamedWidth). Choice (width m.width))) n.1)) n.2

get_copy : (n : ℕ) (x : Term) (j : ℕ) → j < n → slice_get (replicate n x) j ≡ Some x
get_copy zero x j l = absurd (omega (arith, l))
get_copy (suc n) x zero l = refl
get_copy (suc n) x (suc j) l = get_copy n x j (omega (arith, l))

-- ---- the choices of a list

-- the choices and the two constants have their widths
pub record AreChosen (terms : List Term) (d : ModelData) (r : Requests) : Type 0 where
  pub zero_is : IsSized terms (length (choices d r)) 1
  pub one_is : IsSized terms (length (choices d r) + 1) 1
  pub regs : (c : ℕ) → c < length r.contexts → (i w : ℕ) → width_at d.regs i ≡ Some w → IsSized terms (regs_at d c + i) w
  pub inputs : (k : ℕ) → k < length r.accesses → (i w : ℕ) → width_at d.inputs i ≡ Some w → IsSized terms (inputs_at d r k + i) w
  pub words : (k : ℕ) → k < length r.accesses → (j : ℕ) → j < read_nodes d → IsSized terms (words_at d r k + j) d.word

pub chosen_on : (xs ys : List Term) (k : ℕ) (d : ModelData) (r : Requests) → Grows xs ys k → AreChosen xs d r → AreChosen ys d r
chosen_on xs ys k d r g h = record {
  zero_is = sized_on xs ys k _ 1 g h.zero_is;
  one_is = sized_on xs ys k _ 1 g h.one_is;
  regs = λ c l i w e. sized_on xs ys k _ w g (h.regs c l i w e);
  inputs = λ n l i w e. sized_on xs ys k _ w g (h.inputs n l i w e);
  words = λ n l j m. sized_on xs ys k _ d.word g (h.words n l j m);
}

zero_add : (n : ℕ) → 0 + n ≡ n
zero_add n = omega arith

pub start_chosen : (d : ModelData) (r : Requests) → AreChosen (start d r).terms d r
start_chosen d r =
    let terms = (start d r).terms in
    let bits = bit_node 0 ∷ bit_node 1 ∷ [] in
    let all : Lie terms 0 terms = λ j x e. let z : j ≡ 0 + j = omega arith in subst (λ (i : ℕ). slice_get terms i ≡ Some x) z e in
    let first = lie_front terms 0 (choices d r) bits all in
    let last = lie_back terms 0 (choices d r) bits all in
    let contexts = flat_map (λ _. names_chosen d.regs) r.contexts in
    let accesses = flat_map (λ _. access_chosen d) r.accesses in
    let before : length contexts ≡ length r.contexts * length d.regs = repeated_length (names_chosen d.regs) r.contexts ∙ ap (λ (n : ℕ). length r.contexts * n) (names_length d.regs) in
    let one_access : (k : ℕ) → k < length r.accesses → Lie terms (inputs_at d r k) (access_chosen d) = λ k l.
    lie_at terms (0 + length contexts + k * length (access_chosen d)) (inputs_at d r k) (access_chosen d)
    (ap (λ (n : ℕ). 0 + n + k * length (access_chosen d)) before ∙ ap (λ (n : ℕ). 0 + length r.contexts * length d.regs + k * n) (access_length d) ∙ ap (λ (n : ℕ). n + k * (length d.inputs + read_nodes d)) (zero_add (length r.contexts * length d.regs)))
    (lie_copy terms (access_chosen d) r.accesses (0 + length contexts) k (lie_back terms 0 contexts accesses first) l) in
    record {
      zero_is = let z : 0 + length (choices d r) + 0 ≡ length (choices d r) = omega arith in subst (λ (t : ℕ). IsSized terms t 1) z (lie_sized terms (0 + length (choices d r) + 0) (bit_node 0) 1 (last 0 (bit_node 0) refl) refl);
      one_is = let z : 0 + length (choices d r) + 1 ≡ length (choices d r) + 1 = omega arith in subst (λ (t : ℕ). IsSized terms t 1) z (lie_sized terms (0 + length (choices d r) + 1) (bit_node 1) 1 (last 1 (bit_node 1) refl) refl);
      regs = λ c l i w e.
          name_sized terms (regs_at d c) d.regs i w
          (lie_at terms (0 + c * length (names_chosen d.regs)) (regs_at d c) (names_chosen d.regs) (ap (λ (n : ℕ). 0 + c * n) (names_length d.regs) ∙ zero_add (c * length d.regs))
          (lie_copy terms (names_chosen d.regs) r.contexts 0 c (lie_front terms 0 contexts accesses first) l)) e;
      inputs = λ k l i w e. name_sized terms (inputs_at d r k) d.inputs i w (lie_front terms (inputs_at d r k) (names_chosen d.inputs) (replicate (read_nodes d) (Choice (width d.word))) (one_access k l)) e;
      words = λ k l j m.
          let s = lie_back terms (inputs_at d r k) (names_chosen d.inputs) (replicate (read_nodes d) (Choice (width d.word))) (one_access k l) in
          let t = lie_at terms (inputs_at d r k + length (names_chosen d.inputs)) (words_at d r k) (replicate (read_nodes d) (Choice (width d.word))) (ap (λ (n : ℕ). inputs_at d r k + n) (names_length d.inputs)) s in
          lie_sized terms (words_at d r k + j) (Choice (width d.word)) d.word (t j (Choice (width d.word)) (get_copy (read_nodes d) (Choice (width d.word)) j m)) refl;
    }

-- ---- they are well formed

abbrev IsOpen : Term → Type 0
IsOpen x = (is_choice x ≡ true) × IsWidth (width_of_term x).0

names_open : (ns : List NamedWidth) → AreWidths ns → AllByRecursion IsOpen (names_chosen ns)
names_open [] h = tt
names_open (n ∷ ns) h = ((refl, h.0), names_open ns h.1)

copies_open : (n : ℕ) (x : Term) → IsOpen x → AllByRecursion IsOpen (replicate n x)
copies_open zero x h = tt
copies_open (suc n) x h = (h, copies_open n x h)

repeated_open : {A : Type 0} (xs : List Term) (cs : List A) → AllByRecursion IsOpen xs → AllByRecursion IsOpen (flat_map (λ (_ : A). xs) cs)
repeated_open xs [] h = tt
repeated_open {A} xs (c ∷ cs) h = AllByRecursion-append IsOpen xs (flat_map (λ (_ : A). xs) cs) h (repeated_open xs cs h)

open_fits : (earlier : List Term) (x : Term) → IsOpen x → IsTerm earlier x
open_fits earlier (Choice w) h = record { width_is = h.1; fitting = tt }
open_fits earlier (Node op a b c w) h = absurd (cc)

open_at : (xs : List Term) (t : ℕ) → AllByRecursion IsOpen xs → t < length xs → IsOpen (term_at xs t)
open_at [] t h l = absurd (omega (arith, l))
open_at (x ∷ xs) zero h l = h.0
open_at (x ∷ xs) (suc t) h l = open_at xs t h.1 (omega (arith, l))

open_terms : (xs : List Term) → AllByRecursion IsOpen xs → AreTerms xs
open_terms xs h t l = open_fits (take t xs) (term_at xs t) (open_at xs t h l)

bit_term : (terms : List Term) (n : ℕ) → n < 2 → IsTerm terms (bit_node n)
bit_term terms n l = node_is terms (Const (record { width = width 1; bits = n })) 0 0 0 ((omega arith, omega arith), l) refl refl (omega arith, omega arith)

pub start_terms : (d : ModelData) (r : Requests) → AreWidths d.regs → AreWidths d.inputs → IsWidth d.word → AreTerms (start d r).terms
start_terms d r regs inputs word =
    let xs = choices d r in
    let free = AllByRecursion-append IsOpen (flat_map (λ _. names_chosen d.regs) r.contexts) (flat_map (λ _. access_chosen d) r.accesses) (repeated_open (names_chosen d.regs) r.contexts (names_open d.regs regs))
    (repeated_open (access_chosen d) r.accesses (AllByRecursion-append IsOpen (names_chosen d.inputs) (replicate (read_nodes d) (Choice (width d.word))) (names_open d.inputs inputs) (copies_open (read_nodes d) (Choice (width d.word)) (refl, word)))) in
    let one = AreTerms-push xs (bit_node 0) (open_terms xs free) (bit_term xs 0 (omega arith)) in
    let two = AreTerms-push (xs ++ bit_node 0 ∷ []) (bit_node 1) one (bit_term (xs ++ bit_node 0 ∷ []) 1 (omega arith)) in
    subst AreTerms (append_assoc xs (bit_node 0 ∷ []) (bit_node 1 ∷ [])) two
