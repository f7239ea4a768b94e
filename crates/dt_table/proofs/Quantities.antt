-- The forms of a quantity hold exactly where there is such a number and the test holds of it.
use Rattle.std.proofs.Common.{◌≡◌, ℕ, zero, suc, ◌+◌, ◌<◌, Bool, true, false, not, ◌&&◌, ◌||◌, cond, eqb, ltb, leb, List, [], ◌∷◌, ◌++◌, length, map, Option, Some, None, refl, sym, ap, ◌∙◌, arith}
use Rattle.std.specs.Prelude.{slice_get, find, option_map, is_some, IsSome}
use Rattle.std.specs.List.{list_all, AllByRecursion}
use Rattle.std.specs.Option.{option_to_list}
use Rattle.std.proofs.lemmas.Bool.{eq-eqb, ne_eqb, false≢true}
use Rattle.dt_lemmas.proofs.Numbers.{turn_le}
use Rattle.dt_model.specs.declared.model.Named.{Named as NamedWidth}
use Rattle.dt_model.specs.ModelData.{ModelData, ActData, bind, read, branch, fault, done}
use Rattle.dt_model.specs.Faults.{steps, is_read}
use Rattle.dt_model.specs.Widths.{width_at}
use Rattle.dt_request.specs.declared.list.AccessWish.{AccessWish}
use Rattle.dt_request.specs.declared.list.Requests.{Requests}
use Rattle.dt_request.specs.declared.list.Quantity.{Quantity}
use Rattle.dt_request.specs.declared.list.Quantity.TheVariants.{Reg, Input, Word, Cell, Pa}
use Rattle.dt_request.specs.Lists.{width_of, read_width}
use Rattle.dt_walk.specs.declared.run.End.{End}
use Rattle.dt_walk.specs.declared.run.End.TheVariants.{Done, Fault}
use Rattle.dt_walk.specs.declared.run.ReadMade.{ReadMade}
use Rattle.dt_walk.specs.Walks.{RunData}
use Rattle.dt_satisfy.specs.Demands.{Made, has, is_done, pa_of, read_at, value_of, is_masked, is_within}
use Rattle.dt_forms.specs.Meaning.{Valuation, flag, is_one}
use Rattle.dt_forms.specs.Forms.{Form, term, number, form_value, not_of, less_of}
use Rattle.dt_forms.proofs.Lawful.{flag_one}
use Rattle.dt_forms.proofs.FormValues.{not_form, both_form, or_form}
use Rattle.dt_forms.proofs.Tells.{Tells, none_tells, more_tell, tells_as, one_tells, both_tell}
use Rattle.dt_table.specs.declared.out.Out.{Out}
use Rattle.dt_table.specs.Told.{told, told_step, made_if}
use Rattle.dt_table.specs.Claims.{ends_only}
use Rattle.dt_ways.specs.Ends.{ends_done}
use Rattle.dt_table.specs.Apart.{Sized, pages_at}
use Rattle.dt_table.specs.Demands.{is_masked_form, is_within_form, result_form, quantity_forms}
use Rattle.dt_table.specs.Outs.{out_at}
use Rattle.dt_table.specs.Images.{bits_from}
use Rattle.dt_table.specs.Table.{regs_at, inputs_at, access_of}
use Rattle.dt_table.proofs.Ends.{AreTruths, ends_tell}
use Rattle.dt_table.proofs.Flagged.{AllOuts, IsFlagged}
use Rattle.dt_table.proofs.Results.{made_from, come_of, page_told}
use Rattle.dt_table.proofs.Told.{AreNodes, regs_of, inputs_of, done_same, same_if, reads_if}
use Rattle.dt_table.proofs.NodeKinds.{pages_have, each_out}

-- ---- tests of a number

-- the form of each term tells whether the test holds of the term's number
abbrev pub IsTest : Valuation → (ℕ → Form) → (ℕ → Bool) → Type 0
IsTest v form test = (t : ℕ) → form_value v (form t) ≡ flag (test (v t).bits)

pub masked_test : (v : Valuation) (w mask value : ℕ) → IsTest v (is_masked_form w mask value) (is_masked mask value)
masked_test v w mask value t = refl

pub within_test : (v : Valuation) (w lo hi : ℕ) → IsTest v (is_within_form w lo hi) (is_within lo hi)
within_test v w lo hi t =
    let n = (v t).bits in
    both_form v (not_of (less_of (term t) (number w lo))) (not_of (less_of (number w hi) (term t))) (not (ltb n lo)) (not (ltb hi n))
    (not_form v (less_of (term t) (number w lo)) (ltb n lo) refl) (not_form v (less_of (number w hi) (term t)) (ltb hi n) refl)
    ∙ ap (λ (b : Bool). flag (b && not (ltb hi n))) (sym (turn_le lo n)) ∙ ap (λ (b : Bool). flag (leb lo n && b)) (sym (turn_le n hi))

test_one : (v : Valuation) (form : ℕ → Form) (test : ℕ → Bool) (t : ℕ) → IsTest v form test → is_one (form_value v (form t)) ≡ test (v t).bits
test_one v form test t is = ap is_one (is t) ∙ flag_one (test (v t).bits)

-- ---- registers and inputs

number_at : (v : Valuation) (ns : List NamedWidth) (at i : ℕ) → IsSome (width_at ns i) → slice_get (bits_from v at ns) i ≡ Some (v (at + i)).bits
number_at v [] at i s = absurd (false≢true s)
number_at v (n ∷ ns) at zero s = let z : at ≡ at + 0 = omega arith in ap (λ (j : ℕ). Some (v j).bits) z
number_at v (n ∷ ns) at (suc i) s = let z : at + 1 + i ≡ at + suc i = omega arith in number_at v ns (at + 1) i s ∙ ap (λ (j : ℕ). Some (v j).bits) z

number_tells : (v : Valuation) (ns : List NamedWidth) (at i : ℕ) (form : ℕ → Form) (test : ℕ → Bool) → IsSome (width_at ns i) → IsTest v form test → Tells v (form (at + i) ∷ []) (has (slice_get (bits_from v at ns) i) test)
number_tells v ns at i form test s is = one_tells v (form (at + i)) _ (test_one v form test (at + i) is ∙ sym (ap (λ (o : Option ℕ). has o test) (number_at v ns at i s)))

-- ---- reads

-- the read at a node, as its terms tell it
abbrev pub read_of : Valuation → ℕ → Out → ReadMade
read_of v n o = record { node = n; cell = (v o.value).bits; word = (v o.word).bits }

-- whether a step's terms tell of a read
abbrev makes : Valuation → ActData → Out → Bool
makes v (read x e g t f) o = is_one (v o.by_then)
makes v _ o = false

abbrev found : List ReadMade → ℕ → Option ReadMade
found ms n = find (λ m. eqb m.node n) ms

found_if : (c b : Bool) (m : ReadMade) (ms : List ReadMade) (n : ℕ) → (b ≡ true → c ≡ true) → found (cond c (made_if b m ms) ms) n ≡ cond (eqb m.node n && b) (Some m) (found ms n)
found_if true true m ms n h = by_node (eqb m.node n)
  where
    by_node : (e : Bool) → cond e (Some m) (found ms n) ≡ cond (e && true) (Some m) (found ms n)
    by_node true = refl
    by_node false = refl
found_if true false m ms n h = by_node (eqb m.node n)
  where
    by_node : (e : Bool) → found ms n ≡ cond (e && false) (Some m) (found ms n)
    by_node true = refl
    by_node false = refl
found_if false true m ms n h = absurd (false≢true (h refl))
found_if false false m ms n h = by_node (eqb m.node n)
  where
    by_node : (e : Bool) → found ms n ≡ cond (e && false) (Some m) (found ms n)
    by_node true = refl
    by_node false = refl

none_found : (b : Bool) (m o : Option ReadMade) → o ≡ cond (b && false) m o
none_found true m o = refl
none_found false m o = refl

step_found : (v : Valuation) (address k : ℕ) (p : ActData) (o : Out) (r : RunData) (n : ℕ) → IsFlagged v address p o
    → found (cond (is_one (v o.come)) (told_step v k p o r) r).reads n ≡ cond (eqb k n && makes v p o) (Some (read_of v k o)) (found r.reads n)
step_found v address k (bind x e to) o r n h = ap (λ (ms : List ReadMade). found ms n) (same_if (is_one (v o.come)) (told_step v k (bind x e to) o r) r refl) ∙ none_found (eqb k n) (Some (read_of v k o)) (found r.reads n)
step_found v address k (branch e t f) o r n h = ap (λ (ms : List ReadMade). found ms n) (same_if (is_one (v o.come)) (told_step v k (branch e t f) o r) r refl) ∙ none_found (eqb k n) (Some (read_of v k o)) (found r.reads n)
step_found v address k (fault c) o r n h = ap (λ (ms : List ReadMade). found ms n) (same_if (is_one (v o.come)) (told_step v k (fault c) o r) r refl) ∙ none_found (eqb k n) (Some (read_of v k o)) (found r.reads n)
step_found v address k (done e p) o r n h = ap (λ (ms : List ReadMade). found ms n) (same_if (is_one (v o.come)) (told_step v k (done e p) o r) r refl) ∙ none_found (eqb k n) (Some (read_of v k o)) (found r.reads n)
step_found v address k (read x e g t f) o r n h =
    ap (λ (ms : List ReadMade). found ms n) (reads_if (is_one (v o.come)) (told_step v k (read x e g t f) o r) r)
    ∙ found_if (is_one (v o.come)) (is_one (v o.by_then)) (read_of v k o) r.reads n h.comes

-- no earlier node reads
not_found : (v : Valuation) (address : ℕ) (ps : List ActData) (os : List Out) (k n : ℕ) → AllOuts (IsFlagged v address) ps os → n < k → found (told v ps os k).reads n ≡ None
not_found v address [] os k n h l = refl
not_found v address (p ∷ ps) [] k n h l = refl
not_found v address (p ∷ ps) (o ∷ os) k n h l =
    let r = told v ps os (k + 1) in
    step_found v address k p o r n h.0
    ∙ ap (λ (b : Bool). cond (b && makes v p o) (Some (read_of v k o)) (found r.reads n)) (ne_eqb k n (λ e. omega (arith, e, l)))
    ∙ not_found v address ps os (k + 1) n h.1 (omega (arith, l))

-- what is read at the j-th node from here
found_at : (v : Valuation) (address : ℕ) (ps : List ActData) (os : List Out) (k j n : ℕ) (q : ActData) → AllOuts (IsFlagged v address) ps os → length os ≡ length ps → slice_get ps j ≡ Some q → k + j ≡ n
    → found (told v ps os k).reads n ≡ cond (makes v q (out_at os j)) (Some (read_of v n (out_at os j))) None
found_at v address [] os k j n q h e s at = absurd (cc)
found_at v address (p ∷ ps) [] k j n q h e s at = absurd (omega (arith, e))
found_at v address (p ∷ ps) (o ∷ os) k zero n q h e s at =
    let r = told v ps os (k + 1) in
    let here : k ≡ n = omega (arith, at) in
    let same : p ≡ q = cc in
    step_found v address k p o r n h.0
    ∙ ap (λ (b : Bool). cond (b && makes v p o) (Some (read_of v k o)) (found r.reads n)) (eq-eqb k n here)
    ∙ ap (λ (l : Option ReadMade). cond (makes v p o) (Some (read_of v k o)) l) (not_found v address ps os (k + 1) n h.1 (omega (arith, here)))
    ∙ ap (λ (m : ℕ). cond (makes v p o) (Some (read_of v m o)) None) here
    ∙ ap (λ (x : ActData). cond (makes v x o) (Some (read_of v n o)) None) same
found_at v address (p ∷ ps) (o ∷ os) k (suc j) n q h e s at =
    let r = told v ps os (k + 1) in
    step_found v address k p o r n h.0
    ∙ ap (λ (b : Bool). cond (b && makes v p o) (Some (read_of v k o)) (found r.reads n)) (ne_eqb k n (λ i. omega (arith, i, at)))
    ∙ found_at v address ps os (k + 1) j n q h.1 (omega (arith, e)) s (omega (arith, at))

makes_is : (v : Valuation) (p : ActData) (o : Out) → is_read p ≡ true → makes v p o ≡ is_one (v o.by_then)
makes_is v (bind x e to) o h = absurd (false≢true h)
makes_is v (read x e g t f) o h = refl
makes_is v (branch e t f) o h = absurd (false≢true h)
makes_is v (fault c) o h = absurd (false≢true h)
makes_is v (done e p) o h = absurd (false≢true h)

-- the read of a read node is made where its term is 1
pub read_told : (v : Valuation) (d : ModelData) (os : List Out) (n : ℕ) (p : ActData) → AreNodes v d os → slice_get (steps d) n ≡ Some p → is_read p ≡ true
    → read_at (told v (steps d) os 0) n ≡ cond (is_one (v (out_at os n).by_then)) (Some (read_of v n (out_at os n))) None
read_told v d os n p h s i =
    found_at v d.address (steps d) os 0 n n p h.flagged h.count s (omega arith)
    ∙ ap (λ (b : Bool). cond b (Some (read_of v n (out_at os n))) None) (makes_is v p (out_at os n) i)

read_tells : (v : Valuation) (run : RunData) (n : ℕ) (o : Out) (form : ℕ → Form) (test : ℕ → Bool) (part : ReadMade → ℕ) (t : ℕ) → IsTest v form test → part (read_of v n o) ≡ (v t).bits
    → read_at run n ≡ cond (is_one (v o.by_then)) (Some (read_of v n o)) None → Tells v (term o.by_then ∷ form t ∷ []) (has (option_map part (read_at run n)) test)
read_tells v run n o form test part t is e f =
    let made = is_one (v o.by_then) in
    tells_as v (term o.by_then ∷ form t ∷ []) (made && test (v t).bits) _
    (by_made made ∙ sym (ap (λ (q : Option ReadMade). has (option_map part q) test) f))
    (more_tell v (term o.by_then) (form t ∷ []) made (test (v t).bits) refl (one_tells v (form t) (test (v t).bits) (test_one v form test t is)))
  where
    by_made : (b : Bool) → (b && test (v t).bits) ≡ has (option_map part (cond b (Some (read_of v n o)) None)) test
    by_made true = ap test (sym e)
    by_made false = refl

-- ---- results

abbrev address_of : ℕ → ℕ → ℕ
address_of pa page = pa

abbrev AreAway : Valuation → List Sized → Type 0
AreAway v xs = AllByRecursion (λ (x : Sized). v x.out.away ≡ flag (not (is_one (v x.out.come)))) xs

pages_away : (v : Valuation) (ps : List ActData) (os : List Out) → AreTruths v os → AreAway v (pages_at ps os)
pages_away v ps os h =
    let away : Out → Type 0 = λ (o : Out). v o.away ≡ flag (not (is_one (v o.come))) in
    pages_have (λ (p : ActData) (o : Out). away o) (λ (x : Sized). away x.out) (λ e p o k. k) ps os (each_out away ps os h)

results_tell : (v : Valuation) (form : ℕ → Form) (test : ℕ → Bool) (xs : List Sized) → IsTest v form test → AreAway v xs → Tells v (map (result_form form) xs) (list_all test (made_from address_of v come_of xs))
results_tell v form test [] is h = none_tells v
results_tell v form test (x ∷ xs) is h =
    let c = is_one (v x.out.come) in
    let here = not c || test (v x.out.value).bits in
    let rest = list_all test (made_from address_of v come_of xs) in
    tells_as v (map (result_form form) (x ∷ xs)) (here && rest) (list_all test (made_from address_of v come_of (x ∷ xs))) (by_come c)
    (more_tell v (result_form form x) (map (result_form form) xs) here rest
    (ap is_one (or_form v (term x.out.away) (form x.out.value) (not c) (test (v x.out.value).bits) h.0 (is x.out.value)) ∙ flag_one here)
    (results_tell v form test xs is h.1))
  where
    by_come : (c : Bool) → ((not c || test (v x.out.value).bits) && list_all test (made_from address_of v come_of xs)) ≡ list_all test (cond c ((v x.out.value).bits ∷ made_from address_of v come_of xs) (made_from address_of v come_of xs))
    by_come true = refl
    by_come false = refl

end_has : (end : End) (test : ℕ → Bool) → (is_done end && list_all test (option_to_list (pa_of end))) ≡ has (pa_of end) test
end_has (Done n pa page) test = by_test (test pa)
  where
    by_test : (b : Bool) → (b && true) ≡ b
    by_test true = refl
    by_test false = refl
end_has (Fault n c) test = refl

result_tells : (v : Valuation) (d : ModelData) (os : List Out) (form : ℕ → Form) (test : ℕ → Bool) → AreNodes v d os → IsTest v form test
    → Tells v (ends_only ends_done (steps d) os ++ map (result_form form) (pages_at (steps d) os)) (has (pa_of (told v (steps d) os 0).end) test)
result_tells v d os form test h is =
    let end = (told v (steps d) os 0).end in
    let all = list_all test (made_from address_of v come_of (pages_at (steps d) os)) in
    tells_as v (ends_only ends_done (steps d) os ++ map (result_form form) (pages_at (steps d) os)) (is_done end && all) (has (pa_of end) test)
    (ap (λ (l : List ℕ). is_done end && list_all test l) (sym (page_told address_of v (steps d) os 0 h.ends)) ∙ end_has end test)
    (both_tell v (ends_only ends_done (steps d) os) (map (result_form form) (pages_at (steps d) os)) (is_done end) all
    (ends_tell v ends_done (steps d) os end (is_done end) h.away h.ends (done_same end))
    (results_tell v form test (pages_at (steps d) os) is (pages_away v (steps d) os h.away)))

-- ---- all quantities

-- an access, as the values tell it
abbrev pub told_made : Valuation → ModelData → Requests → ℕ → AccessWish → List Out → Made
told_made v d r k a os = record { regs = regs_of v d a; inputs = inputs_of v d r k; run = told v (steps d) os 0 }

-- a node that has a word is a read node
read_there : (w : ℕ) (o : Option ActData) → IsSome (read_width w o) → (p : ActData) × (o ≡ Some p) × (is_read p ≡ true)
read_there w None h = absurd (false≢true h)
read_there w (Some p) h = (p, refl, by_read (is_read p) h)
  where
    by_read : (b : Bool) → is_some (cond b (Some w) None) ≡ true → b ≡ true
    by_read true e = refl
    by_read false e = absurd (false≢true e)

pub quantity_tells : (v : Valuation) (d : ModelData) (r : Requests) (k : ℕ) (a : AccessWish) (os : List Out) (q : Quantity) (form : ℕ → Form) (test : ℕ → Bool) → AreNodes v d os → IsSome (width_of d q) → IsTest v form test
    → Tells v (quantity_forms d (access_of d r k a) os q form) (has (value_of (told_made v d r k a os) q) test)
quantity_tells v d r k a os (Reg i) form test h s is = number_tells v d.regs (regs_at d a.context) i form test s is
quantity_tells v d r k a os (Input i) form test h s is = number_tells v d.inputs (inputs_at d r k) i form test s is
quantity_tells v d r k a os (Word n) form test h s is =
    let p = read_there d.word (slice_get (steps d) n) s in
    read_tells v (told v (steps d) os 0) n (out_at os n) form test (λ m. m.word) (out_at os n).word is refl (read_told v d os n p.0 h p.1 p.2)
quantity_tells v d r k a os (Cell n) form test h s is =
    let p = read_there d.address (slice_get (steps d) n) s in
    read_tells v (told v (steps d) os 0) n (out_at os n) form test (λ m. m.cell) (out_at os n).value is refl (read_told v d os n p.0 h p.1 p.2)
quantity_tells v d r k a os Pa form test h s is = result_tells v d os form test h is
