-- The choices of a list's problem are those of the list in order, and have as many bits.
use Rattle.std.proofs.Common.{◌≡◌, ℕ, suc, ◌+◌, ◌*◌, Bool, true, false, cond, List, [], ◌∷◌, ◌++◌, length, map, replicate, refl, sym, ap, ◌∙◌, append_assoc, length-append}
use Rattle.std.specs.Prelude.{filter, sum_by}
use Rattle.std.specs.List.{flat_map, AllByRecursion}
use Rattle.std.proofs.Math.Seq.{get_or-append_seam}
use Rattle.std.proofs.Math.Nat.{suc-mul, zero-mul, add_comm}
use Rattle.std.proofs.lemmas.List.Folds.{fold-map, sum_by-replicate}
use Rattle.std.proofs.lemmas.List.Sums.{sum_by-append}
use Rattle.dt_bits.specs.Bits.{width}
use Rattle.dt_model.specs.declared.model.Named.{Named}
use Rattle.dt_model.specs.ModelData.{ModelData}
use Rattle.dt_request.specs.declared.list.Requests.{Requests}
use Rattle.dt_request.specs.Choices.{read_nodes, widths_of, choice_bits}
use Rattle.dt_terms.specs.declared.term.Term.{Term}
use Rattle.dt_terms.specs.declared.term.Term.TheVariants.{Choice}
use Rattle.dt_terms.specs.Terms.{width_of_term, is_choice, term_at, choices_from, choices_of}
use Rattle.dt_table.specs.Table.{names_chosen, access_chosen, choices, table}
use Rattle.dt_table.proofs.Extends.{AreChoices, are_choices, table_extends}
use Rattle.dt_encode.specs.Encoding.{HasChoices}

-- ---- which they are

-- the terms at the choices' positions are the choices
found : (all before rest : List Term) (n : ℕ) → all ≡ before ++ rest → length before ≡ n → map (term_at all) (choices_from n rest) ≡ filter is_choice rest
unfolding choices_from
found all before [] n e l = refl
found all before (t ∷ ts) n e l =
    let here : term_at all n ≡ t = ap (λ (xs : List Term). term_at xs n) e ∙ ap (λ (k : ℕ). term_at (before ++ t ∷ ts) k) (sym l) ∙ get_or-append_seam before t ts (Choice (width 1)) in
    let next = found all (before ++ t ∷ []) ts (n + 1) (e ∙ sym (append_assoc before (t ∷ []) ts)) (length-append before (t ∷ []) ∙ ap (λ (k : ℕ). k + 1) l) in
    by_choice (is_choice t) here next
  where
    by_choice : (b : Bool) → term_at all n ≡ t → map (term_at all) (choices_from (n + 1) ts) ≡ filter is_choice ts
        → map (term_at all) (cond b (n ∷ choices_from (n + 1) ts) (choices_from (n + 1) ts)) ≡ cond b (t ∷ filter is_choice ts) (filter is_choice ts)
    by_choice true here next = ap (λ (x : Term). x ∷ map (term_at all) (choices_from (n + 1) ts)) here ∙ ap (λ (l : List Term). t ∷ l) next
    by_choice false here next = next

none_pass : (more : List Term) → AllByRecursion (λ (t : Term). is_choice t ≡ false) more → filter is_choice more ≡ []
none_pass [] h = refl
none_pass (t ∷ ts) h = ap (λ (b : Bool). cond b (t ∷ filter is_choice ts) (filter is_choice ts)) h.0 ∙ none_pass ts h.1

first_pass : (xs more : List Term) → AreChoices xs → AllByRecursion (λ (t : Term). is_choice t ≡ false) more → filter is_choice (xs ++ more) ≡ xs
first_pass [] more h k = none_pass more k
first_pass (x ∷ xs) more h k = ap (λ (b : Bool). cond b (x ∷ filter is_choice (xs ++ more)) (filter is_choice (xs ++ more))) h.0 ∙ ap (λ (l : List Term). x ∷ l) (first_pass xs more h.1 k)

choices_found : (d : ModelData) (r : Requests) → map (term_at (table d r).terms) (choices_of (table d r).terms) ≡ choices d r
choices_found d r =
    let x = table_extends d r in
    found (table d r).terms [] (table d r).terms 0 refl refl ∙ ap (filter is_choice) x.1 ∙ first_pass (choices d r) x.0 (are_choices d r) x.2

-- ---- how many bits they have

abbrev bits_in : List Term → ℕ
bits_in terms = sum_by (λ t. (width_of_term t).0) terms

names_bits : (ns : List Named) → bits_in (names_chosen ns) ≡ widths_of ns
names_bits ns = fold-map (λ (a : ℕ) (t : Term). a + (width_of_term t).0) (λ (n : Named). Choice (width n.width)) 0 ns

repeated_bits : {A : Type 0} (ts : List Term) (xs : List A) → bits_in (flat_map (λ (_ : A). ts) xs) ≡ length xs * bits_in ts
repeated_bits ts [] = sym (zero-mul (bits_in ts))
repeated_bits {A} ts (x ∷ xs) =
    sum_by-append (λ (t : Term). (width_of_term t).0) ts (flat_map (λ (_ : A). ts) xs) ∙ ap (λ (n : ℕ). bits_in ts + n) (repeated_bits ts xs) ∙ suc_times (length xs) (bits_in ts)
  where
    suc_times : (n m : ℕ) → m + n * m ≡ suc n * m
    suc_times n m = sym (suc-mul n m ∙ add_comm (n * m) m)

access_bits : (d : ModelData) → bits_in (access_chosen d) ≡ widths_of d.inputs + read_nodes d * d.word
access_bits d =
    sum_by-append (λ (t : Term). (width_of_term t).0) (names_chosen d.inputs) (replicate (read_nodes d) (Choice (width d.word)))
    ∙ ap (λ (n : ℕ). n + bits_in (replicate (read_nodes d) (Choice (width d.word)))) (names_bits d.inputs)
    ∙ ap (λ (n : ℕ). widths_of d.inputs + n) (sum_by-replicate (λ (t : Term). (width_of_term t).0) (read_nodes d) (Choice (width d.word)))

choices_bits : (d : ModelData) (r : Requests) → bits_in (choices d r) ≡ choice_bits d r
choices_bits d r =
    let regs = flat_map (λ _. names_chosen d.regs) r.contexts in
    let rest = flat_map (λ _. access_chosen d) r.accesses in
    sum_by-append (λ (t : Term). (width_of_term t).0) regs rest
    ∙ ap (λ (n : ℕ). n + bits_in rest) (repeated_bits (names_chosen d.regs) r.contexts ∙ ap (λ (n : ℕ). length r.contexts * n) (names_bits d.regs))
    ∙ ap (λ (n : ℕ). length r.contexts * widths_of d.regs + n) (repeated_bits (access_chosen d) r.accesses ∙ ap (λ (n : ℕ). length r.accesses * n) (access_bits d))

pub table_choices : (d : ModelData) (r : Requests) → HasChoices d r (table d r)
table_choices d r =
    let terms = (table d r).terms in
    record {
      choices = choices_found d r;
      bits = sym (fold-map (λ (a : ℕ) (t : Term). a + (width_of_term t).0) (term_at terms) 0 (choices_of terms)) ∙ ap bits_in (choices_found d r) ∙ choices_bits d r;
    }
