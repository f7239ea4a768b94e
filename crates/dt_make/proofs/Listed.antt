-- A generated list is a list of the model.
use Rattle.std.proofs.Common.{◌≡◌, ℕ, zero, suc, ◌+◌, ◌-◌, ◌%◌, ◌<◌, ◌≤◌, true, eqb, List, [], ◌∷◌, length, get_or, map, drop, refl, sym, subst, ap, ◌∙◌, arith, lit<, cond}
use Rattle.std.specs.List.{AllByRecursion, flat_map, range_with_len}
use Rattle.std.proofs.lemmas.List.Elements.{All-nil}
use Rattle.std.proofs.lemmas.List.FromFn.{length-range_with_len, length-map-range_with_len, get_or-map-range_with_len}
use Rattle.std.proofs.lemmas.Simd.{map-map}
use Rattle.dt_lemmas.proofs.Booleans.{chosen}
use Rattle.dt_lemmas.proofs.Lists.{AllByRecursion-append, length_flat, all_of, all_of_one}
use Rattle.dt_lemmas.proofs.Numbers.{passes_at}
use Rattle.dt_lemmas.proofs.Options.{some_is}
use Rattle.dt_lex.specs.Names.{IsName, bytes_of, padded_name, spells_name}
use Rattle.dt_lex.specs.Numeral.{decimal, numeral, number_of}
use Rattle.dt_lex.proofs.Padded.{padded_is, padded_bytes}
use Rattle.dt_lex.proofs.Printed.{number_of-decimal}
use Rattle.dt_model.specs.ModelData.{ModelData}
use Rattle.dt_sv39.specs.Shipped.{sv39_data, at_d12, at_d21, at_d30}
use Rattle.dt_request.specs.declared.list.Link.{Link}
use Rattle.dt_request.specs.declared.list.Link.TheVariants.{ShareTable}
use Rattle.dt_request.specs.declared.list.AccessWish.{AccessWish}
use Rattle.dt_request.specs.Lists.{IsList, IsNode, IsDemand, IsWish, IsLink, AreNames}
use Rattle.dt_make.specs.Made.{made, context_names, access_name, result_at, demands_at, wish_at, shared_at, links_at, last_read, StandNamed}

-- ---- names

pub spelled : (k : ℕ) → k < 64 → spells_name (97 ∷ decimal k) ≡ true
unfolding numeral
spelled k lt = passes_at (λ j. spells_name (97 ∷ decimal j)) 0 64 k refl (omega arith) (omega arith)

one_position : (i j : ℕ) → i < 64 → j < 64 → access_name i ≡ access_name j → i ≡ j
one_position i j li lj e =
    let words : 97 ∷ decimal i ≡ 97 ∷ decimal j = sym (padded_bytes (97 ∷ decimal i)) ∙ ap bytes_of e ∙ padded_bytes (97 ∷ decimal j) in
    let numerals : decimal i ≡ decimal j = ap (drop 1) words in
    some_is i j (sym (number_of-decimal i (omega arith)) ∙ ap number_of numerals ∙ number_of-decimal j (omega arith))

names_are : (n : ℕ) → n ≤ 64 → AreNames (map access_name (range_with_len 0 n))
names_are n few = record {
  spelled = λ k d lt. let l : k < n = omega (arith, lt, length-map-range_with_len access_name 0 n) in subst IsName (sym (get_or-map-range_with_len access_name 0 n k k d l (omega arith))) (padded_is (97 ∷ decimal k) (spelled k (omega arith)));
  distinct = λ i j d below lt same.
      let l : j < n = omega (arith, lt, length-map-range_with_len access_name 0 n) in
      let first : get_or (map access_name (range_with_len 0 n)) i d ≡ access_name i = get_or-map-range_with_len access_name 0 n i i d (omega arith) (omega arith) in
      let second : get_or (map access_name (range_with_len 0 n)) j d ≡ access_name j = get_or-map-range_with_len access_name 0 n j j d l (omega arith) in
      let one : i ≡ j = one_position i j (omega arith) (omega arith) (sym first ∙ same ∙ second) in
      omega arith;
}

contexts_are : AreNames context_names
contexts_are = record {
  spelled = all_of_one IsName (padded_name (99 ∷ 48 ∷ [])) (padded_is (99 ∷ 48 ∷ []) refl);
  distinct = λ i j d below lt same. omega arith;
}

-- ---- demands

result_is_node : (k : ℕ) → IsNode sv39_data (result_at k)
result_is_node k = chosen (IsNode sv39_data) (eqb (k % 4) 2) at_d21 (cond (eqb (k % 4) 3) at_d30 at_d12) (λ _. lit< tt) (λ _. chosen (IsNode sv39_data) (eqb (k % 4) 3) at_d30 at_d12 (λ _. lit< tt) (λ _. lit< tt))

demands_are : (k : ℕ) → k < 64 → AllByRecursion (IsDemand sv39_data) (demands_at k)
demands_are k lt =
    (tt, (result_is_node k, ((omega arith, omega arith), ((omega arith, omega arith), ((omega arith, omega arith), tt)))))

wish_is : (k : ℕ) → k < 64 → IsWish sv39_data 1 (wish_at k)
wish_is k lt = record {
  context = omega arith;
  few_demands = omega arith;
  demands = all_of (IsDemand sv39_data) (demands_at k) (demands_are k lt);
}

-- ---- links

each_flat : {A : Type 0} (P : A → Type 0) (f : ℕ → List A) (a n : ℕ) → ((k : ℕ) → a ≤ k → k < a + n → AllByRecursion P (f k)) → AllByRecursion P (flat_map f (range_with_len a n))
each_flat P f a zero h = tt
each_flat P f a (suc n) h = AllByRecursion-append P (f a) (flat_map f (range_with_len (a + 1) n)) (h a (omega arith) (omega arith)) (each_flat P f (a + 1) n (λ k low high. h k (omega arith) (omega arith)))

links_are : (n k : ℕ) → 1 ≤ k → k < n → AllByRecursion (IsLink sv39_data n) (links_at k)
links_are n k low high =
    let pages : (k - 1 < n) × (k < n) = (omega arith, high) in
    (pages, chosen (AllByRecursion (IsLink sv39_data n)) (eqb (k % 4) 1) (ShareTable (last_read (k - 1)) (last_read k) ∷ []) [] (λ _. (((omega arith, refl), (high, refl)), tt)) (λ _. tt))

few_links_at : (k : ℕ) → length (links_at k) ≤ 2
few_links_at k =
    let few : length (shared_at k) ≤ 1 = chosen (λ (ls : List Link). length ls ≤ 1) (eqb (k % 4) 1) (ShareTable (last_read (k - 1)) (last_read k) ∷ []) [] (λ _. omega arith) (λ _. omega arith) in
    omega arith

-- ---- the whole list

pub made_is : (n : ℕ) → 1 ≤ n → n ≤ 64 → IsList sv39_data (made n)
unfolding made
made_is n some few = record {
  bounds = record { lo_whole = refl; hi_whole = refl; rising = omega arith; within = omega arith };
  few_kept = omega arith;
  kept = All-nil _;
  few_contexts = omega arith;
  contexts = contexts_are;
  few_accesses = omega (arith, length-map-range_with_len wish_at 0 n);
  names = subst AreNames (sym (map-map (λ (a : AccessWish). a.name) wish_at (range_with_len 0 n))) (names_are n few);
  accesses = λ k d lt. let l : k < n = omega (arith, lt, length-map-range_with_len wish_at 0 n) in subst (IsWish sv39_data 1) (sym (get_or-map-range_with_len wish_at 0 n k k d l (omega arith))) (wish_is k (omega arith));
  few_links = omega (arith, length_flat links_at 2 few_links_at (range_with_len 1 (n - 1)), length-range_with_len 1 (n - 1));
  links = all_of (IsLink sv39_data (length (made n).accesses)) (made n).links (subst (λ (m : ℕ). AllByRecursion (IsLink sv39_data m) (made n).links) (sym (length-map-range_with_len wish_at 0 n)) (each_flat (IsLink sv39_data n) links_at 1 (n - 1) (λ k low high. links_are n k low (omega arith))));
}

pub stand_named : StandNamed sv39_data
stand_named = record { va = refl; kind = refl; user = refl; r0 = refl; d12 = refl; d21 = refl; d30 = refl }

pub list_of : (d : ModelData) (n : ℕ) → d ≡ sv39_data → 1 ≤ n → n ≤ 64 → IsList d (made n)
list_of d n e some few = subst (λ (m : ModelData). IsList m (made n)) (sym e) (made_is n some few)

pub named_in : (d : ModelData) → d ≡ sv39_data → StandNamed d
named_in d e = subst StandNamed (sym e) stand_named
