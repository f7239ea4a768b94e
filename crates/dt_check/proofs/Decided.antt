-- At settled cells in which every bit of every choice is known, what is tried solves the problem.
use Rattle.std.proofs.Common.{◌≡◌, ℕ, zero, suc, ◌-◌, ◌^◌, ◌<◌, ◌≤◌, Bool, true, false, not, ◌&&◌, ◌||◌, eqb, List, [], ◌∷◌, length, take, get_or, refl, sym, ap, ◌∙◌, subst, inl, inr, ⊎_elim, arith}
use Rattle.std.specs.List.{list_all, list_any}
use Rattle.std.specs.Prelude.{All}
use Rattle.std.proofs.lemmas.Bool.{cases_lt, false≢true, true≢false, or_parts, eqb-true, eq-eqb, and_from, or_cases, or_left, or_right}
use Rattle.std.proofs.lemmas.List.{get_or-take}
use Rattle.std.proofs.lemmas.Nat.{pow_pos}
use Rattle.dt_lemmas.proofs.Booleans.{and_kept}
use Rattle.dt_bits.specs.Bits.{bit}
use Rattle.dt_bits.specs.declared.op.Op.{Op}
use Rattle.dt_bits.specs.declared.value.Width.{Width}
use Rattle.dt_bits.proofs.BitLemmas.{same_bits, bit_of_and, bit_of_ones, bit_of_small}
use Rattle.dt_bits.proofs.Below.{none_below}
use Rattle.dt_domain.specs.Domain.{DomainOps, DomainLaws, Holds, KnowsBit, IsAllKnown, AreUsedKnown, AreAlike, bits_of}
use Rattle.dt_terms.specs.declared.term.Term.{Term}
use Rattle.dt_terms.specs.declared.term.Term.TheVariants.{Choice, Node}
use Rattle.dt_terms.specs.Terms.{term_at, bits_at, is_choice, AreTerms, choice_at}
use Rattle.dt_terms.specs.Problem.{ProblemData, IsProblem, IsTest}
use Rattle.dt_terms.specs.Values.{IsAssignment, values_of, value_of_term, solves}
use Rattle.dt_terms.proofs.Placed.{placed}
use Rattle.dt_terms.proofs.Choices.{choice_there}
use Rattle.dt_terms.proofs.Valued.{value_is, values_fit, length-values_of}
use Rattle.dt_box.specs.declared.step.Step.TheVariants.{Forward}
use Rattle.dt_box.specs.Changes.{knows_more}
use Rattle.dt_box.specs.Cells.{cell_at, AreCells, HoldAssignment}
use Rattle.dt_box.specs.Steps.{IsStep, IsNodeTerm, operand_cell, propagated_forward, propagated}
use Rattle.dt_box.specs.Stillness.{IsSettled}
use Rattle.dt_box.specs.Unknown.{AreRequiredKnown}
use Rattle.dt_box.proofs.Steps.{fitting, used_cell, step_alike}
use Rattle.dt_box.proofs.Assignments.{node_value}
use Rattle.dt_check.specs.Trials.{HoldChoices}

module _ (D : Type 0) (ops : DomainOps D) (laws : DomainLaws ops) where
  -- a mask of all bits is full
  full_mask : (w m : ℕ) → m < 2 ^ w → ((i : ℕ) → i < w → bit m i ≡ true) → m ≡ 2 ^ w - 1
  full_mask w m l h = same_bits w m (2 ^ w - 1) l (omega (arith, pow_pos w)) (λ i n. h i n ∙ sym (bit_of_ones w i n))

  -- a held number has each known bit
  pub held_bit : (d : D) (x i : ℕ) → ops.IsDomain d → Holds ops d x → bit (ops.known_mask d) i ≡ true → bit x i ≡ bit (ops.known_value d) i
  held_bit d x i h k e =
      sym (and_kept (bit x i) (bit (ops.known_mask d) i) e) ∙ sym (bit_of_and x (ops.known_mask d) i) ∙ ap (λ n. bit n i) (laws.held_agrees d x h k)

  -- a cell and what is told of it, where nothing new is told and all bits are told
  pub record AreJoined (w : ℕ) (cell told : D) : Type 0 where
    pub cell_is : ops.IsDomain cell
    pub told_is : ops.IsDomain told
    pub widths : ops.width cell ≡ ops.width told
    pub bits : bits_of ops cell ≡ w
    pub most : w ≤ 128
    pub held : ops.is_empty cell ≡ false
    pub full : ops.known_mask told ≡ 2 ^ w - 1
    pub still : (ops.is_empty (ops.meet cell told) || knows_more ops cell (ops.meet cell told)) ≡ false

  module _ (w : ℕ) (cell told : D) (j : AreJoined w cell told) where
    meet_held : ops.is_empty (ops.meet cell told) ≡ false
    meet_held = (or_parts _ _ j.still).0

    alike : AreAlike ops cell told
    alike = record { a_is = j.cell_is; b_is = j.told_is; widths = j.widths }

    told_bit : (i : ℕ) → i < w → bit (ops.known_mask told) i ≡ true
    told_bit i l = rw j.full (bit_of_ones w i l)

    met : (i : ℕ) → i < w → KnowsBit ops (ops.meet cell told) i (bit (ops.known_value told) i)
    met i l = laws.meet_knows cell told i (bit (ops.known_value told) i) alike meet_held (inr (told_bit i l, refl))

    -- all bits of the cell are known
    cell_bit : (i : ℕ) → i < w → bit (ops.known_mask cell) i ≡ true
    cell_bit i l =
        let n = none_below 128 (λ k. bit (ops.known_mask (ops.meet cell told)) k && not (bit (ops.known_mask cell) k)) i (or_parts _ _ j.still).1 (omega (arith, j.most)) in
        new_bit (bit (ops.known_mask (ops.meet cell told)) i) (bit (ops.known_mask cell) i) (met i l).0 n
      where
        new_bit : (a b : Bool) → a ≡ true → (a && not b) ≡ false → b ≡ true
        new_bit a true e f = refl
        new_bit a false e f = absurd (true≢false (sym (and_from a true e refl) ∙ f))

    pub cell_known : IsAllKnown ops cell
    cell_known = (j.held, rw j.bits (full_mask w (ops.known_mask cell) (subst (λ n. ops.known_mask cell < 2 ^ n) j.bits (laws.mask_fits cell j.cell_is)) cell_bit))

    -- and it holds what is told
    pub cell_holds : (x : ℕ) → Holds ops told x → Holds ops cell x
    cell_holds x h =
        let y = laws.holds_some cell j.cell_is j.held in
        let same : y.0 ≡ x = same_bits w y.0 x
        (subst (λ n. y.0 < 2 ^ n) j.bits (laws.held_fits cell y.0 j.cell_is y.1))
        (subst (λ n. x < 2 ^ n) (ap (λ v. v.0) (sym j.widths) ∙ j.bits) (laws.held_fits told x j.told_is h))
        (λ i l. held_bit cell y.0 i j.cell_is y.1 (cell_bit i l)
        ∙ sym (laws.meet_knows cell told i (bit (ops.known_value cell) i) alike meet_held (inl (cell_bit i l, refl))).1
        ∙ (met i l).1
        ∙ sym (held_bit told x i j.told_is h (told_bit i l))) in
        subst (Holds ops cell) same y.1

  -- every bit of every choice is known
  pub record AreChoicesKnown (terms : List Term) (cells : List D) : Type 0 where
    pub each : (t i : ℕ) → t < length terms → is_choice (term_at terms t) ≡ true → i < bits_at terms t → bit (ops.known_mask (cell_at ops cells t)) i ≡ true

  module _ (terms : List Term) (right : AreTerms terms) (cells : List D) (h : AreCells ops terms cells) (s : IsSettled ops terms cells)
      (numbers : List ℕ) (i : IsAssignment terms numbers) (c : HoldChoices ops terms cells numbers) (all : AreChoicesKnown terms cells) where
    -- the cell of term t knows all bits, and holds the term's value
    pub record IsDecided (t : ℕ) : Type 0 where
      pub known : IsAllKnown ops (cell_at ops cells t)
      pub holds : Holds ops (cell_at ops cells t) (get_or (values_of terms numbers) t 0)

    bits_cell : (t : ℕ) → t < length terms → bits_of ops (cell_at ops cells t) ≡ bits_at terms t
    bits_cell t l = ap (λ w. w.0) (h.widths t l)

    before : (t a : ℕ) → ((u : ℕ) → u < t → IsDecided u) → a < t → Holds ops (cell_at ops cells a) (get_or (take t (values_of terms numbers)) a 0)
    before t a ih l = subst (Holds ops (cell_at ops cells a)) (sym (get_or-take t (values_of terms numbers) a 0 l)) (ih a l).holds

    decided_node : (t : ℕ) (op : Op) (a b d : ℕ) (w : Width) → t < length terms → term_at terms t ≡ Node op a b d w → ((u : ℕ) → u < t → IsDecided u) → IsDecided t
    decided_node t op a b d w l e ih =
        let p = placed terms t op a b d w right l e in
        let fit = fitting D ops laws terms right t op a b d w cells h p in
        let used : AreUsedKnown ops op (operand_cell ops cells op 0 a) (operand_cell ops cells op 1 b) (operand_cell ops cells op 2 d) = record {
          first = λ m. subst (IsAllKnown ops) (sym (used_cell D ops laws terms right op 0 a cells m)) (ih a (p.a_before m)).known;
          second = λ m. subst (IsAllKnown ops) (sym (used_cell D ops laws terms right op 1 b cells m)) (ih b (p.b_before m)).known;
          third = λ m. subst (IsAllKnown ops) (sym (used_cell D ops laws terms right op 2 d cells m)) (ih d (p.c_before m)).known;
        } in
        let known = laws.forward_known op _ _ _ fit used in
        let holds = laws.forward_holds op _ _ _ (get_or (take t (values_of terms numbers)) a 0) (get_or (take t (values_of terms numbers)) b 0) (get_or (take t (values_of terms numbers)) d 0) fit (record {
          first = λ m. subst (λ x. Holds ops x (get_or (take t (values_of terms numbers)) a 0)) (sym (used_cell D ops laws terms right op 0 a cells m)) (before t a ih (p.a_before m));
          second = λ m. subst (λ x. Holds ops x (get_or (take t (values_of terms numbers)) b 0)) (sym (used_cell D ops laws terms right op 1 b cells m)) (before t b ih (p.b_before m));
          third = λ m. subst (λ x. Holds ops x (get_or (take t (values_of terms numbers)) d 0)) (sym (used_cell D ops laws terms right op 2 d cells m)) (before t d ih (p.c_before m));
        }) in
        let step : IsStep terms (Forward t) = (l, subst IsNodeTerm (sym e) tt) in
        let alike = step_alike D ops laws terms right (Forward t) cells h step in
        let is : propagated ops terms (Forward t) cells ≡ ops.forward op (operand_cell ops cells op 0 a) (operand_cell ops cells op 1 b) (operand_cell ops cells op 2 d) = ap (propagated_forward ops cells) e in
        let bits : bits_of ops (propagated ops terms (Forward t) cells) ≡ bits_at terms t = ap (λ v. v.0) (sym alike.widths) ∙ bits_cell t l in
        let j : AreJoined (bits_at terms t) (cell_at ops cells t) (propagated ops terms (Forward t) cells) = record {
          cell_is = alike.a_is;
          told_is = alike.b_is;
          widths = alike.widths;
          bits = bits_cell t l;
          most = (right t l).width_is.1;
          held = s.held t (omega (arith, h.count));
          full = ap ops.known_mask is ∙ known.1 ∙ ap (λ n. 2 ^ n - 1) (ap (bits_of ops) (sym is) ∙ bits);
          still = s.still (Forward t) step;
        } in
        record {
          known = cell_known (bits_at terms t) (cell_at ops cells t) (propagated ops terms (Forward t) cells) j;
          holds = cell_holds (bits_at terms t) (cell_at ops cells t) (propagated ops terms (Forward t) cells) j (get_or (values_of terms numbers) t 0)
              (subst (λ x. Holds ops x (get_or (values_of terms numbers) t 0)) (sym is)
              (subst (Holds ops (ops.forward op (operand_cell ops cells op 0 a) (operand_cell ops cells op 1 b) (operand_cell ops cells op 2 d))) (node_value D ops laws terms right numbers cells t op a b d w h l e p) holds));
        }

    decided_choice : (t : ℕ) (w : Width) → t < length terms → term_at terms t ≡ Choice w → IsDecided t
    decided_choice t w l e =
        let p = choice_there terms t l (ap is_choice e) in
        let n : get_or (values_of terms numbers) t 0 ≡ get_or numbers (choice_at terms t) 0 = value_is terms numbers t l ∙ ap (value_of_term terms numbers (take t (values_of terms numbers)) t) e in
        record {
          known = (
            s.held t (omega (arith, h.count)),
            rw (bits_cell t l) (full_mask (bits_at terms t) (ops.known_mask (cell_at ops cells t))
                (subst (λ n. ops.known_mask (cell_at ops cells t) < 2 ^ n) (bits_cell t l) (laws.mask_fits _ (h.domains t l)))
                (λ j m. all.each t j l (ap is_choice e) m)),
          );
          holds = subst (Holds ops (cell_at ops cells t)) (sym n) (subst (λ u. Holds ops (cell_at ops cells u) (get_or numbers (choice_at terms t) 0)) p.1 (c.each (choice_at terms t) p.0));
        }

    decided_at : (t : ℕ) (term : Term) → t < length terms → term_at terms t ≡ term → ((u : ℕ) → u < t → IsDecided u) → IsDecided t
    decided_at t (Choice w) l e ih = decided_choice t w l e
    decided_at t (Node op a b d w) l e ih = decided_node t op a b d w l e ih

    decided_below : (n : ℕ) → n ≤ length terms → (t : ℕ) → t < n → IsDecided t
    decided_below zero l t m = absurd (omega arith)
    decided_below (suc n) l t m =
        let ih = decided_below n (omega arith) in
        ⊎_elim
        (λ (k : t < n). ih t k)
        (λ (k : n ≤ t). let e : n ≡ t = omega arith in subst IsDecided e (decided_at n (term_at terms n) (omega arith) refl ih))
        (cases_lt t n)

    pub decided : (t : ℕ) → t < length terms → IsDecided t
    decided t l = decided_below (length terms) (omega arith) t l

    -- each term's value is held
    pub all_hold : HoldAssignment ops terms cells numbers
    all_hold t l = (decided t (omega (arith, h.count))).holds

  one_from_bit : (v : ℕ) → v < 2 → bit v 0 ≡ true → v ≡ 1
  one_from_bit v l e = eqb-true v 1 (sym (bit_of_small v l) ∙ e)

  ones : (terms : List Term) (values required : List ℕ) → ((t : ℕ) → list_any (λ r. eqb r t) required ≡ true → get_or values t 0 ≡ 1) → list_all (λ t. eqb (get_or values t 0) 1) required ≡ true
  ones terms values [] h = refl
  ones terms values (r ∷ required) h =
      and_from (eqb (get_or values r 0) 1) _ (eq-eqb _ 1 (h r (or_left (eqb r r) _ (eq-eqb r r refl))))
      (ones terms values required (λ t e. h t (or_right (eqb r t) _ e)))

  required_there : (terms : List Term) (required : List ℕ) (t : ℕ) → list_any (λ r. eqb r t) required ≡ true → All (IsTest terms) required → IsTest terms t
  required_there terms [] t e h = absurd (false≢true e)
  required_there terms (r ∷ required) t e h =
      ⊎_elim
      (λ (f : eqb r t ≡ true). subst (IsTest terms) (eqb-true r t f) (h 0 0 (omega arith)))
      (λ (f : list_any (λ r. eqb r t) required ≡ true). required_there terms required t f (λ k d m. h (suc k) d (omega arith)))
      (or_cases (eqb r t) _ e)

  -- what is tried solves the problem
  pub decided_solves : (p : ProblemData) (cells : List D) (numbers : List ℕ) → IsProblem p → AreCells ops p.terms cells → IsSettled ops p.terms cells
      → IsAssignment p.terms numbers → HoldChoices ops p.terms cells numbers → AreChoicesKnown p.terms cells → AreRequiredKnown ops p cells → solves p numbers ≡ true
  decided_solves p cells numbers q h s i c k r =
      ones p.terms (values_of p.terms numbers) p.required (λ t e.
      let test = required_there p.terms p.required t e q.required in
      let v = all_hold p.terms q.terms cells h s numbers i c k t (omega (arith, h.count, test.0)) in
      let b = r t test.0 e in
      one_from_bit (get_or (values_of p.terms numbers) t 0)
      (subst (λ n. get_or (values_of p.terms numbers) t 0 < 2 ^ n) test.1 (values_fit p.terms numbers q.terms i t (omega (arith, length-values_of p.terms numbers, test.0))))
      (held_bit (cell_at ops cells t) (get_or (values_of p.terms numbers) t 0) 0 (h.domains t test.0) v b.0 ∙ b.1))
