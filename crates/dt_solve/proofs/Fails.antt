-- What a trial that failed leads to.
use Rattle.std.proofs.Common.{◌≡◌, ℕ, suc, ◌+◌, ◌<◌, Bool, true, false, cond, eqb, List, [], ◌∷◌, ◌++◌, length, map, get_or, reverse, replicate, Option, Some, refl, sym, ap, ◌∙◌, subst, arith, append_assoc, take}
use Rattle.std.specs.Prelude.{All, IfSome}
use Rattle.std.specs.List.{AllByRecursion, list_all}
use Rattle.std.proofs.lemmas.Bool.{true≢false, cond-true}
use Rattle.std.proofs.lemmas.List.{ext_get_or, length-map, length-reverse}
use Rattle.std.proofs.lemmas.List.FromFn.{get_or-map-range_with_len, length-map-range_with_len}
use Rattle.dt_domain.specs.Domain.{DomainOps, DomainLaws, DecidingLaws, Holds}
use Rattle.dt_terms.specs.declared.term.Term.{Term}
use Rattle.dt_terms.specs.declared.term.Term.TheVariants.{Choice, Node}
use Rattle.dt_terms.specs.Terms.{choices_of, choice_at, term_at, is_choice}
use Rattle.dt_terms.specs.Problem.{ProblemData, IsProblem}
use Rattle.dt_terms.specs.Values.{IsAssignment, values_of, value_of_term, solves}
use Rattle.dt_terms.proofs.Choices.{choice_stands}
use Rattle.dt_terms.proofs.Valued.{value_is}
use Rattle.dt_box.specs.Cells.{AreCells, HoldAssignment}
use Rattle.dt_box.specs.Steps.{after_bit}
use Rattle.dt_box.specs.Stillness.{HasNoEmpty, IsSettled}
use Rattle.dt_box.specs.Trails.{back, IsKept}
use Rattle.dt_box.specs.Unknown.{IsUnknownBit, AreRequiredKnown}
use Rattle.dt_box.proofs.Steps.{bit_cells}
use Rattle.dt_box.proofs.Trails.{kept_back, back_whole}
use Rattle.dt_log.specs.declared.line.Line.{Line}
use Rattle.dt_log.specs.declared.line.Line.TheVariants.{Split, Loose, Unvisited}
use Rattle.dt_log.specs.Trees.{try_line}
use Rattle.dt_check.specs.declared.pending.Pending.{Pending}
use Rattle.dt_check.specs.Trials.{choice_cell, picks, pick_at, tried, IsTry, IsFailedTrial, HoldChoices}
use Rattle.dt_check.specs.Records.{aimed}
use Rattle.dt_check.specs.Tests.{is_try}
use Rattle.dt_check.specs.Waiting.{waiting, Stacked, AtSplits}
use Rattle.dt_check.proofs.Testing.{each_test, try_test}
use Rattle.dt_check.proofs.Waiting.{stacked_more, waiting_kept, turned}
use Rattle.dt_check.proofs.Decided.{decided_solves}
use Rattle.dt_check.proofs.Bound.{bit_required}
use Rattle.dt_solve.specs.Tries.{tries_from, held_or_picks}
use Rattle.dt_solve.specs.Choosing.{AreKnown}
use Rattle.dt_solve.specs.Searching.{HasChanged, CanTurn, AllFollow, IsRead, HoldAim, AreAim, NoAim, IsSearching, left}
use Rattle.dt_solve.proofs.Tries.{tries_are}
use Rattle.dt_solve.proofs.Turns.{read_split, read_loose, read_rest}
use Rattle.dt_solve.proofs.Moves.{changed_bit, turns_same, long_waiting}

abbrev IsTold : {D : Type 0} → DomainOps D → ProblemData → List D → Option (List ℕ) → List ℕ → Type 0
IsTold ops p cells aim numbers = IfSome aim (λ a. length a ≡ length (choices_of p.terms) → numbers ≡ held_or_picks ops p.terms cells a)

module _ (D : Type 0) (ops : DomainOps D) (p : ProblemData) where
  choice_value : (a : List ℕ) (k : ℕ) → k < length (choices_of p.terms) → get_or (values_of p.terms a) (get_or (choices_of p.terms) k 0) 0 ≡ get_or a k 0
  choice_value a k l =
      let s = choice_stands p.terms k l in
      let t = get_or (choices_of p.terms) k 0 in
      value_is p.terms a t s.0 ∙ by_term (term_at p.terms t) s.1 ∙ ap (λ j. get_or a j 0) s.2
    where
      by_term : (term : Term) → is_choice term ≡ true → value_of_term p.terms a (take (get_or (choices_of p.terms) k 0) (values_of p.terms a)) (get_or (choices_of p.terms) k 0) term ≡ get_or a (choice_at p.terms (get_or (choices_of p.terms) k 0)) 0
      by_term (Choice w) e = refl
      by_term (Node op x y z w) e = absurd (true≢false (sym e))

  -- an aim that is held is what is tried
  aim_held : (cells : List D) (a : List ℕ) → AreCells ops p.terms cells → HoldAssignment ops p.terms cells a → IsAssignment p.terms a → held_or_picks ops p.terms cells a ≡ a
  aim_held cells a h all i =
      let n = length-map-range_with_len (aimed ops p.terms cells a) 0 (length (choices_of p.terms)) in
      ext_get_or 0 (held_or_picks ops p.terms cells a) a (n ∙ sym i.count)
      (λ k l.
      let m : k < length (choices_of p.terms) = omega arith in
      let z : 0 + k ≡ k = omega arith in
      let s = choice_stands p.terms k m in
      get_or-map-range_with_len (aimed ops p.terms cells a) 0 (length (choices_of p.terms)) k k 0 m z
      ∙ cond-true (ops.holds (choice_cell ops p.terms cells k) (get_or a k 0)) (get_or a k 0) (pick_at ops cells (get_or (choices_of p.terms) k 0))
      (subst (Holds ops (choice_cell ops p.terms cells k)) (choice_value a k m) (all (get_or (choices_of p.terms) k 0) (omega (arith, s.0, h.count)))))

  told_some : (cells : List D) (aim : Option (List ℕ)) (numbers a : List ℕ) → IsTold ops p cells aim numbers → aim ≡ Some a → length a ≡ length (choices_of p.terms) → numbers ≡ held_or_picks ops p.terms cells a
  told_some cells aim numbers a t e l = subst (λ o. IfSome o (λ a. length a ≡ length (choices_of p.terms) → numbers ≡ held_or_picks ops p.terms cells a)) e t l

  -- what is tried is the aim, where it solves
  pub are_aim : (cells : List D) (aim : Option (List ℕ)) (numbers : List ℕ) → AreCells ops p.terms cells → HoldAim ops p aim cells
      → IfSome aim (λ a. length a ≡ length (choices_of p.terms) → numbers ≡ held_or_picks ops p.terms cells a) → AreAim p aim numbers
  are_aim cells aim numbers h all t a e i s = told_some cells aim numbers a t e i.count ∙ aim_held cells a h (all a e i s) i

  pub no_aim : (aim : Option (List ℕ)) (numbers : List ℕ) → AreAim p aim numbers → solves p numbers ≡ false → NoAim p aim
  no_aim aim numbers h f a e i s = true≢false (sym s ∙ sym (ap (solves p) (h a e i s)) ∙ f)

  -- each pair that was tried names a number that is held
  tries_held : (cells : List D) (numbers all : List ℕ) (picked : List ℕ) (k : ℕ) → ((j : ℕ) → j < length numbers → IsTry ops p.terms cells (k + j, get_or numbers j 0))
      → AllByRecursion (IsTry ops p.terms cells) (tries_from k picked numbers)
  unfolding tries_from
  tries_held cells numbers all [] k h = tt
  tries_held cells [] all (q ∷ picked) k h = tt
  tries_held cells (v ∷ numbers) all (q ∷ picked) k h =
      let z : k + 0 ≡ k = omega arith in
      either (eqb q v) (subst (λ j. IsTry ops p.terms cells (j, v)) z (h 0 (omega arith)))
      (tries_held cells numbers all picked (suc k) (λ j l. let e : k + suc j ≡ suc k + j = omega arith in subst (λ i. IsTry ops p.terms cells (i, get_or numbers j 0)) e (h (suc j) (omega arith))))
    where
      either : (b : Bool) → IsTry ops p.terms cells (k, v) → AllByRecursion (IsTry ops p.terms cells) (tries_from (suc k) picked numbers)
          → AllByRecursion (IsTry ops p.terms cells) (cond b (tries_from (suc k) picked numbers) ((k, v) ∷ tries_from (suc k) picked numbers))
      either true a r = r
      either false a r = (a, r)

  -- and together with the picks they are the numbers
  pub tried_are : (cells : List D) (numbers : List ℕ) → length numbers ≡ length (choices_of p.terms) → tried ops p.terms cells (tries_from 0 (picks ops p.terms cells) numbers) ≡ numbers
  tried_are cells numbers e = tries_are (picks ops p.terms cells) numbers (length-map (choices_of p.terms) (pick_at ops cells) ∙ sym e)

  all_held : (cells : List D) (numbers : List ℕ) → HoldChoices ops p.terms cells numbers → AllByRecursion (IsTry ops p.terms cells) (tries_from 0 (picks ops p.terms cells) numbers)
  all_held cells numbers h =
      tries_held cells numbers [] (picks ops p.terms cells) 0 (λ j l. let z : j ≡ 0 + j = omega arith in subst (λ i. IsTry ops p.terms cells (i, get_or numbers j 0)) z (omega (arith, h.count), h.each j (omega (arith, h.count))))

  -- the trial
  pub failed : (cells : List D) (numbers : List ℕ) → IsSettled ops p.terms cells → HoldChoices ops p.terms cells numbers → solves p numbers ≡ false → IsFailedTrial ops p cells (tries_from 0 (picks ops p.terms cells) numbers)
  failed cells numbers s h f = record {
    settled = s;
    held = all_held cells numbers h;
    fails = ap (solves p) (tried_are cells numbers h.count) ∙ f;
  }

  -- the pairs pass the checker's test
  pub tries_pass : (cells : List D) (numbers : List ℕ) → HoldChoices ops p.terms cells numbers → list_all (is_try ops p.terms cells) (tries_from 0 (picks ops p.terms cells) numbers) ≡ true
  tries_pass cells numbers h =
      each_test (is_try ops p.terms cells) (IsTry ops p.terms cells) (try_test D ops p.terms cells) (tries_from 0 (picks ops p.terms cells) numbers) (all_held cells numbers h)

  pub follows : (cells : List D) (aim : Option (List ℕ)) (numbers : List ℕ) → length numbers ≡ length (choices_of p.terms)
      → IfSome aim (λ a. length a ≡ length (choices_of p.terms) → numbers ≡ held_or_picks ops p.terms cells a) → AllFollow ops p.terms aim ((cells, tries_from 0 (picks ops p.terms cells) numbers) ∷ [])
  follows cells aim numbers c t a e l = (tried_are cells numbers c ∙ told_some cells aim numbers a t e l, tt)

  module _ (laws : DomainLaws ops) (problem : IsProblem p) (decides : DecidingLaws ops) where
    -- where every bit is known, it doesn't fail
    pub not_known : (cells : List D) (numbers : List ℕ) → AreCells ops p.terms cells → IsSettled ops p.terms cells → (HasNoEmpty ops cells → AreRequiredKnown ops p cells) → IsAssignment p.terms numbers → HoldChoices ops p.terms cells numbers
        → solves p numbers ≡ false → AreKnown ops p.terms cells → ⊥
    not_known cells numbers h s r i c f k = true≢false (sym (decided_solves D ops laws p cells numbers problem h s i c (record { each = λ t j l e m. k t l e j m }) (r s.held)) ∙ f)

    module _ (limit : ℕ) (aim : Option (List ℕ)) (cells : List D) (trail : List (ℕ × D)) (pending : List Pending) (lines : List Line) (n : ℕ) (h : IsSearching ops p limit aim cells trail pending lines n)
        (numbers : List ℕ) (s : IsSettled ops p.terms cells) (c : HoldChoices ops p.terms cells numbers) (f : solves p numbers ≡ false)
        (t : IfSome aim (λ a. length a ≡ length (choices_of p.terms) → numbers ≡ held_or_picks ops p.terms cells a)) where
      pub spent : (early more : List Line) → early ≡ lines ++ map try_line (tries_from 0 (picks ops p.terms cells) numbers) → more ≡ early ++ Loose ∷ replicate (length pending) Unvisited → IsRead ops p limit aim more [] n true
      spent early more e g =
          let W = waiting ops cells trail (reverse pending) in
          let tries = map try_line (tries_from 0 (picks ops p.terms cells) numbers) in
          let r = read_loose D ops p limit aim (tries_from 0 (picks ops p.terms cells) numbers) lines cells W n h.cells_are.count h.read (failed cells numbers s c f) (follows cells aim numbers c.count t) in
          let z = read_rest D ops p limit aim W (lines ++ (tries ++ Loose ∷ [])) n (long_waiting D ops p cells trail (reverse pending) h.turns) r in
          let size : length W ≡ length pending = length-map (reverse pending) _ ∙ length-reverse pending in
          let rest = replicate (length pending) Unvisited in
          let same : (lines ++ (tries ++ Loose ∷ [])) ++ replicate (length W) Unvisited ≡ more =
          ap (λ m. (lines ++ (tries ++ Loose ∷ [])) ++ replicate m Unvisited) size
          ∙ ap (λ l. l ++ rest) (sym (append_assoc lines tries (Loose ∷ [])))
          ∙ append_assoc (lines ++ tries) (Loose ∷ []) rest
          ∙ ap (λ l. l ++ Loose ∷ rest) (sym e) ∙ sym g in
          subst (λ l. IsRead ops p limit aim l [] n true) same z

      pub splits_on : (early more : List Line) (new : List D) (longer : List (ℕ × D)) (q : Pending) (after : List Pending) → IsUnknownBit ops p.terms cells q.term q.bit → n < limit
          → early ≡ lines ++ map try_line (tries_from 0 (picks ops p.terms cells) numbers) → more ≡ early ++ Split q.term q.bit ∷ []
          → q.length ≡ length trail → after ≡ pending ++ q ∷ [] → new ≡ after_bit ops q.term q.bit false cells → IsKept cells trail new longer → NoAim p aim
          → IsSearching ops p limit aim new longer after more (n + 1) × HasChanged ops p.terms new q.term × (left limit (n + 1) after < left limit n pending)
      unfolding Stacked
      splits_on early more new longer q after k l e g w x y z noaim =
          let u = q.term in
          let i = q.bit in
          let qs = reverse pending in
          let W = waiting ops cells trail qs in
          let tries = map try_line (tries_from 0 (picks ops p.terms cells) numbers) in
          let r = read_split D ops p limit aim (tries_from 0 (picks ops p.terms cells) numbers) u i lines cells W n h.cells_are.count h.read k (failed cells numbers s c f) (follows cells aim numbers c.count t) in
          let is : AreCells ops p.terms (after_bit ops u i false cells) = bit_cells D ops laws p.terms problem.terms u i false cells h.cells_are k.term k.within in
          let rev : reverse after ≡ q ∷ qs = turned after pending q x in
          let home : back new longer q.length ≡ cells = ap (back new longer) w ∙ kept_back cells trail new longer (length trail) z (omega arith) ∙ back_whole cells trail in
          let can : CanTurn ops p (back new longer q.length) q = subst (λ b. CanTurn ops p b q) (sym home)
          (record { cells_are = h.cells_are; settled = s; unknown = k; required = h.required s.held }) in
          let stack : waiting ops new longer (q ∷ qs) ≡ after_bit ops u i true cells ∷ W =
          ap (λ d. after_bit ops u i true d ∷ waiting ops new longer qs) home ∙ ap (λ v. after_bit ops u i true cells ∷ v) (waiting_kept D ops cells trail new longer qs z h.stacked) in
          let same : lines ++ (tries ++ Split u i ∷ []) ≡ more = sym (append_assoc lines tries (Split u i ∷ [])) ∙ ap (λ l. l ++ Split u i ∷ []) (sym e) ∙ sym g in
          let count = ap length rev in (
            record {
              cells_are = subst (AreCells ops p.terms) (sym y) is;
              within = subst (λ k. All (λ (change : ℕ × D). change.0 < k) longer) (h.cells_are.count ∙ sym (ap length y ∙ is.count)) (z.terms h.within);
              stacked = subst (Stacked (length longer)) (sym rev) (omega (arith, w, z.within), stacked_more (length trail) q.length qs (omega (arith, w)) h.stacked);
              turns = subst (AtSplits (CanTurn ops p) new longer) (sym rev) (can, turns_same D ops p new cells longer trail (length trail) qs h.stacked (λ m l. kept_back cells trail new longer m z l) h.turns);
              read = subst (λ qs. IsRead ops p limit aim more (new ∷ waiting ops new longer qs) (n + 1) false) (sym rev)
                  (subst (λ v. IsRead ops p limit aim more (new ∷ v) (n + 1) false) (sym stack)
                  (subst (λ d. IsRead ops p limit aim more (d ∷ after_bit ops u i true cells ∷ W) (n + 1) false) (sym y)
                  (subst (λ l. IsRead ops p limit aim l (after_bit ops u i false cells ∷ after_bit ops u i true cells ∷ W) (n + 1) false) same r)));
              required = λ m. subst (AreRequiredKnown ops p) (sym y) (bit_required D ops laws p problem decides u i false cells h.cells_are k (subst (HasNoEmpty ops) y m) (h.required s.held));
              aimed = λ numbers a i s. absurd (noaim numbers a i s);
              most = omega arith;
            },
            changed_bit D ops p.terms cells new u i false s k.term y,
            omega (arith, length-reverse pending, length-reverse after),
          )
