-- The numbers that are tried are held.
use Rattle.std.proofs.Common.{◌≡◌, ℕ, ◌+◌, ◌<◌, Bool, true, false, cond, List, [], length, get_or, refl, sym, subst, arith}
use Rattle.std.proofs.lemmas.List.{get_or-map}
use Rattle.std.proofs.lemmas.List.FromFn.{get_or-map-range_with_len, length-map-range_with_len}
use Rattle.dt_domain.specs.Domain.{DomainOps, DomainLaws, Holds}
use Rattle.dt_terms.specs.declared.term.Term.{Term}
use Rattle.dt_terms.specs.Terms.{AreTerms, choices_of}
use Rattle.dt_terms.specs.Values.{IsAssignment}
use Rattle.dt_box.specs.Cells.{AreCells}
use Rattle.dt_box.specs.Stillness.{HasNoEmpty}
use Rattle.dt_check.specs.Trials.{choice_cell, pick_at, picks, with_tries, HoldChoices}
use Rattle.dt_check.specs.Records.{aimed}
use Rattle.dt_check.proofs.Bound.{tried_holds, held_assignment}
use Rattle.dt_solve.specs.Tries.{held_or_picks}

module _ (D : Type 0) (ops : DomainOps D) (laws : DomainLaws ops) (terms : List Term) (right : AreTerms terms) (cells : List D) where
  picks_hold : AreCells ops terms cells → HasNoEmpty ops cells → HoldChoices ops terms cells (picks ops terms cells)
  unfolding with_tries
  picks_hold h n = tried_holds D ops laws terms right cells [] h n tt

  aimed_holds : (numbers : List ℕ) (k : ℕ) → AreCells ops terms cells → HasNoEmpty ops cells → k < length (choices_of terms) → Holds ops (choice_cell ops terms cells k) (aimed ops terms cells numbers k)
  aimed_holds numbers k h n l =
      let d = choice_cell ops terms cells k in
      let v = get_or numbers k 0 in
      let q = pick_at ops cells (get_or (choices_of terms) k 0) in
      let p = subst (Holds ops d) (get_or-map (pick_at ops cells) (choices_of terms) k 0 0 l) ((picks_hold h n).each k l) in
      either (ops.holds d v) d v q refl p
    where
      either : (b : Bool) (d : D) (v q : ℕ) → ops.holds d v ≡ b → Holds ops d q → Holds ops d (cond b v q)
      either true d v q e p = e
      either false d v q e p = p

  -- so are these
  pub held_holds : (numbers : List ℕ) → AreCells ops terms cells → HasNoEmpty ops cells → HoldChoices ops terms cells (held_or_picks ops terms cells numbers)
  held_holds numbers h n = record {
    count = length-map-range_with_len (aimed ops terms cells numbers) 0 (length (choices_of terms));
    each = λ k l.
        let z : 0 + k ≡ k = omega arith in
        subst (Holds ops (choice_cell ops terms cells k)) (sym (get_or-map-range_with_len (aimed ops terms cells numbers) 0 (length (choices_of terms)) k k 0 l z)) (aimed_holds numbers k h n l);
  }

  -- and they are an assignment
  pub held_fits : (numbers : List ℕ) → AreCells ops terms cells → HasNoEmpty ops cells → IsAssignment terms (held_or_picks ops terms cells numbers)
  held_fits numbers h n = held_assignment D ops laws terms right cells (held_or_picks ops terms cells numbers) h (held_holds numbers h n)
