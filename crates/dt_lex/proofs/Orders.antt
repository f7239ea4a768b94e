-- How far a text has come where a line may stand.
use Rattle.std.proofs.Common.{◌≡◌, ℕ, ◌+◌, ◌-◌, ◌≤◌, true, ◌&&◌, eqb, ltb, List, length, take, drop, sym, ◌∙◌, arith, inl, inr}
use Rattle.std.proofs.lemmas.Bool.{cases_lt, and_parts, cond-true, lt-ltb, eqb-true}
use Rattle.dt_lex.specs.declared.section.Section.{Section}
use Rattle.dt_lex.specs.declared.section.Standing.TheVariants.{In, Behind}
use Rattle.dt_lex.specs.Sections.{may_repeat, all_optional, may_follow}

-- not beyond the section of the line
pub place_le : (sections : List Section) (place at : ℕ) → may_follow sections place (In at) ≡ true → place ≤ at + 1
place_le sections place at h =
    elim (cases_lt at place) [
      | inl lt ↦
          let p = and_parts (eqb (at + 1) place) (may_repeat sections at) (sym (cond-true (ltb at place) (eqb (at + 1) place && may_repeat sections at) (ltb at (length sections) && all_optional (take (at - place) (drop place sections))) (lt-ltb at place lt)) ∙ h) in
          let same : at + 1 ≡ place = eqb-true (at + 1) place p.0 in
          omega arith
      | inr le ↦ omega arith
    ]

-- in the very section
pub place_is : (sections : List Section) (place at : ℕ) → may_follow sections place (Behind at) ≡ true → place ≡ at + 1
place_is sections place at h = sym (eqb-true (at + 1) place h)
