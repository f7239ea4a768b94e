-- The number that is found upward is the least that has the known bits.
use Rattle.std.proofs.Common.{◌≡◌, ℕ, zero, suc, ◌^◌, ◌<◌, ◌≤◌, true, false, cond, bit_and, Option, Some, None, min, refl, sym, ap, ◌∙◌, subst, ⊎_elim, arith}
use Rattle.std.proofs.lemmas.Bool.{cases_lt, cases_eq, cond_both, cases_order, false≢true}
use Rattle.dt_pair.specs.Ends.{has_bits, is_candidate, candidate, lesser, least_candidate, least_from, IsLeastFound}
use Rattle.dt_pair.specs.Laws.Splits.{Parting, parting}
use Rattle.dt_pair.specs.Laws.Candidates.{candidate_is, from_candidate, candidate_has, candidate_beyond, candidate_fits, parting_candidate, candidate_least, candidate_below}

-- P holds of what is found, if anything is
abbrev pub Each : (ℕ → Type 0) → Option ℕ → Type 0
Each P None = Unit {0}
Each P (Some x) = P x

-- something is found, of n at most
abbrev pub AtMost : ℕ → Option ℕ → Type 0
AtMost n None = ⊥
AtMost n (Some x) = x ≤ n

lesser_each : (P : ℕ → Type 0) (a b : Option ℕ) → Each P a → Each P b → Each P (lesser a b)
lesser_each P None b h k = k
lesser_each P (Some a) None h k = h
lesser_each P (Some a) (Some b) h k = ⊎_elim
    (λ (l : a < b). let e : min a b ≡ a = omega arith in subst P (sym e) h)
    (λ (l : b ≤ a). let e : min a b ≡ b = omega arith in subst P (sym e) k)
    (cases_lt a b)

lesser_first : (n : ℕ) (a b : Option ℕ) → AtMost n a → AtMost n (lesser a b)
lesser_first n None b h = absurd h
lesser_first n (Some a) None h = h
lesser_first n (Some a) (Some b) h = omega arith

lesser_second : (n : ℕ) (a b : Option ℕ) → AtMost n b → AtMost n (lesser a b)
lesser_second n None b h = h
lesser_second n (Some a) None h = absurd h
lesser_second n (Some a) (Some b) h = omega arith

-- a number of lo or more that has the known bits
pub record IsBeyond (w m v lo x : ℕ) : Type 0 where
  pub beyond : lo ≤ x
  pub fits : x < 2 ^ w
  pub has : has_bits m v x ≡ true

-- the known bits are bits of the mask, and both lie within the width
pub record AreWords (w m v : ℕ) : Type 0 where
  pub mask : m < 2 ^ w
  pub within : bit_and v m ≡ v

pub candidate_beyond_lo : (w m v lo i : ℕ) → AreWords w m v → lo < 2 ^ w → i < w → is_candidate m v lo i ≡ true → IsBeyond w m v lo (candidate v lo i)
candidate_beyond_lo w m v lo i a h l e =
    let c = candidate_is m v lo i e in
    record {
      beyond = let g : lo < candidate v lo i = candidate_beyond v lo i c.zero in omega arith;
      fits = candidate_fits w v lo i l h;
      has = candidate_has w m v lo i a.within a.mask c;
    }

all_beyond : (w m v lo k : ℕ) → AreWords w m v → lo < 2 ^ w → k ≤ w → Each (IsBeyond w m v lo) (least_candidate k m v lo)
unfolding least_candidate
all_beyond w m v lo zero a h l = tt
all_beyond w m v lo (suc k) a h l =
    lesser_each (IsBeyond w m v lo) (least_candidate k m v lo) _ (all_beyond w m v lo k a h (omega arith))
    (cond_both (is_candidate m v lo k) (Some (candidate v lo k)) None (Each (IsBeyond w m v lo))
    (λ e. candidate_beyond_lo w m v lo k a h (omega arith) e) (λ _. tt))

at_most_each : (m v lo k i : ℕ) → i < k → is_candidate m v lo i ≡ true → AtMost (candidate v lo i) (least_candidate k m v lo)
unfolding least_candidate
at_most_each m v lo zero i l e = absurd (omega arith)
at_most_each m v lo (suc k) i l e = ⊎_elim
    (λ (s : i < k). lesser_first (candidate v lo i) (least_candidate k m v lo) _ (at_most_each m v lo k i s e))
    (λ (s : k ≤ i).
    let d : i ≡ k = omega arith in
    let c = ap (λ b. cond b (Some (candidate v lo k)) None) (sym (subst (λ j. is_candidate m v lo j ≡ true) d e)) in
    lesser_second (candidate v lo i) (least_candidate k m v lo) _
    (subst (AtMost (candidate v lo i)) c (subst (λ j. candidate v lo k ≤ candidate v lo j) (sym d) (omega arith))))
    (cases_lt i k)

lower : (n k : ℕ) (o : Option ℕ) → n ≤ k → AtMost n o → AtMost k o
lower n k None l h = h
lower n k (Some x) l h = omega arith

-- what lies beyond lo, and is at most each such number, is the least
found_is : (w m v lo : ℕ) (o : Option ℕ) → Each (IsBeyond w m v lo) o
    → ((y : ℕ) → lo ≤ y → y < 2 ^ w → has_bits m v y ≡ true → AtMost y o) → IsLeastFound w m v lo o
found_is w m v lo None h l = l
found_is w m v lo (Some x) h l = record { beyond = h.beyond; fits = h.fits; has = h.has; least = l }

-- lo hasn't the known bits, so a number of lo or more that has them parts from lo
parts : (w m v lo y : ℕ) → has_bits m v lo ≡ false → lo ≤ y → y < 2 ^ w → has_bits m v y ≡ true → Parting w lo y
parts w m v lo y n l h e = ⊎_elim
    (λ (s : lo ≡ y). absurd (false≢true (sym n ∙ ap (has_bits m v) s ∙ e)))
    (λ (s : lo ≡ y → ⊥). parting w lo y (omega arith) h)
    (cases_eq lo y)

pub least_is : (w m v lo : ℕ) → AreWords w m v → lo < 2 ^ w → IsLeastFound w m v lo (least_from w m v lo)
least_is w m v lo a h = cond_both (has_bits m v lo) (Some lo) (least_candidate w m v lo) (IsLeastFound w m v lo)
    (λ e. record { beyond = omega arith; fits = h; has = e; least = λ y l _ _. l })
    (λ n. found_is w m v lo (least_candidate w m v lo) (all_beyond w m v lo w a h (omega arith)) (λ y l f e.
    let p = parts w m v lo y n l f e in
    lower (candidate v lo p.at) y (least_candidate w m v lo) (candidate_least w m v lo y e p)
    (at_most_each m v lo w p.at p.below (from_candidate m v lo p.at (parting_candidate w m v lo y e p)))))

-- ---- found without a search

-- the candidate at the lowest bit where there is one
pub lowest_is : (w m v lo i : ℕ) → AreWords w m v → lo < 2 ^ w → has_bits m v lo ≡ false → i < w → is_candidate m v lo i ≡ true
    → ((j : ℕ) → j < i → is_candidate m v lo j ≡ false) → IsLeastFound w m v lo (Some (candidate v lo i))
lowest_is w m v lo i a h n l c none =
    found_is w m v lo (Some (candidate v lo i)) (candidate_beyond_lo w m v lo i a h l c) (λ y g f e.
    let p = parts w m v lo y n g f e in
    ⊎_elim (λ (s : p.at ≡ i). subst (λ k. candidate v lo k ≤ y) s (candidate_least w m v lo y e p))
    (⊎_elim (λ (s : p.at < i). absurd (false≢true (sym (none p.at s) ∙ from_candidate m v lo p.at (parting_candidate w m v lo y e p))))
    (λ (s : i < p.at). let t : candidate v lo i < y = candidate_below w m v lo y i p s in omega arith))
    (cases_order p.at i))

-- no candidate at all
pub none_is : (w m v lo : ℕ) → has_bits m v lo ≡ false → ((j : ℕ) → j < w → is_candidate m v lo j ≡ false) → IsLeastFound w m v lo None
none_is w m v lo n none = λ y g f e.
    let p = parts w m v lo y n g f e in
    false≢true (sym (none p.at p.below) ∙ from_candidate m v lo p.at (parting_candidate w m v lo y e p))

-- only one number is the least
pub same_least : (w m v lo : ℕ) (a b : Option ℕ) → IsLeastFound w m v lo a → IsLeastFound w m v lo b → a ≡ b
same_least w m v lo None None h k = refl
same_least w m v lo None (Some b) h k = absurd (h b k.beyond k.fits k.has)
same_least w m v lo (Some a) None h k = absurd (k a h.beyond h.fits h.has)
same_least w m v lo (Some a) (Some b) h k =
    let p = h.least b k.beyond k.fits k.has in
    let q = k.least a h.beyond h.fits h.has in
    ap Some (omega (arith, p, q))
