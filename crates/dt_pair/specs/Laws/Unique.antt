-- A Pair in normal form is determined by the numbers that it holds.
use Rattle.std.proofs.Common.{◌≡◌, ℕ, ◌≤◌, Bool, true, false, leb, bit_and, sym, ap, ◌∙◌, ⊎_elim, arith}
use Rattle.std.proofs.lemmas.Bool.{cases_Bool, and_parts, leb-true, false≢true, true≢false}
use Rattle.dt_bits.specs.declared.value.Width.{Width}
use Rattle.dt_known.specs.declared.Known.{Known}
use Rattle.dt_known.specs.Known.{nothing}
use Rattle.dt_known.specs.Laws.{known_laws}
use Rattle.dt_range.specs.declared.Range.{Range}
use Rattle.dt_range.specs.Range.{no_range}
use Rattle.dt_pair.specs.declared.Pair.{Pair}
use Rattle.dt_pair.specs.Pair.{IsPair, pair_holds, no_pair, AreEnds, HoldSame, IsCanonical}
use Rattle.dt_pair.specs.Laws.Form.{IsFilled, filled_or_not, filled_where}
use Rattle.dt_pair.specs.Laws.Parts.{both_hold}
use Rattle.dt_pair.specs.Laws.Varied.{same_mask}

-- where a holds a number, so does b, and it isn't empty
not_empty : (b : Pair) (x : ℕ) → IsPair b → pair_holds b x ≡ true → b.known.empty ≡ false
not_empty b x p h = ⊎_elim
    (λ (e : b.known.empty ≡ true). absurd (false≢true (sym (known_laws.empty_holds_none b.known x p.known e) ∙ (both_hold b x h).known)))
    (λ (e : b.known.empty ≡ false). e)
    (cases_Bool b.known.empty)

within : (a : Pair) (x : ℕ) → pair_holds a x ≡ true → (a.range.lo ≤ x) × (x ≤ a.range.hi)
within a x h = let s = and_parts (leb a.range.lo x) (leb x a.range.hi) (both_hold a x h).range in (leb-true _ _ s.0, leb-true _ _ s.1)

turned : (a b : Pair) → HoldSame a b → HoldSame b a
turned a b s = λ x. sym (s x)

-- what holds of both being empty, and of both being filled
by_cases : (P : Pair → Pair → Type 0) (a b : Pair) → IsPair a → IsPair b → HoldSame a b
    → ((a ≡ no_pair a.known.width) → (b ≡ no_pair b.known.width) → P a b) → (IsFilled a → IsFilled b → P a b) → P a b
by_cases P a b p q s none some = ⊎_elim
    (λ (n : a ≡ no_pair a.known.width). ⊎_elim
    (λ (m : b ≡ no_pair b.known.width). none n m)
    (λ (g : IsFilled b). absurd (true≢false (sym (ap (λ (p : Pair). p.known.empty) n) ∙ not_empty a b.range.lo p (s b.range.lo ∙ g.low))))
    (filled_or_not b q))
    (λ (f : IsFilled a). some f (filled_where b q (not_empty b a.range.lo q (sym (s a.range.lo) ∙ f.low))))
    (filled_or_not a p)

same_ends : (a b : Pair) → HoldSame a b → IsFilled a → IsFilled b → (a.range.lo ≡ b.range.lo) × (a.range.hi ≡ b.range.hi)
same_ends a b s f g =
    let l = within a b.range.lo (s b.range.lo ∙ g.low) in
    let m = within b a.range.lo (sym (s a.range.lo) ∙ f.low) in
    let h = within a b.range.hi (s b.range.hi ∙ g.high) in
    let k = within b a.range.hi (sym (s a.range.hi) ∙ f.high) in
    (omega (arith, l.0, m.0), omega (arith, h.1, k.1))

range_of : (w v : Width) (lo hi l h : ℕ) → w ≡ v → lo ≡ l → hi ≡ h
    → (let g : Width → ℕ → ℕ → Range = λ w lo hi. record { lo = lo; hi = hi; width = w } in g w lo hi ≡ g v l h)
range_of w v lo hi l h e f d =
    let g : Width → ℕ → ℕ → Range = λ w lo hi. record { lo = lo; hi = hi; width = w } in
    ap (λ w. g w lo hi) e ∙ ap (λ n. g v n hi) f ∙ ap (g v l) d

-- the range is determined by the numbers that are held
same_range : (a b : Pair) → IsPair a → IsPair b → a.known.width ≡ b.known.width → HoldSame a b → a.range ≡ b.range
same_range a b p q w s = by_cases (λ a b. a.range ≡ b.range) a b p q s
    (λ n m. ap (λ (p : Pair). p.range) n ∙ ap no_range w ∙ sym (ap (λ (p : Pair). p.range) m))
    (λ f g. let e = same_ends a b s f g in
    range_of a.range.width b.range.width a.range.lo a.range.hi b.range.lo b.range.hi (sym p.widths ∙ w ∙ q.widths) e.0 e.1)

known_of : (a b : Known) → a.mask ≡ b.mask → a.value ≡ b.value → a.width ≡ b.width → a.empty ≡ b.empty → a ≡ b
known_of a b m v w e =
    let g : ℕ → ℕ → Width → Bool → Known = λ m v w e. record { mask = m; value = v; width = w; empty = e } in
    ap (λ m. g m a.value a.width a.empty) m ∙ ap (λ v. g b.mask v a.width a.empty) v ∙ ap (λ w. g b.mask b.value w a.empty) w ∙ ap (g b.mask b.value b.width) e

-- and so are the known bits
same_known : (a b : Pair) → IsPair a → IsPair b → a.known.width ≡ b.known.width → HoldSame a b → a.known ≡ b.known
same_known a b p q w s = by_cases (λ a b. a.known ≡ b.known) a b p q s
    (λ n o. ap (λ (p : Pair). p.known) n ∙ ap nothing w ∙ sym (ap (λ (p : Pair). p.known) o))
    (λ f g.
    let m = same_mask a b p q f g w s in
    let v = known_laws.held_agrees a.known a.range.lo p.known (both_hold a a.range.lo f.low).known in
    let u = known_laws.held_agrees b.known a.range.lo q.known (both_hold b a.range.lo (sym (s a.range.lo) ∙ f.low)).known in
    known_of a.known b.known m (sym v ∙ ap (bit_and a.range.lo) m ∙ u) w (f.full ∙ sym g.full))

pub ends_are : (a : Pair) → IsPair a → a.known.empty ≡ false → AreEnds a
ends_are a p e = let f = filled_where a p e in record { low = f.low; high = f.high; between = λ x h. within a x h }

pub canonical : (a : Pair) → IsPair a → IsCanonical a
canonical a p b q w s =
    let g : Known → Range → Pair = λ k r. record { known = k; range = r } in
    ap (λ k. g k b.range) (same_known b a q p w s) ∙ ap (g a.known) (same_range b a q p w s)
