-- What a meet holds and knows, what is left where a bit is set, and when Sets are empty.
use Rattle.std.proofs.Common.{◌≡◌, ℕ, ◌^◌, ◌<◌, Bool, true, false, not, ◌&&◌, ◌||◌, eqb, Some, List, [], ◌∷◌, length, take, bit_and, refl, sym, ap, ◌∙◌, subst, ◌⊎◌, inl, inr, ⊎_elim, arith}
use Rattle.std.specs.Prelude.{MatchOption, ◌↔◌}
use Rattle.std.specs.List.{filter}
use Rattle.std.proofs.lemmas.Bool.{cond_both, cond-false, and_parts, and_from, cases_Bool, lt-ltb, eqb-true, eq-eqb, true≢false, not-true}
use Rattle.std.proofs.lemmas.Nat.{pow_pos}
use Rattle.std.specs.Int.Bits.{and_zero_r}
use Rattle.dt_bits.specs.Bits.{bit, differs}
use Rattle.dt_bits.specs.declared.value.Bv.{Bv}
use Rattle.dt_bits.specs.declared.value.Width.{Width}
use Rattle.dt_domain.specs.Domain.{AreAlike, KnowsBit}
use Rattle.dt_sets.specs.declared.Sets.{Sets}
use Rattle.dt_sets.specs.Lists.{has}
use Rattle.dt_sets.specs.Sets.{IsSets, listed, listing, sets_holds, sets_is_empty, agreed_mask, agreed_value, sets_mask, sets_value, first, sets_pick, kept, sets_meet, sets_with_bit, sets_one}
use Rattle.dt_sets.specs.Ops.{sets_ops}
use Rattle.dt_sets.specs.Laws.Lists.{here, has-filter}
use Rattle.dt_sets.specs.Laws.Form.{IsOf, counted, few_is, few_holds, many_holds, held_fits, kept_of, kept_holds, listing_holds, many_lists}
use Rattle.dt_sets.specs.Laws.KnownBits.{agrees, knows_few, knows_held, held_knows, first_of}

-- ---- emptiness

-- an empty one lists no number
pub empty_lists : (s : Sets) → sets_is_empty s ≡ true → (s.many ≡ false) × (listed s ≡ [])
empty_lists s e =
    let p = and_parts (not s.many) (eqb s.count 0) e in
    (not-true s.many p.0, ap (λ n. take n s.numbers) (eqb-true s.count 0 p.1))

pub empty_holds : (s : Sets) (x : ℕ) → sets_is_empty s ≡ true → sets_holds s x ≡ false
empty_holds s x e = let p = empty_lists s e in few_holds s x p.0 ∙ ap (λ xs. has xs x) p.1

pub holds_some : (s : Sets) → IsSets s → sets_is_empty s ≡ false → (x : ℕ) × (sets_holds s x ≡ true)
holds_some s p e = at s.many refl
  where
    at : (m : Bool) → s.many ≡ m → (x : ℕ) × (sets_holds s x ≡ true)
    at true m = (0, many_holds s 0 m ∙ lt-ltb 0 (2 ^ s.width.0) (pow_pos s.width.0))
    at false m = let f = first_of s p m e in
        (f.number, few_holds s f.number m ∙ ap (λ xs. has xs f.number) f.is ∙ here f.number f.others)

pub none_empty : (s : Sets) → IsSets s → ((x : ℕ) → sets_holds s x ≡ false) → sets_is_empty s ≡ true
none_empty s p f = ⊎_elim
    (λ (e : sets_is_empty s ≡ true). e)
    (λ (e : sets_is_empty s ≡ false). let h = holds_some s p e in absurd (true≢false (sym h.1 ∙ f h.0)))
    (cases_Bool (sets_is_empty s))

pub held_not_empty : (s : Sets) (x : ℕ) → sets_holds s x ≡ true → sets_is_empty s ≡ false
held_not_empty s x h = ⊎_elim
    (λ (e : sets_is_empty s ≡ true). absurd (true≢false (sym h ∙ empty_holds s x e)))
    (λ (e : sets_is_empty s ≡ false). e)
    (cases_Bool (sets_is_empty s))

pub empty_known : (s : Sets) → sets_is_empty s ≡ true → (sets_mask s ≡ 0) × (sets_value s ≡ 0)
empty_known s e = let p = empty_lists s e in (ap (agreed_mask s.width.0) p.1, ap (agreed_value s.width.0) p.1)

pub pick_held : (s : Sets) → IsSets s → MatchOption (sets_pick s) (sets_is_empty s ≡ true) (λ x. sets_holds s x ≡ true)
pick_held s p = cond_both s.many (Some 0) (first (listed s)) (λ o. MatchOption o (sets_is_empty s ≡ true) (λ x. sets_holds s x ≡ true))
    (λ m. many_holds s 0 m ∙ lt-ltb 0 (2 ^ s.width.0) (pow_pos s.width.0))
    (λ m. at m (listed s) refl)
  where
    at : s.many ≡ false → (xs : List ℕ) → listed s ≡ xs → MatchOption (first xs) (sets_is_empty s ≡ true) (λ x. sets_holds s x ≡ true)
    at m [] f = and_from (not s.many) (eqb s.count 0) (ap not m) (eq-eqb s.count 0 (counted s (few_is s p m) ∙ ap length f))
    at m (x ∷ xs) f = few_holds s x m ∙ ap (λ ys. has ys x) f ∙ here x xs

-- ---- one number

or_nothing : (p : Bool) → (p || false) ≡ p
or_nothing p = grind arith

pub one_held : (v : Bv) (x : ℕ) → (sets_holds (sets_one v) x ≡ true) ↔ (x ≡ v.bits)
one_held v x =
    let e : sets_holds (sets_one v) x ≡ eqb v.bits x = listing_holds v.width (v.bits ∷ []) x ∙ or_nothing (eqb v.bits x) in (
      λ h. sym (eqb-true v.bits x (sym e ∙ h)),
      λ f. e ∙ eq-eqb v.bits x (sym f),
    )

-- ---- a meet

pub meet_is : (a b : Sets) → AreAlike sets_ops a b → IsOf a.width (sets_meet a b)
meet_is a b g = cond_both a.many b (kept (sets_holds b) a) (IsOf a.width) (λ _. (g.b_is, sym g.widths)) (λ _. kept_of (sets_holds b) a g.a_is)

implied : (p q : Bool) → (q ≡ true → p ≡ true) → q ≡ (p && q)
implied p q f = grind arith

-- it holds exactly the numbers that both hold
pub meets : (a b : Sets) (x : ℕ) → AreAlike sets_ops a b → sets_holds (sets_meet a b) x ≡ (sets_holds a x && sets_holds b x)
meets a b x g = cond_both a.many b (kept (sets_holds b) a) (λ s. sets_holds s x ≡ (sets_holds a x && sets_holds b x))
    (λ m. implied (sets_holds a x) (sets_holds b x) (λ h. many_holds a x m
    ∙ lt-ltb x (2 ^ a.width.0) (subst (λ (w : Width). x < 2 ^ w.0) (sym g.widths) (held_fits b x g.b_is h))))
    (λ m. kept_holds (sets_holds b) a x m)

pub meet_holds : (a b : Sets) (x : ℕ) → AreAlike sets_ops a b → sets_holds a x ≡ true → sets_holds b x ≡ true → sets_holds (sets_meet a b) x ≡ true
meet_holds a b x g h k = meets a b x g ∙ and_from (sets_holds a x) (sets_holds b x) h k

none_of : (p q : Bool) → (p ≡ false) ⊎ (q ≡ false) → (p && q) ≡ false
none_of p q (inl e) = grind arith
none_of p q (inr e) = grind arith

pub meet_empty : (a b : Sets) → AreAlike sets_ops a b → (sets_is_empty a ≡ true) ⊎ (sets_is_empty b ≡ true) → sets_is_empty (sets_meet a b) ≡ true
meet_empty a b g s = none_empty (sets_meet a b) (meet_is a b g).0 (λ x. meets a b x g ∙ none_of (sets_holds a x) (sets_holds b x) (⊎_elim
    (λ (e : sets_is_empty a ≡ true). inl (empty_holds a x e))
    (λ (e : sets_is_empty b ≡ true). inr (empty_holds b x e))
    s))

kept_few : (q : ℕ → Bool) (s : Sets) → s.many ≡ false → (kept q s).many ≡ false
kept_few q s m = ap (λ (t : Sets). t.many) (cond-false s.many s (listing s.width (filter q (listed s))) m)

met_few : (a b : Sets) → (a.many ≡ false) ⊎ (b.many ≡ false) → (sets_meet a b).many ≡ false
met_few a b s = cond_both a.many b (kept (sets_holds b) a) (λ t. t.many ≡ false)
    (λ m. ⊎_elim (λ (n : a.many ≡ false). absurd (true≢false (sym m ∙ n))) (λ (n : b.many ≡ false). n) s)
    (λ m. kept_few (sets_holds b) a m)

pub meet_knows : (a b : Sets) (i : ℕ) (v : Bool) → AreAlike sets_ops a b → sets_is_empty (sets_meet a b) ≡ false
    → KnowsBit sets_ops a i v ⊎ KnowsBit sets_ops b i v → KnowsBit sets_ops (sets_meet a b) i v
meet_knows a b i v g e s =
    let m = sets_meet a b in
    let p = meet_is a b g in
    let both : (x : ℕ) → sets_holds m x ≡ true → (sets_holds a x ≡ true) × (sets_holds b x ≡ true) =
    λ x h. and_parts (sets_holds a x) (sets_holds b x) (sym (meets a b x g) ∙ h) in
    let some = holds_some m p.0 e in
    ⊎_elim
    (λ (k : KnowsBit sets_ops a i v).
    let l = (knows_held a i v some.0 g.a_is k (both some.0 some.1).0).0 in
    held_knows m i v p.0 (met_few a b (inl (knows_few a i v g.a_is k))) e (subst (λ (w : Width). i < w.0) (sym p.1) l)
    (λ x h. (knows_held a i v x g.a_is k (both x h).0).1))
    (λ (k : KnowsBit sets_ops b i v).
    let l = (knows_held b i v some.0 g.b_is k (both some.0 some.1).1).0 in
    held_knows m i v p.0 (met_few a b (inr (knows_few b i v g.b_is k))) e (subst (λ (w : Width). i < w.0) (sym g.widths ∙ sym p.1) l)
    (λ x h. (knows_held b i v x g.b_is k (both x h).1).1))
    s

-- ---- a bit that is set

pub kept_held : (q : ℕ → Bool) (s : Sets) (x : ℕ) → sets_holds s x ≡ true → q x ≡ true → sets_holds (kept q s) x ≡ true
kept_held q s x h t = cond_both s.many s (listing s.width (filter q (listed s))) (λ t. sets_holds t x ≡ true)
    (λ _. h)
    (λ m. listing_holds s.width (filter q (listed s)) x ∙ has-filter q (listed s) x ∙ and_from (has (listed s) x) (q x) (sym (few_holds s x m) ∙ h) t)

same_bit : (p v : Bool) → p ≡ v → not (differs p v) ≡ true
same_bit true true e = refl
same_bit true false e = sym e
same_bit false true e = e
same_bit false false e = refl

pub bit_holds : (s : Sets) (i : ℕ) (v : Bool) (x : ℕ) → bit x i ≡ v → sets_holds s x ≡ true → sets_holds (sets_with_bit s i v) x ≡ true
bit_holds s i v x e h = kept_held (λ x. not (differs (bit x i) v)) s x h (same_bit (bit x i) v e)

-- ---- known bits

pub held_agrees : (s : Sets) (x : ℕ) → IsSets s → sets_holds s x ≡ true → bit_and x (sets_mask s) ≡ sets_value s
held_agrees s x p h = ⊎_elim
    (λ (m : s.many ≡ true). let e = many_lists s p m in
    ap (λ xs. bit_and x (agreed_mask s.width.0 xs)) e ∙ and_zero_r x ∙ sym (ap (agreed_value s.width.0) e))
    (λ (m : s.many ≡ false). agrees s.width.0 (listed s) x p.fits (sym (few_holds s x m) ∙ h))
    (cases_Bool s.many)
