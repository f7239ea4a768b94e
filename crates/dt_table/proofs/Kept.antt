-- The forms of kept ranges hold exactly where no page and no table touches the ranges.
use Rattle.std.proofs.Common.{◌≡◌, ℕ, ◌+◌, ◌-◌, ◌*◌, ◌/◌, ◌%◌, ◌<◌, ◌≤◌, ◌^◌, Bool, true, false, not, ◌&&◌, ◌||◌, cond, ltb, leb, List, [], ◌∷◌, ◌++◌, map, ◌⊎◌, inl, inr, refl, sym, ap, ◌∙◌, subst, arith, lit<}
use Rattle.std.specs.Prelude.{IsTrue}
use Rattle.std.specs.List.{flat_map, AllByRecursion}
use Rattle.std.proofs.Math.Nat.{le-div_iff_mul-le, div-add-mod, div-eq_of_lt, pow-le-pow_right}
use Rattle.std.proofs.lemmas.Nat.{pow_pos}
use Rattle.std.proofs.lemmas.Bool.{cases_lt, leb-true, lt-ltb, le-ltb, ltb-true, false≢true}
use Rattle.dt_lemmas.proofs.Lists.{AllByRecursion-append, AllByRecursion-split}
use Rattle.dt_bits.specs.declared.op.Op.TheVariants.{Shr}
use Rattle.dt_request.specs.declared.list.KeptRange.{KeptRange}
use Rattle.dt_satisfy.specs.declared.block.Block.{Block}
use Rattle.dt_satisfy.specs.Blocks.{block_at, touches, some_touches, is_kept}
use Rattle.dt_forms.specs.Meaning.{Valuation, flag, is_one}
use Rattle.dt_forms.specs.Forms.{Form, HasForm, HaveForms, term, number, form1, not_of, both_of, less_of, form_value}
use Rattle.dt_forms.specs.Claims.{Hold}
use Rattle.dt_forms.proofs.Lawful.{flag_one}
use Rattle.dt_forms.proofs.FormValues.{not_form, both_form}
use Rattle.dt_table.specs.declared.out.Out.{Out}
use Rattle.dt_table.specs.Passing.{Access}
use Rattle.dt_table.specs.Apart.{Sized}
use Rattle.dt_table.specs.Kept.{touches_form, kept_form}
use Rattle.dt_table.proofs.Every.{every_kept}
use Rattle.dt_table.proofs.Results.{come_of}
use Rattle.dt_table.proofs.Pages.{IsBlock, block_of, blocks_made, then_of}

-- ---- blocks against ranges, by quotients

-- a multiple is below a bound where its quotient is no more than that of the last number below
low_side : (hi q p : ℕ) → 0 < p → 0 < hi → not (ltb ((hi - 1) / p) q) ≡ ltb (p * q) hi
low_side hi q p pos h = by_order (cases_lt ((hi - 1) / p) q)
  where
    far : (hi - 1) / p < q → (p * q < hi) ⊎ (hi ≤ p * q) → hi ≤ p * q
    far l (inr s) = s
    far l (inl s) =
        let c : q * p ≡ p * q = omega arith in
        let z : q ≤ (hi - 1) / p = (le-div_iff_mul-le pos).1 (omega (arith, s, c)) in
        absurd (omega (arith, z, l))

    by_order : ((hi - 1) / p < q) ⊎ (q ≤ (hi - 1) / p) → not (ltb ((hi - 1) / p) q) ≡ ltb (p * q) hi
    by_order (inl l) = ap not (lt-ltb ((hi - 1) / p) q l) ∙ sym (le-ltb (p * q) hi (far l (cases_lt (p * q) hi)))
    by_order (inr l) =
        let c : q * p ≡ p * q = omega arith in
        let z : q * p ≤ hi - 1 = (le-div_iff_mul-le pos).0 l in
        ap not (le-ltb ((hi - 1) / p) q l) ∙ sym (lt-ltb (p * q) hi (omega (arith, z, c, h)))

-- a number is below the next multiple where its quotient is no more
high_side : (lo q p : ℕ) → 0 < p → not (ltb q (lo / p)) ≡ ltb lo (p * q + p)
high_side lo q p pos = by_order (cases_lt q (lo / p))
  where
    near : lo / p ≤ q → (lo < p * q + p) ⊎ (p * q + p ≤ lo) → lo < p * q + p
    near l (inl s) = s
    near l (inr s) =
        let c : (q + 1) * p ≡ p * q + p = omega arith in
        let z : q + 1 ≤ lo / p = (le-div_iff_mul-le pos).1 (omega (arith, s, c)) in
        absurd (omega (arith, z, l))

    by_order : (q < lo / p) ⊎ (lo / p ≤ q) → not (ltb q (lo / p)) ≡ ltb lo (p * q + p)
    by_order (inl l) =
        let c : (q + 1) * p ≡ p * q + p = omega arith in
        let z : (q + 1) * p ≤ lo = (le-div_iff_mul-le pos).0 (omega (arith, l)) in
        ap not (lt-ltb q (lo / p) l) ∙ sym (le-ltb lo (p * q + p) (omega (arith, z, c)))
    by_order (inr l) = ap not (le-ltb q (lo / p) l) ∙ sym (lt-ltb lo (p * q + p) (near l (cases_lt lo (p * q + p))))

touches_is : (a e : ℕ) (k : KeptRange) → k.lo < k.hi → touches (block_at a e) k ≡ (ltb (2 ^ e * (a / 2 ^ e)) k.hi && ltb k.lo (2 ^ e * (a / 2 ^ e) + 2 ^ e))
touches_is a e k l =
    let d = div-add-mod a (2 ^ e) in
    let s : a - a % 2 ^ e ≡ 2 ^ e * (a / 2 ^ e) = omega (arith, d) in
    let start = a - a % 2 ^ e in
    ap (λ (b : Bool). b && ltb start k.hi && ltb k.lo (start + 2 ^ e)) (lt-ltb k.lo k.hi l)
    ∙ ap (λ (n : ℕ). ltb n k.hi && ltb k.lo (n + 2 ^ e)) s

touches_value : (v : Valuation) (a : Access) (e t : ℕ) (k : KeptRange) → v a.one_term ≡ flag true → k.lo < k.hi → k.hi ≤ 2 ^ a.address → (v t).bits < 2 ^ a.address
    → form_value v (touches_form a e k t) ≡ flag (touches (block_at (v t).bits e) k)
touches_value v a e t k one l within m = by_case (leb a.address e) refl ∙ ap flag (sym (touches_is (v t).bits e k l))
  where
    by_case : (b : Bool) → leb a.address e ≡ b
        → form_value v (cond b (term a.one_term) (both_of (not_of (less_of (number a.address ((k.hi - 1) / 2 ^ e)) (form1 (Shr e) (term t)))) (not_of (less_of (form1 (Shr e) (term t)) (number a.address (k.lo / 2 ^ e))))))
        ≡ flag (ltb (2 ^ e * ((v t).bits / 2 ^ e)) k.hi && ltb k.lo (2 ^ e * ((v t).bits / 2 ^ e) + 2 ^ e))
    by_case true q =
        let p : 2 ^ a.address ≤ 2 ^ e = pow-le-pow_right (lit< tt) (leb-true a.address e q) in
        let x : (v t).bits / 2 ^ e ≡ 0 = div-eq_of_lt (omega (arith, m, p)) in
        let none : 2 ^ e * 0 ≡ 0 = omega arith in
        let z : 2 ^ e * ((v t).bits / 2 ^ e) ≡ 0 = ap (λ (n : ℕ). 2 ^ e * n) x ∙ none in
        one ∙ ap flag (sym (
        ap (λ (n : ℕ). ltb n k.hi && ltb k.lo (n + 2 ^ e)) z
        ∙ ap (λ (b : Bool). b && ltb k.lo (0 + 2 ^ e)) (lt-ltb 0 k.hi (omega (arith, l)))
        ∙ lt-ltb k.lo (0 + 2 ^ e) (omega (arith, l, within, p))))
    by_case false q =
        let x = (v t).bits / 2 ^ e in
        let quotient = form1 (Shr e) (term t) in
        both_form v (not_of (less_of (number a.address ((k.hi - 1) / 2 ^ e)) quotient)) (not_of (less_of quotient (number a.address (k.lo / 2 ^ e)))) (not (ltb ((k.hi - 1) / 2 ^ e) x)) (not (ltb x (k.lo / 2 ^ e)))
        (not_form v (less_of (number a.address ((k.hi - 1) / 2 ^ e)) quotient) (ltb ((k.hi - 1) / 2 ^ e) x) refl)
        (not_form v (less_of quotient (number a.address (k.lo / 2 ^ e))) (ltb x (k.lo / 2 ^ e)) refl)
        ∙ ap (λ (b : Bool). flag (b && not (ltb x (k.lo / 2 ^ e)))) (low_side k.hi x (2 ^ e) (pow_pos e) (omega (arith, l)))
        ∙ ap (λ (b : Bool). flag (ltb (2 ^ e * x) k.hi && b)) (high_side k.lo x (2 ^ e) (pow_pos e))

-- ---- one range

pub kept_value : (v : Valuation) (a : Access) (k : KeptRange) (key : Out → ℕ) (x : Sized) → v a.one_term ≡ flag true → ((n : ℕ) → (v n).bits < 2 ^ (v n).width.0) → k.lo < k.hi → k.hi ≤ 2 ^ a.address → IsBlock v a.address key x
    → is_one (form_value v (kept_form a k key x)) ≡ not (is_one (v (key x.out)) && touches (block_of v x) k)
kept_value v a k key x one range l within h =
    let c = is_one (v (key x.out)) in
    let t = touches (block_of v x) k in
    let m = subst (λ (w : ℕ). (v x.out.value).bits < 2 ^ w) h.1 (range x.out.value) in
    let touching = touches_form a x.exponent k x.out.value in
    ap is_one (not_form v (both_of (term (key x.out)) touching) (c && t) (both_form v (term (key x.out)) touching c t h.0 (touches_value v a x.exponent x.out.value k one l within m)))
    ∙ flag_one (not (c && t))

row_kept : (v : Valuation) (a : Access) (k : KeptRange) (key : Out → ℕ) (xs : List Sized) → v a.one_term ≡ flag true → ((n : ℕ) → (v n).bits < 2 ^ (v n).width.0) → k.lo < k.hi → k.hi ≤ 2 ^ a.address → AllByRecursion (IsBlock v a.address key) xs
    → Hold v (map (kept_form a k key) xs) → some_touches (blocks_made v key xs) k ≡ false
row_kept v a k key [] one range l within h g = refl
row_kept v a k key (x ∷ xs) one range l within h g =
    by_made (is_one (v (key x.out))) (sym (kept_value v a k key x one range l within h.0) ∙ g.0) (row_kept v a k key xs one range l within h.1 g.1)
  where
    clear : (t rest : Bool) → not t ≡ true → rest ≡ false → (t || rest) ≡ false
    clear true rest e f = absurd (false≢true e)
    clear false rest e f = f

    by_made : (b : Bool) → not (b && touches (block_of v x) k) ≡ true → some_touches (blocks_made v key xs) k ≡ false → some_touches (cond b (block_of v x ∷ blocks_made v key xs) (blocks_made v key xs)) k ≡ false
    by_made true e f = clear (touches (block_of v x) k) (some_touches (blocks_made v key xs) k) e f
    by_made false e f = f

kept_row : (v : Valuation) (a : Access) (k : KeptRange) (key : Out → ℕ) (xs : List Sized) → v a.one_term ≡ flag true → ((n : ℕ) → (v n).bits < 2 ^ (v n).width.0) → k.lo < k.hi → k.hi ≤ 2 ^ a.address → AllByRecursion (IsBlock v a.address key) xs
    → some_touches (blocks_made v key xs) k ≡ false → Hold v (map (kept_form a k key) xs)
kept_row v a k key [] one range l within h g = tt
kept_row v a k key (x ∷ xs) one range l within h g =
    let p = by_made (is_one (v (key x.out))) g in
    (kept_value v a k key x one range l within h.0 ∙ p.0, kept_row v a k key xs one range l within h.1 p.1)
  where
    parts : (t rest : Bool) → (t || rest) ≡ false → (not t ≡ true) × (rest ≡ false)
    parts true rest e = absurd (false≢true (sym e))
    parts false rest e = (refl, e)

    by_made : (b : Bool) → some_touches (cond b (block_of v x ∷ blocks_made v key xs) (blocks_made v key xs)) k ≡ false → (not (b && touches (block_of v x) k) ≡ true) × (some_touches (blocks_made v key xs) k ≡ false)
    by_made true e = parts (touches (block_of v x) k) (some_touches (blocks_made v key xs) k) e
    by_made false e = (refl, e)

-- an empty range is touched by none
none_touch : (blocks : List Block) (k : KeptRange) → ltb k.lo k.hi ≡ false → some_touches blocks k ≡ false
none_touch [] k e = refl
none_touch (b ∷ bs) k e = ap (λ (x : Bool). (x && ltb b.start k.hi && ltb k.lo (b.start + 2 ^ b.exponent)) || some_touches bs k) e ∙ none_touch bs k e

both_false : (x y : Bool) → x ≡ false → y ≡ false → (not x && not y) ≡ true
both_false false false e f = refl
both_false true y e f = absurd (false≢true (sym e))
both_false false true e f = absurd (false≢true (sym f))

false_both : (x y : Bool) → (not x && not y) ≡ true → (x ≡ false) × (y ≡ false)
false_both false false e = (refl, refl)
false_both true y e = absurd (false≢true e)
false_both false true e = absurd (false≢true e)

-- what is asked of the pages and tables
pub record AreTold (v : Valuation) (a : Access) (ps ts : List Sized) : Type 0 where
  pub one : v a.one_term ≡ flag true
  pub range : (n : ℕ) → (v n).bits < 2 ^ (v n).width.0
  pub page_is : AllByRecursion (IsBlock v a.address come_of) ps
  pub table_is : AllByRecursion (IsBlock v a.address then_of) ts

abbrev Kept : Valuation → List Sized → List Sized → KeptRange → Type 0
Kept v ps ts k = is_kept (blocks_made v come_of ps) (blocks_made v then_of ts) k ≡ true

one_kept : (v : Valuation) (a : Access) (ps ts : List Sized) (k : KeptRange) → AreTold v a ps ts → k.hi ≤ 2 ^ a.address → Hold v (every_kept a ps ts k) → Kept v ps ts k
one_kept v a ps ts k h within g = by_range (ltb k.lo k.hi) refl g
  where
    by_range : (b : Bool) → ltb k.lo k.hi ≡ b → Hold v (cond b (map (kept_form a k come_of) ps ++ map (kept_form a k then_of) ts) []) → Kept v ps ts k
    by_range true e f =
        let l = ltb-true k.lo k.hi e in
        let p = AllByRecursion-split (λ (f : Form). is_one (form_value v f) ≡ true) (map (kept_form a k come_of) ps) (map (kept_form a k then_of) ts) f in
        both_false _ _ (row_kept v a k come_of ps h.one h.range l within h.page_is p.0) (row_kept v a k then_of ts h.one h.range l within h.table_is p.1)
    by_range false e f = both_false _ _ (none_touch (blocks_made v come_of ps) k e) (none_touch (blocks_made v then_of ts) k e)

kept_one : (v : Valuation) (a : Access) (ps ts : List Sized) (k : KeptRange) → AreTold v a ps ts → k.hi ≤ 2 ^ a.address → Kept v ps ts k → Hold v (every_kept a ps ts k)
kept_one v a ps ts k h within g = by_range (ltb k.lo k.hi) refl
  where
    by_range : (b : Bool) → ltb k.lo k.hi ≡ b → Hold v (cond b (map (kept_form a k come_of) ps ++ map (kept_form a k then_of) ts) [])
    by_range true e =
        let l = ltb-true k.lo k.hi e in
        let p = false_both (some_touches (blocks_made v come_of ps) k) (some_touches (blocks_made v then_of ts) k) g in
        AllByRecursion-append (λ (f : Form). is_one (form_value v f) ≡ true) (map (kept_form a k come_of) ps) (map (kept_form a k then_of) ts)
        (kept_row v a k come_of ps h.one h.range l within h.page_is p.0) (kept_row v a k then_of ts h.one h.range l within h.table_is p.1)
    by_range false e = tt

-- ---- all ranges

pub all_kept : (v : Valuation) (a : Access) (ps ts : List Sized) (ks : List KeptRange) → AreTold v a ps ts → AllByRecursion (λ (k : KeptRange). k.hi ≤ 2 ^ a.address) ks
    → Hold v (flat_map (every_kept a ps ts) ks) → AllByRecursion IsTrue (map (is_kept (blocks_made v come_of ps) (blocks_made v then_of ts)) ks)
all_kept v a ps ts [] h w g = tt
all_kept v a ps ts (k ∷ ks) h w g =
    let p = AllByRecursion-split (λ (f : Form). is_one (form_value v f) ≡ true) (every_kept a ps ts k) (flat_map (every_kept a ps ts) ks) g in
    (one_kept v a ps ts k h w.0 p.0, all_kept v a ps ts ks h w.1 p.1)

pub kept_all : (v : Valuation) (a : Access) (ps ts : List Sized) (ks : List KeptRange) → AreTold v a ps ts → AllByRecursion (λ (k : KeptRange). k.hi ≤ 2 ^ a.address) ks
    → AllByRecursion IsTrue (map (is_kept (blocks_made v come_of ps) (blocks_made v then_of ts)) ks) → Hold v (flat_map (every_kept a ps ts) ks)
kept_all v a ps ts [] h w g = tt
kept_all v a ps ts (k ∷ ks) h w g =
    AllByRecursion-append (λ (f : Form). is_one (form_value v f) ≡ true) (every_kept a ps ts k) (flat_map (every_kept a ps ts) ks)
    (kept_one v a ps ts k h w.0 g.0) (kept_all v a ps ts ks h w.1 g.1)

-- ---- they are forms

touches_has : (a : Access) (e t : ℕ) (k : KeptRange) → HasForm (touches_form a e k t)
touches_has a e t k = by_case (leb a.address e)
  where
    by_case : (b : Bool) → HasForm (cond b (term a.one_term) (both_of (not_of (less_of (number a.address ((k.hi - 1) / 2 ^ e)) (form1 (Shr e) (term t)))) (not_of (less_of (form1 (Shr e) (term t)) (number a.address (k.lo / 2 ^ e))))))
    by_case true = tt
    by_case false = (refl, (refl, (refl, tt, (refl, tt))), (refl, (refl, (refl, tt), tt)))

row_form : (a : Access) (k : KeptRange) (key : Out → ℕ) (xs : List Sized) → HaveForms (map (kept_form a k key) xs)
row_form a k key [] = tt
row_form a k key (x ∷ xs) = ((refl, (refl, tt, touches_has a x.exponent x.out.value k)), row_form a k key xs)

one_form : (a : Access) (ps ts : List Sized) (k : KeptRange) → HaveForms (every_kept a ps ts k)
one_form a ps ts k = by_range (ltb k.lo k.hi)
  where
    by_range : (b : Bool) → HaveForms (cond b (map (kept_form a k come_of) ps ++ map (kept_form a k then_of) ts) [])
    by_range true = AllByRecursion-append HasForm (map (kept_form a k come_of) ps) (map (kept_form a k then_of) ts) (row_form a k come_of ps) (row_form a k then_of ts)
    by_range false = tt

pub kept_have : (a : Access) (ps ts : List Sized) (ks : List KeptRange) → HaveForms (flat_map (every_kept a ps ts) ks)
kept_have a ps ts [] = tt
kept_have a ps ts (k ∷ ks) = AllByRecursion-append HasForm (every_kept a ps ts k) (flat_map (every_kept a ps ts) ks) (one_form a ps ts k) (kept_have a ps ts ks)
