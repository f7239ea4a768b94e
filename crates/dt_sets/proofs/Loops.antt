-- Loops over listed numbers.
use Rattle.std.proofs.Common.{◌≡◌, ℕ, ◌+◌, ◌<◌, ◌≤◌, Bool, true, false, not, ◌||◌, cond, List, [], ◌∷◌, ◌++◌, length, get_or, take, refl, sym, ap, ◌∙◌, subst, min, arith}
use Rattle.std.specs.List.{AllByRecursion, list_any, filter, fold}
use Rattle.std.proofs.lemmas.List.{take_all, length-take}
use Rattle.std.proofs.lemmas.List.Folds.{list_any_more, list_any_at}
use Rattle.std.proofs.lemmas.List.Sums.{fold_more}
use Rattle.std.proofs.lemmas.List.Elements.{filter_more, All-get_or, All-from_recursion}
use Rattle.dt_bits.specs.declared.value.Width.{Width}
use Rattle.dt_sets.specs.declared.Sets.{Sets}
use Rattle.dt_sets.specs.Sets.{capacity, listed, listing, IsListing, IsSets}
use Rattle.dt_sets.specs.Laws.Form.{counted, few_is, listed_is, listing_is}
use Rattle.std.proofs.lemmas.List.Filters.{length-filter_both}

-- how many are listed
pub count_is : (s : Sets) → IsSets s → s.many ≡ false → s.count ≡ length (listed s)
count_is s p m = counted s (few_is s p m)

-- ---- some number passes

pub any_next : (p : ℕ → Bool) (xs : List ℕ) (i x : ℕ) → i < length xs → list_any p (take i xs) ≡ false → x ≡ get_or xs i 0 → p x ≡ false → list_any p (take (i + 1) xs) ≡ false
any_next p xs i x l h e f = list_any_more p xs i 0 l ∙ ap (λ b. b || p (get_or xs i 0)) h ∙ sym (ap p e) ∙ f

pub any_none : (p : ℕ → Bool) (xs : List ℕ) (i : ℕ) → length xs ≤ i → list_any p (take i xs) ≡ false → list_any p xs ≡ false
any_none p xs i l h = ap (list_any p) (sym (take_all i xs l)) ∙ h

pub any_here : (p : ℕ → Bool) (xs : List ℕ) (i x : ℕ) → i < length xs → x ≡ get_or xs i 0 → p x ≡ true → list_any p xs ≡ true
any_here p xs i x l e h = list_any_at p xs i 0 l (sym (ap p e) ∙ h)

-- ---- numbers that pass are kept

keep_long : (p : ℕ → Bool) (w : Width) (xs : List ℕ) (i : ℕ) (s : Sets) → s ≡ listing w (filter p (take i xs)) → s.count ≤ min i (length xs)
keep_long p w xs i s e =
    let c : s.count ≡ length (filter p (take i xs)) = ap (λ (t : Sets). t.count) e in
    let l = length-filter_both p (λ x. not (p x)) (λ x. refl) (take i xs) in
    omega (arith, c, l, length-take i xs)

pub keep_form : (p : ℕ → Bool) (w : Width) (xs : List ℕ) (i : ℕ) (s : Sets) → length xs ≤ capacity → s ≡ listing w (filter p (take i xs)) → IsListing s
keep_form p w xs i s l e =
    let c : s.count ≡ length (filter p (take i xs)) = ap (λ (t : Sets). t.count) e in
    let m = keep_long p w xs i s e in
    subst IsListing (sym e) (listing_is w (filter p (take i xs)) (omega (arith, c, m)))

pub keep_room : (p : ℕ → Bool) (w : Width) (xs : List ℕ) (i : ℕ) (s : Sets) → length xs ≤ capacity → i < length xs → s ≡ listing w (filter p (take i xs)) → s.count < capacity
keep_room p w xs i s l h e = let m = keep_long p w xs i s e in omega (arith, m)

pub keep_next : (p : ℕ → Bool) (w : Width) (xs : List ℕ) (i x : ℕ) (b : Bool) (s t : Sets) → i < length xs → s ≡ listing w (filter p (take i xs))
    → x ≡ get_or xs i 0 → b ≡ p x → t ≡ listing s.width (listed s ++ cond b (x ∷ []) []) → t ≡ listing w (filter p (take (i + 1) xs))
keep_next p w xs i x b s t l e f g h =
    let k : listed s ≡ filter p (take i xs) = ap listed e ∙ listed_is w (filter p (take i xs)) in
    h ∙ ap (λ (u : Sets). listing u.width (listed s ++ cond b (x ∷ []) [])) e
    ∙ ap (λ ys. listing w (ys ++ cond b (x ∷ []) [])) k
    ∙ ap (λ c. listing w (filter p (take i xs) ++ cond c (x ∷ []) [])) g
    ∙ ap (λ n. listing w (filter p (take i xs) ++ cond (p n) (n ∷ []) [])) f
    ∙ ap (listing w) (sym (filter_more p xs i 0 l))

pub keep_all : (p : ℕ → Bool) (w : Width) (xs : List ℕ) (i : ℕ) (s : Sets) → length xs ≤ i → s ≡ listing w (filter p (take i xs)) → s ≡ listing w (filter p xs)
keep_all p w xs i s l e = e ∙ ap (λ ys. listing w (filter p ys)) (take_all i xs l)

-- ---- each number is taken in

pub fold_next : (f : Sets → ℕ → Sets) (a s t : Sets) (xs : List ℕ) (i x : ℕ) → i < length xs → s ≡ fold f a (take i xs) → x ≡ get_or xs i 0 → t ≡ f s x → t ≡ fold f a (take (i + 1) xs)
fold_next f a s t xs i x l e g h = h ∙ ap (λ s. f s x) e ∙ ap (f (fold f a (take i xs))) g ∙ sym (fold_more f a xs i 0 l)

pub fold_all : (f : Sets → ℕ → Sets) (a s : Sets) (xs : List ℕ) (i : ℕ) → length xs ≤ i → s ≡ fold f a (take i xs) → s ≡ fold f a xs
fold_all f a s xs i l e = e ∙ ap (fold f a) (take_all i xs l)

-- a number of a list at a place
pub at_place : (P : ℕ → Type 0) (xs : List ℕ) (i : ℕ) → AllByRecursion P xs → i < length xs → P (get_or xs i 0)
at_place P xs i a l = All-get_or P xs i 0 l (All-from_recursion P xs a)
