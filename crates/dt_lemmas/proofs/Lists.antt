-- Lists: parts, ends, lengths.
use Rattle.std.proofs.Common.{◌≡◌, ℕ, ◌+◌, ◌-◌, ◌<◌, ◌≤◌, List, [], ◌∷◌, ◌++◌, length, take, drop, get_or, min, sym, ap, ◌∙◌, add-zero, arith, zero, suc, ◌*◌, Bool, true, map, Some, refl, subst, length-append, eqb, ⊎_elim}
use Rattle.std.specs.Prelude.{slice_range, slice_get, All}
use Rattle.std.specs.List.{flat_map, AllByRecursion, All, list_all, zip, list_any}
use Rattle.std.proofs.lemmas.List.{append-nil, get_or-drop, length-append, length-drop, length-take, take-append-le, take-take, get_or-map, length-map, take_all, take_more, flat_map_more, map_push, drop_all}
use Rattle.std.proofs.lemmas.List.Concat.{flat_map-append}
use Rattle.std.proofs.Math.Seq.{take-append_seam}
use Rattle.std.proofs.lemmas.Bool.{and_parts, or_cases, eqb-true, false≢true}
use Rattle.std.proofs.lemmas.Simd.{map-map}
use Rattle.std.proofs.lemmas.Slice.Zip.{get_or-zip}
use Rattle.std.proofs.lemmas.List.Elements.{All-nil, All-cons}

-- ---- the front of a list

-- a list that begins with xs and then ys begins with xs
pub take_front : {A : Type 0} (xs ys zs : List A) → take (length (xs ++ ys)) zs ≡ xs ++ ys → take (length xs) zs ≡ xs
take_front {A = A} xs ys zs h =
    let le : length xs ≤ length (xs ++ ys) = omega (arith, length-append xs ys) in
    sym (take-take (length xs) (length (xs ++ ys)) zs le) ∙ ap (λ (l : List A). take (length xs) l) h ∙ take-append_seam xs ys

-- what begins so still does with more behind it
pub take_kept : {A : Type 0} (xs ys zs ws : List A) → take (length xs) ys ≡ xs → ws ≡ ys ++ zs → take (length xs) ws ≡ xs
take_kept {A = A} xs ys zs ws h more =
    let short : min (length xs) (length ys) ≡ length xs = sym (length-take (length xs) ys) ∙ ap length h in
    let le : length xs ≤ length ys = omega arith in
    ap (λ (l : List A). take (length xs) l) more ∙ take-append-le (length xs) ys zs le ∙ h

-- ---- lists of lists, one behind the other

-- one more element gives one more
pub flat_map_one : {E A : Type 0} (f : E → List A) (es : List E) (e : E) (x : A) → f e ≡ x ∷ [] → flat_map f (es ++ e ∷ []) ≡ flat_map f es ++ x ∷ []
flat_map_one {A = A} f es e x is = flat_map-append f es (e ∷ []) ∙ ap (λ (xs : List A). flat_map f es ++ xs) (append-nil (f e) ∙ is)

-- one more element gives no more
pub flat_map_none : {E A : Type 0} (f : E → List A) (es : List E) (e : E) → f e ≡ [] → flat_map f (es ++ e ∷ []) ≡ flat_map f es
flat_map_none {A = A} f es e none = flat_map-append f es (e ∷ []) ∙ ap (λ (xs : List A). flat_map f es ++ xs) (append-nil (f e) ∙ none) ∙ append-nil (flat_map f es)

-- ---- parts

pub get_or_drop : {A : Type 0} (xs : List A) (i : ℕ) (d : A) → get_or (drop i xs) 0 d ≡ get_or xs i d
get_or_drop xs i d = get_or-drop i xs 0 d ∙ ap (λ (k : ℕ). get_or xs k d) (add-zero i)

pub some_left : {A : Type 0} (xs : List A) (i : ℕ) → i < length xs → 0 < length (drop i xs)
some_left xs i lt = omega (arith, length-drop i xs)

pub slice_width : {A : Type 0} (xs : List A) (from to : ℕ) → from ≤ to → to ≤ length xs → from + length (slice_range xs from to) ≡ to
slice_width xs from to rising within = omega (arith, length-take (to - from) (drop from xs), length-drop from xs)

-- a test that passes on all elements
pub all_from : {X : Type 0} (f : X → Bool) (P : X → Type 0) → ((x : X) → f x ≡ true → P x) → (xs : List X) → list_all f xs ≡ true → All P xs
all_from f P k [] h i d l = absurd (omega arith)
all_from f P k (x ∷ xs) h zero d l = k x (and_parts (f x) (list_all f xs) h).0
all_from f P k (x ∷ xs) h (suc i) d l = all_from f P k xs (and_parts (f x) (list_all f xs) h).1 i d (omega arith)

-- a list that is written whole
pub written : {X : Type 0} (n : ℕ) (new old : List X) → n ≡ length old → length new ≡ length old → take n (new ++ drop (length new) old) ≡ new
written {X} n new old e f =
    let d : drop (length new) old ≡ [] = drop_all (length new) old (omega arith) in
    ap (λ (r : List X). take n (new ++ r)) d ∙ ap (take n) (append-nil new) ∙ take_all n new (omega arith)

pub AllByRecursion-append : {X : Type 0} (P : X → Type 0) (xs ys : List X) → AllByRecursion P xs → AllByRecursion P ys → AllByRecursion P (xs ++ ys)
AllByRecursion-append P [] ys h k = k
AllByRecursion-append P (x ∷ xs) ys h k = (h.0, AllByRecursion-append P xs ys h.1 k)

pub AllByRecursion-split : {X : Type 0} (P : X → Type 0) (xs ys : List X) → AllByRecursion P (xs ++ ys) → AllByRecursion P xs × AllByRecursion P ys
AllByRecursion-split P [] ys h = (tt, h)
AllByRecursion-split P (x ∷ xs) ys h = let r = AllByRecursion-split P xs ys h.1 in ((h.0, r.0), r.1)

-- what holds of each element past a function holds past it
pub All-from_map : {X Y : Type 0} (P : Y → Type 0) (f : X → Y) (xs : List X) → All P (map f xs) → All (λ x. P (f x)) xs
All-from_map {X} {Y} P f xs h k d l = subst P (get_or-map f xs k d (f d) l) (h k (f d) (omega (arith, length-map xs f)))

-- what holds of each element holds of the one at a place
pub all_at : {X : Type 0} (P : X → Type 0) (xs : List X) (i : ℕ) (x : X) → All P xs → slice_get xs i ≡ Some x → P x
all_at {X} P [] i x h e = absurd (cc)
all_at {X} P (y ∷ ys) zero x h e = let s : y ≡ x = cc in subst P s (h 0 y (omega arith))
all_at {X} P (y ∷ ys) (suc i) x h e = all_at P ys i x (λ k d l. h (suc k) d (omega arith)) e

-- what holds of each element holds of the one at i, by recursion
pub each_at : {X : Type 0} (P : X → Type 0) (xs : List X) (i : ℕ) (x : X) → AllByRecursion P xs → i < length xs → x ≡ get_or xs i x → P x
each_at P [] i x h l e = absurd (omega arith)
each_at P (y ∷ ys) zero x h l e = subst P (sym e) h.0
each_at P (y ∷ ys) (suc i) x h l e = each_at P ys i x h.1 (omega arith) e

pub same_length : {X Y : Type 0} (f : X → ℕ) (g : Y → ℕ) (xs : List X) (ys : List Y) → map f xs ≡ map g ys → length xs ≡ length ys
same_length f g xs ys e = sym (length-map xs f) ∙ ap length e ∙ length-map ys g

-- lists whose numbers differ at a place
pub differ_at : {X Y : Type 0} (f : X → ℕ) (g : Y → ℕ) (xs : List X) (ys : List Y) (i : ℕ) (x : X) (y : Y) → i < length xs → i < length ys → x ≡ get_or xs i x → y ≡ get_or ys i y → (f x ≡ g y → ⊥) → map f xs ≡ map g ys → ⊥
differ_at f g xs ys i x y l m p q n e =
    n (ap f p ∙ sym (get_or-map f xs i x 0 l) ∙ ap (λ (ns : List ℕ). get_or ns i 0) e ∙ get_or-map g ys i y 0 m ∙ sym (ap g q))

-- the pair at a place of two lists
pub pair_at : {X Y : Type 0} (xs : List X) (ys : List Y) (i : ℕ) (x : X) (y : Y) → i < length xs → i < length ys → x ≡ get_or xs i x → y ≡ get_or ys i y → (x, y) ≡ get_or (zip xs ys) i (x, y)
pair_at {X} {Y} xs ys i x y l m p q =
    ap (λ (a : X). (a, y)) p
    ∙ ap (λ (b : Y). (get_or xs i x, b)) q
    ∙ sym (get_or-zip xs ys i (x, y) l m)

-- the answers for each element of a list that another one stands for
pub all_pushed : {X Y A : Type 0} (f : Y → A) (g : X → Y) (before now : List A) (xs : List X) (ys : List Y) (i : ℕ) → length xs ≤ i → map g xs ≡ ys → now ≡ before ++ map (λ x. f (g x)) (take i xs) → now ≡ before ++ map f ys
all_pushed {X} {Y} {A} f g before now xs ys i l e h =
    h
    ∙ ap (λ (z : List X). before ++ map (λ x. f (g x)) z) (take_all i xs l)
    ∙ ap (λ (z : List A). before ++ z) (sym (map-map f g xs) ∙ ap (map f) e)

-- one more element's answers
pub flat_pushed : {X A : Type 0} (f : X → List A) (before now next : List A) (xs : List X) (i : ℕ) (x : X) → i < length xs → x ≡ get_or xs i x → now ≡ before ++ flat_map f (take i xs) → next ≡ now ++ f x → next ≡ before ++ flat_map f (take (i + 1) xs)
flat_pushed {X} {A} f before now next xs i x l e h n =
    n
    ∙ ap (λ (m : List A). m ++ f x) h
    ∙ flat_map_more f before (take i xs) x
    ∙ ap (λ (y : X). before ++ flat_map f (take i xs ++ y ∷ [])) e
    ∙ ap (λ (m : List X). before ++ flat_map f m) (sym (take_more xs i x l))

flat_map-map : {X Y A : Type 0} (f : Y → List A) (g : X → Y) (xs : List X) → flat_map (λ x. f (g x)) xs ≡ flat_map f (map g xs)
flat_map-map f g [] = refl
flat_map-map {A = A} f g (x ∷ xs) = ap (λ (m : List A). f (g x) ++ m) (flat_map-map f g xs)

-- all elements' answers, of a list that another one stands for
pub all_flat : {X Y A : Type 0} (f : Y → List A) (g : X → Y) (before now : List A) (xs : List X) (i : ℕ) → length xs ≤ i → now ≡ before ++ flat_map (λ x. f (g x)) (take i xs) → now ≡ before ++ flat_map f (map g xs)
all_flat {X} {Y} {A} f g before now xs i l h =
    h
    ∙ ap (λ (z : List X). before ++ flat_map (λ x. f (g x)) z) (take_all i xs l)
    ∙ ap (λ (m : List A). before ++ m) (flat_map-map f g xs)

-- one more element that another one stands for
pub one_mapped : {X Y A : Type 0} (f : X → A) (g : Y → A) (xs : List X) (ys : List Y) (i : ℕ) (x : X) (y : Y) → i < length ys → y ≡ get_or ys i y → f x ≡ g y → map f xs ≡ map g (take i ys) → map f (xs ++ x ∷ []) ≡ map g (take (i + 1) ys)
one_mapped {X} {Y} {A} f g xs ys i x y l e s h =
    map_push f xs x
    ∙ ap (λ (m : List A). m ++ f x ∷ []) h
    ∙ ap (λ (a : A). map g (take i ys) ++ a ∷ []) (s ∙ ap g e)
    ∙ sym (map_push g (take i ys) (get_or ys i y))
    ∙ ap (map g) (sym (take_more ys i y l))

-- each element gives at most n
pub length_flat : {X A : Type 0} (f : X → List A) (n : ℕ) → ((x : X) → length (f x) ≤ n) → (xs : List X) → length (flat_map f xs) ≤ length xs * n
length_flat f n h [] = omega arith
length_flat f n h (x ∷ xs) = let r = length_flat f n h xs in let s = h x in omega (arith, length-append (f x) (flat_map f xs), r, s)

-- ---- elements and facts of all of them

pub element : {X : Type 0} (xs : List X) (i : ℕ) → i < length xs → (x : X) × (slice_get xs i ≡ Some x)
element [] i lt = absurd (omega arith)
element (x ∷ xs) zero lt = (x, refl)
element (x ∷ xs) (suc i) lt = element xs i (omega arith)

pub each_has : {X : Type 0} (P : X → Type 0) (xs : List X) → ((i : ℕ) (x : X) → slice_get xs i ≡ Some x → P x) → AllByRecursion P xs
each_has P [] h = tt
each_has P (x ∷ xs) h = (h 0 x refl, each_has P xs (λ i y at. h (suc i) y at))

pub all_of : {X : Type 0} (P : X → Type 0) (xs : List X) → AllByRecursion P xs → All P xs
all_of P [] h = All-nil P
all_of P (x ∷ xs) h = All-cons P x xs h.0 (all_of P xs h.1)

pub all_of_one : {X : Type 0} (P : X → Type 0) (x : X) → P x → All P (x ∷ [])
all_of_one P x h = All-cons P x [] h (All-nil P)

-- what is written back of a whole list is the list
pub written_whole : {X : Type 0} (new ys : List X) (n : ℕ) → length new ≡ n → take n (new ++ ys) ≡ new
written_whole new ys n e = subst (λ m. take m (new ++ ys) ≡ new) e (take-append_seam new ys)

-- what holds of each of some numbers holds of one that is among them
pub holds_among : (P : ℕ → Type 0) (xs : List ℕ) (x : ℕ) → All P xs → list_any (λ y. eqb y x) xs ≡ true → P x
holds_among P [] x h e = absurd (false≢true e)
holds_among P (y ∷ ys) x h e =
    ⊎_elim
    (λ (f : eqb y x ≡ true). subst P (eqb-true y x f) (h 0 0 (omega arith)))
    (λ (f : list_any (λ z. eqb z x) ys ≡ true). holds_among P ys x (λ k d m. h (suc k) d (omega arith)) f)
    (or_cases (eqb y x) _ e)
