-- A Known by its bits: it holds the numbers of its width that agree with each known bit.
use Rattle.std.proofs.Common.{◌≡◌, ℕ, ◌-◌, ◌^◌, ◌<◌, Bool, true, false, not, ◌&&◌, cond, eqb, ltb, bit_and, Option, Some, None, is_some, refl, sym, ap, ◌∙◌, arith}
use Rattle.std.proofs.lemmas.Bool.{and_parts, and_from, not-true, lt-ltb, ltb-true, eq-eqb, eqb-true, false≢true}
use Rattle.std.proofs.lemmas.Nat.{pow_pos, and_le_l, and_le_r}
use Rattle.dt_bits.specs.Bits.{IsWidth, bit, number_of}
use Rattle.dt_bits.specs.declared.value.Width.{Width}
use Rattle.dt_bits.proofs.BitLemmas.{same_bits, bit_of_and, bit_of_number, number_of_below, bit_of_ones}
use Rattle.dt_known.specs.declared.Known.{Known}
use Rattle.dt_known.specs.Known.{IsKnown, known_holds, is_one, known_bit, from_bits, nothing}

-- what is known agrees with the bit
abbrev pub Agrees : Option Bool → Bool → Type 0
Agrees None b = Unit {0}
Agrees (Some v) b = v ≡ b

-- f tells true bits of x, below w
abbrev pub Tells : ℕ → (ℕ → Option Bool) → ℕ → Type 0
Tells w f x = (i : ℕ) → i < w → Agrees (f i) (bit x i)

some_of : (p q : Bool) → p ≡ is_some (cond p (Some q) None)
some_of true q = refl
some_of false q = refl

one_of : (p q : Bool) → (q && p) ≡ q → q ≡ is_one (cond p (Some q) None)
one_of true q e = refl
one_of false true e = sym e
one_of false false e = refl

-- ---- a word's bits as what is known

pub mask_bit : (a : Known) (i : ℕ) → bit a.mask i ≡ is_some (known_bit a i)
mask_bit a i = some_of (bit a.mask i) (bit a.value i)

pub value_bit : (a : Known) (i : ℕ) → IsKnown a → bit a.value i ≡ is_one (known_bit a i)
value_bit a i h = one_of (bit a.mask i) (bit a.value i) (sym (bit_of_and a.value a.mask i) ∙ ap (λ n. bit n i) h.within)

pub value_fits : (a : Known) → IsKnown a → a.value < 2 ^ a.width.0
value_fits a p = omega (arith, p.mask_fits, and_le_r a.value a.mask, p.within)

-- ---- the Known of given bits

tell : (o : Option Bool) → cond (is_some o) (Some (is_one o)) None ≡ o
tell None = refl
tell (Some v) = refl

pub bit_from_bits : (w : Width) (f : ℕ → Option Bool) (i : ℕ) → i < w.0 → known_bit (from_bits w f) i ≡ f i
bit_from_bits w f i h =
    ap (λ b. cond b (Some (bit (number_of w.0 (λ i. is_one (f i))) i)) None) (bit_of_number w.0 (λ i. is_some (f i)) i h)
    ∙ ap (λ b. cond (is_some (f i)) (Some b) None) (bit_of_number w.0 (λ i. is_one (f i)) i h)
    ∙ tell (f i)

one_and_some : (o : Option Bool) → (is_one o && is_some o) ≡ is_one o
one_and_some None = refl
one_and_some (Some true) = refl
one_and_some (Some false) = refl

pub known_is_from_bits : (w : Width) (f : ℕ → Option Bool) → IsWidth w.0 → IsKnown (from_bits w f)
known_is_from_bits w f h =
    let m = number_of w.0 (λ i. is_some (f i)) in
    let v = number_of w.0 (λ i. is_one (f i)) in
    record {
      width = h;
      mask_fits = number_of_below w.0 (λ i. is_some (f i));
      within = same_bits w.0 (bit_and v m) v (omega (arith, and_le_l v m, number_of_below w.0 (λ i. is_one (f i)))) (number_of_below w.0 (λ i. is_one (f i))) (λ i l.
          bit_of_and v m i
          ∙ ap (λ b. b && bit m i) (bit_of_number w.0 (λ i. is_one (f i)) i l)
          ∙ ap (λ b. is_one (f i) && b) (bit_of_number w.0 (λ i. is_some (f i)) i l)
          ∙ one_and_some (f i) ∙ sym (bit_of_number w.0 (λ i. is_one (f i)) i l));
      empty = λ e. absurd (false≢true e);
    }

pub known_is_nothing : (w : Width) → IsWidth w.0 → IsKnown (nothing w)
known_is_nothing w h = record { width = h; mask_fits = pow_pos w.0; within = refl; empty = λ e. (refl, refl) }

-- words with these bits are the Known of these bits
pub from_words : (w : Width) (m v : ℕ) (f : ℕ → Option Bool) → m < 2 ^ w.0 → v < 2 ^ w.0
    → ((i : ℕ) → i < w.0 → bit m i ≡ is_some (f i)) → ((i : ℕ) → i < w.0 → bit v i ≡ is_one (f i))
    → (let k : Known = record { mask = m; value = v; width = w; empty = false } in k ≡ from_bits w f)
from_words w m v f hm hv em ev =
    let e : m ≡ number_of w.0 (λ i. is_some (f i)) = same_bits w.0 m _ hm (number_of_below w.0 _) (λ i l. em i l ∙ sym (bit_of_number w.0 (λ i. is_some (f i)) i l)) in
    let d : v ≡ number_of w.0 (λ i. is_one (f i)) = same_bits w.0 v _ hv (number_of_below w.0 _) (λ i l. ev i l ∙ sym (bit_of_number w.0 (λ i. is_one (f i)) i l)) in
    let k : ℕ → ℕ → Known = λ m v. record { mask = m; value = v; width = w; empty = false } in
    ap (λ n. k n v) e ∙ ap (λ n. k (number_of w.0 (λ i. is_some (f i))) n) d

-- ---- what is held

pub agree_masked : (o : Option Bool) (b : Bool) → Agrees o b → (b && is_some o) ≡ is_one o
agree_masked None true h = refl
agree_masked None false h = refl
agree_masked (Some v) true h = sym h
agree_masked (Some v) false h = sym h

pub masked_agree : (o : Option Bool) (b : Bool) → (b && is_some o) ≡ is_one o → Agrees o b
masked_agree None b h = tt
masked_agree (Some v) true h = sym h
masked_agree (Some v) false h = sym h

-- held is each number that agrees with the known bits
pub holds_from_bits : (w : Width) (f : ℕ → Option Bool) (x : ℕ) → x < 2 ^ w.0 → Tells w.0 f x → known_holds (from_bits w f) x ≡ true
holds_from_bits w f x h all =
    let m = number_of w.0 (λ i. is_some (f i)) in
    let v = number_of w.0 (λ i. is_one (f i)) in
    let e : bit_and x m ≡ v = same_bits w.0 (bit_and x m) v (omega (arith, and_le_l x m)) (number_of_below w.0 (λ i. is_one (f i))) (λ i l.
    bit_of_and x m i
    ∙ ap (λ b. bit x i && b) (bit_of_number w.0 (λ i. is_some (f i)) i l)
    ∙ agree_masked (f i) (bit x i) (all i l)
    ∙ sym (bit_of_number w.0 (λ i. is_one (f i)) i l)) in
    and_from _ _ (lt-ltb x (2 ^ w.0) h) (eq-eqb _ _ e)

-- what it means that a holds x
pub record Held (a : Known) (x : ℕ) : Type 0 where
  pub full : a.empty ≡ false
  pub fits : x < 2 ^ a.width.0
  pub masked : bit_and x a.mask ≡ a.value
  pub agrees : (i : ℕ) → Agrees (known_bit a i) (bit x i)

pub held : (a : Known) (x : ℕ) → IsKnown a → known_holds a x ≡ true → Held a x
held a x p h =
    let s = and_parts (not a.empty) (ltb x (2 ^ a.width.0) && eqb (bit_and x a.mask) a.value) h in
    let t = and_parts (ltb x (2 ^ a.width.0)) (eqb (bit_and x a.mask) a.value) s.1 in
    let e : bit_and x a.mask ≡ a.value = eqb-true _ _ t.1 in
    record {
      full = not-true a.empty s.0;
      fits = ltb-true _ _ t.0;
      masked = e;
      agrees = λ i. masked_agree (known_bit a i) (bit x i)
          (ap (λ b. bit x i && b) (sym (mask_bit a i)) ∙ sym (bit_of_and x a.mask i) ∙ ap (λ n. bit n i) e ∙ value_bit a i p);
    }

pub held_is : (a : Known) (x : ℕ) → a.empty ≡ false → x < 2 ^ a.width.0 → bit_and x a.mask ≡ a.value → known_holds a x ≡ true
held_is a x e h m = and_from (not a.empty) _ (ap not e) (and_from (ltb x (2 ^ a.width.0)) _ (lt-ltb _ _ h) (eq-eqb _ _ m))

-- ---- all bits known

pub all_from_bits : (w : Width) (f : ℕ → Option Bool) → ((i : ℕ) → i < w.0 → is_some (f i) ≡ true) → number_of w.0 (λ i. is_some (f i)) ≡ 2 ^ w.0 - 1
all_from_bits w f h = same_bits w.0 _ (2 ^ w.0 - 1) (number_of_below w.0 (λ i. is_some (f i))) (omega (arith, pow_pos w.0)) (λ i l. bit_of_number w.0 (λ i. is_some (f i)) i l ∙ h i l ∙ sym (bit_of_ones w.0 i l))

pub known_all : (a : Known) (i : ℕ) → a.mask ≡ 2 ^ a.width.0 - 1 → i < a.width.0 → is_some (known_bit a i) ≡ true
known_all a i e l = sym (mask_bit a i) ∙ ap (λ n. bit n i) e ∙ bit_of_ones a.width.0 i l
