-- Sets of positions: what adding and taking away does, and how the next one is found.
use Rattle.std.proofs.Common.{◌≡◌, ◌≢◌, ℕ, zero, suc, ◌+◌, ◌-◌, ◌*◌, ◌/◌, ◌%◌, ◌^◌, ◌<◌, ◌≤◌, Bool, true, false, not, ◌&&◌, ◌||◌, cond, eqb, List, [], ◌∷◌, Option, Some, None, length, replicate, get_or, set, refl, sym, ap, ◌∙◌, subst, inl, inr, ◌⊎◌, ⊎_elim, arith, get_or-set_same, get_or-set_other}
use Rattle.std.specs.Int.{bit_not, bit_at}
use Rattle.std.specs.Int.RustNames.{bit_or}
use Rattle.std.proofs.lemmas.Bool.{cases_eq, cases_lt, eq-eqb, eqb-true, ne_eqb, or_right, and_parts, and_from, true≢false, false_from_ne_true}
use Rattle.std.proofs.lemmas.List.{get_or_past, length-replicate, get_or-replicate}
use Rattle.std.proofs.lemmas.Nat.Bits.{bit_at_set_same, bit_at_set_other, bit_at_clear_same, bit_at_clear_other, bit_at-trailing_zeros}
use Rattle.std.specs.Int.{trailing_zeros}
use lib.Bits.{bit_and}
use Rattle.std.proofs.Common.{w64}
use Rattle.dt_bits.specs.Bits.{bit}
use Rattle.dt_bits.proofs.BitLemmas.{bit_is, bit_of_shr, bit_of_zero, bit_of_ones, bit_above, from_at}
use Rattle.dt_propagate.specs.Marks.{is_marked, AreCovered, Grows, IsNextMark}

-- where rest is 0, no bit from k on is 1
pub next_none : (word k rest : ℕ) → rest ≡ word / 2 ^ k → rest ≡ 0 → (i : ℕ) → k ≤ i → bit word i ≡ false
next_none word k rest e z i l =
    let s : k + (i - k) ≡ i = omega arith in
    sym (ap (bit word) s) ∙ sym (bit_of_shr word k (i - k)) ∙ ap (λ n. bit n (i - k)) (sym e ∙ z) ∙ bit_of_zero (i - k)

-- else the lowest one of them is found
pub next_some : (word k rest t : ℕ) → word < 2 ^ 64 → rest < 2 ^ 64 → rest ≡ word / 2 ^ k → rest ≢ 0 → t ≡ k + trailing_zeros w64 rest
    → (k ≤ t) × (t < 64) × (bit word t ≡ true) × ((i : ℕ) → k ≤ i → i < t → bit word i ≡ false)
next_some word k rest t l r e z f =
    let n : 0 < rest = omega arith in
    let q = bit_at-trailing_zeros w64 rest n r in
    let z = trailing_zeros w64 rest in
    let is : bit word t ≡ true = ap (bit word) f ∙ sym (bit_of_shr word k z) ∙ ap (λ n. bit n z) (sym e) ∙ bit_is rest z 1 q.1 in (
      omega arith,
      ⊎_elim (λ (m : t < 64). m) (λ (m : 64 ≤ t). absurd (grind (arith, bit_above word 64 t l m))) (cases_lt t 64),
      is,
      λ i a b.
          let s : k + (i - k) ≡ i = omega arith in
          sym (ap (bit word) s) ∙ sym (bit_of_shr word k (i - k)) ∙ ap (λ n. bit n (i - k)) (sym e) ∙ bit_is rest (i - k) 0 (q.2 (i - k) (omega arith)),
    )

module _ (words : List ℕ) (at word : ℕ) (l : at / 64 < length words) where
  other_word : (i : ℕ) → (i / 64 ≡ at / 64 → ⊥) → is_marked (set words (at / 64) word) i ≡ is_marked words i
  other_word i n = ap (λ w. bit w (i % 64)) (get_or-set_other words (at / 64) (i / 64) word 0 n)

  same_word : (i : ℕ) → i / 64 ≡ at / 64 → is_marked (set words (at / 64) word) i ≡ bit word (i % 64)
  same_word i e = ap (λ w. bit w (i % 64)) (ap (λ k. get_or (set words (at / 64) word) k 0) e ∙ get_or-set_same words (at / 64) word 0 l)

  pub mark_is : word ≡ bit_or (get_or words (at / 64) 0) (1 * 2 ^ (at % 64) % 2 ^ 64) → (i : ℕ) → is_marked (set words (at / 64) word) i ≡ (eqb i at || is_marked words i)
  mark_is e i =
      ⊎_elim
      (λ (f : i ≡ at).
      same_word i (ap (λ n. n / 64) f) ∙ ap (bit word) (ap (λ n. n % 64) f) ∙ ap (λ w. bit w (at % 64)) e ∙ bit_is _ (at % 64) 1 (bit_at_set_same w64 (get_or words (at / 64) 0) (at % 64) (omega arith))
      ∙ sym (ap (λ b. b || is_marked words i) (eq-eqb i at f)))
      (λ (f : i ≡ at → ⊥).
      ⊎_elim
      (λ (g : i / 64 ≡ at / 64).
      let n : i % 64 ≢ at % 64 = λ h. f (omega arith) in
      same_word i g ∙ ap (λ w. bit w (i % 64)) e
      ∙ from_at _ (get_or words (at / 64) 0) (i % 64) (i % 64) (bit_at_set_other w64 (get_or words (at / 64) 0) (at % 64) (omega arith) (i % 64) n)
      ∙ ap (λ k. bit (get_or words k 0) (i % 64)) (sym g) ∙ sym (ap (λ b. b || is_marked words i) (ne_eqb i at f)))
      (λ (g : i / 64 ≡ at / 64 → ⊥). other_word i g ∙ sym (ap (λ b. b || is_marked words i) (ne_eqb i at f)))
      (cases_eq (i / 64) (at / 64)))
      (cases_eq i at)

  pub unmark_is : word ≡ bit_and (get_or words (at / 64) 0) (bit_not w64 (1 * 2 ^ (at % 64) % 2 ^ 64)) → (i : ℕ) → is_marked (set words (at / 64) word) i ≡ (not (eqb i at) && is_marked words i)
  unmark_is e i =
      ⊎_elim
      (λ (f : i ≡ at).
      same_word i (ap (λ n. n / 64) f) ∙ ap (bit word) (ap (λ n. n % 64) f) ∙ ap (λ w. bit w (at % 64)) e ∙ bit_is _ (at % 64) 0 (bit_at_clear_same w64 (get_or words (at / 64) 0) (at % 64) (omega arith))
      ∙ sym (ap (λ b. not b && is_marked words i) (eq-eqb i at f)))
      (λ (f : i ≡ at → ⊥).
      ⊎_elim
      (λ (g : i / 64 ≡ at / 64).
      let n : i % 64 ≢ at % 64 = λ h. f (omega arith) in
      same_word i g ∙ ap (λ w. bit w (i % 64)) e
      ∙ from_at _ (get_or words (at / 64) 0) (i % 64) (i % 64) (bit_at_clear_other w64 (get_or words (at / 64) 0) (at % 64) (omega arith) (i % 64) (omega arith) n)
      ∙ ap (λ k. bit (get_or words k 0) (i % 64)) (sym g) ∙ sym (ap (λ b. not b && is_marked words i) (ne_eqb i at f)))
      (λ (g : i / 64 ≡ at / 64 → ⊥). other_word i g ∙ sym (ap (λ b. not b && is_marked words i) (ne_eqb i at f)))
      (cases_eq (i / 64) (at / 64)))
      (cases_eq i at)

-- past the last word no position is in the set
pub past_words : (words : List ℕ) (i : ℕ) → length words * 64 ≤ i → is_marked words i ≡ false
past_words words i l = ap (λ w. bit w (i % 64)) (get_or_past words (i / 64) 0 (omega arith)) ∙ bit_of_zero (i % 64)

-- a position in a word
pub in_word : (words : List ℕ) (k i b : ℕ) → i ≡ k * 64 + b → b < 64 → is_marked words i ≡ bit (get_or words k 0) b
in_word words k i b e l =
    let q : i / 64 ≡ k = omega arith in
    let r : i % 64 ≡ b = omega arith in
    ap (λ n. bit (get_or words n 0) (i % 64)) q ∙ ap (bit (get_or words k 0)) r

pub grows_none : (words : List ℕ) → Grows words words
grows_none words = record { each = λ i h. h }

pub grows_more : (a b c : List ℕ) → Grows a b → Grows b c → Grows a c
grows_more a b c g h = record { each = λ i e. h.each i (g.each i e) }

-- adding a position takes none away
pub grows_mark : (old new : List ℕ) (at : ℕ) → ((i : ℕ) → is_marked new i ≡ (eqb i at || is_marked old i)) → Grows old new
grows_mark old new at h = record { each = λ i e. h i ∙ or_right (eqb i at) (is_marked old i) e }

pub marked_at : (old new : List ℕ) (at : ℕ) → ((i : ℕ) → is_marked new i ≡ (eqb i at || is_marked old i)) → is_marked new at ≡ true
marked_at old new at h = h at ∙ ap (λ b. b || is_marked old at) (eq-eqb at at refl)

-- after a position was taken away, none is left up to it
pub unmarked_none : (words new : List ℕ) (from at i : ℕ) → ((k : ℕ) → is_marked new k ≡ (not (eqb k at) && is_marked words k)) → (i < from → is_marked words i ≡ false)
    → (from ≤ i → i < at → is_marked words i ≡ false) → i ≤ at → is_marked new i ≡ false
unmarked_none words new from at i u before next l = u i ∙ by_place (cases_eq i at) (cases_lt i from)
  where
    none : (b m : Bool) → m ≡ false → (b && m) ≡ false
    none true m e = e
    none false m e = refl

    by_place : (i ≡ at) ⊎ (i ≡ at → ⊥) → (i < from) ⊎ (from ≤ i) → (not (eqb i at) && is_marked words i) ≡ false
    by_place (inl e) k = ap (λ b. not b && is_marked words i) (eq-eqb i at e)
    by_place (inr n) (inl k) = none (not (eqb i at)) (is_marked words i) (before k)
    by_place (inr n) (inr k) = none (not (eqb i at)) (is_marked words i) (next k (omega arith))

-- between words of the set of words no position is in the set
pub passed_over : (words tops : List ℕ) (from word i : ℕ) → AreCovered words tops → ((k : ℕ) → from ≤ k → k < word → is_marked tops k ≡ false) → from * 64 ≤ i → i < word * 64
    → is_marked words i ≡ false
passed_over words tops from word i c h l m =
    false_from_ne_true (is_marked words i) (λ e. true≢false (sym (c.each i e) ∙ h (i / 64) (omega arith) (omega arith)))

-- up to a word of the set of words, where none was found before
pub none_before : (words tops : List ℕ) (first from word i : ℕ) → AreCovered words tops → ((k : ℕ) → first * 64 ≤ k → k < from * 64 → is_marked words k ≡ false)
    → ((k : ℕ) → from ≤ k → k < word → is_marked tops k ≡ false) → first * 64 ≤ i → i < word * 64 → is_marked words i ≡ false
none_before words tops first from word i c n h l m =
    ⊎_elim (λ (k : i < from * 64). n i l k) (λ (k : from * 64 ≤ i). passed_over words tops from word i c h k m) (cases_lt i (from * 64))

-- and within it, up to a bit
pub none_up_to : (words tops : List ℕ) (first from word b i : ℕ) → AreCovered words tops → ((k : ℕ) → first * 64 ≤ k → k < from * 64 → is_marked words k ≡ false)
    → ((k : ℕ) → from ≤ k → k < word → is_marked tops k ≡ false) → ((k : ℕ) → k < b → bit (get_or words word 0) k ≡ false) → b ≤ 64 → first * 64 ≤ i → i < word * 64 + b
    → is_marked words i ≡ false
none_up_to words tops first from word b i c n h z s l m =
    ⊎_elim
    (λ (k : i < word * 64). none_before words tops first from word i c n h l k)
    (λ (k : word * 64 ≤ i). in_word words word i (i - word * 64) (omega arith) (omega arith) ∙ z (i - word * 64) (omega arith))
    (cases_lt i (word * 64))

-- where no further word is in the set of words, no further position is in the set
pub none_left : (words tops : List ℕ) (first from i : ℕ) → AreCovered words tops → ((k : ℕ) → first * 64 ≤ k → k < from * 64 → is_marked words k ≡ false)
    → ((k : ℕ) → from ≤ k → is_marked tops k ≡ false) → first * 64 ≤ i → is_marked words i ≡ false
none_left words tops first from i c n h l =
    none_before words tops first from (suc (i / 64)) i c n (λ k a _. h k a) l (omega arith)

-- a mark more in both
pub covered_mark : (words tops new more : List ℕ) (at : ℕ) → AreCovered words tops → length new ≡ length words → length more ≡ length tops
    → ((i : ℕ) → is_marked new i ≡ (eqb i at || is_marked words i)) → ((i : ℕ) → is_marked more i ≡ (eqb i (at / 64) || is_marked tops i)) → AreCovered new more
covered_mark words tops new more at c n m h g = record {
  count = let a = c.count in omega arith;
  few = let a = c.few in omega arith;
  each = λ i e.
      ⊎_elim
      (λ (f : i ≡ at). g (i / 64) ∙ ap (λ b. b || is_marked tops (i / 64)) (eq-eqb (i / 64) (at / 64) (ap (λ k. k / 64) f)))
      (λ (f : i ≡ at → ⊥). g (i / 64) ∙ or_right (eqb (i / 64) (at / 64)) (is_marked tops (i / 64)) (c.each i (sym (ap (λ b. b || is_marked words i) (ne_eqb i at f)) ∙ sym (h i) ∙ e)))
      (cases_eq i at);
}

-- a mark less
pub covered_fewer : (words tops new : List ℕ) (at : ℕ) → AreCovered words tops → length new ≡ length words → ((i : ℕ) → is_marked new i ≡ (not (eqb i at) && is_marked words i)) → AreCovered new tops
covered_fewer words tops new at c n h = record {
  count = let a = c.count in omega arith;
  few = let a = c.few in omega arith;
  each = λ i e. c.each i ((and_parts (not (eqb i at)) (is_marked words i) (sym (h i) ∙ e)).1);
}

-- a word that is 0 needs none
pub covered_zero : (words tops fewer : List ℕ) (word : ℕ) → AreCovered words tops → length fewer ≡ length tops → get_or words word 0 ≡ 0 → ((i : ℕ) → is_marked fewer i ≡ (not (eqb i word) && is_marked tops i))
    → AreCovered words fewer
covered_zero words tops fewer word c n z h = record {
  count = let a = c.count in omega arith;
  few = let a = c.few in omega arith;
  each = λ i e.
      h (i / 64) ∙ and_from (not (eqb (i / 64) word)) (is_marked tops (i / 64))
      (ap not (false_from_ne_true (eqb (i / 64) word) (λ f. true≢false (sym e ∙ ap (λ w. bit w (i % 64)) (ap (λ k. get_or words k 0) (eqb-true (i / 64) word f) ∙ z) ∙ bit_of_zero (i % 64)))))
      (c.each i e);
}

-- what stands above words that are all the same
pub top_is : (word top : ℕ) → top ≡ cond (eqb word 0) 0 (2 ^ 64 - 1) → (word ≡ 0) ⊎ (top ≡ 2 ^ 64 - 1)
top_is word top e = by_test (eqb word 0) refl
  where
    by_test : (b : Bool) → eqb word 0 ≡ b → (word ≡ 0) ⊎ (top ≡ 2 ^ 64 - 1)
    by_test true f = inl (eqb-true word 0 f)
    by_test false f = inr (e ∙ ap (λ b. cond b 0 (2 ^ 64 - 1)) f)

-- words that are all the same, and above them either none or all
pub covered_new : (n m word top : ℕ) → n ≤ m * 64 → m ≤ n → (word ≡ 0) ⊎ (top ≡ 2 ^ 64 - 1) → AreCovered (replicate n word) (replicate m top)
covered_new n m word top l k h = record {
  count = let a = length-replicate n word in let b = length-replicate m top in omega arith;
  few = let a = length-replicate n word in let b = length-replicate m top in omega arith;
  each = λ i e. ⊎_elim (λ (f : word ≡ 0). absurd (true≢false (sym e ∙ none i f (cases_lt (i / 64) n)))) (λ (f : top ≡ 2 ^ 64 - 1). above i e f (cases_lt (i / 64) n)) h;
}
  where
    none : (i : ℕ) → word ≡ 0 → (i / 64 < n) ⊎ (n ≤ i / 64) → is_marked (replicate n word) i ≡ false
    none i f (inl a) = ap (λ w. bit w (i % 64)) (get_or-replicate n (i / 64) word 0 a ∙ f) ∙ bit_of_zero (i % 64)
    none i f (inr a) = past_words (replicate n word) i (let b = length-replicate n word in omega arith)

    above : (i : ℕ) → is_marked (replicate n word) i ≡ true → top ≡ 2 ^ 64 - 1 → (i / 64 < n) ⊎ (n ≤ i / 64) → is_marked (replicate m top) (i / 64) ≡ true
    above i e f (inl a) = ap (λ w. bit w (i / 64 % 64)) (get_or-replicate m (i / 64 / 64) top 0 (omega arith) ∙ f) ∙ bit_of_ones 64 (i / 64 % 64) (omega arith)
    above i e f (inr a) = absurd (true≢false (sym e ∙ past_words (replicate n word) i (let b = length-replicate n word in omega arith)))
