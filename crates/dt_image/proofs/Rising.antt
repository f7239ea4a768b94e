-- The last of some words, and words above it.
use Rattle.std.proofs.Common.{◌≡◌, ℕ, ◌-◌, ◌<◌, true, ltb, List, [], ◌∷◌, ◌++◌, length, get_or, refl, sym, ap, ◌∙◌, arith, inl, inr, length-append}
use Rattle.std.proofs.lemmas.Bool.{cases_lt, lt-ltb, ltb-true}
use Rattle.std.proofs.lemmas.List.{get_or_append_left}
use Rattle.std.proofs.Math.Seq.{get_or-append_seam}
use Rattle.dt_bits.specs.declared.memory.Word.{Word}
use Rattle.dt_bits.specs.Memory.{IsRising}
use Rattle.dt_lex.specs.Reading.{last_of}
use Rattle.dt_image.specs.Entry.{is_above}

last_is : {X : Type 0} (w : X) (ws : List X) (d : X) → last_of w ws ≡ get_or (w ∷ ws) (length ws) d
last_is w [] d = refl
last_is w (x ∷ xs) d = last_is x xs d

-- where words rise, each is above those before
pub rising_above : (before : List Word) (w : Word) (ws : List Word) → IsRising (before ++ w ∷ ws) → is_above before w.address ≡ true
rising_above [] w ws h = refl
rising_above (b ∷ bs) w ws h =
    let all = b ∷ bs ++ w ∷ ws in
    let last : last_of b bs ≡ get_or all (length bs) w = last_is b bs w ∙ sym (get_or_append_left (b ∷ bs) (w ∷ ws) w (length bs) (omega arith)) in
    let this : get_or all (length (b ∷ bs)) w ≡ w = get_or-append_seam (b ∷ bs) w ws w in
    let lt : (get_or all (length bs) w).address < (get_or all (length (b ∷ bs)) w).address = h (length bs) (length (b ∷ bs)) w (omega arith) (omega (arith, length-append (b ∷ bs) (w ∷ ws))) in
    lt-ltb (last_of b bs).address w.address (omega (arith, ap (λ (x : Word). x.address) last, ap (λ (x : Word). x.address) this))

pub above_at : (ws : List Word) (a : ℕ) (d : Word) → 0 < length ws → ltb (get_or ws (length ws - 1) d).address a ≡ is_above ws a
above_at [] a d some = absurd (omega arith)
above_at (w ∷ ws) a d some =
    let e : length (w ∷ ws) - 1 ≡ length ws = omega arith in
    ap (λ (i : ℕ). ltb (get_or (w ∷ ws) i d).address a) e ∙ ap (λ (x : Word). ltb x.address a) (sym (last_is w ws d))

-- a word above the last one
pub rising_push : (ws : List Word) (w : Word) → IsRising ws → is_above ws w.address ≡ true → IsRising (ws ++ w ∷ [])
rising_push ws w up above = λ i j d lt in_range.
    let left : get_or (ws ++ w ∷ []) i d ≡ get_or ws i d = get_or_append_left ws (w ∷ []) d i (omega (arith, length-append ws (w ∷ []))) in
    elim (cases_lt j (length ws)) [
      | inl old ↦
          let right = get_or_append_left ws (w ∷ []) d j old in
          let h = up i j d lt old in
          omega (arith, h, ap (λ (x : Word). x.address) left, ap (λ (x : Word). x.address) right)
      | inr new ↦
          let at : j ≡ length ws = omega (arith, length-append ws (w ∷ [])) in
          let right : get_or (ws ++ w ∷ []) j d ≡ w = ap (λ (k : ℕ). get_or (ws ++ w ∷ []) k d) at ∙ get_or-append_seam ws w [] d in
          let last : (get_or ws (length ws - 1) d).address < w.address = ltb-true _ _ (above_at ws w.address d (omega arith) ∙ above) in
          elim (cases_lt i (length ws - 1)) [
            | inl before ↦
                let h = up i (length ws - 1) d before (omega arith) in
                omega (arith, h, last, ap (λ (x : Word). x.address) left, ap (λ (x : Word). x.address) right)
            | inr no_more ↦
                let same : i ≡ length ws - 1 = omega arith in
                omega (arith, last, ap (λ (k : ℕ). (get_or ws k d).address) same, ap (λ (x : Word). x.address) left, ap (λ (x : Word). x.address) right)
          ]
    ]
