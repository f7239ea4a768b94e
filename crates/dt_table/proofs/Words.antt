-- The words of reads that agree are those that the reads give.
use Rattle.std.proofs.Common.{◌≡◌, ℕ, Bool, true, false, cond, eqb, ltb, List, [], ◌∷◌, ◌⊎◌, inl, inr, refl, sym, ap, ◌∙◌}
use Rattle.std.specs.List.{AllByRecursion}
use Rattle.std.proofs.lemmas.Bool.{cases_Bool, eqb-true, eqb-false, ne_eqb, eq-eqb}
use Rattle.dt_bits.specs.declared.memory.Word.{Word}
use Rattle.dt_bits.specs.Memory.{listed}
use Rattle.dt_walk.specs.declared.run.ReadMade.{ReadMade}
use Rattle.dt_table.specs.Words.{word_at, with_word, words_read}

pub listed_with : (a x : ℕ) (ws : List Word) (b : ℕ) → listed (with_word a x ws) b ≡ cond (eqb a b) x (listed ws b)
listed_with a x [] b = refl
listed_with a x (w ∷ ws) b = by_order (ltb a w.address) (eqb a w.address) refl (cases_Bool (eqb a b)) (listed_with a x ws b)
  where
    by_order : (l e : Bool) → eqb a w.address ≡ e → (eqb a b ≡ true) ⊎ (eqb a b ≡ false) → listed (with_word a x ws) b ≡ cond (eqb a b) x (listed ws b)
        → listed (cond l (word_at a x ∷ w ∷ ws) (cond e (word_at a x ∷ ws) (w ∷ with_word a x ws))) b ≡ cond (eqb a b) x (cond (eqb w.address b) w.value (listed ws b))
    by_order true e q p h = refl
    by_order false true q (inl p) h = ap (λ (c : Bool). cond c x (listed ws b)) p ∙ sym (ap (λ (c : Bool). cond c x (cond (eqb w.address b) w.value (listed ws b))) p)
    by_order false true q (inr p) h =
        let n : eqb w.address b ≡ false = ap (λ (k : ℕ). eqb k b) (sym (eqb-true a w.address q)) ∙ p in
        ap (λ (c : Bool). cond c x (listed ws b)) p ∙ sym (ap (λ (c : Bool). cond c x (cond (eqb w.address b) w.value (listed ws b))) p ∙ ap (λ (c : Bool). cond c w.value (listed ws b)) n)
    by_order false false q (inl p) h =
        let n : eqb w.address b ≡ false = ne_eqb w.address b (λ z. eqb-false a w.address q (eqb-true a b p ∙ sym z)) in
        ap (λ (c : Bool). cond c w.value (listed (with_word a x ws) b)) n ∙ h ∙ ap (λ (c : Bool). cond c x (listed ws b)) p ∙ sym (ap (λ (c : Bool). cond c x (cond (eqb w.address b) w.value (listed ws b))) p)
    by_order false false q (inr p) h =
        ap (λ (k : ℕ). cond (eqb w.address b) w.value k) (h ∙ ap (λ (c : Bool). cond c x (listed ws b)) p) ∙ sym (ap (λ (c : Bool). cond c x (cond (eqb w.address b) w.value (listed ws b))) p)

-- reads of one cell have one word
abbrev pub Agree : ReadMade → ReadMade → Type 0
Agree r s = r.cell ≡ s.cell → r.word ≡ s.word

abbrev pub AllAgree : List ReadMade → Type 0
AllAgree [] = Unit {0}
AllAgree (r ∷ rs) = AllByRecursion (Agree r) rs × AllAgree rs

keep : (r : ReadMade) (ws : List Word) (rs : List ReadMade) → AllByRecursion (Agree r) rs → AllByRecursion (λ (q : ReadMade). listed ws q.cell ≡ q.word) rs → AllByRecursion (λ (q : ReadMade). listed (with_word r.cell r.word ws) q.cell ≡ q.word) rs
keep r ws [] a h = tt
keep r ws (q ∷ rs) a h = (listed_with r.cell r.word ws q.cell ∙ by_cell (eqb r.cell q.cell) refl, keep r ws rs a.1 h.1)
  where
    by_cell : (b : Bool) → eqb r.cell q.cell ≡ b → cond b r.word (listed ws q.cell) ≡ q.word
    by_cell true e = a.0 (eqb-true r.cell q.cell e)
    by_cell false e = h.0

-- the memory of all reads has each one's word
pub all_listed : (rs : List ReadMade) → AllAgree rs → AllByRecursion (λ (q : ReadMade). listed (words_read rs) q.cell ≡ q.word) rs
all_listed [] a = tt
all_listed (r ∷ rs) a = (
  listed_with r.cell r.word (words_read rs) r.cell ∙ ap (λ (b : Bool). cond b r.word (listed (words_read rs) r.cell)) (eq-eqb r.cell r.cell refl),
  keep r (words_read rs) rs a.0 (all_listed rs a.1),
)
