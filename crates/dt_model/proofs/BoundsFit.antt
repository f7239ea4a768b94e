-- Bounds that were tested, and the limits of a model's words and addresses.
use Rattle.std.proofs.Common.{◌≡◌, ℕ, ◌*◌, ◌%◌, ◌^◌, ◌<◌, ◌≤◌, ◌&&◌, true, eqb, leb, ◌∙◌, arith, ⊎_elim}
use Rattle.std.proofs.lemmas.Bool.{and_parts, and_from, eqb-true, eq-eqb, leb-true, le-leb}
use Rattle.std.proofs.lemmas.Nat.{shl_whole}
use Rattle.dt_model.specs.ModelData.{ModelData}
use Rattle.dt_model.specs.Faults.{IsAccepted}
use Rattle.dt_model.specs.Bounds.{word_bytes, AreBounds, bounds_fit}
use Rattle.dt_model.proofs.Accepting.{accepted_word, accepted_address}

pub some_bytes : (d : ModelData) → IsAccepted d → 0 < word_bytes d
some_bytes d a =
    ⊎_elim (λ (h : d.word ≡ 8). omega arith)
    (λ r. ⊎_elim (λ (h : d.word ≡ 16). omega arith) (λ s. ⊎_elim (λ (h : d.word ≡ 32). omega arith) (λ (h : d.word ≡ 64). omega arith) s) r)
    (accepted_word d a)

pub few_bits : (d : ModelData) → IsAccepted d → d.address ≤ 64
few_bits d a = (accepted_address d a).1

-- 1 shifted up by at most 64 places, in 128 bits
pub power_kept : (n : ℕ) → n ≤ 64 → (1 * 2 ^ n) % 2 ^ 128 ≡ 2 ^ n
power_kept n few = shl_whole 1 1 n 128 (omega arith) (omega arith) ∙ omega arith

pub bounds_are : (d : ModelData) (lo hi : ℕ) → bounds_fit d lo hi ≡ true → AreBounds d lo hi
bounds_are d lo hi fit =
    let p = and_parts ((eqb (lo % word_bytes d) 0 && eqb (hi % word_bytes d) 0) && leb lo hi) (leb hi (2 ^ d.address)) fit in
    let q = and_parts (eqb (lo % word_bytes d) 0 && eqb (hi % word_bytes d) 0) (leb lo hi) p.0 in
    let s = and_parts (eqb (lo % word_bytes d) 0) (eqb (hi % word_bytes d) 0) q.0 in
    record {
      lo_whole = eqb-true (lo % word_bytes d) 0 s.0;
      hi_whole = eqb-true (hi % word_bytes d) 0 s.1;
      rising = leb-true lo hi q.1;
      within = leb-true hi (2 ^ d.address) p.1;
    }

pub bounds_test : (d : ModelData) (lo hi : ℕ) → AreBounds d lo hi → bounds_fit d lo hi ≡ true
bounds_test d lo hi h =
    and_from _ _ (and_from _ _ (and_from _ _ (eq-eqb (lo % word_bytes d) 0 h.lo_whole) (eq-eqb (hi % word_bytes d) 0 h.hi_whole)) (le-leb lo hi h.rising)) (le-leb hi (2 ^ d.address) h.within)
