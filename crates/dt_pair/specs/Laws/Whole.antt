-- All numbers, and one number: these Pairs are in normal form.
use Rattle.std.proofs.Common.{◌≡◌, ℕ, ◌-◌, ◌^◌, ◌<◌, Bool, true, false, ◌&&◌, ◌||◌, bit_and, refl, sym, ap, ◌∙◌, arith}
use Rattle.std.proofs.lemmas.Bool.{eq-eqb, false≢true}
use Rattle.std.proofs.lemmas.Nat.{and_mask}
use Rattle.std.proofs.Math.Nat.{mod-eq_of_lt}
use Rattle.std.specs.Int.Bits.{and_zero_r}
use Rattle.dt_lemmas.proofs.Powers.{no_shared}
use Rattle.dt_bits.specs.Bits.{IsWidth, IsValue, bit}
use Rattle.dt_bits.specs.declared.value.Bv.{Bv}
use Rattle.dt_bits.specs.declared.value.Width.{Width}
use Rattle.dt_bits.proofs.BitLemmas.{same_bits, bit_of_ones}
use Rattle.dt_known.specs.declared.Known.{Known}
use Rattle.dt_known.specs.Known.{IsKnown, known_full, known_one}
use Rattle.dt_known.specs.Laws.{known_laws}
use Rattle.dt_known.specs.Laws.Bits.{value_fits}
use Rattle.dt_range.specs.Range.{IsRange, range_full, range_one, range_mask}
use Rattle.dt_pair.specs.declared.Pair.{Pair}
use Rattle.dt_pair.specs.Ends.{has_bits}
use Rattle.dt_pair.specs.Pair.{IsPair, ends, knowing, pair_full, pair_one}
use Rattle.dt_pair.specs.Laws.Candidates.{has_bit}
use Rattle.dt_pair.specs.Laws.Normal.{end_bit, value_bit, mask_bit, value_below, mask_below}
use Rattle.dt_pair.specs.Laws.Form.{normal_again}

mask_still : (m e : Bool) → (e ≡ true → m ≡ true) → (m || e) ≡ m
mask_still m e h = grind arith

value_still : (m v l e : Bool) → (e ≡ true → m ≡ true) → (l && m) ≡ v → (v || (l && e)) ≡ v
value_still m v l e h s = grind arith

-- where all that the ends know is known already, nothing changes
pub knowing_still : (k : Known) (lo hi : ℕ) → IsKnown k → k.empty ≡ false → has_bits k.mask k.value lo ≡ true
    → ((i : ℕ) → i < k.width.0 → bit (range_mask (ends k.width lo hi)) i ≡ true → bit k.mask i ≡ true)
    → knowing k (ends k.width lo hi) ≡ k
knowing_still k lo hi p f h s =
    let q = knowing k (ends k.width lo hi) in
    let e = range_mask (ends k.width lo hi) in
    let m : q.mask ≡ k.mask = same_bits k.width.0 q.mask k.mask (mask_below k lo hi p) p.mask_fits
    (λ i l. mask_bit k lo hi i ∙ mask_still (bit k.mask i) (bit e i) (s i l)) in
    let v : q.value ≡ k.value = same_bits k.width.0 q.value k.value (value_below k lo hi p) (value_fits k p)
    (λ i l. value_bit k lo hi i ∙ value_still (bit k.mask i) (bit k.value i) (bit lo i) (bit e i) (s i l) (has_bit k.mask k.value lo i h)) in
    let g : ℕ → ℕ → Bool → Known = λ m v e. record { mask = m; value = v; width = k.width; empty = e } in
    ap (λ m. g m q.value false) m ∙ ap (λ v. g k.mask v false) v ∙ ap (g k.mask k.value) (sym f)

pub full_is : (w : Width) → IsWidth w.0 → IsRange (range_full w) → IsPair (pair_full w)
full_is w h r =
    let k = known_full w in
    let m = 2 ^ w.0 - 1 in
    let p = (known_laws.full_is w h).0 in
    let a : has_bits 0 0 0 ≡ true = refl in
    let b : has_bits 0 0 m ≡ true = eq-eqb (bit_and m 0) 0 (and_zero_r m) in
    let g : Known → Pair = λ q. record { known = q; range = range_full w } in
    record {
      known = p;
      range = r;
      widths = refl;
      normal = normal_again k (range_full w) refl (omega arith) a b
          ∙ ap g (knowing_still k 0 m p refl a (λ i l e. absurd (false≢true (sym (no_shared w.0 i l) ∙ sym (end_bit w 0 m i (omega arith) l) ∙ e))));
    }

pub one_is : (v : Bv) → IsValue v → IsRange (range_one v) → IsPair (pair_one v)
one_is v h r =
    let k = known_one v in
    let w = v.width.0 in
    let p = (known_laws.one_is v h).0 in
    let a : has_bits (2 ^ w - 1) v.bits v.bits ≡ true = eq-eqb (bit_and v.bits (2 ^ w - 1)) v.bits (and_mask v.bits w ∙ mod-eq_of_lt h.1) in
    let g : Known → Pair = λ q. record { known = q; range = range_one v } in
    record {
      known = p;
      range = r;
      widths = refl;
      normal = normal_again k (range_one v) refl (omega arith) a a
          ∙ ap g (knowing_still k v.bits v.bits p refl a (λ i l e. bit_of_ones w i l));
    }
