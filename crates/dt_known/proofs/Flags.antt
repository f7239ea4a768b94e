-- Knowns of one bit, and the choice by a known test.
use Rattle.std.proofs.Common.{◌≡◌, Bool, true, false, Option, Some, None, refl, sym, subst}
use Rattle.dt_bits.specs.Bits.{width, number_of}
use Rattle.dt_bits.specs.declared.value.Width.{Width}
use Rattle.dt_known.specs.declared.Known.{Known}
use Rattle.dt_known.specs.Known.{IsKnown, known_bit, from_bits}
use Rattle.dt_known.specs.Forward.{ite_bit}
use Rattle.dt_known.proofs.Words.{words, own_words}

pub flag_none : (o : Option Bool) → o ≡ None → words 0 0 (width 1) ≡ from_bits (width 1) (λ i. o)
unfolding number_of
flag_none o e = subst (λ o. words 0 0 (width 1) ≡ from_bits (width 1) (λ i. o)) (sym e) refl

pub flag_zero : (o : Option Bool) → o ≡ Some false → words 1 0 (width 1) ≡ from_bits (width 1) (λ i. o)
unfolding number_of
flag_zero o e = subst (λ o. words 1 0 (width 1) ≡ from_bits (width 1) (λ i. o)) (sym e) refl

pub flag_one : (o : Option Bool) → o ≡ Some true → words 1 1 (width 1) ≡ from_bits (width 1) (λ i. o)
unfolding number_of
flag_one o e = subst (λ o. words 1 1 (width 1) ≡ from_bits (width 1) (λ i. o)) (sym e) refl

-- the chosen one
pub ite_one : (a b c : Known) → IsKnown b → known_bit a 0 ≡ Some true
    → words b.mask b.value b.width ≡ from_bits b.width (λ i. ite_bit (known_bit a 0) (known_bit b i) (known_bit c i))
ite_one a b c p e = subst (λ o. words b.mask b.value b.width ≡ from_bits b.width (λ i. ite_bit o (known_bit b i) (known_bit c i))) (sym e) (own_words b p)

pub ite_zero : (a b c : Known) → IsKnown c → b.width ≡ c.width → known_bit a 0 ≡ Some false
    → words c.mask c.value b.width ≡ from_bits b.width (λ i. ite_bit (known_bit a 0) (known_bit b i) (known_bit c i))
ite_zero a b c p w e = subst (λ o. words c.mask c.value b.width ≡ from_bits b.width (λ i. ite_bit o (known_bit b i) (known_bit c i))) (sym e)
    (subst (λ (v : Width). words c.mask c.value v ≡ from_bits v (known_bit c)) (sym w) (own_words c p))
