-- A form that has a width can be placed, and takes no more terms than its size.
use Rattle.dt_forms.specs.Forms.{HaveOps}
use Rattle.dt_forms.specs.Sizes.{IsFormPut}
use Rattle.std.proofs.Common.{◌≡◌, ℕ, ◌+◌, ◌<◌, ◌≤◌, ◌^◌, Bool, true, false, ◌&&◌, cond, ltb, leb, List, length, Option, Some, None, refl, sym, ap, ◌∙◌, subst, arith}
use Rattle.std.proofs.lemmas.Bool.{ltb-true, leb-true, lt-ltb, cond-true, and_parts}
use Rattle.dt_lemmas.proofs.Options.{some_is}
use Rattle.dt_bits.specs.Bits.{IsWidth, width}
use Rattle.dt_bits.specs.Ops.{IsOp, fits_at, width_of}
use Rattle.dt_bits.specs.declared.op.Op.{Op}
use Rattle.dt_bits.specs.declared.value.Width.{Width}
use Rattle.dt_bits.specs.declared.op.Op.TheVariants.{Const, Not, And, Or, Xor, Add, Sub, Slice, Concat, SignExt, Shl, Shr, Eq, Ltu, Ite}
use Rattle.dt_model.specs.Widths.{fitted, is_constant}
use Rattle.dt_terms.specs.declared.term.Term.{Term}
use Rattle.dt_terms.specs.Terms.{AreTerms, bits_at}
use Rattle.dt_terms.specs.Problem.{most_terms}
use Rattle.dt_terms.proofs.Placed.{bits_is, fits_parts}
use Rattle.dt_forms.specs.Forms.{Form, term, number, form1, form2, form3, Placing, placed_by}
use Rattle.dt_forms.specs.Sizes.{form_width, form_size}
use Rattle.dt_forms.specs.Forms.{HasForm}
use Rattle.dt_forms.proofs.Sizes.{grows_none, grows_on, one_of, two_of, three_of, one_fits, two_fits, three_fits, Puts, place_can}
use Rattle.dt_forms.specs.Sizes.{Grows, IsPut}
use Rattle.dt_forms.specs.Room.{CanPlace}
use Rattle.dt_forms.proofs.Fitted.{fitted_is}

-- widths of results are widths
op_width : (op : Op) (a b c : ℕ) → IsOp op → fits_at op a b c ≡ true → IsWidth a → IsWidth b → IsWidth c → IsWidth (width_of op a b c)
op_width (Const v) a b c i f p q r = i.0
op_width Not a b c i f p q r = p
op_width And a b c i f p q r = p
op_width Or a b c i f p q r = p
op_width Xor a b c i f p q r = p
op_width Add a b c i f p q r = p
op_width Sub a b c i f p q r = p
op_width (Slice hi lo) a b c i f p q r =
    let z = and_parts (leb lo hi) (ltb hi a) f in
    let x = leb-true lo hi z.0 in
    let y = ltb-true hi a z.1 in
    (omega arith, omega (arith, x, y, p.1))
op_width Concat a b c i f p q r = let x = leb-true (a + b) 128 f in (omega (arith, p.0), x)
op_width (SignExt to) a b c i f p q r =
    let z = and_parts (leb a to) (leb to 128) f in
    let x = leb-true a to z.0 in
    let y = leb-true to 128 z.1 in
    (omega (arith, x, p.0), y)
op_width (Shl by) a b c i f p q r = p
op_width (Shr by) a b c i f p q r = p
op_width Eq a b c i f p q r = (omega arith, omega arith)
op_width Ltu a b c i f p q r = (omega arith, omega arith)
op_width Ite a b c i f p q r = q

-- the width stays where terms go on
pub width_on : (xs ys : List Term) (k : ℕ) (f : Form) (w : ℕ) → Grows xs ys k → form_width xs f ≡ Some w → form_width ys f ≡ Some w
width_on xs ys k (term t) w g e = by_place (ltb t (length xs)) refl e
  where
    by_place : (b : Bool) → ltb t (length xs) ≡ b → cond b (Some (bits_at xs t)) None ≡ Some w → cond (ltb t (length ys)) (Some (bits_at ys t)) None ≡ Some w
    by_place true l d =
        let m = ltb-true t (length xs) l in
        cond-true _ _ _ (lt-ltb t (length ys) (omega (arith, m, g.longer))) ∙ ap (λ (n : ℕ). Some n) (g.same t m) ∙ d
    by_place false l d = absurd (cc)
width_on xs ys k (number u n) w g e = e
width_on xs ys k (form1 op a) w g e =
    let p = fitted_is op (form_width xs a) (Some 1) (Some 1) w e in
    ap (λ (o : Option ℕ). fitted op o (Some 1) (Some 1)) (width_on xs ys k a p.0 g p.3 ∙ sym p.3) ∙ e
width_on xs ys k (form2 op a b) w g e =
    let p = fitted_is op (form_width xs a) (form_width xs b) (Some 1) w e in
    ap (λ (o : Option ℕ). fitted op o (form_width ys b) (Some 1)) (width_on xs ys k a p.0 g p.3 ∙ sym p.3)
    ∙ ap (λ (o : Option ℕ). fitted op (form_width xs a) o (Some 1)) (width_on xs ys k b p.1 g p.4 ∙ sym p.4) ∙ e
width_on xs ys k (form3 op a b c) w g e =
    let p = fitted_is op (form_width xs a) (form_width xs b) (form_width xs c) w e in
    ap (λ (o : Option ℕ). fitted op o (form_width ys b) (form_width ys c)) (width_on xs ys k a p.0 g p.3 ∙ sym p.3)
    ∙ ap (λ (o : Option ℕ). fitted op (form_width xs a) o (form_width ys c)) (width_on xs ys k b p.1 g p.4 ∙ sym p.4)
    ∙ ap (λ (o : Option ℕ). fitted op (form_width xs a) (form_width xs b) o) (width_on xs ys k c p.2 g p.5 ∙ sym p.5) ∙ e

some_cond : (b : Bool) (x y : ℕ) → cond b (Some x) None ≡ Some y → (b ≡ true) × (x ≡ y)
some_cond true x y e = (refl, cc)
some_cond false x y e = absurd (cc)

constant_is : (u n : ℕ) → is_constant u n ≡ true → IsWidth u × (n < 2 ^ u)
constant_is u n e =
    let p = and_parts (leb 1 u && leb u 128) (ltb n (2 ^ u)) e in
    let q = and_parts (leb 1 u) (leb u 128) p.0 in
    ((leb-true 1 u q.0, leb-true u 128 q.1), ltb-true n (2 ^ u) p.1)

one_wide : IsWidth 1
one_wide = (omega arith, omega arith)

fitted_wide : (op : Op) (a b c w : ℕ) → IsOp op → fitted op (Some a) (Some b) (Some c) ≡ Some w → IsWidth a → IsWidth b → IsWidth c → IsWidth w
fitted_wide op a b c w i f p q r =
    let z = some_cond (fits_at op a b c) (width_of op a b c) w f in
    subst IsWidth z.1 (op_width op a b c i z.0 p q r)

-- a form that has a width: it can be placed where there is room, and stands with the width
pub record IsStanding (placing : Placing) (terms : List Term) (f : Form) (w : ℕ) : Type 0 where
  pub can : length terms + form_size f ≤ most_terms → CanPlace placing terms f
  pub put_is : IsPut terms (placed_by placing terms f).terms (placed_by placing terms f).at w (form_size f)
  pub wide : IsWidth w

pub stands_by : (placing : Placing) → Puts placing → (f : Form) (terms : List Term) (w : ℕ) → AreTerms terms → HasForm f → HaveOps f → form_width terms f ≡ Some w → IsStanding placing terms f w
stands_by placing puts (term t) terms w h a o e = by_place (ltb t (length terms)) refl e
  where
    by_place : (b : Bool) → ltb t (length terms) ≡ b → cond b (Some (bits_at terms t)) None ≡ Some w → IsStanding placing terms (term t) w
    by_place true l d =
        let m = ltb-true t (length terms) l in
        let z = some_is (bits_at terms t) w d in
        record { can = λ room. tt; put_is = record { grows = grows_none terms h; within = m; bits = z }; wide = subst IsWidth z (bits_is terms h t m) }
    by_place false l d = absurd (cc)
stands_by placing puts (number u n) terms w h a o e =
    let d = some_cond (is_constant u n) u w e in
    let k = constant_is u n d.0 in
    let q = place_can terms (Const (record { width = width u; bits = n })) 0 0 0 w h k refl d.1 (subst IsWidth d.1 k.0) in
    record { can = q.can; put_is = q.put_is; wide = subst IsWidth d.1 k.0 }
stands_by placing puts (form1 op x) terms w h a o e =
    let p = fitted_is op (form_width terms x) (Some 1) (Some 1) w e in
    let i = stands_by placing puts x terms p.0 h a.1 o.1 p.3 in
    let px = placed_by placing terms x in
    let f : fitted op (Some p.0) (Some 1) (Some 1) ≡ Some w = ap (λ (q : Option ℕ). fitted op q (Some 1) (Some 1)) (sym p.3) ∙ e in
    let wide = fitted_wide op p.0 1 1 w o.0 f i.wide one_wide one_wide in
    let q = puts px.terms op px.at 0 0 w i.put_is.grows.terms_are o.0 (one_fits px.terms op px.at p.0 w a.0 i.put_is.within i.put_is.bits f)
    (ap (λ (z : Width). z.0) (fits_parts op _ _ _ (width w) (one_of px.terms op px.at p.0 w a.0 i.put_is.within i.put_is.bits f)).1) wide in
    record {
      can = λ room. (i.can (omega (arith, room)), q.can (omega (arith, room, i.put_is.grows.most)));
      put_is = record { grows = grows_on terms px.terms _ (form_size x) 1 i.put_is.grows q.put_is.grows; within = q.put_is.within; bits = q.put_is.bits };
      wide = wide;
    }
stands_by placing puts (form2 op x y) terms w h a o e =
    let p = fitted_is op (form_width terms x) (form_width terms y) (Some 1) w e in
    let i = stands_by placing puts x terms p.0 h a.1 o.1 p.3 in
    let px = placed_by placing terms x in
    let gx = i.put_is.grows in
    let j = stands_by placing puts y px.terms p.1 gx.terms_are a.2 o.2 (width_on terms px.terms (form_size x) y p.1 gx p.4) in
    let py = placed_by placing px.terms y in
    let gy = j.put_is.grows in
    let f : fitted op (Some p.0) (Some p.1) (Some 1) ≡ Some w = ap (λ (q : Option ℕ). fitted op q (Some p.1) (Some 1)) (sym p.3) ∙ ap (λ (q : Option ℕ). fitted op (form_width terms x) q (Some 1)) (sym p.4) ∙ e in
    let wide = fitted_wide op p.0 p.1 1 w o.0 f i.wide j.wide one_wide in
    let l : px.at < length py.terms = omega (arith, i.put_is.within, gy.longer) in
    let b : bits_at py.terms px.at ≡ p.0 = gy.same px.at i.put_is.within ∙ i.put_is.bits in
    let q = puts py.terms op px.at py.at 0 w gy.terms_are o.0 (two_fits py.terms op px.at py.at p.0 p.1 w a.0 l j.put_is.within b j.put_is.bits f)
    (ap (λ (z : Width). z.0) (fits_parts op _ _ _ (width w) (two_of py.terms op px.at py.at p.0 p.1 w a.0 l j.put_is.within b j.put_is.bits f)).1) wide in
    record {
      can = λ room. (i.can (omega (arith, room)), j.can (omega (arith, room, gx.most)), q.can (omega (arith, room, gx.most, gy.most)));
      put_is = record { grows = grows_on terms py.terms _ (form_size x + form_size y) 1 (grows_on terms px.terms py.terms (form_size x) (form_size y) gx gy) q.put_is.grows; within = q.put_is.within; bits = q.put_is.bits };
      wide = wide;
    }
stands_by placing puts (form3 op x y z) terms w h a o e =
    let p = fitted_is op (form_width terms x) (form_width terms y) (form_width terms z) w e in
    let i = stands_by placing puts x terms p.0 h a.1 o.1 p.3 in
    let px = placed_by placing terms x in
    let gx = i.put_is.grows in
    let j = stands_by placing puts y px.terms p.1 gx.terms_are a.2 o.2 (width_on terms px.terms (form_size x) y p.1 gx p.4) in
    let py = placed_by placing px.terms y in
    let gy = j.put_is.grows in
    let gxy = grows_on terms px.terms py.terms (form_size x) (form_size y) gx gy in
    let k = stands_by placing puts z py.terms p.2 gy.terms_are a.3 o.3 (width_on terms py.terms (form_size x + form_size y) z p.2 gxy p.5) in
    let pz = placed_by placing py.terms z in
    let gz = k.put_is.grows in
    let f : fitted op (Some p.0) (Some p.1) (Some p.2) ≡ Some w = ap (λ (q : Option ℕ). fitted op q (Some p.1) (Some p.2)) (sym p.3) ∙ ap (λ (q : Option ℕ). fitted op (form_width terms x) q (Some p.2)) (sym p.4) ∙ ap (λ (q : Option ℕ). fitted op (form_width terms x) (form_width terms y) q) (sym p.5) ∙ e in
    let wide = fitted_wide op p.0 p.1 p.2 w o.0 f i.wide j.wide k.wide in
    let lx : px.at < length pz.terms = omega (arith, i.put_is.within, gy.longer, gz.longer) in
    let ly : py.at < length pz.terms = omega (arith, j.put_is.within, gz.longer) in
    let lxy : px.at < length py.terms = omega (arith, i.put_is.within, gy.longer) in
    let bx : bits_at pz.terms px.at ≡ p.0 = gz.same px.at lxy ∙ gy.same px.at i.put_is.within ∙ i.put_is.bits in
    let by : bits_at pz.terms py.at ≡ p.1 = gz.same py.at j.put_is.within ∙ j.put_is.bits in
    let q = puts pz.terms op px.at py.at pz.at w gz.terms_are o.0 (three_fits pz.terms op px.at py.at pz.at p.0 p.1 p.2 w a.0 lx ly k.put_is.within bx by k.put_is.bits f)
    (ap (λ (z : Width). z.0) (fits_parts op _ _ _ (width w) (three_of pz.terms op px.at py.at pz.at p.0 p.1 p.2 w a.0 lx ly k.put_is.within bx by k.put_is.bits f)).1) wide in
    record {
      can = λ room. (i.can (omega (arith, room)), j.can (omega (arith, room, gx.most)), k.can (omega (arith, room, gxy.most)), q.can (omega (arith, room, gxy.most, gz.most)));
      put_is = record { grows = grows_on terms pz.terms _ (form_size x + form_size y + form_size z) 1 (grows_on terms py.terms pz.terms (form_size x + form_size y) (form_size z) gxy gz) q.put_is.grows; within = q.put_is.within; bits = q.put_is.bits };
      wide = wide;
    }

pub can_by : (placing : Placing) → Puts placing → (f : Form) (terms : List Term) (w : ℕ) → AreTerms terms → HasForm f → HaveOps f → form_width terms f ≡ Some w → length terms + form_size f ≤ most_terms → IsFormPut placing terms f w
can_by placing puts f terms w h a o e room = let i = stands_by placing puts f terms w h a o e in record { can = i.can room; put_is = i.put_is; wide = i.wide }
