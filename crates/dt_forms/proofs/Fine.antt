-- Forms that fit, one by one and in lists: placing them keeps terms well formed, and what is required of them is one bit wide.
use Rattle.std.proofs.Common.{◌≡◌, ℕ, suc, ◌+◌, ◌*◌, ◌<◌, ◌≤◌, ◌^◌, eqb, ltb, List, [], ◌∷◌, ◌++◌, length, map, Option, Some, None, refl, ap, ◌∙◌, arith}
use Rattle.std.specs.List.{flat_map, AllByRecursion}
use Rattle.std.proofs.lemmas.Bool.{lt-ltb, le-leb, eq-eqb, cond-true, and_from}
use Rattle.dt_bits.specs.Bits.{IsWidth}
use Rattle.dt_bits.specs.Ops.{IsOp, arity_of}
use Rattle.dt_bits.specs.declared.op.Op.{Op}
use Rattle.dt_bits.specs.declared.op.Op.TheVariants.{Const, Not, And, Or, Xor, Add, Sub, Slice, Concat, SignExt, Shl, Shr, Eq, Ltu, Ite}
use Rattle.dt_model.specs.Widths.{fitted}
use Rattle.dt_terms.specs.declared.term.Term.{Term}
use Rattle.dt_terms.specs.Terms.{AreTerms, bits_at}
use Rattle.dt_terms.specs.Problem.{IsTest}
use Rattle.dt_forms.specs.Forms.{Form, term, number, form1, form2, form3, Placing, placed_by, form_placed, required_by, HasForm, HaveOps, not_of, both_of, implies, same_of, less_of}
use Rattle.dt_forms.specs.Sizes.{form_width, form_size, Grows}
use Rattle.dt_forms.proofs.Sizes.{Puts, place_can, grows_none, grows_on}
use Rattle.dt_forms.specs.Placing.{place}
use Rattle.dt_forms.proofs.Forms.{width_on, stands_by, IsStanding}

-- ---- terms of a width

pub record IsSized (terms : List Term) (t w : ℕ) : Type 0 where
  pub within : t < length terms
  pub bits : bits_at terms t ≡ w

pub sized_on : (xs ys : List Term) (k t w : ℕ) → Grows xs ys k → IsSized xs t w → IsSized ys t w
sized_on xs ys k t w g h = record { within = omega (arith, g.longer, h.within); bits = g.same t h.within ∙ h.bits }

-- ---- forms that fit

-- the form can be put behind these terms, with this width
pub record IsFine (terms : List Term) (f : Form) (w : ℕ) : Type 0 where
  pub has : HasForm f
  pub ops : HaveOps f
  pub width_is : form_width terms f ≡ Some w

pub fine_on : (xs ys : List Term) (k : ℕ) (f : Form) (w : ℕ) → Grows xs ys k → IsFine xs f w → IsFine ys f w
fine_on xs ys k f w g h = record { has = h.has; ops = h.ops; width_is = width_on xs ys k f w g h.width_is }

pub fine_stands : (placing : Placing) → Puts placing → (terms : List Term) (f : Form) (w : ℕ) → AreTerms terms → IsFine terms f w → IsStanding placing terms f w
fine_stands placing puts terms f w h i = stands_by placing puts f terms w h i.has i.ops i.width_is

pub fine_sized : (terms : List Term) (f : Form) (w : ℕ) → AreTerms terms → IsFine terms f w → IsSized (form_placed terms f).terms (form_placed terms f).at w
fine_sized terms f w h i = let p = (fine_stands place place_can terms f w h i).put_is in record { within = p.within; bits = p.bits }

pub fine_grows : (terms : List Term) (f : Form) (w : ℕ) → AreTerms terms → IsFine terms f w → Grows terms (form_placed terms f).terms (form_size f)
fine_grows terms f w h i = (fine_stands place place_can terms f w h i).put_is.grows

pub term_fine : (terms : List Term) (t w : ℕ) → IsSized terms t w → IsFine terms (term t) w
term_fine terms t w h = record { has = tt; ops = tt; width_is = cond-true (ltb t (length terms)) (Some (bits_at terms t)) None (lt-ltb t (length terms) h.within) ∙ ap (λ (n : ℕ). Some n) h.bits }

pub number_fine : (terms : List Term) (w n : ℕ) → IsWidth w → n < 2 ^ w → IsFine terms (number w n) w
number_fine terms w n h l = record {
  has = tt;
  ops = tt;
  width_is = cond-true _ (Some w) None (and_from _ _ (and_from _ _ (le-leb 1 w h.0) (le-leb w 128 h.1)) (lt-ltb n (2 ^ w) l));
}

-- an operator with operands is one
pub op_used : (op : Op) → 0 < arity_of op → IsOp op
op_used (Const v) l = absurd (omega (arith, l))
op_used Not l = tt
op_used And l = tt
op_used Or l = tt
op_used Xor l = tt
op_used Add l = tt
op_used Sub l = tt
op_used (Slice hi lo) l = tt
op_used Concat l = tt
op_used (SignExt to) l = tt
op_used (Shl by) l = tt
op_used (Shr by) l = tt
op_used Eq l = tt
op_used Ltu l = tt
op_used Ite l = tt

pub one_fine : (terms : List Term) (op : Op) (f : Form) (m w : ℕ) → arity_of op ≡ 1 → IsFine terms f m → fitted op (Some m) (Some 1) (Some 1) ≡ Some w → IsFine terms (form1 op f) w
one_fine terms op f m w r h e = record {
  has = (r, h.has);
  ops = (op_used op (omega (arith, r)), h.ops);
  width_is = ap (λ (o : Option ℕ). fitted op o (Some 1) (Some 1)) h.width_is ∙ e;
}

pub two_fine : (terms : List Term) (op : Op) (f g : Form) (m n w : ℕ) → arity_of op ≡ 2 → IsFine terms f m → IsFine terms g n → fitted op (Some m) (Some n) (Some 1) ≡ Some w → IsFine terms (form2 op f g) w
two_fine terms op f g m n w r h i e = record {
  has = (r, h.has, i.has);
  ops = (op_used op (omega (arith, r)), h.ops, i.ops);
  width_is = ap (λ (o : Option ℕ). fitted op o (form_width terms g) (Some 1)) h.width_is ∙ ap (λ (o : Option ℕ). fitted op (Some m) o (Some 1)) i.width_is ∙ e;
}

pub three_fine : (terms : List Term) (op : Op) (f g k : Form) (m n o w : ℕ) → arity_of op ≡ 3 → IsFine terms f m → IsFine terms g n → IsFine terms k o → fitted op (Some m) (Some n) (Some o) ≡ Some w → IsFine terms (form3 op f g k) w
three_fine terms op f g k m n o w r h i j e = record {
  has = (r, h.has, i.has, j.has);
  ops = (op_used op (omega (arith, r)), h.ops, i.ops, j.ops);
  width_is = ap (λ (x : Option ℕ). fitted op x (form_width terms g) (form_width terms k)) h.width_is ∙ ap (λ (x : Option ℕ). fitted op (Some m) x (form_width terms k)) i.width_is ∙ ap (λ (x : Option ℕ). fitted op (Some m) (Some n) x) j.width_is ∙ e;
}

pub not_fine : (terms : List Term) (f : Form) → IsFine terms f 1 → IsFine terms (not_of f) 1
not_fine terms f h = one_fine terms Not f 1 1 refl h refl

pub and_fine : (terms : List Term) (f g : Form) (w : ℕ) → IsFine terms f w → IsFine terms g w → IsFine terms (both_of f g) w
and_fine terms f g w h i = two_fine terms And f g w w w refl h i (cond-true (eqb w w) (Some w) None (eq-eqb w w refl))

pub both_fine : (terms : List Term) (f g : Form) → IsFine terms f 1 → IsFine terms g 1 → IsFine terms (both_of f g) 1
both_fine terms f g h i = and_fine terms f g 1 h i

pub or_fine : (terms : List Term) (f g : Form) → IsFine terms f 1 → IsFine terms g 1 → IsFine terms (form2 Or f g) 1
or_fine terms f g h i = two_fine terms Or f g 1 1 1 refl h i refl

pub implies_fine : (terms : List Term) (f g : Form) → IsFine terms f 1 → IsFine terms g 1 → IsFine terms (implies f g) 1
implies_fine terms f g h i = or_fine terms (not_of f) g (not_fine terms f h) i

pub same_fine : (terms : List Term) (f g : Form) (w : ℕ) → IsFine terms f w → IsFine terms g w → IsFine terms (same_of f g) 1
same_fine terms f g w h i = two_fine terms Eq f g w w 1 refl h i (cond-true (eqb w w) (Some 1) None (eq-eqb w w refl))

pub less_fine : (terms : List Term) (f g : Form) (w : ℕ) → IsFine terms f w → IsFine terms g w → IsFine terms (less_of f g) 1
less_fine terms f g w h i = two_fine terms Ltu f g w w 1 refl h i (cond-true (eqb w w) (Some 1) None (eq-eqb w w refl))

pub shr_fine : (terms : List Term) (by : ℕ) (f : Form) (w : ℕ) → by < w → IsFine terms f w → IsFine terms (form1 (Shr by) f) w
shr_fine terms by f w l h = one_fine terms (Shr by) f w w refl h (cond-true (ltb by w) (Some w) None (lt-ltb by w l))

-- ---- lists of forms of one bit

-- the form fits, and takes so many terms at most
pub record IsClaim (terms : List Term) (most : ℕ) (f : Form) : Type 0 where
  pub fine : IsFine terms f 1
  pub size : form_size f ≤ most

abbrev pub AreFine : List Term → List Form → Type 0
AreFine terms fs = AllByRecursion (λ (f : Form). IsFine terms f 1) fs

abbrev pub forms_size : List Form → ℕ
forms_size [] = 0
forms_size (f ∷ fs) = form_size f + forms_size fs

all_on : (xs ys : List Term) (k : ℕ) (fs : List Form) → Grows xs ys k → AreFine xs fs → AreFine ys fs
all_on xs ys k [] g h = tt
all_on xs ys k (f ∷ fs) g h = (fine_on xs ys k f 1 g h.0, all_on xs ys k fs g h.1)

pub tests_on : (xs ys : List Term) (k : ℕ) (ts : List ℕ) → Grows xs ys k → AllByRecursion (IsTest xs) ts → AllByRecursion (IsTest ys) ts
tests_on xs ys k [] g h = tt
tests_on xs ys k (t ∷ ts) g h = ((omega (arith, g.longer, h.0.0), g.same t h.0.0 ∙ h.0.1), tests_on xs ys k ts g h.1)

-- what is required of forms that fit
pub record AreRequired (placing : Placing) (terms : List Term) (fs : List Form) : Type 0 where
  pub grows : Grows terms (required_by placing terms fs).terms (forms_size fs)
  pub tests : AllByRecursion (IsTest (required_by placing terms fs).terms) (required_by placing terms fs).required

pub all_stand : (placing : Placing) → Puts placing → (fs : List Form) (terms : List Term) → AreTerms terms → AreFine terms fs → AreRequired placing terms fs
all_stand placing puts [] terms h i = record { grows = grows_none terms h; tests = tt }
all_stand placing puts (f ∷ fs) terms h i =
    let x = placed_by placing terms f in
    let s = (fine_stands placing puts terms f 1 h i.0).put_is in
    let g = s.grows in
    let rest = all_stand placing puts fs x.terms g.terms_are (all_on terms x.terms (form_size f) fs g i.1) in
    record {
      grows = grows_on terms x.terms (required_by placing x.terms fs).terms (form_size f) (forms_size fs) g rest.grows;
      tests = ((omega (arith, s.within, rest.grows.longer), rest.grows.same x.at s.within ∙ s.bits), rest.tests);
    }

-- ---- sizes of lists

pub size_append : (xs ys : List Form) → forms_size (xs ++ ys) ≡ forms_size xs + forms_size ys
size_append [] ys = omega arith
size_append (x ∷ xs) ys = let e = size_append xs ys in omega (arith, e)

pub mul_more : (n k : ℕ) → suc n * k ≡ k + n * k
mul_more n k = omega arith

pub size_map : {X : Type 0} (f : X → Form) (k : ℕ) → ((x : X) → form_size (f x) ≤ k) → (xs : List X) → forms_size (map f xs) ≤ length xs * k
size_map f k h [] = omega arith
size_map f k h (x ∷ xs) = let e = size_map f k h xs in let l = h x in let m = mul_more (length xs) k in omega (arith, e, l, m)

pub size_flat : {X : Type 0} (f : X → List Form) (k : ℕ) → ((x : X) → forms_size (f x) ≤ k) → (xs : List X) → forms_size (flat_map f xs) ≤ length xs * k
size_flat f k h [] = omega arith
size_flat f k h (x ∷ xs) = let e = size_flat f k h xs in let l = h x in let m = mul_more (length xs) k in let s = size_append (f x) (flat_map f xs) in omega (arith, e, l, m, s)

-- ---- lists whose forms all fit

pub fine_map : {X : Type 0} (terms : List Term) (P : X → Type 0) (f : X → Form) → ((x : X) → P x → IsFine terms (f x) 1) → (xs : List X) → AllByRecursion P xs → AreFine terms (map f xs)
fine_map terms P f h [] k = tt
fine_map terms P f h (x ∷ xs) k = (h x k.0, fine_map terms P f h xs k.1)

pub fine_append : (terms : List Term) (xs ys : List Form) → AreFine terms xs → AreFine terms ys → AreFine terms (xs ++ ys)
fine_append terms [] ys h k = k
fine_append terms (x ∷ xs) ys h k = (h.0, fine_append terms xs ys h.1 k)

pub fine_flat : {X : Type 0} (terms : List Term) (P : X → Type 0) (f : X → List Form) → ((x : X) → P x → AreFine terms (f x)) → (xs : List X) → AllByRecursion P xs → AreFine terms (flat_map f xs)
fine_flat terms P f h [] k = tt
fine_flat terms P f h (x ∷ xs) k = fine_append terms (f x) (flat_map f xs) (h x k.0) (fine_flat terms P f h xs k.1)
