-- Forms that hold exactly where a test does.
use Rattle.std.proofs.Common.{◌≡◌, Bool, true, ◌&&◌, List, [], ◌∷◌, ◌++◌, map, refl, sym, ◌∙◌, subst}
use Rattle.std.specs.Prelude.{IsTrue}
use Rattle.std.specs.List.{flat_map, AllByRecursion}
use Rattle.std.proofs.lemmas.Bool.{and_parts, and_from}
use Rattle.dt_lemmas.proofs.Lists.{AllByRecursion-append, AllByRecursion-split}
use Rattle.dt_forms.specs.Meaning.{Valuation, is_one}
use Rattle.dt_forms.specs.Forms.{Form, form_value}
use Rattle.dt_forms.specs.Claims.{Hold}

pub record Tells (v : Valuation) (fs : List Form) (b : Bool) : Type 0 where
  pub holds : Hold v fs → b ≡ true
  pub held : b ≡ true → Hold v fs

pub none_tells : (v : Valuation) → Tells v [] true
none_tells v = record { holds = λ h. refl; held = λ h. tt }

pub more_tell : (v : Valuation) (f : Form) (fs : List Form) (x y : Bool) → is_one (form_value v f) ≡ x → Tells v fs y → Tells v (f ∷ fs) (x && y)
more_tell v f fs x y e t = record {
  holds = λ h. and_from x y (sym e ∙ h.0) (t.holds h.1);
  held = λ h. let p = and_parts x y h in (e ∙ p.0, t.held p.1);
}

pub tells_as : (v : Valuation) (fs : List Form) (x y : Bool) → x ≡ y → Tells v fs x → Tells v fs y
tells_as v fs x y e t = record { holds = λ h. sym e ∙ t.holds h; held = λ h. t.held (e ∙ h) }

pub one_tells : (v : Valuation) (f : Form) (b : Bool) → is_one (form_value v f) ≡ b → Tells v (f ∷ []) b
one_tells v f b e = record { holds = λ h. sym e ∙ h.0; held = λ h. (e ∙ h, tt) }

pub both_tell : (v : Valuation) (fs gs : List Form) (x y : Bool) → Tells v fs x → Tells v gs y → Tells v (fs ++ gs) (x && y)
both_tell v fs gs x y s t = record {
  holds = λ h. let p = AllByRecursion-split (λ (f : Form). is_one (form_value v f) ≡ true) fs gs h in and_from x y (s.holds p.0) (t.holds p.1);
  held = λ h. let p = and_parts x y h in AllByRecursion-append (λ (f : Form). is_one (form_value v f) ≡ true) fs gs (s.held p.0) (t.held p.1);
}

-- ---- forms that hold exactly where each of many tests does

pub record TellAll (v : Valuation) (fs : List Form) (bs : List Bool) : Type 0 where
  pub holds : Hold v fs → AllByRecursion IsTrue bs
  pub held : AllByRecursion IsTrue bs → Hold v fs

pub none_tell : (v : Valuation) → TellAll v [] []
none_tell v = record { holds = λ h. tt; held = λ h. tt }

pub tell_as : (v : Valuation) (fs : List Form) (bs cs : List Bool) → bs ≡ cs → TellAll v fs bs → TellAll v fs cs
tell_as v fs bs cs e t = subst (λ (l : List Bool). TellAll v fs l) e t

pub one_more_tells : (v : Valuation) (fs gs : List Form) (b : Bool) (bs : List Bool) → Tells v fs b → TellAll v gs bs → TellAll v (fs ++ gs) (b ∷ bs)
one_more_tells v fs gs b bs s t = record {
  holds = λ h. let p = AllByRecursion-split (λ (f : Form). is_one (form_value v f) ≡ true) fs gs h in (s.holds p.0, t.holds p.1);
  held = λ h. AllByRecursion-append (λ (f : Form). is_one (form_value v f) ≡ true) fs gs (s.held h.0) (t.held h.1);
}

pub many_tell : (v : Valuation) (fs gs : List Form) (bs cs : List Bool) → TellAll v fs bs → TellAll v gs cs → TellAll v (fs ++ gs) (bs ++ cs)
many_tell v fs gs bs cs s t = record {
  holds = λ h. let p = AllByRecursion-split (λ (f : Form). is_one (form_value v f) ≡ true) fs gs h in AllByRecursion-append IsTrue bs cs (s.holds p.0) (t.holds p.1);
  held = λ h. let p = AllByRecursion-split IsTrue bs cs h in AllByRecursion-append (λ (f : Form). is_one (form_value v f) ≡ true) fs gs (s.held p.0) (t.held p.1);
}

-- the forms of each element tell its test
pub each_tells : {X : Type 0} (v : Valuation) (forms : X → List Form) (test : X → Bool) (xs : List X) → AllByRecursion (λ (x : X). Tells v (forms x) (test x)) xs → TellAll v (flat_map forms xs) (map test xs)
each_tells v forms test [] h = none_tell v
each_tells v forms test (x ∷ xs) h = one_more_tells v (forms x) (flat_map forms xs) (test x) (map test xs) h.0 (each_tells v forms test xs h.1)
