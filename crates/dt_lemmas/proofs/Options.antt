-- Options and results.
use Rattle.std.proofs.Common.{◌≡◌, Bool, true, false, cond, Option, Result, Ok, Err, refl, sym, subst, Some, None}
use Rattle.std.specs.Prelude.{IfSome, IsSomeAnd, IfOk}
use Rattle.std.specs.Option.{is_some, option_map}

-- ---- a fact of the value that is there

pub chosen_some : {X : Type 0} (P : X → Type 0) (b : Bool) (o p : Option X) → (b ≡ true → IfSome o P) → (b ≡ false → IfSome p P) → IfSome (cond b o p) P
chosen_some P true o p h k = h refl
chosen_some P false o p h k = k refl

pub chosen_ok : {X E : Type 0} (P : X → Type 0) (b : Bool) (x y : Result X E) → (b ≡ true → IfOk x P) → (b ≡ false → IfOk y P) → IfOk (cond b x y) P
chosen_ok P true x y h k = h refl
chosen_ok P false x y h k = k refl

pub at_ok : {X E : Type 0} (P : X → Type 0) (r : Result X E) (x : X) → IfOk r P → r ≡ Ok x → P x
at_ok P (Ok y) x h e = let same : y ≡ x = cc in rw (← same) h
at_ok P (Err e) x h k = absurd cc

pub ok_is : {A F : Type 0} (x y : A) → (let f : A → Result A F = λ z. Ok z in f x ≡ f y) → x ≡ y
ok_is x y e = cc

pub none_is : {X : Type 0} (o : Option X) → is_some o ≡ false → o ≡ None
none_is None h = refl
none_is (Some x) h = absurd cc

pub some_is : {X : Type 0} (x y : X) → (let f : X → Option X = λ z. Some z in f x ≡ f y) → x ≡ y
some_is x y e = cc

pub at_some : {X : Type 0} (P : X → Type 0) (o : Option X) (x : X) → IfSome o P → o ≡ Some x → P x
at_some P None x h e = absurd cc
at_some P (Some y) x h e = let same : y ≡ x = cc in rw (← same) h

pub mapped_some : {X Y : Type 0} (P : Y → Type 0) (f : X → Y) (o : Option X) → ((x : X) → o ≡ Some x → P (f x)) → IfSome (option_map f o) P
mapped_some P f None h = tt
mapped_some P f (Some x) h = h x refl

-- what a function makes of the value that is there
pub made_some : {X Y : Type 0} (P : X → Type 0) (Q : Y → Type 0) (o : Option X) (f : X → Y) → IfSome o P → ((x : X) → P x → Q (f x)) → IfSome (option_map f o) Q
made_some P Q None f h k = tt
made_some P Q (Some x) f h k = k x h

-- a fact of the value that is there, where none breaks it
pub unbroken : {X : Type 0} (o : Option X) (x : X) (P : X → Type 0) → o ≡ Some x → (IsSomeAnd o P → ⊥) → P x → ⊥
unbroken {X = X} o x P at none p = none (subst (λ (q : Option X). IsSomeAnd q P) (sym at) p)

pub guard_some : {X : Type 0} (b : Bool) (o : Option X) (x : X) → cond b o None ≡ Some x → (b ≡ true) × (o ≡ Some x)
guard_some true o x e = (refl, e)
guard_some false o x e = absurd cc

-- what a choice by a test is where it is something
pub some_if : {X : Type 0} (b : Bool) (x y : X) → cond b (Some x) None ≡ Some y → (b ≡ true) × (x ≡ y)
some_if true x y e = (refl, cc)
some_if false x y e = absurd (cc)
