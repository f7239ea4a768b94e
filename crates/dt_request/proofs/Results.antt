-- What holds of an answer that is built from others.
use Rattle.std.proofs.Common.{◌≡◌, Bool, true, false, Option, Some, None, Result, Ok, Err, refl}
use Rattle.std.specs.Prelude.{IfOk, IfSome, option_map, option_and_then}
use Rattle.dt_lex.specs.Reading.{◌>>=◌}
use Rattle.dt_request.specs.declared.fault.Cause.{Cause}
use Rattle.dt_request.specs.Entry.{known, in_range}

-- ---- of a name that is looked up, and of a number that is tested

pub known_ok : {X Y : Type 0} (P : Y → Type 0) (o : Option X) (f : X → Y) → ((x : X) → o ≡ Some x → P (f x)) → IfOk (known o >>= λ x. Ok (f x)) P
known_ok P None f h = tt
known_ok P (Some x) f h = h x refl

pub range_ok : {X : Type 0} (P : X → Type 0) (b : Bool) (x : X) → (b ≡ true → P x) → IfOk (in_range b x) P
range_ok P true x h = h refl
range_ok P false x h = tt

pub then_ok : {X Y E : Type 0} (P : X → Type 0) (Q : Y → Type 0) (r : Result X E) (f : X → Y) → IfOk r P → ((x : X) → P x → Q (f x)) → IfOk (r >>= λ x. Ok (f x)) Q
then_ok P Q (Ok x) f h k = k x h
then_ok P Q (Err e) f h k = tt

pub known_then : {X Y : Type 0} (P : Y → Type 0) (o : Option X) (f : X → Result Y Cause) → ((x : X) → o ≡ Some x → IfOk (f x) P) → IfOk (known o >>= f) P
known_then P None f h = tt
known_then P (Some x) f h = h x refl

-- ---- of one thing after another

pub chained : {X Y : Type 0} (P : X → Type 0) (Q : Y → Type 0) (o : Option X) (f : X → Option Y) → IfSome o P → ((x : X) → P x → IfSome (f x) Q) → IfSome (option_and_then f o) Q
chained P Q None f h k = tt
chained P Q (Some x) f h k = k x h

pub itself : {X : Type 0} (o : Option X) → IfSome o (λ x. o ≡ Some x)
itself None = tt
itself (Some x) = refl
