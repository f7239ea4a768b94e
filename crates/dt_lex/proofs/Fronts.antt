-- What holds of what the front of some tokens spells.
use Rattle.std.proofs.Common.{◌≡◌, Bool, true, false, Option, Some, None}
use Rattle.std.specs.Prelude.{IfSome}
use Rattle.dt_lex.specs.Frame.{◌>>=◌, given}

pub chained : {X Y : Type 0} (P : X → Type 0) (Q : Y → Type 0) (o : Option X) (f : X → Option Y) → IfSome o P → ((x : X) → P x → IfSome (f x) Q) → IfSome (o >>= f) Q
chained P Q None f h k = tt
chained P Q (Some x) f h k = k x h

pub given_some : {X : Type 0} (P : X → Type 0) (b : Bool) (x : X) → P x → IfSome (given b x) P
given_some P true x h = h
given_some P false x h = tt
