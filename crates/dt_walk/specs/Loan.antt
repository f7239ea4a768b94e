-- What a walker keeps while its run is lent.
use Rattle.std.specs.Prelude.{◌≡◌, []}
use Rattle.std.specs.Borrow.{follows_so, MutBor, Fml}
use mir.Syntax.{named}
use mathlib.Core.Option.{none}
use Rattle.dt_walk.specs.declared.walker.Walker.{Walker}
use Rattle.dt_walk.specs.contracts.walker.Walker.{the_row}
use Rattle.dt_walk.specs.Walkers.{walker_data}

-- the model stays
abbrev pub KeepsModel : MutBor Walker → Fml
KeepsModel s = follows_so (the_row (record { mir = named 0; lft = [] })) (the_row (record { mir = named 0; lft = [] })) s.ghost_name none (λ _ _. Unit {0}) (λ v. walker_data v ≡ walker_data s.now)
