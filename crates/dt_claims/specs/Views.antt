-- What stands for the values of the code in the definitions.
use Rattle.std.specs.Prelude.{ℕ, ◌+◌, List, [], length, map}
use Rattle.std.specs.declared.vec.Vec.{Vec}
use Rattle.dt_model.specs.ModelData.{ModelData}
use Rattle.dt_request.specs.declared.list.Requests.{Requests}
use Rattle.dt_table.specs.declared.out.Out.{Out}
use Rattle.dt_table.specs.Apart.{Sized}
use Rattle.dt_table.specs.Passing.{Access}
use Rattle.dt_table.specs.Spots.{Spot}
use Rattle.dt_table.specs.Table.{choices, regs_at, inputs_at}
use Rattle.dt_claims.specs.declared.sized.SizedOut.{SizedOut}
use Rattle.dt_claims.specs.declared.spots.SpotOut.{SpotOut}
use Rattle.dt_claims.specs.declared.places.Places.{Places}

abbrev pub sized : SizedOut → Sized
sized x = record { exponent = x.exponent; out = x.out }

abbrev pub spot : SpotOut → Spot
spot x = record { access = x.access; node = x.node; live = x.live; ahead = x.ahead.items; of = sized x.of }

-- what stands for the nodes of each access
abbrev pub rows_of : {Z : Type 0} → List (Vec Out Z) → List (List Out)
rows_of rows = map (λ r. r.items) rows

-- an access of these places, of which claims ask nothing else
abbrev pub access_of : Places → Access
access_of p = record {
  scope = record { regs = []; inputs = []; vars = [] };
  regs = p.regs;
  inputs = p.inputs;
  address = p.address;
  align = 0;
  lo = 0;
  hi = 0;
  zero_term = p.zero;
  one_term = p.one;
}

-- where the terms of an access stand, by its number and that of its context
abbrev pub places_of : ModelData → Requests → ℕ → ℕ → Places
places_of d r k context = record {
  address = d.address;
  regs = regs_at d context;
  inputs = inputs_at d r k;
  zero = length (choices d r);
  one = length (choices d r) + 1;
}
