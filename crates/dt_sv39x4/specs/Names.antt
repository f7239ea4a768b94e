-- The names of a walk's nodes, by its letter: v for the VS-stage; a, b, c for the G-stages of the addresses of its entries of levels 2, 1, 0; g for the G-stage of the final address.
use Rattle.std.specs.Prelude.{ℕ, List, ◌++◌, codes}
use Rattle.dt_lex.specs.declared.name.Name.{Name}
use Rattle.dt_lex.specs.Names.{padded_name}
use Rattle.dt_stage.specs.declared.levels.LastNames.{LastNames}
use Rattle.dt_stage.specs.declared.levels.UpperNames.{UpperNames}
use Rattle.dt_stage.specs.declared.stages.StageNames.{StageNames}
use Rattle.dt_sv39x4.specs.declared.results.ResultNames.{ResultNames}
use Rattle.dt_sv39x4.specs.declared.guest.GuestNames.{GuestNames}

-- a node of this walk
abbrev pub of_walk : List ℕ → List ℕ → Name
of_walk letter name = padded_name (letter ++ name)

-- the tests of a level end with its digit
abbrev pub upper_names : List ℕ → List ℕ → UpperNames
upper_names l i = record {
  read = of_walk l i;
  invalid = of_walk l (codes "_invalid" ++ i);
  pointer = of_walk l (codes "_pointer" ++ i);
  bad_pointer = of_walk l (codes "_bad_pointer" ++ i);
  bad_leaf = of_walk l (codes "_bad_leaf" ++ i);
}

abbrev pub last_names : List ℕ → LastNames
last_names l = record { read = of_walk l (codes "0"); invalid = of_walk l (codes "_invalid0"); pointer = of_walk l (codes "_pointer0"); bad_leaf = of_walk l (codes "_bad_leaf0") }

abbrev pub stage_names : List ℕ → StageNames
stage_names l = record { level2 = upper_names l (codes "2"); level1 = upper_names l (codes "1"); level0 = last_names l }

-- a result's name ends with the exponent of its page
abbrev pub result_names : List ℕ → ResultNames
result_names l = record { led30 = of_walk l (codes "_led30"); led21 = of_walk l (codes "_led21"); napot = of_walk l (codes "_napot"); led16 = of_walk l (codes "_led16"); led12 = of_walk l (codes "_led12") }

abbrev pub guest_names : List ℕ → GuestNames
guest_names l = record {
  mode = of_walk l (codes "_mode");
  high = of_walk l (codes "_high");
  bare = of_walk l (codes "_bare");
  range = of_walk l (codes "_range");
  stage = stage_names l;
  results = result_names l;
}
