-- What stands for a node.
use Rattle.std.specs.Prelude.{ℕ, Bool, true, false, List, slice_index_or}
use Rattle.dt_table.specs.declared.out.Out.{Out}

abbrev pub no_out : Out
no_out = record { come = 0; value = 0; by_then = 0; by_other = 0; word = 0; away = 0 }

abbrev pub out_at : List Out → ℕ → Out
out_at outs n = slice_index_or outs n no_out

-- the term of an edge: that of `then`, or the other one
abbrev pub edge_at : Bool → Out → ℕ
edge_at true o = o.by_then
edge_at false o = o.by_other
