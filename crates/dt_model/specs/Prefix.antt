-- What the check knows of the nodes before one.
use Rattle.std.specs.Prelude.{◌≡◌, ℕ, ◌≤◌, map, take}
use Rattle.dt_model.specs.declared.prefix.Prefix.{Prefix}
use Rattle.dt_model.specs.ModelData.{ModelData}
use Rattle.dt_model.specs.Faults.{count_of, is_read, is_done, operators_to}

-- the names and the numbers of the first i nodes, none of which is at fault
pub record IsPrefix (d : ModelData) (i : ℕ) (s : Prefix) : Type 0 where
  pub names : s.names.keys ≡ map (λ n. n.name) (take i d.nodes)
  pub reads : s.tally.reads ≡ count_of is_read (take i d.nodes)
  pub dones : s.tally.dones ≡ count_of is_done (take i d.nodes)
  pub operators : s.tally.operators ≡ operators_to d i
  pub few : i ≤ 1024
  pub few_reads : s.tally.reads ≤ 64
  pub few_dones : s.tally.dones ≤ 16
  pub few_operators : s.tally.operators ≤ 8192
