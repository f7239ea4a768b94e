-- The limits of a model.
use Rattle.std.specs.Prelude.{ℕ}

abbrev pub most_regs : ℕ
most_regs = 32

abbrev pub most_inputs : ℕ
most_inputs = 16

abbrev pub most_vars : ℕ
most_vars = 512

-- context rules, and access rules
abbrev pub most_rules : ℕ
most_rules = 32

abbrev pub most_nodes : ℕ
most_nodes = 1024

abbrev pub most_reads : ℕ
most_reads = 64

abbrev pub most_dones : ℕ
most_dones = 16

-- of one expression; names and constants are no operators
abbrev pub most_operators : ℕ
most_operators = 64

-- of all rules and nodes
abbrev pub most_model_operators : ℕ
most_model_operators = 8192

-- on one way from an expression's root
abbrev pub most_depth : ℕ
most_depth = 32

abbrev pub most_code : ℕ
most_code = 65535
