-- What is built of a list, as a problem, and where its choices stand.
use Rattle.std.specs.Prelude.{◌≡◌, ℕ, ◌+◌, ◌*◌, List, length}
use Rattle.dt_model.specs.ModelData.{ModelData}
use Rattle.dt_model.specs.Faults.{node_scope, steps}
use Rattle.dt_request.specs.declared.list.Requests.{Requests}
use Rattle.dt_request.specs.Choices.{read_nodes}
use Rattle.dt_terms.specs.declared.term.Term.{Term}
use Rattle.dt_terms.specs.Problem.{ProblemData}
use Rattle.dt_table.specs.declared.out.Out.{Out}
use Rattle.dt_table.specs.Passing.{Access, Walked, walk_placed}
use Rattle.dt_table.specs.Table.{Built, choices, align_of, first_state}
use Rattle.dt_unroll.specs.declared.layout.Layout.{Layout}

abbrev pub problem_of : Built → ProblemData
problem_of b = record { terms = b.terms; required = b.required }

-- a problem, and what stands for the nodes of the accesses that were gone through
abbrev pub built_of : ProblemData → List (List Out) → Built
built_of p outs = record { terms = p.terms; required = p.required; outs = outs }

pub record IsLayout (d : ModelData) (r : Requests) (l : Layout) : Type 0 where
  pub regs : l.regs ≡ length d.regs
  pub first : l.first ≡ length r.contexts * length d.regs
  pub inputs : l.inputs ≡ length d.inputs
  pub step : l.step ≡ length d.inputs + read_nodes d
  pub zero_term : l.zero ≡ length (choices d r)
  pub one_term : l.one ≡ length (choices d r) + 1

-- an access whose registers and inputs stand here
abbrev pub access_at : ModelData → Requests → ℕ → ℕ → Access
access_at d r regs inputs = record {
  scope = node_scope d;
  regs = regs;
  inputs = inputs;
  address = d.address;
  align = align_of d.word;
  lo = r.lo;
  hi = r.hi;
  zero_term = length (choices d r);
  one_term = length (choices d r) + 1;
}

-- its walk behind terms
unfoldable pub walk_at : ModelData → Requests → ℕ → ℕ → List Term → Walked
walk_at d r regs inputs terms =
    let a = access_at d r regs inputs in
    walk_placed a (first_state a terms (inputs + length d.inputs)) (steps d) 0
