-- What the code keeps while it goes through the nodes of an access, as data.
use Rattle.std.specs.Prelude.{◌≡◌, ◌<◌, ◌≤◌, ℕ, List, Option, None, length, slice_index_or, IsSome}
use Rattle.std.specs.List.{AllByRecursion}
use Rattle.dt_model.specs.declared.expr.Expr.{Expr}
use Rattle.dt_model.specs.ModelData.{ActData, tree_of}
use Rattle.dt_model.specs.Scopes.{scope_of}
use Rattle.dt_model.specs.Widths.{Scope, AreWidths, HasArities, tree_width}
use Rattle.dt_walk.specs.Sound.{IsSound}
use Rattle.dt_terms.specs.Problem.{ProblemData}
use Rattle.dt_table.specs.Expressions.{Named}
use Rattle.dt_table.specs.declared.out.Out.{Out}
use Rattle.dt_table.specs.Passing.{Access, State, passed}
use Rattle.dt_table.specs.Table.{align_of}
use Rattle.dt_unroll.specs.declared.places.Places.{Places}
use Rattle.dt_unroll.specs.declared.frame.Frame.{Frame}
use Rattle.dt_unroll.specs.declared.front.Front.{Front}

-- where the terms of names stand, with these terms of variables
abbrev pub named_of : Places → List (Option ℕ) → Named
named_of p vars = record { scope = scope_of p.names; regs = p.regs; inputs = p.inputs; vars = λ v. slice_index_or vars v None }

abbrev pub access_data : Frame → Access
access_data f = record {
  scope = scope_of f.places.names;
  regs = f.places.regs;
  inputs = f.places.inputs;
  address = f.address;
  align = align_of f.word;
  lo = f.lo;
  hi = f.hi;
  zero_term = f.zero;
  one_term = f.one;
}

-- a variable or a node that the code doesn't have has no term, or the given one
abbrev pub state_of : ProblemData → ℕ → Front → State
state_of p none f = record { terms = p.terms; vars = λ v. slice_index_or f.vars.items v None; come = λ n. slice_index_or f.come.items n none; word = f.word; away = f.away }

-- what the code asks of the frame
pub record IsFrame (f : Frame) : Type 0 where
  pub some_address : 1 ≤ f.address
  pub address : f.address ≤ 64
  pub widths : AreWidths f.places.names.vars.now

-- from the one problem and front to the other by a step of the definition; nothing more is required
pub record Goes (step : State → State) (p : ProblemData) (a : Front) (q : ProblemData) (b : Front) : Type 0 where
  pub state : (none : ℕ) → state_of q none b ≡ step (state_of p none a)
  pub required : q.required ≡ p.required
  pub vars : length b.vars.items ≡ length a.vars.items
  pub come : length b.come.items ≡ length a.come.items

-- so by a node, for which this stands
pub record Passes (a : Access) (n : ℕ) (act : ActData) (p : ProblemData) (x : Front) (q : ProblemData) (y : Front) (o : Out) : Type 0 where
  pub goes : Goes (λ s. (passed a s n act).state) p x q y
  pub out : o ≡ (passed a (state_of p a.zero_term x) n act).out

-- what stands for a node that leads nowhere
abbrev pub blank : Access → Front → ℕ → Out
blank a x n = record { come = slice_index_or x.come.items n a.zero_term; value = a.zero_term; by_then = a.zero_term; by_other = a.zero_term; word = a.zero_term; away = x.away }

-- there is a term for each variable and for each of so many nodes
pub record IsWhole (f : Frame) (count : ℕ) (x : Front) : Type 0 where
  pub vars : length x.vars.items ≡ length f.places.names.vars.now
  pub come : length x.come.items ≡ count

-- the code can put the node at this position, with this act
pub record IsReady (f : Frame) (x : Front) (at : ℕ) (act : ActData) : Type 0 where
  pub frame : IsFrame f
  pub vars : length x.vars.items ≡ length f.places.names.vars.now
  pub there : at < length x.come.items
  pub sound : IsSound (scope_of f.places.names) f.word (length x.come.items) at act

-- each rule has a width over these names, and its operators their operands
abbrev pub AreRules : Scope → List Expr → Type 0
AreRules s rules = AllByRecursion (λ e. HasArities (tree_of e) × IsSome (tree_width s (tree_of e))) rules
