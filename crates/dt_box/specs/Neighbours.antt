-- Which cells a step looks at.
use Rattle.std.specs.Prelude.{◌≡◌, ℕ, Bool, true, false, ◌||◌, ◌&&◌, ◌==◌, nat_lt, List}
use Rattle.dt_bits.specs.Ops.{arity_of}
use Rattle.dt_domain.specs.Domain.{DomainOps}
use Rattle.dt_terms.specs.declared.term.Term.{Term}
use Rattle.dt_terms.specs.declared.term.Term.TheVariants.{Choice, Node}
use Rattle.dt_terms.specs.Terms.{term_at}
use Rattle.dt_box.specs.declared.step.Step.{Step}
use Rattle.dt_box.specs.Cells.{cell_at}
use Rattle.dt_box.specs.Steps.{IsStep, narrowed}
use Rattle.dt_box.specs.Stillness.{origin, tells}

-- the term is a node of which t is an operand
abbrev pub uses : Term → ℕ → Bool
uses (Choice w) t = false
uses (Node op a b c w) t =
    (nat_lt 0 (arity_of op) && a == t) || ((nat_lt 1 (arity_of op) && b == t) || (nat_lt 2 (arity_of op) && c == t))

-- the step goes from t or from a node that uses it
abbrev pub is_near : List Term → ℕ → Step → Bool
is_near terms t step = origin step == t || uses (term_at terms (origin step)) t

-- the cells of all terms that the step is near are the same in both lists
abbrev pub AgreeNear : {D : Type 0} → DomainOps D → List Term → Step → List D → List D → Type 0
AgreeNear ops terms step cells others =
    (t : ℕ) → is_near terms t step ≡ true → cell_at ops cells t ≡ cell_at ops others t

-- the step does the same to its target's cell in both lists
pub record IsAlike {D : Type 0} (ops : DomainOps D) (terms : List Term) (step : Step) (cells others : List D) : Type 0 where
  pub cell : narrowed ops terms step cells ≡ narrowed ops terms step others
  pub news : tells ops terms step cells ≡ tells ops terms step others

-- steps look at no cells but those of their target, their node and its operands
abbrev pub StepsAreLocal : {D : Type 0} → DomainOps D → Type 0
StepsAreLocal {D} ops =
    (terms : List Term) (step : Step) (cells others : List D) → IsStep terms step
    → AgreeNear ops terms step cells others → IsAlike ops terms step cells others
