-- Problems that grow by terms which are put behind the others, and by forms that are required.
use Rattle.std.specs.Prelude.{◌≡◌, ◌-◌, Bool, true, List, [], ◌++◌, length, take, drop, map, is_none, position}
use Rattle.std.specs.List.{list_all}
use Rattle.dt_bits.specs.declared.value.Width.{Width}
use Rattle.dt_terms.specs.declared.term.Term.{Term}
use Rattle.dt_terms.specs.declared.term.Term.TheVariants.{Choice}
use Rattle.dt_terms.specs.Terms.{is_choice}
use Rattle.dt_terms.specs.Problem.{ProblemData}
use Rattle.dt_bits.specs.Bits.{IsValue}
use Rattle.dt_forms.specs.declared.folded.Folded.{Folded}
use Rattle.dt_forms.specs.declared.folded.Folded.TheVariants.{Value}
use Rattle.dt_forms.specs.Forms.{Form, Placing, required_by}
use Rattle.dt_forms.specs.Folding.{fold}
use Rattle.dt_forms.specs.Placing.{Placed, place}
use Rattle.dt_forms.specs.Same.{same_term}

-- the term doesn't stand among these
abbrev pub is_new : List Term → Term → Bool
is_new terms term = is_none (position (same_term term) terms)

-- the problem in which these terms stand
abbrev pub placed_in : ProblemData → Placed → ProblemData
placed_in p x = record { terms = x.terms; required = p.required }

-- the problem of choices alone
abbrev pub of_choices : List Width → ProblemData
of_choices widths = record { terms = map (λ w. Choice w) widths; required = [] }

-- the problem in which these forms too are required, each put behind the terms in turn
abbrev pub demanded_by : Placing → ProblemData → List Form → ProblemData
demanded_by placing p fs =
    let q = required_by placing p.terms fs in
    record { terms = q.terms; required = p.required ++ q.required }

abbrev pub demanded : ProblemData → List Form → ProblemData
demanded p fs = demanded_by place p fs

-- the same, with constant operands folded
abbrev pub claimed : ProblemData → List Form → ProblemData
claimed p fs = demanded_by fold p fs

-- the value to which an operator is folded is a value
abbrev pub IsFolded : Folded → Type 0
IsFolded (Value x) = IsValue x
IsFolded _ = Unit {0}

-- the terms are choices, and then these nodes
pub record AreChoicesAnd (terms nodes : List Term) : Type 0 where
  pub choices : list_all is_choice (take (length terms - length nodes) terms) ≡ true
  pub rest : drop (length terms - length nodes) terms ≡ nodes
