-- Forms that are required in turn.
use Rattle.std.proofs.Common.{◌≡◌, List, [], ◌∷◌, ◌++◌, refl, sym, ◌∙◌, append_assoc}
use Rattle.std.proofs.lemmas.List.{append-nil}
use Rattle.dt_terms.specs.declared.term.Term.{Term}
use Rattle.dt_terms.specs.Problem.{ProblemData}
use Rattle.dt_forms.specs.Forms.{Form, Placing, placed_by, required_by}
use Rattle.dt_build.specs.Building.{demanded_by}

-- no forms require nothing
pub demanded_none : (placing : Placing) (p : ProblemData) → demanded_by placing p [] ≡ p
demanded_none placing p = λ i. record { terms = p.terms; required = append-nil p.required i }

required_parts : (placing : Placing) (fs gs : List Form) (terms : List Term)
    → required_by placing terms (fs ++ gs) ≡ record { terms = (required_by placing (required_by placing terms fs).terms gs).terms; required = (required_by placing terms fs).required ++ (required_by placing (required_by placing terms fs).terms gs).required }
required_parts placing [] gs terms = refl
required_parts placing (f ∷ fs) gs terms =
    let x = placed_by placing terms f in
    let e = required_parts placing fs gs x.terms in
    λ i. record { terms = (e i).terms; required = x.at ∷ (e i).required }

-- forms behind others
pub demanded_parts : (placing : Placing) (p : ProblemData) (fs gs : List Form) → demanded_by placing p (fs ++ gs) ≡ demanded_by placing (demanded_by placing p fs) gs
demanded_parts placing p fs gs =
    let e = required_parts placing fs gs p.terms in
    let q = required_by placing p.terms fs in
    let r = required_by placing q.terms gs in
    (λ i. record { terms = (e i).terms; required = p.required ++ (e i).required })
    ∙ (λ i. record { terms = r.terms; required = sym (append_assoc p.required q.required r.required) i })
