use Rattle.std.proofs.Common.{◌≡◌, ℕ, get_or, ap, ◌∙◌, refl}
use Rattle.std.proofs.lemmas.List.{get_or_default}
use Rattle.dt_model.specs.ModelData.{tree_of}
use Rattle.dt_terms.specs.Problem.{ProblemData}
use Rattle.dt_table.specs.declared.out.Out.{Out}
use Rattle.dt_table.specs.Passing.{Forked, fork}
use Rattle.dt_forms.specs.Forms.{form_placed}
use Rattle.dt_table.specs.Expressions.{form_of}
use Rattle.dt_unroll.specs.Fronts.{access_data, named_of, state_of}
use Rattle.dt_unroll.proofs.Steps.{is_placed, fork_is, branch_state, branch_out}
use Rattle.dt_unroll.proofs.node.pass_if.Goals as goal

pub returns : goal.returns
returns c =
    let a = access_data c.args.frame.now in
    let p = c.args.builder.now in
    let q = c.place_expression.new.builder in
    let x = c.args.front.now in
    let e = tree_of c.args.test.now in
    let v = is_placed p q c.args.frame.now.places c.as_slice.result.now x.vars.items e c.in_ok-value.value c.as_slice.ensures.value c.in_ok-value.ensures.at c.in_ok-value.ensures.placed in
    let w = form_placed p.terms (form_of (named_of c.args.frame.now.places x.vars.items) e) in
    let come : (none : ℕ) → c.blank-out.result.come ≡ get_or x.come.items c.args.at none = λ none. ap (λ (o : Out). o.come) c.blank-out.ensures ∙ get_or_default x.come.items c.args.at a.zero_term none c.requires.there in
    let f : Forked = record { terms = c.fork.new.builder.terms; by_then = c.in_ok-edges.edges.by_then; by_other = c.in_ok-edges.edges.by_other } in
    let forked : (none : ℕ) → f ≡ fork w.terms (get_or x.come.items c.args.at none) w.at = λ none. fork_is q.terms w.terms c.fork.new.builder.terms c.blank-out.result.come (get_or x.come.items c.args.at none) c.in_ok-value.value w.at c.in_ok-edges.edges.by_then c.in_ok-edges.edges.by_other
    (ap (λ (r : ProblemData). r.terms) v.placed) (come none) v.at c.in_ok-edges.ensures.terms c.in_ok-edges.ensures.by_then c.in_ok-edges.ensures.by_other in
    record {
      goes = record {
        state = λ none. branch_state a (state_of p none x) (state_of c.fork.new.builder none x) (state_of c.part.new.builder none c.part.new.self) c.args.at c.args.sides.then_to c.args.sides.other c.blank-out.result.come c.in_ok-value.value e f (forked none) refl (c.in_ok-part.ensures.state none);
        required = c.in_ok-part.ensures.required ∙ c.in_ok-edges.ensures.required ∙ ap (λ (r : ProblemData). r.required) v.placed;
        vars = c.in_ok-part.ensures.vars;
        come = c.in_ok-part.ensures.come;
      };
      out = branch_out a (state_of p a.zero_term x) c.args.at c.args.sides.then_to c.args.sides.other c.in_ok-value.value e f c.blank-out.result c.blank-out.ensures v.at (forked a.zero_term);
    }
