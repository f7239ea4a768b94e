use Rattle.std.proofs.Common.{◌≡◌, ℕ, get_or, ap, ◌∙◌}
use Rattle.std.proofs.lemmas.List.{get_or_default}
use Rattle.dt_model.specs.ModelData.{tree_of}
use Rattle.dt_terms.specs.Problem.{ProblemData}
use Rattle.dt_table.specs.declared.out.Out.{Out}
use Rattle.dt_unroll.specs.Fronts.{access_data, state_of}
use Rattle.dt_unroll.proofs.Steps.{is_placed, bind_state, bind_out}
use Rattle.dt_unroll.proofs.node.pass_let.Goals as goal

pub returns : goal.returns
returns c =
    let a = access_data c.args.frame.now in
    let p = c.args.builder.now in
    let q = c.place_expression.new.builder in
    let x = c.args.front.now in
    let v = is_placed p q c.args.frame.now.places c.as_slice.result.now x.vars.items (tree_of c.args.value.now) c.in_ok-value.value c.as_slice.ensures.value c.in_ok-value.ensures.at c.in_ok-value.ensures.placed in
    let come : (none : ℕ) → c.blank-out.result.come ≡ get_or x.come.items c.args.at none = λ none. ap (λ (o : Out). o.come) c.blank-out.ensures ∙ get_or_default x.come.items c.args.at a.zero_term none c.requires.there in
    record {
      goes = record {
        state = λ none. bind_state a (state_of p none x) (state_of q none x) (state_of c.assign.new.builder none c.assign.new.self) (state_of c.join.new.builder none c.join.new.self) c.args.at c.args.var c.args.next c.blank-out.result.come c.in_ok-value.value (tree_of c.args.value.now)
            (ap (λ (r : ProblemData). state_of r none x) v.placed) (come none) v.at (c.in_ok-assign.ensures.state none) (c.in_ok-join.ensures.state none);
        required = c.in_ok-join.ensures.required ∙ c.in_ok-assign.ensures.required ∙ ap (λ (r : ProblemData). r.required) v.placed;
        vars = c.in_ok-join.ensures.vars ∙ c.in_ok-assign.ensures.vars;
        come = c.in_ok-join.ensures.come ∙ c.in_ok-assign.ensures.come;
      };
      out = bind_out a (state_of p a.zero_term x) c.args.at c.args.var c.args.next c.in_ok-value.value (tree_of c.args.value.now) c.blank-out.result c.blank-out.ensures v.at;
    }
