use Rattle.std.proofs.Common.{◌≡◌, ℕ, get_or, ap, ◌∙◌, length}
use Rattle.std.proofs.lemmas.List.{get_or_default}
use Rattle.dt_model.specs.ModelData.{tree_of}
use Rattle.dt_terms.specs.Problem.{ProblemData}
use Rattle.dt_table.specs.declared.out.Out.{Out}
use Rattle.dt_table.specs.Passing.{Forked, fork, is_cell}
use Rattle.dt_forms.specs.Forms.{form_placed}
use Rattle.dt_table.specs.Expressions.{form_of}
use Rattle.dt_unroll.specs.declared.front.Front.{Front}
use Rattle.dt_unroll.specs.Fronts.{access_data, named_of, state_of}
use Rattle.dt_unroll.proofs.Steps.{is_placed, fork_is, read_state, read_out, bumped}
use Rattle.dt_unroll.proofs.node.pass_read.Goals as goal

pub returns : goal.returns
returns c =
    let a = access_data c.args.frame.now in
    let p = c.args.builder.now in
    let q = c.place_expression.new.builder in
    let x = c.args.front.now in
    let e = tree_of c.args.cell.now in
    let n = c.args.at in
    let v = is_placed p q c.args.frame.now.places c.as_slice.result.now x.vars.items e c.in_ok-value.value c.as_slice.ensures.value c.in_ok-value.ensures.at c.in_ok-value.ensures.placed in
    let w = form_placed p.terms (form_of (named_of c.args.frame.now.places x.vars.items) e) in
    let m = form_placed w.terms (is_cell a w.at) in
    let terms = ap (λ (r : ProblemData). r.terms) v.placed in
    let made : c.in_ok-made.made ≡ m.at = c.in_ok-made.ensures.at ∙ ap (λ ts. (form_placed ts (is_cell a c.in_ok-value.value)).at) terms ∙ ap (λ (k : ℕ). (form_placed w.terms (is_cell a k)).at) v.at in
    let cell : c.is_cell.new.builder.terms ≡ m.terms = ap (λ (r : ProblemData). r.terms) c.in_ok-made.ensures.placed ∙ ap (λ ts. (form_placed ts (is_cell a c.in_ok-value.value)).terms) terms ∙ ap (λ (k : ℕ). (form_placed w.terms (is_cell a k)).terms) v.at in
    let come : (none : ℕ) → c.blank-out.result.come ≡ get_or x.come.items n none = λ none. ap (λ (o : Out). o.come) c.blank-out.ensures ∙ get_or_default x.come.items n a.zero_term none c.requires.there in
    let f : Forked = record { terms = c.fork.new.builder.terms; by_then = c.in_ok-edges.edges.by_then; by_other = c.in_ok-edges.edges.by_other } in
    let forked : (none : ℕ) → f ≡ fork m.terms (get_or x.come.items n none) m.at = λ none. fork_is c.is_cell.new.builder.terms m.terms c.fork.new.builder.terms c.blank-out.result.come (get_or x.come.items n none) c.in_ok-made.made m.at c.in_ok-edges.edges.by_then c.in_ok-edges.edges.by_other
    cell (come none) made c.in_ok-edges.ensures.terms c.in_ok-edges.ensures.by_then c.in_ok-edges.ensures.by_other in
    record {
      goes = record {
        state = λ none. read_state a (state_of p none x) (state_of c.fork.new.builder none c.next_word.new.self) (state_of c.assign.new.builder none c.assign.new.self) (state_of c.part.new.builder none c.part.new.self) n c.args.var 0 c.args.sides.then_to c.args.sides.other c.in_ok-word.word e f (forked none)
            (bumped p c.fork.new.builder x c.next_word.new.self none c.in_ok-word.ensures.next) c.in_ok-word.ensures.word (c.in_ok-assign.ensures.state none) (c.in_ok-part.ensures.state none);
        required = c.in_ok-part.ensures.required ∙ c.in_ok-assign.ensures.required ∙ c.in_ok-edges.ensures.required ∙ ap (λ (r : ProblemData). r.required) c.in_ok-made.ensures.placed ∙ ap (λ (r : ProblemData). r.required) v.placed;
        vars = c.in_ok-part.ensures.vars ∙ c.in_ok-assign.ensures.vars ∙ ap (λ (y : Front). length y.vars.items) c.in_ok-word.ensures.next;
        come = c.in_ok-part.ensures.come ∙ c.in_ok-assign.ensures.come ∙ ap (λ (y : Front). length y.come.items) c.in_ok-word.ensures.next;
      };
      out = read_out a (state_of p a.zero_term x) n c.args.var 0 c.args.sides.then_to c.args.sides.other c.in_ok-value.value c.in_ok-word.word e f c.blank-out.result c.blank-out.ensures v.at (forked a.zero_term) c.in_ok-word.ensures.word;
    }
