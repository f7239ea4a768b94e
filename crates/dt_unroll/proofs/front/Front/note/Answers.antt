use Rattle.std.proofs.Common.{ap, refl}
use Rattle.std.specs.Prelude.{slice_index_or, None}
use Rattle.dt_terms.specs.Problem.{ProblemData}
use Rattle.dt_unroll.proofs.Steps.{note_state}
use Rattle.dt_unroll.proofs.front.Front.note.Goals as goal

pub returns : goal.returns
returns c =
    let x = c.args.self.now in
    record {
      state = λ none. note_state c.args.builder.now.terms c.place.new.self.terms (λ v. slice_index_or x.vars.items v None) x.come.items x.word x.away c.in_ok-self.field-0 c.args.node c.index.result.now none c.requires c.index.ensures c.in_ok-self.ensures.at (ap (λ (p : ProblemData). p.terms) c.in_ok-self.ensures.placed);
      required = ap (λ (p : ProblemData). p.required) c.in_ok-self.ensures.placed;
      vars = refl;
      come = refl;
    }
