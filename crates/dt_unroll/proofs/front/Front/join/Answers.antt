use Rattle.std.proofs.Common.{ap, refl}
use Rattle.std.specs.Prelude.{slice_index_or, None}
use Rattle.std.proofs.Math.ListN.{length-set}
use Rattle.dt_terms.specs.Problem.{ProblemData}
use Rattle.dt_unroll.proofs.Steps.{join_state}
use Rattle.dt_unroll.proofs.front.Front.join.Goals as goal

pub returns : goal.returns
returns c =
    let x = c.args.self.now in
    record {
      state = λ none. join_state c.args.builder.now.terms c.place.new.self.terms (λ v. slice_index_or x.vars.items v None) x.come.items x.word x.away c.args.to c.args.taken c.index-before.result.now c.in_ok-joined.joined none c.requires c.index-before.ensures c.in_ok-joined.ensures.at (ap (λ (p : ProblemData). p.terms) c.in_ok-joined.ensures.placed);
      required = ap (λ (p : ProblemData). p.required) c.in_ok-joined.ensures.placed;
      vars = refl;
      come = length-set x.come.items c.args.to c.in_ok-joined.joined;
    }
