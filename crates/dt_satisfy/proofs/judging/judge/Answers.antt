use Rattle.std.proofs.Common.{◌≡◌, ◌<◌, length, ap, ◌∙◌, arith, subst}
use Rattle.std.specs.Prelude.{IfSome, ℕ, position, not, Option}
use Rattle.dt_model.specs.Accepted.{accepted_data}
use Rattle.dt_satisfy.specs.Claims.{claims}
use Rattle.dt_satisfy.specs.Satisfies.{verdict_of}
use Rattle.dt_satisfy.proofs.Counts.{few_claims}
use Rattle.dt_satisfy.proofs.Verdicts.{satisfies_all, all_satisfy}
use Rattle.dt_satisfy.proofs.judging.judge.Goals as goal

pub verdict-requires : goal.verdict-requires
verdict-requires c x e =
    let within : x < length c.as_slice.result.now = subst (λ (o : Option ℕ). IfSome o (λ k. k < length c.as_slice.result.now)) e c.first_broken-first.ensures.within in
    let same : length c.as_slice.result.now ≡ length (claims (accepted_data c.args.model.now) c.args.requests.now c.args.image.now) = ap length (c.as_slice.ensures.value ∙ c.in_ok-claims.ensures) in
    omega (arith, few_claims (accepted_data c.args.model.now) c.args.requests.now c.args.image.now c.args.model.now.accepted c.requires.list c.requires.matches, within, same)

pub returns-clause-satisfies : goal.returns-clause-satisfies
returns-clause-satisfies c =
    let xs = claims (accepted_data c.args.model.now) c.args.requests.now c.args.image.now in
    let v : c.verdict.result ≡ verdict_of (position not xs) = c.verdict.ensures ∙ ap verdict_of (c.first_broken-first.ensures.value ∙ ap (position not) (c.as_slice.ensures.value ∙ c.in_ok-claims.ensures)) in (
      λ e. record { image = c.requires.image; matches = c.requires.matches; claims = satisfies_all xs c.verdict.result v e },
      λ s. all_satisfy xs c.verdict.result v s.claims,
    )
