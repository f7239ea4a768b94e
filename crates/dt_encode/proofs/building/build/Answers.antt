use Rattle.std.proofs.Common.{map, ap, ◌∙◌}
use Rattle.dt_model.specs.Accepted.{accepted_data}
use Rattle.dt_build.specs.Building.{of_choices}
use Rattle.dt_encode.proofs.Whole.{started, finished}
use Rattle.dt_encode.proofs.building.build.Goals as goal

pub build_accesses-requires : goal.build_accesses-requires
build_accesses-requires c = record {
  start = started (accepted_data c.args.model.now) c.args.requests.now c.in_ok-builder.builder c.number.new.self c.number-2.new.self
      (c.in_ok-builder.ensures ∙ ap of_choices (c.as_slice.ensures.value ∙ c.in_ok-widths.ensures.widths)) c.in_ok-_zero.ensures.placed c.in_ok-_one.ensures.placed;
}

pub returns : goal.returns
returns c = record {
  problem =
      c.finish.ensures
      ∙ c.in_ok-require_claims.ensures
      ∙ finished (accepted_data c.args.model.now) c.args.requests.now c.build_accesses.new.builder (map (λ v. v.items) c.as_slice-2.result.now) c.in_ok-outs.ensures.problem (ap (map (λ v. v.items)) c.as_slice-2.ensures.value ∙ c.in_ok-outs.ensures.outs);
  outs = c.in_ok-outs.ensures.outs;
}
