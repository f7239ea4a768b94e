use Rattle.std.proofs.Common.{◌≡◌, ◌<◌, List, map, get_or, length, refl, ap, ◌∙◌, subst}
use Rattle.std.proofs.lemmas.List.{take_all}
use Rattle.dt_lemmas.proofs.Lists.{each_at, one_mapped}
use Rattle.dt_model.specs.Accepted.{accepted_data}
use Rattle.dt_model.specs.Values.{FitNames}
use Rattle.dt_walk.specs.Walkers.{run_data, walker_data}
use Rattle.dt_image.specs.declared.image.ImageAccess.{ImageAccess}
use Rattle.dt_satisfy.specs.Claims.{run_of}
use Rattle.dt_satisfy.proofs.Places.{registers_at, run_made}
use Rattle.dt_satisfy.proofs.runs.all_runs.Goals as goal

within : (c : goal.In_ok-push) → c.loop-access.access-index < length c.args.image.now.accesses
within c = subst (λ (xs : List ImageAccess). c.loop-access.access-index < length xs) c.as_slice-accesses.ensures c.loop-access-test.true

context : (c : goal.In_ok-push) → c.access-item.result.context < length c.args.image.now.contexts
context c = (each_at (λ (a : ImageAccess). (a.context < length c.args.image.now.contexts) × FitNames (accepted_data c.args.model.now).inputs a.inputs) c.args.image.now.accesses c.loop-access.access-index c.access-item.result c.requires.accesses (within c) (c.access-item.is ∙ ap (λ (xs : List ImageAccess). get_or xs c.loop-access.access-index c.access-item.result) c.as_slice-accesses.ensures)).0

run : (c : goal.In_ok-push) → run_data c.walk-run.result.now ≡ run_of (accepted_data c.args.model.now) c.args.image.now c.access-item.result
run c = run_made (accepted_data c.args.model.now) (walker_data c.loop-access.walker) c.args.image.now c.access-item.result c.as_slice-regs.result.now c.as_slice.result.now c.args.image.now.memory _ c.walk-run.ensures.run c.loop-access.invariant.walker
    (registers_at c.args.image.now c.as_slice-contexts.result.now c.access-item.result c.as_slice-regs.result.now c.index-contexts-access.result c.as_slice-contexts.ensures (context c) c.as_slice-regs.ensures c.index-contexts-access.is)
    c.as_slice.ensures refl

pub loop-access-preserved : goal.loop-access-preserved
loop-access-preserved c =
    let d = accepted_data c.args.model.now in
    record {
      walker = c.walk-run.follows.holds-at-none ∙ c.loop-access.invariant.walker;
      runs = ap (map run_data) c.in_ok-push.ensures.items ∙ one_mapped run_data (run_of d c.args.image.now) c.loop-access.runs.items c.as_slice-accesses.result.now c.loop-access.access-index c.in_ok-copy.field-0 c.access-item.result c.loop-access-test.true c.access-item.is (c.in_ok-copy.ensures ∙ run c) c.loop-access.invariant.runs;
    }

pub returns : goal.returns
returns c =
    let f = run_of (accepted_data c.args.model.now) c.args.image.now in
    c.loop-access.invariant.runs ∙ ap (map f) (take_all c.loop-access.access-index c.as_slice-accesses.result.now c.loop-access-test.false ∙ c.as_slice-accesses.ensures)
