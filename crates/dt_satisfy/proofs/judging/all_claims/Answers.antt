use Rattle.std.proofs.Common.{List, ◌∷◌, ◌++◌, map, ap, sym, ◌∙◌}
use Rattle.dt_model.specs.Accepted.{accepted_data}
use Rattle.dt_model.specs.Flow.{steps_of}
use Rattle.dt_walk.specs.declared.run.Run.{Run}
use Rattle.dt_walk.specs.Walkers.{run_data}
use Rattle.dt_walk.proofs.Views.{view_steps}
use Rattle.dt_satisfy.specs.Blocks.{are_apart, is_kept}
use Rattle.dt_satisfy.specs.Links.{pages_of, tables_of}
use Rattle.dt_satisfy.proofs.Joined.{joined}
use Rattle.dt_satisfy.proofs.judging.all_claims.Goals as goal

pub returns : goal.returns
returns c =
    let d = accepted_data c.args.model.now in
    let ps = steps_of c.as_slice-nodes.result.now in
    let kept = c.as_slice-kept.result.now in
    let linked = c.push_links.new.claims.items in
    joined d c.args.requests.now c.args.image.now ps (map run_data c.as_slice-2.result.now) c.as_slice-3.result.now kept c.new-claims.result.items c.push_context_claims.new.claims.items c.push_access_claims.new.claims.items c.push_demand_claims.new.claims.items linked c.push_memory_claims.new.claims.items
    c.new-claims.ensures.items c.in_ok-push_context_claims.ensures c.in_ok-push_access_claims.ensures c.in_ok-push_demand_claims.ensures c.in_ok-push_links.ensures
    (c.in_ok-push_memory_claims.ensures ∙ ap (λ (rs : List Run). linked ++ are_apart (pages_of (map run_data rs)) (tables_of ps (map run_data rs)) ∷ map (is_kept (pages_of (map run_data rs)) (tables_of ps (map run_data rs))) kept) (c.as_slice-4.ensures.value ∙ sym c.as_slice-2.ensures.value))
    (view_steps c.model.result.now d c.as_slice-nodes.result.now c.model.ensures.same c.as_slice-nodes.ensures)
    (ap (map run_data) c.as_slice-2.ensures.value ∙ c.in_ok-runs.ensures)
    c.as_slice-3.ensures
    c.as_slice-kept.ensures
