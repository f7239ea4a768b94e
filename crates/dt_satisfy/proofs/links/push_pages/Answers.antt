use Rattle.std.specs.Option.{option_to_list}
use Rattle.dt_lemmas.proofs.Lists.{all_flat}
use Rattle.dt_walk.specs.Walks.{RunData}
use Rattle.dt_walk.specs.Walkers.{run_data}
use Rattle.dt_satisfy.specs.Links.{page_of}
use Rattle.dt_satisfy.proofs.links.push_pages.Goals as goal

pub returns : goal.returns
returns c = all_flat (λ (r : RunData). option_to_list (page_of r.end)) run_data c.args.pages.now.items c.loop-run.pages.items c.args.runs.now c.loop-run.run-index c.loop-run-test.false c.loop-run.invariant
