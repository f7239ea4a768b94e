use Rattle.dt_stage.proofs.Appends.{five_nodes}
use Rattle.dt_sv39x4.proofs.choice.results.Goals as goal

pub returns : goal.returns
returns c = five_nodes _ _ _ _ _ _ _ _ _ _ _ c.in_ok-vec.ensures.items c.result-dbare.ensures c.result-d30.ensures c.result-d21.ensures c.result-d16.ensures c.result-d12.ensures
