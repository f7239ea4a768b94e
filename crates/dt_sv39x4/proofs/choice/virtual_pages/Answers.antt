use Rattle.dt_stage.proofs.Appends.{five_nodes}
use Rattle.dt_sv39x4.proofs.choice.virtual_pages.Goals as goal

pub returns : goal.returns
returns c = five_nodes _ _ _ _ _ _ _ _ _ _ _ c.in_ok-vec.ensures.items c.page_is-none.ensures c.page_is-page30.ensures c.page_is-page21.ensures c.page_is-page16.ensures c.page_is-page12.ensures
