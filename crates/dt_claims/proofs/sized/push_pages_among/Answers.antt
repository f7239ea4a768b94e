use Rattle.std.proofs.Common.{map, refl}
use Rattle.dt_table.specs.Apart.{pages_at}
use Rattle.dt_claims.specs.Steps.{page_at}
use Rattle.dt_claims.specs.Views.{sized}
use Rattle.dt_claims.proofs.Steps.{node_grown, none_left, nothing_left, pages_first, pages_none}
use Rattle.dt_claims.proofs.sized.push_pages_among.Goals as goal

pub loop-node-preserved : goal.loop-node-preserved
loop-node-preserved c =
    node_grown pages_at page_at pages_first (map sized c.loop-node.pages.items) (map sized c.push_page.new.pages.items) _ c.in-Some.node.now c.in-Some.out.now _ _ _ _
    c.in-Some.ensures.steps.0 c.in-Some.ensures.steps.1 c.in_ok-push_page.ensures c.loop-node.invariant

pub returns : goal.returns
returns c =
    nothing_left (map sized c.loop-node.pages.items) _ _
    (none_left pages_at c.loop-node.node-iterator.a.rest.now c.loop-node.node-iterator.b.rest.now c.in-None.ensures.steps (λ w. w.1.0) (λ w. w.1.0) pages_none refl)
    c.loop-node.invariant
