use Rattle.std.proofs.Common.{map}
use Rattle.dt_table.specs.Outs.{no_out}
use Rattle.dt_table.specs.Spots.{page_spots}
use Rattle.dt_claims.specs.Steps.{page_spot}
use Rattle.dt_claims.specs.Views.{spot}
use Rattle.dt_claims.proofs.Steps.{page_spots_first, page_spots_none, spots_grown, outs_end}
use Rattle.dt_claims.proofs.spots.push_pages_among.Goals as goal

pub loop-n-preserved : goal.loop-n-preserved
loop-n-preserved c =
    let ws = c.args.ways.now in
    let k = c.args.access in
    let found = c.in-Some.ensures.lookup in
    spots_grown (page_spots ws k) (λ n p o. page_spot ws k n p o) (page_spots_first ws k) (map spot c.loop-n.spots.items) (map spot c.push_page.new.spots.items) _ c.args.nodes.now c.args.outs.now c.loop-n.n c.in-Some.node.now no_out found.3.0 found.1 c.loop-n-test.true c.in_ok-push_page.ensures c.loop-n.invariant

pub returns : goal.returns
returns c = outs_end (page_spots c.args.ways.now c.args.access) (page_spots_none c.args.ways.now c.args.access) (map spot c.loop-n.spots.items) _ c.args.nodes.now c.args.outs.now c.loop-n.n c.loop-n-test.false c.loop-n.invariant
