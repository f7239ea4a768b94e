use Rattle.std.proofs.Common.{map}
use Rattle.dt_table.specs.Outs.{no_out}
use Rattle.dt_table.specs.Spots.{read_spots}
use Rattle.dt_claims.specs.Steps.{read_spot}
use Rattle.dt_claims.specs.Views.{spot}
use Rattle.dt_claims.proofs.Steps.{reads_first, reads_none, spots_grown, outs_end}
use Rattle.dt_claims.proofs.spots.push_reads_among.Goals as goal

pub loop-n-preserved : goal.loop-n-preserved
loop-n-preserved c =
    let ws = c.args.ways.now in
    let k = c.args.access in
    let found = c.in-Some.ensures.lookup in
    spots_grown (read_spots ws k) (λ n p o. read_spot ws k n p o) (reads_first ws k) (map spot c.loop-n.spots.items) (map spot c.push_read.new.spots.items) _ c.args.nodes.now c.args.outs.now c.loop-n.n c.in-Some.node.now no_out found.3.0 found.1 c.loop-n-test.true c.in_ok-push_read.ensures c.loop-n.invariant

pub returns : goal.returns
returns c = outs_end (read_spots c.args.ways.now c.args.access) (reads_none c.args.ways.now c.args.access) (map spot c.loop-n.spots.items) _ c.args.nodes.now c.args.outs.now c.loop-n.n c.loop-n-test.false c.loop-n.invariant
