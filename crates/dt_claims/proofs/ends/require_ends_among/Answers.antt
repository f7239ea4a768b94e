use Rattle.std.proofs.Common.{refl}
use Rattle.dt_table.specs.Claims.{ends_only}
use Rattle.dt_claims.specs.Endings.{passes}
use Rattle.dt_claims.proofs.Steps.{none_left, none_required, ends_none}
use Rattle.dt_claims.proofs.ends.require_ends_among.Goals as goal

pub returns : goal.returns
returns c =
    none_required c.loop-node.builder _ _
    (none_left (ends_only (passes c.args.ending)) c.loop-node.node-iterator.a.rest.now c.loop-node.node-iterator.b.rest.now c.in-None.ensures.steps (λ w. w.1.0) (λ w. w.1.0) (ends_none (passes c.args.ending)) refl)
    c.loop-node.invariant
