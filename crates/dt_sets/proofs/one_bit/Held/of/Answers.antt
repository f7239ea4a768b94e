use Rattle.std.proofs.Common.{refl}
use Rattle.dt_sets.proofs.OneBits.{held_are}
use Rattle.dt_sets.proofs.one_bit.Held.of.Goals as goal

pub returns : goal.returns
returns c = held_are c.args.triple.now _ c.requires.triple c.requires.width refl refl
