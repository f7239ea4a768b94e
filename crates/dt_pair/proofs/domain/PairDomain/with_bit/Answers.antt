use Rattle.std.proofs.Common.{refl}
use Rattle.dt_pair.specs.Laws.Calls.{bit_parts}
use Rattle.dt_pair.proofs.Normals.{parts_same}
use Rattle.dt_pair.proofs.domain.PairDomain.with_bit.Goals as goal

pub normal-requires : goal.normal-requires
normal-requires c = parts_same _ _ _ c.args.self.now.range c.with_bit.ensures refl (bit_parts c.args.self.now c.args.bit c.args.value c.requires.self_is c.requires.within)
