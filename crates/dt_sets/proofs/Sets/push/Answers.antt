use Rattle.std.proofs.Common.{refl}
use Rattle.dt_sets.proofs.Writes.{push_is}
use Rattle.dt_sets.proofs.Sets.push.Goals as goal

pub returns : goal.returns
returns c = push_is c.args.self.now _ c.args.number c.requires.form c.requires.room refl refl refl refl
