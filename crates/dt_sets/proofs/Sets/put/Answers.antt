use Rattle.std.proofs.Common.{refl}
use Rattle.dt_sets.proofs.Writes.{put_is}
use Rattle.dt_sets.proofs.Sets.put.Goals as goal

pub returns : goal.returns
returns c = put_is c.args.self.now _ c.args.place c.args.number c.requires.form c.requires.place refl refl refl refl
