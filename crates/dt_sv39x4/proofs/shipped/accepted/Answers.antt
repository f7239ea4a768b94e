use Rattle.dt_sv39x4.proofs.Acceptance.{certified_as}
use Rattle.dt_sv39x4.proofs.shipped.accepted.Goals as goal

pub certified-requires : goal.certified-requires
certified-requires c = certified_as _ c.requires
