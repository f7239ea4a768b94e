use Rattle.dt_box.proofs.Words.{more_words}
use Rattle.dt_box.proofs.change.knows_more.Goals as goal

pub returns : goal.returns
returns g c =
    rw (← c.known_mask.ensures, ← c.known_mask-2.ensures) (more_words c.known_mask.result c.known_mask-2.result c.known_mask.type_inv c.known_mask-2.type_inv)
