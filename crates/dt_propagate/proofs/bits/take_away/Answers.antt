use Rattle.std.proofs.Common.{◌≡◌, ℕ, ◌+◌, ◌-◌, ◌*◌, ◌/◌, ◌%◌, ◌^◌, ◌∷◌, List, length, get_or, set, refl, sym, ap, ◌∙◌, subst, w64}
use Rattle.std.specs.Int.{bit_not}
use lib.Bits.{bit_and}
use Rattle.dt_propagate.specs.Marks.{is_marked}
use Rattle.dt_propagate.proofs.Marking.{unmark_is}
use Rattle.std.proofs.lemmas.List.{get_or_default}
use Rattle.dt_propagate.proofs.bits.take_away.Goals as goal

pub returns-clause-marks : goal.returns-clause-marks
returns-clause-marks c =
    let words = c.args.words.now.items in
    let at = c.args.at in
    unmark_is words at (bit_and c.index_mut-word.result.now (18446744073709551615 - 1 * 2 ^ (at % 64) % 18446744073709551616)) c.requires (ap (λ w. bit_and w (bit_not w64 (1 * 2 ^ (at % 64) % 2 ^ 64))) (c.index_mut-word.ensures.value ∙ get_or_default words (at / 64) c.index_mut-word.result.now 0 c.requires))
