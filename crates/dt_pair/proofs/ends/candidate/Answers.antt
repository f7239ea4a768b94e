use Rattle.std.proofs.Common.{◌/◌, ◌*◌, ◌^◌, ◌%◌, bit_and, bit_or, ap, ◌∙◌}
use Rattle.dt_pair.proofs.Words.{candidate_words}
use Rattle.dt_pair.proofs.ends.candidate.Goals as goal

pub returns : goal.returns
returns c = ap (λ n. bit_or (bit_or (c.args.lo / 2 ^ c.args.place) 1 * 2 ^ c.args.place % 2 ^ 128) (bit_and c.args.value n)) c.low_ones.ensures
    ∙ candidate_words c.args.value c.args.lo c.args.place c.requires.fits
