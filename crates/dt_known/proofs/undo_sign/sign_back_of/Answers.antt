use Rattle.std.proofs.Common.{◌-◌, ◌*◌, ◌^◌, ◌%◌, refl}
use Rattle.dt_known.proofs.SignWords.{sign_back_words}
use Rattle.dt_known.proofs.undo_sign.sign_back_of.Goals as goal

pub returns : goal.returns
returns c =
    let h = sign_back_words c.args.outcome.now c.args.width (1 * 2 ^ (c.args.width.0 - 1) % 2 ^ 128) c.is_one_from-one.result c.is_zero_from-zero.result
    c.requires.outcome c.requires.width refl c.is_one_from-one.ensures c.is_zero_from-zero.ensures c.if-one-zero.false in
    cc
