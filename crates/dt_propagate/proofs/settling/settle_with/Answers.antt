use Rattle.std.proofs.Common.{◌≡◌, ℕ, ◌*◌, ◌+◌, ◌%◌, ◌<◌, true, length, List, [], refl, sym, ap, ◌∙◌, subst, arith}
use Rattle.dt_bits.specs.Bits.{bit}
use Rattle.dt_bits.proofs.BitLemmas.{bit_of_ones}
use Rattle.dt_propagate.proofs.Progress.{progress_none}
use Rattle.dt_propagate.proofs.Marked.{all_marked}
use Rattle.dt_propagate.proofs.settling.settle_with.Goals as goal

pub returns-in_err-marks-clause-logged : goal.returns-in_err-marks-clause-logged
returns-in_err-marks-clause-logged g c = (progress_none g.row.D.Denot g.D.Domain.ops c.args.problem.now.terms c.args.cells.now [] c.args.draft.now.lines c.requires.cells).logged

pub settle_marked-requires-clause-marked : goal.settle_marked-requires-clause-marked
settle_marked-requires-clause-marked g c =
    let n : c.len-count.result ≡ length c.args.problem.now.terms = c.len-count.ensures ∙ ap (λ p. length p.terms) c.problem.view_is in
    all_marked g.row.D.Denot g.D.Domain.ops c.args.problem.now.terms c.args.cells.now c.in_ok-marks.marks.bits.words.items (λ i l. c.in_ok-marks.ensures.words i (omega arith) ∙ bit_of_ones 64 (i % 64) (omega arith))
