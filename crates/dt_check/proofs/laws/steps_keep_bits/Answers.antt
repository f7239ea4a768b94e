use Rattle.std.proofs.Common.{◌≡◌, ◌<◌, length, false, sym, ap, ◌∙◌, subst, ⊎_elim, arith, get_or-set_same, get_or-set_other}
use Rattle.std.proofs.lemmas.Bool.{cases_eq}
use Rattle.dt_bits.specs.Bits.{width}
use Rattle.dt_domain.specs.Domain.{KnowsBit}
use Rattle.dt_box.specs.Cells.{cell_at}
use Rattle.dt_box.specs.Steps.{target, narrowed, after_step}
use Rattle.dt_box.proofs.Steps.{step_narrows}
use Rattle.dt_box.proofs.Knowledge.{step_keeps}
use Rattle.dt_check.proofs.laws.steps_keep_bits.Goals as goal

pub returns : goal.returns
returns g c = λ terms step cells t i v right h s e k.
    let D = g.row.D.Denot in
    let ops = g.D.Domain.ops in
    let laws = g.met.D.Domain.laws in
    let u = target terms step in
    let d = narrowed ops terms step cells in
    let n = step_narrows D ops laws terms right step cells h s in
    let l : u < length cells = omega (arith, h.count, n.within) in
    ⊎_elim
    (λ (f : t ≡ u).
    step_keeps D ops laws terms right step cells t i v h s
    (subst (λ (x : D). ops.is_empty x ≡ false) (ap (cell_at ops (after_step ops terms step cells)) f ∙ get_or-set_same cells u d (ops.full (width 1)) l) e) k)
    (λ (f : t ≡ u → ⊥). subst (λ (x : D). KnowsBit ops x i v) (sym (get_or-set_other cells u t d (ops.full (width 1)) f)) k)
    (cases_eq t u)
