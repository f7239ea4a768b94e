use Rattle.std.proofs.Common.{◌≡◌, ◌+◌, ◌-◌, ◌*◌, ◌++◌, List, ℕ, length, ap, ◌∙◌, sym}
use Rattle.dt_model.specs.ModelData.{ModelData}
use Rattle.dt_model.specs.Accepted.{accepted_data}
use Rattle.dt_table.specs.Images.{bits_from, contexts_told}
use Rattle.dt_encode.specs.Telling.{valued}
use Rattle.dt_encode.proofs.Valued.{contexts_more}
use Rattle.dt_encode.proofs.names.contexts_told.Goals as goal

pub loop-c-preserved : goal.loop-c-preserved
loop-c-preserved c =
    let v = valued c.args.values.now in
    let d = accepted_data c.args.model.now in
    let i = c.loop-c.c in
    let same : c.as_slice-regs.result.now ≡ d.regs = c.as_slice-regs.ensures ∙ ap (λ (m : ModelData). m.regs) c.model.ensures.same in
    let regs : c.in_ok-name_values.field-0 ≡ bits_from v (i * length d.regs) d.regs =
    c.in_ok-name_values.ensures ∙ ap (λ (n : ℕ). bits_from v (i * n) c.as_slice-regs.result.now) (ap length same) ∙ ap (bits_from v (i * length d.regs)) same in
    c.loop-c.invariant
    ∙ contexts_more v d c.args.count i c.loop-c.contexts c.in_ok-name_values.field-0 c.loop-c-test.true regs
    ∙ ap (λ (l : List (List ℕ)). l ++ contexts_told v d (c.args.count - (i + 1)) (i + 1)) (sym c.in_ok-push.ensures.ok)
