use Rattle.std.proofs.Common.{◌≡◌, ◌-◌, Some, sym, ap, ◌∙◌, arith}
use Rattle.dt_bits.specs.Memory.{word_of}
use Rattle.dt_manual.specs.declared.access.ManualEnd.TheVariants.{Page, Fault}
use Rattle.dt_manual.specs.Entry.{fails, pointer, leaf, led}
use Rattle.dt_manual.specs.Levels.{single, direct, levels_by}
use Rattle.dt_manual.specs.Sv39.{sv39_stage, index, end_of}
use Rattle.dt_manual.specs.Verdicts.{verdict_of}
use Rattle.dt_manual.proofs.Steps.{levels_verdict}
use Rattle.dt_manual.proofs.walking.+from_level.Goals as goal

pub returns-in-Fails : goal.returns-in-Fails
returns-in-Fails t c =
    let word : word_of c.args.memory.now c.from.result ≡ Some c.in-Some.word = cc in
    ap Fault c.page_code-in-Fails.ensures ∙ sym (levels_verdict c.args.access.kind (sv39_stage c.args.setting.sum c.args.setting.mxr c.args.access) c.args.memory.now c.args.access.va (index c.args.access.va) c.args.left (c.args.left - 1) c.from.result c.args.table c.in-Some.word fails (omega arith) (grind arith) word (sym c.verdict.ensures ∙ ap verdict_of c.in-Fails.is))

pub returns-in-Pointer : goal.returns-in-Pointer
returns-in-Pointer t c =
    let word : word_of c.args.memory.now c.from.result ≡ Some c.in-Some.word = cc in
    c.from_level.ensures
    ∙ ap (λ n. end_of c.args.access.kind (levels_by single (sv39_stage c.args.setting.sum c.args.setting.mxr c.args.access) (direct c.args.memory.now) c.args.access.va (index c.args.access.va) (c.args.left - 1) n).end) c.table.ensures
    ∙ sym (levels_verdict c.args.access.kind (sv39_stage c.args.setting.sum c.args.setting.mxr c.args.access) c.args.memory.now c.args.access.va (index c.args.access.va) c.args.left (c.args.left - 1) c.from.result c.args.table c.in-Some.word pointer (omega arith) (grind arith) word (sym c.verdict.ensures ∙ ap verdict_of c.in-Pointer.is))

pub returns-in-Leaf : goal.returns-in-Leaf
returns-in-Leaf t c =
    let word : word_of c.args.memory.now c.from.result ≡ Some c.in-Some.word = cc in
    ap (λ n. Page n c.page.result) c.led.ensures
    ∙ ap (λ n. Page (led 9 (c.args.left - 1) c.in-Some.word c.args.access.va) n) c.page.ensures
    ∙ sym (levels_verdict c.args.access.kind (sv39_stage c.args.setting.sum c.args.setting.mxr c.args.access) c.args.memory.now c.args.access.va (index c.args.access.va) c.args.left (c.args.left - 1) c.from.result c.args.table c.in-Some.word leaf (omega arith) (grind arith) word (sym c.verdict.ensures ∙ ap verdict_of c.in-Leaf.is))
