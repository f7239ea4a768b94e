use Rattle.std.proofs.Common.{◌+◌, ◌-◌, ◌*◌, sym, ap, ◌∙◌, arith}
use Rattle.dt_manual.specs.Entry.{fails, pointer, leaf, led}
use Rattle.dt_manual.specs.Levels.{vs, reached, stopped, levels_by}
use Rattle.dt_manual.specs.StageEnds.{cause_of, outcome_of}
use Rattle.dt_manual.specs.Sv39.{index}
use Rattle.dt_manual.specs.TwoStages.{vs_stage, vs_fetch}
use Rattle.dt_manual.specs.Verdicts.{verdict_of}
use Rattle.dt_manual.proofs.Fetches.{level_lost, level_judged, fetch_outcome}
use Rattle.dt_manual.proofs.two_stages.+virtual_from_level.Goals as goal

pub returns-in-Lost : goal.returns-in-Lost
returns-in-Lost t c =
    sym (level_lost vs (vs_stage c.args.setting c.args.access) (vs_fetch c.args.setting c.args.memory.now) c.args.access.va (index c.args.access.va) c.args.left (c.args.left - 1) (c.args.table + c.field.result * 8) c.args.table (stopped (cause_of c.in-Lost.cause)) (omega arith) (grind arith)
    (sym (fetch_outcome c.args.setting c.args.memory.now (c.args.left - 1) (c.args.table + c.field.result * 8)) ∙ sym c.guest_word.ensures ∙ ap outcome_of c.in-Lost.is))

pub returns-in-Fails : goal.returns-in-Fails
returns-in-Fails t c =
    sym (level_judged vs (vs_stage c.args.setting c.args.access) (vs_fetch c.args.setting c.args.memory.now) c.args.access.va (index c.args.access.va) c.args.left (c.args.left - 1) (c.args.table + c.field.result * 8) c.args.table c.in-Got.bits fails (omega arith) (grind arith)
    (sym (fetch_outcome c.args.setting c.args.memory.now (c.args.left - 1) (c.args.table + c.field.result * 8)) ∙ sym c.guest_word.ensures ∙ ap outcome_of c.in-Got.is)
    (sym c.virtual_verdict.ensures ∙ ap verdict_of c.in-Fails.is))

pub returns-in-Pointer : goal.returns-in-Pointer
returns-in-Pointer t c =
    c.virtual_from_level.ensures
    ∙ ap (λ n. (levels_by vs (vs_stage c.args.setting c.args.access) (vs_fetch c.args.setting c.args.memory.now) c.args.access.va (index c.args.access.va) (c.args.left - 1) n).end) c.table.ensures
    ∙ sym (level_judged vs (vs_stage c.args.setting c.args.access) (vs_fetch c.args.setting c.args.memory.now) c.args.access.va (index c.args.access.va) c.args.left (c.args.left - 1) (c.args.table + c.field.result * 8) c.args.table c.in-Got.bits pointer (omega arith) (grind arith)
    (sym (fetch_outcome c.args.setting c.args.memory.now (c.args.left - 1) (c.args.table + c.field.result * 8)) ∙ sym c.guest_word.ensures ∙ ap outcome_of c.in-Got.is)
    (sym c.virtual_verdict.ensures ∙ ap verdict_of c.in-Pointer.is))

pub returns-in-Leaf : goal.returns-in-Leaf
returns-in-Leaf t c =
    ap (λ n. reached n c.page.result) c.led.ensures
    ∙ ap (λ n. reached (led 9 (c.args.left - 1) c.in-Got.bits c.args.access.va) n) c.page.ensures
    ∙ sym (level_judged vs (vs_stage c.args.setting c.args.access) (vs_fetch c.args.setting c.args.memory.now) c.args.access.va (index c.args.access.va) c.args.left (c.args.left - 1) (c.args.table + c.field.result * 8) c.args.table c.in-Got.bits leaf (omega arith) (grind arith)
    (sym (fetch_outcome c.args.setting c.args.memory.now (c.args.left - 1) (c.args.table + c.field.result * 8)) ∙ sym c.guest_word.ensures ∙ ap outcome_of c.in-Got.is)
    (sym c.virtual_verdict.ensures ∙ ap verdict_of c.in-Leaf.is))
