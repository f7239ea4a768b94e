use Rattle.std.proofs.Common.{◌+◌, ◌-◌, ◌*◌, sym, ap, ◌∙◌, arith}
use Rattle.dt_manual.specs.Entry.{fails, pointer, leaf, led}
use Rattle.dt_manual.specs.Levels.{of_final, reached, direct, levels_by}
use Rattle.dt_manual.specs.StageEnds.{outcome_of}
use Rattle.dt_manual.specs.TwoStages.{g_stage, g_index}
use Rattle.dt_manual.specs.Verdicts.{verdict_of}
use Rattle.dt_manual.proofs.Fetches.{level_judged}
use Rattle.dt_manual.proofs.two_stages.+guest_from_level.Goals as goal

pub returns-in-Fails : goal.returns-in-Fails
returns-in-Fails t c =
    sym (level_judged of_final (g_stage c.args.setting c.args.purpose) (direct c.args.memory.now) c.args.x (g_index c.args.x) c.args.left (c.args.left - 1) (c.args.table + c.guest_index.result * 8) c.args.table c.in-Got.bits fails (omega arith) (grind arith) (sym c.table_word.ensures ∙ ap outcome_of c.in-Got.is) (sym c.guest_verdict.ensures ∙ ap verdict_of c.in-Fails.is))

pub returns-in-Pointer : goal.returns-in-Pointer
returns-in-Pointer t c =
    c.guest_from_level.ensures
    ∙ ap (λ n. (levels_by of_final (g_stage c.args.setting c.args.purpose) (direct c.args.memory.now) c.args.x (g_index c.args.x) (c.args.left - 1) n).end) c.table.ensures
    ∙ sym (level_judged of_final (g_stage c.args.setting c.args.purpose) (direct c.args.memory.now) c.args.x (g_index c.args.x) c.args.left (c.args.left - 1) (c.args.table + c.guest_index.result * 8) c.args.table c.in-Got.bits pointer (omega arith) (grind arith) (sym c.table_word.ensures ∙ ap outcome_of c.in-Got.is) (sym c.guest_verdict.ensures ∙ ap verdict_of c.in-Pointer.is))

pub returns-in-Leaf : goal.returns-in-Leaf
returns-in-Leaf t c =
    ap (λ n. reached n c.page.result) c.led.ensures
    ∙ ap (λ n. reached (led 9 (c.args.left - 1) c.in-Got.bits c.args.x) n) c.page.ensures
    ∙ sym (level_judged of_final (g_stage c.args.setting c.args.purpose) (direct c.args.memory.now) c.args.x (g_index c.args.x) c.args.left (c.args.left - 1) (c.args.table + c.guest_index.result * 8) c.args.table c.in-Got.bits leaf (omega arith) (grind arith) (sym c.table_word.ensures ∙ ap outcome_of c.in-Got.is) (sym c.guest_verdict.ensures ∙ ap verdict_of c.in-Leaf.is))
