use Rattle.std.proofs.Common.{◌≡◌, ◌+◌, ◌≤◌, length, sym, ◌∙◌, arith}
use Rattle.std.proofs.lemmas.Bool.{ne_eqb, eq-eqb}
use Rattle.dt_log.specs.Shapes.{shape}
use Rattle.dt_log.proofs.Awaiting.{opened_none, opened_some, ended, went_none, went_some, went_all, wrong_at, wrong_none}
use Rattle.dt_log.proofs.shaping.first_wrong.Goals as goal

pub returns-in-None-clause-first : goal.returns-in-None-clause-first
returns-in-None-clause-first c =
    let s = shape c.loop-i.awaited.trees c.loop-i.awaited.trying in
    let within = c.loop-i-test.true in
    let at = sym c.at.ensures in
    let lt : c.loop-i.i + 1 ≤ length c.args.lines.now = omega (arith, within, c.len-i-end.ensures.count) in
    let gone = went_none s c.args.lines.now c.loop-i.i c.at.result c.at.result (omega arith) at c.in-None.ensures.shape in
    wrong_at c.args.lines.now c.loop-i.i (sym c.loop-i.invariant.same ∙ opened_none s c.args.lines.now c.loop-i.i c.at.result c.at.result (omega arith) at c.in-None.ensures.shape) (omega (arith, gone, c.loop-i.invariant.gone))

pub loop-i-preserved : goal.loop-i-preserved
loop-i-preserved c =
    let s = shape c.loop-i.awaited.trees c.loop-i.awaited.trying in
    let t = shape c.in-Some.next.trees c.in-Some.next.trying in
    let lt : c.loop-i.i + 1 ≤ length c.args.lines.now = omega (arith, c.loop-i-test.true, c.len-i-end.ensures.count) in
    let at = sym c.at.ensures in
    let gone = went_some s t c.args.lines.now c.loop-i.i c.at.result c.at.result (omega arith) at c.in-Some.ensures.shape in
    record {
      same = sym (opened_some s t c.args.lines.now c.loop-i.i c.at.result c.at.result (omega arith) at c.in-Some.ensures.shape) ∙ c.loop-i.invariant.same;
      gone = omega (arith, gone, c.loop-i.invariant.gone);
      most = omega (arith, c.in-Some.ensures.most, c.loop-i.invariant.most);
    }

pub after-requires : goal.after-requires
after-requires c = omega (arith, c.loop-i.invariant.most, c.loop-i-test.true, c.len-i-end.ensures.few)

pub returns-then-awaited-eq0-clause-first : goal.returns-then-awaited-eq0-clause-first
returns-then-awaited-eq0-clause-first c =
    let past : length c.args.lines.now ≤ c.loop-i.i = omega (arith, c.loop-i-test.false, c.len-i-end.ensures.count) in
    let e = c.if-awaited-eq0.true in
    wrong_none c.args.lines.now (sym c.loop-i.invariant.same ∙ ended c.loop-i.awaited.trees c.loop-i.awaited.trying c.args.lines.now c.loop-i.i past ∙ eq-eqb c.loop-i.awaited.trees 0 e)

pub returns-else-awaited-eq0-clause-first : goal.returns-else-awaited-eq0-clause-first
returns-else-awaited-eq0-clause-first c =
    let past : length c.args.lines.now ≤ c.loop-i.i = omega (arith, c.loop-i-test.false, c.len-i-end.ensures.count) in
    let all : c.loop-i.i ≡ c.len.result = omega (arith, c.loop-i-test.false, c.loop-i.auto.i-end, c.len-i-end.ensures.count, c.len.ensures.count) in
    let gone = went_all (shape c.loop-i.awaited.trees c.loop-i.awaited.trying) c.args.lines.now c.loop-i.i past in
    wrong_at c.args.lines.now c.len.result (sym c.loop-i.invariant.same ∙ ended c.loop-i.awaited.trees c.loop-i.awaited.trying c.args.lines.now c.loop-i.i past ∙ ne_eqb c.loop-i.awaited.trees 0 c.if-awaited-eq0.false) (omega (arith, gone, c.loop-i.invariant.gone))
