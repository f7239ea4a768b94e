use Rattle.std.proofs.Common.{◌≡◌, ℕ, ◌+◌, ◌<◌, List, length, drop, reverse, sym, ap, ◌∙◌, subst, arith}
use Rattle.dt_check.specs.declared.checker.Finding.TheVariants.{Passed, Ended, Refused}
use Rattle.dt_check.specs.Reading.{Reading, after_line, end_verdict, at_first, verdict_of}
use Rattle.dt_check.specs.Waiting.{waiting}
use Rattle.dt_check.specs.Checking.{state_of, reading_at, IsFound}
use Rattle.dt_check.proofs.Loop.{Owed, owed_none, owed_past, owed_next, owed_begun, verdict_begun, line_passed, line_refused, line_ended}
use Rattle.dt_check.proofs.Trying.{trial_begun}
use Rattle.dt_check.proofs.check.read_items.Goals as goal

pub loop-at-init : goal.loop-at-init
loop-at-init g c =
    let D = g.row.D.Denot in
    let ops = g.D.Domain.ops in
    let p = c.args.problem.now in
    let log = c.args.log.now in
    let s = state_of {D = D} c.in_ok-checker.checker in
    let r : reading_at ops s c.new-tries.result.items ≡ at_first ops p = ap (reading_at ops s) c.new-tries.ensures.items ∙ c.in_ok-checker.ensures.reading in
    record {
      verdict = verdict_begun D ops p log.claim log.lines (reading_at ops s c.new-tries.result.items) r;
      owed = owed_begun D ops p log.claim log.lines (reading_at ops s c.new-tries.result.items) r log.tree;
      state = c.in_ok-checker.ensures.state log.claim;
      trial = trial_begun D ops p.terms s.cells s.trail c.in_ok-trial.trial c.in_ok-trial.ensures;
      splits = omega (arith, c.in_ok-checker.ensures.splits);
    }

pub loop-at-preserved : goal.loop-at-preserved
loop-at-preserved g c =
    let D = g.row.D.Denot in
    let ops = g.D.Domain.ops in
    let p = c.args.problem.now in
    let log = c.args.log.now in
    let s = state_of {D = D} c.loop-at.checker in
    let tries = c.loop-at.tries.items in
    let line = c.at-line.result in
    let new = state_of {D = D} c.read_line.new.self in
    let l : c.loop-at.at < length log.lines = omega (arith, c.loop-at-test.true, c.len-at-end.ensures.count) in
    let found = subst (λ f. IsFound ops p log.claim line c.deref.result.now s f new) c.in-Passed.is c.in_ok-read_line.ensures.found in
    let here = subst (λ (ts : List (ℕ × ℕ)). IsFound ops p log.claim line ts s Passed new) c.deref.ensures.value found in
    let next = ap (reading_at ops new) c.in_ok-note_try.ensures ∙ here.1 in
    record {
      verdict = line_passed D ops p log.claim log.lines c.loop-at.at line (reading_at ops s tries) (reading_at ops new c.note_try.new.tries.items) (verdict_of ops p log.claim log.lines) l c.at-line.ensures c.loop-at.invariant.verdict here.0 next;
      owed = subst (λ (r : Reading D). Owed (length r.stack) (drop (c.loop-at.at + 1) log.lines)) (sym next)
          (owed_next D ops p.terms log.lines c.loop-at.at line s.cells (waiting ops s.cells s.trail (reverse s.pending)) tries s.splits s.opened l c.at-line.ensures c.loop-at.invariant.owed);
      state = here.2;
      trial = c.in_ok-read_line.ensures.trial;
      splits = omega (arith, c.loop-at.invariant.splits, c.in_ok-read_line.ensures.splits);
    }

pub returns-in-Ended : goal.returns-in-Ended
returns-in-Ended g c =
    let D = g.row.D.Denot in
    let ops = g.D.Domain.ops in
    let p = c.args.problem.now in
    let log = c.args.log.now in
    let s = state_of {D = D} c.loop-at.checker in
    let tries = c.loop-at.tries.items in
    let line = c.at-line.result in
    let new = state_of {D = D} c.read_line.new.self in
    let l : c.loop-at.at < length log.lines = omega (arith, c.loop-at-test.true, c.len-at-end.ensures.count) in
    let found = subst (λ f. IsFound ops p log.claim line c.deref.result.now s f new) c.in-Ended.is c.in_ok-read_line.ensures.found in
    let here = subst (λ (ts : List (ℕ × ℕ)). IsFound ops p log.claim line ts s Ended new) c.deref.ensures.value found in
    let owed = owed_next D ops p.terms log.lines c.loop-at.at line s.cells (waiting ops s.cells s.trail (reverse s.pending)) tries s.splits s.opened l c.at-line.ensures c.loop-at.invariant.owed in
    let none = owed_none (drop (c.loop-at.at + 1) log.lines) (subst (λ (stack : List (List D)). Owed (length stack) (drop (c.loop-at.at + 1) log.lines)) here.1 owed) in
    c.end_verdict.ensures
    ∙ ap (λ n. end_verdict log.claim (c.loop-at.at + 1) n c.is_opened.result) (c.splits.ensures ∙ here.2)
    ∙ ap (end_verdict log.claim (c.loop-at.at + 1) (after_line ops p.terms line (reading_at ops s tries)).splits) (c.is_opened.ensures ∙ here.3)
    ∙ line_ended D ops p log.claim log.lines c.loop-at.at line (reading_at ops s tries) (verdict_of ops p log.claim log.lines) l c.at-line.ensures c.loop-at.invariant.verdict here.0 none

pub returns-in-Refused : goal.returns-in-Refused
returns-in-Refused g c =
    let D = g.row.D.Denot in
    let ops = g.D.Domain.ops in
    let p = c.args.problem.now in
    let log = c.args.log.now in
    let s = state_of {D = D} c.loop-at.checker in
    let tries = c.loop-at.tries.items in
    let line = c.at-line.result in
    let new = state_of {D = D} c.read_line.new.self in
    let l : c.loop-at.at < length log.lines = omega (arith, c.loop-at-test.true, c.len-at-end.ensures.count) in
    let found = subst (λ f. IsFound ops p log.claim line c.deref.result.now s f new) c.in-Refused.is c.in_ok-read_line.ensures.found in
    let here = subst (λ (ts : List (ℕ × ℕ)). IsFound ops p log.claim line ts s (Refused c.in-Refused.cause) new) c.deref.ensures.value found in
    line_refused D ops p log.claim log.lines c.loop-at.at line (reading_at ops s tries) (verdict_of ops p log.claim log.lines) c.in-Refused.cause l c.at-line.ensures c.loop-at.invariant.verdict here

pub unreachable-requires : goal.unreachable-requires
unreachable-requires g c =
    let D = g.row.D.Denot in
    let ops = g.D.Domain.ops in
    let log = c.args.log.now in
    let s = state_of {D = D} c.loop-at.checker in
    owed_past (length (waiting ops s.cells s.trail (reverse s.pending))) log.lines c.loop-at.at (omega (arith, c.loop-at-test.false, c.len-at-end.ensures.count)) c.loop-at.invariant.owed
