use Rattle.std.proofs.Common.{◌≡◌, ℕ, List, [], ◌∷◌, ◌++◌, length, map, replicate, true, sym, ap, ◌∙◌, subst, arith, refl}
use Rattle.dt_terms.specs.Problem.{IsProblem}
use Rattle.dt_log.specs.declared.line.Line.TheVariants.{Loose, Unvisited}
use Rattle.dt_log.specs.Trees.{try_line}
use Rattle.dt_check.specs.declared.pending.Pending.{Pending}
use Rattle.dt_check.proofs.Trying.{trial_kept}
use Rattle.dt_solve.specs.Searching.{IsRead}
use Rattle.dt_solve.proofs.Fails.{spent, splits_on, not_known, no_aim, are_aim}
use Rattle.dt_solve.proofs.turning.try_or_split.Goals as goal

pub returns-then-solves-clause-turned : goal.returns-then-solves-clause-turned
returns-then-solves-clause-turned g c =
    let D = g.row.D.Denot in
    let ops = g.D.Domain.ops in
    let p = c.args.problem.now in
    let aim = g.P.Proposer.aim c.args.proposer.now in
    let s = c.args.search.now in
    let cells = s.cells in
    let trail = s.trail in
    let lines = s.draft.lines in
    let pending = s.pending.items in
    let problem : IsProblem p = subst IsProblem c.problem.view_is c.problem.invariant.0 in
    let h = c.requires.searching in
    let numbers = c.try_numbers.new.self.numbers.items in
    let f = sym c.in_ok-solves.ensures.solves ∙ c.if-solves.true in
    let told = c.try_numbers.ensures.told in
    let held = c.try_numbers.ensures.held in
    (c.try_numbers.ensures.assignment, f, are_aim D ops p cells aim numbers h.cells_are h.aimed told)

pub returns-then-search-limit-clause-turned : goal.returns-then-search-limit-clause-turned
returns-then-search-limit-clause-turned g c =
    let D = g.row.D.Denot in
    let ops = g.D.Domain.ops in
    let p = c.args.problem.now in
    let aim = g.P.Proposer.aim c.args.proposer.now in
    let s = c.args.search.now in
    let cells = s.cells in
    let trail = s.trail in
    let lines = s.draft.lines in
    let pending = s.pending.items in
    let problem : IsProblem p = subst IsProblem c.problem.view_is c.problem.invariant.0 in
    let h = c.requires.searching in
    let numbers = c.try_numbers.new.self.numbers.items in
    let f = sym c.in_ok-solves.ensures.solves ∙ c.if-solves.false in
    let told = c.try_numbers.ensures.told in
    let held = c.try_numbers.ensures.held in
    let wrote = c.in_ok-write_tries.ensures ∙ ap (λ (pairs : List (ℕ × ℕ)). lines ++ map try_line pairs) (c.deref.ensures.value ∙ c.in_ok-solves.ensures.pairs) in
    let size : s.pending.len ≡ length pending = omega (arith, c.len.ensures) in
    let r = spent D ops p g.met.D.Domain.laws problem g.met.D.Deciding.decides c.args.limit aim cells trail pending lines s.splits h numbers c.requires.settled held f told
    c.write_tries.new.draft.lines c.write_rest.new.draft.lines wrote
    (c.in_ok-write_rest.ensures ∙ ap (λ n. c.write_tries.new.draft.lines ++ Loose ∷ replicate n Unvisited) (c.len.ensures ∙ size)) in (
      subst (λ n. IsRead ops p c.args.limit aim c.write_rest.new.draft.lines [] n true) c.if-search-limit.true r,
      no_aim D ops p aim numbers (are_aim D ops p cells aim numbers h.cells_are h.aimed told) f,
    )

pub bit_to_split-split-requires-clause-unknown : goal.bit_to_split-split-requires-clause-unknown
bit_to_split-split-requires-clause-unknown g c =
    let D = g.row.D.Denot in
    let ops = g.D.Domain.ops in
    let p = c.args.problem.now in
    let aim = g.P.Proposer.aim c.args.proposer.now in
    let s = c.args.search.now in
    let cells = s.cells in
    let trail = s.trail in
    let lines = s.draft.lines in
    let pending = s.pending.items in
    let problem : IsProblem p = subst IsProblem c.problem.view_is c.problem.invariant.0 in
    let h = c.requires.searching in
    let numbers = c.try_numbers.new.self.numbers.items in
    let f = sym c.in_ok-solves.ensures.solves ∙ c.if-solves.false in
    let told = c.try_numbers.ensures.told in
    let held = c.try_numbers.ensures.held in
    not_known D ops p g.met.D.Domain.laws problem g.met.D.Deciding.decides cells numbers h.cells_are c.requires.settled h.required c.try_numbers.ensures.assignment held f

pub returns-clause-turned : goal.returns-clause-turned
returns-clause-turned g c =
    let D = g.row.D.Denot in
    let ops = g.D.Domain.ops in
    let p = c.args.problem.now in
    let aim = g.P.Proposer.aim c.args.proposer.now in
    let s = c.args.search.now in
    let cells = s.cells in
    let trail = s.trail in
    let lines = s.draft.lines in
    let pending = s.pending.items in
    let problem : IsProblem p = subst IsProblem c.problem.view_is c.problem.invariant.0 in
    let h = c.requires.searching in
    let numbers = c.try_numbers.new.self.numbers.items in
    let f = sym c.in_ok-solves.ensures.solves ∙ c.if-solves.false in
    let told = c.try_numbers.ensures.told in
    let held = c.try_numbers.ensures.held in
    let most = h.most in
    let other = c.if-search-limit.false in
    let wrote = c.in_ok-write_tries.ensures ∙ ap (λ (pairs : List (ℕ × ℕ)). lines ++ map try_line pairs) (c.deref.ensures.value ∙ c.in_ok-solves.ensures.pairs) in
    let split = c.bit_to_split-split.result in
    let q : Pending = record { length = length trail; term = split.term; bit = split.bit } in
    let b = splits_on D ops p g.met.D.Domain.laws problem g.met.D.Deciding.decides c.args.limit aim cells trail pending lines s.splits h numbers c.requires.settled held f told
    c.write_tries.new.draft.lines c.split_tree.new.draft.lines c.split_tree.new.cells c.split_tree.new.trail q c.split_tree.new.pending.items
    c.bit_to_split-split.ensures (omega arith) wrote c.in_ok-split_tree.ensures.lines refl c.in_ok-split_tree.ensures.pending
    c.in_ok-split_tree.ensures.cells c.in_ok-split_tree.ensures.kept (no_aim D ops p aim numbers (are_aim D ops p cells aim numbers h.cells_are h.aimed told) f) in
    let t = trial_kept D ops p.terms cells c.split_tree.new.cells trail c.split_tree.new.trail c.try_numbers.new.trial c.in_ok-split_tree.ensures.kept c.in_ok-solves.ensures.trial in
    (record { searching = b.0; start = b.1; trial = t }, b.2)
