use Rattle.std.proofs.Common.{◌≡◌, ◌-◌, ◌<◌, get_or, length, refl, sym, ap, ◌∙◌, arith}
use Rattle.dt_sets.specs.Sets.{listed}
use Rattle.dt_sets.specs.Triple.{of_numbers}
use Rattle.dt_sets.specs.Laws.Form.{few_is}
use Rattle.dt_sets.proofs.Alike.{none_listed}
use Rattle.dt_sets.proofs.Loops.{count_is}
use Rattle.dt_sets.proofs.Triples.{numbers_made}
use Rattle.dt_sets.proofs.triple_normal.of_numbers.Goals as goal

pub returns-then-sets-eq0 : goal.returns-then-sets-eq0
returns-then-sets-eq0 c = c.nothing.ensures ∙ ap (of_numbers c.args.sets.now.width) (sym (none_listed c.args.sets.now c.if-sets-eq0.true))

pub at-lo-requires-clause-form : goal.at-lo-requires-clause-form
at-lo-requires-clause-form c = few_is c.args.sets.now c.requires.sets c.requires.few

pub at-hi-requires-clause-form : goal.at-hi-requires-clause-form
at-hi-requires-clause-form c = few_is c.args.sets.now c.requires.sets c.requires.few

pub returns : goal.returns
returns c =
    let s = c.args.sets.now in
    let k = count_is s c.requires.sets c.requires.few in
    let l : 0 < length (listed s) = omega (arith, k, c.if-sets-eq0.false) in
    let e : s.count - 1 ≡ length (listed s) - 1 = ap (λ n. n - 1) k in
    numbers_made s.width (listed s) c.agreed_bits-mask.result c.at-lo.result c.at-hi.result s _ l c.agreed_bits-mask.ensures c.at-lo.ensures
    (c.at-hi.ensures ∙ ap (λ i. get_or (listed s) i 0) e) (few_is s c.requires.sets c.requires.few).is refl refl refl
