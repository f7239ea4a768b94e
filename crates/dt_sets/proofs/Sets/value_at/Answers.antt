use Rattle.std.proofs.Common.{ℕ, ◌^◌, ◌<◌, length, sym, ap, subst, arith}
use Rattle.dt_sets.specs.Sets.{listed}
use Rattle.dt_sets.specs.Forward.{valued}
use Rattle.dt_sets.specs.Laws.Form.{few_is}
use Rattle.dt_sets.proofs.Loops.{at_place, count_is}
use Rattle.dt_sets.proofs.Sets.value_at.Goals as goal

pub at-requires-clause-form : goal.at-requires-clause-form
at-requires-clause-form c = few_is c.args.self.now c.requires.self_is c.requires.few

pub returns-clause-is : goal.returns-clause-is
returns-clause-is c = ap (valued c.args.self.now.width) c.at.ensures

pub returns-clause-valid : goal.returns-clause-valid
returns-clause-valid c =
    let s = c.args.self.now in
    let k = count_is s c.requires.self_is c.requires.few in
    let l : c.args.place < length (listed s) = omega (arith, k, c.requires.place) in
    let P : ℕ → Type 0 = λ n. n < 2 ^ s.width.0 in (
      c.requires.self_is.width,
      subst P (sym c.at.ensures) (at_place P (listed s) c.args.place c.requires.self_is.fits l),
    )
