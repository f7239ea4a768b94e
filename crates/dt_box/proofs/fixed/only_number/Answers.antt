use Rattle.std.proofs.Common.{◌≡◌, ◌-◌, ◌^◌, sym, ap, ◌∙◌, subst}
use Rattle.dt_bits.specs.declared.value.Width.{Width}
use Rattle.dt_domain.specs.Domain.{Holds, bits_of}
use Rattle.dt_box.proofs.OwnValues.{only}
use Rattle.dt_box.proofs.fixed.only_number.Goals as goal

pub returns : goal.returns
returns g c =
    let ops = g.D.Domain.ops in
    let d = c.args.domain.now in
    let full : ops.known_mask d ≡ 2 ^ bits_of ops d - 1 = sym c.known_mask.ensures ∙ c.if-known_mask-ones.false ∙ c.ones.ensures ∙ ap (λ (w : Width). 2 ^ w.0 - 1) c.width-width.ensures in
    record {
      width = sym c.width-width.ensures;
      holds = subst (Holds ops d) (sym c.known_value.ensures) (only g.row.D.Denot ops g.met.D.Domain.laws d c.requires full);
      full = full;
    }
