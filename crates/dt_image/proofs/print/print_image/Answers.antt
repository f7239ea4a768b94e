use Rattle.std.proofs.Common.{◌≡◌, ◌<◌, ◌^◌, length, arith, rules, append_assoc, subst}
use Rattle.dt_bits.specs.Memory.{IsMemory}
use Rattle.dt_model.specs.Accepted.{accepted_data}
use Rattle.dt_image.specs.declared.image.Image.{Image}
use Rattle.dt_image.specs.Print.{printed}
use Rattle.dt_image.proofs.Printed.{printed_is}
use Rattle.dt_image.proofs.RoundTrip.{reads_back}
use Rattle.dt_image.proofs.print.print_image.Goals as goal

pub returns-clause-reads_back : goal.returns-clause-reads_back
returns-clause-reads_back c =
    let text : c.push_row-3.new.out.items ≡ printed c.args.image.now = grind (arith, printed_is, append_assoc) in
    let few : length c.args.image.now.contexts < 2 ^ 64 = search rules in
    let good : IsMemory c.args.image.now.memory = subst (λ (i : Image). IsMemory i.memory) c.image.view_is c.image.invariant in
    rw text (reads_back (accepted_data c.args.model.now) c.args.image.now c.args.model.now.accepted c.requires good few)
