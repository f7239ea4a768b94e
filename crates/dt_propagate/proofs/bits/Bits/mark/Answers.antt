use Rattle.dt_propagate.proofs.Marking.{covered_mark}
use Rattle.dt_propagate.proofs.bits.Bits.mark.Goals as goal

pub invariant_of-self : goal.invariant_of-self
invariant_of-self c = record {
  covered = covered_mark c.args.self.now.words.items c.args.self.now.tops.items c.add-2.new.words.items c.add.new.words.items c.args.at c.args.self.now.covered c.add-2.ensures.len c.add.ensures.len c.add-2.ensures.marks c.add.ensures.marks;
}
