-- The verdict that the code gives, as the rules name it.
use Rattle.dt_manual.specs.declared.pte.Verdict.{Verdict as Told}
use Rattle.dt_manual.specs.declared.pte.Verdict.TheVariants.{Fails, Pointer, Leaf}
use Rattle.dt_manual.specs.Entry.{Verdict, fails, pointer, leaf}

abbrev pub verdict_of : Told → Verdict
verdict_of Fails = fails
verdict_of Pointer = pointer
verdict_of Leaf = leaf
