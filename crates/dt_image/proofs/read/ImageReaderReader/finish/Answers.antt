use Rattle.std.proofs.Common.{arith}
use Rattle.dt_model.specs.Accepted.{accepted_data}
use Rattle.dt_image.proofs.Entries.{draft_good}
use Rattle.dt_image.proofs.read.ImageReaderReader.finish.Goals as goal

pub invariant_of-result : goal.invariant_of-result
invariant_of-result c = rw c.word_bytes.ensures.value ((draft_good (accepted_data c.args.self.now.model.now) c.args.number c.args.draft c.args.self.now.model.now.accepted c.requires (omega arith)).memory)

pub returns-clause-sound : goal.returns-clause-sound
returns-clause-sound c = rw c.word_bytes.ensures.value ((draft_good (accepted_data c.args.self.now.model.now) c.args.number c.args.draft c.args.self.now.model.now.accepted c.requires (omega arith)).image)
