use Rattle.std.proofs.Common.{◌∙◌, ap, arith}
use Rattle.std.proofs.lemmas.Bool.{false≢true}
use Rattle.dt_lemmas.proofs.Lists.{differ_at}
use Rattle.dt_request.specs.declared.list.AccessWish.{AccessWish}
use Rattle.dt_satisfy.proofs.matching.have_contexts.Goals as goal

pub returns-then-access-wishes : goal.returns-then-access-wishes
returns-then-access-wishes c = (
  λ h. absurd (false≢true h),
  λ e. absurd (differ_at (λ a. a.context) (λ a. a.context) c.args.accesses.now c.args.wishes.now c.loop-i.i c.index-accesses-i.result c.index-wishes-i.result c.loop-i-test.true (omega arith) c.index-accesses-i.is c.index-wishes-i.is (λ s. c.if-access-wishes.true (s ∙ ap (λ (w : AccessWish). w.context) c.index-wishes-i.is)) e),
)
