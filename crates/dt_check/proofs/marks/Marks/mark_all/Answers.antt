use Rattle.std.proofs.Common.{◌≡◌, false, true, get_or, subst, arith}
use Rattle.std.proofs.lemmas.List.{get_or_default}
use Rattle.dt_check.proofs.marks.Marks.mark_all.Goals as goal

pub returns : goal.returns
returns c =
    let i = c.loop-number.invariant in
    let marks = c.loop-number.self.marks.items in
    let numbers = c.args.numbers.now in
    record {
      count = i.count;
      kept = i.kept;
      marked = λ k d l. subst (λ n. get_or marks n false ≡ true) (get_or_default numbers k 0 d l) (i.marked k (omega arith));
      others = λ n h. i.others n (λ k l. h k 0 l);
    }
