use Rattle.std.proofs.Common.{◌≡◌, ◌+◌, ◌/◌, List, ℕ, replicate, sym, subst, arith, rules}
use Rattle.dt_propagate.specs.Marks.{AreCovered}
use Rattle.dt_propagate.proofs.Marking.{covered_new, top_is}
use Rattle.dt_propagate.proofs.bits.Bits.new.Goals as goal

pub invariant_of-result : goal.invariant_of-result
invariant_of-result c =
    let n = c.args.count / 64 + 1 in
    let m = c.args.count / 4096 + 1 in
    let e : c.in_ok-vec.field-0.items ≡ replicate n c.args.word = c.in_ok-vec.ensures.items_if_clones_equal (λ y h. search rules) in
    let f : c.in_ok-vec-2.field-0.items ≡ replicate m c.top_of.result = c.in_ok-vec-2.ensures.items_if_clones_equal (λ y h. search rules) in
    record {
      covered = subst (λ (ws : List ℕ). AreCovered ws c.in_ok-vec-2.field-0.items) (sym e)
          (subst (λ (ts : List ℕ). AreCovered (replicate n c.args.word) ts) (sym f) (covered_new n m c.args.word c.top_of.result (omega arith) (omega arith) (top_is c.args.word c.top_of.result c.top_of.ensures)));
    }
