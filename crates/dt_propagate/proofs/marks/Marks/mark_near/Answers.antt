use Rattle.std.proofs.Common.{◌≡◌, ℕ, ◌+◌, ◌*◌, ◌<◌, ◌≤◌, List, [], length, get_or, refl, sym, ap, ◌∙◌, subst, arith, below_more}
use Rattle.std.proofs.lemmas.List.FromFn.{length-map-range_with_len}
use Rattle.dt_terms.specs.Terms.{term_at}
use Rattle.dt_box.specs.Watching.{users_of}
use Rattle.dt_box.proofs.Watching.{users_at_term, user_in}
use Rattle.dt_propagate.specs.Marks.{AreMarkedAt, HasRoom}
use Rattle.dt_propagate.proofs.Marking.{grows_more}
use Rattle.dt_propagate.proofs.Marked.{near_marked, marked_grows, users_are}
use Rattle.dt_propagate.proofs.marks.Marks.mark_near.Goals as goal

pub users-user-items-requires : goal.users-user-items-requires
users-user-items-requires c =
    let n : length c.args.watches.now ≡ length c.args.problem.now.terms = ap length c.requires.watches ∙ length-map-range_with_len (users_of c.args.problem.now.terms) 0 (length c.args.problem.now.terms) in
    omega (arith, c.requires.term)

pub mark_node-requires-in-loop-user-clause-node : goal.mark_node-requires-in-loop-user-clause-node
mark_node-requires-in-loop-user-clause-node c =
    let terms = c.args.problem.now.terms in
    let e : c.users-user-items.result.now ≡ users_of terms c.args.term = c.users-user-items.ensures ∙ users_are terms c.args.watches.now c.requires.watches c.args.term c.requires.term in
    let l : get_or c.users-user-items.result.now c.loop-user.user-index 0 < length terms =
    subst (λ (ns : List ℕ). get_or ns c.loop-user.user-index 0 < length terms) (sym e) (user_in terms c.args.term c.loop-user.user-index (omega (arith, ap length e, c.loop-user-test.true))) in
    let s : c.len-count.result ≡ length terms = c.len-count.ensures ∙ ap (λ p. length p.terms) c.problem.view_is in
    omega arith

pub returns-clause-near : goal.returns-clause-near
returns-clause-near c =
    let terms = c.args.problem.now.terms in
    let words = c.loop-user.self.bits.words.items in
    let e : get_or c.args.watches.now c.args.term [] ≡ users_of terms c.args.term = users_are terms c.args.watches.now c.requires.watches c.args.term c.requires.term in
    near_marked terms words c.args.term c.loop-user.invariant.term
    (λ k l. subst (λ (ns : List ℕ). AreMarkedAt (length terms) words (get_or ns k 0)) e (c.loop-user.invariant.users k (omega (arith, ap length e, ap length c.users-user-items.ensures, c.loop-user-test.false))))

pub loop-user-preserved : goal.loop-user-preserved
loop-user-preserved c =
    let n = length c.args.problem.now.terms in
    let i = c.loop-user.invariant in
    let e = c.mark_node-in-loop-user.ensures in
    let old = c.loop-user.self.bits.words.items in
    let new = c.mark_node-in-loop-user.new.self.bits.words.items in
    let users = get_or c.args.watches.now c.args.term [] in
    let s : c.len-count.result ≡ n = c.len-count.ensures ∙ ap (λ p. length p.terms) c.problem.view_is in
    record {
      room = subst (λ k. HasRoom (2 * k) new) s e.room;
      grows = grows_more c.args.self.now.bits.words.items old new i.grows e.grows;
      narrowings = e.narrowings ∙ i.narrowings;
      term = marked_grows n old new c.args.term e.grows i.term;
      users = below_more _ _ (λ k l. marked_grows n old new (get_or users k 0) e.grows (i.users k l))
          (subst (λ k. AreMarkedAt k new (get_or users c.loop-user.user-index 0)) s
          (subst (λ (ns : List ℕ). AreMarkedAt c.len-count.result new (get_or ns c.loop-user.user-index 0)) c.users-user-items.ensures e.node));
    }
