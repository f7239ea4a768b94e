use Rattle.std.proofs.Common.{◌≡◌, ℕ, ◌+◌, ◌<◌, ◌≤◌, ◌||◌, leb, ltb, List, length, map, take, get_or, min, None, sym, ap, ◌∙◌, subst, arith}
use Rattle.std.proofs.lemmas.Bool.{false_from_ne_true, or_parts, leb-false, ltb-false}
use Rattle.std.proofs.lemmas.List.{get_or-map, length-map}
use Rattle.std.proofs.lemmas.List.Sums.{sum_by_more}
use Rattle.dt_model.specs.declared.refusal.ModelRefusal.{ModelRefusal}
use Rattle.dt_model.specs.declared.refusal.ModelRefusal.TheVariants.{TooMany}
use Rattle.dt_model.specs.ModelData.{Tree, tree_of}
use Rattle.dt_model.specs.Scopes.{scope_of}
use Rattle.dt_model.specs.Widths.{operators}
use Rattle.dt_model.specs.Faults.{RuleBreaks, rule_operators}
use Rattle.dt_model.specs.Refusals.{IsSmallest, RulesBreak}
use Rattle.dt_model.proofs.Refusals.{smallest_at, none_more, none_past}
use Rattle.dt_model.proofs.rules.rules_fault.Goals as goal

pub loop-i-preserved : goal.loop-i-preserved
loop-i-preserved c =
    let s = scope_of c.args.names.now in
    let rules = c.args.rules.now in
    let trees : List Tree = map tree_of rules in
    let i = c.loop-i.i in
    let x = c.index-rules-i.result in
    let t : Tree = tree_of x in
    let before = c.args.before in
    let total = c.loop-i.total in
    let at : get_or trees i t ≡ t = get_or-map tree_of rules i x t c.loop-i-test.true ∙ sym (ap tree_of c.index-rules-i.is) in
    let inside : i < length trees = omega (arith, c.loop-i-test.true, length-map rules tree_of) in
    let passes : IsSmallest (RuleBreaks s i total t) None = c.in_default.ensures in
    let few = or_parts (leb 32 i || ltb 64 (operators t)) _ (false_from_ne_true _ (passes TooMany)) in
    let below : i < 32 = leb-false 32 i (or_parts (leb 32 i) _ few.0).0 in
    let own : operators t ≤ 64 = ltb-false 64 _ (or_parts (leb 32 i) _ few.0).1 in
    let all : total + operators t ≤ 8192 = ltb-false 8192 _ few.1 in
    let exact : c.operators_in-total.result ≡ operators t = c.operators_in-total.ensures ∙ (let e : min (operators t) 65 ≡ operators t = omega arith in e) in
    let more : rule_operators (take (i + 1) trees) ≡ rule_operators (take i trees) + operators t = sum_by_more operators trees i t inside ∙ ap (λ (u : Tree). rule_operators (take i trees) + operators u) at in
    let here : IsSmallest (RuleBreaks s i (before + rule_operators (take i trees)) (get_or trees i t)) None =
    subst (λ (u : Tree). IsSmallest (RuleBreaks s i (before + rule_operators (take i trees)) u) None) (sym at)
    (subst (λ (k : ℕ). IsSmallest (RuleBreaks s i k t) None) c.loop-i.invariant.total passes) in
    record {
      total = omega (arith, exact, more, c.loop-i.invariant.total);
      few = omega (arith, exact, all);
      within = omega arith;
      none = none_more (RulesBreak s before trees) i c.loop-i.invariant.none (smallest_at trees i t (RuleBreaks s i (before + rule_operators (take i trees))) None inside here);
    }

pub returns-clause-none : goal.returns-clause-none
returns-clause-none c =
    let s = scope_of c.args.names.now in
    let trees : List Tree = map tree_of c.args.rules.now in
    none_past trees (λ (i : ℕ) (t : Tree) (r : ModelRefusal). RuleBreaks s i (c.args.before + rule_operators (take i trees)) t r)
    (λ j r l. c.loop-i.invariant.none j r (omega (arith, length-map c.args.rules.now tree_of)))
