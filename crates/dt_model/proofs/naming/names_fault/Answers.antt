use Rattle.std.proofs.Common.{◌≡◌, ℕ, ◌+◌, ◌<◌, true, not, List, [], ◌∷◌, ◌++◌, get_or, take, None, sym, ap, ◌∙◌, arith}
use Rattle.std.proofs.lemmas.Bool.{false_from_ne_true, leb-false}
use Rattle.std.proofs.lemmas.List.{map_more, append_assoc}
use Rattle.dt_lex.specs.declared.name.Name.{Name}
use Rattle.dt_lex.specs.Names.{no_name}
use Rattle.dt_model.specs.declared.model.Named.{Named}
use Rattle.dt_model.specs.declared.refusal.ModelRefusal.{ModelRefusal}
use Rattle.dt_model.specs.declared.refusal.ModelRefusal.TheVariants.{NameTwice, TooMany}
use Rattle.dt_model.specs.Faults.{NameBreaks, is_named, names_of}
use Rattle.dt_model.specs.Refusals.{IsSmallest, NamesBreak}
use Rattle.dt_model.proofs.Refusals.{smallest_at, none_more, none_past}
use Rattle.dt_model.proofs.naming.names_fault.Goals as goal

pub loop-i-preserved : goal.loop-i-preserved
loop-i-preserved c =
    let d : Named = record { name = no_name; width = 0 } in
    let names = c.args.names.now in
    let i = c.loop-i.i in
    let x : Named = get_or names i d in
    let old = c.args.declared.now.keys in
    let earlier : List Name = old ++ names_of (take i names) in
    let is_new : c.in_ok-new.new ≡ not (is_named earlier x.name) = c.in_ok-new.ensures.new ∙ ap (λ (k : List Name). not (is_named k x.name)) c.loop-i.invariant.declared in
    let passes : IsSmallest (NameBreaks c.args.limit i earlier x) None = c.in_default.ensures earlier x.name is_new in
    let fresh : c.in_ok-new.new ≡ true = is_new ∙ ap not (false_from_ne_true _ (passes NameTwice)) in
    let below : i < c.args.limit = leb-false c.args.limit i (false_from_ne_true _ (passes TooMany)) in
    let more : names_of (take (i + 1) names) ≡ names_of (take i names) ++ x.name ∷ [] = map_more (λ (n : Named). n.name) names i d c.loop-i-test.true in
    record {
      declared = c.in_ok-new.ensures.keys fresh ∙ ap (λ (k : List Name). k ++ x.name ∷ []) c.loop-i.invariant.declared ∙ append_assoc old (names_of (take i names)) (x.name ∷ []) ∙ ap (λ (k : List Name). old ++ k) (sym more);
      within = omega arith;
      none = none_more (NamesBreak c.args.limit old names) i c.loop-i.invariant.none (smallest_at names i d (NameBreaks c.args.limit i earlier) None c.loop-i-test.true passes);
    }

pub returns-clause-fault : goal.returns-clause-fault
returns-clause-fault c =
    let old = c.args.declared.now.keys in
    let names = c.args.names.now in
    none_past names (λ (i : ℕ) (n : Named) (r : ModelRefusal). NameBreaks c.args.limit i (old ++ names_of (take i names)) n r)
    (λ j s l. c.loop-i.invariant.none j s (omega arith))
