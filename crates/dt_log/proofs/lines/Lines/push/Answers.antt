use Rattle.std.proofs.Common.{◌++◌, ◌∷◌, [], List, length, map, ◌∙◌, sym, ap, subst}
use Rattle.std.specs.List.{AllByRecursion}
use Rattle.std.proofs.lemmas.List.{map_push}
use Rattle.dt_lemmas.proofs.Lists.{AllByRecursion-append}
use Rattle.dt_log.specs.declared.line.Line.{Line}
use Rattle.dt_log.specs.declared.lines.Packed.{Packed}
use Rattle.dt_log.specs.Packing.{unpacked, IsPacked}
use Rattle.dt_log.proofs.Kept.{packed_kept, lines_kept, on_any}
use Rattle.dt_log.proofs.lines.Lines.push.Goals as goal

pub returns-in_err-packed-clause-err : goal.returns-in_err-packed-clause-err
returns-in_err-packed-clause-err c =
    on_any _ c.from_residual.result (lines_kept c.self.inside.values.items c.pack.new.values.items c.self.inside.items.items c.pack.ensures.kept c.self.invariant ∙ c.self.view_is)

pub invariant_of-self-in_err-push : goal.invariant_of-self-in_err-push
invariant_of-self-in_err-push c =
    subst (λ (ps : List Packed). AllByRecursion (IsPacked (length c.pack.new.values.items)) ps) (sym c.in_err-push.ensures.items) (packed_kept c.self.inside.values.items c.pack.new.values.items c.self.inside.items.items c.pack.ensures.kept c.self.invariant)

pub returns-in_err-push-clause-err : goal.returns-in_err-push-clause-err
returns-in_err-push-clause-err c =
    on_any _ c.from_residual-in_err-push.result
    (ap (λ (ps : List Packed). map (unpacked c.pack.new.values.items) ps) c.in_err-push.ensures.items
    ∙ lines_kept c.self.inside.values.items c.pack.new.values.items c.self.inside.items.items c.pack.ensures.kept c.self.invariant
    ∙ c.self.view_is)

pub invariant_of-self-2 : goal.invariant_of-self-2
invariant_of-self-2 c =
    let before = packed_kept c.self.inside.values.items c.pack.new.values.items c.self.inside.items.items c.pack.ensures.kept c.self.invariant in
    subst (λ (ps : List Packed). AllByRecursion (IsPacked (length c.pack.new.values.items)) ps) (sym c.in_ok-push.ensures.items)
    (AllByRecursion-append (IsPacked (length c.pack.new.values.items)) c.self.inside.items.items (c.in_ok-packed.packed ∷ []) before (c.in_ok-packed.ensures.packed.0, tt))

pub returns-clause-ok : goal.returns-clause-ok
returns-clause-ok c =
    let f : Packed → Line = unpacked c.pack.new.values.items in
    ap (λ (ps : List Packed). map f ps) c.in_ok-push.ensures.items
    ∙ map_push f c.self.inside.items.items c.in_ok-packed.packed
    ∙ (λ i. (lines_kept c.self.inside.values.items c.pack.new.values.items c.self.inside.items.items c.pack.ensures.kept c.self.invariant ∙ c.self.view_is) i ++ c.in_ok-packed.ensures.packed.1 i ∷ [])
