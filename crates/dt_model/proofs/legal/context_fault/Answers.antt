use Rattle.std.proofs.Common.{◌≡◌, ℕ, List, [], map, Option, Some, None, refl, sym, ap, subst, arith}
use Rattle.std.specs.List.{All}
use Rattle.dt_model.specs.declared.expr.Expr.{Expr}
use Rattle.dt_model.specs.declared.model.Named.{Named}
use Rattle.dt_model.specs.declared.refusal.ModelRefusal.{ModelRefusal}
use Rattle.dt_model.specs.ModelData.{ModelData, Tree, data_of, tree_of}
use Rattle.dt_model.specs.Widths.{Scope, AreWidths, HasArities}
use Rattle.dt_model.specs.Faults.{context_scope}
use Rattle.dt_lemmas.proofs.Lists.{All-from_map}
use Rattle.dt_model.proofs.Compose.{context_first, refused_at, passes_more, passed_reg_widths}
use Rattle.dt_model.proofs.legal.context_fault.Goals as goal

pub rules_fault-requires-clause-arities : goal.rules_fault-requires-clause-arities
rules_fault-requires-clause-arities c = subst (λ (l : List Expr). All (λ (e : Expr). HasArities (tree_of e)) l) (sym c.as_slice-2.ensures) (All-from_map HasArities tree_of c.args.m.now.legal_context c.requires.arities.context)

pub rules_fault-requires-clause-regs : goal.rules_fault-requires-clause-regs
rules_fault-requires-clause-regs c = subst AreWidths (sym c.as_slice.ensures) (passed_reg_widths (data_of c.args.m.now) 4 (omega arith) c.requires.declared)

pub returns-in-Ok-clause-passes : goal.returns-in-Ok-clause-passes
returns-in-Ok-clause-passes c =
    let d : ModelData = data_of c.args.m.now in
    let s : Scope = record { regs = c.as_slice.result.now; inputs = []; vars = [] } in
    let trees : List Tree = map tree_of c.as_slice-2.result.now in
    let o : Option (ℕ × ModelRefusal) = None in
    let same : s ≡ context_scope d = ap (λ (r : List Named). record { regs = r; inputs = []; vars = [] }) c.as_slice.ensures in
    let rules : trees ≡ d.legal_context = ap (λ (l : List Expr). map tree_of l) c.as_slice-2.ensures in
    passes_more d 4 c.requires.declared (context_first d s trees o same rules c.in-Ok.ensures.none)

pub returns-in-Err-clause-refused : goal.returns-in-Err-clause-refused
returns-in-Err-clause-refused c =
    let d : ModelData = data_of c.args.m.now in
    let s : Scope = record { regs = c.as_slice.result.now; inputs = []; vars = [] } in
    let trees : List Tree = map tree_of c.as_slice-2.result.now in
    let o : Option (ℕ × ModelRefusal) = Some (c.in-Err.i, c.in-Err.refusal) in
    let same : s ≡ context_scope d = ap (λ (r : List Named). record { regs = r; inputs = []; vars = [] }) c.as_slice.ensures in
    let rules : trees ≡ d.legal_context = ap (λ (l : List Expr). map tree_of l) c.as_slice-2.ensures in
    refused_at d 4 c.in-Err.i c.in-Err.refusal refl refl c.requires.declared (context_first d s trees o same rules c.in-Err.ensures.first)
