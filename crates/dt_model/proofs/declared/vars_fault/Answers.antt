use Rattle.std.proofs.Common.{ℕ, ◌++◌, Option, refl, subst}
use Rattle.dt_model.specs.declared.refusal.ModelRefusal.{ModelRefusal}
use Rattle.dt_model.specs.declared.refusal.Place.TheVariants.{Var}
use Rattle.dt_model.specs.ModelData.{data_of}
use Rattle.dt_model.specs.Faults.{Breaks, names_of}
use Rattle.dt_model.specs.Refusals.{IsFirst}
use Rattle.dt_model.proofs.Compose.{names_first, refused_at, passes_more}
use Rattle.dt_model.proofs.declared.vars_fault.Goals as goal

pub returns-in-Some : goal.returns-in-Some
returns-in-Some c =
    let m = c.args.m.now in
    let first : IsFirst (λ i. Breaks (data_of m) (Var i)) c.in_ok-i.field-0 = names_first 512 c.args.declared.now.keys (names_of m.regs ++ names_of m.inputs) c.as_slice.result.now m.vars c.in_ok-i.field-0 c.requires.named c.as_slice.ensures c.in_ok-i.ensures.fault in
    refused_at (data_of m) 3 c.in-Some.i c.in-Some.refusal refl refl c.requires.inputs (subst (λ (o : Option (ℕ × ModelRefusal)). IsFirst (λ i. Breaks (data_of m) (Var i)) o) c.in-Some.is first)

pub returns-in-None : goal.returns-in-None
returns-in-None c =
    let m = c.args.m.now in
    let first : IsFirst (λ i. Breaks (data_of m) (Var i)) c.in_ok-i.field-0 = names_first 512 c.args.declared.now.keys (names_of m.regs ++ names_of m.inputs) c.as_slice.result.now m.vars c.in_ok-i.field-0 c.requires.named c.as_slice.ensures c.in_ok-i.ensures.fault in
    passes_more (data_of m) 3 c.requires.inputs (subst (λ (o : Option (ℕ × ModelRefusal)). IsFirst (λ i. Breaks (data_of m) (Var i)) o) c.in-None.is first)
