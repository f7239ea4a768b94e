use Rattle.std.proofs.Common.{ℕ, [], Option, refl, subst}
use Rattle.dt_model.specs.declared.refusal.ModelRefusal.{ModelRefusal}
use Rattle.dt_model.specs.declared.refusal.Place.TheVariants.{Reg}
use Rattle.dt_model.specs.ModelData.{data_of}
use Rattle.dt_model.specs.Faults.{Breaks}
use Rattle.dt_model.specs.Refusals.{IsFirst}
use Rattle.dt_model.proofs.Compose.{names_first, refused_at, passes_more}
use Rattle.dt_model.proofs.declared.regs_fault.Goals as goal

pub returns-in-Some-clause-fault : goal.returns-in-Some-clause-fault
returns-in-Some-clause-fault c =
    let m = c.args.m.now in
    let first : IsFirst (λ i. Breaks (data_of m) (Reg i)) c.in_ok-i.field-0 = names_first 32 c.args.declared.now.keys [] c.as_slice.result.now m.regs c.in_ok-i.field-0 c.requires.empty c.as_slice.ensures c.in_ok-i.ensures.fault in
    refused_at (data_of m) 1 c.in-Some.i c.in-Some.refusal refl refl c.requires.header (subst (λ (o : Option (ℕ × ModelRefusal)). IsFirst (λ i. Breaks (data_of m) (Reg i)) o) c.in-Some.is first)

pub returns-in-None-clause-fault : goal.returns-in-None-clause-fault
returns-in-None-clause-fault c =
    let m = c.args.m.now in
    let first : IsFirst (λ i. Breaks (data_of m) (Reg i)) c.in_ok-i.field-0 = names_first 32 c.args.declared.now.keys [] c.as_slice.result.now m.regs c.in_ok-i.field-0 c.requires.empty c.as_slice.ensures c.in_ok-i.ensures.fault in
    passes_more (data_of m) 1 c.requires.header (subst (λ (o : Option (ℕ × ModelRefusal)). IsFirst (λ i. Breaks (data_of m) (Reg i)) o) c.in-None.is first)
