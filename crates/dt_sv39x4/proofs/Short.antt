-- The VS-stage's plan is within what the builder of a stage asks for.
use Rattle.std.proofs.Common.{◌≡◌, ◌<◌, length, sym, ap, ◌∙◌, arith}
use Rattle.std.proofs.lemmas.List.{length-map}
use Rattle.dt_model.specs.ModelData.{node_of}
use Rattle.dt_stage.specs.Stage.{Shape, shape_of}
use Rattle.dt_stage.specs.declared.stages.StagePlan.{StagePlan}
use Rattle.dt_sv39x4.specs.Shipped.{guest_stage, virtual_stage}
use Rattle.dt_sv39x4.specs.declared.guest.Guest.{Guest}

pub at_small : (p : StagePlan) → shape_of p ≡ virtual_stage → p.at < 1000
at_small p h = let e : p.at ≡ 3 = ap (λ (s : Shape). s.at) h in omega arith

pub fetch2_short : (p : StagePlan) → shape_of p ≡ virtual_stage → length p.fetch2.items < 1000
fetch2_short p h = let e : length p.fetch2.items ≡ 24 = sym (length-map p.fetch2.items node_of) ∙ ap (λ (s : Shape). length s.fetch2) h in omega arith

pub fetch1_short : (p : StagePlan) → shape_of p ≡ virtual_stage → length p.fetch1.items < 1000
fetch1_short p h = let e : length p.fetch1.items ≡ 24 = sym (length-map p.fetch1.items node_of) ∙ ap (λ (s : Shape). length s.fetch1) h in omega arith

pub fetch0_short : (p : StagePlan) → shape_of p ≡ virtual_stage → length p.fetch0.items < 1000
fetch0_short p h = let e : length p.fetch0.items ≡ 24 = sym (length-map p.fetch0.items node_of) ∙ ap (λ (s : Shape). length s.fetch0) h in omega arith

-- a G-stage's plan has no nodes before its reads
pub none_2 : (p : StagePlan) (g : Guest) → shape_of p ≡ guest_stage g → length p.fetch2.items < 1000
none_2 p g h = let e : length p.fetch2.items ≡ 0 = sym (length-map p.fetch2.items node_of) ∙ ap (λ (s : Shape). length s.fetch2) h in omega arith

pub none_1 : (p : StagePlan) (g : Guest) → shape_of p ≡ guest_stage g → length p.fetch1.items < 1000
none_1 p g h = let e : length p.fetch1.items ≡ 0 = sym (length-map p.fetch1.items node_of) ∙ ap (λ (s : Shape). length s.fetch1) h in omega arith

pub none_0 : (p : StagePlan) (g : Guest) → shape_of p ≡ guest_stage g → length p.fetch0.items < 1000
none_0 p g h = let e : length p.fetch0.items ≡ 0 = sym (length-map p.fetch0.items node_of) ∙ ap (λ (s : Shape). length s.fetch0) h in omega arith
