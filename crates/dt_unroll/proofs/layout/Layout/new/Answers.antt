use Rattle.std.proofs.Common.{◌≡◌, ℕ, ◌+◌, ◌*◌, length, sym, ap, ◌∙◌, map}
use Rattle.dt_lemmas.proofs.Equalities.{two}
use Rattle.dt_model.specs.Accepted.{accepted_data}
use Rattle.dt_model.specs.ModelData.{ModelData, node_of}
use Rattle.dt_request.specs.Choices.{read_nodes}
use Rattle.dt_request.proofs.Choosing.{reads_seen}
use Rattle.dt_table.specs.Table.{choices}
use Rattle.dt_unroll.proofs.Layouts.{choices_length}
use Rattle.dt_unroll.proofs.layout.Layout.new.Goals as goal

pub returns : goal.returns
returns c =
    let d = accepted_data c.args.model.now in
    let r = c.args.requests.now in
    let regs : c.in_ok-regs.regs ≡ length d.regs = c.in_ok-regs.ensures.value ∙ c.len.ensures ∙ ap (λ (x : ModelData). length x.regs) c.model-m.ensures.same in
    let inputs : c.in_ok-inputs.inputs ≡ length d.inputs = c.in_ok-inputs.ensures.value ∙ c.len-3.ensures ∙ ap (λ (x : ModelData). length x.inputs) c.model-m.ensures.same in
    let contexts : c.in_ok-position.field-0 ≡ length r.contexts = c.in_ok-position.ensures.value ∙ c.len-2.ensures in
    let accesses : c.in_ok-position-2.field-0 ≡ length r.accesses = c.in_ok-position-2.ensures.value ∙ c.len-4.ensures in
    let reads : c.in_ok-reads.reads ≡ read_nodes d =
    c.in_ok-reads.ensures.value ∙ c.reads_among.ensures ∙ sym (reads_seen c.as_slice.result.now) ∙ ap (λ ns. read_nodes (record d { nodes = map node_of ns })) c.as_slice.ensures ∙ ap read_nodes c.model-m.ensures.same in
    let first : c.in_ok-first.first ≡ length r.contexts * length d.regs = c.in_ok-first.ensures.value ∙ two (λ (m n : ℕ). m * n) contexts regs in
    let step : c.in_ok-step.step ≡ length d.inputs + read_nodes d = c.in_ok-step.ensures.value ∙ two (λ (m n : ℕ). m + n) inputs reads in
    let zero_is : c.in_ok-zero.zero ≡ length (choices d r) = c.in_ok-zero.ensures.value ∙ two (λ (m n : ℕ). m + n) first (c.in_ok-own.ensures.value ∙ two (λ (m n : ℕ). m * n) accesses step) ∙ sym (choices_length d r) in
    record {
      regs = regs;
      first = first;
      inputs = inputs;
      step = step;
      zero_term = zero_is;
      one_term = c.in_ok-one.ensures.value ∙ ap (λ (n : ℕ). n + 1) zero_is;
    }
