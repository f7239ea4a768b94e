use Rattle.std.proofs.Common.{◌≡◌, ℕ, Vec, Global, List, length, map, sym, ap, ◌∙◌, subst, arith}
use Rattle.std.proofs.lemmas.List.{length-map}
use Rattle.dt_bits.specs.Memory.{IsMemory}
use Rattle.dt_model.specs.ModelData.{ModelData, node_of}
use Rattle.dt_model.specs.Accepted.{accepted_data}
use Rattle.dt_model.proofs.Accepting.{few_nodes}
use Rattle.dt_model.specs.Flow.{steps_of}
use Rattle.dt_walk.proofs.Views.{view_steps}
use Rattle.dt_image.specs.declared.image.Image.{Image}
use Rattle.dt_terms.specs.Problem.{ProblemData}
use Rattle.dt_terms.specs.Values.{values_of}
use Rattle.dt_table.specs.declared.out.Out.{Out}
use Rattle.dt_table.specs.Table.{table, built}
use Rattle.dt_table.specs.Images.{contexts_told}
use Rattle.dt_table.specs.Words.{words_read}
use Rattle.dt_table.proofs.Whole.{to_memory}
use Rattle.dt_encode.specs.Telling.{valued}
use Rattle.dt_encode.proofs.Listed.{Holds, told_holds}
use Rattle.dt_encode.proofs.Whole.{image_built}
use Rattle.dt_encode.proofs.telling.image_in.Goals as goal

pub all_reads-requires : goal.all_reads-requires
all_reads-requires c =
    let few = few_nodes (accepted_data c.args.model.now) c.model.ensures.accepted in
    let same = ap (λ (d : ModelData). length d.nodes) c.model.ensures.same in
    let count = length-map c.model.result.now.nodes node_of in
    let nodes = ap length c.as_slice-nodes.ensures in
    omega (arith, few, same, count, nodes)

values_are : (p q : ProblemData) (numbers ys xs : List ℕ) → p ≡ q → ys ≡ values_of p.terms numbers → xs ≡ ys → xs ≡ values_of q.terms numbers
values_are p q numbers ys xs e f g = g ∙ f ∙ ap (λ (t : ProblemData). values_of t.terms numbers) e

rows_are : (rows : List (Vec Out Global)) (more : List (Vec Out Global)) (oss : List (List Out)) → rows ≡ more → map (λ row. row.items) more ≡ oss → map (λ row. row.items) rows ≡ oss
rows_are rows more oss e f = ap (map (λ row. row.items)) e ∙ f

pub invariant_of-memory : goal.invariant_of-memory
invariant_of-memory c =
    let d = accepted_data c.args.model.now in
    let r = c.args.requests.now in
    let numbers = c.args.values.now in
    let same = image_built d r numbers c.as_slice-of_terms.result.now c.word_bytes.result (steps_of c.as_slice-nodes.result.now) (map (λ row. row.items) c.as_slice.result.now) c.from_vec.result c.in_ok-contexts.contexts c.in_ok-accesses.accesses
    (values_are c.args.encoded.now.problem (table d r) numbers c.in_ok-of_terms.of_terms.items c.as_slice-of_terms.result.now c.requires.encoded.problem c.in_ok-of_terms.ensures c.as_slice-of_terms.ensures.value)
    c.word_bytes.ensures.value
    (view_steps c.model.result.now d c.as_slice-nodes.result.now c.model.ensures.same c.as_slice-nodes.ensures)
    (rows_are c.as_slice.result.now c.args.encoded.now.outs.items (built d r).outs c.as_slice.ensures.value c.requires.encoded.outs)
    (c.from_vec.ensures ∙ c.in_ok-words.ensures ∙ ap words_read c.in_ok-reads.ensures)
    (c.in_ok-contexts.ensures ∙ ap (λ (n : ℕ). contexts_told (valued c.as_slice-of_terms.result.now) d n 0) c.len.ensures)
    c.in_ok-accesses.ensures in
    subst IsMemory (sym (ap (λ (i : Image). i.memory) same)) (to_memory d r numbers c.args.model.now.accepted c.args.model.now.arities c.requires.list c.requires.assignment c.requires.solves)

pub returns : goal.returns
returns c =
    let d = accepted_data c.args.model.now in
    let r = c.args.requests.now in
    let numbers = c.args.values.now in
    let same = image_built d r numbers c.as_slice-of_terms.result.now c.word_bytes.result (steps_of c.as_slice-nodes.result.now) (map (λ row. row.items) c.as_slice.result.now) c.from_vec.result c.in_ok-contexts.contexts c.in_ok-accesses.accesses
    (values_are c.args.encoded.now.problem (table d r) numbers c.in_ok-of_terms.of_terms.items c.as_slice-of_terms.result.now c.requires.encoded.problem c.in_ok-of_terms.ensures c.as_slice-of_terms.ensures.value)
    c.word_bytes.ensures.value
    (view_steps c.model.result.now d c.as_slice-nodes.result.now c.model.ensures.same c.as_slice-nodes.ensures)
    (rows_are c.as_slice.result.now c.args.encoded.now.outs.items (built d r).outs c.as_slice.ensures.value c.requires.encoded.outs)
    (c.from_vec.ensures ∙ c.in_ok-words.ensures ∙ ap words_read c.in_ok-reads.ensures)
    (c.in_ok-contexts.ensures ∙ ap (λ (n : ℕ). contexts_told (valued c.as_slice-of_terms.result.now) d n 0) c.len.ensures)
    c.in_ok-accesses.ensures in
    let told = told_holds d r numbers c.args.model.now.accepted c.args.model.now.arities c.requires.list c.requires.assignment c.requires.solves in
    let all = subst (Holds d r) (sym same) told in
    record { image = same; satisfies = all.satisfies; of_model = all.satisfies.image; matches = all.satisfies.matches; memory = all.memory; words = all.words }
