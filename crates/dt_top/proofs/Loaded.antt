-- How the search of a generated list ends, and that the list is never too large.
use Rattle.std.proofs.Common.{◌≡◌, ℕ, ◌+◌, ◌*◌, ◌≤◌, true, List, [], ◌⊎◌, inl, inr, length, Some, None, refl, sym, ap, subst, ◌∙◌, arith, lit≤, leb, mul-le-mul_right}
use Rattle.std.proofs.lemmas.Bool.{le-ltb, leb-true, and_parts}
use Rattle.std.proofs.lemmas.List.FromFn.{length-map-range_with_len}
use Rattle.dt_bits.specs.Memory.{IsMemory}
use Rattle.dt_model.specs.ModelData.{ModelData}
use Rattle.dt_request.specs.declared.list.Requests.{Requests}
use Rattle.dt_request.specs.Choices.{read_nodes}
use Rattle.dt_image.specs.declared.image.Image.{Image}
use Rattle.dt_satisfy.specs.Satisfies.{Satisfies}
use Rattle.dt_terms.specs.Problem.{ProblemData, IsProblem}
use Rattle.dt_log.specs.declared.line.Claim.{Claim}
use Rattle.dt_log.specs.declared.line.Line.{Line}
use Rattle.dt_sets.specs.declared.Triple.{Triple}
use Rattle.dt_sets.specs.TripleOps.{triple_ops}
use Rattle.dt_sets.specs.TripleLaws.{triple_laws}
use Rattle.dt_check.proofs.Loop.{refuted_has_none}
use Rattle.dt_solve.specs.Outcomes.{IsRefuted, IsSpent}
use Rattle.dt_table.specs.Numbers.{numbers_of}
use Rattle.dt_table.specs.Sizes.{done_nodes, model_operators, read_product, done_product, term_product, most_read_product, most_done_product, most_term_product}
use Rattle.dt_table.specs.Table.{table}
use Rattle.dt_encode.specs.Encoding.{TakesImages}
use Rattle.dt_encode.specs.ReadWords.{ListsReads}
use Rattle.dt_encode.specs.SizeFault.{size_fault}
use Rattle.dt_encode.specs.declared.fault.EncodeFault.{EncodeFault}
use Rattle.dt_encode.specs.declared.fault.EncodeFault.TheVariants as faults
use Rattle.dt_sv39.specs.Shipped.{sv39_data}
use Rattle.dt_make.specs.Made.{can_be_made, made, wish_at}
use Rattle.dt_top.specs.Answers.{NoneMeets}
use Rattle.dt_top.specs.Replies.{bytes_of}
use Rattle.dt_top.specs.Table.{Replies, no_reads}
use Rattle.dt_top.specs.commands.Load.{load_splits, IsLoadEnd, end_status, load_text, Loading}
use Rattle.dt_top.specs.declared.commands.load.LoadEnd.{LoadEnd}
use Rattle.dt_top.specs.declared.commands.load.LoadEnd.TheVariants as ends
use Rattle.dt_top.specs.declared.reply.Reply.{Reply}
use Rattle.dt_top.specs.declared.status.Status.TheVariants as status
use Rattle.dt_top.proofs.Ended.{ends_as}

-- ---- how the search ended

pub image_end : (d : ModelData) (list : Requests) (i : Image) → IsMemory i.memory → Satisfies d list i → ListsReads d i → IsLoadEnd d list (ends.Image (length i.memory.words))
image_end d list i memory satisfies reads = (i, record { meets = record { memory = memory; satisfies = satisfies }; reads = reads; number = refl })

pub refuted_end : (d : ModelData) (list : Requests) (p : ProblemData) → TakesImages d list p → IsProblem p → (claim : Claim) (lines : List Line) → IsRefuted triple_ops p claim lines → NoneMeets d list
refuted_end d list p takes h claim lines r = λ i m.
    let memory = m.memory in
    let taken = takes i memory.fit m.satisfies in
    refuted_has_none Triple triple_ops p triple_laws h claim lines r.splits (numbers_of d i) r.refutes taken.0 taken.1

pub spent_end : (d : ModelData) (list : Requests) (p : ProblemData) → p ≡ table d list → (claim : Claim) (lines : List Line) → IsSpent triple_ops p load_splits claim lines → IsLoadEnd d list ends.Budget
spent_end d list p is claim lines s = ((claim, lines), subst (λ (q : ProblemData). IsSpent triple_ops q load_splits claim lines) is s)

-- ---- the size of a generated list

accesses_are : (n : ℕ) → length (made n).accesses ≡ n
unfolding made
accesses_are n = length-map-range_with_len wish_at 0 n

-- not above the limit, with at most 64 accesses
few_enough : (n k a limit : ℕ) → a ≡ n → n ≤ 64 → 64 * k ≤ limit → a * k ≤ limit
few_enough n k a limit e few h = subst (λ b. b * k ≤ limit) (sym e) (omega (arith, mul-le-mul_right k few, h))

-- a list that can be made is within the limits
pub made_is_within : (n : ℕ) → can_be_made n ≡ true → size_fault sv39_data (made n) ≡ None
made_is_within n some =
    let both = and_parts (leb 1 n) (leb n 64) some in
    let few : n ≤ 64 = leb-true n 64 both.1 in
    let a = le-ltb most_read_product (read_product sv39_data (made n)) (few_enough n (read_nodes sv39_data) (length (made n).accesses) most_read_product (accesses_are n) few (lit≤ tt)) in
    let b = le-ltb most_done_product (done_product sv39_data (made n)) (few_enough n (done_nodes sv39_data) (length (made n).accesses) most_done_product (accesses_are n) few (lit≤ tt)) in
    let c = le-ltb most_term_product (term_product sv39_data (made n)) (few_enough n (length sv39_data.nodes + model_operators sv39_data) (length (made n).accesses) most_term_product (accesses_are n) few (lit≤ tt)) in
    rw (a, b, c) refl

-- its encoding fails only where memory ran out
pub fails_for_memory : (d : ModelData) (n : ℕ) (list : Requests) (e : EncodeFault) → d ≡ sv39_data → list ≡ made n → can_be_made n ≡ true
    → (e ≡ faults.Memory) ⊎ (Some e ≡ size_fault d list) → e ≡ faults.Memory
fails_for_memory d n list e model is some (inl h) = h
fails_for_memory d n list e model is some (inr h) =
    let same : size_fault d list ≡ size_fault sv39_data (made n) = ap (λ m. size_fault m list) model ∙ ap (size_fault sv39_data) is in
    let none : Some e ≡ None = h ∙ same ∙ made_is_within n some in
    absurd cc

-- ---- the answer

loaded_row : (n : ℕ) (end : LoadEnd) → IsLoadEnd sv39_data (made n) end → Replies (Loading (record { n = n })) (end_status end) (load_text n end)
loaded_row n (ends.Image words) h = ([], (ends.Image words, h, refl), refl)
loaded_row n ends.Impossible h = ([], (ends.Impossible, h, refl), refl)
loaded_row n ends.Budget h = ([], (ends.Budget, h, refl), refl)

pub replies_loaded : (n : ℕ) (end : LoadEnd) (reply : Reply) (text : List ℕ) → IsLoadEnd sv39_data (made n) end → text ≡ load_text n end → reply.status ≡ end_status end → bytes_of reply.text ≡ text
    → Replies (Loading (record { n = n })) reply.status (bytes_of reply.text)
replies_loaded n end reply text h e s t = ends_as no_reads (Loading (record { n = n })) (end_status end) reply.status (load_text n end) (bytes_of reply.text) s (t ∙ e) (loaded_row n end h)
