-- The problem of a list within the limits has 4,000,000 terms at most.
use Rattle.std.proofs.Common.{◌≡◌, ℕ, ◌+◌, ◌-◌, ◌*◌, ◌≤◌, cond, List, [], ◌∷◌, ◌++◌, length, map, refl, ap, ◌∙◌, arith, length-append}
use Rattle.std.specs.List.{flat_map}
use Rattle.std.proofs.Math.Nat.{mul-le-mul, mul-le-mul_left, mul-le-mul_right, mul-add, mul_left_comm}
use Rattle.std.proofs.lemmas.List.{length-map}
use Rattle.std.proofs.lemmas.List.Elements.{All-from_recursion}
use Rattle.std.proofs.lemmas.List.Recursion.{is_sum_by, is_count_by}
use Rattle.dt_lemmas.proofs.Lists.{length_flat}
use Rattle.dt_model.specs.ModelData.{ModelData, Tree, ActData, NodeData, bind, read, branch, fault, done}
use Rattle.dt_model.specs.Faults.{IsAccepted, HaveArities, steps, is_done, count_of, step_operators, rule_operators, node_operators}
use Rattle.dt_model.specs.Widths.{operators}
use Rattle.dt_model.proofs.Accepting.{few_regs, few_inputs, few_context_rules, few_access_rules}
use Rattle.dt_request.specs.declared.list.Requests.{Requests}
use Rattle.dt_request.specs.Choices.{read_nodes}
use Rattle.dt_request.specs.Lists.{IsList}
use Rattle.dt_terms.specs.Problem.{IsProblem, IsTest, most_terms}
use Rattle.dt_forms.proofs.Fine.{forms_size, size_append}
use Rattle.dt_table.specs.declared.out.Out.{Out}
use Rattle.dt_table.specs.Claims.{reads_of}
use Rattle.dt_table.proofs.Every.{every_pair, every_link, every_block, every_keep, every_list, every_claim, claim_part}
use Rattle.dt_table.specs.Apart.{pages_at, tables_at}
use Rattle.dt_table.proofs.Small.{small_is}
use Rattle.dt_table.specs.Sizes.{IsWithin, done_nodes, model_operators, read_product, done_product}
use Rattle.dt_table.specs.Table.{names_chosen, access_chosen, choices, list_access, bit_node, start, built, wish_forms, claim_forms, table}
use Rattle.dt_table.proofs.Ready.{reads_in, reads_in_nodes, access_length}
use Rattle.dt_table.proofs.Stand.{names_length, repeated_length}
use Rattle.dt_table.proofs.FineWalks.{steps_size}
use Rattle.dt_table.proofs.FineLists.{rules_size, access_size}
use Rattle.dt_table.proofs.FineSizes.{dones_in, pages_count, tables_count, reads_count, aparts_size, pairs_size, keeps_size, wishes_size, links_size}
use Rattle.dt_table.proofs.FineTable.{table_whole, wishes_of, wish_few}
use Rattle.dt_table.specs.Unlike.{all_unlikes, unlike_forms}
use Rattle.dt_table.proofs.FineUnlike.{unlikes_size}

-- ---- operators and nodes

abbrev ops_in : List Tree → ℕ
ops_in [] = 0
ops_in (t ∷ ts) = operators t + ops_in ts

rules_total : (ts : List Tree) → rules_size ts ≡ 3 * ops_in ts + length ts
rules_total [] = refl
rules_total (t ∷ ts) = let e = rules_total ts in omega (arith, e)

abbrev step_ops : List NodeData → ℕ
step_ops [] = 0
step_ops (n ∷ ns) = step_operators n.step + step_ops ns

steps_total : (ns : List NodeData) → steps_size (map (λ n. n.step) ns) ≡ 3 * step_ops ns + 7 * length ns + 11 * reads_in (map (λ n. n.step) ns)
steps_total [] = refl
steps_total (n ∷ ns) = let e = steps_total ns in omega (arith, e)

done_more : (p : ActData) (ps : List ActData) → dones_in (p ∷ ps) ≡ cond (is_done p) (1 + dones_in ps) (dones_in ps)
done_more (bind x e to) ps = refl
done_more (read x e g t o) ps = refl
done_more (branch e t o) ps = refl
done_more (fault c) ps = refl
done_more (done e p) ps = refl

dones_total : (ns : List NodeData) → dones_in (map (λ n. n.step) ns) ≡ count_of is_done ns
dones_total ns = is_count_by (λ (ms : List NodeData). dones_in (map (λ n. n.step) ms)) (λ (n : NodeData). is_done n.step) refl (λ x xs. done_more x.step (map (λ (n : NodeData). n.step) xs)) ns

-- ---- the parts

starts_most : (d : ModelData) (r : Requests) → IsAccepted d → IsList d r → IsWithin d r → length (start d r).terms ≤ 1794
starts_most d r a list within =
    let contexts = flat_map (λ _. names_chosen d.regs) r.contexts in
    let accesses = flat_map (λ _. access_chosen d) r.accesses in
    let A = length r.accesses in
    let C = length r.contexts in
    let x = length-append (choices d r) (bit_node 0 ∷ bit_node 1 ∷ []) in
    let y = length-append contexts accesses in
    let c : length contexts ≡ C * length d.regs = repeated_length (names_chosen d.regs) r.contexts ∙ ap (λ (n : ℕ). C * n) (names_length d.regs) in
    let k : length accesses ≡ A * length d.inputs + A * read_nodes d = repeated_length (access_chosen d) r.accesses ∙ ap (λ (n : ℕ). A * n) (access_length d) ∙ mul-add A (length d.inputs) (read_nodes d) in
    let l : C * length d.regs ≤ 16 * 32 = mul-le-mul list.few_contexts (few_regs d a) in
    let m : A * length d.inputs ≤ 64 * 16 = mul-le-mul list.few_accesses (few_inputs d a) in
    let q = within.reads in
    omega (arith, x, y, c, k, l, m, q)

contexts_most : (d : ModelData) (r : Requests) → IsAccepted d → IsList d r → length r.contexts * rules_size d.legal_context ≤ 393728
contexts_most d r a list =
    let small = small_is d a in
    let e = rules_total d.legal_context in
    let o : ops_in d.legal_context ≡ rule_operators d.legal_context = is_sum_by ops_in operators refl (λ x xs. refl) d.legal_context in
    let n = few_context_rules d a in
    let most : rules_size d.legal_context ≤ 24608 = (let s = small.operators in omega (arith, e, o, n, s)) in
    let l : length r.contexts * rules_size d.legal_context ≤ 16 * 24608 = mul-le-mul list.few_contexts most in
    omega (arith, l)

accesses_most : (d : ModelData) (r : Requests) → IsAccepted d → IsList d r → IsWithin d r → length r.accesses * access_size d ≤ 1404864
accesses_most d r a list within =
    let A = length r.accesses in
    let X = length d.nodes + model_operators d in
    let R = read_nodes d in
    let e = rules_total d.legal_access in
    let f = steps_total d.nodes in
    let o : ops_in d.legal_access ≡ rule_operators d.legal_access = is_sum_by ops_in operators refl (λ x xs. refl) d.legal_access in
    let p : step_ops d.nodes ≡ node_operators d.nodes = is_sum_by step_ops (λ (n : NodeData). step_operators n.step) refl (λ x xs. refl) d.nodes in
    let n = few_access_rules d a in
    let same = reads_in_nodes d.nodes in
    let most : access_size d ≤ 7 * X + (32 + 11 * R) = omega (arith, e, f, o, p, n, same) in
    let l : A * access_size d ≤ A * (7 * X + (32 + 11 * R)) = mul-le-mul_left A most in
    let s = mul-add A (7 * X) (32 + 11 * R) in
    let t = mul-add A 32 (11 * R) in
    let u : A * (7 * X) ≡ 7 * (A * X) = mul_left_comm A 7 X in
    let v : A * (11 * R) ≡ 11 * (A * R) = mul_left_comm A 11 R in
    let w = list.few_accesses in
    let y = within.terms in
    let z = within.reads in
    omega (arith, l, s, t, u, v, w, y, z)

every_most : (d : ModelData) (r : Requests) (oss : List (List Out)) → IsAccepted d → IsList d r → IsWithin d r → length oss ≡ length r.accesses → forms_size (every_claim d r oss) ≤ 1802240
every_most d r oss accepted list within same =
    let a = list_access d r in
    let A = length r.accesses in
    let D = dones_in (steps d) in
    let pages = flat_map (pages_at (steps d)) oss in
    let tables = flat_map (tables_at (steps d)) oss in
    let reads = flat_map (reads_of (steps d)) oss in
    let links = flat_map (every_link d a oss) r.links in
    let dones : D ≡ done_nodes d = dones_total d.nodes in
    let few : D ≤ 16 = (let s = (small_is d accepted).dones in omega (arith, dones, s)) in
    let known : reads_in (steps d) ≡ read_nodes d = reads_in_nodes d.nodes in
    let p1 = length_flat (pages_at (steps d)) D (pages_count (steps d)) oss in
    let p2 : length oss * D ≡ done_product d r = ap (λ (n : ℕ). n * D) same ∙ ap (λ (n : ℕ). A * n) dones in
    let pages_most : length pages ≤ 512 = (let w = within.dones in omega (arith, p1, p2, w)) in
    let q2 : length oss * reads_in (steps d) ≡ read_product d r = ap (λ (n : ℕ). n * reads_in (steps d)) same ∙ ap (λ (n : ℕ). A * n) known in
    let q1 = length_flat (tables_at (steps d)) (reads_in (steps d)) (tables_count (steps d)) oss in
    let tables_most : length tables ≤ 256 = (let w = within.reads in omega (arith, q1, q2, w)) in
    let q3 = length_flat (reads_of (steps d)) (reads_in (steps d)) (reads_count (steps d)) oss in
    let reads_most : length reads ≤ 256 = (let w = within.reads in omega (arith, q3, q2, w)) in
    let s1 = size_append (every_pair reads) (every_list d r oss) in
    let s2 = size_append (wish_forms d r 0 r.accesses oss) (links ++ (every_block d r oss ++ every_keep d r oss)) in
    let s3 = size_append links (every_block d r oss ++ every_keep d r oss) in
    let s4 = size_append (every_block d r oss) (every_keep d r oss) in
    let x1 = pairs_size reads in
    let y1 : length reads * (length reads * 6) ≤ 256 * (256 * 6) = mul-le-mul reads_most (mul-le-mul_right 6 reads_most) in
    let x2 = wishes_size d r r.accesses oss 0 (wish_few d r r.accesses (wishes_of d r list)) in
    let y2 : A * (64 * (D * 8 + 7)) ≡ 64 * (A * (D * 8 + 7)) = mul_left_comm A 64 (D * 8 + 7) in
    let z2 = mul-add A (D * 8) 7 in
    let eight : D * 8 ≡ 8 * D = omega arith in
    let w2 : A * (D * 8) ≡ 8 * (A * D) = ap (λ (n : ℕ). A * n) eight ∙ mul_left_comm A 8 D in
    let v2 : A * D ≡ done_product d r = ap (λ (n : ℕ). A * n) dones in
    let x3 = links_size d a oss r.links few in
    let y3 : length r.links * 1536 ≤ 256 * 1536 = mul-le-mul_right 1536 list.few_links in
    let x4 = aparts_size a pages tables in
    let y4 : length pages * (length tables * 6) ≤ 512 * (256 * 6) = mul-le-mul pages_most (mul-le-mul_right 6 tables_most) in
    let x5 = keeps_size a pages tables r.kept in
    let one_range : length pages * 11 + length tables * 11 ≤ 8448 = omega (arith, pages_most, tables_most) in
    let y5 : length r.kept * (length pages * 11 + length tables * 11) ≤ 16 * 8448 = mul-le-mul list.few_kept one_range in
    let n = list.few_accesses in
    let w = within.dones in
    omega (arith, s1, s2, s3, s4, x1, y1, x2, y2, z2, w2, v2, x3, y3, x4, y4, x5, y5, n, w)

pub claims_most : (d : ModelData) (r : Requests) (oss : List (List Out)) → IsAccepted d → IsList d r → IsWithin d r → length oss ≡ length r.accesses → forms_size (claim_forms d r oss) ≤ 1802240
claims_most d r oss accepted list within same = let m = (claim_part d r oss).most in let n = every_most d r oss accepted list within same in omega (arith, m, n)

-- ---- the whole

-- the nodes of all accesses
nodes_most : (d : ModelData) (r : Requests) → IsWithin d r → length r.accesses * length (steps d) ≤ 200000
nodes_most d r within =
    let A = length r.accesses in
    let N = length d.nodes in
    let same : A * length (steps d) ≡ A * N = ap (λ (n : ℕ). A * n) (length-map d.nodes (λ n. n.step)) in
    let part : A * N ≤ A * (N + model_operators d) = mul-le-mul_left A (omega arith) in
    let w = within.terms in
    omega (arith, same, part, w)

-- the words that differ
unlikes_most : (d : ModelData) (r : Requests) → IsAccepted d → IsList d r → forms_size (unlike_forms (list_access d r) (all_unlikes d r (built d r).terms (built d r).outs)) ≤ 196608
unlikes_most d r accepted list =
    let dones : dones_in (steps d) ≡ done_nodes d = dones_total d.nodes in
    let few : dones_in (steps d) ≤ 16 = (let s = (small_is d accepted).dones in omega (arith, dones, s)) in
    let x = unlikes_size d r (list_access d r) (built d r).terms (built d r).outs few in
    let y : length r.links * 768 ≤ 256 * 768 = mul-le-mul_right 768 list.few_links in
    omega (arith, x, y)

pub table_count : (d : ModelData) (r : Requests) → IsAccepted d → HaveArities d → IsList d r → IsWithin d r → length (table d r).terms ≤ most_terms
table_count d r a h list within =
    let whole = table_whole d r a h list in
    let x = starts_most d r a list within in
    let y = contexts_most d r a list in
    let z = accesses_most d r a list within in
    let c = claims_most d r (built d r).outs a list within whole.count in
    let n = nodes_most d r within in
    let u = unlikes_most d r a list in
    let m = whole.most in
    omega (arith, x, y, z, c, n, u, m)

pub table_problem : (d : ModelData) (r : Requests) → IsAccepted d → HaveArities d → IsList d r → IsWithin d r → IsProblem (table d r)
table_problem d r a h list within =
    let whole = table_whole d r a h list in
    record { count = table_count d r a h list within; terms = whole.terms_are; required = All-from_recursion (IsTest (table d r).terms) (table d r).required whole.tests }
