-- The VS-stage's entries, each at the end of the G-stage of its address.
use Rattle.std.proofs.Common.{◌≡◌, ℕ, ◌+◌, ◌*◌, ◌/◌, ◌%◌, ◌^◌, ◌<◌, Bool, true, eqb, [], refl, ◌∙◌, arith}
use Rattle.std.proofs.lemmas.Bool.{eqb-true, eq-eqb}
use Rattle.dt_bits.specs.Memory.{Memory}
use Rattle.dt_model.specs.ModelData.{Tree, var}
use Rattle.dt_walk.specs.Meaning.{Vars, bound}
use Rattle.dt_manual.specs.declared.access.Access.{Access}
use Rattle.dt_manual.specs.declared.access.Sv39x4Setting.{Sv39x4Setting}
use Rattle.dt_manual.specs.declared.two_stages.Use.TheVariants.{Explicit, Implicit}
use Rattle.dt_manual.specs.Entry.{field}
use Rattle.dt_manual.specs.Levels.{vs, of_entry, of_final, Walked, StageEnd, reached, stopped, fetched, at_result}
use Rattle.dt_manual.specs.TwoStages.{vs_stage, vs_fetch, g_walk}
use Rattle.dt_stage.specs.Parts.{goes}
use Rattle.dt_stage.specs.Stage.{ReadsAs, GoesByLevels, placed_2, placed_1, placed_0}
use Rattle.dt_stage.specs.Tells.{Told, ends, tells}
use Rattle.dt_stage.specs.Trees.{part}
use Rattle.dt_stage.specs.Values.{Has}
use Rattle.dt_stage.proofs.Goes.{goes_bind}
use Rattle.dt_stage.proofs.OneLevel.{h_var}
use Rattle.dt_stage.proofs.Parts.{fetch_goes}
use Rattle.dt_stage.proofs.Values.{h_part, h_joined, h_value, h_as}
use Rattle.dt_sv39.specs.Shipped.{va, entry_at}
use Rattle.dt_sv39.proofs.Walks.{cell_sum}
use Rattle.dt_sv39x4.specs.Expected.{both_bare}
use Rattle.dt_sv39x4.specs.Shipped as shipped
use Rattle.dt_sv39x4.specs.Shipped.{wide, virtual_stage, guest_stage, guest_a, guest_b, guest_c}
use Rattle.dt_sv39x4.proofs.Final.{k_final}
use Rattle.dt_sv39x4.proofs.GuestStage.{guest_tells}
use Rattle.dt_sv39x4.proofs.Machine.{env, graph, forward, h_vsatp, h_hgatp, h_va, read_tested, access_faults, guest_faults}
use Rattle.dt_sv39x4.proofs.Places.{read_node, ends_at}
use Rattle.dt_sv39x4.proofs.Stands.{a_stands, b_stands, c_stands}

-- what is told after the VS-stage
abbrev pub k_vs : Sv39x4Setting → Memory → Access → StageEnd → Told
k_vs c m a (stopped s) = ends (ends_at (both_bare c) a.kind (stopped s))
k_vs c m a (reached x page) = goes read_node (k_final c a page) (g_walk c m of_final (Explicit a.kind) x)

-- and after the G-stage of the VS entry of level i
abbrev k_entry : Sv39x4Setting → Memory → Access → ℕ → (ℕ → Walked) → StageEnd → Told
k_entry c m a i next end = goes read_node (k_vs c m a) (fetched vs (vs_stage c a) i a.va next (at_result m [] end))

small : (t x y : ℕ) → t % 2 ^ 44 * 4096 + x / y % 2 ^ 9 * 8 < 2 ^ 64
small t x y = by (x / y)
  where
    by : (z : ℕ) → t % 2 ^ 44 * 4096 + z % 2 ^ 9 * 8 < 2 ^ 64
    by z = omega arith

padded : (x : ℕ) → 0 * 2 ^ 56 + x ≡ x
padded x = omega arith

pub h_wide : (c : Sv39x4Setting) (a : Access) (w : Vars) (t : Tree) (n : ℕ) → Has (env c a) w t 56 n → Has (env c a) w (wide t) 64 n
h_wide c a w t n h = h_as (h_joined (h_value 8 0) h) (padded n)

-- a map of the VS-stage; one of the G-stage of the address x in the variable b
abbrev pub all : Vars → Bool
all w = true

abbrev holds : ℕ → ℕ → Vars → Bool
holds b x w = eqb (w b) x

pub fetch_2 : (c : Sv39x4Setting) (m : Memory) (a : Access) → GoesByLevels (guest_stage guest_a) → field 1 0 c.hgatp ≡ 0 → (w : Vars) (next : ℕ → Walked) → ReadsAs (graph c m a) vs (vs_stage c a) 2 a.va (placed_2 virtual_stage) read_node all (k_vs c m a) next
    → tells (graph c m a) 3 w ≡ goes read_node (k_vs c m a) (fetched vs (vs_stage c a) 2 a.va next (vs_fetch c m 2 (field 43 0 c.vsatp * 4096 + field 38 30 a.va * 8)))
fetch_2 c m a owed aligned w next r =
    let x = field 43 0 c.vsatp * 4096 + field 38 30 a.va * 8 in
    goes_bind (graph c m a) (forward c m a) 3 0 (wide (entry_at (part 43 0 shipped.vsatp) (part 38 30 va))) 4 w 64 x refl (h_wide c a w _ x (h_as (h_joined (h_part 43 0 (h_vsatp c a w)) (h_joined (h_part 38 30 (h_va c a w)) (h_value 3 0))) (cell_sum (field 43 0 c.vsatp) (field 38 30 a.va)))).is
    ∙ guest_tells (graph c m a) (forward c m a) c Implicit guest_a (of_entry 2) x read_node (holds 0 x) (k_entry c m a 2 next) owed
    (record {
      stand = a_stands;
      has_hgatp = h_hgatp c a;
      aligned = aligned;
      tested = read_tested c a;
      wide = refl;
      wide2 = refl;
      wide1 = refl;
      wide0 = refl;
      node2 = refl;
      node1 = refl;
      node0 = refl;
      has_x = λ v k. eqb-true (v 0) x k;
      small = small (c.vsatp / 2 ^ 0) a.va (2 ^ 30);
      keep2 = λ v e k. k;
      keep1 = λ v e k. k;
      keep0 = λ v e k. k;
      keep_out = λ v e k. k;
      unread = access_faults c m a;
      fault = guest_faults c m a;
      bare = λ v y k q z. r v y refl (h_var (env c a) v 4 56 y refl q);
      at30 = λ v y k q z. r v y refl (h_var (env c a) v 4 56 y refl q);
      at21 = λ v y k q z. r v y refl (h_var (env c a) v 4 56 y refl q);
      at16 = λ v y k q z. r v y refl (h_var (env c a) v 4 56 y refl q);
      at12 = λ v y k q z. r v y refl (h_var (env c a) v 4 56 y refl q);
    })
    (bound w 0 x) (eq-eqb x x refl)
    ∙ fetch_goes read_node (k_vs c m a) vs (vs_stage c a) m 2 a.va next (g_walk c m (of_entry 2) Implicit x)

pub fetch_1 : (c : Sv39x4Setting) (m : Memory) (a : Access) → GoesByLevels (guest_stage guest_b) → field 1 0 c.hgatp ≡ 0 → (w : Vars) (e : ℕ) (next : ℕ → Walked) → w 20 ≡ e → ReadsAs (graph c m a) vs (vs_stage c a) 1 a.va (placed_1 virtual_stage) read_node all (k_vs c m a) next
    → tells (graph c m a) 32 w ≡ goes read_node (k_vs c m a) (fetched vs (vs_stage c a) 1 a.va next (vs_fetch c m 1 (field 53 10 e * 4096 + field 29 21 a.va * 8)))
fetch_1 c m a owed aligned w e next j r =
    let x = field 53 10 e * 4096 + field 29 21 a.va * 8 in
    goes_bind (graph c m a) (forward c m a) 32 5 (wide (entry_at (part 53 10 (var 20)) (part 29 21 va))) 33 w 64 x refl (h_wide c a w _ x (h_as (h_joined (h_part 53 10 (h_var (env c a) w 20 64 e refl j)) (h_joined (h_part 29 21 (h_va c a w)) (h_value 3 0))) (cell_sum (field 53 10 e) (field 29 21 a.va)))).is
    ∙ guest_tells (graph c m a) (forward c m a) c Implicit guest_b (of_entry 1) x read_node (holds 5 x) (k_entry c m a 1 next) owed
    (record {
      stand = b_stands;
      has_hgatp = h_hgatp c a;
      aligned = aligned;
      tested = read_tested c a;
      wide = refl;
      wide2 = refl;
      wide1 = refl;
      wide0 = refl;
      node2 = refl;
      node1 = refl;
      node0 = refl;
      has_x = λ v k. eqb-true (v 5) x k;
      small = small (e / 2 ^ 10) a.va (2 ^ 21);
      keep2 = λ v d k. k;
      keep1 = λ v d k. k;
      keep0 = λ v d k. k;
      keep_out = λ v d k. k;
      unread = access_faults c m a;
      fault = guest_faults c m a;
      bare = λ v y k q z. r v y refl (h_var (env c a) v 9 56 y refl q);
      at30 = λ v y k q z. r v y refl (h_var (env c a) v 9 56 y refl q);
      at21 = λ v y k q z. r v y refl (h_var (env c a) v 9 56 y refl q);
      at16 = λ v y k q z. r v y refl (h_var (env c a) v 9 56 y refl q);
      at12 = λ v y k q z. r v y refl (h_var (env c a) v 9 56 y refl q);
    })
    (bound w 5 x) (eq-eqb x x refl)
    ∙ fetch_goes read_node (k_vs c m a) vs (vs_stage c a) m 1 a.va next (g_walk c m (of_entry 1) Implicit x)

pub fetch_0 : (c : Sv39x4Setting) (m : Memory) (a : Access) → GoesByLevels (guest_stage guest_c) → field 1 0 c.hgatp ≡ 0 → (w : Vars) (e : ℕ) (next : ℕ → Walked) → w 21 ≡ e → ReadsAs (graph c m a) vs (vs_stage c a) 0 a.va (placed_0 virtual_stage) read_node all (k_vs c m a) next
    → tells (graph c m a) 61 w ≡ goes read_node (k_vs c m a) (fetched vs (vs_stage c a) 0 a.va next (vs_fetch c m 0 (field 53 10 e * 4096 + field 20 12 a.va * 8)))
fetch_0 c m a owed aligned w e next j r =
    let x = field 53 10 e * 4096 + field 20 12 a.va * 8 in
    goes_bind (graph c m a) (forward c m a) 61 10 (wide (entry_at (part 53 10 (var 21)) (part 20 12 va))) 62 w 64 x refl (h_wide c a w _ x (h_as (h_joined (h_part 53 10 (h_var (env c a) w 21 64 e refl j)) (h_joined (h_part 20 12 (h_va c a w)) (h_value 3 0))) (cell_sum (field 53 10 e) (field 20 12 a.va)))).is
    ∙ guest_tells (graph c m a) (forward c m a) c Implicit guest_c (of_entry 0) x read_node (holds 10 x) (k_entry c m a 0 next) owed
    (record {
      stand = c_stands;
      has_hgatp = h_hgatp c a;
      aligned = aligned;
      tested = read_tested c a;
      wide = refl;
      wide2 = refl;
      wide1 = refl;
      wide0 = refl;
      node2 = refl;
      node1 = refl;
      node0 = refl;
      has_x = λ v k. eqb-true (v 10) x k;
      small = small (e / 2 ^ 10) a.va (2 ^ 12);
      keep2 = λ v d k. k;
      keep1 = λ v d k. k;
      keep0 = λ v d k. k;
      keep_out = λ v d k. k;
      unread = access_faults c m a;
      fault = guest_faults c m a;
      bare = λ v y k q z. r v y refl (h_var (env c a) v 14 56 y refl q);
      at30 = λ v y k q z. r v y refl (h_var (env c a) v 14 56 y refl q);
      at21 = λ v y k q z. r v y refl (h_var (env c a) v 14 56 y refl q);
      at16 = λ v y k q z. r v y refl (h_var (env c a) v 14 56 y refl q);
      at12 = λ v y k q z. r v y refl (h_var (env c a) v 14 56 y refl q);
    })
    (bound w 10 x) (eq-eqb x x refl)
    ∙ fetch_goes read_node (k_vs c m a) vs (vs_stage c a) m 0 a.va next (g_walk c m (of_entry 0) Implicit x)
