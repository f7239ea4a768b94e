-- The shipped model's walk is the manual's, from what the nodes of its five stages owe.
use Rattle.std.proofs.Common.{◌≡◌, ℕ, ◌*◌, ◌^◌, ◌<◌, Bool, true, false, not, ◌&&◌, ◌||◌, eqb, List, [], ◌++◌, map, Some, refl, sym, ap, ◌∙◌, subst}
use Rattle.std.specs.Prelude.{if◌then◌else◌, slice_get}
use Rattle.std.proofs.lemmas.Bool.{true≢false, and_parts, eqb-true}
use Rattle.dt_bits.specs.Memory.{Memory}
use Rattle.dt_model.specs.ModelData.{ModelData, value, bind}
use Rattle.dt_model.specs.Faults.{steps}
use Rattle.dt_walk.specs.Meaning.{Vars, bound, unbound}
use Rattle.dt_walk.specs.Walks.{walk_of}
use Rattle.dt_manual.specs.declared.access.Access.{Access}
use Rattle.dt_manual.specs.declared.access.Sv39x4Setting.{Sv39x4Setting}
use Rattle.dt_manual.specs.declared.two_stages.Use.TheVariants.{Explicit}
use Rattle.dt_manual.specs.Entry.{field}
use Rattle.dt_manual.specs.Levels.{vs, of_final, Entry, Walked, StageEnd, reached, stopped, page_fault, ending, levels_by}
use Rattle.dt_manual.specs.Sv39.{index, canonical}
use Rattle.dt_manual.specs.TwoStages.{g_walk, vs_stage, vs_fetch, vs_walk, then_final, paged, sv39x4_walk}
use Rattle.dt_stage.specs.Parts.{part_made, goes}
use Rattle.dt_stage.specs.Stage.{StageStands, GoesByLevels}
use Rattle.dt_stage.specs.Tells.{Told, told, tells}
use Rattle.dt_stage.specs.Trees.{is}
use Rattle.dt_stage.proofs.Goes.{goes_branch, goes_bind}
use Rattle.dt_stage.proofs.Parts.{map_append}
use Rattle.dt_stage.proofs.Values.{h_part, s_is, s_either}
use Rattle.dt_sv39.specs.Expected.{inputs_of}
use Rattle.dt_sv39.specs.Law.{is_legal_satp}
use Rattle.dt_sv39.specs.Shipped.{va, is_sign_extended}
use Rattle.dt_sv39.proofs.Walks.{nothing_more}
use Rattle.dt_sv39x4.specs.Expected.{regs_of, both_bare, expected}
use Rattle.dt_sv39x4.specs.Law.{is_legal_hgatp, WalksAsManual}
use Rattle.dt_sv39x4.specs.Shipped as shipped
use Rattle.dt_sv39x4.specs.Shipped.{sv39x4_data, virtual_stage, virtual_results, guest_stage, guest_a, guest_b, guest_c, guest_final}
use Rattle.dt_sv39x4.proofs.EntryStages.{k_vs, h_wide, all, fetch_2, fetch_1, fetch_0}
use Rattle.dt_sv39x4.proofs.Final.{final_told, Size, size, none, s30, s21, s16, s12}
use Rattle.dt_sv39x4.proofs.Machine.{graph, forward, h_vsatp, h_va, virtual_tested, page_faults, access_faults}
use Rattle.dt_sv39x4.proofs.Places.{read_node, ends_at, placed, by_names}
use Rattle.dt_sv39x4.proofs.Leaves.{ResultsStand, leaf_at_2, leaf_at_1, leaf_at_0}
use Rattle.dt_sv39x4.proofs.Stands.{virtual_stands, led_stands}

-- ---- what is expected

all_placed : (c : Sv39x4Setting) (m : Memory) (a : Access) (es : List Entry) (end : StageEnd) → goes read_node (k_vs c m a) (record { entries = es; end = end }) ≡ placed (both_bare c) a.kind (then_final c m a es end)
all_placed c m a es (stopped s) = ap (λ l. record { reads = l; end = ends_at (both_bare c) a.kind (stopped s) }) (sym (map_append (part_made read_node) es []))
all_placed c m a es (reached x page) =
    let w = g_walk c m of_final (Explicit a.kind) x in
    ap (λ l. record { reads = map (part_made read_node) es ++ l; end = ends_at (both_bare c) a.kind (paged page w.end) }) (nothing_more (map (part_made read_node) w.entries))
    ∙ ap (λ l. record { reads = l; end = ends_at (both_bare c) a.kind (paged page w.end) }) (sym (map_append (part_made read_node) es w.entries))

-- ---- legal registers

last_of : (p q r z : Bool) → (p && (q && r) || z) ≡ true → z ≡ false → r ≡ true
last_of true true true z h j = refl
last_of true true false z h j = absurd (true≢false (sym h ∙ j))
last_of true false r z h j = absurd (true≢false (sym h ∙ j))
last_of false q r z h j = absurd (true≢false (sym h ∙ j))

is_aligned : (n : ℕ) → is_legal_hgatp n ≡ true → field 1 0 n ≡ 0
is_aligned n h = by (eqb n 0) refl
  where
    by : (b : Bool) → eqb n 0 ≡ b → field 1 0 n ≡ 0
    by true z = ap (λ k. field 1 0 k) (eqb-true n 0 z)
    by false z = eqb-true (field 1 0 n) 0 (last_of (eqb (field 63 60 n) 8) (eqb (field 59 58 n) 0) (eqb (field 1 0 n) 0) (eqb n 0) h z)

-- ---- the VS-stage

module _ (owed_v : GoesByLevels virtual_stage) (owed_a : GoesByLevels (guest_stage guest_a)) (owed_b : GoesByLevels (guest_stage guest_b)) (owed_c : GoesByLevels (guest_stage guest_c)) (owed_g : GoesByLevels (guest_stage guest_final))
    (c : Sv39x4Setting) (m : Memory) (a : Access) (aligned : field 1 0 c.hgatp ≡ 0) where
  vs_exit : (v : Size) (n y : ℕ) (w : Vars) → slice_get (steps sv39x4_data) n ≡ Some (bind 23 (value 5 (size v)) 99)
      → eqb c.vsatp 0 ≡ eqb (size v) 0 → w 15 ≡ y → y < 2 ^ 64 → tells (graph c m a) n w ≡ k_vs c m a (reached y (size v))
  vs_exit v n y w stands hv h small =
      goes_bind (graph c m a) (forward c m a) n 23 (value 5 (size v)) 99 w 5 (size v) stands refl
      ∙ final_told c m a owed_g aligned v y (bound w 23 (size v)) h refl hv small

  results : eqb c.vsatp 0 ≡ false → ResultsStand (graph c m a) virtual_results a.va 64 all (k_vs c m a)
  results z = record {
    stand = led_stands;
    wide2 = refl;
    wide1 = refl;
    wide0 = refl;
    has_x = λ w h. h_va c a w;
    pads = h_wide c a;
    keep_out = λ w y h. h;
    at30 = λ w y h o s. vs_exit s30 95 y w refl z o s;
    at21 = λ w y h o s. vs_exit s21 96 y w refl z o s;
    at16 = λ w y h o s. vs_exit s16 97 y w refl z o s;
    at12 = λ w y h o s. vs_exit s12 98 y w refl z o s;
  }

  stands : eqb c.vsatp 0 ≡ false → StageStands (graph c m a) virtual_stage (vs_stage c a) vs a.va (field 43 0 c.vsatp * 4096) (index a.va) (vs_fetch c m) read_node all (k_vs c m a)
  stands z = record {
    stand = virtual_stands;
    tested2 = virtual_tested c a 20 _ _ _ refl;
    tested1 = virtual_tested c a 21 _ _ _ refl;
    tested0 = virtual_tested c a 22 _ _ _ refl;
    node2 = refl;
    node1 = refl;
    node0 = refl;
    keep2 = λ w e h. h;
    keep1 = λ w e h. h;
    keep0 = λ w e h. h;
    fetch2 = λ w next h r. fetch_2 c m a owed_a aligned w next r;
    fetch1 = λ w e next h j r. fetch_1 c m a owed_b aligned w e next j r;
    fetch0 = λ w e next h j r. fetch_0 c m a owed_c aligned w e next j r;
    unread = λ w h. access_faults c m a w;
    fault = λ w h. page_faults c m a w;
    leaf2 = leaf_at_2 (graph c m a) (forward c m a) virtual_results a.va 64 all (k_vs c m a) (results z) (vs_stage c a);
    leaf1 = leaf_at_1 (graph c m a) (forward c m a) virtual_results a.va 64 all (k_vs c m a) (results z) (vs_stage c a);
    leaf0 = λ w e h j l. leaf_at_0 (graph c m a) (forward c m a) virtual_results a.va 64 all (k_vs c m a) (results z) w e h j;
  }

  abbrev tables : Walked
  tables = levels_by vs (vs_stage c a) (vs_fetch c m) a.va (index a.va) 3 (field 43 0 c.vsatp * 4096)

  from_tables : eqb c.vsatp 0 ≡ false → (w : Vars) → tells (graph c m a) 3 w ≡ goes read_node (k_vs c m a) tables
  from_tables z w = owed_v (graph c m a) (vs_stage c a) vs a.va (field 43 0 c.vsatp * 4096) (index a.va) (vs_fetch c m) read_node all (k_vs c m a) (forward c m a) (stands z) w refl

  -- ---- from the first node on

  bare : a.va < 2 ^ 64 → eqb c.vsatp 0 ≡ true → tells (graph c m a) 1 unbound ≡ k_vs c m a (reached a.va 0)
  bare small z = goes_bind (graph c m a) (forward c m a) 1 15 va 94 unbound 64 a.va refl (h_va c a unbound).is ∙ vs_exit none 94 a.va (bound unbound 15 a.va) refl z refl small

  if_canonical : (b : Bool) (x : Told) (w : Walked) → x ≡ goes read_node (k_vs c m a) w → (if b then x else k_vs c m a (stopped page_fault)) ≡ goes read_node (k_vs c m a) (if not b then ending (stopped page_fault) else w)
  if_canonical true x w h = h
  if_canonical false x w h = refl

  signed : eqb c.vsatp 0 ≡ false → tells (graph c m a) 2 unbound ≡ goes read_node (k_vs c m a) (if not (canonical a.va) then ending (stopped page_fault) else tables)
  signed z =
      goes_branch (graph c m a) (forward c m a) 2 is_sign_extended 3 136 unbound (canonical a.va) refl (s_either (s_is 26 0 (h_part 63 38 (h_va c a unbound))) (s_is 26 67108863 (h_part 63 38 (h_va c a unbound)))).is
      ∙ ap (λ t. if canonical a.va then tells (graph c m a) 3 unbound else t) (page_faults c m a unbound)
      ∙ if_canonical (canonical a.va) (tells (graph c m a) 3 unbound) tables (from_tables z unbound)

  by_mode : a.va < 2 ^ 64 → (b : Bool) → eqb c.vsatp 0 ≡ b → (if b then tells (graph c m a) 1 unbound else tells (graph c m a) 2 unbound) ≡ goes read_node (k_vs c m a) (if b then ending (reached a.va 0) else (if not (canonical a.va) then ending (stopped page_fault) else tables))
  by_mode small true z = bare small z
  by_mode small false z = signed z

  first_told : a.va < 2 ^ 64 → tells (graph c m a) 0 unbound ≡ goes read_node (k_vs c m a) (vs_walk c m a)
  first_told small =
      goes_branch (graph c m a) (forward c m a) 0 (is shipped.vsatp 64 0) 1 2 unbound (eqb c.vsatp 0) refl (s_is 64 0 (h_vsatp c a unbound)).is
      ∙ by_mode small (eqb c.vsatp 0) refl

  -- ---- the whole walk

  pub sv39x4_same : a.va < 2 ^ 64 → told (walk_of sv39x4_data (regs_of c) (inputs_of a) m) ≡ expected sv39x4_data (both_bare c) a.kind (sv39x4_walk c m a)
  sv39x4_same small =
      first_told small
      ∙ all_placed c m a (vs_walk c m a).entries (vs_walk c m a).end
      ∙ by_names (both_bare c) a.kind (sv39x4_walk c m a)

pub walks_as_manual : (d : ModelData) → d ≡ sv39x4_data → GoesByLevels virtual_stage → GoesByLevels (guest_stage guest_a) → GoesByLevels (guest_stage guest_b) → GoesByLevels (guest_stage guest_c) → GoesByLevels (guest_stage guest_final) → WalksAsManual d
walks_as_manual d e owed_v owed_a owed_b owed_c owed_g = subst WalksAsManual (sym e) (λ c m a legal wide. sv39x4_same owed_v owed_a owed_b owed_c owed_g c m a (is_aligned c.hgatp (and_parts (is_legal_satp c.vsatp) (is_legal_hgatp c.hgatp) legal).1) wide)
