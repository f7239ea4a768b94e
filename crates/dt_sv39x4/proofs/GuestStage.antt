-- The G-stage's nodes do what the manual's G-stage says: one proof for the four of them.
use Rattle.std.proofs.Common.{◌≡◌, ℕ, ◌+◌, ◌*◌, ◌^◌, ◌<◌, Bool, true, false, not, eqb, Some, refl, sym, ap, ◌∙◌, subst, arith}
use Rattle.std.specs.Prelude.{if◌then◌else◌, ◌++◌}
use Rattle.std.proofs.lemmas.Bool.{eqb-true}
use Rattle.dt_model.specs.ModelData.{Tree, var}
use Rattle.dt_model.specs.Widths.{width_at}
use Rattle.dt_walk.specs.Meaning.{Vars, bound}
use Rattle.dt_manual.specs.declared.access.Sv39x4Setting.{Sv39x4Setting}
use Rattle.dt_manual.specs.declared.two_stages.Use.{Use}
use Rattle.dt_manual.specs.Entry.{field}
use Rattle.dt_manual.specs.Levels.{Part, Walked, StageEnd, reached, stopped, access_fault, guest_fault, ending, direct, levels_by}
use Rattle.dt_manual.specs.TwoStages.{g_stage, g_index, g_walk}
use Rattle.dt_stage.specs.Parts.{goes}
use Rattle.dt_stage.specs.Stage.{StandFrom, Forward, Tested, StageStands, GoesByLevels, stage_nodes, at_2, at_1, at_0}
use Rattle.dt_stage.specs.Tells.{Graph, Told, tells}
use Rattle.dt_stage.specs.Trees.{part, is}
use Rattle.dt_stage.specs.Values.{Has}
use Rattle.dt_stage.proofs.Goes.{goes_branch, goes_bind}
use Rattle.dt_stage.proofs.GoesByLevels.{stand_front, stand_after}
use Rattle.dt_stage.proofs.OneLevel.{first_at, h_var, bound_here}
use Rattle.dt_stage.proofs.Values.{h_part, h_joined, h_value, h_as, s_is}
use Rattle.dt_sv39.proofs.Walks.{cell_sum, low_alone}
use Rattle.dt_sv39x4.specs.declared.guest.Guest.{Guest}
use Rattle.dt_sv39x4.specs.Shipped.{hgatp, is_bare, level, guest_head, guest_stage, guest_results, guest_nodes, result_nodes, at_access_fault, at_guest_fault}
use Rattle.dt_sv39x4.proofs.Leaves.{no_more, ResultsStand, leaf_at_2, leaf_at_1, leaf_at_0}

top_sum : (h x : ℕ) → field 1 0 h ≡ 0 → field 43 2 h * 2 ^ 14 + (x * 2 ^ 3 + 0) ≡ field 43 0 h * 4096 + x * 8
top_sum h x e = omega arith

-- The nodes of a G-stage of the address x stand, for this use of it, and what comes after its results:
-- where it is Bare, and by the exponent of its page.
pub record GuestStands (g : Graph) (c : Sv39x4Setting) (u : Use) (s : Guest) (p : Part) (x : ℕ) (nodes : Part → ℕ → ℕ) (keeps : Vars → Bool) (k : StageEnd → Told) : Type 0 where
  pub stand : StandFrom g.steps s.at (guest_nodes s)
  pub has_hgatp : (w : Vars) → Has g.env w hgatp 64 c.hgatp
  pub aligned : field 1 0 c.hgatp ≡ 0
  pub tested : (e : ℕ) (cell : Tree) (granule leaf : ℕ) → width_at g.env.scope.vars e ≡ Some 64 → Tested g.env (level s.permission e cell granule leaf) (g_stage c u)
  pub wide : width_at g.env.scope.vars s.base ≡ Some 64
  pub wide2 : width_at g.env.scope.vars (s.base + 1) ≡ Some 64
  pub wide1 : width_at g.env.scope.vars (s.base + 1 + 1) ≡ Some 64
  pub wide0 : width_at g.env.scope.vars (s.base + 1 + 2) ≡ Some 64
  pub node2 : nodes p 2 ≡ at_2 (guest_stage s)
  pub node1 : nodes p 1 ≡ at_1 (guest_stage s)
  pub node0 : nodes p 0 ≡ at_0 (guest_stage s)
  pub has_x : (w : Vars) → keeps w ≡ true → w s.base ≡ x
  pub small : x < 2 ^ 64
  pub keep2 : (w : Vars) (e : ℕ) → keeps w ≡ true → keeps (bound w (s.base + 1) e) ≡ true
  pub keep1 : (w : Vars) (e : ℕ) → keeps w ≡ true → keeps (bound w (s.base + 1 + 1) e) ≡ true
  pub keep0 : (w : Vars) (e : ℕ) → keeps w ≡ true → keeps (bound w (s.base + 1 + 2) e) ≡ true
  pub keep_out : (w : Vars) (y : ℕ) → keeps w ≡ true → keeps (bound w (s.base + 4) y) ≡ true
  pub unread : (w : Vars) → tells g at_access_fault w ≡ k (stopped access_fault)
  pub fault : (w : Vars) → tells g at_guest_fault w ≡ k (stopped guest_fault)
  pub bare : (w : Vars) (y : ℕ) → keeps w ≡ true → w (s.base + 4) ≡ y → eqb c.hgatp 0 ≡ true → tells g s.bare w ≡ k (reached y 0)
  pub at30 : (w : Vars) (y : ℕ) → keeps w ≡ true → w (s.base + 4) ≡ y → eqb c.hgatp 0 ≡ false → tells g s.exits.page30 w ≡ k (reached y 30)
  pub at21 : (w : Vars) (y : ℕ) → keeps w ≡ true → w (s.base + 4) ≡ y → eqb c.hgatp 0 ≡ false → tells g s.exits.page21 w ≡ k (reached y 21)
  pub at16 : (w : Vars) (y : ℕ) → keeps w ≡ true → w (s.base + 4) ≡ y → eqb c.hgatp 0 ≡ false → tells g s.exits.page16 w ≡ k (reached y 16)
  pub at12 : (w : Vars) (y : ℕ) → keeps w ≡ true → w (s.base + 4) ≡ y → eqb c.hgatp 0 ≡ false → tells g s.exits.page12 w ≡ k (reached y 12)

eighteen : (n : ℕ) → n + 4 + 14 ≡ n + 18
eighteen n = omega arith

module _ (g : Graph) (f : Forward g) (c : Sv39x4Setting) (u : Use) (s : Guest) (p : Part) (x : ℕ) (nodes : Part → ℕ → ℕ) (keeps : Vars → Bool) (k : StageEnd → Told)
    (owed : GoesByLevels (guest_stage s)) (o : GuestStands g c u s p x nodes keeps k) where
  behind_head : StandFrom g.steps (s.at + 4) (stage_nodes (guest_stage s) ++ result_nodes (guest_results s))
  behind_head = stand_after g.steps s.at (guest_head s) (stage_nodes (guest_stage s) ++ result_nodes (guest_results s)) o.stand

  results_stand : StandFrom g.steps (s.at + 18) (result_nodes (guest_results s))
  results_stand = subst (λ n. StandFrom g.steps n (result_nodes (guest_results s))) (eighteen s.at) (stand_after g.steps (s.at + 4) (stage_nodes (guest_stage s)) (result_nodes (guest_results s)) behind_head)

  h_x : (w : Vars) → keeps w ≡ true → Has g.env w (var s.base) 64 x
  h_x w h = h_var g.env w s.base 64 x o.wide (o.has_x w h)

  results : eqb c.hgatp 0 ≡ false → ResultsStand g (guest_results s) x 56 keeps k
  results z = record {
    stand = results_stand;
    wide2 = o.wide2;
    wide1 = o.wide1;
    wide0 = o.wide0;
    has_x = h_x;
    pads = λ w t n h. h;
    keep_out = o.keep_out;
    at30 = λ w y h j b. o.at30 w y h j z;
    at21 = λ w y h j b. o.at21 w y h j z;
    at16 = λ w y h j b. o.at16 w y h j z;
    at12 = λ w y h j b. o.at12 w y h j z;
  }

  stands : eqb c.hgatp 0 ≡ false → StageStands g (guest_stage s) (g_stage c u) p x (field 43 0 c.hgatp * 4096) (g_index x) (direct g.memory) nodes keeps k
  stands z = record {
    stand = stand_front g.steps (s.at + 4) (stage_nodes (guest_stage s)) (result_nodes (guest_results s)) behind_head;
    tested2 = o.tested (s.base + 1) _ _ _ o.wide2;
    tested1 = o.tested (s.base + 1 + 1) _ _ _ o.wide1;
    tested0 = o.tested (s.base + 1 + 2) _ _ _ o.wide0;
    node2 = o.node2;
    node1 = o.node1;
    node0 = o.node0;
    keep2 = o.keep2;
    keep1 = o.keep1;
    keep0 = o.keep0;
    fetch2 = λ w next h r. ap (λ n. tells g n w) (no_more (s.at + 4)) ∙ r w _ h (h_as (h_joined (h_part 43 2 (o.has_hgatp w)) (h_joined (h_part 40 30 (h_x w h)) (h_value 3 0))) (top_sum c.hgatp (field 40 30 x) o.aligned));
    fetch1 = λ w e next h j r. ap (λ n. tells g n w) (no_more (at_2 (guest_stage s) + 5)) ∙ r w _ h (h_as (h_joined (h_part 53 10 (h_var g.env w (s.base + 1) 64 e o.wide2 j)) (h_joined (h_part 29 21 (h_x w h)) (h_value 3 0))) (cell_sum (field 53 10 e) (field 29 21 x)));
    fetch0 = λ w e next h j r. ap (λ n. tells g n w) (no_more (at_1 (guest_stage s) + 5)) ∙ r w _ h (h_as (h_joined (h_part 53 10 (h_var g.env w (s.base + 1 + 1) 64 e o.wide1 j)) (h_joined (h_part 20 12 (h_x w h)) (h_value 3 0))) (cell_sum (field 53 10 e) (field 20 12 x)));
    unread = λ w h. o.unread w;
    fault = λ w h. o.fault w;
    leaf2 = leaf_at_2 g f (guest_results s) x 56 keeps k (results z) (g_stage c u);
    leaf1 = leaf_at_1 g f (guest_results s) x 56 keeps k (results z) (g_stage c u);
    leaf0 = λ w e h j l. leaf_at_0 g f (guest_results s) x 56 keeps k (results z) w e h j;
  }

  abbrev paged : Walked
  paged = levels_by p (g_stage c u) (direct g.memory) x (g_index x) 3 (field 43 0 c.hgatp * 4096)

  abbrev whole : Walked
  whole = if not (eqb (field 63 56 x) 0) then ending (stopped access_fault) else ending (reached x 0)

  abbrev ranged : Walked
  ranged = if not (eqb (field 63 41 x) 0) then ending (stopped guest_fault) else paged

  -- Bare
  top : (b : Bool) → b ≡ eqb (field 63 56 x) 0 → (if b then k (reached (field 55 0 x) 0) else k (stopped access_fault)) ≡ goes nodes k (if not b then ending (stopped access_fault) else ending (reached x 0))
  top true h = ap (λ y. k (reached y 0)) (low_alone x o.small (eqb-true (field 63 56 x) 0 (sym h)))
  top false h = refl

  unmapped : (w : Vars) → keeps w ≡ true → eqb c.hgatp 0 ≡ true → tells g (s.at + 1) w ≡ goes nodes k whole
  unmapped w kept z =
      let y = field 55 0 x in
      goes_branch g f (s.at + 1) (is (part 63 56 (var s.base)) 8 0) (s.at + 2) at_access_fault w (eqb (field 63 56 x) 0) (o.stand 1 _ refl) (s_is 8 0 (h_part 63 56 (h_x w kept))).is
      ∙ ap (λ q. if eqb (field 63 56 x) 0 then q else tells g at_access_fault w) (goes_bind g f (s.at + 2) (s.base + 4) (part 55 0 (var s.base)) s.bare w 56 y (o.stand 2 _ refl) (h_part 55 0 (h_x w kept)).is ∙ o.bare (bound w (s.base + 4) y) y (o.keep_out w y kept) (bound_here w (s.base + 4) y) z)
      ∙ ap (λ q. if eqb (field 63 56 x) 0 then k (reached y 0) else q) (o.unread w)
      ∙ top (eqb (field 63 56 x) 0) refl

  -- the range of addresses, and then the tables
  past : (b : Bool) (q : Told) (v : Walked) → q ≡ goes nodes k v → (if b then q else k (stopped guest_fault)) ≡ goes nodes k (if not b then ending (stopped guest_fault) else v)
  past true q v h = h
  past false q v h = refl

  mapped : (w : Vars) → keeps w ≡ true → eqb c.hgatp 0 ≡ false → tells g (s.at + 3) w ≡ goes nodes k ranged
  mapped w kept z =
      goes_branch g f (s.at + 3) (is (part 63 41 (var s.base)) 23 0) (s.at + 4) at_guest_fault w (eqb (field 63 41 x) 0) (o.stand 3 _ refl) (s_is 23 0 (h_part 63 41 (h_x w kept))).is
      ∙ ap (λ q. if eqb (field 63 41 x) 0 then tells g (s.at + 4) w else q) (o.fault w)
      ∙ past (eqb (field 63 41 x) 0) (tells g (s.at + 4) w) paged (owed g (g_stage c u) p x (field 43 0 c.hgatp * 4096) (g_index x) (direct g.memory) nodes keeps k f (stands z) w kept)

  by_mode : (w : Vars) → keeps w ≡ true → (b : Bool) → eqb c.hgatp 0 ≡ b → (if b then tells g (s.at + 1) w else tells g (s.at + 3) w) ≡ goes nodes k (if b then whole else ranged)
  by_mode w kept true z = unmapped w kept z
  by_mode w kept false z = mapped w kept z

  pub guest_tells : (w : Vars) → keeps w ≡ true → tells g s.at w ≡ goes nodes k (g_walk c g.memory p u x)
  guest_tells w kept =
      goes_branch g f s.at is_bare (s.at + 1) (s.at + 3) w (eqb c.hgatp 0) (first_at g.steps s.at _ (o.stand 0 _ refl)) (s_is 64 0 (o.has_hgatp w)).is
      ∙ by_mode w kept (eqb c.hgatp 0) refl
