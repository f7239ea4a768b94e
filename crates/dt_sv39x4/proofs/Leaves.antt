-- A stage's results: where a leaf of each level leads.
use Rattle.std.proofs.Common.{◌≡◌, ℕ, ◌+◌, ◌*◌, ◌%◌, ◌^◌, ◌<◌, Bool, true, false, Some, refl, ap, ◌∙◌, arith}
use Rattle.std.specs.Prelude.{if◌then◌else◌}
use Rattle.std.proofs.lemmas.Bool.{true≢false}
use Rattle.dt_model.specs.ModelData.{Tree, var}
use Rattle.dt_model.specs.Widths.{width_at}
use Rattle.dt_walk.specs.Meaning.{Vars, bound}
use Rattle.dt_manual.specs.Entry.{field, N, leaf, judged, led, page_of}
use Rattle.dt_manual.specs.Levels.{StageEnd, reached, Stage}
use Rattle.dt_stage.specs.Stage.{StandFrom, Forward}
use Rattle.dt_stage.specs.Tells.{Graph, Told, tells}
use Rattle.dt_stage.specs.Trees.{bit}
use Rattle.dt_stage.specs.Values.{Has}
use Rattle.dt_stage.proofs.Goes.{goes_branch, goes_bind}
use Rattle.dt_stage.proofs.OneLevel.{first_at, h_var, bound_here}
use Rattle.dt_stage.proofs.Values.{h_part, s_bit, h_joined}
use Rattle.dt_sv39.proofs.Walks.{from_zero, leaf_2, leaf_1}
use Rattle.dt_sv39x4.specs.Shipped.{leads, held, result_nodes}
use Rattle.dt_sv39x4.specs.Shipped as shipped
use Rattle.dt_sv39x4.specs.declared.results.Results.{Results}

pub no_more : (n : ℕ) → n ≡ n + 0
no_more n = omega arith

-- ---- numbers

small_30 : (e x : ℕ) → field 53 28 e * 2 ^ 30 + field 29 0 x < 2 ^ 64
small_30 e x = omega arith

small_21 : (e x : ℕ) → field 53 19 e * 2 ^ 21 + field 20 0 x < 2 ^ 64
small_21 e x = omega arith

small_16 : (e x : ℕ) → field 53 14 e * 2 ^ 16 + field 15 0 x < 2 ^ 64
small_16 e x = omega arith

small_12 : (e x : ℕ) → field 53 10 e * 2 ^ 12 + field 11 0 x < 2 ^ 64
small_12 e x = omega arith

by_2 : (k : StageEnd → Told) (x : ℕ) (b : Bool) (y z : ℕ) → b ≡ false → k (reached (z * 2 ^ 30 + field 29 0 x) 30) ≡ k (reached (if b then y * 2 ^ 16 + x % 2 ^ 16 else z * 2 ^ 30 + x % 2 ^ 30) (if b then 16 else 30))
by_2 k x true y z h = absurd (true≢false h)
by_2 k x false y z h = ap (λ n. k (reached (z * 2 ^ 30 + n) 30)) (from_zero x (2 ^ 30))

by_1 : (k : StageEnd → Told) (x : ℕ) (b : Bool) (y z : ℕ) → b ≡ false → k (reached (z * 2 ^ 21 + field 20 0 x) 21) ≡ k (reached (if b then y * 2 ^ 16 + x % 2 ^ 16 else z * 2 ^ 21 + x % 2 ^ 21) (if b then 16 else 21))
by_1 k x true y z h = absurd (true≢false h)
by_1 k x false y z h = ap (λ n. k (reached (z * 2 ^ 21 + n) 21)) (from_zero x (2 ^ 21))

by_0 : (k : StageEnd → Told) (x : ℕ) (b : Bool) (y z : ℕ) (s t : Told) → s ≡ k (reached (y * 2 ^ 16 + field 15 0 x) 16) → t ≡ k (reached (z * 2 ^ 12 + field 11 0 x) 12)
    → (if b then s else t) ≡ k (reached (if b then y * 2 ^ 16 + x % 2 ^ 16 else z * 2 ^ 12 + x % 2 ^ 12) (if b then 16 else 12))
by_0 k x true y z s t h j = h ∙ ap (λ n. k (reached (y * 2 ^ 16 + n) 16)) (from_zero x (2 ^ 16))
by_0 k x false y z s t h j = j ∙ ap (λ n. k (reached (z * 2 ^ 12 + n) 12)) (from_zero x (2 ^ 12))

-- ---- the nodes stand, and what they need

-- the address x; a result is held in so many bits; what comes after the result of each page
pub record ResultsStand (g : Graph) (r : Results) (x width : ℕ) (keeps : Vars → Bool) (k : StageEnd → Told) : Type 0 where
  pub stand : StandFrom g.steps r.at (result_nodes r)
  pub wide2 : width_at g.env.scope.vars r.entry ≡ Some 64
  pub wide1 : width_at g.env.scope.vars (r.entry + 1) ≡ Some 64
  pub wide0 : width_at g.env.scope.vars (r.entry + 2) ≡ Some 64
  pub has_x : (w : Vars) → keeps w ≡ true → Has g.env w (leads r.address) 64 x
  pub pads : (w : Vars) (t : Tree) (n : ℕ) → Has g.env w t 56 n → Has g.env w (held r.address t) width n
  pub keep_out : (w : Vars) (y : ℕ) → keeps w ≡ true → keeps (bound w r.out y) ≡ true
  pub at30 : (w : Vars) (y : ℕ) → keeps w ≡ true → w r.out ≡ y → y < 2 ^ 64 → tells g r.exits.page30 w ≡ k (reached y 30)
  pub at21 : (w : Vars) (y : ℕ) → keeps w ≡ true → w r.out ≡ y → y < 2 ^ 64 → tells g r.exits.page21 w ≡ k (reached y 21)
  pub at16 : (w : Vars) (y : ℕ) → keeps w ≡ true → w r.out ≡ y → y < 2 ^ 64 → tells g r.exits.page16 w ≡ k (reached y 16)
  pub at12 : (w : Vars) (y : ℕ) → keeps w ≡ true → w r.out ≡ y → y < 2 ^ 64 → tells g r.exits.page12 w ≡ k (reached y 12)

module _ (g : Graph) (f : Forward g) (r : Results) (x width : ℕ) (keeps : Vars → Bool) (k : StageEnd → Told) (o : ResultsStand g r x width keeps k) where
  pub leaf_at_2 : (st : Stage) (w : Vars) (e : ℕ) → keeps w ≡ true → w r.entry ≡ e → judged st.permits st.stores 9 2 e ≡ leaf → tells g r.at w ≡ k (reached (led 9 2 e x) (page_of 9 2 e))
  leaf_at_2 st w e h j l =
      let y = field 53 28 e * 2 ^ 30 + field 29 0 x in
      goes_bind g f r.at r.out (shipped.led r.address r.entry 28 29) r.exits.page30 w width y (first_at g.steps r.at _ (o.stand 0 _ refl)) (o.pads w _ y (h_joined (h_part 53 28 (h_var g.env w r.entry 64 e o.wide2 j)) (h_part 29 0 (o.has_x w h)))).is
      ∙ o.at30 (bound w r.out y) y (o.keep_out w y h) (bound_here w r.out y) (small_30 e x)
      ∙ by_2 k x (N e) (field 53 14 e) (field 53 28 e) (leaf_2 st.permits st.stores e l)

  pub leaf_at_1 : (st : Stage) (w : Vars) (e : ℕ) → keeps w ≡ true → w (r.entry + 1) ≡ e → judged st.permits st.stores 9 1 e ≡ leaf → tells g (r.at + 1) w ≡ k (reached (led 9 1 e x) (page_of 9 1 e))
  leaf_at_1 st w e h j l =
      let y = field 53 19 e * 2 ^ 21 + field 20 0 x in
      goes_bind g f (r.at + 1) r.out (shipped.led r.address (r.entry + 1) 19 20) r.exits.page21 w width y (o.stand 1 _ refl) (o.pads w _ y (h_joined (h_part 53 19 (h_var g.env w (r.entry + 1) 64 e o.wide1 j)) (h_part 20 0 (o.has_x w h)))).is
      ∙ o.at21 (bound w r.out y) y (o.keep_out w y h) (bound_here w r.out y) (small_21 e x)
      ∙ by_1 k x (N e) (field 53 14 e) (field 53 19 e) (leaf_1 st.permits st.stores e l)

  out_at_16 : (w : Vars) (e : ℕ) → keeps w ≡ true → w (r.entry + 2) ≡ e → tells g (r.at + 3) w ≡ k (reached (field 53 14 e * 2 ^ 16 + field 15 0 x) 16)
  out_at_16 w e h j =
      let y = field 53 14 e * 2 ^ 16 + field 15 0 x in
      goes_bind g f (r.at + 3) r.out (shipped.led r.address (r.entry + 2) 14 15) r.exits.page16 w width y (o.stand 3 _ refl) (o.pads w _ y (h_joined (h_part 53 14 (h_var g.env w (r.entry + 2) 64 e o.wide0 j)) (h_part 15 0 (o.has_x w h)))).is
      ∙ o.at16 (bound w r.out y) y (o.keep_out w y h) (bound_here w r.out y) (small_16 e x)

  out_at_12 : (w : Vars) (e : ℕ) → keeps w ≡ true → w (r.entry + 2) ≡ e → tells g (r.at + 4) w ≡ k (reached (field 53 10 e * 2 ^ 12 + field 11 0 x) 12)
  out_at_12 w e h j =
      let y = field 53 10 e * 2 ^ 12 + field 11 0 x in
      goes_bind g f (r.at + 4) r.out (shipped.led r.address (r.entry + 2) 10 11) r.exits.page12 w width y (o.stand 4 _ refl) (o.pads w _ y (h_joined (h_part 53 10 (h_var g.env w (r.entry + 2) 64 e o.wide0 j)) (h_part 11 0 (o.has_x w h)))).is
      ∙ o.at12 (bound w r.out y) y (o.keep_out w y h) (bound_here w r.out y) (small_12 e x)

  pub leaf_at_0 : (w : Vars) (e : ℕ) → keeps w ≡ true → w (r.entry + 2) ≡ e → tells g (r.at + 2) w ≡ k (reached (led 9 0 e x) (page_of 9 0 e))
  leaf_at_0 w e h j =
      goes_branch g f (r.at + 2) (bit 63 (var (r.entry + 2))) (r.at + 3) (r.at + 4) w (N e) (o.stand 2 _ refl) (s_bit 63 (h_var g.env w (r.entry + 2) 64 e o.wide0 j)).is
      ∙ by_0 k x (N e) (field 53 14 e) (field 53 10 e) (tells g (r.at + 3) w) (tells g (r.at + 4) w) (out_at_16 w e h j) (out_at_12 w e h j)
