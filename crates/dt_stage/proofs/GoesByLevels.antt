-- A stage's nodes do what its walk by level says: one proof for every stage.
use Rattle.std.proofs.Common.{◌≡◌, ℕ, zero, suc, ◌+◌, ◌*◌, Bool, true, List, [], ◌∷◌, ◌++◌, length, map, Option, Some, None, refl, sym, ap, ◌∙◌, subst, arith}
use Rattle.std.specs.Prelude.{slice_get}
use Rattle.dt_bits.specs.Memory.{word_of}
use Rattle.dt_model.specs.ModelData.{ActData, NodeData}
use Rattle.dt_walk.specs.Meaning.{Vars, bound}
use Rattle.dt_manual.specs.Entry.{Verdict, fails, pointer, leaf, judged, table_at, led, page_of}
use Rattle.dt_manual.specs.Levels.{Part, Stage, Walked, Fetched, after, fetched, word_got, levels_by, StageEnd, reached, stopped, access_fault}
use Rattle.dt_stage.specs.Level.{Placed, upper_nodes, last_nodes}
use Rattle.dt_stage.specs.Parts.{goes}
use Rattle.dt_stage.specs.Stage.{Shape, at_2, at_1, at_0, placed_2, placed_1, placed_0, StandFrom, Forward, nine_bits, StageStands, GoesByLevels}
use Rattle.dt_stage.specs.Tells.{Graph, Told, with_read, tells}
use Rattle.dt_stage.proofs.OneLevel.{verdict_told, level_told, above_tells, last_tells, bound_here}

-- ---- parts of what stands from a position on

got_front : {X : Type 0} (xs ys : List X) (i : ℕ) (x : X) → slice_get xs i ≡ Some x → slice_get (xs ++ ys) i ≡ Some x
got_front [] ys i x h = absurd cc
got_front (y ∷ xs) ys zero x h = h
got_front (y ∷ xs) ys (suc i) x h = got_front xs ys i x h

got_after : {X : Type 0} (xs ys : List X) (i : ℕ) → slice_get (xs ++ ys) (length xs + i) ≡ slice_get ys i
got_after [] ys i = let e : 0 + i ≡ i = omega arith in ap (slice_get ys) e
got_after (x ∷ xs) ys i = let e : length (x ∷ xs) + i ≡ suc (length xs + i) = omega arith in ap (slice_get (x ∷ (xs ++ ys))) e ∙ got_after xs ys i

pub stand_front : (g : List ActData) (at : ℕ) (xs ys : List NodeData) → StandFrom g at (xs ++ ys) → StandFrom g at xs
stand_front g at xs ys s i n h = s i n (got_front xs ys i n h)

pub stand_after : (g : List ActData) (at : ℕ) (xs ys : List NodeData) → StandFrom g at (xs ++ ys) → StandFrom g (at + length xs) ys
stand_after g at xs ys s i n h =
    let e : at + (length xs + i) ≡ at + length xs + i = omega arith in
    subst (λ j. slice_get g j ≡ Some n.step) e (s (length xs + i) n (got_after xs ys i ∙ h))

got_acts : (nodes : List NodeData) (i : ℕ) (n : NodeData) → slice_get nodes i ≡ Some n → slice_get (map (λ x. x.step) nodes) i ≡ Some n.step
got_acts [] i n h = absurd cc
got_acts (x ∷ xs) zero n h = let e : x ≡ n = cc in ap (λ (y : NodeData). Some y.step) e
got_acts (x ∷ xs) (suc i) n h = got_acts xs i n h

-- the nodes of a graph stand in it from 0 on
pub stand_whole : (nodes : List NodeData) → StandFrom (map (λ n. n.step) nodes) 0 nodes
stand_whole nodes i n h = let e : i ≡ 0 + i = omega arith in subst (λ j. slice_get (map (λ x. x.step) nodes) j ≡ Some n.step) e (got_acts nodes i n h)

-- ---- one level

by_verdict : (g : Graph) (p : Placed) (st : Stage) (i x : ℕ) (nodes : Part → ℕ → ℕ) (k : StageEnd → Told) (w : Vars) (e : ℕ) (next : ℕ → Walked) (v : Verdict)
    → tells g p.fault w ≡ k (stopped st.cause)
    → tells g p.next w ≡ goes nodes k (next (table_at e))
    → (v ≡ leaf → tells g p.level.leaf w ≡ k (reached (led st.bits i e x) (page_of st.bits i e)))
    → verdict_told g p w v ≡ goes nodes k (after st i x e next v)
by_verdict g p st i x nodes k w e next fails f n l = f
by_verdict g p st i x nodes k w e next pointer f n l = n
by_verdict g p st i x nodes k w e next leaf f n l = l refl

by_word : (g : Graph) (p : Placed) (st : Stage) (part : Part) (i x : ℕ) (nodes : Part → ℕ → ℕ) (k : StageEnd → Told) (w : Vars) (c : ℕ) (next : ℕ → Walked) (q : Option ℕ)
    → nodes part i ≡ p.at
    → tells g p.unread w ≡ k (stopped access_fault)
    → ((e : ℕ) → tells g p.fault (bound w p.level.entry e) ≡ k (stopped st.cause))
    → ((e : ℕ) → tells g p.next (bound w p.level.entry e) ≡ goes nodes k (next (table_at e)))
    → ((e : ℕ) → judged st.permits st.stores st.bits i e ≡ leaf → tells g p.level.leaf (bound w p.level.entry e) ≡ k (reached (led st.bits i e x) (page_of st.bits i e)))
    → level_told g p (judged st.permits st.stores st.bits i) w c q ≡ goes nodes k (fetched part st i x next (word_got [] c q))
by_word g p st part i x nodes k w c next None node u f n l = u
by_word g p st part i x nodes k w c next (Some e) node u f n l =
    ap (with_read (record { node = p.at; cell = c; word = e })) (by_verdict g p st i x nodes k (bound w p.level.entry e) e next (judged st.permits st.stores st.bits i e) (f e) (n e) (l e))
    ∙ ap (λ j. with_read (record { node = j; cell = c; word = e }) (goes nodes k (after st i x e next (judged st.permits st.stores st.bits i e)))) (sym node)

-- ---- three levels

module _ (g : Graph) (f : Forward g) (s : Shape) (st : Stage) (part : Part) (x table : ℕ) (index : ℕ → ℕ) (fetch : ℕ → ℕ → Fetched) (nodes : Part → ℕ → ℕ) (keeps : Vars → Bool) (k : StageEnd → Told)
    (o : StageStands g s st part x table index fetch nodes keeps k) where
  abbrev rest_0 : List NodeData
  rest_0 = s.fetch0 ++ last_nodes s.names.level0 (placed_0 s)

  abbrev rest_1 : List NodeData
  rest_1 = s.fetch1 ++ (upper_nodes s.names.level1 0 (placed_1 s) ++ rest_0)

  from_2 : StandFrom g.steps (at_2 s) (upper_nodes s.names.level2 1 (placed_2 s) ++ rest_1)
  from_2 = stand_after g.steps s.at s.fetch2 (upper_nodes s.names.level2 1 (placed_2 s) ++ rest_1) o.stand

  from_1 : StandFrom g.steps (at_1 s) (upper_nodes s.names.level1 0 (placed_1 s) ++ rest_0)
  from_1 = stand_after g.steps (at_2 s + 5) s.fetch1 (upper_nodes s.names.level1 0 (placed_1 s) ++ rest_0) (stand_after g.steps (at_2 s) (upper_nodes s.names.level2 1 (placed_2 s)) rest_1 from_2)

  from_0 : StandFrom g.steps (at_0 s) (last_nodes s.names.level0 (placed_0 s))
  from_0 = stand_after g.steps (at_1 s + 5) s.fetch0 (last_nodes s.names.level0 (placed_0 s)) (stand_after g.steps (at_1 s) (upper_nodes s.names.level1 0 (placed_1 s)) rest_0 from_1)

  stage_0 : (w : Vars) (e : ℕ) → keeps w ≡ true → w s.level1.entry ≡ e → tells g (at_1 s + 5) w ≡ goes nodes k (levels_by part (nine_bits st) fetch x index 1 (table_at e))
  stage_0 w e kept h =
      let next = levels_by part (nine_bits st) fetch x index 0 in
      o.fetch0 w e next kept h (λ v a kept has.
      last_tells g f st (placed_0 s) o.tested0 s.names.level0 from_0 v 56 a has
      ∙ by_word g (placed_0 s) (nine_bits st) part 0 x nodes k v a next (word_of g.memory a) o.node0 (o.unread v kept)
      (λ d. o.fault (bound v s.level0.entry d) (o.keep0 v d kept))
      (λ d. o.fault (bound v s.level0.entry d) (o.keep0 v d kept))
      (λ d. o.leaf0 (bound v s.level0.entry d) d (o.keep0 v d kept) (bound_here v s.level0.entry d)))

  stage_1 : (w : Vars) (e : ℕ) → keeps w ≡ true → w s.level2.entry ≡ e → tells g (at_2 s + 5) w ≡ goes nodes k (levels_by part (nine_bits st) fetch x index 2 (table_at e))
  stage_1 w e kept h =
      let next = levels_by part (nine_bits st) fetch x index 1 in
      o.fetch1 w e next kept h (λ v a kept has.
      above_tells g f st (placed_1 s) o.tested1 s.names.level1 0 (stand_front g.steps (at_1 s) (upper_nodes s.names.level1 0 (placed_1 s)) rest_0 from_1) v 56 a has
      ∙ by_word g (placed_1 s) (nine_bits st) part 1 x nodes k v a next (word_of g.memory a) o.node1 (o.unread v kept)
      (λ d. o.fault (bound v s.level1.entry d) (o.keep1 v d kept))
      (λ d. stage_0 (bound v s.level1.entry d) d (o.keep1 v d kept) (bound_here v s.level1.entry d))
      (λ d. o.leaf1 (bound v s.level1.entry d) d (o.keep1 v d kept) (bound_here v s.level1.entry d)))

  pub stage_2 : (w : Vars) → keeps w ≡ true → tells g s.at w ≡ goes nodes k (levels_by part (nine_bits st) fetch x index 3 table)
  stage_2 w kept =
      let next = levels_by part (nine_bits st) fetch x index 2 in
      o.fetch2 w next kept (λ v a kept has.
      above_tells g f st (placed_2 s) o.tested2 s.names.level2 1 (stand_front g.steps (at_2 s) (upper_nodes s.names.level2 1 (placed_2 s)) rest_1 from_2) v 56 a has
      ∙ by_word g (placed_2 s) (nine_bits st) part 2 x nodes k v a next (word_of g.memory a) o.node2 (o.unread v kept)
      (λ d. o.fault (bound v s.level2.entry d) (o.keep2 v d kept))
      (λ d. stage_1 (bound v s.level2.entry d) d (o.keep2 v d kept) (bound_here v s.level2.entry d))
      (λ d. o.leaf2 (bound v s.level2.entry d) d (o.keep2 v d kept) (bound_here v s.level2.entry d)))

-- From every map that has what the exits need, a stage's nodes go on at its exits as the levels say, with the same entries read.
pub goes_by_levels : (s : Shape) → GoesByLevels s
goes_by_levels s g st part x table index fetch nodes keeps k f o w kept = stage_2 g f s st part x table index fetch nodes keeps k o w kept
