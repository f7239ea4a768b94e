-- An accepted model has what its problems ask of it.
use Rattle.std.proofs.Common.{◌≡◌, ℕ, zero, suc, ◌*◌, ◌/◌, ◌<◌, ◌^◌, Bool, true, false, not, ◌&&◌, ◌||◌, eqb, List, [], ◌∷◌, Option, Some, None, length, ⊎_elim, refl, sym, ap, ◌∙◌, subst, arith}
use Rattle.std.specs.Prelude.{IsSome, is_some, slice_get, Contains}
use Rattle.std.proofs.lemmas.Bool.{false_from_ne_true, or_parts, false≢true, eqb-true, or_cases}
use Rattle.std.proofs.lemmas.List.{length-map}
use Rattle.std.proofs.lemmas.List.Elements.{recursion_from_All, All-contains_itself, All-weaker}
use Rattle.dt_model.proofs.Fitting.{fitted_parts}
use Rattle.dt_model.proofs.Accepting.{same_width}
use Rattle.dt_model.proofs.Nodes.{act_at}
use Rattle.dt_model.specs.declared.model.Named.{Named}
use Rattle.dt_model.specs.declared.refusal.ModelRefusal.TheVariants.{WidthMismatch, WidthRange, Unassigned, NoNode}
use Rattle.dt_model.specs.declared.refusal.Place.TheVariants.{Header}
use Rattle.dt_model.specs.ModelData.{ModelData, Tree, ActData, bind, read, branch, fault, done, value, reg, input, var, apply1, apply2, apply3}
use Rattle.dt_model.specs.Widths.{Scope, tree_width, width_at, differs, uses, HasArities}
use Rattle.dt_model.specs.Faults.{IsAccepted, HaveArities, UsesLeft, context_scope, access_scope, node_scope, on_tree, step_mismatch, steps, tree_in, is_word, is_address}
use Rattle.dt_model.specs.Widths.{has_mismatch}
use Rattle.dt_walk.specs.Sound.{IsSound}
use Rattle.dt_walk.proofs.Sound.{accepted_sound, context_rule, access_rule, fine}
use Rattle.dt_table.specs.Table.{align_of}
use Rattle.dt_table.proofs.Nodes.{IsStep, IsClean}
use Rattle.dt_table.proofs.Ready.{IsReady}

-- ---- widths

some_of : (o : Option ℕ) → IsSome o → (w : ℕ) × (o ≡ Some w)
some_of (Some w) h = (w, refl)
some_of None h = absurd (false≢true h)

step_is : (d : ModelData) (count i : ℕ) (p : ActData) → IsSound (node_scope d) d.word count i p → (on_tree p (has_mismatch (node_scope d)) || step_mismatch d.word d.address (node_scope d) p) ≡ false → IsStep (node_scope d) d.address d.word count i p
step_is d count i (fault c) h m = tt
step_is d count i (done e page) h m = (h.0, same_width (tree_width (node_scope d) e) d.address h.1 (or_parts (has_mismatch (node_scope d) e) _ m).1)
step_is d count i (branch e t o) h m = ((h.0, same_width (tree_width (node_scope d) e) 1 h.1 (or_parts (has_mismatch (node_scope d) e) _ m).1), h.2.0, h.2.1, h.3.0, h.3.1)
step_is d count i (bind x e to) h m =
    let w = some_of (width_at d.vars x) h.0.2 in
    (w.0, (h.0.0, h.0.1 ∙ w.1), w.1, h.1.0, h.1.1)
step_is d count i (read x e g t o) h m =
    let q = or_parts (has_mismatch (node_scope d) e) _ m in
    ((h.0, same_width (tree_width (node_scope d) e) d.address h.1 (or_parts (differs (tree_width (node_scope d) e) (Some d.address)) _ q.1).0), h.2, h.3.0, h.3.1, h.4.0, h.4.1)

-- ---- variables

known : (ns : List Named) (i : ℕ) → IsSome (width_at ns i) → i < length ns
known [] i h = absurd (false≢true h)
known (n ∷ ns) zero h = omega arith
known (n ∷ ns) (suc i) h = let k = known ns i h in omega (arith, k)

used_known : (s : Scope) (t : Tree) (x : ℕ) → IsSome (tree_width s t) → uses t x ≡ true → x < length s.vars
used_known s (value w n) x h u = absurd (false≢true u)
used_known s (reg i) x h u = absurd (false≢true u)
used_known s (input i) x h u = absurd (false≢true u)
used_known s (var i) x h u = subst (λ (j : ℕ). j < length s.vars) (eqb-true i x u) (known s.vars i h)
used_known s (apply1 op a) x h u = used_known s a x (fitted_parts op (tree_width s a) (Some 1) (Some 1) h).0 u
used_known s (apply2 op a b) x h u =
    let p = fitted_parts op (tree_width s a) (tree_width s b) (Some 1) h in
    ⊎_elim (λ (q : uses a x ≡ true). used_known s a x p.0 q) (λ (q : uses b x ≡ true). used_known s b x p.1 q) (or_cases (uses a x) (uses b x) u)
used_known s (apply3 op a b c) x h u =
    let p = fitted_parts op (tree_width s a) (tree_width s b) (tree_width s c) h in
    ⊎_elim (λ (q : uses a x ≡ true). used_known s a x p.0 q)
    (λ (k : (uses b x || uses c x) ≡ true). ⊎_elim (λ (q : uses b x ≡ true). used_known s b x p.1 q) (λ (q : uses c x ≡ true). used_known s c x p.2 q) (or_cases (uses b x) (uses c x) k))
    (or_cases (uses a x) (uses b x || uses c x) u)

tree_some : (d : ModelData) (count i : ℕ) (p : ActData) (t : Tree) → IsStep (node_scope d) d.address d.word count i p → tree_in p ≡ Some t → IsSome (tree_width (node_scope d) t)
tree_some d count i (bind x e to) t h q = let s : e ≡ t = cc in subst (λ (y : Tree). IsSome (tree_width (node_scope d) y)) s (ap is_some h.1.1)
tree_some d count i (read x e g a o) t h q = let s : e ≡ t = cc in subst (λ (y : Tree). IsSome (tree_width (node_scope d) y)) s (ap is_some h.0.1)
tree_some d count i (branch e a o) t h q = let s : e ≡ t = cc in subst (λ (y : Tree). IsSome (tree_width (node_scope d) y)) s (ap is_some h.0.1)
tree_some d count i (fault c) t h q = absurd (cc)
tree_some d count i (done e page) t h q = let s : e ≡ t = cc in subst (λ (y : Tree). IsSome (tree_width (node_scope d) y)) s (ap is_some h.1)

clean_at : (d : ModelData) (i : ℕ) (o : Option Tree) → ((t : Tree) → o ≡ Some t → IsSome (tree_width (node_scope d) t)) → (UsesLeft (steps d) (length d.vars) i o → ⊥) → IsClean (steps d) i o
clean_at d i None w h = tt
clean_at d i (Some t) w h = λ x u p. h (x, used_known (node_scope d) t x (w t refl) u, u, p)

-- ---- the header

words_of_size : (w : ℕ) → is_word w ≡ true → (w / 8 ≡ 2 ^ align_of w) × (w ≡ 8 * (w / 8))
words_of_size w h = ⊎_elim (λ (e : eqb w 8 ≡ true). fits_at 8 (sym (eqb-true w 8 e)) (refl, refl))
    (λ (k : (eqb w 16 || (eqb w 32 || eqb w 64)) ≡ true). ⊎_elim (λ (e : eqb w 16 ≡ true). fits_at 16 (sym (eqb-true w 16 e)) (refl, refl))
    (λ (j : (eqb w 32 || eqb w 64) ≡ true). ⊎_elim (λ (e : eqb w 32 ≡ true). fits_at 32 (sym (eqb-true w 32 e)) (refl, refl)) (λ (e : eqb w 64 ≡ true). fits_at 64 (sym (eqb-true w 64 e)) (refl, refl)) (or_cases (eqb w 32) (eqb w 64) j))
    (or_cases (eqb w 16) (eqb w 32 || eqb w 64) k))
    (or_cases (eqb w 8) (eqb w 16 || (eqb w 32 || eqb w 64)) h)
  where
    fits_at : (n : ℕ) → n ≡ w → ((n / 8 ≡ 2 ^ align_of n) × (n ≡ 8 * (n / 8))) → (w / 8 ≡ 2 ^ align_of w) × (w ≡ 8 * (w / 8))
    fits_at n e p = subst (λ (m : ℕ). (m / 8 ≡ 2 ^ align_of m) × (m ≡ 8 * (m / 8))) e p

both_true : (a b : Bool) → (not (a && b) ≡ true → ⊥) → a ≡ true
both_true true b h = refl
both_true false b h = absurd (h refl)

some_nodes : (n : ℕ) → (eqb n 0 ≡ true → ⊥) → 0 < n
some_nodes zero h = absurd (h refl)
some_nodes (suc n) h = omega arith

pub ready_from : (d : ModelData) → IsAccepted d → HaveArities d → IsReady d
ready_from d a h =
    let sound : (i : ℕ) (p : ActData) → slice_get (steps d) i ≡ Some p → IsStep (node_scope d) d.address d.word (length (steps d)) i p = λ i p e.
    let n = act_at d.nodes i p e in
    step_is d (length (steps d)) i p (accepted_sound d a h i p e)
    (subst (λ (q : ActData). (on_tree q (has_mismatch (node_scope d)) || step_mismatch d.word d.address (node_scope d) q) ≡ false) n.2 (false_from_ne_true _ (fine d i n.0 a n.1 WidthMismatch))) in
    let sizes = words_of_size d.word (both_true (is_word d.word) (is_address d.address) (a Header WidthRange)) in
    record {
      sound = sound;
      clean = λ i p e.
          let n = act_at d.nodes i p e in
          clean_at d i (tree_in p) (λ t q. tree_some d (length (steps d)) i p t (sound i p e) q) (λ u. fine d i n.0 a n.1 Unassigned (subst (λ (q : ActData). UsesLeft (steps d) (length d.vars) i (tree_in q)) (sym n.2) u));
      nonempty = subst (λ (n : ℕ). 0 < n) (sym (length-map d.nodes _)) (some_nodes (length d.nodes) (a Header NoNode));
      bytes = sizes.0;
      word = sizes.1;
      context_rules = recursion_from_All (λ (t : Tree). HasArities t × IsSome (tree_width (context_scope d) t)) d.legal_context (All-weaker (Contains d.legal_context) (λ (t : Tree). HasArities t × IsSome (tree_width (context_scope d) t)) (λ t c. let q = context_rule d t a h c in (q.arities, q.width)) d.legal_context (All-contains_itself d.legal_context));
      access_rules = recursion_from_All (λ (t : Tree). HasArities t × IsSome (tree_width (access_scope d) t)) d.legal_access (All-weaker (Contains d.legal_access) (λ (t : Tree). HasArities t × IsSome (tree_width (access_scope d) t)) (λ t c. let q = access_rule d t a h c in (q.arities, q.width)) d.legal_access (All-contains_itself d.legal_access));
    }
