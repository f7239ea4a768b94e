-- What holds of the terms of each node, whatever walk there is: those of its edges are truths, and addresses have their width.
use Rattle.std.proofs.Common.{◌≡◌, ℕ, ◌+◌, ◌<◌, ◌≤◌, Bool, true, false, not, ◌&&◌, eqb, List, [], ◌∷◌, length, ◌⊎◌, inl, inr, refl, sym, ap, ◌∙◌, subst, arith}
use Rattle.std.proofs.lemmas.Bool.{cases_Bool, eqb-true, eqb-false, false≢true, and_parts}
use Rattle.dt_model.specs.ModelData.{ActData, bind, read, branch, fault, done}
use Rattle.dt_request.specs.Lists.{is_fork}
use Rattle.dt_walk.specs.Meaning.{EnvData, Vars}
use Rattle.dt_forms.specs.Forms.{form_placed}
use Rattle.dt_table.specs.Expressions.{form_of}
use Rattle.dt_table.specs.declared.out.Out.{Out}
use Rattle.dt_table.specs.Passing.{Access, State, named, with_terms, assign, fork, is_cell, passed, noted, walk_placed}
use Rattle.dt_forms.specs.Meaning.{Valuation, IsLawful, flag, is_one}
use Rattle.dt_ways.specs.Ends.{is_end}
use Rattle.dt_forms.proofs.Lawful.{flag_one}
use Rattle.dt_forms.proofs.FormValues.{form_before}
use Rattle.dt_table.proofs.Trees.{tree_wide}
use Rattle.dt_table.proofs.Edges.{Wide, part_before, fork_before, fork_value, assign_before}
use Rattle.dt_table.proofs.Nodes.{IsOf, IsStep, AreLeft, WordsWide, Follows, walk_before, noted_follows, names_wide, one_bit, not_here, goes_on, over_end, left_next, first_at}

-- a fact of each step with what stands for it
abbrev pub AllOuts : (ActData → Out → Type 0) → List ActData → List Out → Type 0
AllOuts fact (p ∷ ps) (o ∷ os) = fact p o × AllOuts fact ps os
AllOuts fact _ _ = Unit {0}

-- such a fact follows at each node, whether the walk comes there or not
pub each_step : (v : Valuation) (a : Access) (st : EnvData) (cells : ℕ → Bool) (word : ℕ) (steps : List ActData) (fact : ActData → Out → Type 0)
    → ((s : State) (n to : ℕ) (vars : Vars) (p : ActData) → IsStep a.scope a.address word (length steps) n p → IsLawful v (passed a (noted s n) n p).state.terms → Follows v a steps s n to vars → fact p (passed a (noted s n) n p).out)
    → (ps : List ActData) (s : State) (n to : ℕ) (vars : Vars) → IsOf v a st cells → AreLeft a word steps ps n → WordsWide v a word s ps n → IsLawful v (walk_placed a s ps n).terms → (n ≤ to → to < length steps) → Follows v a steps s n to vars
    → AllOuts fact ps (walk_placed a s ps n).outs
each_step v a st cells word steps fact each [] s n to vars i left wide h m f = tt
each_step v a st cells word steps fact each (p ∷ ps) s n to vars i left wide h m f =
    by_place (λ to2 vars2 m2 g. each_step v a st cells word steps fact each ps (passed a (noted s n) n p).state (n + 1) to2 vars2 i (left_next a word steps ps p n left) wide.1 h m2 g) (cases_Bool (eqb n to)) (cases_Bool (is_end p))
  where
    by_place : ((to2 : ℕ) (vars2 : Vars) → (n + 1 ≤ to2 → to2 < length steps) → Follows v a steps (passed a (noted s n) n p).state (n + 1) to2 vars2 → AllOuts fact ps (walk_placed a (passed a (noted s n) n p).state ps (n + 1)).outs)
        → (eqb n to ≡ true) ⊎ (eqb n to ≡ false) → (is_end p ≡ true) ⊎ (is_end p ≡ false) → AllOuts fact (p ∷ ps) (walk_placed a s (p ∷ ps) n).outs
    by_place ih (inr e) x =
        let q = passed a (noted s n) n p in
        let at = first_at a word steps ps p n left in
        let ne : to ≡ n → ⊥ = λ z. eqb-false n to e (sym z) in
        let hq : IsLawful v q.state.terms = walk_before v a ps q.state (n + 1) h in
        (each s n to vars p (left.sound n p at) hq f, ih to vars (λ l. m (omega (arith, l))) (not_here v a st cells word (length steps) steps (noted s n) n to vars p i (left.sound n p at) wide.0 hq ne (noted_follows v a steps s n to vars f)))
    by_place ih (inl e) (inl x) =
        let q = passed a (noted s n) n p in
        let at = first_at a word steps ps p n left in
        let hq : IsLawful v q.state.terms = walk_before v a ps q.state (n + 1) h in
        let fn : Follows v a steps s n n vars = subst (λ (j : ℕ). Follows v a steps s n j vars) (sym (eqb-true n to e)) f in
        (each s n to vars p (left.sound n p at) hq f, ih n vars (λ l. absurd (omega (arith, l))) (over_end v a st cells word steps (noted s n) n vars p (noted_follows v a steps s n n vars fn) x))
    by_place ih (inl e) (inr x) =
        let q = passed a (noted s n) n p in
        let at = first_at a word steps ps p n left in
        let hq : IsLawful v q.state.terms = walk_before v a ps q.state (n + 1) h in
        let fn : Follows v a steps s n n vars = subst (λ (j : ℕ). Follows v a steps s n j vars) (sym (eqb-true n to e)) f in (
          each s n to vars p (left.sound n p at) hq f,
          goes_on v a st cells word steps (noted s n) n vars (AllOuts fact ps (walk_placed a q.state ps (n + 1)).outs) p (record { is_of = i; at = at; step = left.sound n p at; clean = left.clean n p at; word_wide = wide.0; lawful = hq; follows = noted_follows v a steps s n n vars fn }) x
              (λ to2 vars2 l2 m2 g. ih to2 vars2 (λ l. m2) g),
        )

abbrev pub is_flag : Valuation → ℕ → Type 0
is_flag v t = v t ≡ flag (is_one (v t))

-- its value is an address
abbrev pub tells_address : ActData → Bool
tells_address (read x e g t o) = true
tells_address (done e p) = true
tells_address _ = false

pub record IsFlagged (v : Valuation) (address : ℕ) (p : ActData) (o : Out) : Type 0 where
  pub come_is : is_flag v o.come
  pub then_is : is_flag v o.by_then
  pub other_is : is_flag v o.by_other
  pub comes : is_one (v o.by_then) ≡ true → is_one (v o.come) ≡ true
  pub wide : tells_address p ≡ true → (v o.value).width.0 ≡ address
  pub splits : is_fork p ≡ true → is_one (v o.by_other) ≡ (is_one (v o.come) && not (is_one (v o.by_then)))

to_flag : (v : Valuation) (t : ℕ) (b : Bool) → v t ≡ flag b → is_flag v t
to_flag v t b e = e ∙ ap flag (sym (ap is_one e ∙ flag_one b))

came : (v : Valuation) (come t : ℕ) (p q : Bool) → v come ≡ flag p → v t ≡ flag (p && q) → is_one (v t) ≡ true → is_one (v come) ≡ true
came v come t p q e f g = ap is_one e ∙ flag_one p ∙ (and_parts p q (sym (ap is_one f ∙ flag_one (p && q)) ∙ g)).0

-- a fork is left by its other side where the walk comes to it and doesn't leave it by `then`
split_sides : (v : Valuation) (come t o : ℕ) (p q : Bool) → v come ≡ flag p → v t ≡ flag (p && q) → v o ≡ flag (p && not q) → is_one (v o) ≡ (is_one (v come) && not (is_one (v t)))
split_sides v come t o p q e f g =
    ap is_one g ∙ flag_one (p && not q) ∙ by_test p q
    ∙ ap (λ (x : Bool). x && not (p && q)) (sym (ap is_one e ∙ flag_one p)) ∙ ap (λ (x : Bool). is_one (v come) && not x) (sym (ap is_one f ∙ flag_one (p && q)))
  where
    by_test : (p q : Bool) → (p && not q) ≡ (p && not (p && q))
    by_test true q = refl
    by_test false q = refl

flagged : (v : Valuation) (a : Access) (st : EnvData) (cells : ℕ → Bool) (word count : ℕ) (s : State) (n : ℕ) (b : Bool) (p : ActData) → IsOf v a st cells → IsStep a.scope a.address word count n p → Wide v a s → v (s.come n) ≡ flag b
    → IsLawful v (passed a s n p).state.terms → IsFlagged v a.address p (passed a s n p).out
flagged v a st cells word count s n b (bind x e to) i k w c h = record { come_is = to_flag v (s.come n) b c; then_is = to_flag v (s.come n) b c; other_is = to_flag v a.zero_term false i.zero_is; comes = λ q. q; wide = λ q. absurd (false≢true q); splits = λ q. absurd (false≢true q) }
flagged v a st cells word count s n b (branch e t o) i k w c h =
    let y = form_placed s.terms (form_of (named a s) e) in
    let g = fork y.terms (s.come n) y.at in
    let s1 = with_terms s g.terms in
    let h2 : IsLawful v g.terms = part_before v s1 t g.by_then o g.by_other h in
    let h1 : IsLawful v y.terms = fork_before v y.terms (s.come n) y.at h2 in
    let u = tree_wide v (named a s) e 1 s.terms (names_wide v a st cells s i w) k.0.0 k.0.1 h1 in
    let test = eqb (v y.at).bits 1 in
    let q = fork_value v y.terms (s.come n) y.at b test h2 c (one_bit (v y.at).width.0 (v y.at).bits u (i.range y.at)) in
    record { come_is = to_flag v (s.come n) b c; then_is = to_flag v g.by_then (b && test) q.then_is; other_is = to_flag v g.by_other (b && not test) q.other_is; comes = came v (s.come n) g.by_then b test c q.then_is; wide = λ q. absurd (false≢true q); splits = λ f. split_sides v (s.come n) g.by_then g.by_other b test c q.then_is q.other_is }
flagged v a st cells word count s n b (read x e m t o) i k w c h =
    let y = form_placed s.terms (form_of (named a s) e) in
    let y2 = form_placed y.terms (is_cell a y.at) in
    let g = fork y2.terms (s.come n) y2.at in
    let s1 = with_terms s g.terms in
    let s2 = assign s1 x g.by_then s.word in
    let h4 : IsLawful v s2.terms = part_before v s2 t g.by_then o g.by_other h in
    let h3 : IsLawful v g.terms = assign_before v s1 x g.by_then s.word h4 in
    let h2 : IsLawful v y2.terms = fork_before v y2.terms (s.come n) y2.at h3 in
    let h1 : IsLawful v y.terms = form_before v (is_cell a y.at) y.terms h2 in
    let u = tree_wide v (named a s) e a.address s.terms (names_wide v a st cells s i w) k.0.0 k.0.1 h1 in
    let test = cells (v y.at).bits in
    let q = fork_value v y2.terms (s.come n) y2.at b test h3 c (i.cells_are y.terms y.at h2 u) in
    record { come_is = to_flag v (s.come n) b c; then_is = to_flag v g.by_then (b && test) q.then_is; other_is = to_flag v g.by_other (b && not test) q.other_is; comes = came v (s.come n) g.by_then b test c q.then_is; wide = λ q. u; splits = λ f. split_sides v (s.come n) g.by_then g.by_other b test c q.then_is q.other_is }
flagged v a st cells word count s n b (fault d) i k w c h = record { come_is = to_flag v (s.come n) b c; then_is = to_flag v a.zero_term false i.zero_is; other_is = to_flag v a.zero_term false i.zero_is; comes = λ q. absurd (false≢true (sym (ap is_one i.zero_is) ∙ q)); wide = λ q. absurd (false≢true q); splits = λ q. absurd (false≢true q) }
flagged v a st cells word count s n b (done e p) i k w c h = record { come_is = to_flag v (s.come n) b c; then_is = to_flag v a.zero_term false i.zero_is; other_is = to_flag v a.zero_term false i.zero_is; comes = λ q. absurd (false≢true (sym (ap is_one i.zero_is) ∙ q)); wide = λ q. tree_wide v (named a s) e a.address s.terms (names_wide v a st cells s i w) k.0 k.1 h; splits = λ q. absurd (false≢true q) }

pub outs_flagged : (v : Valuation) (a : Access) (st : EnvData) (cells : ℕ → Bool) (word : ℕ) (steps ps : List ActData) (s : State) (n to : ℕ) (vars : Vars) → IsOf v a st cells → AreLeft a word steps ps n → WordsWide v a word s ps n → IsLawful v (walk_placed a s ps n).terms → (n ≤ to → to < length steps) → Follows v a steps s n to vars
    → AllOuts (IsFlagged v a.address) ps (walk_placed a s ps n).outs
outs_flagged v a st cells word steps ps s n to vars i left wide h m f =
    each_step v a st cells word steps (IsFlagged v a.address) (λ s n to vars p k h f. flagged v a st cells word (length steps) (noted s n) n (eqb to n) p i k f.wide (f.comes n (omega arith)) h) ps s n to vars i left wide h m f
