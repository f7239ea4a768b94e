-- The terms that tell that a walk doesn't come to a node.
use Rattle.std.proofs.Common.{◌≡◌, ℕ, ◌+◌, ◌<◌, ◌≤◌, Bool, not, eqb, List, [], ◌∷◌, length, refl, sym, ap, ◌∙◌, arith}
use Rattle.dt_model.specs.ModelData.{ActData, bind, read, branch, fault, done}
use Rattle.dt_walk.specs.Meaning.{EnvData, Vars}
use Rattle.dt_forms.specs.Forms.{term, not_of}
use Rattle.dt_forms.specs.Meaning.{Valuation, IsLawful, flag, is_one}
use Rattle.dt_forms.proofs.Lawful.{flag_one}
use Rattle.dt_forms.proofs.FormValues.{form_is, not_form}
use Rattle.dt_table.specs.declared.out.Out.{Out}
use Rattle.dt_table.specs.Passing.{Access, State, passed, noted, walk_placed}
use Rattle.dt_table.proofs.Ends.{AreTruths}
use Rattle.dt_table.proofs.Nodes.{IsOf, AreLeft, WordsWide, Follows, passed_before, told_first}
use Rattle.dt_table.proofs.Flagged.{AllOuts, each_step}

away_told : (a : Access) (s : State) (p : ActData) (n : ℕ) → (passed a s n p).out.away ≡ s.away
away_told a s (bind x e t) n = refl
away_told a s (read x e g t o) n = refl
away_told a s (branch e t o) n = refl
away_told a s (fault c) n = refl
away_told a s (done e p) n = refl

away_is : (v : Valuation) (a : Access) (steps : List ActData) (s : State) (n to : ℕ) (vars : Vars) (p : ActData) → IsLawful v (passed a (noted s n) n p).state.terms → Follows v a steps s n to vars
    → v (passed a (noted s n) n p).out.away ≡ flag (not (is_one (v (passed a (noted s n) n p).out.come)))
away_is v a steps s n to vars p h f =
    let e : v (s.come n) ≡ flag (eqb to n) = f.comes n (omega arith) in
    let hn : IsLawful v (noted s n).terms = passed_before v a (noted s n) n p h in
    ap v (away_told a (noted s n) p n)
    ∙ form_is v (not_of (term (s.come n))) s.terms (refl, tt) hn ∙ not_form v (term (s.come n)) (eqb to n) e
    ∙ ap (λ (b : Bool). flag (not b)) (sym (ap (λ (j : ℕ). is_one (v j)) (told_first v a (noted s n) p n) ∙ ap is_one e ∙ flag_one (eqb to n)))

abbrev IsAway : Valuation → ActData → Out → Type 0
IsAway v p o = v o.away ≡ flag (not (is_one (v o.come)))

truths_from : (v : Valuation) (a : Access) (ps : List ActData) (s : State) (n : ℕ) → AllOuts (IsAway v) ps (walk_placed a s ps n).outs → AreTruths v (walk_placed a s ps n).outs
truths_from v a [] s n h = tt
truths_from v a (p ∷ ps) s n h = (h.0, truths_from v a ps (passed a (noted s n) n p).state (n + 1) h.1)

-- the terms that say that the walk doesn't come are truths
pub outs_away : (v : Valuation) (a : Access) (st : EnvData) (cells : ℕ → Bool) (word : ℕ) (steps ps : List ActData) (s : State) (n to : ℕ) (vars : Vars) → IsOf v a st cells → AreLeft a word steps ps n → WordsWide v a word s ps n → IsLawful v (walk_placed a s ps n).terms → (n ≤ to → to < length steps) → Follows v a steps s n to vars
    → AreTruths v (walk_placed a s ps n).outs
outs_away v a st cells word steps ps s n to vars i left wide h m f =
    truths_from v a ps s n (each_step v a st cells word steps (IsAway v) (λ s n to vars p k h f. away_is v a steps s n to vars p h f) ps s n to vars i left wide h m f)
