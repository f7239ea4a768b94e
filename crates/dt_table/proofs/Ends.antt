-- The end of a walk, and the terms that leave only some ends.
use Rattle.std.proofs.Common.{◌≡◌, Bool, true, false, not, ◌&&◌, cond, List, [], ◌∷◌, ◌⊎◌, inl, inr, refl, sym, ap, ◌∙◌}
use Rattle.std.specs.List.{AllByRecursion}
use Rattle.std.proofs.lemmas.Bool.{false≢true}
use Rattle.dt_model.specs.ModelData.{ActData, bind, read, branch, fault, done}
use Rattle.dt_walk.specs.declared.run.End.{End}
use Rattle.dt_walk.specs.declared.run.End.TheVariants.{Done, Fault}
use Rattle.dt_table.specs.declared.out.Out.{Out}
use Rattle.dt_forms.specs.Meaning.{Valuation, flag, is_one}
use Rattle.dt_forms.specs.Forms.{term, form_value}
use Rattle.dt_table.specs.Claims.{ends_only}
use Rattle.dt_ways.specs.Ends.{is_end}
use Rattle.dt_forms.specs.Claims.{Hold}
use Rattle.dt_forms.proofs.Lawful.{flag_one}
use Rattle.dt_forms.proofs.Tells.{Tells}

-- the step is the one by which the run ends
abbrev pub EndsBy : ActData → End → Type 0
EndsBy (fault c) (Fault n d) = d ≡ c
EndsBy (done e p) (Done n pa q) = q ≡ p
EndsBy _ _ = ⊥

-- the walk comes to none of these ends
abbrev pub NoEnd : Valuation → List ActData → List Out → Type 0
NoEnd v (p ∷ ps) (o ∷ os) = ((is_end p && is_one (v o.come)) ≡ false) × NoEnd v ps os
NoEnd v _ _ = Unit {0}

-- the walk comes to one end, and to no other
abbrev pub EndsOnce : Valuation → List ActData → List Out → End → Type 0
EndsOnce v (p ∷ ps) (o ∷ os) end = ((is_one (v o.come) ≡ true) × EndsBy p end × NoEnd v ps os) ⊎ (((is_end p && is_one (v o.come)) ≡ false) × EndsOnce v ps os end)
EndsOnce v _ _ end = ⊥

-- each term that tells where the walk comes is a truth
abbrev pub AreTruths : Valuation → List Out → Type 0
AreTruths v outs = AllByRecursion (λ (o : Out). v o.away ≡ flag (not (is_one (v o.come)))) outs

absent : (v : Valuation) (o : Out) → v o.away ≡ flag (not (is_one (v o.come))) → is_one (form_value v (term o.away)) ≡ not (is_one (v o.come))
absent v o e = ap is_one e ∙ flag_one (not (is_one (v o.come)))

none_hold : (v : Valuation) (test : ActData → Bool) (ps : List ActData) (os : List Out) → AreTruths v os → NoEnd v ps os → Hold v (ends_only test ps os)
none_hold v test [] os t h = tt
none_hold v test (p ∷ ps) [] t h = tt
none_hold v test (p ∷ ps) (o ∷ os) t h = by_step (is_end p) (test p) h.0 (none_hold v test ps os t.1 h.1)
  where
    by_step : (e b : Bool) → (e && is_one (v o.come)) ≡ false → Hold v (ends_only test ps os) → Hold v (cond (e && not b) (term o.away ∷ ends_only test ps os) (ends_only test ps os))
    by_step true true n k = k
    by_step true false n k = (absent v o t.0 ∙ ap not n, k)
    by_step false b n k = k

-- where the end passes, the terms are 1
ends_hold : (v : Valuation) (test : ActData → Bool) (ps : List ActData) (os : List Out) (end : End) → AreTruths v os → ((p : ActData) → EndsBy p end → test p ≡ true) → EndsOnce v ps os end → Hold v (ends_only test ps os)
ends_hold v test [] os end t k h = absurd h
ends_hold v test (p ∷ ps) [] end t k h = absurd h
ends_hold v test (p ∷ ps) (o ∷ os) end t k (inl h) =
    let b : test p ≡ true = k p h.1 in
    by_step (is_end p) (test p) b (none_hold v test ps os t.1 h.2)
  where
    by_step : (e b : Bool) → b ≡ true → Hold v (ends_only test ps os) → Hold v (cond (e && not b) (term o.away ∷ ends_only test ps os) (ends_only test ps os))
    by_step true true q g = g
    by_step true false q g = absurd (false≢true q)
    by_step false b q g = g
ends_hold v test (p ∷ ps) (o ∷ os) end t k (inr h) =
    by_step (is_end p) (test p) h.0 (ends_hold v test ps os end t.1 k h.1)
  where
    by_step : (e b : Bool) → (e && is_one (v o.come)) ≡ false → Hold v (ends_only test ps os) → Hold v (cond (e && not b) (term o.away ∷ ends_only test ps os) (ends_only test ps os))
    by_step true true n g = g
    by_step true false n g = (absent v o t.0 ∙ ap not n, g)
    by_step false b n g = g

ends_is_end : (p : ActData) (end : End) → EndsBy p end → is_end p ≡ true
ends_is_end (bind x e to) end h = absurd h
ends_is_end (read x e g t o) end h = absurd h
ends_is_end (branch e t o) end h = absurd h
ends_is_end (fault c) end h = refl
ends_is_end (done e p) end h = refl

-- where they are 1, the end passes
hold_ends : (v : Valuation) (test : ActData → Bool) (ps : List ActData) (os : List Out) (end : End) → AreTruths v os → Hold v (ends_only test ps os) → EndsOnce v ps os end → (p : ActData) × EndsBy p end × (test p ≡ true)
hold_ends v test [] os end t g h = absurd h
hold_ends v test (p ∷ ps) [] end t g h = absurd h
hold_ends v test (p ∷ ps) (o ∷ os) end t g (inl h) = (p, h.1, by_step (is_end p) (test p) (ends_is_end p end h.1) g)
  where
    by_step : (e b : Bool) → e ≡ true → Hold v (cond (e && not b) (term o.away ∷ ends_only test ps os) (ends_only test ps os)) → b ≡ true
    by_step true true q k = refl
    by_step true false q k = absurd (false≢true (ap not (sym h.0) ∙ sym (absent v o t.0) ∙ k.0))
    by_step false b q k = absurd (false≢true q)
hold_ends v test (p ∷ ps) (o ∷ os) end t g (inr h) = hold_ends v test ps os end t.1 (by_step (is_end p) (test p) g) h.1
  where
    by_step : (e b : Bool) → Hold v (cond (e && not b) (term o.away ∷ ends_only test ps os) (ends_only test ps os)) → Hold v (ends_only test ps os)
    by_step true true k = k
    by_step true false k = k.1
    by_step false b k = k

-- the terms tell whether the end passes, where each step by which the run can end says so
pub ends_tell : (v : Valuation) (test : ActData → Bool) (ps : List ActData) (os : List Out) (end : End) (b : Bool) → AreTruths v os → EndsOnce v ps os end → ((p : ActData) → EndsBy p end → test p ≡ b) → Tells v (ends_only test ps os) b
ends_tell v test ps os end b t e k = record {
  holds = λ h. let q = hold_ends v test ps os end t h e in sym (k q.0 q.1) ∙ q.2;
  held = λ h. ends_hold v test ps os end t (λ p q. k p q ∙ h) e;
}
