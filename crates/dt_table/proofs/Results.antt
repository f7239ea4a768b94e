-- The results that walks come to: what a function makes of the one that a walk ends with.
use Rattle.std.proofs.Common.{◌≡◌, ℕ, ◌+◌, Bool, true, false, cond, List, [], ◌∷◌, Option, Some, None, inl, inr, refl, sym, ap, ◌∙◌, subst}
use Rattle.std.specs.Option.{option_to_list}
use Rattle.dt_model.specs.ModelData.{ActData, bind, read, branch, fault, done}
use Rattle.dt_walk.specs.declared.run.End.{End}
use Rattle.dt_walk.specs.declared.run.End.TheVariants.{Done, Fault}
use Rattle.dt_walk.specs.Walks.{RunData}
use Rattle.dt_forms.specs.Meaning.{Valuation, is_one}
use Rattle.dt_table.specs.declared.out.Out.{Out}
use Rattle.dt_table.specs.Told.{told, told_step}
use Rattle.dt_table.specs.Apart.{Sized, pages_at}
use Rattle.dt_table.proofs.Ends.{NoEnd, EndsOnce}

-- what a function makes of the values and exponents of the nodes whose term is 1
abbrev pub made_from : {X : Type 0} → (ℕ → ℕ → X) → Valuation → (Out → ℕ) → List Sized → List X
made_from f v key [] = []
made_from f v key (x ∷ xs) = cond (is_one (v (key x.out))) (f (v x.out.value).bits x.exponent ∷ made_from f v key xs) (made_from f v key xs)

abbrev pub come_of : Out → ℕ
come_of o = o.come

no_pages : {X : Type 0} (f : ℕ → ℕ → X) (v : Valuation) (ps : List ActData) (os : List Out) → NoEnd v ps os → made_from f v come_of (pages_at ps os) ≡ []
no_pages f v [] os h = refl
no_pages f v (bind x e to ∷ ps) [] h = refl
no_pages f v (read x e g t o2 ∷ ps) [] h = refl
no_pages f v (branch e t o2 ∷ ps) [] h = refl
no_pages f v (fault c ∷ ps) [] h = refl
no_pages f v (done e p ∷ ps) [] h = refl
no_pages f v (bind x e to ∷ ps) (o ∷ os) h = no_pages f v ps os h.1
no_pages f v (read x e g t o2 ∷ ps) (o ∷ os) h = no_pages f v ps os h.1
no_pages f v (branch e t o2 ∷ ps) (o ∷ os) h = no_pages f v ps os h.1
no_pages f v (fault c ∷ ps) (o ∷ os) h = no_pages f v ps os h.1
no_pages f v (done e p ∷ ps) (o ∷ os) h = ap (λ (b : Bool). cond b (f (v o.value).bits p ∷ made_from f v come_of (pages_at ps os)) (made_from f v come_of (pages_at ps os))) h.0 ∙ no_pages f v ps os h.1

same_end : (b : Bool) (x y : RunData) → x.end ≡ y.end → (cond b x y).end ≡ y.end
same_end true x y e = e
same_end false x y e = refl

-- what the function makes of the address and the exponent of a result
abbrev pub made_of_end : {X : Type 0} → (ℕ → ℕ → X) → End → Option X
made_of_end f (Done n pa page) = Some (f pa page)
made_of_end f (Fault n c) = None

abbrev PageTold : {X : Type 0} → (ℕ → ℕ → X) → Valuation → List ActData → List Out → ℕ → Type 0
PageTold f v ps os n = option_to_list (made_of_end f (told v ps os n).end) ≡ made_from f v come_of (pages_at ps os)

-- a node that isn't the end
pass_on : {X : Type 0} (f : ℕ → ℕ → X) (v : Valuation) (p : ActData) (ps : List ActData) (o : Out) (os : List Out) (n : ℕ) → (told v (p ∷ ps) (o ∷ os) n).end ≡ (told v ps os (n + 1)).end → pages_at (p ∷ ps) (o ∷ os) ≡ pages_at ps os
    → (EndsOnce v ps os (told v ps os (n + 1)).end → PageTold f v ps os (n + 1)) → EndsOnce v ps os (told v (p ∷ ps) (o ∷ os) n).end → PageTold f v (p ∷ ps) (o ∷ os) n
pass_on f v p ps o os n e g ih h =
    ap (λ x. option_to_list (made_of_end f x)) e ∙ ih (subst (λ x. EndsOnce v ps os x) e h) ∙ ap (made_from f v come_of) (sym g)

pub page_told : {X : Type 0} (f : ℕ → ℕ → X) (v : Valuation) (ps : List ActData) (os : List Out) (n : ℕ) → EndsOnce v ps os (told v ps os n).end → PageTold f v ps os n
page_told f v [] os n h = absurd h
page_told f v (p ∷ ps) [] n h = absurd h
page_told f v (bind x e to ∷ ps) (o ∷ os) n (inl h) = absurd h.1
page_told f v (bind x e to ∷ ps) (o ∷ os) n (inr h) = pass_on f v (bind x e to) ps o os n (same_end (is_one (v o.come)) (told_step v n (bind x e to) o (told v ps os (n + 1))) (told v ps os (n + 1)) refl) refl (λ g. page_told f v ps os (n + 1) g) h.1
page_told f v (read x e g t o2 ∷ ps) (o ∷ os) n (inl h) = absurd h.1
page_told f v (read x e g t o2 ∷ ps) (o ∷ os) n (inr h) = pass_on f v (read x e g t o2) ps o os n (same_end (is_one (v o.come)) (told_step v n (read x e g t o2) o (told v ps os (n + 1))) (told v ps os (n + 1)) refl) refl (λ g. page_told f v ps os (n + 1) g) h.1
page_told f v (branch e t o2 ∷ ps) (o ∷ os) n (inl h) = absurd h.1
page_told f v (branch e t o2 ∷ ps) (o ∷ os) n (inr h) = pass_on f v (branch e t o2) ps o os n (same_end (is_one (v o.come)) (told_step v n (branch e t o2) o (told v ps os (n + 1))) (told v ps os (n + 1)) refl) refl (λ g. page_told f v ps os (n + 1) g) h.1
page_told f v (fault c ∷ ps) (o ∷ os) n (inl h) =
    let r = told v ps os (n + 1) in
    ap (λ (b : Bool). option_to_list (made_of_end f (cond b (told_step v n (fault c) o r) r).end)) h.0 ∙ sym (no_pages f v ps os h.2)
page_told f v (fault c ∷ ps) (o ∷ os) n (inr h) =
    let r = told v ps os (n + 1) in
    pass_on f v (fault c) ps o os n (ap (λ (b : Bool). (cond b (told_step v n (fault c) o r) r).end) h.0) refl (λ g. page_told f v ps os (n + 1) g) h.1
page_told {X} f v (done e p ∷ ps) (o ∷ os) n (inl h) =
    let r = told v ps os (n + 1) in
    let rest = made_from f v come_of (pages_at ps os) in
    ap (λ (b : Bool). option_to_list (made_of_end f (cond b (told_step v n (done e p) o r) r).end)) h.0
    ∙ ap (λ (l : List X). f (v o.value).bits p ∷ l) (sym (no_pages f v ps os h.2))
    ∙ sym (ap (λ (b : Bool). cond b (f (v o.value).bits p ∷ rest) rest) h.0)
page_told f v (done e p ∷ ps) (o ∷ os) n (inr h) =
    let r = told v ps os (n + 1) in
    let rest = made_from f v come_of (pages_at ps os) in
    let q : (told v (done e p ∷ ps) (o ∷ os) n).end ≡ r.end = ap (λ (b : Bool). (cond b (told_step v n (done e p) o r) r).end) h.0 in
    ap (λ x. option_to_list (made_of_end f x)) q ∙ page_told f v ps os (n + 1) (subst (λ x. EndsOnce v ps os x) q h.1)
    ∙ sym (ap (λ (b : Bool). cond b (f (v o.value).bits p ∷ rest) rest) h.0)
