-- The reads that a walk tells, node by node.
use Rattle.std.proofs.Common.{◌≡◌, ℕ, suc, ◌+◌, ◌<◌, ◌≤◌, Bool, true, false, ◌&&◌, cond, List, [], ◌∷◌, ◌++◌, length, drop, get_or, refl, sym, ap, ◌∙◌, add-one, drop-cons}
use Rattle.std.proofs.lemmas.List.{drop_all}
use Rattle.dt_model.specs.declared.model.Node.{Node}
use Rattle.dt_model.specs.ModelData.{ActData, bind, read, branch, fault, done, act_of}
use Rattle.dt_model.specs.Flow.{steps_of}
use Rattle.dt_walk.specs.Walks.{RunData}
use Rattle.dt_walk.specs.declared.run.ReadMade.{ReadMade}
use Rattle.dt_forms.specs.Meaning.{Valuation, is_one}
use Rattle.dt_table.specs.declared.out.Out.{Out}
use Rattle.dt_table.specs.Told.{told, told_step, made_if}
use Rattle.dt_table.proofs.Told.{same_if}
use Rattle.dt_encode.specs.Telling.{made_at}

made_both : (c b : Bool) (m : ReadMade) (x rest : RunData) → x.reads ≡ made_if b m rest.reads → (cond c x rest).reads ≡ cond (c && b) (m ∷ []) [] ++ rest.reads
made_both true true m x rest e = e
made_both true false m x rest e = e
made_both false b m x rest e = refl

-- a node's own read comes before those of later nodes
pub told_more : (v : Valuation) (p : ActData) (ps : List ActData) (o : Out) (os : List Out) (n : ℕ) → (told v (p ∷ ps) (o ∷ os) n).reads ≡ made_at v n p o ++ (told v ps os (n + 1)).reads
told_more v (bind x e to) ps o os n = let r = told v ps os (n + 1) in same_if (is_one (v o.come)) (told_step v n (bind x e to) o r) r refl
told_more v (branch e t f) ps o os n = let r = told v ps os (n + 1) in same_if (is_one (v o.come)) (told_step v n (branch e t f) o r) r refl
told_more v (fault c) ps o os n = let r = told v ps os (n + 1) in same_if (is_one (v o.come)) (told_step v n (fault c) o r) r refl
told_more v (done e p) ps o os n = let r = told v ps os (n + 1) in same_if (is_one (v o.come)) (told_step v n (done e p) o r) r refl
told_more v (read x e g t f) ps o os n =
    let r = told v ps os (n + 1) in
    made_both (is_one (v o.come)) (is_one (v o.by_then)) (record { node = n; cell = (v o.value).bits; word = (v o.word).bits }) (told_step v n (read x e g t f) o r) r refl

-- what is told from node i on
abbrev pub left_told : Valuation → List Node → List Out → ℕ → List ReadMade
left_told v nodes outs i = (told v (steps_of (drop i nodes)) (drop i outs) i).reads

pub left_more : (v : Valuation) (nodes : List Node) (outs : List Out) (i : ℕ) (n : Node) (o : Out) → i < length nodes → n ≡ get_or nodes i n → i < length outs → o ≡ get_or outs i o
    → left_told v nodes outs i ≡ made_at v i (act_of n.act) o ++ left_told v nodes outs (i + 1)
left_more v nodes outs i n o l e m f =
    let j : suc i ≡ i + 1 = sym (add-one i) in
    let ns : drop i nodes ≡ n ∷ drop (i + 1) nodes = drop-cons nodes i n l ∙ ap (λ (x : Node). x ∷ drop (suc i) nodes) (sym e) ∙ ap (λ (k : ℕ). n ∷ drop k nodes) j in
    let os : drop i outs ≡ o ∷ drop (i + 1) outs = drop-cons outs i o m ∙ ap (λ (x : Out). x ∷ drop (suc i) outs) (sym f) ∙ ap (λ (k : ℕ). o ∷ drop k outs) j in
    ap (λ (l : List Node). (told v (steps_of l) (drop i outs) i).reads) ns
    ∙ ap (λ (l : List Out). (told v (act_of n.act ∷ steps_of (drop (i + 1) nodes)) l i).reads) os
    ∙ told_more v (act_of n.act) (steps_of (drop (i + 1) nodes)) o (drop (i + 1) outs) i

-- where nothing stands for the node, nothing is told
pub left_none : (v : Valuation) (nodes : List Node) (outs : List Out) (i : ℕ) → length outs ≤ i → left_told v nodes outs i ≡ []
left_none v nodes outs i l = ap (λ (l : List Out). (told v (steps_of (drop i nodes)) l i).reads) (drop_all i outs l) ∙ no_outs (steps_of (drop i nodes))
  where
    no_outs : (ps : List ActData) → (told v ps [] i).reads ≡ []
    no_outs [] = refl
    no_outs (p ∷ ps) = refl
