-- Loops that require forms in turn.
use Rattle.std.proofs.Common.{◌≡◌, ℕ, suc, ◌+◌, ◌<◌, ◌≤◌, List, [], ◌∷◌, ◌++◌, length, drop, get_or, sym, ap, ◌∙◌, arith}
use Rattle.std.proofs.lemmas.List.{drop_all}
use Rattle.std.proofs.Math.Seq.{drop-cons}
use Rattle.dt_terms.specs.Problem.{ProblemData}
use Rattle.dt_forms.specs.Forms.{Form}
use Rattle.dt_forms.specs.Folding.{fold}
use Rattle.dt_build.specs.Building.{claimed}
use Rattle.dt_build.proofs.Demanded.{demanded_none, demanded_parts}

-- the forms of a list are those of its first element and of the others
abbrev pub Each : {X : Type 0} → (List X → List Form) → (X → List X → List Form) → Type 0
Each {X} all one = (x : X) (xs : List X) → all (x ∷ xs) ≡ one x xs ++ all xs

-- a turn of a loop
pub turn : {X : Type 0} (all : List X → List Form) (one : X → List X → List Form) → Each all one → (p q whole : ProblemData) (xs : List X) (i : ℕ) (d : X) → i < length xs
    → q ≡ claimed p (one (get_or xs i d) (drop (i + 1) xs)) → claimed p (all (drop i xs)) ≡ whole → claimed q (all (drop (i + 1) xs)) ≡ whole
turn {X} all one each p q whole xs i d l e h =
    let n : suc i ≡ i + 1 = omega arith in
    let here : drop i xs ≡ get_or xs i d ∷ drop (i + 1) xs = drop-cons xs i d l ∙ ap (λ (k : ℕ). get_or xs i d ∷ drop k xs) n in
    ap (λ (r : ProblemData). claimed r (all (drop (i + 1) xs))) e
    ∙ sym (demanded_parts fold p (one (get_or xs i d) (drop (i + 1) xs)) (all (drop (i + 1) xs)))
    ∙ ap (claimed p) (sym (each (get_or xs i d) (drop (i + 1) xs)))
    ∙ ap (λ (ys : List X). claimed p (all ys)) (sym here)
    ∙ h

-- the end of a loop
pub turned : {X : Type 0} (all : List X → List Form) → all [] ≡ [] → (p whole : ProblemData) (xs : List X) (i : ℕ) → length xs ≤ i → claimed p (all (drop i xs)) ≡ whole → p ≡ whole
turned {X} all none p whole xs i l h =
    sym (demanded_none fold p) ∙ ap (claimed p) (sym none) ∙ ap (λ (ys : List X). claimed p (all ys)) (sym (drop_all i xs l)) ∙ h

-- forms that are required behind others
pub both_required : (p q r : ProblemData) (fs gs : List Form) → q ≡ claimed p fs → r ≡ claimed q gs → r ≡ claimed p (fs ++ gs)
both_required p q r fs gs e f = f ∙ ap (λ (s : ProblemData). claimed s gs) e ∙ sym (demanded_parts fold p fs gs)

-- the first of the forms that are left
pub on : (p q whole : ProblemData) (one rest all : List Form) → all ≡ one ++ rest → q ≡ claimed p one → claimed p all ≡ whole → claimed q rest ≡ whole
on p q whole one rest all e f h =
    ap (λ (r : ProblemData). claimed r rest) f ∙ sym (demanded_parts fold p one rest) ∙ ap (claimed p) (sym e) ∙ h
