-- Loops over the nodes of a walk, with what stands for them.
use Rattle.std.proofs.Common.{◌≡◌, ℕ, suc, ◌+◌, ◌<◌, ◌≤◌, drop, get_or, arith, Bool, true, false, not, ◌&&◌, cond, List, [], ◌∷◌, ◌++◌, map, length, refl, sym, ap, ◌∙◌, append_assoc, ◌⊎◌, inl, inr}
use Rattle.std.proofs.Math.Seq.{drop-cons}
use Rattle.std.proofs.lemmas.List.{append-nil, nil_from_length, drop_all}
use Rattle.dt_model.specs.declared.model.Node.{Node}
use Rattle.dt_model.specs.ModelData.{ActData, act_of, bind, read, branch, fault, done}
use Rattle.dt_model.specs.Flow.{steps_of}
use Rattle.dt_terms.specs.Problem.{ProblemData}
use Rattle.dt_forms.specs.Forms.{Form, term}
use Rattle.dt_forms.specs.Folding.{fold}
use Rattle.dt_build.specs.Building.{claimed}
use Rattle.dt_build.proofs.Demanded.{demanded_none}
use Rattle.dt_table.specs.declared.out.Out.{Out}
use Rattle.dt_table.specs.Apart.{pages_at}
use Rattle.dt_table.specs.Claims.{ends_only}
use Rattle.dt_reach.specs.declared.ways.Ways.{Ways}
use Rattle.dt_table.specs.Spots.{read_spots, page_spots}
use Rattle.dt_ways.specs.Ends.{is_end}
use Rattle.dt_claims.specs.Steps.{page_at, read_spot, page_spot, end_forms}

-- ---- one node, and then the others

pub pages_first : (p : ActData) (ps : List ActData) (o : Out) (os : List Out) → pages_at (p ∷ ps) (o ∷ os) ≡ page_at p o ++ pages_at ps os
pages_first (bind x e n) ps o os = refl
pages_first (read x e g t f) ps o os = refl
pages_first (branch e t f) ps o os = refl
pages_first (fault c) ps o os = refl
pages_first (done e p) ps o os = refl

pub reads_first : (ws : List Ways) (k : ℕ) (p : ActData) (ps : List ActData) (o : Out) (os : List Out) (n : ℕ) → read_spots ws k (p ∷ ps) (o ∷ os) n ≡ read_spot ws k n p o ++ read_spots ws k ps os (n + 1)
reads_first ws k (bind x e t) ps o os n = refl
reads_first ws k (read x e g t f) ps o os n = refl
reads_first ws k (branch e t f) ps o os n = refl
reads_first ws k (fault c) ps o os n = refl
reads_first ws k (done e p) ps o os n = refl

pub page_spots_first : (ws : List Ways) (k : ℕ) (p : ActData) (ps : List ActData) (o : Out) (os : List Out) (n : ℕ) → page_spots ws k (p ∷ ps) (o ∷ os) n ≡ page_spot ws k n p o ++ page_spots ws k ps os (n + 1)
page_spots_first ws k (bind x e t) ps o os n = refl
page_spots_first ws k (read x e g t f) ps o os n = refl
page_spots_first ws k (branch e t f) ps o os n = refl
page_spots_first ws k (fault c) ps o os n = refl
page_spots_first ws k (done e p) ps o os n = refl

pub ends_first : (test : ActData → Bool) (p : ActData) (ps : List ActData) (o : Out) (os : List Out) → ends_only test (p ∷ ps) (o ∷ os) ≡ end_forms test p o ++ ends_only test ps os
ends_first test p ps o os = by_test (is_end p && not (test p))
  where
    by_test : (b : Bool) → cond b (term o.away ∷ ends_only test ps os) (ends_only test ps os) ≡ cond b (term o.away ∷ []) [] ++ ends_only test ps os
    by_test true = refl
    by_test false = refl

-- ---- without nodes, or without what stands for them

pub pages_none : (ps : List ActData) → pages_at ps [] ≡ []
pages_none [] = refl
pages_none (bind x e n ∷ ps) = refl
pages_none (read x e g t f ∷ ps) = refl
pages_none (branch e t f ∷ ps) = refl
pages_none (fault c ∷ ps) = refl
pages_none (done e p ∷ ps) = refl

pub reads_none : (ws : List Ways) (k : ℕ) (ps : List ActData) (n : ℕ) → read_spots ws k ps [] n ≡ []
reads_none ws k [] n = refl
reads_none ws k (bind x e t ∷ ps) n = refl
reads_none ws k (read x e g t f ∷ ps) n = refl
reads_none ws k (branch e t f ∷ ps) n = refl
reads_none ws k (fault c ∷ ps) n = refl
reads_none ws k (done e p ∷ ps) n = refl

pub page_spots_none : (ws : List Ways) (k : ℕ) (ps : List ActData) (n : ℕ) → page_spots ws k ps [] n ≡ []
page_spots_none ws k [] n = refl
page_spots_none ws k (bind x e t ∷ ps) n = refl
page_spots_none ws k (read x e g t f ∷ ps) n = refl
page_spots_none ws k (branch e t f ∷ ps) n = refl
page_spots_none ws k (fault c ∷ ps) n = refl
page_spots_none ws k (done e p ∷ ps) n = refl

pub ends_none : (test : ActData → Bool) (ps : List ActData) → ends_only test ps [] ≡ []
ends_none test [] = refl
ends_none test (p ∷ ps) = refl

-- ---- turns of the loops

-- a list that grows by what one node adds
grown : {A : Type 0} (old new one rest all whole : List A) → all ≡ one ++ rest → new ≡ old ++ one → old ++ all ≡ whole → new ++ rest ≡ whole
grown {A} old new one rest all whole e f h =
    ap (λ (l : List A). l ++ rest) f ∙ append_assoc old one rest ∙ ap (λ (l : List A). old ++ l) (sym e) ∙ h

-- a turn of a loop that adds what one element gives
pub gathered : {X A : Type 0} (all : List X → List A) (one : X → List A) → ((x : X) (xs : List X) → all (x ∷ xs) ≡ one x ++ all xs) → (old new whole : List A) (xs : List X) (i : ℕ) (d : X) → i < length xs
    → new ≡ old ++ one (get_or xs i d) → old ++ all (drop i xs) ≡ whole → new ++ all (drop (i + 1) xs) ≡ whole
gathered {X} all one first old new whole xs i d l e h =
    let n : suc i ≡ i + 1 = omega arith in
    let here : drop i xs ≡ get_or xs i d ∷ drop (i + 1) xs = drop-cons xs i d l ∙ ap (λ (k : ℕ). get_or xs i d ∷ drop k xs) n in
    grown old new (one (get_or xs i d)) (all (drop (i + 1) xs)) (all (drop i xs)) whole (ap all here ∙ first (get_or xs i d) (drop (i + 1) xs)) e h

-- no nodes are left, or nothing that stands for them
pub none_left : {A P Q : Type 0} (F : List ActData → List Out → List A) (ns : List Node) (os : List Out) → P ⊎ Q → (P → length ns ≡ 0) → (Q → length os ≡ 0) → ((ps : List ActData) → F ps [] ≡ []) → F [] [] ≡ F [] os → F (steps_of ns) os ≡ []
none_left F ns os s p q none same =
    elim s [
      | inl w ↦ ap (λ (ms : List Node). F (steps_of ms) os) (nil_from_length ns (p w)) ∙ sym same ∙ none []
      | inr w ↦ ap (F (steps_of ns)) (nil_from_length os (q w)) ∙ none (steps_of ns)
    ]

-- one node of a walk is gone by
pub node_grown : {A : Type 0} (F : List ActData → List Out → List A) (G : ActData → Out → List A) → ((p : ActData) (ps : List ActData) (o : Out) (os : List Out) → F (p ∷ ps) (o ∷ os) ≡ G p o ++ F ps os)
    → (old new whole : List A) (n : Node) (o : Out) (ns ms : List Node) (os us : List Out) → ns ≡ n ∷ ms → os ≡ o ∷ us → new ≡ old ++ G (act_of n.act) o → old ++ F (steps_of ns) os ≡ whole → new ++ F (steps_of ms) us ≡ whole
node_grown {A} F G first old new whole n o ns ms os us e f g h =
    grown old new (G (act_of n.act) o) (F (steps_of ms) us) (F (steps_of ns) os) whole
    (ap (λ (l : List Node). F (steps_of l) os) e ∙ ap (F (steps_of (n ∷ ms))) f ∙ first (act_of n.act) (steps_of ms) o us) g h

-- nothing is left to add
pub nothing_left : {A : Type 0} (old rest whole : List A) → rest ≡ [] → old ++ rest ≡ whole → old ≡ whole
nothing_left old rest whole e h = sym (append-nil old) ∙ ap (λ l. old ++ l) (sym e) ∙ h

-- nothing is left to require
pub none_required : (p whole : ProblemData) (fs : List Form) → fs ≡ [] → claimed p fs ≡ whole → p ≡ whole
none_required p whole fs e h = sym (demanded_none fold p) ∙ ap (claimed p) (sym e) ∙ h

-- a list that begins without elements
pub collected : {A B : Type 0} (f : A → B) (xs made none : List A) (whole : List B) → xs ≡ made → map f made ≡ map f none ++ whole → none ≡ [] → map f xs ≡ whole
collected {B} f xs made none whole e h n = ap (map f) e ∙ h ∙ ap (λ l. map f l ++ whole) n

-- ---- nodes by their positions

-- a node of a walk is gone by, where each is named by its position
pub spots_grown : {A : Type 0} (F : List ActData → List Out → ℕ → List A) (G : ℕ → ActData → Out → List A) → ((p : ActData) (ps : List ActData) (o : Out) (os : List Out) (n : ℕ) → F (p ∷ ps) (o ∷ os) n ≡ G n p o ++ F ps os (n + 1))
    → (old new whole : List A) (ns : List Node) (os : List Out) (n : ℕ) (node : Node) (d : Out) → n < length ns → node ≡ get_or ns n node → n < length os
    → new ≡ old ++ G n (act_of node.act) (get_or os n d) → old ++ F (steps_of (drop n ns)) (drop n os) n ≡ whole → new ++ F (steps_of (drop (n + 1) ns)) (drop (n + 1) os) (n + 1) ≡ whole
spots_grown {A} F G first old new whole ns os n node d l at m e h =
    let o = get_or os n d in
    let next : suc n ≡ n + 1 = omega arith in
    let here : drop n ns ≡ node ∷ drop (n + 1) ns = drop-cons ns n node l ∙ (λ i. sym at i ∷ drop (next i) ns) in
    let there : drop n os ≡ o ∷ drop (n + 1) os = drop-cons os n d m ∙ ap (λ (k : ℕ). o ∷ drop k os) next in
    grown old new (G n (act_of node.act) o) (F (steps_of (drop (n + 1) ns)) (drop (n + 1) os) (n + 1)) (F (steps_of (drop n ns)) (drop n os) n) whole
    (ap (λ (ms : List Node). F (steps_of ms) (drop n os) n) here ∙ ap (λ (us : List Out). F (steps_of (node ∷ drop (n + 1) ns)) us n) there ∙ first (act_of node.act) (steps_of (drop (n + 1) ns)) o (drop (n + 1) os) n)
    e h

-- no node is left
pub spots_end : {A : Type 0} (F : List ActData → List Out → ℕ → List A) → ((os : List Out) (n : ℕ) → F [] os n ≡ []) → (old whole : List A) (ns : List Node) (os : List Out) (n : ℕ) → length ns ≤ n → old ++ F (steps_of (drop n ns)) (drop n os) n ≡ whole → old ≡ whole
spots_end {A} F none old whole ns os n l h =
    nothing_left old (F (steps_of (drop n ns)) (drop n os) n) whole (ap (λ (ms : List Node). F (steps_of ms) (drop n os) n) (drop_all n ns l) ∙ none (drop n os) n) h

-- nothing that stands for a node is left
pub outs_end : {A : Type 0} (F : List ActData → List Out → ℕ → List A) → ((ps : List ActData) (n : ℕ) → F ps [] n ≡ []) → (old whole : List A) (ns : List Node) (os : List Out) (n : ℕ) → length os ≤ n → old ++ F (steps_of (drop n ns)) (drop n os) n ≡ whole → old ≡ whole
outs_end {A} F none old whole ns os n l h =
    nothing_left old (F (steps_of (drop n ns)) (drop n os) n) whole (ap (λ (us : List Out). F (steps_of (drop n ns)) us n) (drop_all n os l) ∙ none (steps_of (drop n ns)) n) h
