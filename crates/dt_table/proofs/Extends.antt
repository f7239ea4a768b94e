-- The problem of a list begins with its choices, and all that follows are nodes.
use Rattle.std.proofs.Common.{◌≡◌, ℕ, zero, suc, ◌+◌, true, false, List, [], ◌∷◌, ◌++◌, length, replicate, Option, Some, None, refl, sym, ap, ◌∙◌}
use Rattle.std.specs.Prelude.{position}
use Rattle.std.specs.List.{flat_map, AllByRecursion}
use Rattle.std.proofs.lemmas.List.{append-nil, append_assoc}
use Rattle.dt_lemmas.proofs.Lists.{AllByRecursion-append}
use Rattle.dt_bits.specs.Bits.{width}
use Rattle.dt_bits.specs.declared.op.Op.{Op}
use Rattle.dt_bits.specs.declared.op.Op.TheVariants.{Or, Ite, Const}
use Rattle.dt_model.specs.declared.model.Named.{Named as NamedWidth}
use Rattle.dt_model.specs.ModelData.{ModelData, ActData, bind, read, branch, fault, done}
use Rattle.dt_model.specs.Faults.{steps}
use Rattle.dt_request.specs.declared.list.AccessWish.{AccessWish}
use Rattle.dt_request.specs.declared.list.Requests.{Requests}
use Rattle.dt_request.specs.Choices.{read_nodes}
use Rattle.dt_terms.specs.declared.term.Term.{Term}
use Rattle.dt_terms.specs.declared.term.Term.TheVariants.{Choice}
use Rattle.dt_terms.specs.Terms.{is_choice}
use Rattle.dt_terms.specs.Additions.{node_of}
use Rattle.dt_forms.specs.Same.{same_term}
use Rattle.dt_forms.specs.declared.folded.Folded.{Folded}
use Rattle.dt_forms.specs.declared.folded.Folded.TheVariants.{At, Value, New}
use Rattle.dt_forms.specs.Folding.{folded, placed_folded, fold}
use Rattle.dt_forms.specs.Placing.{shared, put, place}
use Rattle.dt_forms.specs.Forms.{Form, term, number, form1, form2, form3, Placing, placed_by, form_placed, required_by, all_required, not_of, both_of}
use Rattle.dt_table.specs.Expressions.{form_of}
use Rattle.dt_table.specs.Passing.{Access, State, named, with_terms, join, chosen, assign, fork, part, is_cell, passed, noted, walk_placed}
use Rattle.dt_table.specs.Table.{words_at, access_of, first_state, context_rules, access_rules, Built, with_forms, with_claims, contexts_built, access_built, accesses_built, start, bit_node, built, claim_forms, extra_forms, table, choices, names_chosen, access_chosen}

-- the second list is the first, and then nodes
abbrev pub Extends : List Term → List Term → Type 0
Extends terms all = (more : List Term) × (all ≡ terms ++ more) × AllByRecursion (λ (t : Term). is_choice t ≡ false) more

pub extends_self : (terms : List Term) → Extends terms terms
extends_self terms = ([], sym (append-nil terms), tt)

pub extends_on : (a b c : List Term) → Extends a b → Extends b c → Extends a c
extends_on a b c p q = (p.0 ++ q.0, q.1 ∙ ap (λ (l : List Term). l ++ q.0) p.1 ∙ append_assoc a p.0 q.0, AllByRecursion-append (λ (t : Term). is_choice t ≡ false) p.0 q.0 p.2 q.2)

put_extends : (terms : List Term) (x : Term) → is_choice x ≡ false → Extends terms (put terms x).terms
put_extends terms x e = by_place (position (same_term x) terms)
  where
    by_place : (o : Option ℕ) → Extends terms (shared terms x o).terms
    by_place (Some t) = extends_self terms
    by_place None = (x ∷ [], refl, (e, tt))

place_extends : (terms : List Term) (op : Op) (a b c : ℕ) → Extends terms (place terms op a b c).terms
place_extends terms op a b c = put_extends terms (node_of terms op a b c) refl

fold_extends : (terms : List Term) (op : Op) (a b c : ℕ) → Extends terms (fold terms op a b c).terms
unfolding fold
fold_extends terms op a b c = by_folded (folded terms op a b c)
  where
    by_folded : (f : Folded) → Extends terms (placed_folded terms op a b c f).terms
    by_folded (At t) = extends_self terms
    by_folded (Value x) = place_extends terms (Const (record { width = width x.width.0; bits = x.bits })) 0 0 0
    by_folded New = place_extends terms op a b c

-- a placing only puts nodes behind
abbrev OnlyExtends : Placing → Type 0
OnlyExtends placing = (terms : List Term) (op : Op) (a b c : ℕ) → Extends terms (placing terms op a b c).terms

extends_by : (placing : Placing) → OnlyExtends placing → (f : Form) (terms : List Term) → Extends terms (placed_by placing terms f).terms
extends_by placing ext (term t) terms = extends_self terms
extends_by placing ext (number w n) terms = place_extends terms (Const (record { width = width w; bits = n })) 0 0 0
extends_by placing ext (form1 op a) terms =
    let x = placed_by placing terms a in
    extends_on terms x.terms (placing x.terms op x.at 0 0).terms (extends_by placing ext a terms) (ext x.terms op x.at 0 0)
extends_by placing ext (form2 op a b) terms =
    let x = placed_by placing terms a in
    let y = placed_by placing x.terms b in
    let w = placing y.terms op x.at y.at 0 in
    extends_on terms x.terms w.terms (extends_by placing ext a terms) (extends_on x.terms y.terms w.terms (extends_by placing ext b x.terms) (ext y.terms op x.at y.at 0))
extends_by placing ext (form3 op a b c) terms =
    let x = placed_by placing terms a in
    let y = placed_by placing x.terms b in
    let z = placed_by placing y.terms c in
    let w = placing z.terms op x.at y.at z.at in
    extends_on terms x.terms w.terms (extends_by placing ext a terms) (extends_on x.terms y.terms w.terms (extends_by placing ext b x.terms) (extends_on y.terms z.terms w.terms (extends_by placing ext c y.terms) (ext z.terms op x.at y.at z.at)))

pub form_extends : (f : Form) (terms : List Term) → Extends terms (form_placed terms f).terms
form_extends f terms = extends_by place place_extends f terms

all_extend : (placing : Placing) → OnlyExtends placing → (fs : List Form) (terms : List Term) → Extends terms (required_by placing terms fs).terms
all_extend placing ext [] terms = extends_self terms
all_extend placing ext (f ∷ fs) terms =
    let x = placed_by placing terms f in
    extends_on terms x.terms (required_by placing x.terms fs).terms (extends_by placing ext f terms) (all_extend placing ext fs x.terms)

pub required_extends : (fs : List Form) (terms : List Term) → Extends terms (all_required terms fs).terms
required_extends fs terms = all_extend place place_extends fs terms

join_extends : (s : State) (to taken : ℕ) → Extends s.terms (join s to taken).terms
join_extends s to taken = form_extends (form2 Or (term (s.come to)) (term taken)) s.terms

assign_extends : (s : State) (x taken new : ℕ) → Extends s.terms (assign s x taken new).terms
assign_extends s x taken new = by_old (s.vars x)
  where
    by_old : (o : Option ℕ) → Extends s.terms (chosen s.terms o taken new).terms
    by_old None = extends_self s.terms
    by_old (Some old) = form_extends (form3 Ite (term taken) (term new) (term old)) s.terms

fork_extends : (terms : List Term) (come test : ℕ) → Extends terms (fork terms come test).terms
fork_extends terms come test =
    let t = form_placed terms (both_of (term come) (term test)) in
    extends_on terms t.terms (fork terms come test).terms (form_extends (both_of (term come) (term test)) terms) (form_extends (both_of (term come) (not_of (term test))) t.terms)

part_extends : (s : State) (t a o b : ℕ) → Extends s.terms (part s t a o b).terms
part_extends s t a o b = extends_on s.terms (join s t a).terms (part s t a o b).terms (join_extends s t a) (join_extends (join s t a) o b)

passed_extends : (a : Access) (s : State) (n : ℕ) (p : ActData) → Extends s.terms (passed a s n p).state.terms
passed_extends a s n (bind x e to) =
    let v = form_placed s.terms (form_of (named a s) e) in
    let s1 = with_terms s v.terms in
    let s2 = assign s1 x (s.come n) v.at in
    let s3 = join s2 to (s.come n) in
    extends_on s.terms v.terms s3.terms (form_extends (form_of (named a s) e) s.terms) (extends_on v.terms s2.terms s3.terms (assign_extends s1 x (s.come n) v.at) (join_extends s2 to (s.come n)))
passed_extends a s n (branch e t o) =
    let v = form_placed s.terms (form_of (named a s) e) in
    let f = fork v.terms (s.come n) v.at in
    let s1 = with_terms s f.terms in
    let s2 = part s1 t f.by_then o f.by_other in
    extends_on s.terms v.terms s2.terms (form_extends (form_of (named a s) e) s.terms) (extends_on v.terms f.terms s2.terms (fork_extends v.terms (s.come n) v.at) (part_extends s1 t f.by_then o f.by_other))
passed_extends a s n (read x e g t o) =
    let v = form_placed s.terms (form_of (named a s) e) in
    let c = form_placed v.terms (is_cell a v.at) in
    let f = fork c.terms (s.come n) c.at in
    let s1 = with_terms s f.terms in
    let s2 = assign s1 x f.by_then s.word in
    let s3 = part s2 t f.by_then o f.by_other in
    extends_on s.terms v.terms s3.terms (form_extends (form_of (named a s) e) s.terms) (extends_on v.terms c.terms s3.terms (form_extends (is_cell a v.at) v.terms)
    (extends_on c.terms f.terms s3.terms (fork_extends c.terms (s.come n) c.at) (extends_on f.terms s2.terms s3.terms (assign_extends s1 x f.by_then s.word) (part_extends s2 t f.by_then o f.by_other))))
passed_extends a s n (fault c) = extends_self s.terms
passed_extends a s n (done e p) = form_extends (form_of (named a s) e) s.terms

pub walk_extends : (a : Access) (ps : List ActData) (s : State) (n : ℕ) → Extends s.terms (walk_placed a s ps n).terms
walk_extends a [] s n = extends_self s.terms
walk_extends a (p ∷ ps) s n =
    let s1 = noted s n in
    let q = passed a s1 n p in
    let r = walk_placed a q.state ps (n + 1) in
    extends_on s.terms s1.terms r.terms (form_extends (not_of (term (s.come n))) s.terms) (extends_on s1.terms q.state.terms r.terms (passed_extends a s1 n p) (walk_extends a ps q.state (n + 1)))

contexts_extends : (d : ModelData) (n c : ℕ) (b : Built) → Extends b.terms (contexts_built d b n c).terms
contexts_extends d zero c b = extends_self b.terms
contexts_extends d (suc n) c b =
    let q = with_forms b (context_rules d c) in
    extends_on b.terms q.terms (contexts_built d q n (c + 1)).terms (required_extends (context_rules d c) b.terms) (contexts_extends d n (c + 1) q)

accesses_extends : (d : ModelData) (r : Requests) (wishes : List AccessWish) (b : Built) (k : ℕ) → Extends b.terms (accesses_built d r b k wishes).terms
accesses_extends d r [] b k = extends_self b.terms
accesses_extends d r (a ∷ more) b k =
    let q = with_forms b (access_rules d r k a) in
    let c = access_built d r b k a in
    let all = accesses_built d r c (k + 1) more in
    extends_on b.terms q.terms all.terms (required_extends (access_rules d r k a) b.terms)
    (extends_on q.terms c.terms all.terms (walk_extends (access_of d r k a) (steps d) (first_state (access_of d r k a) q.terms (words_at d r k)) 0) (accesses_extends d r more c (k + 1)))

pub table_extends : (d : ModelData) (r : Requests) → Extends (choices d r) (table d r).terms
unfolding table
table_extends d r =
    let s = start d r in
    let c = contexts_built d s (length r.contexts) 0 in
    let b = built d r in
    let t = with_claims b (claim_forms d r b.outs ++ extra_forms d r b.terms b.outs) in
    extends_on (choices d r) s.terms t.terms (bit_node 0 ∷ bit_node 1 ∷ [], refl, (refl, (refl, tt)))
    (extends_on s.terms c.terms t.terms (contexts_extends d (length r.contexts) 0 s) (extends_on c.terms b.terms t.terms (accesses_extends d r r.accesses c 0) (all_extend fold fold_extends (claim_forms d r b.outs ++ extra_forms d r b.terms b.outs) b.terms)))

-- ---- choices

abbrev pub AreChoices : List Term → Type 0
AreChoices terms = AllByRecursion (λ (t : Term). is_choice t ≡ true) terms

names_choices : (ns : List NamedWidth) → AreChoices (names_chosen ns)
names_choices [] = tt
names_choices (n ∷ ns) = (refl, names_choices ns)

words_choices : (n w : ℕ) → AreChoices (replicate n (Choice (width w)))
words_choices zero w = tt
words_choices (suc n) w = (refl, words_choices n w)

repeated_choices : {A : Type 0} (xs : List Term) (cs : List A) → AreChoices xs → AreChoices (flat_map (λ (_ : A). xs) cs)
repeated_choices xs [] h = tt
repeated_choices {A} xs (c ∷ cs) h = AllByRecursion-append (λ (t : Term). is_choice t ≡ true) xs (flat_map (λ (_ : A). xs) cs) h (repeated_choices xs cs h)

pub are_choices : (d : ModelData) (r : Requests) → AreChoices (choices d r)
are_choices d r =
    AllByRecursion-append (λ (t : Term). is_choice t ≡ true) (flat_map (λ _. names_chosen d.regs) r.contexts) (flat_map (λ _. access_chosen d) r.accesses)
    (repeated_choices (names_chosen d.regs) r.contexts (names_choices d.regs))
    (repeated_choices (access_chosen d) r.accesses (AllByRecursion-append (λ (t : Term). is_choice t ≡ true) (names_chosen d.inputs) (replicate (read_nodes d) (Choice (width d.word))) (names_choices d.inputs) (words_choices (read_nodes d) d.word)))
