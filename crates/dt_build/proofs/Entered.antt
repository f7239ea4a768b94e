-- Nodes that are entered in a table, and put behind choices.
use Rattle.std.proofs.Common.{◌≡◌, ℕ, ◌+◌, ◌-◌, ◌<◌, ◌≤◌, Bool, true, false, not, cond, refl, sym, ap, ◌∙◌, subst, ◌&&◌, ◌==◌, List, [], ◌∷◌, ◌++◌, length, take, drop, Option, Some, None, arith, inl, inr, length-append, append_assoc}
use Rattle.std.specs.Prelude.{is_none, position, map}
use Rattle.std.specs.List.{list_any, list_all, position_or_len}
use Rattle.std.proofs.lemmas.Bool.{cases_Bool, and_parts, or_parts}
use Rattle.std.proofs.lemmas.List.{take-append-drop, take-append-le, drop-append-le, length-take-le, length_push, take_all, drop_all}
use Rattle.dt_lemmas.proofs.Positions.{found, missing, position_is, position_past, position_none, stops_here, goes_by}
use Rattle.dt_bits.specs.declared.op.Op.{Op}
use Rattle.dt_bits.specs.declared.op.Op.TheVariants.{Const, Not, And, Or, Xor, Add, Sub, Slice, Concat, SignExt, Shl, Shr, Eq, Ltu, Ite}
use Rattle.dt_bits.specs.declared.value.Width.{Width}
use Rattle.dt_terms.specs.declared.term.Term.{Term}
use Rattle.dt_terms.specs.declared.term.Term.TheVariants.{Choice, Node}
use Rattle.dt_terms.specs.Terms.{is_choice}
use Rattle.dt_terms.specs.Additions.{node_of}
use Rattle.dt_forms.specs.Placing.{Placed, put, place, shared}
use Rattle.dt_forms.specs.Same.{same_term, same_op}
use Rattle.dt_build.specs.Building.{is_new, AreChoicesAnd}
use Rattle.indexmap.specs.IndexSet.{insert_key}
use Rattle.dt_terms.specs.contracts.term.TermPartialEq.TheImpl as derived
use Rattle.dt_bits.specs.contracts.op.OpPartialEq.TheImpl as derived_op

-- ---- the derived test of two terms is that of the definitions

op_same : (x y : Op) → (derived_op.eq-value).it x y ≡ same_op x y
op_same (Const v) (Const w) = refl
op_same Not Not = refl
op_same And And = refl
op_same Or Or = refl
op_same Xor Xor = refl
op_same Add Add = refl
op_same Sub Sub = refl
op_same (Slice h l) (Slice i m) = refl
op_same Concat Concat = refl
op_same (SignExt n) (SignExt m) = refl
op_same (Shl n) (Shl m) = refl
op_same (Shr n) (Shr m) = refl
op_same Eq Eq = refl
op_same Ltu Ltu = refl
op_same Ite Ite = refl
op_same _ _ = refl

term_same : (x y : Term) → (derived.eq-value).it x y ≡ same_term x y
term_same (Choice w) (Choice x) = refl
term_same (Choice w) (Node op a b c x) = refl
term_same (Node op a b c w) (Choice x) = refl
term_same (Node op a b c w) (Node p i j k x) = ap (λ (s : Bool). s && (a == i && (b == j && (c == k && w.0 == x.0)))) (op_same op p)

-- ---- where a term stands that is entered

abbrev test : Term → Term → Bool
test x = (derived.eq-value).it x

test_is : (x : Term) → test x ≡ same_term x
test_is x = λ i y. term_same x y i

found_within : (p : Term → Bool) (ks : List Term) → list_any p ks ≡ true → position_or_len p ks < length ks
found_within p [] h = absurd (cc)
found_within p (k ∷ ks) h =
    let rest = λ (e : list_any p ks ≡ true). found_within p ks e in
    elim (cases_Bool (p k)) [
      | inl is ↦ let z = stops_here p k ks is in omega (arith, z)
      | inr isnt ↦
          let z = goes_by p k ks isnt in
          let more : list_any p ks ≡ true = rw isnt at h in
          let w = rest more in
          omega (arith, z, w)
    ]

put_found : (ks : List Term) (x : Term) → list_any (same_term x) ks ≡ true → position (same_term x) ks ≡ Some (position_or_len (same_term x) ks)
put_found ks x h = position_is (same_term x) ks _ refl (found_within (same_term x) ks h)

past_end : (p : Term → Bool) (ks : List Term) → list_any p ks ≡ false → position_or_len p ks ≡ length ks
past_end p [] h = refl
past_end p (k ∷ ks) h =
    let q = or_parts (p k) (list_any p ks) h in
    goes_by p k ks q.0 ∙ (let e = past_end p ks q.1 in omega (arith, e))

-- the keys of a set in which the term was entered
pub entered_keys : (ks : List Term) (x : Term) → insert_key (derived.eq-value).it ks x ≡ (put ks x).terms
entered_keys ks x = ap (λ (p : Term → Bool). cond (list_any p ks) ks (ks ++ x ∷ [])) (test_is x) ∙ by_any (list_any (same_term x) ks) refl
  where
    by_any : (b : Bool) → list_any (same_term x) ks ≡ b → cond b ks (ks ++ x ∷ []) ≡ (put ks x).terms
    by_any true e = ap (λ (o : Option ℕ). (shared ks x o).terms) (sym (put_found ks x e))
    by_any false e = ap (λ (o : Option ℕ). (shared ks x o).terms) (sym (position_none (same_term x) ks e))

-- its place
pub entered_at : (ks : List Term) (x : Term) → position_or_len ((derived.eq-value).it x) ks ≡ (put ks x).at
entered_at ks x = ap (λ (p : Term → Bool). position_or_len p ks) (test_is x) ∙ by_any (list_any (same_term x) ks) refl
  where
    by_any : (b : Bool) → list_any (same_term x) ks ≡ b → position_or_len (same_term x) ks ≡ (put ks x).at
    by_any true e = ap (λ (o : Option ℕ). (shared ks x o).at) (sym (put_found ks x e))
    by_any false e = past_end (same_term x) ks e ∙ ap (λ (o : Option ℕ). (shared ks x o).at) (sym (position_none (same_term x) ks e))

-- whether it is new
pub entered_new : (ks : List Term) (x : Term) → not (list_any ((derived.eq-value).it x) ks) ≡ is_new ks x
entered_new ks x = ap (λ (p : Term → Bool). not (list_any p ks)) (test_is x) ∙ by_any (list_any (same_term x) ks) refl
  where
    by_any : (b : Bool) → list_any (same_term x) ks ≡ b → not b ≡ is_new ks x
    by_any true e = ap (λ (o : Option ℕ). is_none o) (sym (put_found ks x e))
    by_any false e = ap (λ (o : Option ℕ). is_none o) (sym (position_none (same_term x) ks e))

-- ---- a node that is put behind choices

no_choice : (x c : Term) → is_choice x ≡ false → is_choice c ≡ true → same_term x c ≡ false
no_choice (Choice w) c e d = absurd (cc)
no_choice (Node op a b k w) (Choice v) e d = refl
no_choice (Node op a b k w) (Node p i j l v) e d = absurd (cc)

past_choices : (cs ks : List Term) (x : Term) → is_choice x ≡ false → list_all is_choice cs ≡ true → position_or_len (same_term x) (cs ++ ks) ≡ length cs + position_or_len (same_term x) ks
past_choices [] ks x e h = omega arith
past_choices (c ∷ cs) ks x e h =
    let q = and_parts (is_choice c) (list_all is_choice cs) h in
    let w = past_choices cs ks x e q.1 in
    let z = goes_by (same_term x) c (cs ++ ks) (no_choice x c e q.0) in
    omega (arith, z, w)

abbrev behind : List Term → List Term → Term → Option ℕ → Placed
behind cs ks x o = record { terms = cs ++ (shared ks x o).terms; at = length cs + (shared ks x o).at }

put_last : (cs ks : List Term) (x : Term) → shared (cs ++ ks) x None ≡ behind cs ks x None
put_last cs ks x = λ i. record { terms = append_assoc cs ks (x ∷ []) i; at = length-append cs ks i }

pub put_behind : (cs ks : List Term) (x : Term) → is_choice x ≡ false → list_all is_choice cs ≡ true → put (cs ++ ks) x ≡ record { terms = cs ++ (put ks x).terms; at = length cs + (put ks x).at }
put_behind cs ks x e h = by_place (position (same_term x) ks) refl
  where
    all : position_or_len (same_term x) (cs ++ ks) ≡ length cs + position_or_len (same_term x) ks
    all = past_choices cs ks x e h

    by_place : (o : Option ℕ) → position (same_term x) ks ≡ o → put (cs ++ ks) x ≡ behind cs ks x (position (same_term x) ks)
    by_place (Some i) is =
        let f = found (same_term x) ks i is in
        let there : position (same_term x) (cs ++ ks) ≡ Some (length cs + i) = position_is (same_term x) (cs ++ ks) (length cs + i) (omega (arith, all, f.0)) (omega (arith, f.1, length-append cs ks)) in
        ap (shared (cs ++ ks) x) there ∙ ap (behind cs ks x) (sym is)
    by_place None is =
        let m = missing (same_term x) ks is in
        let none : position (same_term x) (cs ++ ks) ≡ None = position_past (same_term x) (cs ++ ks) (omega (arith, m, all, length-append cs ks)) in
        ap (shared (cs ++ ks) x) none ∙ put_last cs ks x ∙ ap (behind cs ks x) (sym is)

-- ---- terms that are choices and then nodes

-- the terms before the nodes
abbrev before : List Term → List Term → List Term
before terms nodes = take (length terms - length nodes) terms

parts : (terms nodes : List Term) → AreChoicesAnd terms nodes → before terms nodes ++ nodes ≡ terms
parts terms nodes h = ap (λ (l : List Term). before terms nodes ++ l) (sym h.rest) ∙ take-append-drop (length terms - length nodes) terms

before_count : (terms nodes : List Term) → length (before terms nodes) ≡ length terms - length nodes
before_count terms nodes = length-take-le (length terms - length nodes) terms (omega arith)

put_is : (terms nodes : List Term) (x : Term) → AreChoicesAnd terms nodes → is_choice x ≡ false → put terms x ≡ record { terms = before terms nodes ++ (put nodes x).terms; at = (length terms - length nodes) + (put nodes x).at }
put_is terms nodes x h e =
    ap (λ (l : List Term). put l x) (sym (parts terms nodes h)) ∙ put_behind (before terms nodes) nodes x e h.choices
    ∙ (λ i. record { terms = before terms nodes ++ (put nodes x).terms; at = before_count terms nodes i + (put nodes x).at })

old_put : (ks : List Term) (x : Term) → is_new ks x ≡ false → (put ks x).terms ≡ ks
old_put ks x e = by_place (position (same_term x) ks) e
  where
    by_place : (o : Option ℕ) → is_none o ≡ false → (shared ks x o).terms ≡ ks
    by_place (Some i) f = refl
    by_place None f = absurd (cc)

new_put : (ks : List Term) (x : Term) → is_new ks x ≡ true → put ks x ≡ record { terms = ks ++ x ∷ []; at = length ks }
new_put ks x e = by_place (position (same_term x) ks) e
  where
    by_place : (o : Option ℕ) → is_none o ≡ true → shared ks x o ≡ record { terms = ks ++ x ∷ []; at = length ks }
    by_place None f = refl
    by_place (Some i) f = absurd (cc)

-- a node that stands already
pub put_old : (terms nodes : List Term) (x : Term) → AreChoicesAnd terms nodes → is_choice x ≡ false → is_new nodes x ≡ false → put terms x ≡ record { terms = terms; at = (length terms - length nodes) + (put nodes x).at }
put_old terms nodes x h e n =
    put_is terms nodes x h e
    ∙ (λ i. record { terms = (ap (λ (l : List Term). before terms nodes ++ l) (old_put nodes x n) ∙ parts terms nodes h) i; at = (length terms - length nodes) + (put nodes x).at })

-- a new one
pub put_new : (terms nodes : List Term) (x : Term) → AreChoicesAnd terms nodes → is_choice x ≡ false → is_new nodes x ≡ true → put terms x ≡ record { terms = terms ++ x ∷ []; at = length terms }
put_new terms nodes x h e n =
    let made = new_put nodes x n in
    let count : (length terms - length nodes) + length nodes ≡ length terms = omega (arith, length-append (before terms nodes) nodes, ap length (parts terms nodes h), before_count terms nodes) in
    put_is terms nodes x h e
    ∙ (λ i. record { terms = before terms nodes ++ (made i).terms; at = (length terms - length nodes) + (made i).at })
    ∙ (λ i. record { terms = (sym (append_assoc (before terms nodes) nodes (x ∷ [])) ∙ ap (λ (l : List Term). l ++ x ∷ []) (parts terms nodes h)) i; at = count i })

-- with a new node the terms are choices and then nodes
pub with_node : (terms nodes : List Term) (x : Term) → AreChoicesAnd terms nodes → is_new nodes x ≡ true → AreChoicesAnd (terms ++ x ∷ []) (put nodes x).terms
with_node terms nodes x h n =
    let made : (put nodes x).terms ≡ nodes ++ x ∷ [] = ap (λ (p : Placed). p.terms) (new_put nodes x n) in
    subst (λ (l : List Term). AreChoicesAnd (terms ++ x ∷ []) l) (sym made) grown
  where
    more : before (terms ++ x ∷ []) (nodes ++ x ∷ []) ≡ before terms nodes
    more =
        let k : length (terms ++ x ∷ []) - length (nodes ++ x ∷ []) ≡ length terms - length nodes = omega (arith, length_push terms x, length_push nodes x) in
        ap (λ (m : ℕ). take m (terms ++ x ∷ [])) k ∙ take-append-le (length terms - length nodes) terms (x ∷ []) (omega arith)

    rest : drop (length (terms ++ x ∷ []) - length (nodes ++ x ∷ [])) (terms ++ x ∷ []) ≡ nodes ++ x ∷ []
    rest =
        let k : length (terms ++ x ∷ []) - length (nodes ++ x ∷ []) ≡ length terms - length nodes = omega (arith, length_push terms x, length_push nodes x) in
        ap (λ (m : ℕ). drop m (terms ++ x ∷ [])) k ∙ drop-append-le (length terms - length nodes) terms (x ∷ []) (omega arith) ∙ ap (λ (l : List Term). l ++ x ∷ []) h.rest

    grown : AreChoicesAnd (terms ++ x ∷ []) (nodes ++ x ∷ [])
    grown = record { choices = ap (list_all is_choice) more ∙ h.choices; rest = rest }

-- choices alone
all_choices : (ws : List Width) → list_all is_choice (map (λ (w : Width). Choice w) ws) ≡ true
all_choices [] = refl
all_choices (w ∷ ws) = all_choices ws

pub choices_alone : (ws : List Width) → AreChoicesAnd (map (λ (w : Width). Choice w) ws) []
choices_alone ws =
    let terms = map (λ (w : Width). Choice w) ws in
    let short : length terms ≤ length terms - 0 = omega arith in
    record { choices = ap (list_all is_choice) (take_all (length terms - 0) terms short) ∙ all_choices ws; rest = drop_all (length terms - 0) terms short }

-- ---- placing

pub place_old : (terms nodes : List Term) (op : Op) (a b c : ℕ) (x : Term) → AreChoicesAnd terms nodes → x ≡ node_of terms op a b c → is_new nodes x ≡ false → place terms op a b c ≡ record { terms = terms; at = (length terms - length nodes) + (put nodes x).at }
place_old terms nodes op a b c x h e n = ap (put terms) (sym e) ∙ put_old terms nodes x h (ap is_choice e) n

pub place_new : (terms nodes : List Term) (op : Op) (a b c : ℕ) (x : Term) → AreChoicesAnd terms nodes → x ≡ node_of terms op a b c → is_new nodes x ≡ true → place terms op a b c ≡ record { terms = terms ++ x ∷ []; at = length terms }
place_new terms nodes op a b c x h e n = ap (put terms) (sym e) ∙ put_new terms nodes x h (ap is_choice e) n
