-- A model's text that is refused is so by one fault.
use Rattle.std.proofs.Common.{◌≡◌, ℕ, ◌<◌, ◌≤◌, ◌⊎◌, inl, inr, true, false, Some, Ok, Err, suc, zero, List, refl, sym, ap, subst, ◌∙◌, ⊎_elim, arith}
use Rattle.std.specs.Prelude.{IsTrue, Bool, ◌==◌, nat_lt, ◌&&◌, ◌||◌}
use Rattle.std.proofs.lemmas.Bool.{cases_lt, lt-ltb, eq-eqb}
use Rattle.dt_lex.specs.declared.fault.LexFault.TheVariants as lexical
use Rattle.dt_model.specs.declared.refusal.ModelRefusal.{ModelRefusal}
use Rattle.dt_model.specs.declared.refusal.ModelRefusal.TheVariants.{NameTwice, UnknownName, WidthMismatch, WidthRange, BackEdge, Unassigned, AssignedTwice, NoNode, TooMany, TooDeep}
use Rattle.dt_model.specs.declared.refusal.Place.{Place}
use Rattle.dt_model.specs.declared.refusal.Place.TheVariants.{Header, Reg, Input, Var, LegalContext, LegalAccess, Node}
use Rattle.dt_model.specs.ModelData.{ModelData}
use Rattle.dt_model.specs.Faults.{IsRefused, group_of, index_of, number_of}
use Rattle.dt_modeltext.specs.declared.fault.ModelFault.{ModelFault}
use Rattle.dt_modeltext.specs.declared.fault.ModelFault.TheVariants as model
use Rattle.dt_modeltext.specs.Entry.{Declared, origin_of}
use Rattle.dt_modeltext.specs.Read.{reading, RefusesText, IsRefusedAt}
use Rattle.dt_modeltext.specs.Fault.{line_of as model_line}
use Rattle.dt_model.proofs.Compose.{place, itself}

-- ---- places and refusals by their numbers

numbered : ℕ → ModelRefusal
numbered zero = NameTwice
numbered (suc zero) = NameTwice
numbered (suc (suc zero)) = UnknownName
numbered (suc (suc (suc zero))) = WidthMismatch
numbered (suc (suc (suc (suc zero)))) = WidthRange
numbered (suc (suc (suc (suc (suc zero))))) = BackEdge
numbered (suc (suc (suc (suc (suc (suc zero)))))) = Unassigned
numbered (suc (suc (suc (suc (suc (suc (suc zero))))))) = AssignedTwice
numbered (suc (suc (suc (suc (suc (suc (suc (suc zero)))))))) = NoNode
numbered (suc (suc (suc (suc (suc (suc (suc (suc (suc zero))))))))) = TooMany
numbered (suc (suc (suc (suc (suc (suc (suc (suc (suc (suc n)))))))))) = TooDeep

numbered-number : (r : ModelRefusal) → numbered (number_of r) ≡ r
unfolding numbered
numbered-number NameTwice = refl
numbered-number UnknownName = refl
numbered-number WidthMismatch = refl
numbered-number WidthRange = refl
numbered-number BackEdge = refl
numbered-number Unassigned = refl
numbered-number AssignedTwice = refl
numbered-number NoNode = refl
numbered-number TooMany = refl
numbered-number TooDeep = refl

-- ---- the check's refusal

before_or : (a b : Bool) → a ≡ true → IsTrue (a || b)
before_or a b e = subst (λ x. IsTrue (x || b)) (sym e) refl

before_and : (a b c : Bool) → b ≡ true → c ≡ true → IsTrue (a || (b && c))
before_and true b c e f = refl
before_and false b c e f = subst (λ x. IsTrue (x && c)) (sym e) (subst (λ x. IsTrue (true && x)) (sym f) refl)

-- of two refusals neither place comes before the other's
no_lower_group : (d : ModelData) (p q : Place) (r s : ModelRefusal) → IsRefused d p r → IsRefused d q s → group_of p < group_of q → ⊥
no_lower_group d p q r s a b l = b.first p r (before_or (nat_lt (group_of p) (group_of q)) _ (lt-ltb (group_of p) (group_of q) l)) a.breaks

no_lower_index : (d : ModelData) (p q : Place) (r s : ModelRefusal) → IsRefused d p r → IsRefused d q s → group_of p ≡ group_of q → index_of p < index_of q → ⊥
no_lower_index d p q r s a b e l =
    b.first p r (before_and (nat_lt (group_of p) (group_of q)) (group_of p == group_of q) (nat_lt (index_of p) (index_of q)) (eq-eqb (group_of p) (group_of q) e) (lt-ltb (index_of p) (index_of q) l)) a.breaks

neither : (m n : ℕ) → (m < n → ⊥) → (n < m → ⊥) → m ≡ n
neither m n a b = ⊎_elim (λ (l : m < n). absurd (a l)) (λ (l : n ≤ m). ⊎_elim (λ (k : n < m). absurd (b k)) (λ (k : m ≤ n). omega arith) (cases_lt n m)) (cases_lt m n)

one_place : (d : ModelData) (p q : Place) (r s : ModelRefusal) → IsRefused d p r → IsRefused d q s → p ≡ q
one_place d p q r s a b =
    let g = neither (group_of p) (group_of q) (no_lower_group d p q r s a b) (no_lower_group d q p s r b a) in
    let i = neither (index_of p) (index_of q) (no_lower_index d p q r s a b g) (no_lower_index d q p s r b a (sym g)) in
    sym (itself p) ∙ ap (λ n. place n (index_of p)) g ∙ ap (place (group_of q)) i ∙ itself q

one_refusal : (d : ModelData) (p : Place) (r s : ModelRefusal) → IsRefused d p r → IsRefused d p s → r ≡ s
one_refusal d p r s a b =
    let n = neither (number_of r) (number_of s) (λ l. b.smallest r l a.breaks) (λ l. a.smallest s l b.breaks) in
    sym (numbered-number r) ∙ ap numbered n ∙ numbered-number s

-- ---- the text's fault

fault_line : (text : List ℕ) (r : ModelRefusal) (m n : ℕ) (s : ModelRefusal) → IsRefusedAt text r n → IsRefusedAt text s m → model.Refused r n ≡ model.Refused s m
fault_line text r m n s a b =
    let e : Ok a.0 ≡ Ok b.0 = sym a.2 ∙ b.2 in
    let same : a.0 ≡ b.0 = cc in
    let other = subst (λ (d : Declared). IsRefused d.model b.1 s) (sym same) b.3 in
    let p = one_place a.0.model a.1 b.1 r s a.3 other in
    let q = one_refusal a.0.model b.1 r s (subst (λ x. IsRefused a.0.model x r) p a.3) other in
    let k : n ≡ m = a.4 ∙ ap (λ x. origin_of a.0.origins x) p ∙ ap (λ (d : Declared). origin_of d.origins b.1) same ∙ sym b.4 in
    ap (λ x. model.Refused x n) q ∙ ap (model.Refused s) k

known : (text : List ℕ) (e : ModelFault) (n : ℕ) → model_line e ≡ Some n → RefusesText text e
    → (reading text ≡ Err e) ⊎ ((r : ModelRefusal) × (m : ℕ) × (e ≡ model.Refused r m) × IsRefusedAt text r m)
known text model.Memory n l h = absurd cc
known text (model.Lex lexical.Memory) n l h = absurd h
known text (model.Lex (lexical.LineTooLong m)) n l h = inl h
known text (model.Lex (lexical.BadByte m)) n l h = inl h
known text (model.Form m) n l h = inl h
known text (model.Refused r m) n l (inl h) = inl h.1
known text (model.Refused r m) n l (inr h) = inr (r, m, refl, h)

fault_is : (text : List ℕ) (e f : ModelFault) → (reading text ≡ Err e) → (reading text ≡ Err f) → e ≡ f
fault_is text e f a b = let k = sym a ∙ b in cc

pub one_fault : (text : List ℕ) (e f : ModelFault) (n m : ℕ) → model_line e ≡ Some n → model_line f ≡ Some m → RefusesText text e → RefusesText text f → e ≡ f
one_fault text e f n m l k a b =
    elim (known text e n l a) [
      | inl x ↦ elim (known text f m k b) [ inl y ↦ fault_is text e f x y | inr y ↦ let z = y.3 in let w = sym x ∙ z.2 in absurd cc ]
      | inr x ↦ elim (known text f m k b) [
        | inl y ↦ let z = x.3 in let w = sym y ∙ z.2 in absurd cc
        | inr y ↦ x.2 ∙ fault_line text x.0 y.1 x.1 y.0 x.3 y.3 ∙ sym y.2
      ]
    ]
