-- Where the values themselves say nothing: a step is that of the Pairs, and the listed numbers are those that it holds.
use Rattle.std.proofs.Common.{◌≡◌, ℕ, Bool, true, false, ◌&&◌, ◌||◌, not, List, [], ◌∷◌, refl, sym, ap, ◌∙◌, subst, ⊎_elim, inr, arith}
use Rattle.std.specs.Prelude.{Option}
use Rattle.std.proofs.lemmas.Bool.{cases_Bool, cond-true, cond-false, false≢true}
use Rattle.dt_bits.specs.Ops.{some_used}
use Rattle.dt_bits.specs.declared.op.Op.{Op}
use Rattle.dt_bits.specs.declared.value.Width.{Width}
use Rattle.dt_domain.specs.Domain.{AreAlike, Fitting, FittingAt, IsNarrowed, operand}
use Rattle.dt_known.specs.declared.Known.{Known}
use Rattle.dt_known.specs.Known.{known_holds, known_meet}
use Rattle.dt_known.specs.Laws.{known_laws}
use Rattle.dt_known.specs.Forward.{known_forward}
use Rattle.dt_known.specs.Backward.{known_backward}
use Rattle.dt_known.specs.Laws.Meets.{meets as known_meets}
use Rattle.dt_range.specs.declared.Range.{Range}
use Rattle.dt_range.specs.Range.{range_holds, range_meet}
use Rattle.dt_range.specs.Laws.Meets.{meets as range_meets}
use Rattle.dt_range.specs.Forward.{range_forward}
use Rattle.dt_range.specs.Backward.{range_backward}
use Rattle.dt_pair.specs.declared.Pair.{Pair}
use Rattle.dt_pair.specs.Pair.{IsPair, pair_holds, no_pair, pair_meet, pair_forward, pair_backward, normal}
use Rattle.dt_pair.specs.Ops.{pair_ops}
use Rattle.dt_pair.specs.Laws.{pair_laws}
use Rattle.dt_pair.specs.Laws.Normal.{normal_same}
use Rattle.dt_pair.specs.Laws.Form.{filled_or_not, IsFilled, normal_of_empty, normal_is, normal_width}
use Rattle.dt_pair.specs.Laws.Parts.{alike_known}
use Rattle.dt_pair.specs.Laws.Calls.{meet_parts}
use Rattle.dt_pair.proofs.Narrowed.{AreAlikeParts}
use Rattle.dt_lemmas.proofs.Equalities.{two}
use Rattle.dt_sets.specs.declared.Sets.{Sets}
use Rattle.dt_sets.specs.declared.Triple.{Triple}
use Rattle.dt_sets.specs.Sets.{is_narrow, listing, everything, no_sets, sets_holds, sets_is_empty, sets_full, sets_meet}
use Rattle.dt_sets.specs.Forward.{some_used_empty, are_few, width_after, sets_forward}
use Rattle.dt_sets.specs.Backward.{sets_backward}
use Rattle.dt_sets.specs.Laws.{sets_laws}
use Rattle.dt_sets.specs.Laws.Form.{nothing_of}
use Rattle.dt_sets.specs.Laws.Meets.{empty_holds as none_listed, meets as sets_meets}
use Rattle.dt_sets.specs.Triple.{IsTriple, pair_of, no_triple, of_numbers, of_pair, reduced, triple_meet, triple_forward, triple_backward}
use Rattle.dt_sets.specs.TripleOps.{triple_ops}
use Rattle.dt_sets.specs.TripleLaws.Reduced.{Reduces, both, reduced_many, reduced_few, reduced_width, reduced_holds, reduced_is, reduced_empty, none_empty, canonical}
use Rattle.dt_sets.specs.TripleLaws.Calls.{meet_is, meet_red, fitting_pair, at_pair, forward_red, backward_red, result_alike, operand_widths}
use Rattle.dt_sets.proofs.Choosing.{either_unlisted}

-- ---- an empty one

no_numbers : (w : Width) (xs : List ℕ) → (of_numbers w xs).known.empty ≡ true → of_numbers w xs ≡ no_triple w
no_numbers w [] e = refl
no_numbers w (x ∷ xs) e = absurd (false≢true e)

-- a Pair that holds nothing makes the Triple that holds nothing, whatever is listed
pub nothing_left : (p : Pair) (s : Sets) → Reduces p s → p.known.empty ≡ true → reduced p s ≡ no_triple p.known.width
nothing_left p s r e = ⊎_elim
    (λ (m : s.many ≡ true). reduced_many p s m ∙ ⊎_elim
    (λ (n : p ≡ no_pair p.known.width). ap of_pair n)
    (λ (f : IsFilled p). absurd (false≢true (sym f.full ∙ e)))
    (filled_or_not p r.pair))
    (λ (m : s.many ≡ false). let d = reduced_few p s m in
    d ∙ no_numbers s.width (both p s) (sym (ap (λ (t : Triple). t.known.empty) d) ∙ reduced_empty p s r e) ∙ ap no_triple (sym r.widths))
    (cases_Bool s.many)

-- ---- the meet

pair_meets : (a b : Pair) (x : ℕ) → AreAlike pair_ops a b → pair_holds (pair_meet a b) x ≡ (pair_holds a x && pair_holds b x)
pair_meets a b x g =
    normal_same (known_meet a.known b.known) (range_meet a.range b.range) (meet_parts a b g) x
    ∙ ap (λ c. c && range_holds (range_meet a.range b.range) x) (known_meets a.known b.known x (alike_known a b g))
    ∙ ap (λ c. (known_holds a.known x && known_holds b.known x) && c) (range_meets a.range b.range x)
    ∙ four (known_holds a.known x) (known_holds b.known x) (range_holds a.range x) (range_holds b.range x)
  where
    four : (p q r s : Bool) → ((p && q) && (r && s)) ≡ ((p && r) && (q && s))
    four p q r s = grind arith

five : (p s u v q f : Bool) → (u && v) ≡ (q && f) → (q ≡ true → f ≡ true) → ((p && u) && (s && v)) ≡ ((p && q) && s)
five p s u v q f e g = grind arith

few_stays : (p : Pair) (s : Sets) → s.many ≡ false → (reduced p s).sets.many ≡ false
few_stays p s m = ap (λ (t : Triple). t.sets.many) (reduced_few p s m) ∙ lists s.width (both p s)
  where
    lists : (w : Width) (xs : List ℕ) → (of_numbers w xs).sets.many ≡ false
    lists w [] = refl
    lists w (x ∷ xs) = refl

few_meets : (a b : Sets) → a.many ≡ false → (sets_meet a b).many ≡ false
few_meets a b m = ap (λ (s : Sets). s.many) (cond-false a.many b _ m ∙ cond-false a.many a _ m)

full_reduces : (q : Pair) → IsPair q → Reduces q (sets_full q.known.width)
full_reduces q h =
    let f = sets_laws.full_is q.known.width h.known.width in
    record { pair = h; sets = f.0; widths = sym f.1 }

-- a Triple, and a Pair of its width
pub record IsBeside (s : Triple) (q : Pair) : Type 0 where
  pub s_is : IsTriple s
  pub q_is : IsPair q
  pub widths : s.known.width ≡ q.known.width

pairs_alike : (s : Triple) (q : Pair) → IsBeside s q → AreAlike pair_ops (pair_of s) q
pairs_alike s q g = record { a_is = g.s_is.pair; b_is = g.q_is; widths = g.widths }

meet_reduces : (s : Triple) (q : Pair) → IsBeside s q → Reduces (pair_meet (pair_of s) q) s.sets
meet_reduces s q g =
    let m = pair_laws.meet_is (pair_of s) q (pairs_alike s q g) in
    record { pair = m.0; sets = g.s_is.sets; widths = m.1 ∙ g.s_is.widths }

full_alike : (s : Triple) (q : Pair) → IsBeside s q → AreAlike triple_ops s (reduced q (sets_full q.known.width))
full_alike s q g =
    let r = full_reduces q g.q_is in
    record { a_is = g.s_is; b_is = reduced_is q (sets_full q.known.width) r; widths = g.widths ∙ sym (reduced_width q (sets_full q.known.width) r) }

-- where the first lists its numbers, the meet holds those that the Pair holds
meet_few : (s : Triple) (q : Pair) → IsBeside s q → s.sets.many ≡ false → triple_meet s (reduced q (sets_full q.known.width)) ≡ reduced (pair_meet (pair_of s) q) s.sets
meet_few s q g m =
    let p = pair_of s in
    let full = sets_full q.known.width in
    let f = reduced q full in
    let a = full_alike s q g in
    let r = meet_reduces s q g in
    let t = reduced (pair_meet p q) s.sets in
    let is = meet_is s f a in
    canonical t (reduced_is (pair_meet p q) s.sets r) (triple_meet s f) is.0
    (is.1 ∙ sym (reduced_width (pair_meet p q) s.sets r ∙ (pair_laws.meet_is p q (pairs_alike s q g)).1))
    (few_stays (pair_meet p (pair_of f)) (sets_meet s.sets f.sets) (few_meets s.sets f.sets m) ∙ sym (few_stays (pair_meet p q) s.sets m))
    (λ x. reduced_holds (pair_meet p (pair_of f)) (sets_meet s.sets f.sets) x (meet_red s f a)
    ∙ ap (λ b. b && sets_holds (sets_meet s.sets f.sets) x) (pair_meets p (pair_of f) x (record { a_is = g.s_is.pair; b_is = a.b_is.pair; widths = a.widths }))
    ∙ ap (λ b. (pair_holds p x && pair_holds (pair_of f) x) && b) (sets_meets s.sets f.sets x
    (record { a_is = g.s_is.sets; b_is = a.b_is.sets; widths = sym g.s_is.widths ∙ a.widths ∙ a.b_is.widths }))
    ∙ five (pair_holds p x) (sets_holds s.sets x) (pair_holds (pair_of f) x) (sets_holds f.sets x) (pair_holds q x) (sets_holds full x)
    (reduced_holds q full x (full_reduces q g.q_is))
    (λ h. sets_laws.full_holds q.known.width x g.q_is.known.width (pair_laws.held_fits q x g.q_is h))
    ∙ sym (ap (λ b. b && sets_holds s.sets x) (pair_meets p q x (pairs_alike s q g)))
    ∙ sym (reduced_holds (pair_meet p q) s.sets x r))

-- where it doesn't, neither does a Pair of its width
meet_many : (s : Triple) (q : Pair) → IsBeside s q → s.sets.many ≡ true → triple_meet s (reduced q (sets_full q.known.width)) ≡ reduced (pair_meet (pair_of s) q) s.sets
meet_many s q g m =
    let p = pair_of s in
    let w = q.known.width in
    let e : sets_full w ≡ everything w = cond-false (is_narrow w) (listing w _) (everything w) (ap is_narrow (sym g.widths ∙ g.s_is.widths) ∙ g.s_is.sets.wide m) in
    let d : reduced q (sets_full w) ≡ of_pair q = ap (reduced q) e ∙ reduced_many q (everything w) refl in
    let t : triple_meet s (of_pair q) ≡ reduced (pair_meet p q) (of_pair q).sets = ap (reduced (pair_meet p q)) (cond-true s.sets.many (of_pair q).sets _ m) in
    ap (triple_meet s) d ∙ t ∙ ⊎_elim
    (λ (n : q.known.empty ≡ true).
    let none = pair_laws.meet_empty p q (pairs_alike s q g) (inr n) in
    let r = meet_reduces s q g in
    let k : (of_pair q).sets ≡ no_sets w = cond-true q.known.empty (no_sets w) (everything w) n in
    ap (reduced (pair_meet p q)) k ∙ nothing_left (pair_meet p q) (no_sets w) (bare s q g) none ∙ sym (nothing_left (pair_meet p q) s.sets r none))
    (λ (n : q.known.empty ≡ false). ap (reduced (pair_meet p q)) (cond-false q.known.empty (no_sets w) (everything w) n)
    ∙ reduced_many (pair_meet p q) (everything w) refl ∙ sym (reduced_many (pair_meet p q) s.sets m))
    (cases_Bool q.known.empty)
  where
    bare : (s : Triple) (q : Pair) → IsBeside s q → Reduces (pair_meet (pair_of s) q) (no_sets q.known.width)
    bare s q g =
        let m = pair_laws.meet_is (pair_of s) q (pairs_alike s q g) in
        record { pair = m.0; sets = (nothing_of q.known.width g.q_is.known.width).0; widths = m.1 ∙ g.widths }

pub meet_with_pair : (s : Triple) (q : Pair) → IsBeside s q → triple_meet s (reduced q (sets_full q.known.width)) ≡ reduced (pair_meet (pair_of s) q) s.sets
meet_with_pair s q g = ⊎_elim (meet_many s q g) (meet_few s q g) (cases_Bool s.sets.many)

-- where the Pair doesn't narrow the Triple's own, the Triple stays
pub pair_stays : (s : Triple) (q : Pair) → IsBeside s q → pair_meet (pair_of s) q ≡ pair_of s → triple_meet s (reduced q (sets_full q.known.width)) ≡ s
pair_stays s q g e = meet_with_pair s q g ∙ ap (λ p. reduced p s.sets) e ∙ g.s_is.normal

-- ---- forward and backward

some_more : (m n o a b c d e f : Bool) → (a ≡ true → d ≡ true) → (b ≡ true → e ≡ true) → (c ≡ true → f ≡ true)
    → (m && a || (n && b || o && c)) ≡ true → (m && d || (n && e || o && f)) ≡ true
some_more m n o a b c d e f g h i j = grind arith

-- where nothing is listed, nothing is held
lists_none : (t : Triple) → IsTriple t → sets_is_empty t.sets ≡ true → t.known.empty ≡ true
lists_none t p e = none_empty t p (λ x. ap (λ b. pair_holds (pair_of t) x && b) (none_listed t.sets x e) ∙ and_false (pair_holds (pair_of t) x))
  where
    and_false : (b : Bool) → (b && false) ≡ false
    and_false b = grind arith

used_none : (op : Op) (a b c : Triple) → Fitting triple_ops op a b c → some_used_empty op a.sets b.sets c.sets ≡ true → some_used op a.known.empty b.known.empty c.known.empty ≡ true
used_none op a b c f h = some_more _ _ _ (sets_is_empty a.sets) (sets_is_empty b.sets) (sets_is_empty c.sets) a.known.empty b.known.empty c.known.empty
    (lists_none a f.a_is) (lists_none b f.b_is) (lists_none c f.c_is) h

not_few : (b : Bool) (c : Bool) → b ≡ true → (not b && c) ≡ false
not_few b c e = grind arith

-- where a used operand doesn't list its numbers, the result is that of the Pairs
pub forward_unlisted : (op : Op) (a b c : Triple) → Fitting triple_ops op a b c → some_used op a.sets.many b.sets.many c.sets.many ≡ true
    → triple_forward op a b c ≡ (let q = pair_forward op (pair_of a) (pair_of b) (pair_of c) in reduced q (sets_full q.known.width))
forward_unlisted op a b c f m =
    let q = pair_forward op (pair_of a) (pair_of b) (pair_of c) in
    let w = width_after op a.sets b.sets c.sets in
    let is = pair_laws.forward_is op (pair_of a) (pair_of b) (pair_of c) (fitting_pair op a b c f) in
    let k : w ≡ q.known.width = sym (is.1 ∙ result_alike op a b c f) in ⊎_elim
    (λ (e : some_used_empty op a.sets b.sets c.sets ≡ true).
    let known = known_forward op a.known b.known c.known in
    let n : known.empty ≡ true = ap (λ (d : Known). d.empty) (cond-true (some_used op a.known.empty b.known.empty c.known.empty) _ _ (used_none op a b c f e)) in
    let o : q.known.empty ≡ true = ap (λ (p : Pair). p.known.empty) (normal_of_empty known (range_forward op a.range b.range c.range) n) in
    nothing_left q (sets_forward op a.sets b.sets c.sets) (forward_red op a b c f) o
    ∙ sym (nothing_left q (sets_full q.known.width) (full_reduces q is.0) o))
    (λ (e : some_used_empty op a.sets b.sets c.sets ≡ false). ap (reduced q)
    (cond-false (some_used_empty op a.sets b.sets c.sets) (no_sets w) _ e
    ∙ cond-false (are_few op a.sets b.sets c.sets) _ (sets_full w) (not_few (some_used op a.sets.many b.sets.many c.sets.many) _ m)
    ∙ ap sets_full k))
    (cases_Bool (some_used_empty op a.sets b.sets c.sets))

or_none : (r s t u : Bool) → (r ≡ true → t ≡ true) → (s ≡ true → u ≡ true) → (r || s) ≡ true → (c : Bool) → (t || (u || c)) ≡ true
or_none r s t u f g h c = grind arith

pub backward_unlisted : (op : Op) (k : ℕ) (r a b c : Triple) → FittingAt triple_ops op k r a b c → (r.sets.many || some_used op a.sets.many b.sets.many c.sets.many) ≡ true
    → triple_backward op k r a b c ≡ (let q = pair_backward op k (pair_of r) (pair_of a) (pair_of b) (pair_of c) in reduced q (sets_full q.known.width))
backward_unlisted op k r a b c f m =
    let q = pair_backward op k (pair_of r) (pair_of a) (pair_of b) (pair_of c) in
    let s = operand k a.sets b.sets c.sets in
    let is = pair_laws.backward_is op k (pair_of r) (pair_of a) (pair_of b) (pair_of c) (at_pair op k r a b c f) in
    let o = operand_widths k a b c f.operands.a_is f.operands.b_is f.operands.c_is in
    let j : s.width ≡ q.known.width = o.1 ∙ sym o.0 ∙ sym is.1 in
    let none = sets_is_empty r.sets || some_used_empty op a.sets b.sets c.sets in ⊎_elim
    (λ (e : none ≡ true).
    let known = known_backward op k r.known a.known b.known c.known in
    let h = or_none (sets_is_empty r.sets) (some_used_empty op a.sets b.sets c.sets) r.known.empty (some_used op a.known.empty b.known.empty c.known.empty)
    (lists_none r f.r_is) (used_none op a b c f.operands) e _ in
    let n : known.empty ≡ true = ap (λ (d : Known). d.empty) (cond-true _ _ _ h) in
    let z : q.known.empty ≡ true = ap (λ (p : Pair). p.known.empty) (normal_of_empty known (range_backward op k r.range a.range b.range c.range) n) in
    nothing_left q (sets_backward op k r.sets a.sets b.sets c.sets) (backward_red op k r a b c f) z
    ∙ sym (nothing_left q (sets_full q.known.width) (full_reduces q is.0) z))
    (λ (e : none ≡ false). ap (reduced q)
    (cond-false none (no_sets s.width) _ e
    ∙ cond-false (not r.sets.many && are_few op a.sets b.sets c.sets) _ (sets_full s.width) (either_unlisted r.sets.many (some_used op a.sets.many b.sets.many c.sets.many) _ m)
    ∙ ap sets_full j))
    (cases_Bool none)

-- ---- parts

beside_parts : (s : Triple) (k : Known) (r : Range) → IsTriple s → AreAlikeParts (pair_of s) k r → IsBeside s (normal k r)
beside_parts s k r h g = record { s_is = h; q_is = normal_is k r g.parts; widths = g.widths ∙ sym (normal_width k r) }

full_of_parts : (s : Triple) (k : Known) (r : Range) → triple_meet s (reduced (normal k r) (sets_full (normal k r).known.width)) ≡ triple_meet s (reduced (normal k r) (sets_full k.width))
full_of_parts s k r = ap (λ w. triple_meet s (reduced (normal k r) (sets_full w))) (normal_width k r)

pub parts_stay : (s : Triple) (k : Known) (r : Range) → IsTriple s → AreAlikeParts (pair_of s) k r → pair_meet (pair_of s) (normal k r) ≡ pair_of s
    → triple_meet s (reduced (normal k r) (sets_full k.width)) ≡ s
parts_stay s k r h g e = sym (full_of_parts s k r) ∙ pair_stays s (normal k r) (beside_parts s k r h g) e

pub parts_meet : (s : Triple) (k : Known) (r : Range) → IsTriple s → AreAlikeParts (pair_of s) k r
    → triple_meet s (reduced (normal k r) (sets_full k.width)) ≡ reduced (pair_meet (pair_of s) (normal k r)) s.sets
parts_meet s k r h g = sym (full_of_parts s k r) ∙ meet_with_pair s (normal k r) (beside_parts s k r h g)

pub met_width : (s : Triple) (k : Known) (r : Range) → AreAlikeParts (pair_of s) k r → (known_meet s.known k).width ≡ s.known.width
met_width s k r g = (known_laws.meet_is s.known k (record { a_is = g.a_is.known; b_is = g.parts.known; widths = g.widths })).1

-- ---- into a target

pub narrowed_forward : (op : Op) (s a b c : Triple) (k : Known) (r : Range) (o : Option Triple) → Fitting triple_ops op a b c → some_used op a.sets.many b.sets.many c.sets.many ≡ true
    → k ≡ known_forward op a.known b.known c.known → r ≡ range_forward op a.range b.range c.range
    → IsNarrowed triple_ops s (reduced (normal k r) (sets_full k.width)) o → IsNarrowed triple_ops s (triple_forward op a b c) o
narrowed_forward op s a b c k r o f m e g h =
    subst (λ t. IsNarrowed triple_ops s t o) (ap (λ w. reduced (normal k r) (sets_full w)) (sym (normal_width k r))
    ∙ two (λ k r. reduced (normal k r) (sets_full (normal k r).known.width)) e g ∙ sym (forward_unlisted op a b c f m)) h

pub narrowed_backward : (op : Op) (p : ℕ) (s z a b c : Triple) (k : Known) (r : Range) (o : Option Triple) → FittingAt triple_ops op p z a b c
    → (z.sets.many || some_used op a.sets.many b.sets.many c.sets.many) ≡ true
    → k ≡ known_backward op p z.known a.known b.known c.known → r ≡ range_backward op p z.range a.range b.range c.range
    → IsNarrowed triple_ops s (reduced (normal k r) (sets_full k.width)) o → IsNarrowed triple_ops s (triple_backward op p z a b c) o
narrowed_backward op p s z a b c k r o f m e g h =
    subst (λ t. IsNarrowed triple_ops s t o) (ap (λ w. reduced (normal k r) (sets_full w)) (sym (normal_width k r))
    ∙ two (λ k r. reduced (normal k r) (sets_full (normal k r).known.width)) e g ∙ sym (backward_unlisted op p z a b c f m)) h

pub target_width : {op : Op} (p : ℕ) (s a b c : Triple) → Fitting triple_ops op a b c → s.known.width ≡ (operand p a b c).known.width → s.known.width ≡ (operand p (pair_of a) (pair_of b) (pair_of c)).known.width
target_width p s a b c f w = w ∙ sym (operand_widths p a b c f.a_is f.b_is f.c_is).0
