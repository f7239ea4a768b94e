-- The further forms hold of each image that satisfies: its walks come to no node that isn't live, to each node by which no live one passes, and to a node only where they come to its immediate dominator.
use Rattle.std.proofs.Common.{◌≡◌, ℕ, zero, suc, ◌+◌, ◌<◌, Bool, true, false, cond, not, ◌||◌, List, [], ◌∷◌, ◌++◌, length, ◌⊎◌, inl, inr, refl, sym, ap, ◌∙◌, subst, arith}
use Rattle.std.proofs.lemmas.Bool.{cases_Bool, false≢true}
use Rattle.dt_lemmas.proofs.Lists.{AllByRecursion-append}
use Rattle.dt_model.specs.ModelData.{ModelData}
use Rattle.dt_model.specs.Faults.{steps}
use Rattle.dt_request.specs.declared.list.Requests.{Requests}
use Rattle.dt_satisfy.specs.Demands.{visits}
use Rattle.dt_forms.specs.Meaning.{Valuation, is_one}
use Rattle.dt_forms.specs.Forms.{Form, HasForm, HaveForms, term, form_value}
use Rattle.dt_forms.specs.Claims.{Hold}
use Rattle.dt_table.specs.declared.out.Out.{Out}
use Rattle.dt_reach.specs.declared.ways.Ways.{Ways}
use Rattle.dt_table.specs.Extras.{dead_forms, sure_forms, dominator_form, dominator_if, is_new, dominator_forms, extras_of, all_extras}
use Rattle.dt_table.specs.Links.{outs_of}
use Rattle.dt_table.specs.Outs.{out_at}
use Rattle.dt_reach.specs.Reach.{is_live, none_pass}
use Rattle.dt_reach.specs.Dominating.{immediate_dominator}
use Rattle.dt_table.specs.Told.{told}
use Rattle.dt_ways.specs.Ways.{access_ways}
use Rattle.dt_table.proofs.Asked.{AreAsked, access_gone}
use Rattle.dt_reach.proofs.Gone.{Gone, come_live, come_sure}
use Rattle.dt_reach.proofs.Dominating.{come_immediate, immediate_within}
use Rattle.dt_forms.proofs.FormValues.{or_form}
use Rattle.dt_forms.proofs.Lawful.{flag_one}
use Rattle.dt_lemmas.proofs.Lists.{element}
use Rattle.dt_table.proofs.Flagged.{IsFlagged}
use Rattle.dt_table.proofs.Sides.{out_fact}
use Rattle.dt_forms.specs.Meaning.{flag}
use Rattle.dt_table.proofs.Linked.{nodes_at}
use Rattle.dt_table.proofs.Told.{AreNodes}
use Rattle.dt_table.proofs.Visits.{visited, away_at}
use Rattle.dt_table.proofs.Ends.{AreTruths}
use Rattle.dt_table.proofs.Wide.{AreFrom, from_next, from_first}

-- ---- one access

dead_hold : (v : Valuation) (live : ℕ → Bool) (os : List Out) (n : ℕ) → ((j : ℕ) → j < length os → live (n + j) ≡ false → is_one (v (out_at os j).away) ≡ true) → Hold v (dead_forms live os n)
dead_hold v live [] n h = tt
dead_hold v live (o ∷ os) n h = by_live (live n) refl (dead_hold v live os (n + 1) (λ j l d. let z : n + 1 + j ≡ n + suc j = omega arith in h (suc j) (omega (arith, l)) (ap live (sym z) ∙ d)))
  where
    by_live : (b : Bool) → live n ≡ b → Hold v (dead_forms live os (n + 1)) → Hold v (cond b (dead_forms live os (n + 1)) (term o.away ∷ dead_forms live os (n + 1)))
    by_live true e g = g
    by_live false e g = (let z : n + 0 ≡ n = omega arith in h 0 (omega arith) (ap live z ∙ e), g)

sure_hold : (v : Valuation) (live : ℕ → Bool) (ws : List Ways) (os : List Out) (n : ℕ) → ((j : ℕ) → j < length os → none_pass live ws 0 (n + j) ≡ true → is_one (v (out_at os j).come) ≡ true) → Hold v (sure_forms live ws os n)
sure_hold v live ws [] n h = tt
sure_hold v live ws (o ∷ os) n h = by_sure (none_pass live ws 0 n) refl (sure_hold v live ws os (n + 1) (λ j l d. let z : n + 1 + j ≡ n + suc j = omega arith in h (suc j) (omega (arith, l)) (ap (none_pass live ws 0) (sym z) ∙ d)))
  where
    by_sure : (b : Bool) → none_pass live ws 0 n ≡ b → Hold v (sure_forms live ws os (n + 1)) → Hold v (cond b (term o.come ∷ sure_forms live ws os (n + 1)) (sure_forms live ws os (n + 1)))
    by_sure true e g = (let z : n + 0 ≡ n = omega arith in h 0 (omega arith) (ap (none_pass live ws 0) z ∙ e), g)
    by_sure false e g = g

dominators_hold : (v : Valuation) (live sure : ℕ → Bool) (last : ℕ → ℕ) (all os : List Out) (n : ℕ) → ((j : ℕ) → j < length os → is_one (form_value v (dominator_form (out_at os j) (out_at all (last (n + j))))) ≡ true) → Hold v (dominator_forms live sure last all os n)
dominators_hold v live sure last all [] n h = tt
dominators_hold v live sure last all (o ∷ os) n h =
    AllByRecursion-append (λ (f : Form). is_one (form_value v f) ≡ true) (dominator_if (is_new live sure n (last n)) o (out_at all (last n))) (dominator_forms live sure last all os (n + 1))
    (by_new (is_new live sure n (last n)))
    (dominators_hold v live sure last all os (n + 1) (λ j l. let z : n + suc j ≡ n + 1 + j = omega arith in subst (λ (m : ℕ). is_one (form_value v (dominator_form (out_at os j) (out_at all (last m)))) ≡ true) z (h (suc j) (omega (arith, l)))))
  where
    by_new : (b : Bool) → Hold v (dominator_if b o (out_at all (last n)))
    by_new true = (let z : n + 0 ≡ n = omega arith in subst (λ (m : ℕ). is_one (form_value v (dominator_form o (out_at all (last m)))) ≡ true) z (h 0 (omega arith)), tt)
    by_new false = tt

-- the walk comes to the node only where it comes to the other
dominator_holds : (v : Valuation) (d : ModelData) (os : List Out) (n by : ℕ) → AreNodes v d os → n < length os → by < length os → (is_one (v (out_at os n).come) ≡ true → is_one (v (out_at os by).come) ≡ true)
    → is_one (form_value v (dominator_form (out_at os n) (out_at os by))) ≡ true
dominator_holds v d os n by nodes l m h =
    let count = nodes.count in
    let p = element (steps d) by (omega (arith, m, count)) in
    let come : v (out_at os by).come ≡ flag (is_one (v (out_at os by).come)) = (out_fact (IsFlagged v d.address) (steps d) os by p.0 nodes.flagged count p.1).come_is in
    let away : v (out_at os n).away ≡ flag (not (is_one (v (out_at os n).come))) = away_flag os n nodes.away l in
    ap is_one (or_form v (term (out_at os n).away) (term (out_at os by).come) (not (is_one (v (out_at os n).come))) (is_one (v (out_at os by).come)) away come)
    ∙ flag_one (not (is_one (v (out_at os n).come)) || is_one (v (out_at os by).come)) ∙ by_come (is_one (v (out_at os n).come)) h
  where
    away_flag : (xs : List Out) (k : ℕ) → AreTruths v xs → k < length xs → v (out_at xs k).away ≡ flag (not (is_one (v (out_at xs k).come)))
    away_flag [] k t l = absurd (omega (arith, l))
    away_flag (x ∷ xs) zero t l = t.0
    away_flag (x ∷ xs) (suc k) t l = away_flag xs k t.1 (omega (arith, l))

    by_come : (b : Bool) → (b ≡ true → is_one (v (out_at os by).come) ≡ true) → (not b || is_one (v (out_at os by).come)) ≡ true
    by_come true k = k refl
    by_come false k = refl

-- where the walk goes by open ways
access_dead : (v : Valuation) (d : ModelData) (ws : List Ways) (os : List Out) → AreNodes v d os → Gone ws (visits (told v (steps d) os 0)) → Hold v (extras_of ws os)
access_dead v d ws os nodes gone =
    let live = is_live ws in
    let sure = none_pass live ws 0 in
    let last = immediate_dominator ws in
    let count = nodes.count in
    let held : Form → Type 0 = λ (f : Form). is_one (form_value v f) ≡ true in
    AllByRecursion-append held (dead_forms live os 0) (sure_forms live ws os 0 ++ dominator_forms live sure last os os 0)
    (dead_hold v live os 0 (λ j l e. away_at v os j nodes.away l ∙ ap not (sym (come_at j l) ∙ none (0 + j) e)))
    (AllByRecursion-append held (sure_forms live ws os 0) (dominator_forms live sure last os os 0)
    (sure_hold v live ws os 0 (λ j l e. sym (come_at j l) ∙ come_sure ws (visits (told v (steps d) os 0)) (0 + j) gone e))
    (dominators_hold v live sure last os os 0 (λ j l. dominated j l)))
  where
    come_at : (j : ℕ) → j < length os → visits (told v (steps d) os 0) (0 + j) ≡ is_one (v (out_at os j).come)
    come_at j l = let count = nodes.count in visited v (steps d) os 0 j count (omega (arith, l, count))

    dominated : (j : ℕ) → j < length os → is_one (form_value v (dominator_form (out_at os j) (out_at os (immediate_dominator ws (0 + j))))) ≡ true
    dominated j l =
        let by = immediate_dominator ws (0 + j) in
        let before = immediate_within ws (0 + j) in
        let within : by < length os = omega (arith, before, l) in
        let zero_by : 0 + by ≡ by = omega arith in
        dominator_holds v d os j by nodes l within
        (λ c. sym (come_at by within) ∙ ap (visits (told v (steps d) os 0)) zero_by ∙ come_immediate ws (visits (told v (steps d) os 0)) (0 + j) gone (come_at j l ∙ c))

    none : (k : ℕ) → is_live ws k ≡ false → visits (told v (steps d) os 0) k ≡ false
    none k e = by_come (cases_Bool (visits (told v (steps d) os 0) k))
      where
        by_come : (visits (told v (steps d) os 0) k ≡ true) ⊎ (visits (told v (steps d) os 0) k ≡ false) → visits (told v (steps d) os 0) k ≡ false
        by_come (inr f) = f
        by_come (inl f) = absurd (false≢true (sym e ∙ come_live ws (visits (told v (steps d) os 0)) k gone f))

all_dead : (v : Valuation) (d : ModelData) (r : Requests) (all oss : List (List Out)) (k : ℕ) → AreAsked v d r all → AreFrom all oss k → Hold v (all_extras d r k oss)
all_dead v d r all [] k h f = tt
all_dead v d r all (os ∷ oss) k h f =
    let l : k < length all = (let c = f.0 in omega (arith, c)) in
    let ws = access_ways d r k in
    AllByRecursion-append (λ (f : Form). is_one (form_value v f) ≡ true) (extras_of ws os) (all_extras d r (k + 1) oss)
    (subst (λ (x : List Out). Hold v (extras_of ws x)) (sym (from_first all os oss k f)) (access_dead v d ws (outs_of all k) (nodes_at v d all k h.nodes l) (access_gone v d r all k h l)))
    (all_dead v d r all oss (k + 1) h (from_next all os oss k f))

-- where the forms of demands and links hold
pub extras_hold : (v : Valuation) (d : ModelData) (r : Requests) (oss : List (List Out)) → AreAsked v d r oss → Hold v (all_extras d r 0 oss)
extras_hold v d r oss h = all_dead v d r oss oss 0 h (omega arith, λ j l. let z : j ≡ 0 + j = omega arith in ap (outs_of oss) z)

-- ---- they are forms

dead_form : (live : ℕ → Bool) (os : List Out) (n : ℕ) → HaveForms (dead_forms live os n)
dead_form live [] n = tt
dead_form live (o ∷ os) n = by_live (live n) (dead_form live os (n + 1))
  where
    by_live : (b : Bool) → HaveForms (dead_forms live os (n + 1)) → HaveForms (cond b (dead_forms live os (n + 1)) (term o.away ∷ dead_forms live os (n + 1)))
    by_live true g = g
    by_live false g = (tt, g)

sure_form : (live : ℕ → Bool) (ws : List Ways) (os : List Out) (n : ℕ) → HaveForms (sure_forms live ws os n)
sure_form live ws [] n = tt
sure_form live ws (o ∷ os) n = by_sure (none_pass live ws 0 n) (sure_form live ws os (n + 1))
  where
    by_sure : (b : Bool) → HaveForms (sure_forms live ws os (n + 1)) → HaveForms (cond b (term o.come ∷ sure_forms live ws os (n + 1)) (sure_forms live ws os (n + 1)))
    by_sure true g = (tt, g)
    by_sure false g = g

dominators_form : (live sure : ℕ → Bool) (last : ℕ → ℕ) (all os : List Out) (n : ℕ) → HaveForms (dominator_forms live sure last all os n)
dominators_form live sure last all [] n = tt
dominators_form live sure last all (o ∷ os) n =
    AllByRecursion-append HasForm (dominator_if (is_new live sure n (last n)) o (out_at all (last n))) (dominator_forms live sure last all os (n + 1)) (by_new (is_new live sure n (last n))) (dominators_form live sure last all os (n + 1))
  where
    by_new : (b : Bool) → HaveForms (dominator_if b o (out_at all (last n)))
    by_new true = ((refl, tt, tt), tt)
    by_new false = tt

pub dead_have : (d : ModelData) (r : Requests) (k : ℕ) (oss : List (List Out)) → HaveForms (all_extras d r k oss)
dead_have d r k [] = tt
dead_have d r k (os ∷ oss) =
    let ws = access_ways d r k in
    let live = is_live ws in
    let sure = none_pass live ws 0 in
    let last = immediate_dominator ws in
    AllByRecursion-append HasForm (extras_of ws os) (all_extras d r (k + 1) oss) (AllByRecursion-append HasForm (dead_forms live os 0) (sure_forms live ws os 0 ++ dominator_forms live sure last os os 0) (dead_form live os 0)
    (AllByRecursion-append HasForm (sure_forms live ws os 0) (dominator_forms live sure last os os 0) (sure_form live ws os 0) (dominators_form live sure last os os 0))) (dead_have d r (k + 1) oss)
