-- The terms of two reads are 1 where the reads agree.
use Rattle.std.proofs.Common.{◌≡◌, Bool, true, false, not, ◌&&◌, ◌||◌, cond, eqb, List, [], ◌∷◌, ◌++◌, map, refl, sym, ap, ◌∙◌}
use Rattle.std.specs.List.{AllByRecursion}
use Rattle.std.proofs.lemmas.Bool.{false≢true, eq-eqb, eqb-true}
use Rattle.dt_walk.specs.declared.run.ReadMade.{ReadMade}
use Rattle.dt_table.specs.declared.out.Out.{Out}
use Rattle.dt_forms.specs.Meaning.{Valuation, flag, is_one}
use Rattle.dt_forms.specs.Forms.{Form, term, form_value, both_of, same_of}
use Rattle.dt_table.specs.Claims.{pair_form}
use Rattle.dt_table.proofs.Every.{every_pair}
use Rattle.dt_forms.proofs.Lawful.{flag_one}
use Rattle.dt_forms.proofs.FormValues.{both_form, implies_form}
use Rattle.dt_forms.specs.Claims.{Hold}
use Rattle.dt_table.proofs.Words.{Agree, AllAgree}

abbrev pub is_made : Valuation → Out → Bool
is_made v o = is_one (v o.by_then)

abbrev pub read_made : Valuation → Out → ReadMade
read_made v o = record { node = 0; cell = (v o.value).bits; word = (v o.word).bits }

-- the reads that are made
abbrev pub all_made : Valuation → List Out → List ReadMade
all_made v [] = []
all_made v (o ∷ os) = cond (is_made v o) (read_made v o ∷ all_made v os) (all_made v os)

abbrev pub AreTold : Valuation → List Out → Type 0
AreTold v outs = AllByRecursion (λ (o : Out). v o.by_then ≡ flag (is_made v o)) outs

pub pair_value : (v : Valuation) (a b : Out) → v a.by_then ≡ flag (is_made v a) → v b.by_then ≡ flag (is_made v b)
    → is_one (form_value v (pair_form a b)) ≡ (not ((is_made v a && is_made v b) && eqb (v a.value).bits (v b.value).bits) || eqb (v a.word).bits (v b.word).bits)
pair_value v a b e f =
    let both = both_of (term a.by_then) (term b.by_then) in
    let cells = same_of (term a.value) (term b.value) in
    let words = same_of (term a.word) (term b.word) in
    ap is_one (implies_form v (both_of both cells) words ((is_made v a && is_made v b) && eqb (v a.value).bits (v b.value).bits) (eqb (v a.word).bits (v b.word).bits)
    (both_form v both cells (is_made v a && is_made v b) (eqb (v a.value).bits (v b.value).bits) (both_form v (term a.by_then) (term b.by_then) (is_made v a) (is_made v b) e f) refl) refl)
    ∙ flag_one _

-- over a first read, and the others
hold_map : (v : Valuation) (a : Out) (os : List Out) (fs : List Form) → is_made v a ≡ true → v a.by_then ≡ flag (is_made v a) → AreTold v os → Hold v (map (pair_form a) os ++ fs) → AllByRecursion (Agree (read_made v a)) (all_made v os) × Hold v fs
hold_map v a [] fs m e t h = (tt, h)
hold_map v a (o ∷ os) fs m e t h =
    let r = hold_map v a os fs m e t.1 h.1 in
    (by_made (is_made v o) refl r.0, r.1)
  where
    by_made : (b : Bool) → is_made v o ≡ b → AllByRecursion (Agree (read_made v a)) (all_made v os) → AllByRecursion (Agree (read_made v a)) (cond b (read_made v o ∷ all_made v os) (all_made v os))
    by_made false q k = k
    by_made true q k = (
      λ c. eqb-true (v a.word).bits (v o.word).bits (
          ap (λ (d : Bool). not d || eqb (v a.word).bits (v o.word).bits) (sym (ap (λ (d : Bool). (is_made v a && is_made v o) && d) (eq-eqb (v a.value).bits (v o.value).bits c) ∙ ap (λ (d : Bool). (d && is_made v o) && true) m ∙ ap (λ (d : Bool). (true && d) && true) q))
          ∙ sym (pair_value v a o e t.0) ∙ h.0),
      k,
    )

skip_map : (v : Valuation) (a : Out) (os : List Out) (fs : List Form) → Hold v (map (pair_form a) os ++ fs) → Hold v fs
skip_map v a [] fs h = h
skip_map v a (o ∷ os) fs h = skip_map v a os fs h.1

pub hold_agree : (v : Valuation) (os : List Out) → AreTold v os → Hold v (every_pair os) → AllAgree (all_made v os)
hold_agree v [] t h = tt
hold_agree v (o ∷ os) t h = by_made (is_made v o) refl (hold_agree v os t.1 (skip_map v o os (every_pair os) h))
  where
    by_made : (b : Bool) → is_made v o ≡ b → AllAgree (all_made v os) → AllAgree (cond b (read_made v o ∷ all_made v os) (all_made v os))
    by_made false q k = k
    by_made true q k = ((hold_map v o os (every_pair os) q t.0 t.1 h).0, k)

-- and back
map_holds : (v : Valuation) (a : Out) (os : List Out) (fs : List Form) → v a.by_then ≡ flag (is_made v a) → AreTold v os → (is_made v a ≡ true → AllByRecursion (Agree (read_made v a)) (all_made v os)) → Hold v fs → Hold v (map (pair_form a) os ++ fs)
map_holds v a [] fs e t k h = h
map_holds v a (o ∷ os) fs e t k h = (pair_value v a o e t.0 ∙ by_made (is_made v a) (is_made v o) k, map_holds v a os fs e t.1 (λ m. rest (is_made v o) (k m)) h)
  where
    rest : (b : Bool) → AllByRecursion (Agree (read_made v a)) (cond b (read_made v o ∷ all_made v os) (all_made v os)) → AllByRecursion (Agree (read_made v a)) (all_made v os)
    rest true q = q.1
    rest false q = q

    by_cell : (b : Bool) → eqb (v a.value).bits (v o.value).bits ≡ b → Agree (read_made v a) (read_made v o) → (not ((true && true) && b) || eqb (v a.word).bits (v o.word).bits) ≡ true
    by_cell true q g = eq-eqb (v a.word).bits (v o.word).bits (g (eqb-true (v a.value).bits (v o.value).bits q))
    by_cell false q g = refl

    by_made : (x y : Bool) → (x ≡ true → AllByRecursion (Agree (read_made v a)) (cond y (read_made v o ∷ all_made v os) (all_made v os))) → (not ((x && y) && eqb (v a.value).bits (v o.value).bits) || eqb (v a.word).bits (v o.word).bits) ≡ true
    by_made true true g = by_cell (eqb (v a.value).bits (v o.value).bits) refl (g refl).0
    by_made true false g = refl
    by_made false y g = refl

pub agree_hold : (v : Valuation) (os : List Out) → AreTold v os → AllAgree (all_made v os) → Hold v (every_pair os)
agree_hold v [] t h = tt
agree_hold v (o ∷ os) t h = map_holds v o os (every_pair os) t.0 t.1 (λ m. first (is_made v o) m h) (agree_hold v os t.1 (others (is_made v o) h))
  where
    first : (b : Bool) → b ≡ true → AllAgree (cond b (read_made v o ∷ all_made v os) (all_made v os)) → AllByRecursion (Agree (read_made v o)) (all_made v os)
    first true m g = g.0
    first false m g = absurd (false≢true m)

    others : (b : Bool) → AllAgree (cond b (read_made v o ∷ all_made v os) (all_made v os)) → AllAgree (all_made v os)
    others true g = g.1
    others false g = g
