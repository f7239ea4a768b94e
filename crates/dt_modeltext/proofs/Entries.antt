-- The entry of a line, as the reader finds it.
use Rattle.std.proofs.Common.{◌≡◌, ℕ, true, false, eqb, List, length, ◌∷◌, Option, Some, None, Ok, Err, sym, ap, ◌∙◌}
use Rattle.std.proofs.lemmas.Bool.{cond-true, cond-false, eq-eqb, ne_eqb}
use Rattle.dt_lex.specs.declared.name.Name.{Name}
use Rattle.dt_lex.specs.Reading.{with_place}
use Rattle.dt_lex.specs.Sections.{may_follow}
use Rattle.dt_model.specs.declared.refusal.ModelRefusal.TheVariants.{TooDeep}
use Rattle.dt_modeltext.specs.declared.fault.ModelFault.TheVariants as faults
use Rattle.dt_modeltext.specs.Depth.{is_too_deep}
use Rattle.dt_modeltext.specs.Expr.{Positions}
use Rattle.dt_modeltext.specs.Fault.{too_deep, form, fault_at}
use Rattle.dt_modeltext.specs.Line.{LineData, spelled}
use Rattle.dt_modeltext.specs.Entry.{Declared, sections, standing, declared_positions, entry_of, entry_at, placed_entry}
use Rattle.dt_modeltext.specs.Read.{finished}

-- a line that is too deep
pub entry_deep : (nodes : Name → Option ℕ) (n : ℕ) (d : Declared) (t : List ℕ) (ts : List (List ℕ)) → is_too_deep (t ∷ ts) ≡ true → placed_entry nodes n d t ts ≡ Err (faults.Refused TooDeep n)
entry_deep nodes n d t ts deep =
    ap (with_place (fault_at n)) (cond-true (is_too_deep (t ∷ ts)) (Err too_deep) (entry_of n d (spelled (declared_positions nodes d.model) t ts)) deep)

-- one that isn't, where `s` has the positions of the names that it may use
not_deep : (nodes : Name → Option ℕ) (n : ℕ) (d : Declared) (s : Positions) (t : List ℕ) (ts : List (List ℕ)) (o : Option LineData) → is_too_deep (t ∷ ts) ≡ false → s ≡ declared_positions nodes d.model → o ≡ spelled s t ts → entry_at nodes n d t ts ≡ entry_of n d o
not_deep nodes n d s t ts o flat names is =
    cond-false (is_too_deep (t ∷ ts)) (Err too_deep) (entry_of n d (spelled (declared_positions nodes d.model) t ts)) flat ∙ ap (entry_of n d) (ap (λ (x : Positions). spelled x t ts) (sym names) ∙ sym is)

pub entry_none : (nodes : Name → Option ℕ) (n : ℕ) (d : Declared) (s : Positions) (t : List ℕ) (ts : List (List ℕ)) → is_too_deep (t ∷ ts) ≡ false → s ≡ declared_positions nodes d.model → None ≡ spelled s t ts → placed_entry nodes n d t ts ≡ Err (faults.Form n)
entry_none nodes n d s t ts flat names is = ap (with_place (fault_at n)) (not_deep nodes n d s t ts None flat names is)

pub entry_out : (nodes : Name → Option ℕ) (n : ℕ) (d : Declared) (s : Positions) (t : List ℕ) (ts : List (List ℕ)) (l : LineData) → is_too_deep (t ∷ ts) ≡ false → s ≡ declared_positions nodes d.model → Some l ≡ spelled s t ts → may_follow sections d.place (standing l) ≡ false → placed_entry nodes n d t ts ≡ Err (faults.Form n)
entry_out nodes n d s t ts l flat names is out =
    ap (with_place (fault_at n)) (not_deep nodes n d s t ts (Some l) flat names is ∙ cond-false (may_follow sections d.place (standing l)) (Ok (record { number = n; line = l })) (Err form) out)

pub entry_in : (nodes : Name → Option ℕ) (n : ℕ) (d : Declared) (s : Positions) (t : List ℕ) (ts : List (List ℕ)) (l : LineData) → is_too_deep (t ∷ ts) ≡ false → s ≡ declared_positions nodes d.model → Some l ≡ spelled s t ts → may_follow sections d.place (standing l) ≡ true → placed_entry nodes n d t ts ≡ Ok (record { number = n; line = l })
entry_in nodes n d s t ts l flat names is stands =
    ap (with_place (fault_at n)) (not_deep nodes n d s t ts (Some l) flat names is ∙ cond-true (may_follow sections d.place (standing l)) (Ok (record { number = n; line = l })) (Err form) stands)

-- ---- the end

pub complete : (n : ℕ) (d e : Declared) → d.place ≡ length sections → d ≡ e → finished n d ≡ Ok e
complete n d e last is = cond-true (eqb d.place (length sections)) (Ok d) (Err (faults.Form n)) (eq-eqb d.place (length sections) last) ∙ ap (λ (x : Declared). Ok x) is

pub incomplete : (n : ℕ) (d : Declared) → (d.place ≡ length sections → ⊥) → finished n d ≡ Err (faults.Form n)
incomplete n d other = cond-false (eqb d.place (length sections)) (Ok d) (Err (faults.Form n)) (ne_eqb d.place (length sections) other)
