-- Which faults a reading gives, and what a refusal of a text says.
use Rattle.std.proofs.Common.{◌≡◌, ℕ, Bool, true, false, cond, eqb, List, length, Result, Ok, Err, refl, sym, ap, subst, ◌∙◌, inl, inr}
use Rattle.std.specs.Prelude.{IfErr, ⊤}
use Rattle.std.specs.Bool.{OnFalse}
use Rattle.dt_lex.specs.declared.fault.LexFault.TheVariants as lexical
use Rattle.dt_lex.specs.Text.{lines_of}
use Rattle.dt_lex.specs.Reading.{◌>>=◌}
use Rattle.dt_lex.proofs.Entries.{reading_faulty}
use Rattle.dt_model.specs.declared.refusal.ModelRefusal.{ModelRefusal}
use Rattle.dt_model.specs.declared.refusal.ModelRefusal.TheVariants.{TooDeep}
use Rattle.dt_model.specs.declared.refusal.Place.{Place}
use Rattle.dt_model.specs.ModelData.{ModelData}
use Rattle.dt_model.specs.Faults.{IsRefused}
use Rattle.dt_model.specs.Positions.{position_of}
use Rattle.dt_modeltext.specs.declared.fault.ModelFault.{ModelFault}
use Rattle.dt_modeltext.specs.declared.fault.ModelFault.TheVariants as faults
use Rattle.dt_modeltext.specs.Fault.{is_memory, Cause, form, too_deep, fault_at}
use Rattle.dt_modeltext.specs.Line.{node_names}
use Rattle.dt_modeltext.specs.Entry.{Declared, sections, origin_of}
use Rattle.dt_modeltext.specs.Read.{grammar, finished, reading, model_in, IsModelText, RefusesText}

-- a fault of a line
abbrev OfLine : ModelFault → Type 0
OfLine (faults.Lex (lexical.LineTooLong n)) = ⊤
OfLine (faults.Lex (lexical.BadByte n)) = ⊤
OfLine (faults.Form n) = ⊤
OfLine (faults.Refused r n) = r ≡ TooDeep
OfLine _ = ⊥

of_cause : (n : ℕ) (c : Cause) → OfLine (fault_at n c)
of_cause n form = tt
of_cause n too_deep = refl

of_end : (n : ℕ) (d : Declared) → IfErr (finished n d) OfLine
of_end n d = kept (eqb d.place (length sections)) d n
  where
    kept : (b : Bool) (e : Declared) (k : ℕ) → (let r : Result Declared ModelFault = cond b (Ok e) (Err (faults.Form k)) in IfErr r OfLine)
    kept true e k = tt
    kept false e k = tt

reading_of_line : (text : List ℕ) → IfErr (reading text) OfLine
unfolding reading
reading_of_line text = reading_faulty (grammar (position_of (node_names (lines_of text)))) OfLine (λ n. tt) (λ n. tt) of_cause finished of_end text

at_err : {X : Type 0} (r : Result X ModelFault) (e : ModelFault) → IfErr r OfLine → r ≡ Err e → OfLine e
at_err (Ok x) e h is = absurd cc
at_err (Err f) e h is = let same : f ≡ e = cc in subst OfLine same h

of_line : (text : List ℕ) (e : ModelFault) → reading text ≡ Err e → OfLine e
of_line text e h = at_err (reading text) e (reading_of_line text) h

-- ---- refusals

-- a fault of the reading is one of the text
pub unread : (text : List ℕ) (e : ModelFault) → OnFalse (is_memory e) (reading text ≡ Err e) → RefusesText text e
unread text faults.Memory h = tt
unread text (faults.Lex lexical.Memory) h = absurd (of_line text (faults.Lex lexical.Memory) h)
unread text (faults.Lex (lexical.LineTooLong n)) h = h
unread text (faults.Lex (lexical.BadByte n)) h = h
unread text (faults.Form n) h = h
unread text (faults.Refused r n) h = inl (of_line text (faults.Refused r n) h, h)

-- and so is a refusal of the model that was read
pub refused : (text : List ℕ) (d : Declared) (p : Place) (r : ModelRefusal) (n : ℕ) → reading text ≡ Ok d → IsRefused d.model p r → n ≡ origin_of d.origins p → RefusesText text (faults.Refused r n)
refused text d p r n read is at = inr (d, p, read, is, at)

-- the model of a text, from what its lines declare
pub model_is : (text : List ℕ) (d : Declared) → reading text ≡ Ok d → model_in text ≡ Ok d.model
model_is text d h = ap (λ (r : Result Declared ModelFault). r >>= λ x. Ok x.model) h

no_model : (text : List ℕ) (e : ModelFault) → reading text ≡ Err e → model_in text ≡ Err e
no_model text e h = ap (λ (r : Result Declared ModelFault). r >>= λ x. Ok x.model) h

ok_is : (x y : ModelData) → (let f : ModelData → Result ModelData ModelFault = λ z. Ok z in f x ≡ f y) → x ≡ y
ok_is x y e = cc

bad_line : (text : List ℕ) (e : ModelFault) (d : ModelData) → reading text ≡ Err e → IsModelText text d → ⊥
bad_line text e d h t = let p = t.spelled in let q = no_model text e h in absurd cc

-- a text that is refused is no text of an accepted model
pub no_text : (text : List ℕ) (e : ModelFault) → is_memory e ≡ false → RefusesText text e → (d : ModelData) → IsModelText text d → ⊥
no_text text faults.Memory other h d t = absurd cc
no_text text (faults.Lex lexical.Memory) other h d t = h
no_text text (faults.Lex (lexical.LineTooLong n)) other h d t = bad_line text (faults.Lex (lexical.LineTooLong n)) d h t
no_text text (faults.Lex (lexical.BadByte n)) other h d t = bad_line text (faults.Lex (lexical.BadByte n)) d h t
no_text text (faults.Form n) other h d t = bad_line text (faults.Form n) d h t
no_text text (faults.Refused r n) other h d t =
    elim h [
      | inl k ↦ bad_line text (faults.Refused r n) d k.1 t
      | inr k ↦
          let same : k.0.model ≡ d = ok_is k.0.model d (sym (model_is text k.0 k.2) ∙ t.spelled) in
          t.accepted k.1 r (subst (λ (x : ModelData). IsRefused x k.1 r) same k.3).breaks
    ]
