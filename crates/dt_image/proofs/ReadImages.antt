-- An image that a text spells for an accepted model is an image of the model.
use Rattle.std.proofs.Common.{◌≡◌, ℕ, ◌+◌, ◌≤◌, Bool, true, false, cond, eqb, List, [], ◌∷◌, ◌++◌, length, Option, Some, None, Result, Ok, Err, refl, sym, subst, arith}
use Rattle.std.specs.Prelude.{IfOk}
use Rattle.std.specs.Option.{option_to_list}
use Rattle.std.proofs.lemmas.Bool.{eqb-true}
use Rattle.std.proofs.lemmas.List.{append-nil}
use Rattle.dt_lemmas.proofs.Options.{at_ok}
use Rattle.dt_lex.specs.declared.fault.LexFault.{LexFault}
use Rattle.dt_lex.specs.Text.{lines_of, tokens_of, fault_of}
use Rattle.dt_lex.specs.Reading.{◌>>=◌, with_place, unless_faulty, row_entry, line_entry, entries_from, reading_of}
use Rattle.dt_lex.proofs.Entries.{then_ok}
use Rattle.dt_model.specs.ModelData.{ModelData}
use Rattle.dt_model.specs.Faults.{IsAccepted}
use Rattle.dt_image.specs.declared.fault.Cause.{Cause}
use Rattle.dt_image.specs.declared.fault.ImageFault.{ImageFault}
use Rattle.dt_image.specs.declared.fault.ImageFault.TheVariants as faults
use Rattle.dt_image.specs.declared.image.Image.{Image}
use Rattle.dt_image.specs.declared.line.Line.{Line}
use Rattle.dt_image.specs.declared.entry.Entry.{Entry}
use Rattle.dt_image.specs.declared.draft.Draft.{Draft}
use Rattle.dt_image.specs.Images.{IsImage}
use Rattle.dt_image.specs.Fault.{at_line}
use Rattle.dt_image.specs.Line.{spelled}
use Rattle.dt_image.specs.Entry.{sections, meaning}
use Rattle.dt_image.specs.Draft.{declared, added, IsDraft}
use Rattle.dt_image.specs.Laws.{adds_up, draft_later}
use Rattle.dt_image.specs.Read.{grammar, image_in, finished, reading}
use Rattle.dt_image.proofs.Entries.{draft_kept, draft_good}

-- the draft after a line that may have an entry
abbrev Kept : ModelData → ℕ → List Entry → Option Entry → Type 0
Kept m n before o = IsDraft m (n + 1) (declared (before ++ option_to_list o))

entry_is : (m : ModelData) (n : ℕ) (before : List Entry) (o : Option Line) (r : Result Entry Cause) → meaning m (declared before) o ≡ r → IsDraft m n (declared before)
    → IfOk (with_place (at_line n) r >>= λ e. Ok (Some e)) (Kept m n before)
entry_is m n before o (Ok e) is h = draft_kept m n (declared before) (declared (before ++ e ∷ [])) o e h is (adds_up before e)
entry_is m n before o (Err cause) is h = tt

row_is : (m : ModelData) (n : ℕ) (before : List Entry) (ts : List (List ℕ)) → IsDraft m n (declared before) → IfOk (row_entry (grammar m) n (declared before) ts) (Kept m n before)
row_is m n before [] h = subst (λ (es : List Entry). IsDraft m (n + 1) (declared es)) (sym (append-nil before)) (draft_later m n (declared before) h)
row_is m n before (t ∷ ts) h = entry_is m n before (spelled t ts) (meaning m (declared before) (spelled t ts)) refl h

-- a line whose bytes are at fault has no entry
bytes_are : (m : ModelData) (n : ℕ) (before : List Entry) (fault : Option LexFault) (row : Result (Option Entry) ImageFault) → IfOk row (Kept m n before) → IfOk (unless_faulty (λ f. faults.Lex f) fault row) (Kept m n before)
bytes_are m n before None row h = h
bytes_are m n before (Some f) row h = tt

line_is : (m : ModelData) (n : ℕ) (before : List Entry) (line : List ℕ) → IsDraft m n (declared before) → IfOk (line_entry (grammar m) n (declared before) line) (Kept m n before)
unfolding line_entry
line_is m n before line h = bytes_are m n before (fault_of n line) (row_entry (grammar m) n (declared before) (tokens_of line)) (row_is m n before (tokens_of line) h)

abbrev AreDrafted : ModelData → List Entry → Type 0
AreDrafted m es = (k : ℕ) × IsDraft m k (declared es)

entries_are : (m : ModelData) (n : ℕ) (before : List Entry) (lines : List (List ℕ)) → IsDraft m n (declared before) → IfOk (entries_from (grammar m) n before lines) (AreDrafted m)
unfolding entries_from
entries_are m n before [] h = (n, h)
entries_are m n before (line ∷ lines) h =
    then_ok (AreDrafted m) (line_entry (grammar m) n (declared before) line) _
    (λ o is. entries_are m (n + 1) (before ++ option_to_list o) lines (at_ok (Kept m n before) (line_entry (grammar m) n (declared before) line) o (line_is m n before line h) is))

ended_is : (m : ModelData) (n : ℕ) (d : Draft) (k : ℕ) (b : Bool) → eqb d.place (length sections) ≡ b → IsAccepted m → IsDraft m k d → IfOk (cond b (Ok (image_in m d)) (Err (faults.Form n))) (IsImage m)
ended_is m n d k true e a h = let g = draft_good m k d a h (let p : d.place ≡ 6 = eqb-true d.place 6 e in omega (arith, p)) in g.image
ended_is m n d k false e a h = tt

first_is : (m : ModelData) → IsDraft m 1 (declared [])
unfolding declared
first_is m = record { bounds = λ le. absurd (omega arith); early = λ le. refl; contexts = tt; few = omega arith; accesses = tt; words = tt; rising = λ j k d l most. absurd (omega arith) }

pub reads_image : (m : ModelData) (text : List ℕ) (i : Image) → IsAccepted m → reading m text ≡ Ok i → IsImage m i
unfolding reading_of
reads_image m text i a e =
    at_ok (IsImage m) (reading m text) i
    (then_ok (IsImage m) (entries_from (grammar m) 1 [] (lines_of text)) _
    (λ es is. let kept = at_ok (AreDrafted m) (entries_from (grammar m) 1 [] (lines_of text)) es (entries_are m 1 [] (lines_of text) (first_is m)) is in
    ended_is m (length (lines_of text) + 1) (declared es) kept.0 (eqb (declared es).place (length sections)) refl a kept.1)) e
