-- A printed image reads back.
use Rattle.std.proofs.Common.{◌≡◌, ℕ, ◌*◌, ◌^◌, ◌<◌, ◌≤◌, List, [], ◌∷◌, ◌++◌, length, Ok, Err, refl, sym, ap, subst, ◌∙◌, arith}
use Rattle.std.specs.Prelude.{map}
use Rattle.std.specs.List.{AllByRecursion}
use Rattle.std.proofs.lemmas.Bool.{cond-true}
use Rattle.std.proofs.Math.Pow.{pow_mono}
use Rattle.dt_bits.specs.declared.memory.Word.{Word as Stored}
use Rattle.dt_bits.specs.Memory.{IsMemory, AreWords, Fit}
use Rattle.dt_lex.proofs.Blocks.{place_after, within}
use Rattle.dt_lex.proofs.Printed.{reading_printed}
use Rattle.dt_model.specs.ModelData.{ModelData}
use Rattle.dt_model.specs.Faults.{IsAccepted}
use Rattle.dt_model.proofs.Accepting.{few_regs, few_inputs, reg_widths, input_widths}
use Rattle.dt_image.specs.declared.fault.Cause.TheVariants as causes
use Rattle.dt_image.specs.declared.image.Image.{Image}
use Rattle.dt_image.specs.declared.image.ImageAccess.{ImageAccess}
use Rattle.dt_image.specs.declared.draft.Draft.{Draft}
use Rattle.dt_image.specs.declared.line.Line.{Line}
use Rattle.dt_image.specs.declared.line.Line.TheVariants.{Header, Tables, End}
use Rattle.dt_model.specs.Values.{FitNames}
use Rattle.dt_image.specs.Images.{IsImage}
use Rattle.dt_model.specs.Bounds.{bounds_fit}
use Rattle.dt_image.specs.declared.entry.Entry.TheVariants as entry
use Rattle.dt_image.specs.Draft.{declared, added}
use Rattle.dt_image.specs.Read.{grammar, image_in, finished, reading}
use Rattle.dt_image.specs.Print.{row_of, lines_in, printed}
use Rattle.dt_image.specs.Laws.{adds_up}
use Rattle.dt_image.proofs.Runs.{all_added, IsRun, all_added-append, IsRun-append, AreSmall, AreSmall-append, rows_again, rows_are, context_lines, access_lines, word_lines, contexts_added, accesses_added, words_added, fit_length, fit_below, follows_5, meaning_is, contexts_run, AreAccesses, accesses_run, words_run, bytes_are, size_le, bounds_good, words_good}

-- ---- its numbers are small

contexts_small : (m : ModelData) (vss : List (List ℕ)) → IsAccepted m → AllByRecursion (FitNames m.regs) vss → AreSmall (context_lines vss)
contexts_small m [] a h = tt
contexts_small m (vs ∷ vss) a h =
    ((fit_below m.regs vs (reg_widths m a) h.0, omega (arith, fit_length m.regs vs h.0, few_regs m a)), contexts_small m vss a h.1)

accesses_small : (m : ModelData) (n : ℕ) (xs : List ImageAccess) → IsAccepted m → n < 2 ^ 64 → AreAccesses m n xs → AreSmall (access_lines xs)
accesses_small m n [] a lt h = tt
accesses_small m n (x ∷ xs) a lt h =
    ((omega (arith, h.0.0), fit_below m.inputs x.inputs (input_widths m a) h.0.1, omega (arith, fit_length m.inputs x.inputs h.0.1, few_inputs m a)), accesses_small m n xs a lt h.1)

words_small : (b lo hi : ℕ) (ws : List Stored) → b ≤ 8 → hi ≤ 2 ^ 64 → AreWords b lo hi ws → Fit b ws → AreSmall (word_lines ws)
words_small b lo hi [] few end are fit = tt
words_small b lo hi (w ∷ ws) few end are fit =
    ((omega (arith, are.0.2), (let eight : 8 * b ≤ 64 = omega arith in let most : 2 ^ (8 * b) ≤ 2 ^ 64 = pow_mono eight in omega (arith, fit.0, most))), words_small b lo hi ws few end are.1 fit.1)

-- ---- the whole image

abbrev started : Draft
started = record { place = 0; bounds = (0, 0); contexts = []; accesses = []; words = [] }

abbrev bounded : Image → Draft
bounded v = record { place = 2; bounds = (v.memory.lo, v.memory.hi); contexts = []; accesses = []; words = [] }

abbrev with_contexts : Image → Draft
with_contexts v = record (bounded v) { place = place_after 2 3 v.contexts; contexts = v.contexts }

abbrev with_accesses : Image → Draft
with_accesses v = record (with_contexts v) { place = place_after (place_after 2 3 v.contexts) 4 v.accesses; accesses = v.accesses }

abbrev with_words : Image → Draft
with_words v = record (with_accesses v) { place = place_after (place_after (place_after 2 3 v.contexts) 4 v.accesses) 5 v.memory.words; words = v.memory.words }

abbrev complete : Image → Draft
complete v = record (with_words v) { place = 6 }

abbrev from_words : Image → List Line
from_words v = word_lines v.memory.words ++ End ∷ []

abbrev from_accesses : Image → List Line
from_accesses v = access_lines v.accesses ++ from_words v

abbrev from_contexts : Image → List Line
from_contexts v = context_lines v.contexts ++ from_accesses v

abbrev place_3 : Image → ℕ
place_3 v = place_after 2 3 v.contexts

abbrev place_4 : Image → ℕ
place_4 v = place_after (place_3 v) 4 v.accesses

at_3 : (v : Image) → (2 ≤ place_3 v) × (place_3 v ≤ 3)
at_3 v = within 2 2 3 v.contexts (omega arith) (omega arith)

at_4 : (v : Image) → (2 ≤ place_4 v) × (place_4 v ≤ 4)
at_4 v = within 2 (place_3 v) 4 v.accesses (at_3 v).0 (omega (arith, (at_3 v).1))

at_5 : (v : Image) → (2 ≤ place_after (place_4 v) 5 v.memory.words) × (place_after (place_4 v) 5 v.memory.words ≤ 5)
at_5 v = within 2 (place_4 v) 5 v.memory.words (at_4 v).0 (omega (arith, (at_4 v).1))

ends_run : (m : ModelData) (v : Image) → IsRun m (with_words v) (End ∷ [])
ends_run m v =
    (meaning_is m (with_words v) End entry.End (follows_5 (with_words v).place (at_5 v).0 (at_5 v).1) refl, tt)

words_on : (m : ModelData) (v : Image) → IsImage m v → IsMemory v.memory → IsRun m (with_accesses v) (from_words v)
words_on m v h good =
    IsRun-append m (with_accesses v) (word_lines v.memory.words) (End ∷ []) (words_run m (with_accesses v) v.memory.words (at_4 v).0 (omega (arith, (at_4 v).1)) (words_good m v.memory.bytes v.memory.lo v.memory.hi v.memory.words h.word good.words good.fit) good.rising) (subst (λ (d : Draft). IsRun m d (End ∷ [])) (sym (words_added (with_accesses v) v.memory.words)) (ends_run m v))

accesses_on : (m : ModelData) (v : Image) → IsImage m v → IsMemory v.memory → IsRun m (with_contexts v) (from_accesses v)
accesses_on m v h good =
    IsRun-append m (with_contexts v) (access_lines v.accesses) (from_words v) (accesses_run m (with_contexts v) (length v.contexts) v.accesses (at_3 v).0 (omega (arith, (at_3 v).1)) refl h.accesses) (subst (λ (d : Draft). IsRun m d (from_words v)) (sym (accesses_added (with_contexts v) v.accesses)) (words_on m v h good))

contexts_on : (m : ModelData) (v : Image) → IsImage m v → IsMemory v.memory → IsRun m (bounded v) (from_contexts v)
contexts_on m v h good =
    IsRun-append m (bounded v) (context_lines v.contexts) (from_accesses v) (contexts_run m (bounded v) v.contexts (omega arith) (omega arith) h.contexts) (subst (λ (d : Draft). IsRun m d (from_accesses v)) (sym (contexts_added (bounded v) v.contexts)) (accesses_on m v h good))

whole_run : (m : ModelData) (v : Image) → IsImage m v → IsMemory v.memory → IsRun m started (lines_in v)
whole_run m v h good = (
  meaning_is m started Header entry.Header refl refl,
  (meaning_is m (added started entry.Header) (Tables v.memory.lo v.memory.hi) (entry.Tables v.memory.lo v.memory.hi) refl (cond-true (bounds_fit m v.memory.lo v.memory.hi) (Ok (entry.Tables v.memory.lo v.memory.hi)) (Err causes.OutOfRange) (bounds_good m v h good)), contexts_on m v h good),
)

whole_small : (m : ModelData) (v : Image) → IsAccepted m → IsImage m v → IsMemory v.memory → length v.contexts < 2 ^ 64 → AreSmall (lines_in v)
whole_small m v a h good few =
    (tt, ((omega (arith, good.order, good.end), omega (arith, good.end)), AreSmall-append (context_lines v.contexts) (from_accesses v) (contexts_small m v.contexts a h.contexts) (AreSmall-append (access_lines v.accesses) (from_words v) (accesses_small m (length v.contexts) v.accesses a few h.accesses) (AreSmall-append (word_lines v.memory.words) (End ∷ []) (words_small v.memory.bytes v.memory.lo v.memory.hi v.memory.words (size_le v.memory.bytes good.bytes) good.end good.words good.fit) (tt, tt)))))

whole_added : (v : Image) → all_added started (lines_in v) ≡ complete v
whole_added v =
    all_added-append (bounded v) (context_lines v.contexts) (from_accesses v)
    ∙ ap (λ (d : Draft). all_added d (from_accesses v)) (contexts_added (bounded v) v.contexts)
    ∙ all_added-append (with_contexts v) (access_lines v.accesses) (from_words v)
    ∙ ap (λ (d : Draft). all_added d (from_words v)) (accesses_added (with_contexts v) v.accesses)
    ∙ all_added-append (with_accesses v) (word_lines v.memory.words) (End ∷ [])
    ∙ ap (λ (d : Draft). all_added d (End ∷ [])) (words_added (with_accesses v) v.memory.words)

-- the value is the image again
image_again : (m : ModelData) (v : Image) → IsImage m v → image_in m (complete v) ≡ v
image_again m v h = λ j. record v { memory = record v.memory { bytes = bytes_are m.word v.memory.bytes h.word j } }

pub reads_back : (m : ModelData) (v : Image) → IsAccepted m → IsImage m v → IsMemory v.memory → length v.contexts < 2 ^ 64 → reading m (printed v) ≡ Ok v
unfolding printed declared
reads_back m v a h good few =
    let small = whole_small m v a h good few in
    reading_printed (grammar m) added (finished m) (map row_of (lines_in v)) (complete v) adds_up (rows_are (lines_in v) small) (rows_again m 1 started (lines_in v) small (whole_run m v h good) ∙ ap (λ (d : Draft). Ok d) (whole_added v))
    ∙ ap (λ (i : Image). Ok i) (image_again m v h)
