-- A good line keeps what holds of a draft, and a draft whose lines have ended makes an image.
use Rattle.std.proofs.Common.{◌≡◌, ℕ, ◌+◌, ◌*◌, ◌/◌, ◌%◌, ◌^◌, ◌<◌, ◌≤◌, Bool, true, false, cond, ◌&&◌, eqb, ltb, leb, List, [], ◌∷◌, ◌++◌, length, Option, Some, None, Ok, Err, refl, sym, subst, arith}
use Rattle.std.specs.Prelude.{IfOk}
use Rattle.std.proofs.lemmas.Bool.{and_parts, ltb-true, leb-true, eqb-true}
use Rattle.std.proofs.lemmas.List.{length_push}
use Rattle.std.proofs.Math.Pow.{pow_mono}
use Rattle.dt_lemmas.proofs.Booleans.{two_on}
use Rattle.dt_lemmas.proofs.Lists.{AllByRecursion-append}
use Rattle.dt_lemmas.proofs.Options.{chosen_ok, at_ok}
use Rattle.dt_bits.specs.declared.memory.Word.{Word as Stored}
use Rattle.dt_bits.specs.Memory.{IsMemory, AreWords, Fit}
use Rattle.dt_lex.specs.declared.section.Standing.TheVariants.{In}
use Rattle.dt_lex.specs.Sections.{may_follow}
use Rattle.dt_lex.proofs.Orders.{place_le}
use Rattle.dt_model.specs.ModelData.{ModelData}
use Rattle.dt_model.specs.Values.{FitNames}
use Rattle.dt_model.specs.Bounds.{bounds_fit}
use Rattle.dt_model.specs.declared.model.Named.{Named}
use Rattle.dt_model.specs.Faults.{IsAccepted}
use Rattle.dt_model.proofs.Accepting.{accepted_bytes, accepted_address}
use Rattle.dt_model.proofs.BoundsFit.{bounds_are}
use Rattle.dt_image.specs.declared.fault.Cause.TheVariants as causes
use Rattle.dt_image.specs.declared.image.ImageAccess.{ImageAccess}
use Rattle.dt_image.specs.declared.draft.Draft.{Draft}
use Rattle.dt_image.specs.declared.line.Line.{Line}
use Rattle.dt_image.specs.declared.line.Line.TheVariants as line
use Rattle.dt_image.specs.declared.entry.Entry.{Entry}
use Rattle.dt_image.specs.declared.entry.Entry.TheVariants as entry
use Rattle.dt_image.specs.Images.{IsImage}
use Rattle.dt_image.specs.Entry.{sections, standing, all_fit, values_cause, unless, word_fits, is_above, entry_of, meaning}
use Rattle.dt_image.specs.Draft.{added, IsDraft}
use Rattle.dt_image.specs.Read.{image_in}
use Rattle.dt_image.proofs.Rising.{rising_push}
use Rattle.dt_image.proofs.Runs.{AreAccesses, WordsFit}

-- ---- values

fits_from : (ns : List Named) (vs : List ℕ) → length vs ≡ length ns → all_fit ns vs ≡ true → FitNames ns vs
fits_from [] [] e h = tt
fits_from [] (v ∷ vs) e h = absurd (omega arith)
fits_from (n ∷ ns) [] e h = absurd (omega arith)
fits_from (n ∷ ns) (v ∷ vs) e h =
    let p = and_parts (ltb v (2 ^ n.width)) (all_fit ns vs) h in
    (ltb-true v (2 ^ n.width) p.0, fits_from ns vs (omega arith) p.1)

-- the entry is given only where the values fit
unless_fit : (P : Entry → Type 0) (ns : List Named) (vs : List ℕ) (e : Entry) → (FitNames ns vs → P e) → IfOk (unless (values_cause ns vs) e) P
unless_fit P ns vs e h = sized (eqb (length vs) (length ns)) (λ same. fitted (all_fit ns vs) (λ fit. h (fits_from ns vs (eqb-true (length vs) (length ns) same) fit)))
  where
    fitted : (b : Bool) → (b ≡ true → P e) → IfOk (unless (cond b None (Some causes.OutOfRange)) e) P
    fitted true k = k refl
    fitted false k = tt

    sized : (b : Bool) → (b ≡ true → IfOk (unless (cond (all_fit ns vs) None (Some causes.OutOfRange)) e) P) → IfOk (unless (cond b (cond (all_fit ns vs) None (Some causes.OutOfRange)) (Some causes.Shape)) e) P
    sized true k = k refl
    sized false k = tt

accesses_wider : (m : ModelData) (n k : ℕ) (xs : List ImageAccess) → n ≤ k → AreAccesses m n xs → AreAccesses m k xs
accesses_wider m n k [] le h = tt
accesses_wider m n k (x ∷ xs) le h = ((omega (arith, h.0.0), h.0.1), accesses_wider m n k xs le h.1)

-- ---- a good line keeps a draft

-- what each entry leaves is a draft of one more line
abbrev Leaves : ModelData → ℕ → Draft → Entry → Type 0
Leaves m n d e = IsDraft m (n + 1) (added d e)

abbrev Follows : Draft → Line → Type 0
Follows d l = may_follow sections d.place (standing l) ≡ true

header_kept : (m : ModelData) (n : ℕ) (d : Draft) → d.place ≤ 1 → IsDraft m n d → Leaves m n d entry.Header
header_kept m n d start h = record { bounds = λ le. absurd (omega arith); early = λ le. h.early (omega arith); contexts = h.contexts; few = omega (arith, h.few); accesses = h.accesses; words = h.words; rising = h.rising }

tables_kept : (m : ModelData) (n : ℕ) (d : Draft) (lo hi : ℕ) → d.place ≤ 2 → bounds_fit m lo hi ≡ true → IsDraft m n d → Leaves m n d (entry.Tables lo hi)
tables_kept m n d lo hi early fit h =
    let none : d.words ≡ [] = h.early early in
    record { bounds = λ le. fit; early = λ le. none; contexts = h.contexts; few = omega (arith, h.few); accesses = h.accesses; words = subst (WordsFit m (lo, hi)) (sym none) tt; rising = h.rising }

context_kept : (m : ModelData) (n : ℕ) (d : Draft) (vs : List ℕ) → 2 ≤ d.place → FitNames m.regs vs → IsDraft m n d → Leaves m n d (entry.Context vs)
context_kept m n d vs late fit h = record { bounds = λ le. h.bounds late; early = λ le. absurd (omega arith); contexts = AllByRecursion-append (FitNames m.regs) d.contexts (vs ∷ []) h.contexts (fit, tt); few = omega (arith, h.few, length_push d.contexts vs); accesses = accesses_wider m (length d.contexts) (length (d.contexts ++ vs ∷ [])) d.accesses (omega (arith, length_push d.contexts vs)) h.accesses; words = h.words; rising = h.rising }

access_kept : (m : ModelData) (n : ℕ) (d : Draft) (a : ImageAccess) → 2 ≤ d.place → a.context < length d.contexts → FitNames m.inputs a.inputs → IsDraft m n d → Leaves m n d (entry.Access a)
access_kept m n d a late known fit h = record { bounds = λ le. h.bounds late; early = λ le. absurd (omega arith); contexts = h.contexts; few = omega (arith, h.few); accesses = AllByRecursion-append (λ (x : ImageAccess). (x.context < length d.contexts) × FitNames m.inputs x.inputs) d.accesses (a ∷ []) h.accesses ((known, fit), tt); words = h.words; rising = h.rising }

word_kept : (m : ModelData) (n : ℕ) (d : Draft) (w : Stored) → 2 ≤ d.place → word_fits m d.bounds w ≡ true → is_above d.words w.address ≡ true → IsDraft m n d → Leaves m n d (entry.Word w)
word_kept m n d w late fit above h = record { bounds = λ le. h.bounds late; early = λ le. absurd (omega arith); contexts = h.contexts; few = omega (arith, h.few); accesses = h.accesses; words = AllByRecursion-append (λ (x : Stored). word_fits m d.bounds x ≡ true) d.words (w ∷ []) h.words (fit, tt); rising = rising_push d.words w h.rising above }

end_kept : (m : ModelData) (n : ℕ) (d : Draft) → 2 ≤ d.place → IsDraft m n d → Leaves m n d entry.End
end_kept m n d late h = record { bounds = λ le. h.bounds late; early = λ le. absurd (omega arith); contexts = h.contexts; few = omega (arith, h.few); accesses = h.accesses; words = h.words; rising = h.rising }

entry_kept : (m : ModelData) (n : ℕ) (d : Draft) (l : Line) → Follows d l → IsDraft m n d → IfOk (entry_of m d l) (Leaves m n d)
entry_kept m n d line.Header at h = header_kept m n d (place_le sections d.place 0 at) h
entry_kept m n d (line.Tables lo hi) at h =
    chosen_ok (Leaves m n d) (bounds_fit m lo hi) (Ok (entry.Tables lo hi)) (Err causes.OutOfRange) (λ fit. tables_kept m n d lo hi (place_le sections d.place 1 at) fit h) (λ e. tt)
entry_kept m n d (line.Context vs) at h =
    unless_fit (Leaves m n d) m.regs vs (entry.Context vs) (λ fit. context_kept m n d vs (two_on (λ p. may_follow sections p (In 2)) refl refl d.place at) fit h)
entry_kept m n d (line.Access k vs) at h =
    let a : ImageAccess = record { context = k; inputs = vs } in
    chosen_ok (Leaves m n d) (ltb k (length d.contexts)) (unless (values_cause m.inputs vs) (entry.Access a)) (Err causes.Shape)
    (λ known. unless_fit (Leaves m n d) m.inputs vs (entry.Access a) (λ fit. access_kept m n d a (two_on (λ p. may_follow sections p (In 3)) refl refl d.place at) (ltb-true k (length d.contexts) known) fit h))
    (λ e. tt)
entry_kept m n d (line.Word w) at h =
    chosen_ok (Leaves m n d) (word_fits m d.bounds w) (cond (is_above d.words w.address) (Ok (entry.Word w)) (Err causes.Order)) (Err causes.OutOfRange)
    (λ fit. chosen_ok (Leaves m n d) (is_above d.words w.address) (Ok (entry.Word w)) (Err causes.Order) (λ above. word_kept m n d w (two_on (λ p. may_follow sections p (In 4)) refl refl d.place at) fit above h) (λ e. tt))
    (λ e. tt)
entry_kept m n d line.End at h = end_kept m n d (two_on (λ p. may_follow sections p (In 5)) refl refl d.place at) h

meaning_kept : (m : ModelData) (n : ℕ) (d : Draft) (o : Option Line) → IsDraft m n d → IfOk (meaning m d o) (Leaves m n d)
meaning_kept m n d None h = tt
meaning_kept m n d (Some l) h = chosen_ok (Leaves m n d) (may_follow sections d.place (standing l)) (entry_of m d l) (Err causes.Form) (λ at. entry_kept m n d l at h) (λ e. tt)

pub draft_kept : (m : ModelData) (n : ℕ) (d new : Draft) (o : Option Line) (e : Entry) → IsDraft m n d → meaning m d o ≡ Ok e → new ≡ added d e → IsDraft m (n + 1) new
draft_kept m n d new o e h is grown = subst (IsDraft m (n + 1)) (sym grown) (at_ok (Leaves m n d) (meaning m d o) e (meaning_kept m n d o h) is)

-- ---- the image in the end

abbrev Placed : ModelData → ℕ × ℕ → List Stored → Type 0
Placed m bounds ws = AreWords (m.word / 8) bounds.0 bounds.1 ws × Fit (m.word / 8) ws

words_placed : (m : ModelData) (bounds : ℕ × ℕ) (ws : List Stored) → m.word ≡ 8 * (m.word / 8) → WordsFit m bounds ws → Placed m bounds ws
words_placed m bounds [] e h = (tt, tt)
words_placed m bounds (w ∷ ws) e h =
    let p = and_parts (eqb (w.address % (m.word / 8)) 0 && leb bounds.0 w.address && ltb w.address bounds.1) (ltb w.value (2 ^ m.word)) h.0 in
    let q = and_parts (eqb (w.address % (m.word / 8)) 0 && leb bounds.0 w.address) (ltb w.address bounds.1) p.0 in
    let r = and_parts (eqb (w.address % (m.word / 8)) 0) (leb bounds.0 w.address) q.0 in
    let value : w.value < 2 ^ (8 * (m.word / 8)) = subst (λ (x : ℕ). w.value < 2 ^ x) e (ltb-true w.value (2 ^ m.word) p.1) in
    let more = words_placed m bounds ws e h.1 in
    (((eqb-true (w.address % (m.word / 8)) 0 r.0, leb-true bounds.0 w.address r.1, ltb-true w.address bounds.1 q.1), more.0), (value, more.1))

pub record IsGood (m : ModelData) (d : Draft) : Type 0 where
  pub memory : IsMemory (image_in m d).memory
  pub image : IsImage m (image_in m d)

pub draft_good : (m : ModelData) (n : ℕ) (d : Draft) → IsAccepted m → IsDraft m n d → 2 ≤ d.place → IsGood m d
draft_good m n d a h late =
    let size = accepted_bytes m a in
    let most : 2 ^ m.address ≤ 2 ^ 64 = pow_mono (accepted_address m a).1 in
    let p = bounds_are m d.bounds.0 d.bounds.1 (h.bounds late) in
    let placed = words_placed m d.bounds d.words size.1 h.words in
    record {
      memory = record { bytes = size.0; lo = p.lo_whole; hi = p.hi_whole; order = p.rising; end = omega (arith, p.within, most); rising = h.rising; words = placed.0; fit = placed.1 };
      image = record { word = size.1; end = p.within; contexts = h.contexts; accesses = h.accesses };
    }
