-- The lines of an image, none of which is bad after those before.
use Rattle.std.proofs.Common.{◌≡◌, ℕ, ◌+◌, ◌*◌, ◌/◌, ◌%◌, ◌^◌, ◌<◌, ◌≤◌, true, cond, eqb, ltb, List, [], ◌∷◌, ◌++◌, length, Some, None, Ok, Err, refl, sym, ap, subst, ◌∙◌, append_assoc, arith}
use Rattle.std.specs.Prelude.{map}
use Rattle.std.specs.List.{AllByRecursion}
use Rattle.std.proofs.lemmas.Bool.{and_from, cond-true, lt-ltb, le-leb, eq-eqb}
use Rattle.std.proofs.lemmas.List.{append-nil}
use Rattle.std.proofs.Math.Nat.{mul-div_cancel_left}
use Rattle.std.proofs.Math.Pow.{pow_mono}
use Rattle.dt_bits.specs.declared.memory.Word.{Word as Stored}
use Rattle.dt_bits.specs.Memory.{IsWordSize, IsMemory, IsRising, AreWords, Fit}
use Rattle.dt_lemmas.proofs.Lists.{AllByRecursion-append}
use Rattle.dt_lemmas.proofs.Numbers.{passes_at}
use Rattle.dt_lex.specs.declared.section.Standing.TheVariants.{In}
use Rattle.dt_lex.specs.Sections.{may_follow}
use Rattle.dt_lex.specs.Printing.{IsRow}
use Rattle.dt_lex.proofs.Blocks.{place_after, stays}
use Rattle.dt_lex.proofs.Printed.{run_rows}
use Rattle.dt_model.specs.ModelData.{ModelData}
use Rattle.dt_model.specs.declared.model.Named.{Named}
use Rattle.dt_model.specs.Widths.{AreWidths}
use Rattle.dt_model.specs.Bounds.{word_bytes, bounds_fit}
use Rattle.dt_model.proofs.BoundsFit.{bounds_test}
use Rattle.dt_image.specs.declared.fault.Cause.TheVariants as causes
use Rattle.dt_image.specs.declared.image.Image.{Image}
use Rattle.dt_image.specs.declared.image.ImageAccess.{ImageAccess}
use Rattle.dt_image.specs.declared.draft.Draft.{Draft}
use Rattle.dt_image.specs.declared.line.Line.{Line}
use Rattle.dt_image.specs.declared.line.Line.TheVariants.{Header, Tables, Context, Access, Word, End}
use Rattle.dt_model.specs.Values.{FitNames}
use Rattle.dt_image.specs.Images.{IsImage}
use Rattle.dt_image.specs.declared.entry.Entry.{Entry}
use Rattle.dt_image.specs.declared.entry.Entry.TheVariants as entry
use Rattle.dt_image.specs.Entry.{sections, standing, all_fit, values_cause, unless, word_fits, is_above, entry_of, meaning}
use Rattle.dt_image.specs.Draft.{added}
use Rattle.dt_image.specs.Read.{grammar}
use Rattle.dt_image.specs.Print.{row_of}
use Rattle.dt_image.proofs.Rising.{rising_above}
use Rattle.dt_image.proofs.Rows.{AllBelow, IsSmall, row_again, row_ok}

-- ---- lines

abbrev pub entry_in : Line → Entry
entry_in Header = entry.Header
entry_in (Tables lo hi) = entry.Tables lo hi
entry_in (Context vs) = entry.Context vs
entry_in (Access k vs) = entry.Access (record { context = k; inputs = vs })
entry_in (Word w) = entry.Word w
entry_in End = entry.End

abbrev pub all_added : Draft → List Line → Draft
all_added d [] = d
all_added d (l ∷ ls) = all_added (added d (entry_in l)) ls

-- no line of these is bad after d
abbrev pub IsRun : ModelData → Draft → List Line → Type 0
IsRun m d [] = Unit {0}
IsRun m d (l ∷ ls) = (meaning m d (Some l) ≡ Ok (entry_in l)) × IsRun m (added d (entry_in l)) ls

pub all_added-append : (d : Draft) (xs ys : List Line) → all_added d (xs ++ ys) ≡ all_added (all_added d xs) ys
all_added-append d [] ys = refl
all_added-append d (x ∷ xs) ys = all_added-append (added d (entry_in x)) xs ys

pub IsRun-append : (m : ModelData) (d : Draft) (xs ys : List Line) → IsRun m d xs → IsRun m (all_added d xs) ys → IsRun m d (xs ++ ys)
IsRun-append m d [] ys p q = q
IsRun-append m d (x ∷ xs) ys p q = (p.0, IsRun-append m (added d (entry_in x)) xs ys p.1 q)

abbrev pub AreSmall : List Line → Type 0
AreSmall ls = AllByRecursion IsSmall ls

pub AreSmall-append : (xs ys : List Line) → AreSmall xs → AreSmall ys → AreSmall (xs ++ ys)
AreSmall-append = AllByRecursion-append IsSmall

pub rows_again : (m : ModelData) (n : ℕ) (d : Draft) (ls : List Line) → AreSmall ls → IsRun m d ls → run_rows (grammar m) added n d (map row_of ls) ≡ Ok (all_added d ls)
unfolding run_rows
rows_again m n d [] h run = refl
rows_again m n d (l ∷ ls) h run =
    rw (row_again m n d l (entry_in l) h.0 run.0) (rows_again m (n + 1) (added d (entry_in l)) ls h.1 run.1)

pub rows_are : (ls : List Line) → AreSmall ls → AllByRecursion IsRow (map row_of ls)
rows_are [] h = tt
rows_are (l ∷ ls) h = (row_ok l h.0, rows_are ls h.1)

-- ---- the lines of an image, in blocks

abbrev pub context_lines : List (List ℕ) → List Line
context_lines vss = map (λ vs. Context vs) vss

abbrev pub access_lines : List ImageAccess → List Line
access_lines xs = map (λ a. Access a.context a.inputs) xs

abbrev pub word_lines : List Stored → List Line
word_lines ws = map (λ w. Word w) ws

pub contexts_added : (d : Draft) (vss : List (List ℕ)) → all_added d (context_lines vss) ≡ record d { place = place_after d.place 3 vss; contexts = d.contexts ++ vss }
contexts_added d [] = λ i. record d { contexts = sym (append-nil d.contexts) i }
contexts_added d (vs ∷ vss) = contexts_added (added d (entry.Context vs)) vss ∙ (λ i. record d { place = stays 3 vss i; contexts = append_assoc d.contexts (vs ∷ []) vss i })

pub accesses_added : (d : Draft) (xs : List ImageAccess) → all_added d (access_lines xs) ≡ record d { place = place_after d.place 4 xs; accesses = d.accesses ++ xs }
accesses_added d [] = λ i. record d { accesses = sym (append-nil d.accesses) i }
accesses_added d (x ∷ xs) = accesses_added (added d (entry.Access x)) xs ∙ (λ i. record d { place = stays 4 xs i; accesses = append_assoc d.accesses (x ∷ []) xs i })

pub words_added : (d : Draft) (ws : List Stored) → all_added d (word_lines ws) ≡ record d { place = place_after d.place 5 ws; words = d.words ++ ws }
words_added d [] = λ i. record d { words = sym (append-nil d.words) i }
words_added d (w ∷ ws) = words_added (added d (entry.Word w)) ws ∙ (λ i. record d { place = stays 5 ws i; words = append_assoc d.words (w ∷ []) ws i })

-- ---- what an image has

pub fit_length : (ns : List Named) (vs : List ℕ) → FitNames ns vs → length vs ≡ length ns
fit_length [] [] h = refl
fit_length [] (v ∷ vs) h = absurd h
fit_length (n ∷ ns) [] h = absurd h
fit_length (n ∷ ns) (v ∷ vs) h = omega (arith, fit_length ns vs h.1)

pub fit_all : (ns : List Named) (vs : List ℕ) → FitNames ns vs → all_fit ns vs ≡ true
fit_all [] [] h = refl
fit_all [] (v ∷ vs) h = refl
fit_all (n ∷ ns) [] h = refl
fit_all (n ∷ ns) (v ∷ vs) h = and_from (ltb v (2 ^ n.width)) (all_fit ns vs) (lt-ltb v (2 ^ n.width) h.0) (fit_all ns vs h.1)

pub fit_below : (ns : List Named) (vs : List ℕ) → AreWidths ns → FitNames ns vs → AllBelow vs
fit_below [] [] w h = tt
fit_below [] (v ∷ vs) w h = absurd h
fit_below (n ∷ ns) [] w h = tt
fit_below (n ∷ ns) (v ∷ vs) w h = (let most : 2 ^ n.width ≤ 2 ^ 128 = pow_mono w.0.1 in omega (arith, h.0, most), fit_below ns vs w.1 h.1)

pub fit_cause : (ns : List Named) (vs : List ℕ) → FitNames ns vs → values_cause ns vs ≡ None
fit_cause ns vs h =
    cond-true (eqb (length vs) (length ns)) (cond (all_fit ns vs) None (Some causes.OutOfRange)) (Some causes.Shape) (eq-eqb (length vs) (length ns) (fit_length ns vs h))
    ∙ cond-true (all_fit ns vs) None (Some causes.OutOfRange) (fit_all ns vs h)

-- a line of such a section may stand at such a place
pub follows_2 : (p : ℕ) → 2 ≤ p → p ≤ 3 → may_follow sections p (In 2) ≡ true
follows_2 p low high = passes_at (λ p. may_follow sections p (In 2)) 2 2 p refl low (omega arith)

pub follows_3 : (p : ℕ) → 2 ≤ p → p ≤ 4 → may_follow sections p (In 3) ≡ true
follows_3 p low high = passes_at (λ p. may_follow sections p (In 3)) 2 3 p refl low (omega arith)

pub follows_4 : (p : ℕ) → 2 ≤ p → p ≤ 5 → may_follow sections p (In 4) ≡ true
follows_4 p low high = passes_at (λ p. may_follow sections p (In 4)) 2 4 p refl low (omega arith)

pub follows_5 : (p : ℕ) → 2 ≤ p → p ≤ 5 → may_follow sections p (In 5) ≡ true
follows_5 p low high = passes_at (λ p. may_follow sections p (In 5)) 2 4 p refl low (omega arith)

pub meaning_is : (m : ModelData) (d : Draft) (l : Line) (e : Entry) → may_follow sections d.place (standing l) ≡ true → entry_of m d l ≡ Ok e → meaning m d (Some l) ≡ Ok e
meaning_is m d l e p q = cond-true (may_follow sections d.place (standing l)) (entry_of m d l) (Err causes.Form) p ∙ q

unless_is : (ns : List Named) (vs : List ℕ) (e : Entry) → FitNames ns vs → unless (values_cause ns vs) e ≡ Ok e
unless_is ns vs e h = ap (λ o. unless o e) (fit_cause ns vs h)

pub contexts_run : (m : ModelData) (d : Draft) (vss : List (List ℕ)) → 2 ≤ d.place → d.place ≤ 3 → AllByRecursion (FitNames m.regs) vss → IsRun m d (context_lines vss)
contexts_run m d [] low high h = tt
contexts_run m d (vs ∷ vss) low high h =
    (meaning_is m d (Context vs) (entry.Context vs) (follows_2 d.place low high) (unless_is m.regs vs (entry.Context vs) h.0), contexts_run m (added d (entry.Context vs)) vss (omega arith) (omega arith) h.1)

abbrev pub AreAccesses : ModelData → ℕ → List ImageAccess → Type 0
AreAccesses m n xs = AllByRecursion (λ (a : ImageAccess). (a.context < n) × FitNames m.inputs a.inputs) xs

pub accesses_run : (m : ModelData) (d : Draft) (n : ℕ) (xs : List ImageAccess) → 2 ≤ d.place → d.place ≤ 4 → length d.contexts ≡ n → AreAccesses m n xs → IsRun m d (access_lines xs)
accesses_run m d n [] low high count h = tt
accesses_run m d n (x ∷ xs) low high count h = (
  meaning_is m d (Access x.context x.inputs) (entry.Access x) (follows_3 d.place low high) (cond-true (ltb x.context (length d.contexts)) (unless (values_cause m.inputs x.inputs) (entry.Access x)) (Err causes.Shape) (lt-ltb x.context (length d.contexts) (omega (arith, h.0.0))) ∙ unless_is m.inputs x.inputs (entry.Access x) h.0.1),
  accesses_run m (added d (entry.Access x)) n xs (omega arith) (omega arith) count h.1,
)

abbrev pub WordsFit : ModelData → ℕ × ℕ → List Stored → Type 0
WordsFit m bounds ws = AllByRecursion (λ w. word_fits m bounds w ≡ true) ws

pub words_run : (m : ModelData) (d : Draft) (ws : List Stored) → 2 ≤ d.place → d.place ≤ 5 → WordsFit m d.bounds ws → IsRising (d.words ++ ws) → IsRun m d (word_lines ws)
words_run m d [] low high h up = tt
words_run m d (w ∷ ws) low high h up = (
  meaning_is m d (Word w) (entry.Word w) (follows_4 d.place low high) (cond-true (word_fits m d.bounds w) (cond (is_above d.words w.address) (Ok (entry.Word w)) (Err causes.Order)) (Err causes.OutOfRange) h.0 ∙ cond-true (is_above d.words w.address) (Ok (entry.Word w)) (Err causes.Order) (rising_above d.words w ws up)),
  words_run m (added d (entry.Word w)) ws (omega arith) (omega arith) h.1 (subst IsRising (sym (append_assoc d.words (w ∷ []) ws)) up),
)

pub bytes_are : (w b : ℕ) → w ≡ 8 * b → w / 8 ≡ b
bytes_are w b h = ap (λ (x : ℕ). x / 8) h ∙ mul-div_cancel_left b (omega arith)

pub size_le : (b : ℕ) → IsWordSize b → b ≤ 8
size_le b h = grind arith

pub bounds_good : (m : ModelData) (i : Image) → IsImage m i → IsMemory i.memory → bounds_fit m i.memory.lo i.memory.hi ≡ true
bounds_good m i h good =
    let e : word_bytes m ≡ i.memory.bytes = bytes_are m.word i.memory.bytes h.word in
    bounds_test m i.memory.lo i.memory.hi (record {
      lo_whole = ap (λ (x : ℕ). i.memory.lo % x) e ∙ good.lo;
      hi_whole = ap (λ (x : ℕ). i.memory.hi % x) e ∙ good.hi;
      rising = good.order;
      within = h.end;
    })

pub words_good : (m : ModelData) (b lo hi : ℕ) (ws : List Stored) → m.word ≡ 8 * b → AreWords b lo hi ws → Fit b ws → WordsFit m (lo, hi) ws
words_good m b lo hi [] e are fit = tt
words_good m b lo hi (w ∷ ws) e are fit =
    let size = bytes_are m.word b e in
    let at : eqb (w.address % (m.word / 8)) 0 ≡ true = ap (λ (x : ℕ). eqb (w.address % x) 0) size ∙ eq-eqb (w.address % b) 0 are.0.0 in
    let value : ltb w.value (2 ^ m.word) ≡ true = ap (λ (x : ℕ). ltb w.value (2 ^ x)) e ∙ lt-ltb w.value (2 ^ (8 * b)) fit.0 in
    (and_from _ _ (and_from _ _ (and_from _ _ at (le-leb lo w.address are.0.1)) (lt-ltb w.address hi are.0.2)) value, words_good m b lo hi ws e are.1 fit.1)
