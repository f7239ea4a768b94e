-- What the entries of an image text declare, what one more adds to it, and what holds of it for a model.
use Rattle.std.specs.Prelude.{◌≡◌, ℕ, ◌<◌, ◌≤◌, true, List, [], ◌∷◌, ◌++◌, length, map}
use Rattle.std.specs.List.{flat_map, AllByRecursion}
use Rattle.dt_bits.specs.declared.memory.Word.{Word as Stored}
use Rattle.dt_bits.specs.Memory.{IsRising}
use Rattle.dt_lex.specs.Reading.{last_of}
use Rattle.dt_model.specs.ModelData.{ModelData}
use Rattle.dt_model.specs.Bounds.{bounds_fit}
use Rattle.dt_model.specs.Values.{FitNames}
use Rattle.dt_image.specs.declared.image.ImageAccess.{ImageAccess}
use Rattle.dt_image.specs.declared.entry.Entry.{Entry}
use Rattle.dt_image.specs.declared.entry.Entry.TheVariants.{Header, Tables, Context, Access, Word, End}
use Rattle.dt_image.specs.declared.draft.Draft.{Draft}
use Rattle.dt_image.specs.Entry.{word_fits}

-- ---- what entries declare

-- the place of the text behind a line
abbrev pub place_behind : Entry → ℕ
place_behind Header = 1
place_behind (Tables lo hi) = 2
place_behind (Context vs) = 3
place_behind (Access a) = 4
place_behind (Word w) = 5
place_behind End = 6

abbrev pub bounds_in : Entry → List (ℕ × ℕ)
bounds_in (Tables lo hi) = (lo, hi) ∷ []
bounds_in _ = []

abbrev pub contexts_in : Entry → List (List ℕ)
contexts_in (Context vs) = vs ∷ []
contexts_in _ = []

abbrev pub accesses_in : Entry → List ImageAccess
accesses_in (Access a) = a ∷ []
accesses_in _ = []

abbrev pub words_in : Entry → List Stored
words_in (Word w) = w ∷ []
words_in _ = []

-- the place behind the last line, the bounds, and the contexts, accesses and words in their order
unfoldable pub declared : List Entry → Draft
declared es = record {
  place = last_of 0 (map place_behind es);
  bounds = last_of (0, 0) (flat_map bounds_in es);
  contexts = flat_map contexts_in es;
  accesses = flat_map accesses_in es;
  words = flat_map words_in es;
}

-- what no line declares
abbrev pub nothing : Draft
nothing = record { place = 0; bounds = (0, 0); contexts = []; accesses = []; words = [] }

-- what is declared with one more entry
abbrev pub added : Draft → Entry → Draft
added d Header = record d { place = 1 }
added d (Tables lo hi) = record d { place = 2; bounds = (lo, hi) }
added d (Context vs) = record d { place = 3; contexts = d.contexts ++ vs ∷ [] }
added d (Access a) = record d { place = 4; accesses = d.accesses ++ a ∷ [] }
added d (Word w) = record d { place = 5; words = d.words ++ w ∷ [] }
added d End = record d { place = 6 }

-- ---- what holds of a draft

-- the draft of lines before the n-th, for a model, which makes an image in the end
pub record IsDraft (m : ModelData) (n : ℕ) (d : Draft) : Type 0 where
  pub bounds : 2 ≤ d.place → bounds_fit m d.bounds.0 d.bounds.1 ≡ true
  pub early : d.place ≤ 2 → d.words ≡ []
  pub contexts : AllByRecursion (FitNames m.regs) d.contexts
  pub few : length d.contexts < n
  pub accesses : AllByRecursion (λ a. (a.context < length d.contexts) × FitNames m.inputs a.inputs) d.accesses
  pub words : AllByRecursion (λ w. word_fits m d.bounds w ≡ true) d.words
  pub rising : IsRising d.words
