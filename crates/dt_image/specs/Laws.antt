-- The reader of images keeps the laws of readers: what one more entry declares is added, and a draft stays one at a later line.
use Rattle.std.proofs.Common.{◌≡◌, ℕ, ◌+◌, List, [], ◌∷◌, ◌++◌, refl, ap, ◌∙◌, arith}
use Rattle.std.specs.List.{flat_map}
use Rattle.dt_lex.specs.Reading.{last_of}
use Rattle.dt_lemmas.proofs.Lists.{flat_map_one, flat_map_none}
use Rattle.dt_lex.proofs.Loop.{last_push, last_map_push}
use Rattle.dt_model.specs.ModelData.{ModelData}
use Rattle.dt_image.specs.declared.draft.Draft.{Draft}
use Rattle.dt_image.specs.declared.entry.Entry.{Entry}
use Rattle.dt_image.specs.declared.entry.Entry.TheVariants.{Header, Tables, Context, Access, Word, End}
use Rattle.dt_image.specs.Draft.{place_behind, bounds_in, contexts_in, accesses_in, words_in, declared, added, IsDraft}

same : (a b : Draft) → a.place ≡ b.place → a.bounds ≡ b.bounds → a.contexts ≡ b.contexts → a.accesses ≡ b.accesses → a.words ≡ b.words → a ≡ b
same a b p q r s t = λ i. record { place = p i; bounds = q i; contexts = r i; accesses = s i; words = t i }

bounds_stay : (es : List Entry) (e : Entry) → bounds_in e ≡ [] → last_of (0, 0) (flat_map bounds_in (es ++ e ∷ [])) ≡ last_of (0, 0) (flat_map bounds_in es)
bounds_stay es e none = ap (last_of (0, 0)) (flat_map_none bounds_in es e none)

pub adds_up : (es : List Entry) (e : Entry) → declared (es ++ e ∷ []) ≡ added (declared es) e
unfolding declared
adds_up es Header = same _ _ (last_map_push place_behind 0 es Header) (bounds_stay es Header refl) (flat_map_none contexts_in es Header refl) (flat_map_none accesses_in es Header refl) (flat_map_none words_in es Header refl)
adds_up es (Tables lo hi) = same _ _ (last_map_push place_behind 0 es (Tables lo hi)) (ap (last_of (0, 0)) (flat_map_one bounds_in es (Tables lo hi) (lo, hi) refl) ∙ last_push (0, 0) (flat_map bounds_in es) (lo, hi)) (flat_map_none contexts_in es (Tables lo hi) refl) (flat_map_none accesses_in es (Tables lo hi) refl) (flat_map_none words_in es (Tables lo hi) refl)
adds_up es (Context vs) = same _ _ (last_map_push place_behind 0 es (Context vs)) (bounds_stay es (Context vs) refl) (flat_map_one contexts_in es (Context vs) vs refl) (flat_map_none accesses_in es (Context vs) refl) (flat_map_none words_in es (Context vs) refl)
adds_up es (Access a) = same _ _ (last_map_push place_behind 0 es (Access a)) (bounds_stay es (Access a) refl) (flat_map_none contexts_in es (Access a) refl) (flat_map_one accesses_in es (Access a) a refl) (flat_map_none words_in es (Access a) refl)
adds_up es (Word w) = same _ _ (last_map_push place_behind 0 es (Word w)) (bounds_stay es (Word w) refl) (flat_map_none contexts_in es (Word w) refl) (flat_map_none accesses_in es (Word w) refl) (flat_map_one words_in es (Word w) w refl)
adds_up es End = same _ _ (last_map_push place_behind 0 es End) (bounds_stay es End refl) (flat_map_none contexts_in es End refl) (flat_map_none accesses_in es End refl) (flat_map_none words_in es End refl)

pub draft_later : (m : ModelData) (n : ℕ) (d : Draft) → IsDraft m n d → IsDraft m (n + 1) d
draft_later m n d h = record { bounds = h.bounds; early = h.early; contexts = h.contexts; few = omega (arith, h.few); accesses = h.accesses; words = h.words; rising = h.rising }
