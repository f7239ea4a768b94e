-- The reader of logs keeps the laws of readers: what one more line declares is added, and lines without tokens add nothing.
use Rattle.std.proofs.Common.{◌≡◌, ℕ, ◌+◌, List, [], ◌∷◌, ◌++◌, refl, ap, ◌∙◌, arith}
use Rattle.std.specs.List.{flat_map}
use Rattle.dt_lex.specs.Reading.{last_of}
use Rattle.dt_lemmas.proofs.Lists.{flat_map_one, flat_map_none}
use Rattle.dt_lex.proofs.Loop.{last_push, last_map_push}
use Rattle.dt_log.specs.declared.line.Claim.TheVariants.{Impossible}
use Rattle.dt_log.specs.declared.entry.Entry.{Entry}
use Rattle.dt_log.specs.declared.entry.Entry.TheVariants.{Claim, Item, End}
use Rattle.dt_log.specs.declared.written.Written.{Written}
use Rattle.dt_log.specs.Written.{place_behind, claims_in, items_in, declared, added}
use Rattle.dt_log.specs.Read.{IsWritten}

same : (a b : Written) → a.place ≡ b.place → a.claim ≡ b.claim → a.lines ≡ b.lines → a ≡ b
same a b p q r = λ i. record { place = p i; claim = q i; lines = r i }

claim_stays : (es : List Entry) (e : Entry) → claims_in e ≡ [] → last_of Impossible (flat_map claims_in (es ++ e ∷ [])) ≡ last_of Impossible (flat_map claims_in es)
claim_stays es e none = ap (last_of Impossible) (flat_map_none claims_in es e none)

pub adds_up : (es : List Entry) (e : Entry) → declared (es ++ e ∷ []) ≡ added (declared es) e
unfolding declared
adds_up es (Claim c) = same _ _ (last_map_push place_behind 0 es (Claim c)) (ap (last_of Impossible) (flat_map_one claims_in es (Claim c) c refl) ∙ last_push Impossible (flat_map claims_in es) c) (flat_map_none items_in es (Claim c) refl)
adds_up es (Item l) = same _ _ (last_map_push place_behind 0 es (Item l)) (claim_stays es (Item l) refl) (flat_map_one items_in es (Item l) l refl)
adds_up es End = same _ _ (last_map_push place_behind 0 es End) (claim_stays es End refl) (flat_map_none items_in es End refl)

pub written_later : (n : ℕ) (w : Written) → IsWritten n w → IsWritten (n + 1) w
written_later n w h = omega arith
