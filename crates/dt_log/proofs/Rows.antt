-- A printed line is a short row of words, which spells the line again.
use Rattle.std.proofs.Common.{◌≡◌, ℕ, ◌^◌, ◌<◌, ◌≤◌, true, ltb, List, [], ◌∷◌, length, Option, Some, None, Ok, refl, ap, ◌∙◌, arith}
use Rattle.std.specs.Prelude.{codes}
use Rattle.std.specs.Option.{option_map, option_and_then}
use Rattle.std.specs.List.{AllByRecursion}
use Rattle.std.proofs.lemmas.Bool.{cond-true, lt-ltb}
use Rattle.std.proofs.lemmas.List.{length-append}
use Rattle.dt_lex.specs.Numeral.{number_of, decimal, hex}
use Rattle.dt_lex.specs.Printing.{all_plain, body_of, spaced, IsWord, IsRow}
use Rattle.dt_lex.specs.Reading.{◌>>=◌, with_place, row_entry}
use Rattle.dt_lex.proofs.Printed.{number_of-hex, number_of-decimal, IsWord-hex, IsWord-decimal, length-hex-le, length-decimal-le, spaced_le}
use Rattle.dt_log.specs.declared.line.Line.TheVariants.{Forward, Backward, Try, Split, Close, Loose, Unvisited}
use Rattle.dt_log.specs.declared.line.Claim.TheVariants.{Impossible, Budget}
use Rattle.dt_log.specs.declared.entry.Entry.{Entry}
use Rattle.dt_log.specs.declared.entry.Entry.TheVariants.{Claim, Item, End}
use Rattle.dt_log.specs.declared.written.Written.{Written}
use Rattle.dt_log.specs.Entry.{below, alone_of, pair_of, small_of, small_pair_of, tried_of, spelled, meaning}
use Rattle.dt_log.specs.Read.{entry_or_fault, grammar}
use Rattle.dt_log.specs.Print.{row_of}
use Rattle.dt_log.specs.Small.{IsSmall}

-- ---- one line

below_is : (bound n : ℕ) → n < bound → below bound n ≡ Some n
below_is bound n lt = cond-true (ltb n bound) (Some n) None (lt-ltb n bound lt)

small_again : (n : ℕ) → n < 2 ^ 32 → small_of (decimal n ∷ []) ≡ Some n
small_again n lt = ap (option_and_then (below (2 ^ 32))) (number_of-decimal n (omega arith)) ∙ below_is (2 ^ 32) n lt

long_again : (n : ℕ) → n < 2 ^ 64 → option_and_then (below (2 ^ 64)) (alone_of (decimal n ∷ [])) ≡ Some n
long_again n lt = ap (option_and_then (below (2 ^ 64))) (number_of-decimal n (omega arith)) ∙ below_is (2 ^ 64) n lt

pair_again : (t u : List ℕ) (m n : ℕ) → number_of t ≡ Some m → number_of u ≡ Some n → pair_of (t ∷ u ∷ []) ≡ Some (m, n)
pair_again t u m n p q = rw (p, q) refl

two_again : (m n : ℕ) → m < 2 ^ 32 → n < 2 ^ 32 → small_pair_of (decimal m ∷ decimal n ∷ []) ≡ Some (m, n)
two_again m n h k =
    ap (option_and_then (λ (p : ℕ × ℕ). option_and_then (λ a. option_map (λ b. (a, b)) (below (2 ^ 32) p.1)) (below (2 ^ 32) p.0))) (pair_again (decimal m) (decimal n) m n (number_of-decimal m (omega arith)) (number_of-decimal n (omega arith)))
    ∙ ap (option_and_then (λ a. option_map (λ b. (a, b)) (below (2 ^ 32) n))) (below_is (2 ^ 32) m h)
    ∙ ap (option_map (λ (b : ℕ). (m, b))) (below_is (2 ^ 32) n k)

tried_again : (c v : ℕ) → c < 2 ^ 32 → v < 2 ^ 128 → tried_of (decimal c ∷ hex v ∷ []) ≡ Some (c, v)
tried_again c v h k =
    ap (option_and_then (λ (p : ℕ × ℕ). option_map (λ a. (a, p.1)) (below (2 ^ 32) p.0))) (pair_again (decimal c) (hex v) c v (number_of-decimal c (omega arith)) (number_of-hex v k))
    ∙ ap (option_map (λ (a : ℕ). (a, v))) (below_is (2 ^ 32) c h)

abbrev pub spelled_row : List (List ℕ) → Option Entry
spelled_row [] = None
spelled_row (t ∷ ts) = spelled t ts

pub spelled_again : (e : Entry) → IsSmall e → spelled_row (row_of e) ≡ Some e
unfolding spelled
spelled_again (Claim Impossible) h = refl
spelled_again (Claim (Budget n)) h = ap (option_map (λ (n : ℕ). Claim (Budget n))) (long_again n h)
spelled_again (Item (Forward t)) h = ap (option_map (λ (n : ℕ). Item (Forward n))) (small_again t h)
spelled_again (Item (Backward p k)) h = ap (option_map (λ (p : ℕ × ℕ). Item (Backward p.0 p.1))) (two_again p k h.0 h.1)
spelled_again (Item (Try c v)) h = ap (option_map (λ (p : ℕ × ℕ). Item (Try p.0 p.1))) (tried_again c v h.0 h.1)
spelled_again (Item (Split t i)) h = ap (option_map (λ (p : ℕ × ℕ). Item (Split p.0 p.1))) (two_again t i h.0 h.1)
spelled_again (Item (Close t)) h = ap (option_map (λ (n : ℕ). Item (Close n))) (small_again t h)
spelled_again (Item Loose) h = refl
spelled_again (Item Unvisited) h = refl
spelled_again End h = refl

row_is : (n : ℕ) (w : Written) (e : Entry) → row_entry grammar n w (row_of e) ≡ (with_place (grammar.at n) (entry_or_fault (meaning w.place (spelled_row (row_of e)))) >>= λ e. Ok (Some e))
row_is n w (Claim Impossible) = refl
row_is n w (Claim (Budget k)) = refl
row_is n w (Item (Forward t)) = refl
row_is n w (Item (Backward p k)) = refl
row_is n w (Item (Try c v)) = refl
row_is n w (Item (Split t i)) = refl
row_is n w (Item (Close t)) = refl
row_is n w (Item Loose) = refl
row_is n w (Item Unvisited) = refl
row_is n w End = refl

pub row_again : (n : ℕ) (w : Written) (e : Entry) → IsSmall e → meaning w.place (Some e) ≡ Some e → row_entry grammar n w (row_of e) ≡ Ok (Some e)
row_again n w e small good =
    row_is n w e
    ∙ ap (λ (o : Option Entry). with_place (grammar.at n) (entry_or_fault (meaning w.place o)) >>= λ e. Ok (Some e)) (spelled_again e small)
    ∙ ap (λ (o : Option Entry). with_place (grammar.at n) (entry_or_fault o) >>= λ e. Ok (Some e)) good

-- ---- a line is a short row of words

abbrev AreShort : List (List ℕ) → Type 0
AreShort ts = AllByRecursion (λ t. length t ≤ 39) ts

row_short : (t : List ℕ) (ts : List (List ℕ)) → length t ≤ 10 → AreShort ts → length ts ≤ 2 → length (body_of (t ∷ ts)) ≤ 16384
row_short t ts first h few = omega (arith, length-append t (spaced ts), spaced_le 39 ts h)

one_short : (n : ℕ) → n < 2 ^ 64 → AreShort (decimal n ∷ [])
one_short n lt = (length-decimal-le n (omega arith), tt)

two_short : (m n : ℕ) → m < 2 ^ 32 → n < 2 ^ 32 → AreShort (decimal m ∷ decimal n ∷ [])
two_short m n h k = (length-decimal-le m (omega arith), (length-decimal-le n (omega arith), tt))

word : (t : List ℕ) → 0 < length t → all_plain t ≡ true → IsWord t
word t some plain = record { some = some; plain = plain }

pub row_ok : (e : Entry) → IsSmall e → IsRow (row_of e)
row_ok (Claim Impossible) h = record { words = (word (codes "impossible") (omega arith) refl, tt); short = omega arith }
row_ok (Claim (Budget n)) h = record { words = (word (codes "budget") (omega arith) refl, (IsWord-decimal n, tt)); short = row_short (codes "budget") (decimal n ∷ []) (omega arith) (one_short n h) (omega arith) }
row_ok (Item (Forward t)) h = record { words = (word (codes "forward") (omega arith) refl, (IsWord-decimal t, tt)); short = row_short (codes "forward") (decimal t ∷ []) (omega arith) (one_short t (omega arith)) (omega arith) }
row_ok (Item (Backward p k)) h = record { words = (word (codes "backward") (omega arith) refl, (IsWord-decimal p, (IsWord-decimal k, tt))); short = row_short (codes "backward") (decimal p ∷ decimal k ∷ []) (omega arith) (two_short p k h.0 h.1) (omega arith) }
row_ok (Item (Try c v)) h = record { words = (word (codes "try") (omega arith) refl, (IsWord-decimal c, (IsWord-hex v, tt))); short = row_short (codes "try") (decimal c ∷ hex v ∷ []) (omega arith) (length-decimal-le c (omega (arith, h.0)), (omega (arith, length-hex-le v h.1), tt)) (omega arith) }
row_ok (Item (Split t i)) h = record { words = (word (codes "split") (omega arith) refl, (IsWord-decimal t, (IsWord-decimal i, tt))); short = row_short (codes "split") (decimal t ∷ decimal i ∷ []) (omega arith) (two_short t i h.0 h.1) (omega arith) }
row_ok (Item (Close t)) h = record { words = (word (codes "close") (omega arith) refl, (IsWord-decimal t, tt)); short = row_short (codes "close") (decimal t ∷ []) (omega arith) (one_short t (omega arith)) (omega arith) }
row_ok (Item Loose) h = record { words = (word (codes "open") (omega arith) refl, tt); short = omega arith }
row_ok (Item Unvisited) h = record { words = (word (codes "unvisited") (omega arith) refl, tt); short = omega arith }
row_ok End h = record { words = (word (codes "end") (omega arith) refl, tt); short = omega arith }
