-- Tokens pushed as spans.
use Rattle.std.proofs.Common.{◌≡◌, ℕ, ◌+◌, ◌-◌, ◌<◌, ◌≤◌, eqb, Option, Some, None, Result, Ok, Err, List, [], ◌∷◌, ◌++◌, length, take, drop, refl, sym, ap, ◌∙◌, append_assoc, arith, length-drop}
use Rattle.std.specs.Prelude.{slice_range}
use Rattle.std.proofs.lemmas.List.{append-nil, drop-drop, take-take, map_push, drop-take, take_rest}
use Rattle.dt_lex.specs.declared.spans.Token.{Token}
use Rattle.std.specs.List.{position_or_len}
use Rattle.dt_lex.specs.declared.fault.LexFault.{LexFault}
use Rattle.dt_lex.specs.declared.fault.LexFault.TheVariants as faults
use Rattle.dt_lex.specs.Text.{lines_of, tokens_of, fault_of}
use Rattle.std.specs.Bool.{OnFalse}
use Rattle.dt_lex.specs.Reading.{◌>>=◌, unless_faulty}
use Rattle.dt_lex.proofs.Cuts.{at_line_end}
use Rattle.dt_lex.specs.Spans.{numbered, token_in, tokens_in, lexed_from, lexed, AreInOrder, is_memory}

-- a part of a part
pub part_of : (text : List ℕ) (a b s e : ℕ) → s ≤ e → a + e ≤ b → slice_range (slice_range text a b) s e ≡ slice_range text (a + s) (a + e)
part_of text a b s e le within =
    let m = b - a - s in
    let width : b - a ≡ s + m = omega arith in
    let inner : drop s (take (b - a) (drop a text)) ≡ take m (drop (a + s) text) = ap (λ (k : ℕ). drop s (take k (drop a text))) width ∙ drop-take s m (drop a text) ∙ ap (take m) (drop-drop s a text) in
    let same : e - s ≡ a + e - (a + s) = omega arith in
    ap (take (e - s)) inner ∙ take-take (e - s) m (drop (a + s) text) (omega arith) ∙ ap (λ (k : ℕ). take k (drop (a + s) text)) same

pub rest_of : (text : List ℕ) (a b e : ℕ) → a + e ≤ b → drop e (slice_range text a b) ≡ slice_range text (a + e) b
rest_of text a b e within =
    let m = b - (a + e) in
    let width : b - a ≡ e + m = omega arith in
    ap (λ (k : ℕ). drop e (take k (drop a text))) width ∙ drop-take e m (drop a text) ∙ ap (take m) (drop-drop e a text)

pub token_more : (text : List ℕ) (ts : List Token) (n at to s e : ℕ) (total : List (ℕ × List ℕ)) → s < e → at + e ≤ to → tokens_of (slice_range text at to) ≡ slice_range (slice_range text at to) s e ∷ tokens_of (drop e (slice_range text at to)) → tokens_in text ts ++ numbered n (tokens_of (slice_range text at to)) ≡ total → tokens_in text (ts ++ record { line = n; start = at + s; end = at + e } ∷ []) ++ numbered n (tokens_of (slice_range text (at + e) to)) ≡ total
token_more text ts n at to s e total lt within cut so_far =
    let t : Token = record { line = n; start = at + s; end = at + e } in
    let first : tokens_of (slice_range text at to) ≡ slice_range text (at + s) (at + e) ∷ tokens_of (slice_range text (at + e) to) = cut ∙ (λ i. part_of text at to s e (omega arith) within i ∷ tokens_of (rest_of text at to e within i)) in
    ap (λ (xs : List (ℕ × List ℕ)). xs ++ numbered n (tokens_of (slice_range text (at + e) to))) (map_push (token_in text) ts t)
    ∙ append_assoc (tokens_in text ts) (token_in text t ∷ []) (numbered n (tokens_of (slice_range text (at + e) to)))
    ∙ sym (ap (λ (us : List (List ℕ)). tokens_in text ts ++ numbered n us) first)
    ∙ so_far

pub token_end : (text : List ℕ) (ts : List Token) (n at to : ℕ) → tokens_of (slice_range text at to) ≡ [] → tokens_in text ts ++ numbered n (tokens_of (slice_range text at to)) ≡ tokens_in text ts
token_end text ts n at to none = ap (λ (us : List (List ℕ)). tokens_in text ts ++ numbered n us) none ∙ append-nil (tokens_in text ts)

-- ---- lines

abbrev Tokens : Type 0
Tokens = List (ℕ × List ℕ)

unfoldable pub with_front : Tokens → Result Tokens LexFault → Result Tokens LexFault
with_front front r = r >>= λ more. Ok (front ++ more)

pub line_from : (text : List ℕ) (from n to : ℕ) → from < length text → n ≡ position_or_len (λ b. eqb b 10) (take (length text - from) (drop from text)) → to ≡ from + n → lines_of (drop from text) ≡ slice_range text from to ∷ lines_of (drop (to + 1) text)
line_from text from n to lt is at =
    let rest = drop from text in
    let same : n ≡ position_or_len (λ b. eqb b 10) rest = is ∙ ap (position_or_len (λ b. eqb b 10)) (take_rest text from) in
    let width : n ≡ to - from = omega arith in
    let after : from + (n + 1) ≡ to + 1 = omega arith in
    at_line_end rest n same (omega (arith, length-drop from text)) ∙ (λ i. take (width i) rest ∷ lines_of ((drop-drop (n + 1) from text ∙ ap (λ (k : ℕ). drop k text) after) i))

regroup : (front ts : Tokens) (r : Result Tokens LexFault) → with_front front (r >>= λ more. Ok (ts ++ more)) ≡ with_front (front ++ ts) r
unfolding with_front
regroup front ts (Ok more) = ap (λ (xs : Tokens). Ok xs) (sym (append_assoc front ts more))
regroup front ts (Err e) = refl

pub lex_more : (front new : Tokens) (n : ℕ) (line : List ℕ) (lines more : List (List ℕ)) (total : Result Tokens LexFault) → lines ≡ line ∷ more → fault_of n line ≡ None → new ≡ front ++ numbered n (tokens_of line) → with_front front (lexed_from n lines) ≡ total → with_front new (lexed_from (n + 1) more) ≡ total
unfolding lexed_from
lex_more front new n line lines more total cut good is so_far =
    let r = lexed_from (n + 1) more in
    ap (λ (xs : Tokens). with_front xs r) is
    ∙ sym (regroup front (numbered n (tokens_of line)) r)
    ∙ sym (ap (λ (o : Option LexFault). with_front front (unless_faulty (λ e. e) o (r >>= λ us. Ok (numbered n (tokens_of line) ++ us)))) good)
    ∙ sym (ap (λ (ls : List (List ℕ)). with_front front (lexed_from n ls)) cut)
    ∙ so_far

stop_at : (front : Tokens) (n : ℕ) (f : LexFault) (line : List ℕ) (lines more : List (List ℕ)) → lines ≡ line ∷ more → fault_of n line ≡ Some f → with_front front (lexed_from n lines) ≡ Err f
unfolding lexed_from with_front
stop_at front n f line lines more cut bad =
    ap (λ (ls : List (List ℕ)). with_front front (lexed_from n ls)) cut
    ∙ ap (λ (o : Option LexFault). with_front front (unless_faulty (λ e. e) o (lexed_from (n + 1) more >>= λ us. Ok (numbered n (tokens_of line) ++ us)))) bad

fails : (text : List ℕ) (f : LexFault) → lexed_from 1 (lines_of text) ≡ Err f → lexed text ≡ Err f
unfolding lexed
fails text f h = ap (λ (r : Result Tokens LexFault). r >>= λ ts. Ok (length (lines_of text), ts)) h

unless_memory : (f : LexFault) (r : Result (ℕ × Tokens) LexFault) → r ≡ Err f → OnFalse (is_memory f) (r ≡ Err f)
unless_memory faults.Memory r h = tt
unless_memory (faults.LineTooLong n) r h = h
unless_memory (faults.BadByte n) r h = h

pub lex_stop : (text : List ℕ) (front : Tokens) (n : ℕ) (f : LexFault) (line : List ℕ) (lines more : List (List ℕ)) → lines ≡ line ∷ more → fault_of n line ≡ Some f → with_front front (lexed_from n lines) ≡ lexed_from 1 (lines_of text) → OnFalse (is_memory f) (lexed text ≡ Err f)
lex_stop text front n f line lines more cut bad so_far = unless_memory f (lexed text) (fails text f (sym so_far ∙ stop_at front n f line lines more cut bad))

pub lex_end : (text : List ℕ) (front : Tokens) (n count : ℕ) (lines : List (List ℕ)) → lines ≡ [] → count + length lines ≡ length (lines_of text) → with_front front (lexed_from n lines) ≡ lexed_from 1 (lines_of text) → lexed text ≡ Ok (count, front)
unfolding lexed lexed_from with_front
lex_end text front n count lines none counted so_far =
    let whole : lexed_from 1 (lines_of text) ≡ Ok front = sym so_far ∙ ap (λ (ls : List (List ℕ)). with_front front (lexed_from n ls)) none ∙ ap (λ (xs : Tokens). Ok xs) (append-nil front) in
    let many : length (lines_of text) ≡ count = omega (arith, ap length none) in
    ap (λ (r : Result Tokens LexFault). r >>= λ ts. Ok (length (lines_of text), ts)) whole ∙ ap (λ (k : ℕ). Ok (k, front)) many

pub lex_start : (r : Result Tokens LexFault) → with_front [] r ≡ r
unfolding with_front
lex_start (Ok ts) = refl
lex_start (Err e) = refl

-- ---- the order of tokens

pub in_order_more : (ts : List Token) (a b c : ℕ) (t : Token) → AreInOrder a b ts → b ≤ t.start → t.start < t.end → t.end ≤ c → AreInOrder a c (ts ++ t ∷ [])
in_order_more [] a b c t h low some high = (omega arith, omega arith, high)
in_order_more (u ∷ us) a b c t h low some high = (h.0, h.1, in_order_more us u.end b c t h.2 low some high)

pub in_order_wider : (ts : List Token) (a b c : ℕ) → AreInOrder a b ts → b ≤ c → AreInOrder a c ts
in_order_wider [] a b c h le = omega arith
in_order_wider (u ∷ us) a b c h le = (h.0, h.1, in_order_wider us u.end b c h.2 le)
