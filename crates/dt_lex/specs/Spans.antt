-- The tokens of a text with their lines, or the first line whose bytes are at fault.
use Rattle.std.specs.Prelude.{ℕ, Bool, true, false, ◌&&◌, ◌==◌, ◌+◌, ◌<◌, ◌≤◌, List, [], ◌∷◌, ◌++◌, length, map, slice_range, Result, Ok, if◌then◌else◌}
use Rattle.dt_lex.specs.declared.fault.LexFault.{LexFault}
use Rattle.dt_lex.specs.declared.fault.LexFault.TheVariants as faults
use Rattle.dt_lex.specs.declared.spans.Token.{Token}
use Rattle.dt_lex.specs.declared.spans.Lexed.{Lexed}
use Rattle.dt_lex.specs.Text.{lines_of, is_blank, is_word, begins_word, tokens_of, fault_of}
use Rattle.dt_lex.specs.Reading.{◌>>=◌, unless_faulty}

abbrev pub numbered : ℕ → List (List ℕ) → List (ℕ × List ℕ)
numbered n ts = map (λ t. (n, t)) ts

-- the tokens of lines, the first of which is the n-th
unfoldable pub lexed_from : ℕ → List (List ℕ) → Result (List (ℕ × List ℕ)) LexFault
lexed_from n [] = Ok []
lexed_from n (line ∷ lines) = unless_faulty (λ f. f) (fault_of n line) (lexed_from (n + 1) lines >>= λ more. Ok (numbered n (tokens_of line) ++ more))

-- how many lines, and the tokens
unfoldable pub lexed : List ℕ → Result (ℕ × List (ℕ × List ℕ)) LexFault
lexed text = lexed_from 1 (lines_of text) >>= λ ts. Ok (length (lines_of text), ts)

-- a token is a slice of the text
abbrev pub token_in : List ℕ → Token → ℕ × List ℕ
token_in text t = (t.line, slice_range text t.start t.end)

abbrev pub tokens_in : List ℕ → List Token → List (ℕ × List ℕ)
tokens_in text ts = map (token_in text) ts

abbrev pub lexed_in : List ℕ → Lexed → ℕ × List (ℕ × List ℕ)
lexed_in text l = (l.lines, tokens_in text l.tokens.items)

-- ---- where the tokens stand

-- the first of the spans begins here
abbrev pub begin_at : ℕ → List (ℕ × ℕ) → List (ℕ × ℕ)
begin_at start [] = []
begin_at start (span ∷ spans) = (start, span.1) ∷ spans

-- where each token of a line begins and ends, as `tokens_of` cuts it; the line's first byte stands at `start`
unfoldable pub spans_of : ℕ → List ℕ → List (ℕ × ℕ)
spans_of start [] = []
spans_of start (b ∷ bs) =
    if b == 35 then []
    else (if is_blank b then spans_of (start + 1) bs
    else (if is_word b && begins_word bs then begin_at start (spans_of (start + 1) bs)
    else (start, start + 1) ∷ spans_of (start + 1) bs))

-- the tokens of the n-th line, by their spans
abbrev pub on_line : ℕ → List (ℕ × ℕ) → List Token
on_line n spans = map (λ span. record { line = n; start = span.0; end = span.1 }) spans

-- the tokens of lines, the first of which is the n-th and begins at `start`; behind each stands a line feed
unfoldable pub tokens_from : ℕ → ℕ → List (List ℕ) → List Token
tokens_from start n [] = []
tokens_from start n (line ∷ lines) = on_line n (spans_of start line) ++ tokens_from (start + length line + 1) (n + 1) lines

-- every token of a text, with its line and where it stands
abbrev pub all_tokens : List ℕ → List Token
all_tokens text = tokens_from 0 1 (lines_of text)

-- the tokens stand one behind the other, from `from` on and up to `to`
abbrev pub AreInOrder : ℕ → ℕ → List Token → Type 0
AreInOrder from to [] = from ≤ to
AreInOrder from to (t ∷ ts) = (from ≤ t.start) × (t.start < t.end) × AreInOrder t.end to ts

abbrev pub is_memory : LexFault → Bool
is_memory faults.Memory = true
is_memory _ = false
