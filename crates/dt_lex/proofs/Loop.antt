-- How a reader's loop reads a text.
--
-- A reader doesn't keep the entries of the lines before. It keeps what they declare, a D, and `add`
-- says what one more entry adds to it. The law that it owes is AddsUp: what es and e declare is
-- what es declare with e added. Its loop cuts lines with `next_line`, calls on each a function whose
-- result is `line_added`, up to want of memory, and counts lines from 1. The loop's invariant is
-- `ReadsOn g add text n d rest`: the lines before the n-th have declared d, and rest is the text
-- from the n-th line on. `reads_start` begins it, `reads_more` goes on after a line, `reads_stop`
-- shows that the fault of a line is that of the whole text, and `reads_end` shows that with no line
-- left the text's value is what `finish` makes of d.
use Rattle.std.proofs.Common.{◌≡◌, ◌≤◌, Bool, true, false, ℕ, ◌+◌, List, [], ◌∷◌, ◌++◌, length, subst, arith, Option, Some, None, Result, Ok, Err, refl, sym, ap, ◌∙◌}
use Rattle.std.specs.Bool.{OnFalse}
use Rattle.std.specs.Option.{option_to_list}
use Rattle.std.specs.Prelude.{map}
use Rattle.std.proofs.lemmas.List.{append-nil, map_push}
use Rattle.dt_lemmas.proofs.Booleans.{on_false}
use Rattle.dt_lemmas.proofs.Options.{ok_is}
use Rattle.dt_lex.specs.Text.{lines_of, tokens_of, fault_of}
use Rattle.dt_lex.specs.declared.fault.LexFault.{LexFault}
use Rattle.dt_lex.specs.Reading.{last_of, Grammar, Gives, grow, ◌>>=◌, with_place, unless_faulty, row_entry, line_entry, line_added, row_added, AddsUp, entries_from, reading_of}
use Rattle.dt_lex.proofs.Cuts.{length-lines_of-le}

-- ---- what one more entry at the end declares

pub last_append : {X : Type 0} (d : X) (xs ys : List X) → last_of d (xs ++ ys) ≡ last_of (last_of d xs) ys
last_append d [] ys = refl
last_append d (x ∷ xs) ys = last_append x xs ys

pub last_push : {X : Type 0} (d : X) (xs : List X) (x : X) → last_of d (xs ++ x ∷ []) ≡ x
last_push d xs x = last_append d xs (x ∷ [])

-- what the last entry gives
pub last_map_push : {E X : Type 0} (f : E → X) (d : X) (es : List E) (e : E) → last_of d (map f (es ++ e ∷ [])) ≡ f e
last_map_push f d es e = ap (last_of d) (map_push f es e) ∙ last_push d (map f es) (f e)

-- ---- the loop

unfoldable pub run_from : {E D C F : Type 0} → Grammar E D C F → (D → E → D) → ℕ → D → List (List ℕ) → Result D F
run_from g add n d [] = Ok d
run_from g add n d (line ∷ lines) = line_entry g n d line >>= λ e. run_from g add (n + 1) (grow add d e) lines

pub bind_map : {A B C F : Type 0} (r : Result A F) (f : A → Result B F) (h : B → C) → ((r >>= f) >>= λ x. Ok (h x)) ≡ (r >>= λ x. f x >>= λ y. Ok (h y))
bind_map (Ok x) f h = refl
bind_map (Err e) f h = refl

pub bind_same : {A B F : Type 0} (r : Result A F) (f g : A → Result B F) → ((x : A) → f x ≡ g x) → (r >>= f) ≡ (r >>= g)
bind_same (Ok x) f g h = h x
bind_same (Err e) f g h = refl

pub grow_is : {E D : Type 0} (declared : List E → D) (add : D → E → D) → ((es : List E) (e : E) → declared (es ++ e ∷ []) ≡ add (declared es) e) → (before : List E) (o : Option E) → grow add (declared before) o ≡ declared (before ++ option_to_list o)
grow_is declared add law before None = ap declared (sym (append-nil before))
grow_is declared add law before (Some e) = sym (law before e)

pub run_is : {E D C F : Type 0} (g : Grammar E D C F) (add : D → E → D) → ((es : List E) (e : E) → g.declared (es ++ e ∷ []) ≡ add (g.declared es) e) → (n : ℕ) (before : List E) (lines : List (List ℕ)) → run_from g add n (g.declared before) lines ≡ (entries_from g n before lines >>= λ es. Ok (g.declared es))
unfolding run_from entries_from
run_is g add law n before [] = refl
run_is g add law n before (line ∷ lines) =
    bind_same (line_entry g n (g.declared before) line) _ _ (λ o. ap (λ d. run_from g add (n + 1) d lines) (grow_is g.declared add law before o) ∙ run_is g add law (n + 1) (before ++ option_to_list o) lines)
    ∙ sym (bind_map (line_entry g n (g.declared before) line) (λ o. entries_from g (n + 1) (before ++ option_to_list o) lines) g.declared)

-- a line, the lines after it, and the end

on_ok : {E D F : Type 0} (r : Result (Option E) F) (add : D → E → D) (d e : D) (k : D → Result D F) → (r >>= λ o. Ok (grow add d o)) ≡ Ok e → (r >>= λ o. k (grow add d o)) ≡ k e
on_ok (Ok o) add d e k h = ap k (ok_is (grow add d o) e h)
on_ok (Err f) add d e k h = absurd cc

on_err : {E D F : Type 0} (r : Result (Option E) F) (add : D → E → D) (d : D) (f : F) (k : D → Result D F) → (r >>= λ o. Ok (grow add d o)) ≡ Err f → (r >>= λ o. k (grow add d o)) ≡ Err f
on_err (Ok o) add d f k h = absurd cc
on_err (Err e) add d f k h = cc

pub run_more : {E D C F : Type 0} (g : Grammar E D C F) (add : D → E → D) (n : ℕ) (d e : D) (line : List ℕ) (lines more : List (List ℕ)) → lines ≡ line ∷ more → line_added g add n d line ≡ Ok e → run_from g add n d lines ≡ run_from g add (n + 1) e more
unfolding run_from
run_more g add n d e line lines more is h =
    ap (run_from g add n d) is ∙ on_ok (line_entry g n d line) add d e (λ x. run_from g add (n + 1) x more) h

pub run_stop : {E D C F : Type 0} (g : Grammar E D C F) (add : D → E → D) (n : ℕ) (d : D) (f : F) (line : List ℕ) (lines more : List (List ℕ)) → lines ≡ line ∷ more → line_added g add n d line ≡ Err f → run_from g add n d lines ≡ Err f
unfolding run_from
run_stop g add n d f line lines more is h =
    ap (run_from g add n d) is ∙ on_err (line_entry g n d line) add d f (λ x. run_from g add (n + 1) x more) h

pub run_end : {E D C F : Type 0} (g : Grammar E D C F) (add : D → E → D) (n : ℕ) (d : D) (lines : List (List ℕ)) → lines ≡ [] → run_from g add n d lines ≡ Ok d
unfolding run_from
run_end g add n d lines is = ap (run_from g add n d) is

-- the whole text, whose last step is finish

stopped : {E D C F V : Type 0} (g : Grammar E D C F) (add : D → E → D) (finish : D → Result V F) (n : ℕ) (d : D) (f : F) (line : List ℕ) (lines more : List (List ℕ)) (total : Result D F) → lines ≡ line ∷ more → run_from g add n d lines ≡ total → line_added g add n d line ≡ Err f → (total >>= finish) ≡ Err f
stopped {D = D} {F = F} g add finish n d f line lines more total cut so_far h =
    ap (λ (r : Result D F). r >>= finish) (sym so_far ∙ run_stop g add n d f line lines more cut h)

pub run_stops : {E D C F V : Type 0} (memory : Bool) (g : Grammar E D C F) (add : D → E → D) (finish : D → Result V F) (n : ℕ) (d : D) (f : F) (line : List ℕ) (lines more : List (List ℕ)) (total : Result D F) → lines ≡ line ∷ more → run_from g add n d lines ≡ total → OnFalse memory (line_added g add n d line ≡ Err f) → OnFalse memory ((total >>= finish) ≡ Err f)
run_stops true g add finish n d f line lines more total cut so_far h = tt
run_stops false g add finish n d f line lines more total cut so_far h = stopped g add finish n d f line lines more total cut so_far h

-- ---- the invariant of a reader's loop

-- the lines before the n-th have declared d, and rest is the text from the n-th line on
pub record ReadsOn {E D C F : Type 0} (g : Grammar E D C F) (add : D → E → D) (text : List ℕ) (n : ℕ) (d : D) (rest : List ℕ) : Type 0 where
  pub counted : n + length (lines_of rest) ≡ length (lines_of text) + 1
  pub so_far : run_from g add n d (lines_of rest) ≡ run_from g add 1 (g.declared []) (lines_of text)

then_map : {A B C F : Type 0} (r : Result A F) (h : A → B) (f : B → Result C F) → ((r >>= λ x. Ok (h x)) >>= f) ≡ (r >>= λ x. f (h x))
then_map (Ok x) h f = refl
then_map (Err e) h f = refl

-- the whole text, by a run over its lines
pub reading_run : {E D C V F : Type 0} (g : Grammar E D C F) (add : D → E → D) (finish : ℕ → D → Result V F) (text : List ℕ) → AddsUp g add → reading_of g finish text ≡ (run_from g add 1 (g.declared []) (lines_of text) >>= finish (length (lines_of text) + 1))
unfolding reading_of
reading_run {D = D} {F = F} g add finish text law =
    sym (ap (λ (r : Result D F). r >>= finish (length (lines_of text) + 1)) (run_is g add law 1 [] (lines_of text)) ∙ then_map (entries_from g 1 [] (lines_of text)) g.declared (finish (length (lines_of text) + 1)))

pub reads_start : {E D C F : Type 0} (g : Grammar E D C F) (add : D → E → D) (text : List ℕ) (d : D) → d ≡ g.declared [] → ReadsOn g add text 1 d text
reads_start g add text d is = record { counted = omega arith; so_far = ap (λ d. run_from g add 1 d (lines_of text)) is }

pub reads_more : {E D C F : Type 0} (g : Grammar E D C F) (add : D → E → D) (text : List ℕ) (n : ℕ) (d e : D) (line rest after : List ℕ) → lines_of rest ≡ line ∷ lines_of after → line_added g add n d line ≡ Ok e → ReadsOn g add text n d rest → ReadsOn g add text (n + 1) e after
reads_more g add text n d e line rest after cut h on = record {
  counted = omega (arith, ap length cut, on.counted);
  so_far = sym (run_more g add n d e line (lines_of rest) (lines_of after) cut h) ∙ on.so_far;
}

-- a line that is left has a number that fits
pub reads_count : {E D C F : Type 0} (g : Grammar E D C F) (add : D → E → D) (text : List ℕ) (n : ℕ) (d : D) (line rest after : List ℕ) → lines_of rest ≡ line ∷ lines_of after → ReadsOn g add text n d rest → n ≤ length text
reads_count g add text n d line rest after cut on = omega (arith, ap length cut, on.counted, length-lines_of-le text)

pub reads_stop : {E D C V F : Type 0} (memory : Bool) (g : Grammar E D C F) (add : D → E → D) (finish : ℕ → D → Result V F) (text : List ℕ) (n : ℕ) (d : D) (f : F) (line rest after : List ℕ) → AddsUp g add → lines_of rest ≡ line ∷ lines_of after → ReadsOn g add text n d rest → OnFalse memory (line_added g add n d line ≡ Err f) → OnFalse memory (reading_of g finish text ≡ Err f)
reads_stop {V = V} {F = F} memory g add finish text n d f line rest after law cut on h =
    subst (λ (r : Result V F). OnFalse memory (r ≡ Err f)) (sym (reading_run g add finish text law)) (run_stops memory g add (finish (length (lines_of text) + 1)) n d f line (lines_of rest) (lines_of after) (run_from g add 1 (g.declared []) (lines_of text)) cut on.so_far h)

pub reads_end : {E D C V F : Type 0} (g : Grammar E D C F) (add : D → E → D) (finish : ℕ → D → Result V F) (text : List ℕ) (n : ℕ) (d : D) (rest : List ℕ) → AddsUp g add → lines_of rest ≡ [] → ReadsOn g add text n d rest → reading_of g finish text ≡ finish n d
reads_end {D = D} {F = F} g add finish text n d rest law none on =
    let at : length (lines_of text) + 1 ≡ n = omega (arith, ap length none, on.counted) in
    let done : run_from g add 1 (g.declared []) (lines_of text) ≡ Ok d = sym on.so_far ∙ run_end g add n d (lines_of rest) none in
    reading_run g add finish text law ∙ ap (λ (r : Result D F). r >>= finish (length (lines_of text) + 1)) done ∙ ap (λ (k : ℕ). finish k d) at

-- an answer that is what reading gives, without want of memory
pub gives_exact : {X F : Type 0} (memory : F → Bool) (r read : Result X F) → read ≡ r → Gives memory (λ x. x) r read
gives_exact memory (Ok x) read h = h
gives_exact memory (Err e) read h = on_false (memory e) h

-- what another reading gives, which is the same
pub gives_along : {X Y F : Type 0} (memory : F → Bool) (view : X → Y) (r : Result X F) (read other : Result Y F) → read ≡ other → Gives memory view r other → Gives memory view r read
gives_along {Y = Y} {F = F} memory view r read other same h = let P : Result Y F → Type 0 = λ x. Gives memory view r x in subst P (sym same) h

-- ---- one line, by its bytes and its tokens

row_grown : {E D F : Type 0} (add : D → E → D) (d : D) (r : Result E F) → ((r >>= λ e. let f : Option E → Result (Option E) F = λ o. Ok o in f (Some e)) >>= λ o. let f : D → Result D F = λ x. Ok x in f (grow add d o)) ≡ (r >>= λ e. let f : D → Result D F = λ x. Ok x in f (add d e))
row_grown add d (Ok e) = refl
row_grown add d (Err f) = refl

-- its bytes are at fault
pub line_lexical : {E D C F : Type 0} (g : Grammar E D C F) (add : D → E → D) (n : ℕ) (d : D) (line : List ℕ) (f : LexFault) → Some f ≡ fault_of n line → line_added g add n d line ≡ Err (g.lexical f)
unfolding line_entry
line_lexical g add n d line f bad = ap (λ (o : Option LexFault). unless_faulty g.lexical o (row_entry g n d (tokens_of line)) >>= λ o. Ok (grow add d o)) (sym bad)

-- it has no token
pub line_empty : {E D C F : Type 0} (g : Grammar E D C F) (add : D → E → D) (n : ℕ) (d : D) (line : List ℕ) → None ≡ fault_of n line → tokens_of line ≡ [] → line_added g add n d line ≡ Ok d
unfolding line_entry
line_empty g add n d line good none =
    ap (λ (o : Option LexFault). unless_faulty g.lexical o (row_entry g n d (tokens_of line)) >>= λ o. Ok (grow add d o)) (sym good)
    ∙ ap (λ (ts : List (List ℕ)). row_entry g n d ts >>= λ o. Ok (grow add d o)) none

-- it has these tokens
pub line_row : {E D C F : Type 0} (g : Grammar E D C F) (add : D → E → D) (n : ℕ) (d : D) (line t : List ℕ) (ts : List (List ℕ)) → None ≡ fault_of n line → tokens_of line ≡ t ∷ ts → line_added g add n d line ≡ row_added g add n d t ts
unfolding line_entry
line_row g add n d line t ts good cut =
    ap (λ (o : Option LexFault). unless_faulty g.lexical o (row_entry g n d (tokens_of line)) >>= λ o. Ok (grow add d o)) (sym good)
    ∙ ap (λ (us : List (List ℕ)). row_entry g n d us >>= λ o. Ok (grow add d o)) cut
    ∙ row_grown add d (with_place (g.at n) (g.entry n d t ts))
