-- A walk whose result is where an entry is read: the reads of the one come before those of the other.
use Rattle.std.proofs.Common.{◌≡◌, ℕ, List, [], ◌∷◌, ◌++◌, map, Option, Some, None, refl, sym, ap, ◌∙◌, append_assoc}
use Rattle.dt_bits.specs.Memory.{Memory, word_of}
use Rattle.dt_manual.specs.Levels.{Stage, StageEnd, reached, stopped, Part, Entry, Walked, Fetched, got, lost, before, ending, after, fetched, word_got, at_result}
use Rattle.dt_manual.specs.Entry.{judged}
use Rattle.dt_walk.specs.declared.run.ReadMade.{ReadMade}
use Rattle.dt_stage.specs.Tells.{Told}
use Rattle.dt_stage.specs.Parts.{part_made, after_reads, goes}

pub map_append : {X Y : Type 0} (f : X → Y) (xs ys : List X) → map f (xs ++ ys) ≡ map f xs ++ map f ys
map_append f [] ys = refl
map_append f (x ∷ xs) ys = ap (λ l. f x ∷ l) (map_append f xs ys)

-- the reads before a walk
goes_before : (nodes : Part → ℕ → ℕ) (k : StageEnd → Told) (es : List Entry) (w : Walked) → goes nodes k (before es w) ≡ after_reads (map (part_made nodes) es) (goes nodes k w)
goes_before nodes k es w =
    ap (λ l. after_reads l (k w.end)) (map_append (part_made nodes) es w.entries)
    ∙ ap (λ l. record { reads = l; end = (k w.end).end }) (append_assoc (map (part_made nodes) es) (map (part_made nodes) w.entries) (k w.end).reads)

-- the fetch with the first walk's reads is the fetch without, after those reads
word_first : (nodes : Part → ℕ → ℕ) (k : StageEnd → Told) (p : Part) (s : Stage) (i x : ℕ) (next : ℕ → Walked) (es : List Entry) (a : ℕ) (o : Option ℕ)
    → after_reads (map (part_made nodes) es) (goes nodes k (fetched p s i x next (word_got [] a o))) ≡ goes nodes k (fetched p s i x next (word_got es a o))
word_first nodes k p s i x next es a None = sym (goes_before nodes k es _)
word_first nodes k p s i x next es a (Some e) =
    let r : Entry = record { part = p; level = i; address = a; word = e } in
    let w : Walked = after s i x e next (judged s.permits s.stores s.bits i e) in
    sym (goes_before nodes k es (before (r ∷ []) w))
    ∙ ap (λ l. goes nodes k (record { entries = l; end = w.end })) (sym (append_assoc es (r ∷ []) w.entries))

pub fetch_goes : (nodes : Part → ℕ → ℕ) (k : StageEnd → Told) (p : Part) (s : Stage) (m : Memory) (i x : ℕ) (next : ℕ → Walked) (w : Walked)
    → goes nodes (λ end. goes nodes k (fetched p s i x next (at_result m [] end))) w ≡ goes nodes k (fetched p s i x next (at_result m w.entries w.end))
fetch_goes nodes k p s m i x next w = by w.end
  where
    by : (end : StageEnd) → after_reads (map (part_made nodes) w.entries) (goes nodes k (fetched p s i x next (at_result m [] end))) ≡ goes nodes k (fetched p s i x next (at_result m w.entries end))
    by (reached a g) = word_first nodes k p s i x next w.entries a (word_of m a)
    by (stopped c) = sym (goes_before nodes k w.entries (ending (stopped c)))
