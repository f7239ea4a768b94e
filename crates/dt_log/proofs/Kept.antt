-- Items beside more values are the same items.
use Rattle.std.proofs.Common.{◌≡◌, ℕ, ◌≤◌, List, [], ◌∷◌, length, take, map, get_or, refl, sym, ap, ◌∙◌, Result, Ok, Err, arith}
use Rattle.std.specs.Prelude.{OnErr}
use Rattle.std.specs.List.{AllByRecursion}
use Rattle.std.proofs.lemmas.List.{get_or-take, length-take}
use Rattle.dt_log.specs.declared.line.Line.TheVariants as line
use Rattle.dt_log.specs.declared.lines.Packed.{Packed}
use Rattle.dt_log.specs.declared.lines.Packed.TheVariants.{Forward, Backward, Try, Split, Close, Loose, Unvisited}
use Rattle.dt_log.specs.Packing.{unpacked, IsPacked}

longer : (v w : List ℕ) → take (length v) w ≡ v → length v ≤ length w
longer v w e = omega (arith, ap length e, length-take (length v) w)

line_kept : (v w : List ℕ) (p : Packed) → take (length v) w ≡ v → IsPacked (length v) p → unpacked w p ≡ unpacked v p
line_kept v w (Try c k) e h = ap (line.Try c) (sym (get_or-take (length v) w k 0 h) ∙ ap (λ (xs : List ℕ). get_or xs k 0) e)
line_kept v w (Forward t) e h = refl
line_kept v w (Backward p k) e h = refl
line_kept v w (Split t i) e h = refl
line_kept v w (Close t) e h = refl
line_kept v w Loose e h = refl
line_kept v w Unvisited e h = refl

wider : (n m : ℕ) (p : Packed) → n ≤ m → IsPacked n p → IsPacked m p
wider n m (Try c k) le h = omega arith
wider n m (Forward t) le h = tt
wider n m (Backward p k) le h = tt
wider n m (Split t i) le h = tt
wider n m (Close t) le h = tt
wider n m Loose le h = tt
wider n m Unvisited le h = tt

all_wider : (n m : ℕ) (ps : List Packed) → n ≤ m → AllByRecursion (IsPacked n) ps → AllByRecursion (IsPacked m) ps
all_wider n m [] le h = tt
all_wider n m (p ∷ ps) le h = (wider n m p le h.0, all_wider n m ps le h.1)

pub packed_kept : (v w : List ℕ) (ps : List Packed) → take (length v) w ≡ v → AllByRecursion (IsPacked (length v)) ps → AllByRecursion (IsPacked (length w)) ps
packed_kept v w ps e h = all_wider (length v) (length w) ps (longer v w e) h

pub lines_kept : (v w : List ℕ) (ps : List Packed) → take (length v) w ≡ v → AllByRecursion (IsPacked (length v)) ps → map (unpacked w) ps ≡ map (unpacked v) ps
lines_kept v w [] e h = refl
lines_kept v w (p ∷ ps) e h = λ i. line_kept v w p e h.0 i ∷ lines_kept v w ps e h.1 i

pub on_any : {T E : Type 0} (P : Type 0) (r : Result T E) → P → OnErr r P
on_any P (Ok x) h = tt
on_any P (Err e) h = h
