-- One level of a walk whose entries are fetched in any way.
use Rattle.std.proofs.Common.{◌≡◌, ℕ, zero, suc, ◌+◌, ◌*◌, Bool, true, false, not, List, [], Option, Some, None, refl, sym, ap, ◌∙◌, subst, arith}
use Rattle.std.specs.Prelude.{if◌then◌else◌, ◌==◌}
use Rattle.dt_bits.specs.Memory.{Memory, word_of}
use Rattle.dt_manual.specs.Entry.{field, Verdict, fails, pointer, leaf, judged, table_at}
use Rattle.dt_manual.specs.Levels.{Part, of_entry, of_final, Entry, Stage, StageEnd, reached, stopped, Walked, Fetched, got, lost, after, fetched, word_got, direct, at_result, levels_by}
use Rattle.dt_manual.specs.StageEnds.{Outcome, word, no_word, outcome}
use Rattle.dt_manual.specs.TwoStages.{g_stage, g_index, g_walk, vs_fetch}
use Rattle.dt_manual.specs.declared.access.Sv39x4Setting.{Sv39x4Setting}
use Rattle.dt_manual.specs.declared.two_stages.Use.{Use}
use Rattle.dt_manual.specs.declared.two_stages.Use.TheVariants.{Implicit}

abbrev after_outcome : Stage → ℕ → ℕ → (ℕ → Walked) → Outcome → StageEnd
after_outcome s i x next (word e) = (after s i x e next (judged s.permits s.stores s.bits i e)).end
after_outcome s i x next (no_word e) = e

by_outcome : (p : Part) (s : Stage) (i x : ℕ) (next : ℕ → Walked) (f : Fetched) → (fetched p s i x next f).end ≡ after_outcome s i x next (outcome f)
by_outcome p s i x next (got es a e) = refl
by_outcome p s i x next (lost es e) = refl

step : (p : Part) (s : Stage) (f : ℕ → ℕ → Fetched) (x : ℕ) (idx : ℕ → ℕ) (n i a table : ℕ) (o : Outcome) → n ≡ i + 1 → a ≡ table + idx i * s.bytes → outcome (f i a) ≡ o → (levels_by p s f x idx n table).end ≡ after_outcome s i x (levels_by p s f x idx i) o
step p s f x idx n i a table o h g k =
    let e : suc i ≡ n = omega arith in
    subst (λ j. (levels_by p s f x idx j table).end ≡ after_outcome s i x (levels_by p s f x idx i) o) e
    (by_outcome p s i x (levels_by p s f x idx i) (f i (table + idx i * s.bytes)) ∙ ap (λ b. after_outcome s i x (levels_by p s f x idx i) (outcome (f i b))) (sym g) ∙ ap (after_outcome s i x (levels_by p s f x idx i)) k)

-- the entry can't be read
pub level_lost : (p : Part) (s : Stage) (f : ℕ → ℕ → Fetched) (x : ℕ) (idx : ℕ → ℕ) (n i a table : ℕ) (e : StageEnd) → n ≡ i + 1 → a ≡ table + idx i * s.bytes → outcome (f i a) ≡ no_word e → (levels_by p s f x idx n table).end ≡ e
level_lost p s f x idx n i a table e h g k = step p s f x idx n i a table (no_word e) h g k

-- the entry is read and judged
pub level_judged : (p : Part) (s : Stage) (f : ℕ → ℕ → Fetched) (x : ℕ) (idx : ℕ → ℕ) (n i a table e : ℕ) (v : Verdict) → n ≡ i + 1 → a ≡ table + idx i * s.bytes → outcome (f i a) ≡ word e → judged s.permits s.stores s.bits i e ≡ v → (levels_by p s f x idx n table).end ≡ (after s i x e (levels_by p s f x idx i) v).end
level_judged p s f x idx n i a table e v h g k j = step p s f x idx n i a table (word e) h g k ∙ ap (λ u. (after s i x e (levels_by p s f x idx i) u).end) j

-- ---- a walk's end is the same for whatever it is made

same_after : (s : Stage) (i x e : ℕ) (f g : ℕ → Walked) (v : Verdict) → ((t : ℕ) → (f t).end ≡ (g t).end) → (after s i x e f v).end ≡ (after s i x e g v).end
same_after s i x e f g fails h = refl
same_after s i x e f g pointer h = h (table_at e)
same_after s i x e f g leaf h = refl

same_level : (p q : Part) (s : Stage) (i x a : ℕ) (f g : ℕ → Walked) (o : Option ℕ) → ((t : ℕ) → (f t).end ≡ (g t).end) → (fetched p s i x f (word_got [] a o)).end ≡ (fetched q s i x g (word_got [] a o)).end
same_level p q s i x a f g None h = refl
same_level p q s i x a f g (Some e) h = same_after s i x e f g (judged s.permits s.stores s.bits i e) h

same_end : (p q : Part) (s : Stage) (m : Memory) (x : ℕ) (idx : ℕ → ℕ) (n table : ℕ) → (levels_by p s (direct m) x idx n table).end ≡ (levels_by q s (direct m) x idx n table).end
same_end p q s m x idx zero table = refl
same_end p q s m x idx (suc i) table = same_level p q s i x (table + idx i * s.bytes) (levels_by p s (direct m) x idx i) (levels_by q s (direct m) x idx i) (word_of m (table + idx i * s.bytes)) (same_end p q s m x idx i)

same_if : (b : Bool) (x y u v : Walked) → x.end ≡ u.end → y.end ≡ v.end → (if b then x else y).end ≡ (if b then u else v).end
same_if true x y u v h k = h
same_if false x y u v h k = k

same_guest : (s : Sv39x4Setting) (m : Memory) (p q : Part) (u : Use) (x : ℕ) → (g_walk s m p u x).end ≡ (g_walk s m q u x).end
same_guest s m p q u x = same_if (s.hgatp == 0) _ _ _ _ refl (same_if (not (field 63 41 x == 0)) _ _ _ _ refl (same_end p q (g_stage s u) m x (g_index x) 3 (field 43 0 s.hgatp * 4096)))

same_outcome : (m : Memory) (es : List Entry) (e : StageEnd) → outcome (at_result m [] e) ≡ outcome (at_result m es e)
same_outcome m es (stopped c) = refl
same_outcome m es (reached a g) = by (word_of m a)
  where
    by : (o : Option ℕ) → outcome (word_got [] a o) ≡ outcome (word_got es a o)
    by None = refl
    by (Some w) = refl

pub fetch_outcome : (s : Sv39x4Setting) (m : Memory) (i a : ℕ) → outcome (at_result m [] (g_walk s m of_final Implicit a).end) ≡ outcome (vs_fetch s m i a)
fetch_outcome s m i a =
    ap (λ e. outcome (at_result m [] e)) (same_guest s m of_final (of_entry i) Implicit a)
    ∙ same_outcome m (g_walk s m (of_entry i) Implicit a).entries (g_walk s m (of_entry i) Implicit a).end
