-- One level of a walk.
use Rattle.std.proofs.Common.{◌≡◌, ℕ, suc, ◌+◌, ◌*◌, [], Some, None, refl, sym, ap, ◌∙◌, subst, arith}
use Rattle.dt_bits.specs.Memory.{Memory, word_of}
use Rattle.dt_manual.specs.declared.access.Kind.{Kind}
use Rattle.dt_manual.specs.Entry.{Verdict, judged}
use Rattle.dt_manual.specs.Levels.{Stage, single, access_fault, stopped, after, fetched, word_got, direct, levels_by}
use Rattle.dt_manual.specs.Sv39.{end_of}

step : (k : Kind) (s : Stage) (m : Memory) (x : ℕ) (idx : ℕ → ℕ) (n i : ℕ) (table : ℕ) → n ≡ i + 1 → (levels_by single s (direct m) x idx n table).end ≡ (fetched single s i x (levels_by single s (direct m) x idx i) (word_got [] (table + idx i * s.bytes) (word_of m (table + idx i * s.bytes)))).end
step k s m x idx n i table h = let e : suc i ≡ n = omega arith in subst (λ j. (levels_by single s (direct m) x idx j table).end ≡ (fetched single s i x (levels_by single s (direct m) x idx i) (word_got [] (table + idx i * s.bytes) (word_of m (table + idx i * s.bytes)))).end) e refl

-- the entry can't be read
pub levels_none : (k : Kind) (s : Stage) (m : Memory) (x : ℕ) (idx : ℕ → ℕ) (n i a table : ℕ) → n ≡ i + 1 → a ≡ table + idx i * s.bytes → word_of m a ≡ None → end_of k (levels_by single s (direct m) x idx n table).end ≡ end_of k (stopped access_fault)
levels_none k s m x idx n i a table h e w =
    ap (end_of k) (step k s m x idx n i table h ∙ ap (λ q. (fetched single s i x (levels_by single s (direct m) x idx i) (word_got [] (table + idx i * s.bytes) q)).end) (sym (ap (word_of m) e) ∙ w))

-- the entry is read and judged
pub levels_some : (k : Kind) (s : Stage) (m : Memory) (x : ℕ) (idx : ℕ → ℕ) (n i a table e : ℕ) → n ≡ i + 1 → a ≡ table + idx i * s.bytes → word_of m a ≡ Some e → end_of k (levels_by single s (direct m) x idx n table).end ≡ end_of k (after s i x e (levels_by single s (direct m) x idx i) (judged s.permits s.stores s.bits i e)).end
levels_some k s m x idx n i a table e h f w =
    ap (end_of k) (step k s m x idx n i table h ∙ ap (λ q. (fetched single s i x (levels_by single s (direct m) x idx i) (word_got [] (table + idx i * s.bytes) q)).end) (sym (ap (word_of m) f) ∙ w))

pub levels_verdict : (k : Kind) (s : Stage) (m : Memory) (x : ℕ) (idx : ℕ → ℕ) (n i a table e : ℕ) (v : Verdict) → n ≡ i + 1 → a ≡ table + idx i * s.bytes → word_of m a ≡ Some e → judged s.permits s.stores s.bits i e ≡ v → end_of k (levels_by single s (direct m) x idx n table).end ≡ end_of k (after s i x e (levels_by single s (direct m) x idx i) v).end
levels_verdict k s m x idx n i a table e v h f w j = levels_some k s m x idx n i a table e h f w ∙ ap (λ u. end_of k (after s i x e (levels_by single s (direct m) x idx i) u).end) j
