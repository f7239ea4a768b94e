-- Values of expressions, part by part.
use Rattle.std.proofs.Common.{◌≡◌, ℕ, zero, suc, ◌+◌, ◌-◌, ◌*◌, ◌/◌, ◌%◌, ◌^◌, ◌<◌, Bool, true, false, not, ◌&&◌, ◌||◌, eqb, cond, refl, sym, ap, ◌∙◌, subst, arith}
use Rattle.std.specs.Prelude.{if◌then◌else◌}
use Rattle.dt_bits.specs.declared.value.Bv.{Bv}
use Rattle.dt_bits.specs.declared.op.Op.TheVariants.{Not, And, Or, Slice, Concat, Eq, Ite}
use Rattle.dt_bits.specs.Ops.{applied}
use Rattle.dt_model.specs.ModelData.{Tree, value}
use Rattle.dt_walk.specs.Meaning.{EnvData, Vars, value_at, unused}
use Rattle.dt_manual.specs.Entry.{field, flag}
use Rattle.dt_stage.specs.Trees.{part, bit, no, both, either, is, joined, choose}
use Rattle.dt_stage.specs.Tells.{bv, truth}
pub use Rattle.dt_stage.specs.Values.{Has, Says}

pub h_part : {s : EnvData} {vars : Vars} {t : Tree} {w n : ℕ} (hi lo : ℕ) → Has s vars t w n → Has s vars (part hi lo t) (hi - lo + 1) (field hi lo n)
h_part hi lo h = record { is = ap (λ (x : Bv). applied (Slice hi lo) x unused unused) h.is }

one_bit : (n : ℕ) → bv 1 (n % 2) ≡ truth (eqb (n % 2) 1)
one_bit n = by (n % 2) (omega arith)
  where
    by : (k : ℕ) → k < 2 → bv 1 k ≡ truth (eqb k 1)
    by zero h = refl
    by (suc zero) h = refl
    by (suc (suc k)) h = absurd (omega arith)

same_bit : (k n : ℕ) → bv (k - k + 1) (field k k n) ≡ truth (flag k n)
same_bit k n = let e : 1 ≡ k - k + 1 = omega arith in subst (λ j. bv j (n / 2 ^ k % 2 ^ j) ≡ truth (eqb (n / 2 ^ k % 2 ^ j) 1)) e (one_bit (n / 2 ^ k))

pub s_bit : {s : EnvData} {vars : Vars} {t : Tree} {w n : ℕ} (k : ℕ) → Has s vars t w n → Says s vars (bit k t) (flag k n)
s_bit {n = n} k h = record { is = (h_part k k h).is ∙ same_bit k n }

turned : (b : Bool) → applied Not (truth b) unused unused ≡ truth (not b)
turned true = refl
turned false = refl

pub s_no : {s : EnvData} {vars : Vars} {t : Tree} {b : Bool} → Says s vars t b → Says s vars (no t) (not b)
s_no {b = b} h = record { is = ap (λ (x : Bv). applied Not x unused unused) h.is ∙ turned b }

anded : (a b : Bool) → applied And (truth a) (truth b) unused ≡ truth (a && b)
anded true true = refl
anded true false = refl
anded false true = refl
anded false false = refl

ored : (a b : Bool) → applied Or (truth a) (truth b) unused ≡ truth (a || b)
ored true true = refl
ored true false = refl
ored false true = refl
ored false false = refl

pub s_both : {s : EnvData} {vars : Vars} {t u : Tree} {a b : Bool} → Says s vars t a → Says s vars u b → Says s vars (both t u) (a && b)
s_both {s = s} {vars = vars} {u = u} {a = a} {b = b} h k = record { is = ap (λ (x : Bv). applied And x (value_at s vars u) unused) h.is ∙ ap (λ (x : Bv). applied And (truth a) x unused) k.is ∙ anded a b }

pub s_either : {s : EnvData} {vars : Vars} {t u : Tree} {a b : Bool} → Says s vars t a → Says s vars u b → Says s vars (either t u) (a || b)
s_either {s = s} {vars = vars} {u = u} {a = a} {b = b} h k = record { is = ap (λ (x : Bv). applied Or x (value_at s vars u) unused) h.is ∙ ap (λ (x : Bv). applied Or (truth a) x unused) k.is ∙ ored a b }

pub s_is : {s : EnvData} {vars : Vars} {t : Tree} {w n : ℕ} (v k : ℕ) → Has s vars t w n → Says s vars (is t v k) (eqb n k)
s_is {s = s} {vars = vars} v k h = record { is = ap (λ (x : Bv). applied Eq x (bv v k) unused) h.is }

chosen : (p q r : Bool) → applied Ite (truth p) (truth q) (truth r) ≡ truth (if p then q else r)
chosen true q r = refl
chosen false q r = refl

pub s_choose : {s : EnvData} {vars : Vars} {t u v : Tree} {p q r : Bool} → Says s vars t p → Says s vars u q → Says s vars v r → Says s vars (choose t u v) (if p then q else r)
s_choose {s = s} {vars = vars} {u = u} {v = v} {p = p} {q = q} {r = r} h k l = record {
  is = ap (λ (x : Bv). applied Ite x (value_at s vars u) (value_at s vars v)) h.is ∙ ap (λ (x : Bv). applied Ite (truth p) x (value_at s vars v)) k.is ∙ ap (λ (x : Bv). applied Ite (truth p) (truth q) x) l.is ∙ chosen p q r;
}

pub h_joined : {s : EnvData} {vars : Vars} {t u : Tree} {v w m n : ℕ} → Has s vars t v m → Has s vars u w n → Has s vars (joined t u) (v + w) (m * 2 ^ w + n)
h_joined {s = s} {vars = vars} {u = u} {v = v} {m = m} h k = record { is = ap (λ (x : Bv). applied Concat x (value_at s vars u) unused) h.is ∙ ap (λ (x : Bv). applied Concat (bv v m) x unused) k.is }

pub h_value : {s : EnvData} {vars : Vars} (w n : ℕ) → Has s vars (value w n) w n
h_value w n = record { is = refl }

-- the same with another number, or another test
pub h_as : {s : EnvData} {vars : Vars} {t : Tree} {w m n : ℕ} → Has s vars t w m → m ≡ n → Has s vars t w n
h_as {s = s} {vars = vars} {t = t} {w = w} h e = subst (λ k. Has s vars t w k) e h

pub s_as : {s : EnvData} {vars : Vars} {t : Tree} {a b : Bool} → Says s vars t a → a ≡ b → Says s vars t b
s_as {s = s} {vars = vars} {t = t} h e = subst (λ k. Says s vars t k) e h
