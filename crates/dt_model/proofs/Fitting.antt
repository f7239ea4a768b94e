-- An expression in which nothing is at fault has a width.
use Rattle.std.proofs.Common.{◌≡◌, ℕ, zero, suc, ◌+◌, ◌<◌, ◌≤◌, true, false, not, ◌||◌, cond, eqb, ltb, leb, List, [], ◌∷◌, Option, Some, None, length, refl, sym, subst, arith}
use Rattle.std.specs.Prelude.{IsSome, is_some}
use Rattle.std.proofs.lemmas.Bool.{or_parts, false≢true, not-false, leb-false, ltb-false, lt-ltb, le-leb, and_from, lt-leb}
use Rattle.dt_bits.specs.Ops.{arity_of, fits_at, width_of}
use Rattle.dt_bits.specs.declared.op.Op.{Op}
use Rattle.dt_bits.specs.declared.op.Op.TheVariants.{Const, Not, And, Or, Xor, Add, Sub, Slice, Concat, SignExt, Shl, Shr, Eq, Ltu, Ite}
use Rattle.dt_model.specs.declared.model.Named.{Named}
use Rattle.dt_model.specs.ModelData.{Tree, value, reg, input, var, apply1, apply2, apply3}
use Rattle.dt_model.specs.Widths.{Scope, is_constant, width_at, fitted, tree_width, mismatch, out_of_range, has_unknown, has_mismatch, has_bad_range, HasArities}

-- what fits together is something
pub fitted_parts : (op : Op) (a b c : Option ℕ) → IsSome (fitted op a b c) → IsSome a × IsSome b × IsSome c
fitted_parts op (Some a) (Some b) (Some c) h = (refl, refl, refl)
fitted_parts op None b c h = absurd (false≢true h)
fitted_parts op (Some a) None c h = absurd (false≢true h)
fitted_parts op (Some a) (Some b) None h = absurd (false≢true h)

below_fits : (a b : ℕ) → ltb a (b + 1) ≡ false → ltb b a ≡ true
below_fits a b e = lt-ltb b a (let h : b + 1 ≤ a = ltb-false a (b + 1) e in omega arith)

not_above : (a b : ℕ) → ltb b a ≡ false → leb a b ≡ true
not_above a b e = le-leb a b (ltb-false b a e)

same : (a b : ℕ) → not (eqb a b) ≡ false → eqb a b ≡ true
same a b e = not-false (eqb a b) e

-- where no operand is at fault and nothing is out of range, the operator fits
pub op_fits : (op : Op) (a b c : ℕ) → mismatch op (Some a) (Some b) (Some c) ≡ false → out_of_range op (Some a) (Some b) ≡ false → fits_at op a b c ≡ true
op_fits (Const v) a b c m r = refl
op_fits Not a b c m r = refl
op_fits And a b c m r = same a b m
op_fits Or a b c m r = same a b m
op_fits Xor a b c m r = same a b m
op_fits Add a b c m r = same a b m
op_fits Sub a b c m r = same a b m
op_fits (Slice hi lo) a b c m r = let p = or_parts (ltb hi lo) _ r in and_from _ _ (not_above lo hi p.0) (below_fits a hi p.1)
op_fits Concat a b c m r = not_above (a + b) 128 r
op_fits (SignExt to) a b c m r = let p = or_parts (ltb 128 to) _ r in and_from _ _ (not_above a to p.1) (not_above to 128 p.0)
op_fits (Shl by) a b c m r = below_fits a by r
op_fits (Shr by) a b c m r = below_fits a by r
op_fits Eq a b c m r = same a b m
op_fits Ltu a b c m r = same a b m
op_fits Ite a b c m r = let p = or_parts (not (eqb a 1)) _ m in and_from _ _ (same a 1 p.0) (same b c p.1)

pub fitted_some : (op : Op) (a b c : Option ℕ) → IsSome a → IsSome b → IsSome c → mismatch op a b c ≡ false → out_of_range op a b ≡ false → IsSome (fitted op a b c)
fitted_some op (Some a) (Some b) (Some c) p q r m o = subst (λ t. is_some (cond t (Some (width_of op a b c)) None) ≡ true) (sym (op_fits op a b c m o)) refl
fitted_some op None b c p q r m o = absurd (false≢true p)
fitted_some op (Some a) None c p q r m o = absurd (false≢true q)
fitted_some op (Some a) (Some b) None p q r m o = absurd (false≢true r)

pub width_within : (ns : List Named) (i : ℕ) → leb (length ns) i ≡ false → IsSome (width_at ns i)
width_within [] i e = absurd (let h : i < 0 = leb-false 0 i e in omega arith)
width_within (n ∷ ns) zero e = refl
width_within (n ∷ ns) (suc i) e = width_within ns i (lt-leb (length ns) i (let h : suc i < suc (length ns) = leb-false _ _ e in omega arith))

-- an Ite is the only operator of three operands
range_of_three : (op : Op) (a b : Option ℕ) → arity_of op ≡ 3 → out_of_range op a b ≡ false
range_of_three (Const v) a b e = refl
range_of_three Not a b e = refl
range_of_three And a b e = refl
range_of_three Or a b e = refl
range_of_three Xor a b e = refl
range_of_three Add a b e = refl
range_of_three Sub a b e = refl
range_of_three (Slice hi lo) a b e = absurd (omega arith)
range_of_three Concat a b e = absurd (omega arith)
range_of_three (SignExt to) a b e = absurd (omega arith)
range_of_three (Shl by) a b e = absurd (omega arith)
range_of_three (Shr by) a b e = absurd (omega arith)
range_of_three Eq a b e = refl
range_of_three Ltu a b e = refl
range_of_three Ite a b e = refl

pub tree_fits : (s : Scope) (t : Tree) → HasArities t → has_unknown s t ≡ false → has_mismatch s t ≡ false → has_bad_range s t ≡ false → IsSome (tree_width s t)
tree_fits s (value w n) h u m r = subst (λ b. is_some (cond b (Some w) None) ≡ true) (sym (not-false (is_constant w n) r)) refl
tree_fits s (reg i) h u m r = width_within s.regs i u
tree_fits s (input i) h u m r = width_within s.inputs i u
tree_fits s (var i) h u m r = width_within s.vars i u
tree_fits s (apply1 op a) h u m r =
    let p = or_parts _ (has_mismatch s a) m in
    let q = or_parts _ (has_bad_range s a) r in
    fitted_some op (tree_width s a) (Some 1) (Some 1) (tree_fits s a h.1 u p.1 q.1) refl refl p.0 q.0
tree_fits s (apply2 op a b) h u m r =
    let v = or_parts (has_unknown s a) _ u in
    let p = or_parts _ (has_mismatch s a || has_mismatch s b) m in
    let q = or_parts _ (has_bad_range s a || has_bad_range s b) r in
    let p2 = or_parts (has_mismatch s a) _ p.1 in
    let q2 = or_parts (has_bad_range s a) _ q.1 in
    fitted_some op (tree_width s a) (tree_width s b) (Some 1) (tree_fits s a h.1 v.0 p2.0 q2.0) (tree_fits s b h.2 v.1 p2.1 q2.1) refl p.0 q.0
tree_fits s (apply3 op a b c) h u m r =
    let v = or_parts (has_unknown s a) _ u in
    let v2 = or_parts (has_unknown s b) _ v.1 in
    let p = or_parts _ (has_mismatch s a || (has_mismatch s b || has_mismatch s c)) m in
    let p2 = or_parts (has_mismatch s a) _ p.1 in
    let p3 = or_parts (has_mismatch s b) _ p2.1 in
    let q = or_parts (has_bad_range s a) _ r in
    let q2 = or_parts (has_bad_range s b) _ q.1 in
    fitted_some op (tree_width s a) (tree_width s b) (tree_width s c) (tree_fits s a h.1 v.0 p2.0 q.0) (tree_fits s b h.2 v2.0 p3.0 q2.0) (tree_fits s c h.3 v2.1 p3.1 q2.1) p.0 (range_of_three op (tree_width s a) (tree_width s b) h.0)
