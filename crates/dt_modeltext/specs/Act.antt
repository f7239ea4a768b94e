-- What a node does, as tokens spell it.
use Rattle.std.specs.Prelude.{ℕ, List, [], ◌∷◌, Some, None, codes, unwrap_or, if◌then◌else◌}
use Rattle.std.specs.Str.{bytes_eq}
use Rattle.dt_lex.specs.declared.name.Name.{Name}
use Rattle.dt_model.specs.ModelData.{ActData, bind, read, branch, fault, done}
use Rattle.dt_model.specs.Limits.{most_depth}
use Rattle.dt_modeltext.specs.Expr.{unknown, Positions, small_at, expr_at}
use Rattle.dt_lex.specs.Frame.{◌>>=◌, Front, name_at}

-- the position of the first node of this name
unfoldable pub target : Positions → Name → ℕ
target s n = unwrap_or (s.nodes n) unknown

-- the position of a variable
unfoldable pub variable : Positions → Name → ℕ
variable s n = unwrap_or (s.vars n) unknown

-- THEN ELSE
unfoldable pub targets_at : Positions → List (List ℕ) → Front (ℕ × ℕ)
targets_at s ts = do
  then_to ← name_at ts
  other ← name_at then_to.1
  Some ((target s then_to.0, target s other.0), other.1)

-- VAR EXPR NEXT
unfoldable pub let_at : Positions → List (List ℕ) → Front ActData
let_at s ts = do
  var ← name_at ts
  bound ← expr_at s most_depth var.1
  next ← name_at bound.1
  Some (bind (variable s var.0) bound.0 (target s next.0), next.1)

-- VAR EXPR GRANULE THEN ELSE
unfoldable pub read_at : Positions → List (List ℕ) → Front ActData
read_at s ts = do
  var ← name_at ts
  cell ← expr_at s most_depth var.1
  granule ← small_at cell.1
  to ← targets_at s granule.1
  Some (read (variable s var.0) cell.0 granule.0 to.0.0 to.0.1, to.1)

-- EXPR THEN ELSE
unfoldable pub branch_at : Positions → List (List ℕ) → Front ActData
branch_at s ts = do
  test ← expr_at s most_depth ts
  to ← targets_at s test.1
  Some (branch test.0 to.0.0 to.0.1, to.1)

-- CODE
unfoldable pub fault_at : List (List ℕ) → Front ActData
fault_at ts = do
  code ← small_at ts
  Some (fault code.0, code.1)

-- EXPR PAGE
unfoldable pub done_at : Positions → List (List ℕ) → Front ActData
done_at s ts = do
  pa ← expr_at s most_depth ts
  page ← small_at pa.1
  Some (done pa.0 page.0, page.1)

unfoldable pub act_at : Positions → List (List ℕ) → Front ActData
act_at s [] = None
act_at s (t ∷ ts) =
    if bytes_eq t (codes "let") then let_at s ts
    else (if bytes_eq t (codes "read") then read_at s ts
    else (if bytes_eq t (codes "if") then branch_at s ts
    else (if bytes_eq t (codes "fault") then fault_at ts
    else (if bytes_eq t (codes "done") then done_at s ts
    else None))))
