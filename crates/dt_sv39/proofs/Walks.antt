-- The shipped model's walk is the manual's, from what the stage's nodes owe.
use Rattle.std.proofs.Common.{◌≡◌, ℕ, ◌+◌, ◌*◌, ◌/◌, ◌%◌, ◌^◌, ◌<◌, Bool, true, false, not, ◌&&◌, ◌||◌, eqb, List, [], ◌∷◌, map, refl, sym, ap, ◌∙◌, subst, arith}
use Rattle.std.specs.Prelude.{if◌then◌else◌, ◌++◌}
use Rattle.std.proofs.lemmas.Bool.{true≢false, eqb-true}
use Rattle.dt_bits.specs.Memory.{Memory}
use Rattle.dt_model.specs.ModelData.{ModelData, var}
use Rattle.dt_walk.specs.declared.run.End.TheVariants.{Done, Fault}
use Rattle.dt_walk.specs.Meaning.{Vars, unbound}
use Rattle.dt_walk.specs.Walks.{walk_of}
use Rattle.dt_manual.specs.declared.access.Access.{Access}
use Rattle.dt_manual.specs.declared.access.Sv39Setting.{Sv39Setting}
use Rattle.dt_manual.specs.Entry.{field, V, R, W, X, U, A, D, N, PBMT, Verdict, fails, pointer, leaf, judged, led, page_of}
use Rattle.dt_manual.specs.Levels.{page_fault, access_fault, StageEnd, reached, stopped, Walked, Part, single, ending, direct, levels_by}
use Rattle.dt_manual.specs.Sv39.{is_store, index, canonical, sv39_walk, code_of}
use Rattle.dt_stage.specs.Parts.{goes}
use Rattle.dt_stage.specs.Stage.{StageStands, GoesByLevels}
use Rattle.dt_stage.specs.Tells.{Told, told, ends, tells}
use Rattle.dt_stage.specs.Trees.{bit, part, is, joined}
use Rattle.dt_stage.proofs.Goes.{goes_branch, goes_done}
use Rattle.dt_stage.proofs.OneLevel.{h_var}
use Rattle.dt_stage.proofs.Values.{h_part, s_bit, s_either, s_is, h_joined, h_value, h_as}
use Rattle.dt_sv39.specs.Law.{WalksAsManual}
use Rattle.dt_sv39.specs.Shipped as shipped
use Rattle.dt_sv39.specs.Shipped.{sv39_data}
use Rattle.dt_sv39.specs.Expected.{regs_of, inputs_of, node_named, read_name, done_name, fault_name, read_made, end_at, expected}
use Rattle.dt_sv39.proofs.Machine.{env, graph, forward, stand, stage_of, h_va, h_satp, tested_2, tested_1, tested_0, page_faults, access_faults}

-- ---- numbers

pub cell_sum : (x y : ℕ) → x * 2 ^ 12 + (y * 2 ^ 3 + 0) ≡ x * 4096 + y * 8
cell_sum x y = omega arith

-- the low bits alone are set
pub low_alone : (x : ℕ) → x < 2 ^ 64 → field 63 56 x ≡ 0 → field 55 0 x ≡ x
low_alone x w h = omega arith

pub from_zero : (x n : ℕ) → x / 2 ^ 0 % n ≡ x % n
from_zero x n = ap (λ y. y % n) (whole x)
  where
    whole : (x : ℕ) → x / 1 ≡ x
    whole x = omega arith

-- ---- at a level above 0 no leaf has N set

no_n : (a b c q n p m s : Bool) → (if a then fails else (if b then fails else (if c then (if q then fails else pointer) else (if n then fails else (if p then fails else (if m then fails else (if s then fails else leaf))))))) ≡ leaf → n ≡ false
no_n true b c q n p m s h = absurd (cc)
no_n false true c q n p m s h = absurd (cc)
no_n false false true true n p m s h = absurd (cc)
no_n false false true false n p m s h = absurd (cc)
no_n false false false q true p m s h = absurd (cc)
no_n false false false q false p m s h = refl

n_unset : (a b c q n p m s : Bool) (r : Bool) → (if a then fails else (if b then fails else (if c then (if q then fails else pointer) else (if n && (true || r) then fails else (if p then fails else (if m then fails else (if s then fails else leaf))))))) ≡ leaf → n ≡ false
n_unset a b c q true p m s r h = no_n a b c q true p m s h
n_unset a b c q false p m s r h = refl

pub leaf_2 : (may : ℕ → Bool) (st : Bool) (e : ℕ) → judged may st 9 2 e ≡ leaf → N e ≡ false
leaf_2 may st e h = n_unset (not (V e) || not (R e) && W e) (not (eqb (field 60 54 e) 0) || eqb (PBMT e) 3) (not (R e) && not (X e)) (U e || (A e || (D e || (N e || (not (eqb (PBMT e) 0) || false))))) (N e) (not (may e)) (not (eqb (e / 2 ^ 10 % 2 ^ 18) 0)) (not (A e) || st && not (D e)) (not (eqb (field 13 10 e) 8)) h

pub leaf_1 : (may : ℕ → Bool) (st : Bool) (e : ℕ) → judged may st 9 1 e ≡ leaf → N e ≡ false
leaf_1 may st e h = n_unset (not (V e) || not (R e) && W e) (not (eqb (field 60 54 e) 0) || eqb (PBMT e) 3) (not (R e) && not (X e)) (U e || (A e || (D e || (N e || (not (eqb (PBMT e) 0) || false))))) (N e) (not (may e)) (not (eqb (e / 2 ^ 10 % 2 ^ 9) 0)) (not (A e) || st && not (D e)) (not (eqb (field 13 10 e) 8)) h

-- ---- the results

abbrev end_told : Access → StageEnd → Told
end_told a end = ends (end_at sv39_data false a.kind end)

by_0 : (a : Access) (b : Bool) (x y : ℕ) → (if b then ends (Done 21 (x * 2 ^ 16 + field 15 0 a.va) 16) else ends (Done 22 (y * 2 ^ 12 + field 11 0 a.va) 12)) ≡ ends (Done (node_named sv39_data (done_name false (if b then 16 else 12))) (if b then x * 2 ^ 16 + a.va % 2 ^ 16 else y * 2 ^ 12 + a.va % 2 ^ 12) (if b then 16 else 12))
by_0 a true x y = ap (λ n. ends (Done 21 (x * 2 ^ 16 + n) 16)) (from_zero a.va (2 ^ 16))
by_0 a false x y = ap (λ n. ends (Done 22 (y * 2 ^ 12 + n) 12)) (from_zero a.va (2 ^ 12))

ending_0 : (s : Sv39Setting) (m : Memory) (a : Access) (e : ℕ) (w : Vars) → w 2 ≡ e → tells (graph s m a) 20 w ≡ end_told a (reached (led 9 0 e a.va) (page_of 9 0 e))
ending_0 s m a e w k =
    let pte = h_var (env s a) w 2 64 e refl k in
    goes_branch (graph s m a) (forward s m a) 20 (bit 63 (var 2)) 21 22 w (N e) refl (s_bit 63 pte).is
    ∙ ap (λ t. if N e then t else tells (graph s m a) 22 w) (goes_done (graph s m a) 21 (joined (part 53 14 (var 2)) (part 15 0 shipped.va)) 16 w 56 _ refl (h_joined (h_part 53 14 pte) (h_part 15 0 (h_va s a w))).is)
    ∙ ap (λ t. if N e then ends (Done 21 (field 53 14 e * 2 ^ 16 + field 15 0 a.va) 16) else t) (goes_done (graph s m a) 22 (joined (part 53 10 (var 2)) (part 11 0 shipped.va)) 12 w 56 _ refl (h_joined (h_part 53 10 pte) (h_part 11 0 (h_va s a w))).is)
    ∙ by_0 a (N e) (field 53 14 e) (field 53 10 e)

by_1 : (a : Access) (b : Bool) (x y : ℕ) → b ≡ false → ends (Done 19 (y * 2 ^ 21 + field 20 0 a.va) 21) ≡ ends (Done (node_named sv39_data (done_name false (if b then 16 else 21))) (if b then x * 2 ^ 16 + a.va % 2 ^ 16 else y * 2 ^ 21 + a.va % 2 ^ 21) (if b then 16 else 21))
by_1 a true x y h = absurd (true≢false h)
by_1 a false x y h = ap (λ n. ends (Done 19 (y * 2 ^ 21 + n) 21)) (from_zero a.va (2 ^ 21))

ending_1 : (s : Sv39Setting) (m : Memory) (a : Access) (e : ℕ) (w : Vars) → w 1 ≡ e → N e ≡ false → tells (graph s m a) 19 w ≡ end_told a (reached (led 9 1 e a.va) (page_of 9 1 e))
ending_1 s m a e w k n =
    let pte = h_var (env s a) w 1 64 e refl k in
    goes_done (graph s m a) 19 (joined (part 53 19 (var 1)) (part 20 0 shipped.va)) 21 w 56 _ refl (h_joined (h_part 53 19 pte) (h_part 20 0 (h_va s a w))).is
    ∙ by_1 a (N e) (field 53 14 e) (field 53 19 e) n

by_2 : (a : Access) (b : Bool) (x y : ℕ) → b ≡ false → ends (Done 18 (y * 2 ^ 30 + field 29 0 a.va) 30) ≡ ends (Done (node_named sv39_data (done_name false (if b then 16 else 30))) (if b then x * 2 ^ 16 + a.va % 2 ^ 16 else y * 2 ^ 30 + a.va % 2 ^ 30) (if b then 16 else 30))
by_2 a true x y h = absurd (true≢false h)
by_2 a false x y h = ap (λ n. ends (Done 18 (y * 2 ^ 30 + n) 30)) (from_zero a.va (2 ^ 30))

ending_2 : (s : Sv39Setting) (m : Memory) (a : Access) (e : ℕ) (w : Vars) → w 0 ≡ e → N e ≡ false → tells (graph s m a) 18 w ≡ end_told a (reached (led 9 2 e a.va) (page_of 9 2 e))
ending_2 s m a e w k n =
    let pte = h_var (env s a) w 0 64 e refl k in
    goes_done (graph s m a) 18 (joined (part 53 28 (var 0)) (part 29 0 shipped.va)) 30 w 56 _ refl (h_joined (h_part 53 28 pte) (h_part 29 0 (h_va s a w))).is
    ∙ by_2 a (N e) (field 53 14 e) (field 53 28 e) n

-- ---- the tables

abbrev read_node : Part → ℕ → ℕ
read_node p i = node_named sv39_data (read_name i)

abbrev root_of : Sv39Setting → ℕ
root_of s = field 43 0 s.satp * 4096

stands : (s : Sv39Setting) (m : Memory) (a : Access) → StageStands (graph s m a) shipped.stage (stage_of s a) single a.va (root_of s) (index a.va) (direct m) read_node (λ w. true) (end_told a)
stands s m a = record {
  stand = stand s m a;
  tested2 = tested_2 s a;
  tested1 = tested_1 s a;
  tested0 = tested_0 s a;
  node2 = refl;
  node1 = refl;
  node0 = refl;
  keep2 = λ w e h. h;
  keep1 = λ w e h. h;
  keep0 = λ w e h. h;
  fetch2 = λ w next h r. r w _ h (h_as (h_joined (h_part 43 0 (h_satp s a w)) (h_joined (h_part 38 30 (h_va s a w)) (h_value 3 0))) (cell_sum (field 43 0 s.satp) (field 38 30 a.va)));
  fetch1 = λ w e next h j r. r w _ h (h_as (h_joined (h_part 53 10 (h_var (env s a) w 0 64 e refl j)) (h_joined (h_part 29 21 (h_va s a w)) (h_value 3 0))) (cell_sum (field 53 10 e) (field 29 21 a.va)));
  fetch0 = λ w e next h j r. r w _ h (h_as (h_joined (h_part 53 10 (h_var (env s a) w 1 64 e refl j)) (h_joined (h_part 20 12 (h_va s a w)) (h_value 3 0))) (cell_sum (field 53 10 e) (field 20 12 a.va)));
  unread = λ w h. access_faults s m a w;
  fault = λ w h. page_faults s m a w;
  leaf2 = λ w e h j l. ending_2 s m a e w j (leaf_2 (stage_of s a).permits (is_store a.kind) e l);
  leaf1 = λ w e h j l. ending_1 s m a e w j (leaf_1 (stage_of s a).permits (is_store a.kind) e l);
  leaf0 = λ w e h j l. ending_0 s m a e w j;
}

pub nothing_more : {X : Type 0} (l : List X) → l ++ [] ≡ l
nothing_more [] = refl
nothing_more (x ∷ xs) = ap (λ l. x ∷ l) (nothing_more xs)

module _ (owed : GoesByLevels shipped.stage) (s : Sv39Setting) (m : Memory) (a : Access) where
  abbrev paged : Walked
  paged = levels_by single (stage_of s a) (direct m) a.va (index a.va) 3 (root_of s)

  no_more : (w : Walked) → goes read_node (end_told a) w ≡ expected sv39_data false a.kind w
  no_more w = ap (λ l. record { reads = l; end = end_at sv39_data false a.kind w.end }) (nothing_more (map (read_made sv39_data) w.entries))

  from_tables : (w : Vars) → tells (graph s m a) 4 w ≡ expected sv39_data false a.kind paged
  from_tables w =
      owed (graph s m a) (stage_of s a) single a.va (root_of s) (index a.va) (direct m) read_node (λ w. true) (end_told a) (forward s m a) (stands s m a) w refl
      ∙ no_more paged

  -- ---- Bare

  top : a.va < 2 ^ 64 → (b : Bool) → b ≡ eqb (field 63 56 a.va) 0 → (if b then ends (Done 2 (field 55 0 a.va) 12) else ends (Fault (node_named sv39_data (fault_name access_fault a.kind)) (code_of access_fault a.kind))) ≡ expected sv39_data true a.kind (if not b then ending (stopped access_fault) else ending (reached a.va 12))
  top wide true h = ap (λ n. ends (Done 2 n 12)) (low_alone a.va wide (eqb-true (field 63 56 a.va) 0 (sym h)))
  top wide false h = refl

  bare : a.va < 2 ^ 64 → tells (graph s m a) 1 unbound ≡ expected sv39_data true a.kind (if not (eqb (field 63 56 a.va) 0) then ending (stopped access_fault) else ending (reached a.va 12))
  bare wide =
      goes_branch (graph s m a) (forward s m a) 1 (is (part 63 56 shipped.va) 8 0) 2 28 unbound (eqb (field 63 56 a.va) 0) refl (s_is 8 0 (h_part 63 56 (h_va s a unbound))).is
      ∙ ap (λ t. if eqb (field 63 56 a.va) 0 then t else tells (graph s m a) 28 unbound) (goes_done (graph s m a) 2 (part 55 0 shipped.va) 12 unbound 56 (field 55 0 a.va) refl (h_part 55 0 (h_va s a unbound)).is)
      ∙ ap (λ t. if eqb (field 63 56 a.va) 0 then ends (Done 2 (field 55 0 a.va) 12) else t) (access_faults s m a unbound)
      ∙ top wide (eqb (field 63 56 a.va) 0) refl

  -- ---- the sign, and then the tables

  if_canonical : (b : Bool) (x : Told) (w : Walked) → x ≡ expected sv39_data false a.kind w → (if b then x else ends (Fault (node_named sv39_data (fault_name page_fault a.kind)) (code_of page_fault a.kind))) ≡ expected sv39_data false a.kind (if not b then ending (stopped page_fault) else w)
  if_canonical true x w h = h
  if_canonical false x w h = refl

  signed : tells (graph s m a) 3 unbound ≡ expected sv39_data false a.kind (if not (canonical a.va) then ending (stopped page_fault) else paged)
  signed =
      goes_branch (graph s m a) (forward s m a) 3 shipped.is_sign_extended 4 23 unbound (canonical a.va) refl (s_either (s_is 26 0 (h_part 63 38 (h_va s a unbound))) (s_is 26 67108863 (h_part 63 38 (h_va s a unbound)))).is
      ∙ ap (λ t. if canonical a.va then tells (graph s m a) 4 unbound else t) (page_faults s m a unbound)
      ∙ if_canonical (canonical a.va) (tells (graph s m a) 4 unbound) paged (from_tables unbound)

  -- ---- the whole walk

  by_mode : a.va < 2 ^ 64 → (b : Bool) → (if b then tells (graph s m a) 1 unbound else tells (graph s m a) 3 unbound) ≡ expected sv39_data b a.kind (if b then (if not (eqb (field 63 56 a.va) 0) then ending (stopped access_fault) else ending (reached a.va 12)) else (if not (canonical a.va) then ending (stopped page_fault) else paged))
  by_mode wide true = bare wide
  by_mode wide false = signed

  pub sv39_same : a.va < 2 ^ 64 → told (walk_of sv39_data (regs_of s) (inputs_of a) m) ≡ expected sv39_data (eqb s.satp 0) a.kind (sv39_walk s m a)
  sv39_same wide =
      goes_branch (graph s m a) (forward s m a) 0 shipped.is_bare 1 3 unbound (eqb s.satp 0) refl (s_is 64 0 (h_satp s a unbound)).is
      ∙ by_mode wide (eqb s.satp 0)

pub walks_as_manual : (d : ModelData) → d ≡ sv39_data → GoesByLevels shipped.stage → WalksAsManual d
walks_as_manual d e owed = subst WalksAsManual (sym e) (λ s m a wide. sv39_same owed s m a wide)
