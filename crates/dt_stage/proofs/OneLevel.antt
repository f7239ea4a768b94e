-- One level's nodes do what the rules of an entry say.
use Rattle.std.proofs.Common.{◌≡◌, ◌≢◌, ℕ, zero, suc, ◌+◌, ◌-◌, ◌*◌, ◌/◌, ◌%◌, ◌^◌, Bool, true, false, not, ◌&&◌, ◌||◌, eqb, cond, Option, Some, None, refl, sym, ap, ◌∙◌, subst, arith}
use Rattle.std.specs.Prelude.{if◌then◌else◌, slice_get, List}
use Rattle.std.proofs.lemmas.Bool.{ne_eqb, eq-eqb}
use Rattle.dt_bits.specs.Memory.{word_of}
use Rattle.dt_lex.specs.declared.name.Name.{Name}
use Rattle.dt_model.specs.ModelData.{Tree, ActData, var, branch, read}
use Rattle.dt_model.specs.Widths.{width_at}
use Rattle.dt_walk.specs.Meaning.{EnvData, Vars, bound, valued}
use Rattle.dt_manual.specs.Entry.{field, V, R, W, X, U, A, D, N, PBMT, Verdict, fails, pointer, leaf, judged}
use Rattle.dt_manual.specs.Levels.{Stage}
use Rattle.dt_stage.specs.Level.{Level, Placed, invalid, points, bad_pointer, stale, bad_upper_leaf, bad_last_leaf, read_act, invalid_act, upper_nodes, last_nodes}
use Rattle.dt_stage.specs.Stage.{StandFrom, Forward, Tested}
use Rattle.dt_stage.specs.Tells.{Graph, Told, with_read, tells, bv, after_read}
use Rattle.dt_stage.specs.declared.levels.LastNames.{LastNames}
use Rattle.dt_stage.specs.declared.levels.UpperNames.{UpperNames}
use Rattle.dt_stage.proofs.Goes.{goes_branch, goes_read}
use Rattle.dt_stage.proofs.Values.{Has, Says, h_part, s_bit, s_no, s_both, s_either, s_is, s_as}

-- ---- what the walk tells at a level

-- after an entry's verdict
abbrev pub verdict_told : Graph → Placed → Vars → Verdict → Told
verdict_told g p vars fails = tells g p.fault vars
verdict_told g p vars pointer = tells g p.next vars
verdict_told g p vars leaf = tells g p.level.leaf vars

-- after the read of a level's entry
abbrev pub level_told : Graph → Placed → (ℕ → Verdict) → Vars → ℕ → Option ℕ → Told
level_told g p judge vars cell None = tells g p.unread vars
level_told g p judge vars cell (Some e) = with_read (record { node = p.at; cell = cell; word = e }) (verdict_told g p (bound vars p.level.entry e) (judge e))

-- ---- the order of the tests

above : {T : Type 0} (by : Verdict → T) (a b c q n p m s : Bool) → (if a || b then by fails else (if c then (if q then by fails else by pointer) else (if n || (p || (m || s)) then by fails else by leaf))) ≡ by (if a then fails else (if b then fails else (if c then (if q then fails else pointer) else (if n then fails else (if p then fails else (if m then fails else (if s then fails else leaf)))))))
above by true b c q n p m s = refl
above by false true c q n p m s = refl
above by false false true true n p m s = refl
above by false false true false n p m s = refl
above by false false false q true p m s = refl
above by false false false q false true m s = refl
above by false false false q false false true s = refl
above by false false false q false false false true = refl
above by false false false q false false false false = refl

last : {T : Type 0} (by : Verdict → T) (a b c n p s : Bool) → (if a || b then by fails else (if c then by fails else (if n || (p || s) then by fails else by leaf))) ≡ by (if a then fails else (if b then fails else (if c then fails else (if n then fails else (if p then fails else (if s then fails else leaf))))))
last by true b c n p s = refl
last by false true c n p s = refl
last by false false true n p s = refl
last by false false false true p s = refl
last by false false false false true s = refl
last by false false false false false true = refl
last by false false false false false false = refl

chain_above : {T : Type 0} (go : ℕ → T) (by : Verdict → T) (x y z u : ℕ) (a b c q n p m s : Bool)
    → go x ≡ (if a || b then by fails else go y) → go y ≡ (if c then go z else go u) → go z ≡ (if q then by fails else by pointer) → go u ≡ (if n || (p || (m || s)) then by fails else by leaf)
    → go x ≡ by (if a then fails else (if b then fails else (if c then (if q then fails else pointer) else (if n then fails else (if p then fails else (if m then fails else (if s then fails else leaf)))))))
chain_above go by x y z u a b c q n p m s h k v w =
    h ∙ ap (λ r. if a || b then by fails else r) (k ∙ ap (λ r. if c then r else go u) v ∙ ap (λ r. if c then (if q then by fails else by pointer) else r) w) ∙ above by a b c q n p m s

chain_last : {T : Type 0} (go : ℕ → T) (by : Verdict → T) (x y u : ℕ) (a b c n p s : Bool)
    → go x ≡ (if a || b then by fails else go y) → go y ≡ (if c then by fails else go u) → go u ≡ (if n || (p || s) then by fails else by leaf)
    → go x ≡ by (if a then fails else (if b then fails else (if c then fails else (if n then fails else (if p then fails else (if s then fails else leaf))))))
chain_last go by x y u a b c n p s h k w = h ∙ ap (λ r. if a || b then by fails else r) (k ∙ ap (λ r. if c then by fails else r) w) ∙ last by a b c n p s

-- ---- the tests of an entry

pub s_invalid : {s : EnvData} {vars : Vars} {t : Tree} {e : ℕ} → Has s vars t 64 e → Says s vars (invalid t) ((not (V e) || not (R e) && W e) || (not (eqb (field 60 54 e) 0) || eqb (PBMT e) 3))
s_invalid h = s_either (s_either (s_no (s_bit 0 h)) (s_both (s_no (s_bit 1 h)) (s_bit 2 h))) (s_either (s_no (s_is 7 0 (h_part 60 54 h))) (s_is 2 3 (h_part 62 61 h)))

pub s_points : {s : EnvData} {vars : Vars} {t : Tree} {e : ℕ} → Has s vars t 64 e → Says s vars (points t) (not (R e) && not (X e))
s_points h = s_both (s_no (s_bit 1 h)) (s_no (s_bit 3 h))

pub s_bad_pointer : {s : EnvData} {vars : Vars} {t : Tree} {e : ℕ} → Has s vars t 64 e → Says s vars (bad_pointer t) (U e || (A e || (D e || (N e || not (eqb (PBMT e) 0)))))
s_bad_pointer h = s_either (s_bit 4 h) (s_either (s_bit 6 h) (s_either (s_bit 7 h) (s_either (s_bit 63 h) (s_no (s_is 2 0 (h_part 62 61 h))))))

s_stale : {s : EnvData} {vars : Vars} {t st : Tree} {e : ℕ} {b : Bool} → Says s vars st b → Has s vars t 64 e → Says s vars (stale st t) (not (A e) || b && not (D e))
s_stale k h = s_either (s_no (s_bit 6 h)) (s_both k (s_no (s_bit 7 h)))

-- ---- variables

pub bound_here : (vars : Vars) (x e : ℕ) → bound vars x e x ≡ e
bound_here vars x e = ap (λ b. cond b e (vars x)) (eq-eqb x x refl)

pub bound_there : (vars : Vars) (x y e : ℕ) → y ≢ x → bound vars x e y ≡ vars y
bound_there vars x y e h = ap (λ b. cond b e (vars y)) (ne_eqb y x h)

pub h_var : (s : EnvData) (vars : Vars) (x w e : ℕ) → width_at s.scope.vars x ≡ Some w → vars x ≡ e → Has s vars (var x) w e
h_var s vars x w e k h = record { is = ap (λ o. valued o (vars x)) k ∙ ap (bv w) h }

-- ---- a level above 0

if_else : {T : Type 0} (b : Bool) (x y z : T) → y ≡ z → (if b then x else y) ≡ (if b then x else z)
if_else b x y z h = ap (λ q. if b then x else q) h

if_both : {T : Type 0} (b : Bool) (w x y z : T) → w ≡ x → y ≡ z → (if b then w else y) ≡ (if b then x else z)
if_both b w x y z h k = ap (λ q. if b then q else y) h ∙ ap (λ q. if b then x else q) k

or_false : (b : Bool) → b ≡ (b || false)
or_false true = refl
or_false false = refl

and_true : (b : Bool) → b ≡ (b && true)
and_true true = refl
and_true false = refl

-- at a level above 0 every N is wrong, and the level is no reason against a pointer
n_above : (e i : ℕ) → N e ≡ (N e && (not (eqb (suc i) 0) || not (eqb (field 13 10 e) 8)))
n_above e i = and_true (N e) ∙ ap (λ b. N e && (not b || not (eqb (field 13 10 e) 8))) (sym (ne_eqb (suc i) 0 (λ h. omega arith)))

pointer_above : (e i : ℕ) → (U e || (A e || (D e || (N e || not (eqb (PBMT e) 0))))) ≡ (U e || (A e || (D e || (N e || (not (eqb (PBMT e) 0) || eqb (suc i) 0)))))
pointer_above e i = ap (λ b. U e || (A e || (D e || (N e || b)))) (or_false (not (eqb (PBMT e) 0)) ∙ ap (λ b. not (eqb (PBMT e) 0) || b) (sym (ne_eqb (suc i) 0 (λ h. omega arith))))

low_parts : (e i : ℕ) → field (18 + 9 * i) 10 e ≡ e / 2 ^ 10 % 2 ^ (9 * suc i)
low_parts e i = let h : 18 + 9 * i - 10 + 1 ≡ 9 * suc i = omega arith in ap (λ k. e / 2 ^ 10 % 2 ^ k) h

entry_above : (g : Graph) → Forward g → (st : Stage) (p : Placed) → Tested g.env p.level st → (names : UpperNames) (i : ℕ) → StandFrom g.steps p.at (upper_nodes names i p) → (vars : Vars) (e : ℕ) → Has g.env vars (var p.level.entry) 64 e → tells g (p.at + 1) vars ≡ verdict_told g p vars (judged st.permits st.stores 9 (suc i) e)
entry_above g f st p k names i at vars e h =
    let permitted = s_no (k.may vars e h) in
    let aligned = s_as (s_no (s_is (9 + 9 * i) 0 (h_part (18 + 9 * i) 10 h))) (ap (λ n. not (eqb n 0)) (low_parts e i)) in
    let fresh = s_stale (k.store vars) h in
    let a = not (V e) || not (R e) && W e in
    let b = not (eqb (field 60 54 e) 0) || eqb (PBMT e) 3 in
    let c = not (R e) && not (X e) in
    let q = U e || (A e || (D e || (N e || (not (eqb (PBMT e) 0) || eqb (suc i) 0)))) in
    let n = N e && (not (eqb (suc i) 0) || not (eqb (field 13 10 e) 8)) in
    let m = not (eqb (e / 2 ^ 10 % 2 ^ (9 * suc i)) 0) in
    let s = not (A e) || st.stores && not (D e) in
    let go = λ (j : ℕ). tells g j vars in
    chain_above go (verdict_told g p vars) (p.at + 1) (p.at + 2) (p.at + 3) (p.at + 4) a b c q n (not (st.permits e)) m s
    (goes_branch g f (p.at + 1) (invalid (var p.level.entry)) p.fault (p.at + 2) vars (a || b) (at 1 _ refl) (s_invalid h).is)
    (goes_branch g f (p.at + 2) (points (var p.level.entry)) (p.at + 3) (p.at + 4) vars c (at 2 _ refl) (s_points h).is)
    (goes_branch g f (p.at + 3) (bad_pointer (var p.level.entry)) p.fault p.next vars q (at 3 _ refl) (s_as (s_bad_pointer h) (pointer_above e i)).is)
    (goes_branch g f (p.at + 4) (bad_upper_leaf p.level.permits p.level.stores i (var p.level.entry)) p.fault p.level.leaf vars (n || (not (st.permits e) || (m || s))) (at 4 _ refl) (s_either (s_as (s_bit 63 h) (n_above e i)) (s_either permitted (s_either aligned fresh))).is)

-- ---- level 0

-- at level 0 a pointer is wrong, and no part of the PPN is below
always : (a b c d p : Bool) → (a || (b || (c || (d || (p || true))))) ≡ true
always true b c d p = refl
always false true c d p = refl
always false false true d p = refl
always false false false true p = refl
always false false false false true = refl
always false false false false false = refl

if_same : {T : Type 0} (b : Bool) (x y : T) → b ≡ true → x ≡ (if b then x else y)
if_same b x y h = ap (λ q. if q then x else y) (sym h)

judged_last : (permits : ℕ → Bool) (stores : Bool) (e : ℕ) → (if not (V e) || not (R e) && W e then fails else (if not (eqb (field 60 54 e) 0) || eqb (PBMT e) 3 then fails else (if not (R e) && not (X e) then fails else (if N e && not (eqb (field 13 10 e) 8) then fails else (if not (permits e) then fails else (if not (A e) || stores && not (D e) then fails else leaf)))))) ≡ judged permits stores 9 0 e
judged_last permits stores e = if_else (not (V e) || not (R e) && W e) _ _ _ (if_else (not (eqb (field 60 54 e) 0) || eqb (PBMT e) 3) _ _ _ (if_both (not (R e) && not (X e)) _ _ _ _
    (if_same (U e || (A e || (D e || (N e || (not (eqb (PBMT e) 0) || true))))) fails pointer (always (U e) (A e) (D e) (N e) (not (eqb (PBMT e) 0))))
    (if_else (N e && not (eqb (field 13 10 e) 8)) _ _ _ (if_else (not (permits e)) _ _ _ (ap (λ n. if not (eqb n 0) then fails else (if not (A e) || stores && not (D e) then fails else leaf)) (low (e / 2 ^ 10)))))))
  where
    low : (n : ℕ) → 0 ≡ n % 1
    low n = omega arith

entry_last : (g : Graph) → Forward g → (st : Stage) (p : Placed) → Tested g.env p.level st → (names : LastNames) → StandFrom g.steps p.at (last_nodes names p) → (vars : Vars) (e : ℕ) → Has g.env vars (var p.level.entry) 64 e → tells g (p.at + 1) vars ≡ verdict_told g p vars (judged st.permits st.stores 9 0 e)
entry_last g f st p k names at vars e h =
    let permitted = s_no (k.may vars e h) in
    let fresh = s_stale (k.store vars) h in
    let a = not (V e) || not (R e) && W e in
    let b = not (eqb (field 60 54 e) 0) || eqb (PBMT e) 3 in
    let c = not (R e) && not (X e) in
    let n = N e && not (eqb (field 13 10 e) 8) in
    let s = not (A e) || st.stores && not (D e) in
    let go = λ (j : ℕ). tells g j vars in
    chain_last go (verdict_told g p vars) (p.at + 1) (p.at + 2) (p.at + 3) a b c n (not (st.permits e)) s
    (goes_branch g f (p.at + 1) (invalid (var p.level.entry)) p.fault (p.at + 2) vars (a || b) (at 1 _ refl) (s_invalid h).is)
    (goes_branch g f (p.at + 2) (points (var p.level.entry)) p.fault (p.at + 3) vars c (at 2 _ refl) (s_points h).is)
    (goes_branch g f (p.at + 3) (bad_last_leaf p.level.permits p.level.stores (var p.level.entry)) p.fault p.level.leaf vars (n || (not (st.permits e) || s)) (at 3 _ refl) (s_either (s_both (s_bit 63 h) (s_no (s_is 4 8 (h_part 13 10 h)))) (s_either permitted fresh)).is)
    ∙ ap (verdict_told g p vars) (judged_last st.permits st.stores e)

-- ---- with the read

pub first_at : (g : List ActData) (at : ℕ) (o : Option ActData) → slice_get g (at + 0) ≡ o → slice_get g at ≡ o
first_at g at o h = let e : at + 0 ≡ at = omega arith in subst (λ j. slice_get g j ≡ o) e h

pub above_tells : (g : Graph) → Forward g → (st : Stage) (p : Placed) → Tested g.env p.level st → (names : UpperNames) (i : ℕ) → StandFrom g.steps p.at (upper_nodes names i p) → (vars : Vars) (w c : ℕ) → Has g.env vars p.level.cell w c → tells g p.at vars ≡ level_told g p (judged st.permits st.stores 9 (suc i)) vars c (word_of g.memory c)
above_tells g f st p k names i at vars w c h =
    goes_read g f p.at p.level.entry p.level.cell p.level.granule (p.at + 1) p.unread vars w c (first_at g.steps p.at (Some (read_act p)) (at 0 _ refl)) h.is
    ∙ by_word (word_of g.memory c)
  where
    by_word : (q : Option ℕ) → after_read g p.at c p.level.entry (p.at + 1) p.unread vars q ≡ level_told g p (judged st.permits st.stores 9 (suc i)) vars c q
    by_word None = refl
    by_word (Some e) = ap (with_read (record { node = p.at; cell = c; word = e })) (entry_above g f st p k names i at (bound vars p.level.entry e) e (h_var g.env (bound vars p.level.entry e) p.level.entry 64 e k.wide (bound_here vars p.level.entry e)))

pub last_tells : (g : Graph) → Forward g → (st : Stage) (p : Placed) → Tested g.env p.level st → (names : LastNames) → StandFrom g.steps p.at (last_nodes names p) → (vars : Vars) (w c : ℕ) → Has g.env vars p.level.cell w c → tells g p.at vars ≡ level_told g p (judged st.permits st.stores 9 0) vars c (word_of g.memory c)
last_tells g f st p k names at vars w c h =
    goes_read g f p.at p.level.entry p.level.cell p.level.granule (p.at + 1) p.unread vars w c (first_at g.steps p.at (Some (read_act p)) (at 0 _ refl)) h.is
    ∙ by_word (word_of g.memory c)
  where
    by_word : (q : Option ℕ) → after_read g p.at c p.level.entry (p.at + 1) p.unread vars q ≡ level_told g p (judged st.permits st.stores 9 0) vars c q
    by_word None = refl
    by_word (Some e) = ap (with_read (record { node = p.at; cell = c; word = e })) (entry_last g f st p k names at (bound vars p.level.entry e) e (h_var g.env (bound vars p.level.entry e) p.level.entry 64 e k.wide (bound_here vars p.level.entry e)))
