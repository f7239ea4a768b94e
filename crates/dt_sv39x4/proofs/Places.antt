-- The positions of nodes, and the nodes of these names.
use Rattle.std.proofs.Common.{◌≡◌, ℕ, ◌+◌, Bool, true, false, List, [], ◌∷◌, ◌++◌, map, refl, ap, ◌∙◌}
use Rattle.std.specs.Prelude.{◌==◌, if◌then◌else◌, codes}
use Rattle.dt_manual.specs.declared.access.Kind.{Kind}
use Rattle.dt_manual.specs.declared.access.Kind.TheVariants.{Fetch, Load, Store}
use Rattle.dt_manual.specs.Levels.{Part, single, vs, of_entry, of_final, Entry, Cause, page_fault, guest_fault, access_fault, StageEnd, reached, stopped, Walked}
use Rattle.dt_manual.specs.Sv39.{code_of}
use Rattle.dt_walk.specs.declared.run.End.{End}
use Rattle.dt_walk.specs.declared.run.End.TheVariants.{Done, Fault}
use Rattle.dt_stage.specs.Parts.{part_made}
use Rattle.dt_stage.specs.Tells.{Told}
use Rattle.dt_sv39.specs.Expected.{node_named, done_name}
use Rattle.dt_sv39x4.specs.Expected.{read_name, fault_name, read_made, end_at, expected}
use Rattle.dt_sv39x4.specs.Shipped.{sv39x4_data}

-- ---- by positions

abbrev pub down : ℕ → ℕ → ℕ
down at i = if i == 2 then at else (if i == 1 then at + 5 else at + 10)

abbrev pub read_node : Part → ℕ → ℕ
read_node single i = if i == 2 then 151 else (if i == 1 then 151 else 151)
read_node vs i = if i == 2 then 27 else (if i == 1 then 56 else 85)
read_node (of_entry n) i = if n == 2 then down 8 i else (if n == 1 then down 37 i else down 66 i)
read_node of_final i = down 103 i

abbrev pub done_node : Bool → ℕ → ℕ
done_node bare page = if bare then 131 else (if page == 30 then 132 else (if page == 21 then 133 else (if page == 16 then 134 else 135)))

abbrev pub fault_node : Cause → Kind → ℕ
fault_node page_fault Fetch = 137
fault_node page_fault Load = 139
fault_node page_fault Store = 140
fault_node access_fault Fetch = 142
fault_node access_fault Load = 144
fault_node access_fault Store = 145
fault_node guest_fault Fetch = 147
fault_node guest_fault Load = 149
fault_node guest_fault Store = 150

abbrev pub ends_at : Bool → Kind → StageEnd → End
ends_at bare k (reached pa page) = Done (done_node bare page) pa page
ends_at bare k (stopped c) = Fault (fault_node c k) (code_of c k)

abbrev pub placed : Bool → Kind → Walked → Told
placed bare k w = record { reads = map (part_made read_node) w.entries; end = ends_at bare k w.end }

-- ---- the same by names

abbrev named : List ℕ → ℕ
named n = node_named sv39x4_data n

either_way : (f : List ℕ → ℕ) (b : Bool) (x y : ℕ) (m n : List ℕ) → x ≡ f m → y ≡ f n → (if b then x else y) ≡ f (if b then m else n)
either_way f true x y m n h k = h
either_way f false x y m n h k = k

-- the three levels of a walk
by_level : (l : List ℕ) (i x y z : ℕ) → x ≡ named (l ++ codes "2") → y ≡ named (l ++ codes "1") → z ≡ named (l ++ codes "0")
    → (if i == 2 then x else (if i == 1 then y else z)) ≡ named (l ++ (if i == 2 then codes "2" else (if i == 1 then codes "1" else codes "0")))
by_level l i x y z h j k = either_way (λ n. named (l ++ n)) (i == 2) x _ (codes "2") _ h (either_way (λ n. named (l ++ n)) (i == 1) y z (codes "1") (codes "0") j k)

a_reads : (i : ℕ) → down 8 i ≡ named (codes "a" ++ (if i == 2 then codes "2" else (if i == 1 then codes "1" else codes "0")))
a_reads i = by_level (codes "a") i 8 13 18 refl refl refl

b_reads : (i : ℕ) → down 37 i ≡ named (codes "b" ++ (if i == 2 then codes "2" else (if i == 1 then codes "1" else codes "0")))
b_reads i = by_level (codes "b") i 37 42 47 refl refl refl

c_reads : (i : ℕ) → down 66 i ≡ named (codes "c" ++ (if i == 2 then codes "2" else (if i == 1 then codes "1" else codes "0")))
c_reads i = by_level (codes "c") i 66 71 76 refl refl refl

reads_at : (p : Part) (i : ℕ) → read_node p i ≡ named (read_name p i)
reads_at single i = by_level [] i 151 151 151 refl refl refl
reads_at vs i = by_level (codes "v") i 27 56 85 refl refl refl
reads_at (of_entry n) i =
    let digit = if i == 2 then codes "2" else (if i == 1 then codes "1" else codes "0") in
    either_way (λ l. named (l ++ digit)) (n == 2) (down 8 i) _ (codes "a") _ (a_reads i) (either_way (λ l. named (l ++ digit)) (n == 1) (down 37 i) (down 66 i) (codes "b") (codes "c") (b_reads i) (c_reads i))
reads_at of_final i = by_level (codes "g") i 103 108 113 refl refl refl

dones_at : (bare : Bool) (page : ℕ) → done_node bare page ≡ named (done_name bare page)
dones_at true page = refl
dones_at false page = either_way named (page == 30) 132 _ (codes "d30") _ refl (either_way named (page == 21) 133 _ (codes "d21") _ refl (either_way named (page == 16) 134 135 (codes "d16") (codes "d12") refl refl))

faults_at : (c : Cause) (k : Kind) → fault_node c k ≡ named (fault_name c k)
faults_at page_fault Fetch = refl
faults_at page_fault Load = refl
faults_at page_fault Store = refl
faults_at access_fault Fetch = refl
faults_at access_fault Load = refl
faults_at access_fault Store = refl
faults_at guest_fault Fetch = refl
faults_at guest_fault Load = refl
faults_at guest_fault Store = refl

same_end : (bare : Bool) (k : Kind) (e : StageEnd) → ends_at bare k e ≡ end_at sv39x4_data bare k e
same_end bare k (reached pa page) = ap (λ n. Done n pa page) (dones_at bare page)
same_end bare k (stopped c) = ap (λ n. Fault n (code_of c k)) (faults_at c k)

same_reads : (es : List Entry) → map (part_made read_node) es ≡ map (read_made sv39x4_data) es
same_reads [] = refl
same_reads (e ∷ es) =
    ap (λ n. record { node = n; cell = e.address; word = e.word } ∷ map (part_made read_node) es) (reads_at e.part e.level)
    ∙ ap (λ l. read_made sv39x4_data e ∷ l) (same_reads es)

pub by_names : (bare : Bool) (k : Kind) (w : Walked) → placed bare k w ≡ expected sv39x4_data bare k w
by_names bare k w =
    ap (λ l. record { reads = l; end = ends_at bare k w.end }) (same_reads w.entries)
    ∙ ap (λ e. record { reads = map (read_made sv39x4_data) w.entries; end = e }) (same_end bare k w.end)
