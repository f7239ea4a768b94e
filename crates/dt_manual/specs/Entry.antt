-- An entry of a page table, and the rules by which it is judged. Sections are those of the RISC-V Privileged Architecture 20211203; "step" is a step of its section 4.3.2.
use Rattle.std.specs.Prelude.{ℕ, ◌+◌, ◌-◌, ◌*◌, ◌/◌, ◌%◌, ◌^◌, Bool, not, ◌&&◌, ◌||◌, ◌==◌, if◌then◌else◌}

-- bits hi to lo of a number
abbrev pub field : ℕ → ℕ → ℕ → ℕ
field hi lo e = e / 2 ^ lo % 2 ^ (hi - lo + 1)

abbrev pub flag : ℕ → ℕ → Bool
flag k e = field k k e == 1

-- ---- the fields of an entry, by the manual's letters (4.4.1, and chapters 5 and 6 for N and PBMT)

-- valid
abbrev pub V : ℕ → Bool
V e = flag 0 e

-- readable, writable, executable
abbrev pub R : ℕ → Bool
R e = flag 1 e

abbrev pub W : ℕ → Bool
W e = flag 2 e

abbrev pub X : ℕ → Bool
X e = flag 3 e

-- for U-mode
abbrev pub U : ℕ → Bool
U e = flag 4 e

-- accessed, dirty
abbrev pub A : ℕ → Bool
A e = flag 6 e

abbrev pub D : ℕ → Bool
D e = flag 7 e

-- the physical page number, and that of a page of 2^16 bytes, which has four bits less
abbrev pub PPN : ℕ → ℕ
PPN e = field 53 10 e

-- the memory type of the page
abbrev pub PBMT : ℕ → ℕ
PBMT e = field 62 61 e

-- the entry is one of sixteen that map a page of 2^16 bytes
abbrev pub N : ℕ → Bool
N e = flag 63 e

-- ---- the rules of an entry e at level i, where a level's index has so many bits

-- step 3: not valid, or writable and not readable
abbrev pub is_invalid : ℕ → Bool
is_invalid e = not (V e) || not (R e) && W e

-- step 3: bits or encodings that are reserved for every entry
abbrev pub is_reserved : ℕ → Bool
is_reserved e = not (field 60 54 e == 0) || PBMT e == 3

-- step 4: a pointer to the next level's table
abbrev pub is_pointer : ℕ → Bool
is_pointer e = not (R e) && not (X e)

-- step 4: a pointer with a bit that is reserved in pointers, or at level 0
abbrev pub is_bad_pointer : ℕ → ℕ → Bool
is_bad_pointer i e = U e || (A e || (D e || (N e || (not (PBMT e == 0) || i == 0))))

-- chapter 5: N at another level than 0, or for another size than 2^16 bytes
abbrev pub is_bad_napot : ℕ → ℕ → Bool
is_bad_napot i e = N e && (not (i == 0) || not (field 13 10 e == 8))

-- step 6: a superpage whose page number has bits below its level
abbrev pub is_misaligned : ℕ → ℕ → ℕ → Bool
is_misaligned bits i e = not (e / 2 ^ 10 % 2 ^ (bits * i) == 0)

-- step 7: not accessed before, or a store to a page that isn't dirty
abbrev pub is_stale : Bool → ℕ → Bool
is_stale stores e = not (A e) || stores && not (D e)

-- what an entry is: the stage's fault, a pointer to the next table, or a leaf
pub data Verdict : Type 0 where
  fails : Verdict
  pointer : Verdict
  leaf : Verdict

-- the rules in their order; `permits` is step 5, which stages differ in
abbrev pub judged : (ℕ → Bool) → Bool → ℕ → ℕ → ℕ → Verdict
judged permits stores bits i e =
    if is_invalid e then fails else
    if is_reserved e then fails else
    if is_pointer e then (if is_bad_pointer i e then fails else pointer) else
    if is_bad_napot i e then fails else
    if not (permits e) then fails else
    if is_misaligned bits i e then fails else
    if is_stale stores e then fails else leaf

-- ---- where an entry leads

-- the table that a pointer names (step 4)
abbrev pub table_at : ℕ → ℕ
table_at e = PPN e * 4096

-- where a leaf at level i leads the address x, and the exponent of its page (step 8): the parts of the
-- page number from i on, above the low bits of x; with N set, all but the lowest four bits of it
abbrev pub led : ℕ → ℕ → ℕ → ℕ → ℕ
led bits i e x = if N e then field 53 14 e * 2 ^ 16 + x % 2 ^ 16 else field 53 (10 + bits * i) e * 2 ^ (12 + bits * i) + x % 2 ^ (12 + bits * i)

abbrev pub page_of : ℕ → ℕ → ℕ → ℕ
page_of bits i e = if N e then 16 else 12 + bits * i
