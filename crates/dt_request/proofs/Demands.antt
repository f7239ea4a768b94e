-- The demands of the last access, and one more of them.
use Rattle.std.proofs.Common.{◌≡◌, ℕ, zero, suc, ◌-◌, ◌<◌, List, [], ◌∷◌, ◌++◌, length, get_or, set, refl, sym, ap, ◌∙◌, arith}
use Rattle.std.specs.Prelude.{map, slice_get, Some}
use Rattle.dt_lex.specs.declared.name.Name.{Name}
use Rattle.dt_lex.specs.Reading.{last_of}
use Rattle.dt_request.specs.declared.list.Demand.{Demand}
use Rattle.dt_request.specs.declared.list.AccessWish.{AccessWish}
use Rattle.dt_request.specs.Lists.{access_names}
use Rattle.dt_request.specs.Entry.{last_demands}
use Rattle.dt_request.specs.Draft.{with_demand}

last_found : (d : List Demand) (a : AccessWish) (wishes : List AccessWish) (w : AccessWish) → slice_get (a ∷ wishes) (length wishes) ≡ Some w → w.demands ≡ last_of d (map (λ (x : AccessWish). x.demands) (a ∷ wishes))
last_found d a [] w e = let s : a ≡ w = cc in ap (λ (x : AccessWish). x.demands) (sym s)
last_found d a (b ∷ wishes) w e = last_found a.demands b wishes w e

pub last_at : (wishes : List AccessWish) (w : AccessWish) → Some w ≡ slice_get wishes (length wishes - 1) → length w.demands ≡ length (last_demands wishes)
last_at [] w e = absurd cc
last_at (a ∷ wishes) w e =
    let at : length (a ∷ wishes) - 1 ≡ length wishes = omega arith in
    ap length (last_found [] a wishes w (sym (e ∙ ap (slice_get (a ∷ wishes)) at)))

-- one more demand
abbrev pub more : AccessWish → Demand → AccessWish
more a demand = record a { demands = a.demands ++ demand ∷ [] }

set_last : (a : AccessWish) (wishes : List AccessWish) (i : ℕ) (m : AccessWish) (demand : Demand) → i ≡ length wishes → m ≡ get_or (a ∷ wishes) i m → set (a ∷ wishes) i (more m demand) ≡ with_demand (a ∷ wishes) demand
set_last a [] zero m demand at is = ap (λ (b : AccessWish). more b demand ∷ []) is
set_last a [] (suc i) m demand at is = absurd (omega arith)
set_last a (b ∷ wishes) zero m demand at is = absurd (omega arith)
set_last a (b ∷ wishes) (suc i) m demand at is = ap (λ (xs : List AccessWish). a ∷ xs) (set_last b wishes i m demand (omega arith) is)

-- a write to the last access
pub with_demand_set : (wishes : List AccessWish) (i : ℕ) (m : AccessWish) (demands : List Demand) (demand : Demand) → 0 < length wishes → i ≡ length wishes - 1 → m ≡ get_or wishes i m → demands ≡ m.demands ++ demand ∷ [] → set wishes i (record { name = m.name; context = m.context; demands = demands }) ≡ with_demand wishes demand
with_demand_set [] i m demands demand some at is e = absurd (omega arith)
with_demand_set (a ∷ wishes) i m demands demand some at is e =
    ap (λ (ds : List Demand). set (a ∷ wishes) i (record { name = m.name; context = m.context; demands = ds })) e
    ∙ set_last a wishes i m demand (omega arith) is

-- ---- what stays

pub length_with : (wishes : List AccessWish) (x : Demand) → length (with_demand wishes x) ≡ length wishes
length_with [] x = refl
length_with (a ∷ []) x = refl
length_with (a ∷ b ∷ wishes) x = ap (λ (n : ℕ). suc n) (length_with (b ∷ wishes) x)

pub names_with : (wishes : List AccessWish) (x : Demand) → access_names (with_demand wishes x) ≡ access_names wishes
names_with [] x = refl
names_with (a ∷ []) x = refl
names_with (a ∷ b ∷ wishes) x = ap (λ (ns : List Name). a.name ∷ ns) (names_with (b ∷ wishes) x)
