-- Kept ranges as forms: no page that a walk ends in and no table that a walk reads touches the range.
use Rattle.std.specs.Prelude.{ℕ, ◌-◌, ◌/◌, ◌^◌, nat_le, nat_lt, if◌then◌else◌, List, [], ◌++◌}
use Rattle.std.specs.List.{flat_map}
use Rattle.dt_bits.specs.declared.op.Op.TheVariants.{Shr}
use Rattle.dt_request.specs.declared.list.KeptRange.{KeptRange}
use Rattle.dt_forms.specs.Forms.{Form, term, number, form1, not_of, both_of, less_of}
use Rattle.dt_table.specs.declared.out.Out.{Out}
use Rattle.dt_table.specs.Passing.{Access}
use Rattle.dt_table.specs.Apart.{Sized}
use Rattle.dt_table.specs.Spots.{Spot, only_if}

-- the block of this exponent that holds the address touches a range that isn't empty; with q the
-- address's whole quotient by 2 ^ e, which the quotients of the range's first and last byte bound
abbrev pub touches_form : Access → ℕ → KeptRange → ℕ → Form
touches_form a e k t =
    if nat_le a.address e then term a.one_term
    else both_of (not_of (less_of (number a.address ((k.hi - 1) / 2 ^ e)) (form1 (Shr e) (term t)))) (not_of (less_of (form1 (Shr e) (term t)) (number a.address (k.lo / 2 ^ e))))

-- where the walk comes to the node, its block doesn't touch the range
abbrev pub kept_form : Access → KeptRange → (Out → ℕ) → Sized → Form
kept_form a k key x = not_of (both_of (term (key x.out)) (touches_form a x.exponent k x.out.value))

abbrev pub kept_forms : Access → List Spot → List Spot → KeptRange → List Form
kept_forms a pages tables k =
    if nat_lt k.lo k.hi then flat_map (λ x. only_if x.live (kept_form a k (λ o. o.come) x.of)) pages ++ flat_map (λ x. only_if x.live (kept_form a k (λ o. o.by_then) x.of)) tables
    else []
