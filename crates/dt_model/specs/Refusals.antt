-- The first place of a list that is at fault, and the smallest refusal there.
use Rattle.std.specs.Prelude.{◌≡◌, ◌↔◌, IsTrue, ℕ, ◌+◌, ◌<◌, Bool, true, List, ◌++◌, Option, Some, None, IsSomeAnd, slice_get, take}
use Rattle.dt_lex.specs.declared.name.Name.{Name}
use Rattle.dt_model.specs.declared.model.Named.{Named}
use Rattle.dt_model.specs.declared.refusal.ModelRefusal.{ModelRefusal}
use Rattle.dt_model.specs.declared.flags.Flags.{Flags}
use Rattle.dt_model.specs.declared.refusal.ModelRefusal.TheVariants.{NameTwice, UnknownName, WidthMismatch, WidthRange, BackEdge, Unassigned, AssignedTwice, NoNode, TooMany, TooDeep}
use Rattle.dt_model.specs.declared.flow.NodeSets.{NodeSets}
use Rattle.dt_model.specs.Flow.{found}
use Rattle.dt_model.specs.Paths.{SomePath}
use Rattle.dt_model.specs.ModelData.{Tree, ModelData}
use Rattle.dt_model.specs.Widths.{Scope}
use Rattle.dt_model.specs.declared.refusal.Place.{Place}
use Rattle.dt_model.specs.Faults.{number_of, group_of, steps, NameBreaks, names_of, RuleBreaks, rule_operators, Breaks, IsRefused}

abbrev pub IsSmallest : (ModelRefusal → Type 0) → Option ModelRefusal → Type 0
IsSmallest P None = (r : ModelRefusal) → P r → ⊥
IsSmallest P (Some r) = P r × ((s : ModelRefusal) → number_of s < number_of r → P s → ⊥)

abbrev pub IsFirst : (ℕ → ModelRefusal → Type 0) → Option (ℕ × ModelRefusal) → Type 0
IsFirst P None = (i : ℕ) (r : ModelRefusal) → P i r → ⊥
IsFirst P (Some f) = P f.0 f.1 × ((s : ModelRefusal) → number_of s < number_of f.1 → P f.0 s → ⊥) × ((j : ℕ) (s : ModelRefusal) → j < f.0 → P j s → ⊥)

-- a list of rules, after rules with so many operators
abbrev pub RulesBreak : Scope → ℕ → List Tree → ℕ → ModelRefusal → Type 0
RulesBreak s before rules i r = IsSomeAnd (slice_get rules i) (λ t. RuleBreaks s i (before + rule_operators (take i rules)) t r)

-- a list of names, after names that were declared earlier
abbrev pub NamesBreak : ℕ → List Name → List Named → ℕ → ModelRefusal → Type 0
NamesBreak limit earlier names i r = IsSomeAnd (slice_get names i) (λ n. NameBreaks limit i (earlier ++ names_of (take i names)) n r)

abbrev pub flag : Flags → ModelRefusal → Bool
flag f NameTwice = f.name_twice
flag f UnknownName = f.unknown_name
flag f WidthMismatch = f.width_mismatch
flag f WidthRange = f.width_range
flag f BackEdge = f.back_edge
flag f Unassigned = f.unassigned
flag f AssignedTwice = f.assigned_twice
flag f NoNode = f.no_node
flag f TooMany = f.too_many
flag f TooDeep = f.too_deep

-- the flags tell which refusals apply
abbrev pub Tells : Flags → (ModelRefusal → Type 0) → Type 0
Tells f P = (r : ModelRefusal) → IsTrue (flag f r) ↔ P r

-- the sets of a node tell what paths assign and leave
abbrev pub SetsTell : ModelData → ℕ → NodeSets → Type 0
SetsTell d i sets = (v : ℕ) (b : Bool) → v < 512 → (found sets v b ≡ true) ↔ SomePath (steps d) i v b

-- ---- the parts of a check, in their order

-- no place in the first groups is at fault
abbrev pub Passes : ModelData → ℕ → Type 0
Passes d groups = (p : Place) (r : ModelRefusal) → group_of p < groups → Breaks d p r → ⊥

-- the model's refusal, or none where no place in the first groups is at fault
abbrev pub IsFirstTo : ModelData → ℕ → Option (Place × ModelRefusal) → Type 0
IsFirstTo d groups None = Passes d groups
IsFirstTo d groups (Some f) = IsRefused d f.0 f.1
