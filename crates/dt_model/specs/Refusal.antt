-- The words of the refusals of a model's check, as they are printed.
use Rattle.std.specs.Prelude.{ℕ, List, codes}
use Rattle.dt_model.specs.declared.refusal.ModelRefusal.{ModelRefusal}
use Rattle.dt_model.specs.declared.refusal.ModelRefusal.TheVariants.{NameTwice, UnknownName, WidthMismatch, WidthRange, BackEdge, Unassigned, AssignedTwice, NoNode, TooMany, TooDeep}

abbrev pub refusal_word : ModelRefusal → List ℕ
refusal_word NameTwice = codes "name-twice"
refusal_word UnknownName = codes "unknown-name"
refusal_word WidthMismatch = codes "width-mismatch"
refusal_word WidthRange = codes "width-range"
refusal_word BackEdge = codes "back-edge"
refusal_word Unassigned = codes "unassigned"
refusal_word AssignedTwice = codes "assigned-twice"
refusal_word NoNode = codes "no-node"
refusal_word TooMany = codes "too-many"
refusal_word TooDeep = codes "too-deep"
