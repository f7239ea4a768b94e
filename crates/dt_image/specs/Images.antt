-- Images of a model: all counts and widths are the model's.
use Rattle.std.specs.Prelude.{◌≡◌, ◌*◌, ◌^◌, ◌<◌, ◌≤◌, length}
use Rattle.std.specs.List.{AllByRecursion}
use Rattle.dt_model.specs.ModelData.{ModelData}
use Rattle.dt_model.specs.Values.{FitNames}
use Rattle.dt_image.specs.declared.image.Image.{Image}
use Rattle.dt_image.specs.declared.image.ImageAccess.{ImageAccess}

-- the memory has the model's words and lies within its addresses
pub record IsImage (d : ModelData) (i : Image) : Type 0 where
  pub word : d.word ≡ 8 * i.memory.bytes
  pub end : i.memory.hi ≤ 2 ^ d.address
  pub contexts : AllByRecursion (FitNames d.regs) i.contexts
  pub accesses : AllByRecursion (λ (a : ImageAccess). (a.context < length i.contexts) × FitNames d.inputs a.inputs) i.accesses
