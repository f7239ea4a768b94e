-- When an image meets a request list.
use Rattle.std.specs.Prelude.{◌≡◌, ℕ, ◌+◌, Option, Some, None, length, map, IsTrue, All}
use Rattle.dt_model.specs.ModelData.{ModelData}
use Rattle.dt_request.specs.declared.list.Requests.{Requests}
use Rattle.dt_image.specs.declared.image.Image.{Image}
use Rattle.dt_image.specs.Images.{IsImage}
use Rattle.dt_satisfy.specs.declared.verdict.Judged.{Judged}
use Rattle.dt_satisfy.specs.declared.verdict.Judged.TheVariants as judged
use Rattle.dt_satisfy.specs.Claims.{claims}

-- the image has the list's table bounds, as many contexts, as many accesses, and each access its context
pub record Matches (r : Requests) (i : Image) : Type 0 where
  pub lo : i.memory.lo ≡ r.lo
  pub hi : i.memory.hi ≡ r.hi
  pub contexts : length i.contexts ≡ length r.contexts
  pub accesses : map (λ a. a.context) i.accesses ≡ map (λ a. a.context) r.accesses

-- the image is of the model, matches the list, and all claims hold
pub record Satisfies (d : ModelData) (r : Requests) (i : Image) : Type 0 where
  pub image : IsImage d i
  pub matches : Matches r i
  pub claims : All IsTrue (claims d r i)

-- what is said where this position, counted from 0, is that of the first claim that doesn't hold
abbrev pub verdict_of : Option ℕ → Judged
verdict_of None = judged.Satisfies
verdict_of (Some k) = judged.Breaks (k + 1)
