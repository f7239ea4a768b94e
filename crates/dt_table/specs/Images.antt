-- The image that the values of a list's terms tell.
use Rattle.std.specs.Prelude.{ℕ, zero, suc, ◌+◌, ◌/◌, List, [], ◌∷◌, length}
use Rattle.std.specs.List.{flat_map}
use Rattle.dt_model.specs.declared.model.Named.{Named as NamedWidth}
use Rattle.dt_model.specs.ModelData.{ModelData, ActData}
use Rattle.dt_model.specs.Faults.{steps}
use Rattle.dt_request.specs.declared.list.AccessWish.{AccessWish}
use Rattle.dt_request.specs.declared.list.Requests.{Requests}
use Rattle.dt_walk.specs.declared.run.ReadMade.{ReadMade}
use Rattle.dt_image.specs.declared.image.Image.{Image}
use Rattle.dt_image.specs.declared.image.ImageAccess.{ImageAccess}
use Rattle.dt_forms.specs.Meaning.{Valuation}
use Rattle.dt_table.specs.declared.out.Out.{Out}
use Rattle.dt_table.specs.Told.{told}
use Rattle.dt_table.specs.Words.{words_read}
use Rattle.dt_table.specs.Table.{regs_at, inputs_at, built}

-- the numbers of terms from a position on, one for each name
abbrev pub bits_from : Valuation → ℕ → List NamedWidth → List ℕ
bits_from v at [] = []
bits_from v at (n ∷ ns) = (v at).bits ∷ bits_from v (at + 1) ns

-- so many contexts, from number c on
abbrev pub contexts_told : Valuation → ModelData → ℕ → ℕ → List (List ℕ)
contexts_told v d zero c = []
contexts_told v d (suc n) c = bits_from v (regs_at d c) d.regs ∷ contexts_told v d n (c + 1)

-- these accesses, from number k on
abbrev pub accesses_told : Valuation → ModelData → Requests → ℕ → List AccessWish → List ImageAccess
accesses_told v d r k [] = []
accesses_told v d r k (a ∷ more) = record { context = a.context; inputs = bits_from v (inputs_at d r k) d.inputs } ∷ accesses_told v d r (k + 1) more

-- the reads that all accesses make
abbrev pub reads_told : Valuation → List ActData → List (List Out) → List ReadMade
reads_told v ps outs = flat_map (λ os. (told v ps os 0).reads) outs

abbrev pub image_told : Valuation → ModelData → Requests → Image
image_told v d r = record {
  memory = record { bytes = d.word / 8; lo = r.lo; hi = r.hi; words = words_read (reads_told v (steps d) (built d r).outs) };
  contexts = contexts_told v d (length r.contexts) 0;
  accesses = accesses_told v d r 0 r.accesses;
}
