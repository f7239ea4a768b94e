-- The numbers that an image gives the choices of a list.
use Rattle.std.specs.Prelude.{ℕ, ◌+◌, ◌==◌, if◌then◌else◌, List, [], ◌∷◌, ◌++◌}
use Rattle.std.specs.List.{flat_map}
use Rattle.dt_model.specs.ModelData.{ModelData, ActData}
use Rattle.dt_model.specs.Faults.{steps, is_read}
use Rattle.dt_walk.specs.declared.run.ReadMade.{ReadMade}
use Rattle.dt_image.specs.declared.image.Image.{Image}
use Rattle.dt_image.specs.declared.image.ImageAccess.{ImageAccess}
use Rattle.dt_satisfy.specs.Claims.{run_of}

-- the word that is read at a node, or 0
abbrev pub word_in : List ReadMade → ℕ → ℕ
word_in [] n = 0
word_in (m ∷ ms) n = if m.node == n then m.word else word_in ms n

-- for each read node from node n on its word
abbrev pub words_for : List ActData → List ReadMade → ℕ → List ℕ
words_for [] reads n = []
words_for (p ∷ ps) reads n = if is_read p then word_in reads n ∷ words_for ps reads (n + 1) else words_for ps reads (n + 1)

abbrev pub access_numbers : ModelData → Image → ImageAccess → List ℕ
access_numbers d i a = a.inputs ++ words_for (steps d) (run_of d i a).reads 0

abbrev pub numbers_of : ModelData → Image → List ℕ
numbers_of d i = flat_map (λ regs. regs) i.contexts ++ flat_map (access_numbers d i) i.accesses
