-- Numbers that are drawn: each is made of the next two words of a generator.
use Rattle.std.specs.Prelude.{ℕ, ◌+◌, ◌*◌, ◌%◌, ◌^◌}
use Rattle.rand_core.specs.Pcg32Seed.{pcg32_seed}
use Rattle.rand_pcg.specs.Lcg.{Lcg}
use Rattle.rand_pcg.specs.Pcg.{pcg64, pcg64_of_seed}

-- the generator of a seed
abbrev pub generator_of : ℕ → Lcg
generator_of seed = pcg64_of_seed (pcg32_seed 32 seed)

-- the generator after its next word
abbrev pub after_word : Lcg → Lcg
after_word g = (pcg64 g).1

-- the number of so many bits that is drawn next: of the next two words the first is the lower
abbrev pub drawn : Lcg → ℕ → ℕ
drawn g width = ((pcg64 g).0 + (pcg64 (after_word g)).0 * 2 ^ 64) % 2 ^ width

-- the generator after a number was drawn
abbrev pub after_draw : Lcg → Lcg
after_draw g = after_word (after_word g)
