-- One step along a chain of a sound image.
use Rattle.std.specs.Prelude.{◌≡◌, ℕ, suc, ◌-◌, cond, Some, None, Option, ◌==◌, ◌≢◌}
use Rattle.plan.specs.declared.number.Junction.{Junction}
use Rattle.image.specs.declared.sound_chain.SoundChain.{SoundChain}
use Rattle.image.specs.Images.{Image, image_of}
use Rattle.image.specs.Records.{index_field}

-- the step meets nothing where the chain ends, and else the far end of the record at its index
abbrev pub SoundSteps : SoundChain → Option Junction → SoundChain → Type 0
SoundSteps s None t = (index_field s.at ≡ 0) × (t.at ≡ s.at) × (t.image ≡ s.image)
SoundSteps s (Some u) t = (index_field s.at ≢ 0) × (u.0 ≡ (image_of s.image.bytes.now).far (index_field s.at)) × (index_field t.at ≡ (image_of s.image.bytes.now).next (index_field s.at)) × (t.image ≡ s.image)

-- how many far ends may be left from index i on: in a sound image they rise to n
abbrev pub ends_left : Image → ℕ → ℕ
ends_left m i = cond (i == 0) 0 (suc (m.size - m.far i))
