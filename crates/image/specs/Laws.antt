-- What holds of every sound image.
use Rattle.std.specs.Prelude.{◌≡◌, ℕ, ◌<◌, ◌≤◌, true, false, List, ◌≢◌}
use Rattle.plan.specs.Plans.{Sound, pairs}
use Rattle.plan.specs.Refusals.{carried}
use Rattle.image.specs.Chains.{in_chain, pipe, plan_of}
use Rattle.image.specs.Images.{Image, image_of}
use Rattle.image.specs.Reading.{read_verdict, has_record}

-- every record joins a lower junction to a higher; it is in the chain of its near end and in no other; no two have the same ends; v and w, the lower first, are joined exactly where some record has these ends; there are as many records as pipes; and the plan that the image stands for is sound
pub record SoundLaws (m : Image) : Type 0 where
  pub ends : (i : ℕ) → 1 ≤ i → i ≤ m.records → (1 ≤ m.near i) × (m.near i < m.far i) × (m.far i ≤ m.size)
  pub chained : (i : ℕ) → 1 ≤ i → i ≤ m.records → in_chain m (m.near i) i ≡ true
  pub apart : (v i : ℕ) → 1 ≤ v → v ≤ m.size → in_chain m v i ≡ true → v ≡ m.near i
  pub single : (i j : ℕ) → 1 ≤ i → i ≤ m.records → 1 ≤ j → j ≤ m.records → m.near i ≡ m.near j → m.far i ≡ m.far j → i ≡ j
  pub joined : (v w : ℕ) → v < w → pipe m v w ≡ true → (i : ℕ) × (1 ≤ i) × (i ≤ m.records) × (m.near i ≡ v) × (m.far i ≡ w)
  pub joins : (i : ℕ) → 1 ≤ i → i ≤ m.records → pipe m (m.near i) (m.far i) ≡ true
  pub counted : m.records ≡ pairs (pipe m) m.size
  pub plan : Sound (plan_of m)

-- the laws hold of every sound image, whose bytes have each of its records; and an image with a record that is in no chain is not sound
pub record ImageLaws : Type 0 where
  pub sound : (bytes : List ℕ) → read_verdict bytes ≡ carried → SoundLaws (image_of bytes)
  pub present : (bytes : List ℕ) (i : ℕ) → read_verdict bytes ≡ carried → 1 ≤ i → i ≤ (image_of bytes).records → has_record bytes i ≡ true
  pub lost : (bytes : List ℕ) (i : ℕ) → 1 ≤ i → i ≤ (image_of bytes).records → ((v : ℕ) → 1 ≤ v → v ≤ (image_of bytes).size → in_chain (image_of bytes) v i ≡ false) → read_verdict bytes ≢ carried
