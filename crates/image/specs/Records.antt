-- A record of an image as it is read, and one step along a chain.
use Rattle.std.specs.Prelude.{◌≡◌, ℕ, suc, ◌-◌, ◌<◌, ◌≤◌, true, false, cond, Some, None, Option, ◌==◌, ◌≢◌}
use Rattle.std.specs.NonZero.{non_zero_u16_get}
use Rattle.std.specs.declared.num.NonZeroU16.{NonZeroU16}
use Rattle.plan.specs.declared.number.Junction.{Junction}
use Rattle.image.specs.declared.chains.Chain.{Chain}
use Rattle.image.specs.declared.record.Record.{Record}
use Rattle.image.specs.Chains.{follows}
use Rattle.image.specs.Images.{Image, image_of}

-- what an image has for an index: 0 where there is none
abbrev pub index_field : Option NonZeroU16 → ℕ
index_field None = 0
index_field (Some i) = non_zero_u16_get i

-- r is the record of index i
pub record Reads (m : Image) (i : ℕ) (r : Record) : Type 0 where
  pub near : r.near.0 ≡ m.near i
  pub far : r.far.0 ≡ m.far i
  pub next : index_field r.next ≡ m.next i

-- the record of index i, where there is one
abbrev pub RecordOf : Image → ℕ → Option Record → Type 0
RecordOf m i None = m.records < i
RecordOf m i (Some r) = (i ≤ m.records) × Reads m i r

-- the record of index i, where it may follow a far end low in the chain of v
abbrev pub FollowerOf : Image → ℕ → ℕ → ℕ → Option Record → Type 0
FollowerOf m v low i None = follows m v low i ≡ false
FollowerOf m v low i (Some r) = (follows m v low i ≡ true) × Reads m i r

-- the step from index i, behind a far end low: it meets nothing where the chain of v ends, a fault where the record may not follow, and else the record's far end. Nothing comes behind a fault
abbrev pub Passes : Image → ℕ → ℕ → ℕ → Option (Option Junction) → ℕ → ℕ → Type 0
Passes m v low i None low' i' = (i ≡ 0) × (i' ≡ 0)
Passes m v low i (Some None) low' i' = (i ≢ 0) × (follows m v low i ≡ false) × (i' ≡ 0)
Passes m v low i (Some (Some u)) low' i' = (i ≢ 0) × (follows m v low i ≡ true) × (u.0 ≡ m.far i) × (low' ≡ m.far i) × (i' ≡ m.next i)

-- a step of a walk along a chain
abbrev pub ChainSteps : Chain → Option (Option Junction) → Chain → Type 0
ChainSteps s met t = Passes (image_of s.image.bytes.now) s.of.0 s.low.0 (index_field s.at) met t.low.0 (index_field t.at) × (t.image ≡ s.image) × (t.of ≡ s.of)

-- how many steps may be left: far ends rise to n
abbrev pub steps_left : Chain → ℕ
steps_left s = cond (index_field s.at == 0) 0 (suc (s.image.header.n - s.low.0))
