-- Writing the image of a plan: the records in rising order of near end, then far end.
use Rattle.std.specs.Prelude.{◌≡◌, ℕ, zero, suc, ◌+◌, ◌-◌, ◌<◌, ◌≤◌, Bool, cond, ◌&&◌, ◌⊎◌, List, [], ◌∷◌, ◌++◌, length, drop, Ok, Err, Result, nat_lt}
use Rattle.plan.specs.declared.refusal.Refusal.{Refusal}
use Rattle.plan.specs.Plans.{Plan, Sound, within, count, pairs}
use Rattle.plan.specs.Refusals.{Verdict, carried, refused, checked, number, values}
use Rattle.image.specs.Chains.{plan_of}
use Rattle.image.specs.Images.{Image, bytes_of, image_of}
use Rattle.image.specs.Reading.{read_verdict}

-- w is a neighbour of v, and above it
abbrev pub upper : Plan → ℕ → ℕ → Bool
upper p v w = nat_lt v w && p.joins v w

-- how many neighbours of v are above v and at most w
unfoldable pub uppers : Plan → ℕ → ℕ → ℕ
uppers p v w = count (upper p v) (suc w)

-- how many pipes have a lower end of at most v
unfoldable pub pipes_to : Plan → ℕ → ℕ
pipes_to p zero = 0
pipes_to p (suc v) = pipes_to p v + uppers p (suc v) p.size

-- the index of the first record of v whose far end is above w, or 0 where there is none
unfoldable pub link : Plan → ℕ → ℕ → ℕ
link p v w = cond (nat_lt (uppers p v w) (uppers p v p.size)) (suc (pipes_to p (v - 1) + uppers p v w)) 0

-- the heads of 1 to v
unfoldable pub heads : Plan → ℕ → List ℕ
heads p zero = []
heads p (suc v) = heads p v ++ link p (suc v) (suc v) ∷ []

-- the records of v whose far ends are at most w
unfoldable pub chain_to : Plan → ℕ → ℕ → List ℕ
chain_to p v zero = []
chain_to p v (suc w) = chain_to p v w ++ cond (upper p v (suc w)) (v ∷ suc w ∷ link p v (suc w) ∷ []) []

-- the records of 1 to v
unfoldable pub records_to : Plan → ℕ → List ℕ
records_to p zero = []
records_to p (suc v) = records_to p v ++ chain_to p (suc v) p.size

-- the image of a plan
unfoldable pub written : Plan → List ℕ
written p = bytes_of (p.size ∷ pipes_to p p.size ∷ 1 ∷ 0 ∷ []) ++ (bytes_of (heads p p.size) ++ bytes_of (records_to p p.size))

-- the checks of a write into memory of a given length
unfoldable pub write_verdict : Plan → ℕ → Verdict
write_verdict p long = checked ((nat_lt 8000 (pairs p.joins p.size), 19) ∷ (nat_lt long (length (written p)), 8) ∷ [])

-- a write: the image in front, and what is behind it as it was; turned down, all as it was
abbrev pub Writing : Plan → List ℕ → Result ℕ Refusal → List ℕ → Type 0
Writing p before (Ok long) after = (carried ≡ write_verdict p (length before)) × (long ≡ length (written p)) × (after ≡ written p ++ drop long before)
Writing p before (Err e) after = (refused (number e) (values e) ≡ write_verdict p (length before)) × (after ≡ before)

-- the plan with every junction in service
abbrev pub all_in_service : Plan → Plan
all_in_service p = record { size = p.size; serves = within p.size; joins = p.joins }

-- what is written is a sound image of the same junctions and pipes
pub record RoundTrip (p : Plan) : Type 0 where
  pub sound : read_verdict (written p) ≡ carried
  pub same : plan_of (image_of (written p)) ≡ all_in_service p

abbrev pub RoundTrips : Type 0
RoundTrips = (p : Plan) → Sound p → pairs p.joins p.size ≤ 8000 → RoundTrip p

-- record i is below record j: its near end is lower, or that is the same and its far end is lower
abbrev pub Below : Image → ℕ → ℕ → Type 0
Below m i j = (m.near i < m.near j) ⊎ ((m.near i ≡ m.near j) × (m.far i < m.far j))

-- in what is written the records stand in rising order of near end, then far end
abbrev pub RecordsRise : Type 0
RecordsRise = (p : Plan) (i j : ℕ) → 1 ≤ i → i < j → j ≤ (image_of (written p)).records → Below (image_of (written p)) i j
