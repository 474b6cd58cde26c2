-- The chains of an image: sound ones, the records in them, and the plan that they stand for.
use Rattle.std.specs.Prelude.{ℕ, zero, suc, Bool, false, not, ◌&&◌, ◌||◌, ◌==◌, nat_le, nat_lt}
use Rattle.plan.specs.Plans.{Plan, within}
use Rattle.plan.specs.Registers.{same_pair}
use Rattle.image.specs.Images.{Image}
use Rattle.image.specs.Ranges.{some}

-- record i may follow a far end low in the chain of v: there is such a record, its near end is v, and its far end is above low and at most n
abbrev pub follows : Image → ℕ → ℕ → ℕ → Bool
follows m v low i = nat_le i m.records && (m.near i == v && (nat_lt low (m.far i) && nat_le (m.far i) m.size))

-- the records from index i on may follow a far end low in the chain of v, until a 0 ends them, which comes after k records or fewer
unfoldable pub sound_from : Image → ℕ → ℕ → ℕ → ℕ → Bool
sound_from m v zero low i = i == 0
sound_from m v (suc k) low i = i == 0 || (follows m v low i && sound_from m v k (m.far i) (m.next i))

-- the chain of v is sound. Its far ends rise from above v to at most n, so it has fewer than n records
abbrev pub sound_chain : Image → ℕ → Bool
sound_chain m v = sound_from m v m.size v (m.head v)

-- record j is one of the first k of those from index i on
unfoldable pub reaches : Image → ℕ → ℕ → ℕ → Bool
reaches m zero i j = false
reaches m (suc k) i j = not (i == 0) && (i == j || reaches m k (m.next i) j)

-- record j is in the chain of v
abbrev pub in_chain : Image → ℕ → ℕ → Bool
in_chain m v j = reaches m m.size (m.head v) j

-- record j is in some chain
abbrev pub reached : Image → ℕ → Bool
reached m j = some (λ v. in_chain m v j) m.size

-- a record has the ends v and w, in either order
abbrev pub pipe : Image → ℕ → ℕ → Bool
pipe m v w = some (λ i. same_pair v w (m.near i) (m.far i)) m.records

-- the plan of an image: every junction is in service, and its pipes are the pairs of its records
abbrev pub plan_of : Image → Plan
plan_of m = record { size = m.size; serves = within m.size; joins = pipe m }
