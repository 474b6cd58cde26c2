-- Rings of a plan: chordless cycles of four or more junctions.
use Rattle.std.specs.Prelude.{◌≡◌, ℕ, suc, ◌<◌, ◌≤◌, Bool, ◌&&◌, ◌||◌, List, length, ◌==◌, ◌≢◌, slice_index}
use Rattle.plan.specs.Plans.{Plan}

-- of k junctions in a row that closes to a ring, those at i and j, i below j, are next to each other
abbrev pub beside : ℕ → ℕ → ℕ → Bool
beside k i j = j == suc i || (i == 0 && suc j == k)

-- a ring: four or more different junctions, each joined to the next and the last to the first, with no other pipe among them
pub record Ring (p : Plan) (vs : List ℕ) : Type 0 where
  pub long : 4 ≤ length vs
  pub once : (i j : ℕ) → i < j → j < length vs → slice_index vs i ≢ slice_index vs j
  pub round : (i j : ℕ) → i < j → j < length vs → p.joins (slice_index vs i) (slice_index vs j) ≡ beside (length vs) i j

-- a ring is listed from its lowest junction towards the lower of that junction's two neighbours in it
pub record Listed (vs : List ℕ) : Type 0 where
  pub lowest : (i : ℕ) → 0 < i → i < length vs → slice_index vs 0 < slice_index vs i
  pub towards : (i : ℕ) → suc i ≡ length vs → slice_index vs 1 < slice_index vs i

abbrev pub NoRing : Plan → Type 0
NoRing p = (vs : List ℕ) → Ring p vs → ⊥
