-- What the steps of the search keep.
use Rattle.std.specs.Prelude.{◌≡◌, ℕ, ◌-◌, ◌≤◌, Bool, true, cond, ◌&&◌, List, get_or, ◌≢◌, nat_lt, slice_index, slice_index_or}
use Rattle.std.specs.declared.cmp.Ordering.{Ordering}
use Rattle.plan.specs.declared.number.Junction.{Junction}
use Rattle.search.specs.Rule.{outranks}

-- the junction at index i, that is of place i + 1
abbrev pub at : List Junction → ℕ → ℕ
at places i = (get_or places i (record { 0 = 0 })).0

-- r is the index, up to p, of the junction that outranks the others by the labels kept at v - 1
pub record Chosen {L : Type 0} (compared : L → L → Ordering) (places : List Junction) (labels : List L) (p r : ℕ) : Type 0 where
  pub upto : r ≤ p
  pub best : (i : ℕ) (d : L) → i ≤ p → (i ≢ r) → outranks (compared (slice_index_or labels (at places i - 1) d) (slice_index_or labels (at places r - 1) d)) (at places r) (at places i) ≡ true

-- the labels after the choice of u for a place: its neighbours of lower places are raised by it
pub record RaisedBy {L : Type 0} (raised : L → ℕ → L) (joins : ℕ → ℕ → Bool) (u place n : ℕ) (scratch : List ℕ) (before after : List L) : Type 0 where
  pub within : (v : ℕ) (d : L) → 1 ≤ v → v ≤ n → slice_index_or after (v - 1) d ≡ cond (joins u v && nat_lt (slice_index scratch (v - 1)) place) (raised (slice_index_or before (v - 1) d) place) (slice_index_or before (v - 1) d)
  pub behind : (k : ℕ) (d : L) → n ≤ k → slice_index_or after k d ≡ slice_index_or before k d
