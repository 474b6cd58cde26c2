-- The rows in which the fill of an order is handed over, eight words to a junction: bit b of word 8(v - 1) + k stands for the pair of v and 64k + b + 1.
use Rattle.std.specs.Prelude.{◌≡◌, ℕ, ◌+◌, ◌-◌, ◌*◌, ◌<◌, ◌≤◌, Bool, not, List, [], ◌∷◌, nat_lt, slice_index}
use Rattle.bitset.specs.Bits.{bit}
use Rattle.plan.specs.Plans.{Plan, pairs}
use Rattle.plan.specs.Orders.{ordered}
use Rattle.plan.specs.Refusals.{Verdict, checked}
use Rattle.elimination.specs.Elimination.{fill}

-- the rows hold the fill: in the row of v, a junction of 1 to n, the bits set are those of its fill pairs
pub record FillRows (g : ℕ → ℕ → Bool) (us : List ℕ) (n : ℕ) (rows : List ℕ) : Type 0 where
  pub bits : (v k b : ℕ) → 1 ≤ v → v ≤ n → k < 8 → b < 64 → bit (slice_index rows (8 * (v - 1) + k)) b ≡ fill g us v (64 * k + b + 1)

-- what is there once an order was eliminated: the count of the fill pairs, their rows, and the words behind as they were
pub record Fills (q : Plan) (us : List ℕ) (before : List ℕ) (count : ℕ) (after : List ℕ) : Type 0 where
  pub counted : count ≡ pairs (fill q.joins us) q.size
  pub rows : FillRows q.joins us q.size after
  pub behind : (k : ℕ) → 8 * q.size ≤ k → slice_index after k ≡ slice_index before k

-- the checks of a fill of a list on n junctions, with so many words handed over
abbrev pub fill_verdict : ℕ → List ℕ → ℕ → Verdict
fill_verdict n us words = checked ((not (ordered n us), 9) ∷ (nat_lt words (8 * n), 8) ∷ [])
