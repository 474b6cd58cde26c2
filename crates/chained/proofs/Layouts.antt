-- The memory laid out, one free pair after another.
use Rattle.std.proofs.Common.{◌≡◌, ℕ, ◌+◌, ◌-◌, ◌*◌, ◌<◌, ◌≤◌, List, get_or}

-- the first p pairs are free, the rest of the memory is as before
pub record LaidOutTo (n c p : ℕ) (before ws : List ℕ) : Type 0 where
  pub links : (k : ℕ) → n ≤ k → k < n + p → get_or ws k 0 ≡ k + 1
  pub counts : (k : ℕ) → n ≤ k → k < n + p → get_or ws (k + c) 0 ≡ n + c - k
  pub below : (k : ℕ) → k < n → get_or ws k 0 ≡ get_or before k 0
  pub above : (k : ℕ) → n + 2 * c ≤ k → get_or ws k 0 ≡ get_or before k 0
