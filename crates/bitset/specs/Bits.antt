-- Sets of numbers kept in 64-bit words.
use Rattle.std.specs.Prelude.{◌≡◌, ℕ, ◌/◌, ◌%◌, ◌^◌, ◌<◌, ◌≤◌, Bool, true, false, not, ◌&&◌, ◌||◌, List, length, Some, None, Option, ◌==◌, ◌≢◌, nat_lt, slice_index}

-- bit b of a word, counted from the lowest as 0
unfoldable pub bit : ℕ → ℕ → Bool
bit word b = word / 2 ^ b % 2 == 1

-- number i is held by bit i % 64 of word i / 64
unfoldable pub holds : List ℕ → ℕ → Bool
holds ws i = bit (slice_index ws (i / 64)) (i % 64)

-- the words after i was put in: past the end of the words nothing changes
pub record Inserted (before : List ℕ) (i : ℕ) (after : List ℕ) : Type 0 where
  pub bits : (j : ℕ) → holds after j ≡ ((j == i && nat_lt (i / 64) (length before)) || holds before j)
  pub others : (k : ℕ) → (k ≢ i / 64) → slice_index after k ≡ slice_index before k

-- the words after i was taken out
pub record Removed (before : List ℕ) (i : ℕ) (after : List ℕ) : Type 0 where
  pub bits : (j : ℕ) → holds after j ≡ (not (j == i) && holds before j)
  pub others : (k : ℕ) → (k ≢ i / 64) → slice_index after k ≡ slice_index before k

-- the least number from a given one on that is held, or nothing where none is that fits 64 bits
abbrev pub NextHeld : List ℕ → ℕ → Option ℕ → Type 0
NextHeld ws from None = (i : ℕ) → from ≤ i → i < 2 ^ 64 → holds ws i ≡ false
NextHeld ws from (Some i) = (from ≤ i) × (holds ws i ≡ true) × ((j : ℕ) → from ≤ j → j < i → holds ws j ≡ false)
