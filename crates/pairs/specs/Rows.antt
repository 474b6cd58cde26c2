-- Tables of pairs of junctions in words: the row of v is words 8(v - 1) to 8v - 1, and its bit w - 1 says whether the pair v, w is marked.
use Rattle.std.specs.Prelude.{◌≡◌, ℕ, ◌+◌, ◌-◌, ◌*◌, ◌/◌, ◌<◌, Bool, true, false, not, ◌&&◌, ◌||◌, List, length, Some, None, Option, ◌≢◌, nat_le, slice_index}
use Rattle.bitset.specs.Bits.{holds}
use Rattle.plan.specs.Plans.{within}
use Rattle.plan.specs.Registers.{same_pair}
use Rattle.plan.specs.declared.number.Junction.{Junction}

-- the bit for w in the row of v, counted from the start of the rows
abbrev pub number : ℕ → ℕ → ℕ
number v w = 512 * (v - 1) + (w - 1)

-- v is one of 1 to 512, and the words have its whole row
abbrev pub has_row : List ℕ → ℕ → Bool
has_row rows v = within 512 v && nat_le (8 * v) (length rows)

-- the pair v, w is marked in the row of v
unfoldable pub marked : List ℕ → ℕ → ℕ → Bool
marked rows v w = nat_le 1 v && nat_le 1 w && nat_le w 512 && holds rows (number v w)

-- the rows after the pair v, w was marked: words of other rows stay
pub record Marks (before : List ℕ) (v w : ℕ) (after : List ℕ) : Type 0 where
  pub pairs : (a b : ℕ) → marked after a b ≡ (same_pair v w a b || marked before a b)
  pub others : (k : ℕ) → (k / 8 ≢ v - 1) → (k / 8 ≢ w - 1) → slice_index after k ≡ slice_index before k

-- the rows after the mark of the pair v, w was taken out: words of other rows stay
pub record Unmarks (before : List ℕ) (v w : ℕ) (after : List ℕ) : Type 0 where
  pub pairs : (a b : ℕ) → marked after a b ≡ (not (same_pair v w a b) && marked before a b)
  pub others : (k : ℕ) → (k / 8 ≢ v - 1) → (k / 8 ≢ w - 1) → slice_index after k ≡ slice_index before k

-- the lowest number above w that passes a test, or nothing where none does
abbrev pub NextIn : (ℕ → Bool) → ℕ → Option Junction → Type 0
NextIn t w None = (u : ℕ) → w < u → t u ≡ false
NextIn t w (Some u) = (w < u.0) × (t u.0 ≡ true) × ((x : ℕ) → w < x → x < u.0 → t x ≡ false)
