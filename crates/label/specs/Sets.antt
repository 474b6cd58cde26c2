-- Sets of marks, kept in 8 words of 64 bits.
use Rattle.std.specs.Prelude.{◌≡◌, ℕ, zero, suc, ◌-◌, ◌/◌, ◌%◌, ◌^◌, ◌<◌, Bool, true, false, cond, ◌&&◌, List, length, replicate, bit_or, slice_index, slice_set}
use Rattle.std.specs.declared.cmp.Ordering.TheVariants.{Equal}
use Rattle.std.specs.declared.cmp.Ordering.{Ordering}
use Rattle.std.specs.Ordering.{ordering_then}
use Rattle.bitset.specs.Bits.{holds}
use Rattle.label.specs.declared.lexicographic.MarkSet.{MarkSet}
use Rattle.label.specs.Marks.{has, is_mark, falling}
use Rattle.label.specs.Counts.{by_number}

-- the set has mark m
abbrev pub marked : MarkSet → ℕ → Bool
marked a m = is_mark m && holds a.words (m - 1)

-- of two sets of marks the greater has the highest mark in which they differ: f exceeds g
abbrev pub Exceeds : (ℕ → Bool) → (ℕ → Bool) → Type 0
Exceeds f g = (m : ℕ) × (f m ≡ true) × (g m ≡ false) × ((k : ℕ) → m < k → f k ≡ g k)

abbrev pub no_marks : MarkSet
no_marks = record { words = replicate 8 0 }

-- words with number i put in
abbrev pub with_bit : List ℕ → ℕ → List ℕ
with_bit ws i = slice_set ws (i / 64) (bit_or (slice_index ws (i / 64)) (2 ^ (i % 64)))

-- the set with m put in; what is no mark changes nothing
abbrev pub with_mark : MarkSet → ℕ → MarkSet
with_mark a m = record { words = cond (is_mark m) (with_bit a.words (m - 1)) a.words }

-- by the first n words, from the highest down: the first that differs decides
abbrev pub by_words : ℕ → List ℕ → List ℕ → Ordering
by_words zero v w = Equal
by_words (suc n) v w = ordering_then (by_number (slice_index v n) (slice_index w n)) (by_words n v w)

-- how two sets of 8 words compare
abbrev pub compared_sets : MarkSet → MarkSet → Ordering
compared_sets a b = by_words 8 a.words b.words

-- a set of 8 words stands for the falling list of its marks
pub record SetStands (a : MarkSet) (s : List ℕ) : Type 0 where
  pub eight : length a.words ≡ 8
  pub fit : (k : ℕ) → slice_index a.words k < 2 ^ 64
  pub falls : falling s ≡ true
  pub marks : (m : ℕ) → marked a m ≡ has s m
