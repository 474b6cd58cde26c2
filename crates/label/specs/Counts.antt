-- Labels that count marks.
use Rattle.std.specs.Prelude.{◌≡◌, ℕ, ◌+◌, true, cond, ◌&&◌, List, length, ◌==◌, nat_lt}
use Rattle.std.specs.declared.cmp.Ordering.TheVariants.{Less, Equal, Greater}
use Rattle.std.specs.declared.cmp.Ordering.{Ordering}
use Rattle.label.specs.declared.counting.Count.{Count}
use Rattle.label.specs.Marks.{is_mark, falling}

-- how two numbers compare
abbrev pub by_number : ℕ → ℕ → Ordering
by_number a b = cond (nat_lt a b) Less (cond (a == b) Equal Greater)

abbrev pub no_count : Count
no_count = record { 0 = 0 }

abbrev pub compared_counts : Count → Count → Ordering
compared_counts a b = by_number a.0 b.0

-- one more, for a mark, as long as the count is below 512
abbrev pub counted : Count → ℕ → Count
counted a m = cond (is_mark m && nat_lt a.0 512) (record { 0 = a.0 + 1 }) a

-- a count stands for every falling list of that many marks
abbrev pub CountStands : Count → List ℕ → Type 0
CountStands a s = (length s ≡ a.0) × (falling s ≡ true)
