-- Small plans with their orders by the two kinds of label.
use Rattle.std.specs.Prelude.{ℕ, List, [], ◌∷◌}
use Rattle.plan.specs.Plans.{Plan, blank}
use Rattle.plan.specs.Registers.{with_pipe}
use Rattle.label.specs.Counts.{no_count, counted, compared_counts}
use Rattle.label.specs.Sets.{no_marks, with_mark, compared_sets}
use Rattle.search.specs.Rule.{Searched}

-- us is the order of a plan by lexicographic labels, and by counting labels
abbrev pub Lexicographically : Plan → List ℕ → Type 0
Lexicographically p us = Searched no_marks with_mark compared_sets p us

abbrev pub ByCounts : Plan → List ℕ → Type 0
ByCounts p us = Searched no_count counted compared_counts p us

-- the rings 1 2 3 4 and 1 2 3 4 5
abbrev pub ring_of_four : Plan
ring_of_four = with_pipe (with_pipe (with_pipe (with_pipe (blank 4) 1 2) 2 3) 3 4) 4 1

abbrev pub ring_of_five : Plan
ring_of_five = with_pipe (with_pipe (with_pipe (with_pipe (with_pipe (blank 5) 1 2) 2 3) 3 4) 4 5) 5 1

pub record WorkedOrders : Type 0 where
  pub one_lexicographic : Lexicographically (blank 1) (1 ∷ [])
  pub one_counting : ByCounts (blank 1) (1 ∷ [])
  pub four_lexicographic : Lexicographically ring_of_four (3 ∷ 4 ∷ 2 ∷ 1 ∷ [])
  pub four_counting : ByCounts ring_of_four (4 ∷ 3 ∷ 2 ∷ 1 ∷ [])
  pub five_lexicographic : Lexicographically ring_of_five (4 ∷ 3 ∷ 5 ∷ 2 ∷ 1 ∷ [])
  -- so the kinds differ: on the ring of four no order is that of both
  pub kinds_differ : (us : List ℕ) → Lexicographically ring_of_four us → ByCounts ring_of_four us → ⊥
