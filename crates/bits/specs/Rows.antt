-- A plan kept as rows of bits: v and w are joined where the pair is marked in the row of v, and both are of 1 to n.
use Rattle.std.specs.Prelude.{ℕ, Bool, ◌&&◌, List}
use Rattle.bitset.specs.Bits.{holds}
use Rattle.pairs.specs.Rows.{number}
use Rattle.plan.specs.Plans.{Plan, within}

abbrev pub joined : ℕ → List ℕ → ℕ → ℕ → Bool
joined n ws v w = (within n v && within n w) && holds ws (number v w)

-- the plan of n junctions, all in service, that the words keep
abbrev pub kept : ℕ → List ℕ → Plan
kept n ws = record { size = n; serves = within n; joins = joined n ws }
