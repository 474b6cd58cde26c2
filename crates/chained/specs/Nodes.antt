-- A plan kept in chained cells. Its nodes are numbers below n + 2 c: node v - 1 is the head of junction v, and the cells are nodes n to n + 2 c - 1. A pipe has a pair of cells, k and k + c, one in the chain of each of its ends. Number k of the memory is the node after node k, 0 at the end of a chain; number k + 2 c is the far end of cell k, 0 where the pair is free.
use Rattle.std.specs.Prelude.{ℕ, zero, suc, ◌+◌, ◌-◌, ◌*◌, Bool, false, cond, ◌&&◌, ◌||◌, List, nat_lt, slice_index}
use Rattle.plan.specs.Plans.{Plan, within}
use Rattle.plan.specs.Registers.{same_pair}

-- the node after node k
abbrev pub next : List ℕ → ℕ → ℕ
next ws k = slice_index ws k

-- the other cell of a pair
abbrev pub twin : ℕ → ℕ → ℕ → ℕ
twin n c k = cond (nat_lt k (n + c)) (k + c) (k - c)

-- the far end of a node, 0 at a head
abbrev pub far : ℕ → ℕ → List ℕ → ℕ → ℕ
far n c ws k = cond (nat_lt k n) 0 (slice_index ws (k + 2 * c))

-- the junction whose chain a node belongs to: that of a head, and for a cell the far end of its twin
abbrev pub owner : ℕ → ℕ → List ℕ → ℕ → ℕ
owner n c ws k = cond (nat_lt k n) (suc k) (slice_index ws (twin n c k + 2 * c))

-- some number below m passes a test
abbrev pub any : (ℕ → Bool) → ℕ → Bool
any t zero = false
any t (suc m) = t m || any t m

-- some pair of cells has the ends v and w
abbrev pub joined : ℕ → ℕ → List ℕ → ℕ → ℕ → Bool
joined n c ws v w = (within n v && within n w) && any (λ p. same_pair v w (slice_index ws ((n + p) + 2 * c)) (slice_index ws ((n + p) + 3 * c))) c

-- the plan of n junctions, all in service, that the cells keep
abbrev pub kept : ℕ → ℕ → List ℕ → Plan
kept n c ws = record { size = n; serves = within n; joins = joined n c ws }
