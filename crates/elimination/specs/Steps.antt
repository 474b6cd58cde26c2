-- The steps of the elimination: the fill found so far, and junctions whose parents take over from them.
use Rattle.std.specs.Prelude.{◌≡◌, ℕ, ◌+◌, ◌-◌, ◌*◌, ◌<◌, ◌≤◌, Bool, true, cond, not, ◌&&◌, ◌||◌, List, length, Some, None, Option, ◌==◌, nat_le, nat_lt, slice_index}
use Rattle.pairs.specs.Rows.{marked}
use Rattle.plan.specs.Plans.{Plan, pairs}
use Rattle.plan.specs.Orders.{place}
use Rattle.plan.specs.Registers.{same_pair}
use Rattle.plan.specs.declared.number.Junction.{Junction}

-- the pair v, w is marked in the row of v, one of the first n
unfoldable pub found : ℕ → List ℕ → ℕ → ℕ → Bool
found n rows v w = nat_le v n && marked rows v w

-- the first n rows hold a table of pairs of 1 to n
pub record Table (n : ℕ) (rows : List ℕ) : Type 0 where
  pub room : 8 * n ≤ length rows
  pub alike : (v w : ℕ) → found n rows v w ≡ found n rows w v
  pub inside : (v w : ℕ) → found n rows v w ≡ true → w ≤ n

-- v and w are joined by a pipe, or by the fill found so far
abbrev pub known : Plan → List ℕ → ℕ → ℕ → Bool
known p rows v w = p.joins v w || found p.size rows v w

-- the place of v in a table of places
abbrev pub at : List ℕ → ℕ → ℕ
at places v = slice_index places (v - 1)

-- the table has the places of an order of n junctions
abbrev pub Places : ℕ → List ℕ → List ℕ → Type 0
Places n us places = (v : ℕ) → 1 ≤ v → v ≤ n → at places v ≡ place us v

-- the earliest of v's neighbours at later places, or nothing where v has none
abbrev pub Earliest : (ℕ → ℕ → Bool) → (ℕ → ℕ) → ℕ → Option Junction → Type 0
Earliest g at v None = (u : ℕ) → g v u ≡ true → at u ≤ at v
Earliest g at v (Some p) = (g v p.0 ≡ true) × (at v < at p.0) × ((u : ℕ) → g v u ≡ true → at v < at u → at p.0 ≤ at u)

-- of two junctions the one at the earlier place, where the first may be missing
abbrev pub earlier_of : (ℕ → ℕ) → Option Junction → Junction → Junction
earlier_of at None u = u
earlier_of at (Some p) u = cond (nat_le (at p.0) (at u.0)) p u

-- so many pairs were added to the rows
abbrev pub Adds : Plan → List ℕ → ℕ → List ℕ → Type 0
Adds q before added after = added + pairs (found q.size before) q.size ≡ pairs (found q.size after) q.size

-- p takes u over from v: u is another neighbour of v at a later place, and not joined to p
unfoldable pub takes : (ℕ → ℕ → Bool) → (ℕ → ℕ) → ℕ → ℕ → ℕ → Bool
takes g at v p u = g v u && nat_lt (at v) (at u) && not (u == p) && not (g p u)

-- a, b is the pair of p and a junction that it takes over from v
unfoldable pub taken : (ℕ → ℕ → Bool) → (ℕ → ℕ) → ℕ → ℕ → ℕ → ℕ → Bool
taken g at v p a b = (a == p && takes g at v p b) || (b == p && takes g at v p a)

-- the rows before and after p and u were joined by fill, unless they were joined already
pub record Joins (q : Plan) (p u : ℕ) (before : List ℕ) (joined : Bool) (after : List ℕ) : Type 0 where
  pub says : joined ≡ not (known q before p u)
  pub marks : (a b : ℕ) → found q.size after a b ≡ ((joined && same_pair p u a b) || found q.size before a b)
  pub behind : (k : ℕ) → 8 * q.size ≤ k → slice_index after k ≡ slice_index before k

-- the rows before and after p took over from v
pub record TakesOver (q : Plan) (at : ℕ → ℕ) (v p : ℕ) (before after : List ℕ) : Type 0 where
  pub marks : (a b : ℕ) → found q.size after a b ≡ (taken (known q before) at v p a b || found q.size before a b)
  pub behind : (k : ℕ) → 8 * q.size ≤ k → slice_index after k ≡ slice_index before k

-- the rows before and after v was eliminated: its parent in the elimination tree, the earliest of its later neighbours where it has any, took over the others
pub record Eliminates (q : Plan) (at : ℕ → ℕ) (v : ℕ) (before after : List ℕ) : Type 0 where
  pub parent : ℕ
  pub earliest : (u : ℕ) → known q before v u ≡ true → at v < at u → (known q before v parent ≡ true) × (at v < at parent) × (at parent ≤ at u)
  pub over : TakesOver q at v parent before after
