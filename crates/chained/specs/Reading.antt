-- What the chains of a register are asked.
use Rattle.std.specs.Prelude.{◌≡◌, ℕ, ◌+◌, ◌*◌, ◌<◌, ◌≤◌, true, false, Some, None, Option, vec_items}
use Rattle.plan.specs.Plans.{Plan}
use Rattle.plan.specs.declared.number.Junction.{Junction}
use Rattle.chained.specs.declared.register.ChainedRegister.{ChainedRegister}
use Rattle.chained.specs.Chains.{Seat}
use Rattle.chained.specs.Nodes.{next, far, owner}

-- s is the last node of v's chain with far end below w
abbrev pub SeatIn : ChainedRegister → ℕ → ℕ → ℕ → Type 0
SeatIn r v w s = Seat (r.n + 2 * r.c) (next (vec_items r.cells)) (far r.n r.c (vec_items r.cells)) (owner r.n r.c (vec_items r.cells)) v w s

-- the number of a junction that was found, 0 where none was
abbrev pub number_of : Option Junction → ℕ
number_of None = 0
number_of (Some u) = u.0

-- u is the lowest neighbour of v from w on, 0 where there is none
pub record NeighbourFrom (p : Plan) (v w u : ℕ) : Type 0 where
  pub none : u ≡ 0 → (x : ℕ) → w ≤ x → p.joins v x ≡ false
  pub from : 1 ≤ u → w ≤ u
  pub joins : 1 ≤ u → p.joins v u ≡ true
  pub least : (x : ℕ) → w ≤ x → x < u → p.joins v x ≡ false
