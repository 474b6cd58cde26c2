-- The labels while a chosen junction's neighbours are raised, in the order of their numbers.
use Rattle.std.proofs.Common.{◌≡◌, ℕ, ◌-◌, ◌≤◌, cond, ◌&&◌, ltb, List, get_or}
use Rattle.plan.specs.Plans.{Plan}

-- the neighbours up to w are raised, and nothing else
pub record RaisedUpto {L : Type 0} (raised : L → ℕ → L) (p : Plan) (u place : ℕ) (scratch : List ℕ) (before after : List L) (w : ℕ) : Type 0 where
  pub inside : w ≤ p.size
  pub done : (v : ℕ) (d : L) → 1 ≤ v → v ≤ w → get_or after (v - 1) d ≡ cond (p.joins u v && ltb (get_or scratch (v - 1) 0) place) (raised (get_or before (v - 1) d) place) (get_or before (v - 1) d)
  pub ahead : (k : ℕ) (d : L) → w ≤ k → get_or after k d ≡ get_or before k d
