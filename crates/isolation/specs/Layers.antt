-- A plan seen through a layer that has some junctions open and the others shut.
use Rattle.std.specs.Prelude.{ℕ, Bool, cond, not, ◌&&◌, [], ◌∷◌, ◌==◌}
use Rattle.plan.specs.Plans.{Plan, within}
use Rattle.plan.specs.Refusals.{Verdict, checked}
use Rattle.plan.specs.Registers.{outside}

-- in service through the layer are the junctions that are in service below and open here; its pipes are those below with both ends in service through it
abbrev pub through : Plan → (ℕ → Bool) → Plan
through p open' = record {
  size = p.size;
  serves = λ v. p.serves v && open' v;
  joins = λ v w. p.joins v w && ((p.serves v && open' v) && (p.serves w && open' w));
}

-- the checks of a shut and of an open, on a plan of n junctions
abbrev pub shut_verdict : ℕ → (ℕ → Bool) → ℕ → Verdict
shut_verdict n open' v = checked ((not (within n v), 2) ∷ (not (open' v), 15) ∷ [])

abbrev pub open_verdict : ℕ → (ℕ → Bool) → ℕ → Verdict
open_verdict n open' v = checked ((not (within n v), 2) ∷ (open' v, 16) ∷ [])

-- v marked open or shut, and nothing else
abbrev pub marked : (ℕ → Bool) → ℕ → Bool → ℕ → Bool
marked open' v b u = cond (u == v) b (open' u)

-- v and w are two different junctions, and one of them is shut
abbrev pub isolates_pair : Plan → (ℕ → Bool) → ℕ → ℕ → Bool
isolates_pair p open' v w = not (outside p v w) && not (v == w) && not (open' v && open' w)
