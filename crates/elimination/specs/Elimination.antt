-- Vertex elimination: a junction is taken out of a plan once every two of its neighbours are joined. The pairs that this joins anew are the fill.
use Rattle.std.specs.Prelude.{ℕ, ◌+◌, Bool, false, not, ◌&&◌, ◌||◌, List, [], ◌∷◌, ◌==◌}
use Rattle.plan.specs.Plans.{Plan, pairs}

-- v and w are two different neighbours of u that are not joined: eliminating u joins them
unfoldable pub new : (ℕ → ℕ → Bool) → ℕ → ℕ → ℕ → Bool
new g u v w = g u v && g u w && not (v == w) && not (g v w)

-- what is left once u is eliminated: every two of its neighbours joined, and u gone with its pipes
unfoldable pub eliminated : (ℕ → ℕ → Bool) → ℕ → ℕ → ℕ → Bool
eliminated g u v w = (g v w || new g u v w) && not (v == u) && not (w == u)

-- the fill pairs of eliminating the junctions of a list in turn
unfoldable pub fill : (ℕ → ℕ → Bool) → List ℕ → ℕ → ℕ → Bool
fill g [] v w = false
fill g (u ∷ us) v w = new g u v w || fill (eliminated g u) us v w

-- the filled graph: the pairs joined by a pipe or by fill
unfoldable pub filled : (ℕ → ℕ → Bool) → List ℕ → ℕ → ℕ → Bool
filled g us v w = g v w || fill g us v w

-- the cells of the eliminated system: the pipes in service and the fill pairs
unfoldable pub cells : Plan → List ℕ → ℕ
cells p us = pairs p.joins p.size + pairs (fill p.joins us) p.size
