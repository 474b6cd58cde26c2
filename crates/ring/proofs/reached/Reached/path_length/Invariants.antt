use Rattle.std.proofs.Common.{◌≡◌, ℕ, ◌+◌, ◌<◌, ◌≤◌}
use Rattle.ring.specs.Reach.{queue, mark, back}
use Rattle.ring.proofs.reached.Reached.path_length.Given as goal

abbrev pub invariant-loop-at : goal.invariant-loop-at
invariant-loop-at g l =
    let q = queue l.self.scratch.now in
    let m = mark (g.P.ReadablePlan.meaning l.self.plan.now).size l.self.scratch.now in
    (l.at + l.length ≤ l.top)
    × (l.at ≡ back q m l.top l.length)
    × ((j : ℕ) → j < l.length → 0 < back q m l.top j)

abbrev pub decreases-loop-at : goal.decreases-loop-at
decreases-loop-at g l = l.at
