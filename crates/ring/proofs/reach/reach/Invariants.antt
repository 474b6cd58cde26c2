use Rattle.std.proofs.Common.{◌-◌, ◌*◌, ◌≤◌}
use Rattle.plan.specs.Memory.{KeptFrom}
use Rattle.ring.specs.Reach.{queue, mark, Queue, Spread}
use Rattle.ring.proofs.reach.reach.Given as goal

abbrev pub invariant-loop-head : goal.invariant-loop-head
invariant-loop-head g l =
    let p = g.P.ReadablePlan.meaning l.plan in
    (l.head ≤ l.size)
    × Queue p l.v.0 (queue l.initial.scratch 0) l.size (queue l.scratch) (mark p.size l.scratch)
    × Spread p l.v.0 l.head (queue l.scratch) (mark p.size l.scratch)
    × KeptFrom (2 * p.size) l.initial.scratch l.scratch

abbrev pub decreases-loop-head : goal.decreases-loop-head
decreases-loop-head g l = (g.P.ReadablePlan.meaning l.plan).size - l.head
