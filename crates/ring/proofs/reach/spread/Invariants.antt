use Rattle.plan.proofs.Walks.{Along}
use Rattle.ring.proofs.Queues.{Walked}
use Rattle.ring.specs.Reach.{queue}
use Rattle.ring.proofs.reach.spread.Given as goal

abbrev pub invariant-loop-w : goal.invariant-loop-w
invariant-loop-w g l =
    let p = g.P.ReadablePlan.meaning l.plan in
    let u = queue l.initial.scratch l.head in
    Along l.w-iterator.plan.now l.plan l.w-iterator.of (record { 0 = u })
    × Walked p l.v.0 (queue l.initial.scratch 0) l.head u l.size l.count l.w-iterator.last.0 l.initial.scratch l.scratch
