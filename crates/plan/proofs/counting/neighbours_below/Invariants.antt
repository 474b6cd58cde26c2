use Rattle.plan.proofs.Walks.{Along}
use Rattle.plan.proofs.Below.{BelowTo}
use Rattle.plan.proofs.counting.neighbours_below.Given as goal

abbrev pub invariant-loop-v : goal.invariant-loop-v
invariant-loop-v g l =
    Along l.v-iterator.plan.now l.plan l.v-iterator.of l.w × BelowTo (g.P.ReadablePlan.meaning l.plan) l.w.0 l.v-iterator.last.0 l.found
