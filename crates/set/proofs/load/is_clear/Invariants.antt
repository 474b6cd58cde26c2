use Rattle.set.proofs.Clears.{ClearBelow}
use Rattle.set.proofs.load.is_clear.Given as goal

abbrev pub invariant-loop-v : goal.invariant-loop-v
invariant-loop-v g l = ClearBelow (g.P.ReadablePlan.meaning l.plan) l.v
