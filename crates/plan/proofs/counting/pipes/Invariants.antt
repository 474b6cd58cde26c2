use Rattle.std.proofs.Common.{◌≡◌, ◌-◌}
use Rattle.plan.specs.Plans.{pairs}
use Rattle.plan.proofs.counting.pipes.Given as goal

abbrev pub invariant-loop-w : goal.invariant-loop-w
invariant-loop-w g l = l.found ≡ pairs (g.P.ReadablePlan.meaning l.plan).joins (l.w - 1)
