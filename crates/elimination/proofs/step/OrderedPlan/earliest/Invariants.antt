use Rattle.std.proofs.Common.{◌-◌}
use Rattle.plan.specs.Plans.{NextNeighbour}
use Rattle.elimination.specs.Steps.{known, at}
use Rattle.elimination.proofs.Neighbours.{EarliestTo}
use Rattle.elimination.proofs.step.OrderedPlan.earliest.Given as goal

abbrev pub invariant-loop-u : goal.invariant-loop-u
invariant-loop-u g l = (EarliestTo (known (g.P.ReadablePlan.meaning l.self.plan.now) l.rows) (at l.self.places.places) l.v.0 l.last.0 l.best) × NextNeighbour (g.P.ReadablePlan.meaning l.self.plan.now) l.v.0 l.last.0 l.pipe

abbrev pub decreases-loop-u : goal.decreases-loop-u
decreases-loop-u g l = 512 - l.last.0
