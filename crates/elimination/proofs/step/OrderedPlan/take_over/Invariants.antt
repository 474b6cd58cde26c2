use Rattle.std.proofs.Common.{◌-◌}
use Rattle.plan.specs.Plans.{NextNeighbour}
use Rattle.elimination.specs.Steps.{at}
use Rattle.elimination.proofs.Parents.{Taking}
use Rattle.elimination.proofs.step.OrderedPlan.take_over.Given as goal

abbrev pub invariant-loop-u : goal.invariant-loop-u
invariant-loop-u g l = (Taking (g.P.ReadablePlan.meaning l.self.plan.now) (at l.self.places.places) l.v.0 l.p.0 l.initial.rows l.last.0 l.rows l.added) × NextNeighbour (g.P.ReadablePlan.meaning l.self.plan.now) l.v.0 l.last.0 l.pipe

abbrev pub decreases-loop-u : goal.decreases-loop-u
decreases-loop-u g l = 512 - l.last.0
