use Rattle.std.proofs.Common.{rules, arith}
use Rattle.elimination.specs.Steps.{at}
use Rattle.elimination.proofs.Neighbours.{known_inside, earliest_none}
use Rattle.elimination.proofs.step.OrderedPlan.earliest.Goals as goal
use Rattle.elimination.proofs.step.OrderedPlan.earliest.Goals.{then-lt, else-lt}

pub loop-u-init : goal.loop-u-init
loop-u-init g c =
    (earliest_none (g.P.ReadablePlan.meaning c.args.self.now.plan.now) (g.met.P.ReadablePlan.sound c.args.self.now.plan.now) c.args.rows.now (at c.args.self.now.places.places) c.args.v.0, c.next-pipe.ensures)

pub loop-u-smaller : goal.loop-u-smaller
loop-u-smaller g c =
    omega (arith, c.in-Some.ensures.0, (known_inside (g.P.ReadablePlan.meaning c.args.self.now.plan.now) (g.met.P.ReadablePlan.sound c.args.self.now.plan.now) c.args.rows.now c.args.v.0 c.in-Some.u.0 c.in-Some.ensures.1).1)

pub loop-u-preserved : goal.loop-u-preserved
loop-u-preserved g c = (
  elim c.if-lt.branch [ then-lt w ↦ rw w.best-is (search rules) | else-lt w ↦ rw w.best-is (search rules) ],
  c.pipe_above-pipe.ensures,
)
