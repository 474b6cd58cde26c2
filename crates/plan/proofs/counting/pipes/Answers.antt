use Rattle.std.proofs.Common.{◌+◌, ◌-◌, ◌≤◌, arith}
use Rattle.plan.specs.Plans.{pairs}
use Rattle.plan.proofs.Counts.{pairs_few}
use Rattle.plan.proofs.Below.{pairs_next}
use Rattle.plan.proofs.counting.pipes.Goals as goal

pub overflow_add-found : goal.overflow_add-found
overflow_add-found g c =
    let few : pairs (g.P.ReadablePlan.meaning c.args.plan.now).joins ((c.loop-w.w + 1) - 1) ≤ 131072 = pairs_few (g.P.ReadablePlan.meaning c.args.plan.now).joins ((c.loop-w.w + 1) - 1) (omega (arith, c.loop-w-test.true, c.size-w-end.ensures.few)) in
    record { fits = omega (arith, few, c.loop-w.invariant, c.neighbours_below-found.ensures, pairs_next (g.P.ReadablePlan.meaning c.args.plan.now).joins c.loop-w.w c.loop-w.auto.w) }
